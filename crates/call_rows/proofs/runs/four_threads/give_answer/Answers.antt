use Rattle.std.proofs.Common.{ℕ, List, ◌++◌, ◌∷◌, [], subst, ap, ◌∙◌}
use mathlib.Core.List.{IsPrefix}
use Rattle.account.specs.declared.call.OutItem.{OutItem}
use Rattle.account.specs.declared.call.OutItem.TheVariants.{Head}
use Rattle.call_rows.specs.Runs.{answer_items}
use Rattle.call_rows.proofs.RunLemmas.{front_none, front_some}
use Rattle.call_rows.proofs.runs.four_threads.give_answer.Goals as goal

pub returns-in-Err-clause-given : goal.returns-in-Err-clause-given
returns-in-Err-clause-given g c =
    front_none (g.L.Lane.put_in c.head.new.self.tx) c.args.answer.head c.args.answer.trailers
    c.args.answer.messages.items (c.in-Err.ensures.unchanged ∙ c.requires.first)

pub returns-then-not-give_messages-clause-given : goal.returns-then-not-give_messages-clause-given
returns-then-not-give_messages-clause-given g c =
    let old = g.L.Lane.put_in c.head.new.self.tx in
    let put = g.L.Lane.put_in c.give_messages.new.giver.tx in
    let head = c.args.answer.head in
    let begun =
    c.in-Ok.ensures.ok ∙ ap (λ (items : List OutItem). items ++ Head head ∷ []) c.requires.first in
    let given = c.give_messages.ensures.given in
    subst (λ (messages : List (List ℕ)).
    IsPrefix put (answer_items head messages c.args.answer.trailers)) c.as_slice.ensures.value
    (front_some put old head c.args.answer.trailers c.as_slice.result.now given.0 begun given.1)
