use Rattle.std.proofs.Common.{◌∙◌, [], ◌∷◌, ◌++◌, ap, sym}
use Rattle.std.proofs.lemmas.List.{append_assoc}
use Rattle.std.specs.Option.{option_to_list}
use Rattle.lane.specs.Ring.{put_in}
use Rattle.connection.proofs.Backlog.{placed-so}
use Rattle.connection.proofs.orders.Orders.put_first.Goals as goal

pub returns-in-Some-clause-put : goal.returns-in-Some-clause-put
returns-in-Some-clause-put g c =
    let popped =
    c.pop_front.ensures.items
    ∙ ap (λ found. option_to_list found ++ c.pop_front.new.self.items) c.in-Some.is in
    ap (λ put. put ++ c.pop_front.new.self.items)
    (placed-so c.put.result (c.put.ensures.succeeds c.requires.room) c.put.ensures.ok)
    ∙ (append_assoc (put_in c.args.self.now.outbox.tx) (c.in-Some.order ∷ [])
    c.pop_front.new.self.items
    ∙ ap (λ back. put_in c.args.self.now.outbox.tx ++ back) (sym popped))
