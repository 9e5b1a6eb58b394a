use Rattle.std.proofs.Common.{◌≡◌, true, List, ℕ, subst, ◌∙◌, rules}
use mathlib.Core.List.{IsPrefix}
use Rattle.callbox.specs.InSides.{pieces_of}
use Rattle.call_rows.proofs.RunLemmas.{fed_front, fed_all}
use Rattle.call_rows.proofs.runs.four_threads.feed_half.Goals as goal

pub returns-then-not-branch-clause-fed : goal.returns-then-not-branch-clause-fed
returns-then-not-branch-clause-fed g c =
    let put = g.L.Lane.put_in c.feed_pieces.new.feeder.tx in
    let some = c.in_ok-feed_pieces.ensures.some in
    subst (λ (pieces : List (List ℕ)). IsPrefix (pieces_of put) pieces) c.as_slice.ensures.value
    (fed_front put c.as_slice.result.now some.0 some.1)

pub returns-clause-fed : goal.returns-clause-fed
returns-clause-fed g c =
    let put = g.L.Lane.put_in c.feed_pieces.new.feeder.tx in
    let all : c.in_ok-feed_pieces.field-0 ≡ true = search rules in (
      fed_all (g.L.Lane.was_placed c.shut_by.result.shut) put
          (g.L.Lane.put_shut c.shut_by.result.shut) c.args.request.shut c.as_slice.result.now
          c.shut_by.ensures.put (c.in_ok-feed_pieces.ensures.all all)
          ∙ c.as_slice.ensures.value,
      c.shut_by.ensures.kind,
    )
