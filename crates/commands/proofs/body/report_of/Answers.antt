use Rattle.std.proofs.Common.{◌≡◌, ◌∙◌, ◌++◌, ap, sym, List, ℕ, append_assoc, rules}
use Rattle.commands.proofs.body.report_of.Goals as goal

pub pieces-preserved : goal.pieces-preserved
pieces-preserved c =
    let before = c.pieces.invariant in
    let fed = before.0 in
    let piece = c.split_at.result.0.now in
    let behind = c.split_at.result.1.now in
    let parts : c.pieces.rest.now ≡ piece ++ behind = search rules in (
      fed ++ piece,
      before.1 ∙ (ap (λ (b : List ℕ). fed ++ b) parts ∙ sym (append_assoc fed piece behind)),
      c.in_ok-feed.ensures fed (before.2.0, before.2.1),
    )
