use Rattle.std.proofs.Common.{◌≡◌, ◌++◌, List, ℕ, length, refl, sym, ap, subst, ◌∙◌, arith, rules}
use Rattle.capture.specs.Format.{IsV6}
use Rattle.capture.specs.Writing.{v6_head}
use Rattle.capture.proofs.Written.{is_v6}
use Rattle.capture.proofs.writing.v6_packet.Goals as goal

pub returns-clause-packet : goal.returns-clause-packet
returns-clause-packet c =
    let from = c.args.from.now in
    let to = c.args.to.now in
    let segment = c.args.segment.now in
    let text : c.in_ok-text.text.items ≡ v6_head (length segment) ++ (from ++ (to ++ segment)) =
    c.in_ok-text.ensures
    ∙ ap (λ (front : List ℕ). front ++ (from ++ (to ++ segment))) c.v6_head-front.ensures in
    subst (λ (t : List ℕ). IsV6 t from to segment) (sym text)
    (is_v6 (length segment) from to segment (omega arith) refl (search rules) (search rules))
