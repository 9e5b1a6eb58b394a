use Rattle.std.proofs.Common.{
  ◌≡◌,
  ◌+◌,
  ◌++◌,
  List,
  ℕ,
  length,
  refl,
  sym,
  ap,
  subst,
  ◌∙◌,
  arith,
  rules,
}
use Rattle.capture.specs.Checksum.{word_sum, IsAllOnes}
use Rattle.capture.specs.Format.{IsV4}
use Rattle.capture.specs.Writing.{v4_head}
use Rattle.capture.proofs.Written.{is_v4}
use Rattle.capture.proofs.writing.v4_packet.Goals as goal

pub returns-clause-packet : goal.returns-clause-packet
returns-clause-packet c =
    let from = c.args.from.now in
    let to = c.args.to.now in
    let segment = c.args.segment.now in
    let size = 20 + length segment in
    let sum = c.checksum-sum.result in
    let text : c.in_ok-text.text.items ≡ v4_head size sum ++ (from ++ (to ++ segment)) =
    c.in_ok-text.ensures
    ∙ ap (λ (front : List ℕ). front ++ (from ++ (to ++ segment))) c.v4_head-front.ensures in
    let of_head : c.word_sum-of_head.result ≡ word_sum (v4_head size 0) =
    c.word_sum-of_head.ensures.sum ∙ ap word_sum c.v4_head-blank.ensures in
    let of_source : c.word_sum-of_source.result ≡ word_sum from =
    c.word_sum-of_source.ensures.sum in
    let of_destination : c.word_sum-of_destination.result ≡ word_sum to =
    c.word_sum-of_destination.ensures.sum in
    let same : c.word_sum-of_head.result + c.word_sum-of_source.result
    + c.word_sum-of_destination.result + sum ≡ word_sum (v4_head size 0) + word_sum from
    + word_sum to + sum =
    omega (arith, of_head, of_source, of_destination) in
    subst (λ (t : List ℕ). IsV4 t from to segment) (sym text)
    (is_v4 size sum from to segment (omega arith) refl (search rules) (search rules) (search rules)
    (subst IsAllOnes same c.checksum-sum.ensures.ones))
