use Rattle.std.proofs.Common.{
  ℕ,
  ◌≡◌,
  ◌+◌,
  ◌<◌,
  ◌≤◌,
  ◌∙◌,
  List,
  length,
  drop,
  replicate,
  ap,
  subst,
  arith,
}
use Rattle.std.proofs.lemmas.List.{drop_more, drop_all}
use Rattle.zeros.specs.Marks.{AreZerosOutside}
use Rattle.zeros.specs.declared.marks.Span.{Span}
use Rattle.zeros.proofs.Wiped.{all_zeros}
use Rattle.zeros.proofs.marks.wipe_spans.Goals as goal

pub loop-place-preserved : goal.loop-place-preserved
loop-place-preserved c =
    let spans = c.args.spans.now in
    let within : c.loop-place.place < length spans = omega arith in
    c.wipe_span.ensures.wiped (drop (c.loop-place.place + 1) spans) (subst
    (λ (l : List Span). AreZerosOutside l c.loop-place.bytes)
    (drop_more spans c.loop-place.place _ within) c.loop-place.invariant)

pub returns : goal.returns
returns c =
    let spans = c.args.spans.now in
    let past : length spans ≤ c.loop-place.place = omega arith in
    let long : length c.loop-place.bytes ≡ length c.args.bytes.now = cc in
    all_zeros c.loop-place.bytes (subst (λ (l : List Span). AreZerosOutside l c.loop-place.bytes)
    (drop_all c.loop-place.place spans past) c.loop-place.invariant)
    ∙ ap (λ (n : ℕ). replicate n 0) long
