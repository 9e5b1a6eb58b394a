use Rattle.std.proofs.Common.{
  ◌≡◌,
  ◌+◌,
  ◌≤◌,
  ◌++◌,
  length,
  take,
  drop,
  ap,
  subst,
  sym,
  ◌∙◌,
  arith,
  ℕ,
}
use Rattle.std.proofs.lemmas.List.{take-append-drop}
use Rattle.capture.specs.Fields.{le32_at}
use Rattle.capture.specs.Reading.{HasItsSize}
use Rattle.capture.proofs.Records.{first_of_size, size_of_first}
use Rattle.capture.proofs.reading.first_record.Goals as goal

-- a first record is no longer than the bytes
pub returns-then-bytes-size-clause-none : goal.returns-then-bytes-size-clause-none
returns-then-bytes-size-clause-none c = λ first rest parts has.
    let sizes = size_of_first c.args.bytes.now first rest parts has in
    omega (arith, sizes.2, c.le32_at.ensures)

-- as many bytes as the head says
pub returns-clause-some : goal.returns-clause-some
returns-clause-some c =
    let bytes = c.args.bytes.now in
    let number : c.le32_at.result ≡ le32_at bytes 8 = c.le32_at.ensures in
    let fits : 16 + le32_at bytes 8 ≤ length bytes = omega (arith, number) in
    let front : c.split_at.result.0.now ≡ take (16 + le32_at bytes 8) bytes =
    c.split_at.ensures.front ∙ ap (λ (n : ℕ). take (16 + n) bytes) number in
    let back : c.split_at.result.1.now ≡ drop (16 + le32_at bytes 8) bytes =
    c.split_at.ensures.back ∙ ap (λ (n : ℕ). drop (16 + n) bytes) number in
    let whole = take-append-drop (16 + le32_at bytes 8) bytes in
    let parts : bytes ≡ c.split_at.result.0.now ++ c.split_at.result.1.now =
    cc (front, back, whole) in
    (parts, subst HasItsSize (sym front) (first_of_size bytes (omega arith) fits))
