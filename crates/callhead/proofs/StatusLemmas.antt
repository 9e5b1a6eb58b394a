-- The number that the first digits of a numeral name is not over the one that all of them do; and
-- the text of no bytes.
use Rattle.std.proofs.Common.{
  ◌≡◌,
  ℕ,
  zero,
  suc,
  ◌+◌,
  ◌-◌,
  ◌<◌,
  ◌≤◌,
  List,
  [],
  length,
  take,
  get_or,
  slice_index,
  arith,
}
use Rattle.std.specs.Str.Parse.{digits_value}
use Rattle.std.proofs.lemmas.Int.Digits.{digits_value_more}
use Rattle.std.proofs.lemmas.List.{take_all}
use Rattle.std.proofs.lemmas.Str.{IsUtf8-from_ascii}
use Rattle.percent_encoding.specs.Percent.{percent_encode}
use Rattle.callhead.specs.StatusTexts.{text_of}
use Rattle.callhead.proofs.Escapes.{read_again}

value_grows : (digits : List ℕ) (i k : ℕ) → i + k ≤ length digits
    → digits_value 10 (take i digits) ≤ digits_value 10 (take (i + k) digits)
value_grows digits i zero within =
    let same : i + 0 ≡ i = omega arith in
    rw same (omega arith)
value_grows digits i (suc k) within =
    let same : i + suc k ≡ (i + k) + 1 = omega arith in
    let more = digits_value_more 10 digits (i + k) (omega arith) in
    let so_far = value_grows digits i k (omega arith) in
    rw same (omega arith)

pub value_of_first : (digits : List ℕ) (i : ℕ) → i ≤ length digits
    → digits_value 10 (take i digits) ≤ digits_value 10 digits
value_of_first digits i within =
    let whole : i + (length digits - i) ≡ length digits = omega arith in
    let grows = value_grows digits i (length digits - i) (omega arith) in
    rw (whole, take_all (length digits) digits (omega arith)) at grows

pub empty_text : text_of [] ≡ []
unfolding percent_encode
empty_text =
    let small : (i : ℕ) → slice_index [] i < 256 = λ i. omega arith in
    let ascii : (i : ℕ) → get_or [] i 0 < 128 = λ i. omega arith in
    read_again [] small (IsUtf8-from_ascii [] ascii)
