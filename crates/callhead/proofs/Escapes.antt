-- What the set of escaped bytes makes of a text is the text that the definition gives.
use Rattle.std.proofs.Common.{
  ◌≡◌,
  ℕ,
  suc,
  ◌/◌,
  ◌%◌,
  ◌<◌,
  Bool,
  true,
  false,
  not,
  cond,
  List,
  [],
  ◌∷◌,
  ◌++◌,
  slice_index,
  IsUtf8,
  refl,
  ap,
  ◌∙◌,
  arith,
}
use Rattle.std.specs.List.{flat_map}
use Rattle.std.proofs.lemmas.Bool.{agree_below, agree_below_at}
use Rattle.std.proofs.lemmas.Str.{utf8_lossy-IsUtf8}
use Rattle.std.proofs.lemmas.List.Elements.{All-from_get_or}
use Rattle.std.specs.Str.Lossy.{utf8_lossy}
use Rattle.percent_encoding.specs.AsciiSet.{contains, should_percent_encode}
use Rattle.percent_encoding.specs.Percent.{percent_encode_byte, encode_byte, percent_encode}
use Rattle.percent_encoding.proofs.PercentLemmas.{IsByte, round_trip}
use Rattle.callhead.specs.declared.percent.TheConstants.{ESCAPED}
use Rattle.callhead.specs.StatusTexts.{
  stands_for_itself,
  upper_case_digit,
  percent_byte,
  percent_text,
  text_of,
}

pub percent_escaped : contains ESCAPED 0x25 ≡ true
percent_escaped = refl

escaped_table :
    agree_below (should_percent_encode ESCAPED) (λ byte. not (stands_for_itself byte)) 256
    ≡ true
unfolding should_percent_encode
escaped_table = refl

escape_is : (byte : ℕ) → byte < 256
    → percent_encode_byte byte
    ≡ 0x25 ∷ upper_case_digit (byte / 16) ∷ upper_case_digit (byte % 16) ∷ []
unfolding percent_encode_byte
escape_is byte small =
    let high : byte / 16 % 16 ≡ byte / 16 = omega arith in
    ap (λ (digit : ℕ). 0x25 ∷ upper_case_digit digit ∷ upper_case_digit (byte % 16) ∷ []) high

chosen : (test stands : Bool) (byte : ℕ) (escape other : List ℕ) → test ≡ not stands
    → escape ≡ other → cond test escape (byte ∷ []) ≡ cond stands (byte ∷ []) other
chosen test true byte escape other e same = rw e refl
chosen test false byte escape other e same = rw e same

byte_is : (byte : ℕ) → byte < 256 → encode_byte ESCAPED byte ≡ percent_byte byte
byte_is byte small =
    chosen _ _ byte _ _ (agree_below_at (should_percent_encode ESCAPED)
    (λ b. not (stands_for_itself b)) 256 byte escaped_table small) (escape_is byte small)

pub percent_text_is : (bytes : List ℕ) → ((i : ℕ) → slice_index bytes i < 256)
    → percent_encode ESCAPED bytes ≡ percent_text bytes
unfolding percent_encode percent_text
percent_text_is [] small = refl
percent_text_is (byte ∷ bytes) small =
    let here = byte_is byte (small 0) in
    let behind : flat_map (encode_byte ESCAPED) bytes ≡ flat_map percent_byte bytes =
    percent_text_is bytes (λ i. small (suc i)) in
    ap (λ (front : List ℕ). front ++ flat_map (encode_byte ESCAPED) bytes) here
    ∙ ap (λ (b : List ℕ). percent_byte byte ++ b) behind

pub read_again : (bytes : List ℕ) → ((i : ℕ) → slice_index bytes i < 256) → IsUtf8 bytes
    → text_of (percent_encode ESCAPED bytes) ≡ bytes
unfolding text_of
read_again bytes small utf8 =
    ap utf8_lossy (round_trip ESCAPED bytes percent_escaped
    (All-from_get_or IsByte bytes 0 (λ i within. small i)))
    ∙ utf8_lossy-IsUtf8 bytes utf8
