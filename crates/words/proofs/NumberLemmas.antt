-- Numbers that `clap` reads from the value of an option.
use Rattle.std.proofs.Common.{
  ◌≡◌,
  ◌∙◌,
  ◌≤◌,
  ℕ,
  Bool,
  true,
  false,
  List,
  Option,
  Some,
  None,
  Result,
  Ok,
  Err,
  refl,
  sym,
  ap,
  subst,
  cond,
  option_and_then,
}
use Rattle.std.specs.Str.Parse.{
  ExplainsUnsignedError,
  HasUnsignedDigitsIfOk,
  ParsesUnsigned,
  digits_value,
  without_leading_plus,
}
use Rattle.std.specs.declared.num.ParseIntError.{ParseIntError}
use Rattle.clap.specs.ValueTests.{is_unsigned_in}
use Rattle.clap.specs.Matches.{ReadsOne}
use Rattle.clap.specs.declared.builder.value_parser.ValueParser.TheVariants as value_parser
use Rattle.clap.proofs.ValueTestLemmas.{Accepts-accepts, accepts-Accepts}
use Rattle.words.specs.Options.{number_within}

chosen : (b : Bool) (n : ℕ) → b ≡ true → cond b (Some n) None ≡ Some n
chosen true n e = refl
chosen false n e = cc

refused : (b : Bool) (n : ℕ) → (b ≡ true → ⊥) → cond b (Some n) None ≡ None
refused true n h = absurd (h refl)
refused false n h = refl

-- what `parse` answers at a `usize`
abbrev Reads : List ℕ → Result ℕ ParseIntError → Type 0
Reads text r =
    ParsesUnsigned 64 10 text r × ExplainsUnsignedError 10 text r × HasUnsignedDigitsIfOk text r

within-in : (low high : ℕ) (text : List ℕ) (n : ℕ) → Reads text (Ok n) → low ≤ n → n ≤ high
    → number_within low high text ≡ Some n
within-in low high text n read above below =
    let value : n ≡ digits_value 10 (without_leading_plus text) = read.0.1 in
    let P : ℕ → Type 0 = λ k. low ≤ k in
    let Q : ℕ → Type 0 = λ k. k ≤ high in
    chosen (is_unsigned_in low high text) (digits_value 10 (without_leading_plus text))
    (Accepts-accepts false (value_parser.Unsigned low high) text
    (read.0.0.0, read.0.0.1, subst P value above, subst Q value below))
    ∙ ap (λ (k : ℕ). Some k) (sym value)

within-out : (low high : ℕ) (text : List ℕ) (n : ℕ) → Reads text (Ok n) → (low ≤ n → n ≤ high → ⊥)
    → number_within low high text ≡ None
within-out low high text n read out =
    let value : digits_value 10 (without_leading_plus text) ≡ n = sym read.0.1 in
    let P : ℕ → Type 0 = λ k. low ≤ k in
    let Q : ℕ → Type 0 = λ k. k ≤ high in
    refused (is_unsigned_in low high text) (digits_value 10 (without_leading_plus text))
    (λ passed. let taken = accepts-Accepts false (value_parser.Unsigned low high) text passed in
    out (subst P value taken.2) (subst Q value taken.3))

unread : (low high : ℕ) (text : List ℕ) (e : ParseIntError) → Reads text (Err e)
    → number_within low high text ≡ None
unread low high text e read =
    refused (is_unsigned_in low high text) (digits_value 10 (without_leading_plus text))
    (λ passed. let taken = accepts-Accepts false (value_parser.Unsigned low high) text passed in
    read.0 (taken.0, taken.1))

-- what `get_one` read of an option is its number: none where it read none or one that is out of the
-- range
pub option_unread : (low high : ℕ) (o : Option (List ℕ))
    → ((text : List ℕ) → o ≡ Some text → ReadsOne Reads text None)
    → None ≡ option_and_then (number_within low high) o
option_unread low high None value = refl
option_unread low high (Some text) value =
    let read = value text refl in
    sym (unread low high text read.0 read.1)

pub option_within : (low high n : ℕ) (o : Option (List ℕ)) → (o ≡ None → Some n ≡ None)
    → ((text : List ℕ) → o ≡ Some text → ReadsOne Reads text (Some n)) → low ≤ n → n ≤ high
    → Some n ≡ option_and_then (number_within low high) o
option_within low high n None none value above below = none refl
option_within low high n (Some text) none value above below =
    sym (within-in low high text n (value text refl) above below)

pub option_outside : (low high n : ℕ) (o : Option (List ℕ))
    → ((text : List ℕ) → o ≡ Some text → ReadsOne Reads text (Some n)) → (low ≤ n → n ≤ high → ⊥)
    → None ≡ option_and_then (number_within low high) o
option_outside low high n None value out = refl
option_outside low high n (Some text) value out =
    sym (within-out low high text n (value text refl) out)
