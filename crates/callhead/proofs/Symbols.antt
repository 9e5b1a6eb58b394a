-- Base64 has neither a comma nor a padding sign among its symbols.
use Rattle.std.proofs.Common.{
  ◌≡◌,
  ◌≢◌,
  ℕ,
  ◌+◌,
  ◌*◌,
  ◌/◌,
  ◌%◌,
  Bool,
  true,
  not,
  ◌==◌,
  List,
  [],
  ◌∷◌,
  slice_index,
  refl,
  arith,
  inl,
  inr,
}
use Rattle.std.proofs.lemmas.Bool.{cases_lt, eqb-false, not-true}
use Rattle.std.proofs.lemmas.List.{get_or_past, append-nil}
use Rattle.base64.specs.Tables.{all_below}
use Rattle.base64.proofs.Tables.{all_below_at}
use Rattle.base64.specs.Rfc4648.{encode_symbols}
use Rattle.base64.specs.Engines.{standard, standard_no_pad}
use Rattle.base64.specs.GeneralPurpose.{encode_of}
use Rattle.callhead.specs.BinValues.{alphabet, unpadded, padded}
use Rattle.callhead.specs.Parts.{IsWithout}

-- a mark that no symbol is, and the 0 past the alphabet neither
abbrev no_symbol : ℕ → ℕ → Bool
no_symbol mark k = not (slice_index alphabet k == mark)

pub IsMark : ℕ → Type 0
IsMark mark = (k : ℕ) → slice_index alphabet k ≢ mark

mark_from : (mark : ℕ) → all_below (no_symbol mark) 64 ≡ true → 0 ≢ mark → IsMark mark
unfolding IsMark
mark_from mark table other k = elim (cases_lt k 64) [
  | inl lt ↦
      eqb-false (slice_index alphabet k) mark
      (not-true (slice_index alphabet k == mark) (all_below_at (no_symbol mark) 64 k table lt))
  | inr ge ↦ rw (get_or_past alphabet k 0 ge) other
]

pub comma_is_mark : IsMark 0x2C
comma_is_mark = mark_from 0x2C refl (λ e. absurd (omega arith))

pub sign_is_mark : IsMark 0x3D
sign_is_mark = mark_from 0x3D refl (λ e. absurd (omega arith))

symbols_without : (mark : ℕ) → IsMark mark → (bytes : List ℕ)
    → IsWithout mark (encode_symbols alphabet bytes)
unfolding IsMark encode_symbols
symbols_without mark is [] = tt
symbols_without mark is (a ∷ []) = (is (a / 4), (is (a % 4 * 16), tt))
symbols_without mark is (a ∷ b ∷ []) =
    (is (a / 4), (is (a % 4 * 16 + b / 16), (is (b % 16 * 4), tt)))
symbols_without mark is (a ∷ b ∷ c ∷ bytes) = (
  is (a / 4),
  (
    is (a % 4 * 16 + b / 16),
    (is (b % 16 * 4 + c / 64), (is (c % 64), symbols_without mark is bytes)),
  ),
)

pub unpadded_without : (mark : ℕ) → IsMark mark → (bytes : List ℕ) → IsWithout mark (unpadded bytes)
unfolding unpadded
unpadded_without mark is bytes = symbols_without mark is bytes

pub unpadded_is : (bytes : List ℕ) → encode_of standard_no_pad bytes ≡ unpadded bytes
unfolding unpadded
unpadded_is bytes = append-nil (encode_symbols alphabet bytes)

pub padded_is : (bytes : List ℕ) → encode_of standard bytes ≡ padded bytes
unfolding unpadded padded
padded_is bytes = refl
