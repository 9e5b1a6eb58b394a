-- Fronts of a text and of bytes that were compared.
use Rattle.std.proofs.Common.{
  ◌≡◌,
  ℕ,
  ◌≤◌,
  ◌⊎◌,
  List,
  [],
  length,
  take,
  drop,
  sym,
  ap,
  ◌∙◌,
  arith,
  inl,
  inr,
  length-drop,
  min,
}
use Rattle.std.proofs.lemmas.Bool.{cases_lt}
use Rattle.std.proofs.lemmas.List.{take-append-le, take-append-drop, nil_from_length}
use Rattle.session.specs.Prefaces.{Departs, Brings}

-- where the fronts of one length differ, nothing that follows makes the bytes begin with the text
pub departs_at : (text bytes front came : List ℕ) (len : ℕ) → len ≡ min (length text) (length bytes)
    → front ≡ take len text → came ≡ take len bytes → (came ≡ front → ⊥) → Departs text bytes
departs_at text bytes front came len least f g differ more behind e =
    let in_text : len ≤ length text = omega (arith, least) in
    let in_bytes : len ≤ length bytes = omega (arith, least) in
    differ (g ∙ sym (take-append-le len bytes more in_bytes) ∙ ap (take len) e
    ∙ take-append-le len text behind in_text ∙ sym f)

left : (text bytes : List ℕ) (len : ℕ) → len ≡ min (length text) (length bytes)
    → (drop len text ≡ []) ⊎ (drop len bytes ≡ [])
left text bytes len least =
    elim (cases_lt (length bytes) (length text)) [
      | inl lt ↦
          inr (nil_from_length (drop len bytes) (omega (arith, length-drop len bytes, least, lt)))
      | inr le ↦
          inl (nil_from_length (drop len text) (omega (arith, length-drop len text, least, le)))
    ]

pub brings_front : (text bytes front came still rest : List ℕ) (len : ℕ)
    → len ≡ min (length text) (length bytes) → front ≡ take len text → still ≡ drop len text
    → came ≡ take len bytes → rest ≡ drop len bytes → came ≡ front → Brings text bytes still rest
brings_front text bytes front came still rest len least f s g r same =
    record {
      came = came;
      taken = rw (g, r) (sym (take-append-drop len bytes));
      left = rw (same, f, s) (sym (take-append-drop len text));
      whole = rw (s, r) (left text bytes len least);
    }
