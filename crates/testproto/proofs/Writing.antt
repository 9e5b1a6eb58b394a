-- Fields that are written one after another.
use Rattle.std.proofs.Common.{
  ◌≡◌,
  ℕ,
  ◌+◌,
  ◌<◌,
  ◌≤◌,
  List,
  ◌++◌,
  map,
  length,
  get_or,
  Option,
  Some,
  None,
  IfNone,
  take,
  drop,
  sym,
  ap,
  ◌∙◌,
  append_assoc,
  arith,
  zero-add,
}
use Rattle.std.proofs.lemmas.List.{
  length-append,
  length-map,
  take-append-drop,
  take-map,
  get_or-map,
}
use Rattle.std.proofs.lemmas.List.Folds.{length-flat_map-take}
use Rattle.std.proofs.Math.Seq.{take-append_seam, take-length}
use Rattle.std.proofs.lemmas.Grind.{flat_map-append}
use Rattle.pbwire.specs.Fields.{Field}
use Rattle.pbwire.specs.Spelling.{spelling_of, spelling_of_all}
use Rattle.testproto.specs.Canonical.{message_field, repeated_fields}

pub chain : (old x y : List ℕ) (xs ys : List Field) → x ≡ old ++ spelling_of_all xs
    → y ≡ x ++ spelling_of_all ys → y ≡ old ++ spelling_of_all (xs ++ ys)
chain old x y xs ys before more =
    more ∙ ap (λ (t : List ℕ). t ++ spelling_of_all ys) before
    ∙ append_assoc old (spelling_of_all xs) (spelling_of_all ys)
    ∙ ap (λ (t : List ℕ). old ++ t) (sym (flat_map-append spelling_of xs ys))

pub chain_len : (start m n : ℕ) (xs ys : List Field) → m ≡ start + length (spelling_of_all xs)
    → n ≡ m + length (spelling_of_all ys) → n ≡ start + length (spelling_of_all (xs ++ ys))
chain_len start m n xs ys before more =
    omega (
      arith,
      before,
      more,
      length-append (spelling_of_all xs) (spelling_of_all ys),
      ap length (flat_map-append spelling_of xs ys),
    )

pub from_zero : (n k : ℕ) → n ≡ 0 + k → n ≡ k
from_zero n k e = e ∙ zero-add k

pub len_append : (xs ys : List Field)
    → length (spelling_of_all (xs ++ ys))
    ≡ length (spelling_of_all xs) + length (spelling_of_all ys)
len_append xs ys =
    ap length (flat_map-append spelling_of xs ys)
    ∙ length-append (spelling_of_all xs) (spelling_of_all ys)

-- so many parts, and then one that is too long
pub too_long_part : {M : Type 0} (fields_of : M → List Field) (number total size i most : ℕ)
    (messages : List M) (d : M)
    → i < length messages
    → size ≡ total + length (spelling_of_all (repeated_fields fields_of number (take i messages)))
    → most ≤ size + length (spelling_of (message_field fields_of number (get_or messages i d)))
    → most ≤ total + length (spelling_of_all (repeated_fields fields_of number messages))
too_long_part fields_of number total size i most messages d here is too_long =
    let field = message_field fields_of number in
    let fields = map field messages in
    let within : i < length fields = rw (length-map messages field) here in
    let longer = length-flat_map-take spelling_of fields i (field d) within in
    let longer_here : length (spelling_of_all (repeated_fields fields_of number (take i messages)))
    + length (spelling_of (field (get_or messages i d))) ≤ length (spelling_of_all fields) =
    rw (take-map field i messages, get_or-map field messages i d (field d) here) at longer in
    omega (arith, is, too_long, longer_here)

pub if_none : {T : Type 0} (o : Option T) {P : Type 0} → P → IfNone o P
if_none None p = p
if_none (Some x) p = tt

-- ---- what a buffer had stays at its beginning

pub kept_append : (old new more : List ℕ) → new ≡ old ++ more → take (length old) new ≡ old
kept_append old new more e = ap (λ (t : List ℕ). take (length old) t) e ∙ take-append_seam old more

pub kept_same : (old new : List ℕ) → new ≡ old → take (length old) new ≡ old
kept_same old new e = ap (λ (t : List ℕ). take (length old) t) e ∙ take-length old

pub kept_trans : (old x new : List ℕ) → take (length old) x ≡ old → take (length x) new ≡ x
    → take (length old) new ≡ old
kept_trans old x new before more =
    let new_is : new ≡ x ++ drop (length x) new =
    sym (take-append-drop (length x) new) ∙ ap (λ (t : List ℕ). t ++ drop (length x) new) more in
    let x_is : x ≡ old ++ drop (length old) x =
    sym (take-append-drop (length old) x) ∙ ap (λ (t : List ℕ). t ++ drop (length old) x) before in
    kept_append old new (drop (length old) x ++ drop (length x) new)
    (new_is ∙ ap (λ (t : List ℕ). t ++ drop (length x) new) x_is
    ∙ append_assoc old (drop (length old) x) (drop (length x) new))
