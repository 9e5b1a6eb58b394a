-- The static table is what the code's table refers to.
use Rattle.std.proofs.Common.{
  ◌≡◌,
  ℕ,
  zero,
  suc,
  ◌+◌,
  ◌-◌,
  ◌<◌,
  List,
  [],
  ◌∷◌,
  length,
  map,
  get_or,
  refl,
  arith,
  Some,
  slice_get,
  Bor,
  ap,
  ◌∙◌,
}
use Rattle.lists.specs.declared.field.Field.{Field}
use Rattle.hpack_codec.specs.StaticTable.{static_table, entry}
use Rattle.hpack_codec.specs.declared.table_match.TableMatch.TheVariants.{Name}
use Rattle.hpack_codec.specs.Reading.{IsStatic}

abbrev pub Pair : Type 0
Pair = Bor (List ℕ) × Bor (List ℕ)

abbrev pub entry_of : Pair → Field
entry_of pair = entry pair.0.now pair.1.now

pub get-map : (pairs : List Pair) (place : ℕ) (d : Pair) → place < length pairs
    → slice_get (map entry_of pairs) place ≡ Some (entry_of (get_or pairs place d))
get-map [] place d h = absurd (omega arith)
get-map (pair ∷ pairs) zero d h = refl
get-map (pair ∷ pairs) (suc place) d h = get-map pairs place d (omega (arith, h))

pub name_found : (place : ℕ) (first second name_bytes value_bytes : List ℕ) → place < 61
    → slice_get static_table place ≡ Some (entry first second) → first ≡ name_bytes
    → IsStatic (Name (place + 1)) name_bytes value_bytes
name_found place first second name_bytes value_bytes h is same = (
  second,
  omega arith,
  omega arith,
  ap (slice_get static_table) (let e : place + 1 - 1 ≡ place = omega arith in e) ∙ is
      ∙ ap (λ (octets : List ℕ). Some (entry octets second)) same,
)
