-- The items of cells that are known to hold one.
use Rattle.std.proofs.Common.{
  ◌≡◌,
  ℕ,
  List,
  [],
  ◌∷◌,
  ◌++◌,
  length,
  take,
  drop,
  sym,
  ◌∙◌,
  ap,
  refl,
  true,
  arith,
  length-append,
  Option,
  None,
  Some,
}
use Rattle.std.proofs.lemmas.List.{take-append-drop}
use Rattle.std.proofs.lemmas.Grind.{flat_map-append}
use Rattle.std.specs.Option.{option_copied, MatchOption}
use denote.Bor.{Bor}
use mathlib.Core.List.{IsPrefix}
use Rattle.lane.specs.Notes.{known_item, holds_item}
use Rattle.lane.specs.KnownCells.{item_of, items_of}
use Rattle.lane.specs.Lawful.{last_of}
use Rattle.lane.specs.declared.row_lane.known_cell.KnownCell.{KnownCell}

length_known_item : {T : Type 0} → (k : Option (Option T)) → holds_item k ≡ true
    → length (known_item k) ≡ 1
length_known_item None h = cc
length_known_item (Some None) h = cc
length_known_item (Some (Some item)) h = refl

-- each cell has one item
pub length_items_of : {T : Type 0} → (all : List (KnownCell T)) → length (items_of all) ≡ length all
length_items_of [] = refl
length_items_of (known ∷ rest) =
    omega (
      arith,
      length-append (item_of known) (items_of rest),
      length_known_item known.note.known known.holds,
      length_items_of rest,
    )

-- the items of the first cells begin the items of all
pub prefix_of_known : {T : Type 0} → (front all : List (KnownCell T)) (n : ℕ)
    → items_of front ≡ items_of (take n all) → IsPrefix (items_of front) (items_of all)
prefix_of_known {T} front all n same = (
  items_of (drop n all),
  ap (λ (items : List T). items ++ items_of (drop n all)) same
      ∙ (sym (flat_map-append item_of (take n all) (drop n all))
      ∙ ap (λ (known : List (KnownCell T)). items_of known) (take-append-drop n all)),
)

pub last_of_push : {T : Type 0} → (items : List T) (item : T)
    → last_of (items ++ item ∷ []) ≡ Some item
last_of_push [] item = refl
last_of_push (first ∷ []) item = refl
last_of_push (first ∷ next ∷ items) item = last_of_push (next ∷ items) item

-- without a last item there is none
none_last : {T : Type 0} → (items : List T) → last_of items ≡ None → items ≡ []
none_last [] e = refl
none_last (item ∷ []) e = absurd cc
none_last (item ∷ next ∷ items) e = let none = none_last (next ∷ items) e in absurd cc

-- what is lent of the item that is kept
pub lent_last : {T : Type 0} → (lent : Option (Bor T)) (kept : Option T) (items : List T)
    → option_copied lent ≡ kept → kept ≡ last_of items
    → MatchOption lent (items ≡ []) (λ r. last_of items ≡ Some r.now)
lent_last None kept items is last = none_last items (sym last ∙ sym is)
lent_last (Some r) kept items is last = sym last ∙ sym is

items_of_push : {T : Type 0} → (front all : List (KnownCell T)) (last : KnownCell T) (item : T)
    → all ≡ front ++ last ∷ [] → item_of last ≡ item ∷ []
    → items_of all ≡ items_of front ++ item ∷ []
items_of_push {T} front all last item is has =
    ap (λ (known : List (KnownCell T)). items_of known) is
    ∙ flat_map-append item_of front (last ∷ [])
    ∙ ap (λ (items : List T). items_of front ++ (items ++ [])) has

-- an item more
pub one_more : {T : Type 0} → (front all : List (KnownCell T)) (last same : KnownCell T) (item : T)
    → all ≡ front ++ last ∷ [] → item_of same ≡ item_of last → item_of same ≡ item ∷ []
    → items_of all ≡ items_of front ++ item ∷ []
one_more front all last same item is known has =
    items_of_push front all last item is (sym known ∙ has)

-- the last item once more
pub last_again : {T : Type 0}
    → (front all put : List (KnownCell T)) (last kept same : KnownCell T) (item : T)
    → all ≡ front ++ last ∷ [] → put ≡ front ++ kept ∷ [] → item_of kept ≡ item_of last
    → item_of same ≡ item_of last → item_of same ≡ item ∷ []
    → (items_of put ≡ items_of all) × (last_of (items_of all) ≡ Some item)
last_again {T} front all put last kept same item is after kept_same known has =
    let more = one_more front all last same item is known has in (
      items_of_push front put kept item after (kept_same ∙ sym known ∙ has) ∙ sym more,
      ap (λ (items : List T). last_of items) more ∙ last_of_push (items_of front) item,
    )
