-- The items of lines.
use Rattle.std.proofs.Common.{
  ◌≡◌,
  List,
  [],
  ◌∷◌,
  ◌++◌,
  length,
  refl,
  sym,
  ap,
  ◌∙◌,
  append_assoc,
  arith,
}
use Rattle.std.proofs.lemmas.List.{append-nil}
use Rattle.trace.specs.declared.item.Item.{Item}
use Rattle.trace.specs.declared.line.Line.{Line}
use Rattle.trace.specs.Lines.{items_of}

pub items_of_push : (lines : List Line) (line : Line)
    → items_of (lines ++ line ∷ []) ≡ items_of lines ++ line.item ∷ []
items_of_push [] line = refl
items_of_push (first ∷ lines) line =
    ap (λ (items : List Item). first.item ∷ items) (items_of_push lines line)

-- one more item has its line
pub one_more : (lines : List Line) (line : Line) (yielded : List Item) → items_of lines ≡ yielded
    → items_of (lines ++ line ∷ []) ≡ yielded ++ line.item ∷ []
one_more lines line yielded so =
    items_of_push lines line ∙ ap (λ (items : List Item). items ++ line.item ∷ []) so

-- what was yielded and what is left are all, after one more too
pub parts_more : (yielded rest behind all : List Item) (item : Item) → yielded ++ rest ≡ all
    → rest ≡ item ∷ behind → (yielded ++ item ∷ []) ++ behind ≡ all
parts_more yielded rest behind all item whole next =
    append_assoc yielded (item ∷ []) behind
    ∙ ap (λ (r : List Item). yielded ++ r) (sym next) ∙ whole

pub all_yielded : (yielded rest all : List Item) → yielded ++ rest ≡ all
    → length rest ≡ 0 → yielded ≡ all
all_yielded yielded [] all whole none = sym (append-nil yielded) ∙ whole
all_yielded yielded (item ∷ rest) all whole none = absurd (omega (arith, none))
