-- Names of known failures, and lines one after another.
use Rattle.std.proofs.Common.{
  ◌≡◌,
  ◌≢◌,
  ◌∙◌,
  ◌++◌,
  ◌+◌,
  ◌<◌,
  ap,
  sym,
  subst,
  refl,
  inl,
  inr,
  arith,
  Bool,
  true,
  false,
  cond,
  List,
  drop,
  Option,
  Some,
  None,
  ℕ,
  suc,
  zero,
  [],
  ◌∷◌,
  Bor,
  find,
  length,
  map,
  take,
  get_or,
  string_bytes,
  option_map,
  is_some,
  ◌==◌,
}
use Rattle.std.specs.Prelude.{Contains}
use Rattle.std.specs.List.{cons_option}
use Rattle.std.proofs.lemmas.List.{
  append-nil,
  length-map,
  length-take-le,
  map-append,
  map_push,
  take_more,
}
use Rattle.std.proofs.Math.Seq.{split_at}
use Rattle.std.proofs.lemmas.List.Elements.{
  Contains-append_cases,
  Contains-append_left,
  Contains-append_right,
  filter_map-append,
}
use Rattle.std.proofs.lemmas.Option.{none-some}
use Rattle.std.proofs.lemmas.Slice.Eq.{bytes_eq-Decides}
use Rattle.results.specs.KnownList.{
  AreGood,
  AreGoodAfter,
  Entry,
  Explains,
  IsFaultOf,
  IsRightAfter,
  IsWrongAfter,
  entries,
  entry,
  entry_of,
  has_name,
  names,
}
use Rattle.results.specs.declared.known_failure.KnownFailure.{KnownFailure}
use Rattle.results.specs.declared.known_failure.KnownFault.{KnownFault}
use Rattle.results.specs.declared.known_failure.KnownFault.TheVariants.{BadLine, OutOfMemory}

pub contains_one : (x y : List ℕ) → Contains (x ∷ []) y → x ≡ y
contains_one x y (zero, lt, e) = e
contains_one x y (suc k, lt, e) = absurd (omega arith)

named_at : (first : KnownFailure) (all : List KnownFailure) (name : List ℕ)
    (known : KnownFailure) (b : Bool)
    → has_name name first ≡ b
    → cond b (Some first) (find (has_name name) all) ≡ Some known
    → (find (has_name name) all ≡ Some known → Contains (names (map entry all)) name)
    → Contains (names (map entry (first ∷ all))) name
named_at first all name known true same found later =
    Contains-append_left (string_bytes first.name ∷ []) (names (map entry all)) name
    (0, omega arith, (bytes_eq-Decides (string_bytes first.name) name).0 same)
named_at first all name known false same found later =
    Contains-append_right (string_bytes first.name ∷ []) (names (map entry all)) name (later found)

-- a name that was found is one of the names
pub named_some : (all : List KnownFailure) (name : List ℕ) (known : KnownFailure)
    → find (has_name name) all ≡ Some known → Contains (names (map entry all)) name
named_some [] name known found = absurd (none-some known found)
named_some (first ∷ all) name known found =
    named_at first all name known (has_name name first) refl found (named_some all name known)

unnamed_at : (first : KnownFailure) (all : List KnownFailure) (name : List ℕ) (b : Bool)
    → has_name name first ≡ b
    → cond b (Some first) (find (has_name name) all) ≡ None
    → (find (has_name name) all ≡ None → Contains (names (map entry all)) name → ⊥)
    → Contains (names (map entry (first ∷ all))) name → ⊥
unnamed_at first all name true same found later inside = none-some first (sym found)
unnamed_at first all name false same found later inside =
    elim (Contains-append_cases (string_bytes first.name ∷ [])
    (names (map entry all)) name inside) [
      | inl one ↦
          let other : false ≡ true =
          sym same ∙ (bytes_eq-Decides (string_bytes first.name) name).1 (contains_one _ _ one) in
          cc
      | inr more ↦ later found more
    ]

-- and one that wasn't is none of them
pub named_none : (all : List KnownFailure) (name : List ℕ) → find (has_name name) all ≡ None
    → Contains (names (map entry all)) name → ⊥
named_none [] name found (k, lt, e) = omega arith
named_none (first ∷ all) name found inside =
    unnamed_at first all name (has_name name first) refl found (named_none all name) inside

good_after : (seen : List (List ℕ)) (all : List Entry) (next : Entry) → AreGoodAfter seen all
    → next.reason ≢ []
    → (Contains seen next.name → ⊥) → (Contains (names all) next.name → ⊥)
    → AreGoodAfter seen (all ++ next ∷ [])
good_after seen [] next good reason unseen unnamed = (reason, unseen, tt)
good_after seen (first ∷ all) next good reason unseen unnamed = (
  good.0,
  good.1,
  good_after (first.name ∷ seen) all next good.2 reason
      (λ inside. elim (Contains-append_cases (first.name ∷ []) seen next.name inside) [
        | inl one ↦ unnamed (Contains-append_left (first.name ∷ []) (names all) next.name one)
        | inr more ↦ unseen more
      ])
      (λ inside. unnamed (Contains-append_right (first.name ∷ []) (names all) next.name inside)),
)

-- one more with a reason and a name of its own
pub good_push : (all : List Entry) (next : Entry) → AreGood all → next.reason ≢ []
    → (Contains (names all) next.name → ⊥) → AreGood (all ++ next ∷ [])
good_push all next good reason unnamed =
    good_after [] all next good reason
    (λ (inside : Contains [] next.name). omega (arith, inside.1)) unnamed

-- one more line
pub entries_more : (lines : List (Bor (List ℕ))) (i : ℕ) (d : Bor (List ℕ)) → i < length lines
    → entries (map (λ (line : Bor (List ℕ)). line.now) (take (i + 1) lines))
    ≡ entries (map (λ (line : Bor (List ℕ)). line.now) (take i lines))
    ++ entries ((get_or lines i d).now ∷ [])
entries_more lines i d below =
    let now : Bor (List ℕ) → List ℕ = λ (line : Bor (List ℕ)). line.now in
    ap (λ (all : List (Bor (List ℕ))). entries (map now all)) (take_more lines i d below)
    ∙ (ap entries (map_push now (take i lines) (get_or lines i d))
    ∙ filter_map-append entry_of (map now (take i lines)) ((get_or lines i d).now ∷ []))

-- a line that names nothing, and one that names a case
pub nothing_more : (before : List Entry) (line : List ℕ) → None ≡ entry_of line
    → before ≡ before ++ entries (line ∷ [])
nothing_more before line none =
    sym (ap (λ (more : Option Entry). before ++ cons_option more []) (sym none) ∙ append-nil before)

pub one_more : (before after : List KnownFailure) (line : List ℕ)
    (known : KnownFailure) (found : Entry)
    → Some found ≡ entry_of line → entry known ≡ found
    → after ≡ before ++ known ∷ [] → map entry after ≡ map entry before ++ entries (line ∷ [])
one_more before after line known found some same pushed =
    ap (map entry) pushed ∙ (map_push entry before known
    ∙ ap (λ (more : List Entry). map entry before ++ more)
    (ap (λ (one : Entry). one ∷ []) same ∙ ap (λ (more : Option Entry). cons_option more []) some))

-- and is right
pub good_more : (before after : List KnownFailure) (known : KnownFailure) (found : Entry)
    → entry known ≡ found
    → IsRightAfter (map entry before) found
    → after ≡ before ++ known ∷ [] → AreGood (map entry before) → AreGood (map entry after)
good_more before after known found same right pushed good =
    subst AreGood (sym (ap (map entry) pushed
    ∙ (map_push entry before known ∙ ap (λ (one : Entry). map entry before ++ one ∷ []) same)))
    (good_push (map entry before) found good right.0 right.1)

-- the first line that is wrong, after those that are right
pub wrong_line : (lines : List (Bor (List ℕ))) (i : ℕ) (d : Bor (List ℕ)) (before : List Entry)
    (fault : KnownFault)
    → i < length lines
    → before ≡ entries (map (λ (line : Bor (List ℕ)). line.now) (take i lines)) → AreGood before
    → IsFaultOf before (i + 1) (get_or lines i d).now fault
    → Explains (map (λ (line : Bor (List ℕ)). line.now) lines) fault
wrong_line lines i d before (BadLine place name reason) below same good wrong =
    let now : Bor (List ℕ) → List ℕ = λ (line : Bor (List ℕ)). line.now in (
      map now (take i lines),
      map now (drop (suc i) lines),
      (get_or lines i d).now,
      wrong.0,
      ap (map now) (split_at lines i d below)
          ∙ map-append now (take i lines) (get_or lines i d ∷ drop (suc i) lines),
      wrong.2
          ∙ ap (λ (n : ℕ). n + 1)
          (sym (length-map (take i lines) now ∙ length-take-le i lines (omega arith))),
      subst AreGood same good,
      wrong.1,
      wrong.3,
      subst (λ (b : List Entry). IsWrongAfter b wrong.0 reason) same wrong.4,
    )
wrong_line lines i d before OutOfMemory below same good wrong = tt

-- what a search for a name gave, as a reference
pub found_name : (all : List KnownFailure) (name : List ℕ) (found : Option (Bor KnownFailure))
    → option_map (λ (known : Bor KnownFailure). known.now) found ≡ find (has_name name) all
    → is_some found ≡ true → Contains (names (map entry all)) name
found_name all name (Some known) same some = named_some all name known.now (sym same)
found_name all name None same some = cc

pub lost_name : (all : List KnownFailure) (name : List ℕ) (found : Option (Bor KnownFailure))
    → option_map (λ (known : Bor KnownFailure). known.now) found ≡ find (has_name name) all
    → is_some found ≡ false → Contains (names (map entry all)) name → ⊥
lost_name all name None same none = named_none all name (sym same)
lost_name all name (Some known) same none = cc

-- a text of which `is_empty` is false
pub some_text : (text : List ℕ) → (length text == 0) ≡ false → text ≢ []
some_text [] some = cc
some_text (c ∷ text) some = λ same. cc
