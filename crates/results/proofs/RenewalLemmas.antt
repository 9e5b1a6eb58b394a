-- Lists of known failures that grow by entries of new names.
use Rattle.std.proofs.Common.{
  ◌≡◌,
  ◌∙◌,
  ◌++◌,
  ◌+◌,
  ◌<◌,
  ◌||◌,
  ap,
  sym,
  subst,
  refl,
  arith,
  inl,
  inr,
  Bool,
  true,
  false,
  IfOk,
  Ok,
  Err,
  Result,
  List,
  Option,
  ℕ,
  [],
  ◌∷◌,
  length,
  map,
  take,
  get_or,
}
use Rattle.std.specs.Prelude.{Contains}
use Rattle.std.specs.List.{filter_map, flat_map, list_any}
use Rattle.std.proofs.lemmas.List.{take_more}
use Rattle.std.proofs.lemmas.List.Elements.{Contains-append_cases, filter_map-append}
use Rattle.std.proofs.lemmas.Slice.Eq.{bytes_eq-Decides}
use Rattle.results.specs.KnownList.{Entry, entry, has_name, names}
use Rattle.results.proofs.KnownLemmas.{contains_one}
use Rattle.results.specs.Renewals.{
  HaveOwnNames,
  failed_entries,
  failed_entry,
  is_named,
  line_of,
  renewal,
  unrun_entry,
  with_entries,
  with_entry,
}
use Rattle.results.specs.declared.known_failure.KnownFailure.{KnownFailure}
use Rattle.results.specs.declared.outcome.Outcome.{Outcome}

with_more : (list xs ys : List Entry)
    → with_entries list (xs ++ ys) ≡ with_entries (with_entries list xs) ys
with_more list [] ys = refl
with_more list (x ∷ xs) ys = with_more (with_entry list x) xs ys

-- what one more element adds
pub renewed_more : {A : Type 0} (f : A → Option Entry) (start : List Entry) (xs : List A) (i : ℕ)
    (x : A) (before after : List Entry)
    → i < length xs
    → x ≡ get_or xs i x → before ≡ with_entries start (filter_map f (take i xs))
    → after ≡ with_entries before (filter_map f (x ∷ []))
    → after ≡ with_entries start (filter_map f (take (i + 1) xs))
renewed_more {A} f start xs i x before after below here was is =
    is ∙ (ap (λ (y : A). with_entries before (filter_map f (y ∷ []))) here
    ∙ (ap (λ (list : List Entry). with_entries list (filter_map f (get_or xs i x ∷ []))) was
    ∙ sym (ap (λ (all : List A). with_entries start (filter_map f all)) (take_more xs i x below)
    ∙ (ap (with_entries start) (filter_map-append f (take i xs) (get_or xs i x ∷ []))
    ∙ with_more start (filter_map f (take i xs)) (filter_map f (get_or xs i x ∷ []))))))

-- a name among known failures and among their entries
pub named_same : (name : List ℕ) (all : List KnownFailure)
    → list_any (has_name name) all ≡ list_any (is_named name) (map entry all)
named_same name [] = refl
named_same name (first ∷ all) = ap (λ (b : Bool). has_name name first || b) (named_same name all)

pub lines_same : (all : List KnownFailure)
    → flat_map (λ (known : KnownFailure). line_of (entry known)) all
    ≡ flat_map line_of (map entry all)
lines_same [] = refl
lines_same (first ∷ all) = ap (λ (text : List ℕ). line_of (entry first) ++ text) (lines_same all)

-- one more entry, by whether its name is there
pub with_there : (list : List Entry) (next : Entry) → list_any (is_named next.name) list ≡ true
    → with_entry list next ≡ list
unfolding with_entry
with_there list next there = rw there

pub with_new : (list : List Entry) (next : Entry) → list_any (is_named next.name) list ≡ false
    → with_entry list next ≡ list ++ next ∷ []
unfolding with_entry
with_new list next new = rw new

neither : (a b : Bool) → (a || b) ≡ false → (a ≡ false) × (b ≡ false)
neither true b none = cc
neither false b none = (refl, none)

-- names of their own
names_push : (list : List Entry) (next : Entry)
    → names (list ++ next ∷ []) ≡ names list ++ next.name ∷ []
names_push [] next = refl
names_push (first ∷ list) next =
    ap (λ (more : List (List ℕ)). first.name ∷ more) (names_push list next)

own_push : (list : List Entry) (next : Entry) → HaveOwnNames list
    → list_any (is_named next.name) list ≡ false → HaveOwnNames (list ++ next ∷ [])
own_push [] next own new = (λ (inside : Contains [] next.name). omega (arith, inside.1), tt)
own_push (first ∷ list) next own new =
    let parts = neither (is_named next.name first) (list_any (is_named next.name) list) new in (
      λ inside.
          elim (Contains-append_cases (names list) (next.name ∷ []) first.name (subst
          (λ (all : List (List ℕ)). Contains all first.name) (names_push list next) inside)) [
            | inl old ↦ own.0 old
            | inr last ↦
                let other : false ≡ true =
                sym parts.0
                ∙ (bytes_eq-Decides first.name next.name).1
                (sym (contains_one next.name first.name last)) in
                cc
          ],
      own_push list next own.1 parts.1,
    )

own_with : (list : List Entry) (next : Entry) (b : Bool) → list_any (is_named next.name) list ≡ b
    → HaveOwnNames list → HaveOwnNames (with_entry list next)
own_with list next true there own = subst HaveOwnNames (sym (with_there list next there)) own
own_with list next false new own =
    subst HaveOwnNames (sym (with_new list next new)) (own_push list next own new)

own_all : (list all : List Entry) → HaveOwnNames list → HaveOwnNames (with_entries list all)
own_all list [] own = own
own_all list (next ∷ all) own =
    own_all (with_entry list next) all
    (own_with list next (list_any (is_named next.name) list) refl own)

pub renewal_own : (known : List KnownFailure) (outcomes : List Outcome)
    → HaveOwnNames (renewal known outcomes)
unfolding renewal
renewal_own known outcomes =
    own_all (failed_entries outcomes) (filter_map (unrun_entry outcomes) known)
    (own_all [] (filter_map (failed_entry outcomes) outcomes) tt)

-- what is true is so beside each value
pub always : {X E : Type 0} (r : Result X E) (P : Type 0) → P → IfOk r (λ _. P)
always (Ok x) P p = p
always (Err e) P p = tt
