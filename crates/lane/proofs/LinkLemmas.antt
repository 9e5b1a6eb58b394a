-- The two ends of a second ring.
use Rattle.std.proofs.Common.{
  ◌≡◌,
  ℕ,
  ◌+◌,
  ◌≤◌,
  List,
  [],
  ◌∷◌,
  ◌++◌,
  length,
  refl,
  sym,
  ap,
  subst,
  ◌∙◌,
  append_assoc,
  arith,
  Option,
  None,
  Some,
  true,
  false,
}
use Rattle.std.proofs.lemmas.List.{append-nil}
use Rattle.std.specs.Option.{is_some, option_map}
use mathlib.Core.List.{IsPrefix}
use Rattle.lane.specs.Linked.{of_second, count_second, count_or, kept, Linked}
use Rattle.lane.specs.Lawful.{last_of}
use Rattle.lane.proofs.KnownItems.{last_of_push}
use Rattle.lane.proofs.StepLemmas.{links}

module _ {I O N : Type 0} (in_name : I → N) (out_name : O → N) where
  -- where the writer did not go on, nothing was handed over
  pub no_link : (rx : Option O) (tx : Option I) → Linked in_name out_name rx tx
      → tx ≡ None → rx ≡ None
  no_link None None linked none = refl
  no_link (Some rx) None linked none = absurd linked
  no_link None (Some tx) linked none = absurd linked
  no_link (Some rx) (Some tx) linked none = absurd cc

  pub linked_kept : (rx : Option O) (tx : Option I) → Linked in_name out_name rx tx
      → links rx + kept tx ≡ 1
  linked_kept None None linked = refl
  linked_kept (Some rx) None linked = absurd linked
  linked_kept None (Some tx) linked = absurd linked
  linked_kept (Some rx) (Some tx) linked = refl

  pub linked_some : (rx : Option O) (out : O) (tx : I) → rx ≡ Some out → in_name tx ≡ out_name out
      → Linked in_name out_name rx (Some tx)
  linked_some rx out tx is same = subst (λ o. Linked in_name out_name o (Some tx)) (sym is) same

  pub linked_same : (rx rx' : Option O) (tx : Option I) → rx' ≡ rx → Linked in_name out_name rx tx
      → Linked in_name out_name rx' tx
  linked_same rx rx' tx is linked = subst (λ o. Linked in_name out_name o tx) (sym is) linked

  pub linked_none : (rx : Option O) → rx ≡ None → Linked in_name out_name rx None
  linked_none rx is = subst (λ o. Linked in_name out_name o None) (sym is) tt

pub kept_some : {I : Type 0} (tx : Option I) → is_some tx ≡ true → kept tx ≡ 0
kept_some (Some tx) is = refl
kept_some None is = absurd cc

pub kept_none : {I : Type 0} (tx : Option I) → is_some tx ≡ false → kept tx ≡ 1
kept_none (Some tx) is = absurd cc
kept_none None is = refl

pub kept_unless : {I : Type 0} (tx : Option I) → ((x : I) → tx ≡ Some x → ⊥) → kept tx ≡ 1
kept_unless (Some tx) isnt = absurd (isnt tx refl)
kept_unless None isnt = refl

pub none_of : {T : Type 0} (xs : List T) → length xs ≤ 0 → xs ≡ []
none_of [] e = refl
none_of (x ∷ xs) e = absurd (omega arith)

-- the reader is where the writer is
same_at : {I O F N : Type 0} (in_name : I → N) (out_name : O → N) (fresh_name : F → N)
    (link : Option F) (tx : I) (rx : O)
    → Linked in_name fresh_name link (Some tx) → Linked out_name fresh_name link (Some rx)
    → in_name tx ≡ out_name rx
same_at in_name out_name fresh_name None tx rx written read = absurd read
same_at in_name out_name fresh_name (Some a) tx rx written read = written ∙ sym read

pub same_names : {I O F N : Type 0} (in_name : I → N) (out_name : O → N) (fresh_name : F → N)
    (taken put : Option F) (next : Option I) (out : Option O) (tx : I) (rx : O)
    → taken ≡ put → next ≡ Some tx → out ≡ Some rx → Linked in_name fresh_name put next
    → Linked out_name fresh_name taken out → in_name tx ≡ out_name rx
same_names in_name out_name fresh_name taken put next out tx rx is is_tx is_rx written read =
    same_at in_name out_name fresh_name put tx rx
    (subst (λ o. Linked in_name fresh_name put o) is_tx written)
    (subst (λ o. Linked out_name fresh_name o (Some rx)) is
    (subst (λ o. Linked out_name fresh_name taken o) is_rx read))

-- where nothing was handed over, the reader did not go on
pub none_next : {O F N : Type 0} (out_name : O → N) (fresh_name : F → N)
    (taken : Option F) (out : Option O)
    → Linked out_name fresh_name taken out → links taken ≡ 0 → out ≡ None
none_next out_name fresh_name None None read none = refl
none_next out_name fresh_name (Some a) None read none = absurd read
none_next out_name fresh_name None (Some b) read none = absurd read
none_next out_name fresh_name (Some a) (Some b) read none = absurd cc

module _ {I O T : Type 0} (put : I → List T) (got : O → List T) where
  pub begins_none : (a b : List T) (next : Option I) (out : Option O) → out ≡ None → IsPrefix a b
      → IsPrefix (a ++ of_second got out) (b ++ of_second put next)
  begins_none a b next out is (rest, e) =
      let whole : (a ++ rest) ++ of_second put next ≡ b ++ of_second put next =
      ap (λ us. us ++ of_second put next) e in
      let none : a ++ of_second got out ≡ a = ap (λ o. a ++ of_second got o) is ∙ append-nil a in (
        rest ++ of_second put next,
        ap (λ us. us ++ (rest ++ of_second put next)) none ∙ rw append_assoc at whole,
      )

  pub begins_some : (a b : List T) (next : Option I) (out : Option O) (tx : I) (rx : O)
      → next ≡ Some tx → out ≡ Some rx → a ≡ b → IsPrefix (got rx) (put tx)
      → IsPrefix (a ++ of_second got out) (b ++ of_second put next)
  begins_some a b next out tx rx is_tx is_rx same (rest, e) =
      let more : (a ++ got rx) ++ rest ≡ a ++ (got rx ++ rest) = append_assoc a (got rx) rest in (
        rest,
        ap (λ o. (a ++ of_second got o) ++ rest) is_rx
            ∙ (more
            ∙ (ap (λ us. a ++ us) e
            ∙ (ap (λ us. us ++ put tx) same ∙ ap (λ o. b ++ of_second put o) (sym is_tx)))),
      )

-- the reading end that was still in the ring
abbrev IsFresh : {O T : Type 0} → (O → List T) → Option O → Type 0
IsFresh got None = ⊥
IsFresh got (Some x) = length (got x) ≤ 0

pub found_fresh : {O F T : Type 0} (got : O → List T) (out_of : F → O) (put : Option F) (rx : O)
    → ((f : F) → length (got (out_of f)) ≤ 0)
    → Some rx ≡ option_map out_of put → length (got rx) ≤ 0
found_fresh got out_of None rx fresh is = absurd cc
found_fresh got out_of (Some f) rx fresh is = subst (λ o. IsFresh got o) (sym is) (fresh f)

-- ---- what went through the first ring alone, and what went on

pub first_alone : {I T : Type 0} (put : I → List T) (xs : List T) (next : Option I) → next ≡ None
    → xs ++ of_second put next ≡ xs
first_alone put xs next none = ap (λ o. xs ++ of_second put o) none ∙ append-nil xs

pub none_second : {I : Type 0} (seen : I → ℕ) (next : Option I) → next ≡ None
    → count_second seen next ≡ 0
none_second seen next none = ap (λ o. count_second seen o) none

-- an item more of the second ring
pub second_more : {I T : Type 0} (put : I → List T) (xs : List T) (next : Option I)
    (tx new : I) (item : T)
    → next ≡ Some tx → put new ≡ put tx ++ item ∷ []
    → xs ++ of_second put (Some new) ≡ (xs ++ of_second put next) ++ item ∷ []
second_more put xs next tx new item is more =
    ap (λ ys. xs ++ ys) more
    ∙ (sym (append_assoc xs (put tx) (item ∷ []))
    ∙ ap (λ o. (xs ++ of_second put o) ++ item ∷ []) (sym is))

module _ {I O N : Type 0} (in_name : I → N) (out_name : O → N) where
  -- the end of the second ring moved on
  pub linked_moved : (rx : Option O) (next : Option I) (tx new : I) → next ≡ Some tx
      → in_name new ≡ in_name tx → Linked in_name out_name rx next
      → Linked in_name out_name rx (Some new)
  linked_moved None next tx new is same linked =
      absurd (subst (λ o. Linked in_name out_name None o) is linked)
  linked_moved (Some rx) next tx new is same linked =
      same ∙ subst (λ o. Linked in_name out_name (Some rx) o) is linked

-- ---- the item that was got last

last_of_snoc : {T : Type 0} (xs ys : List T) (x : T) → last_of (xs ++ (ys ++ x ∷ [])) ≡ Some x
last_of_snoc xs ys x =
    ap (λ us. last_of us) (sym (append_assoc xs ys (x ∷ []))) ∙ last_of_push (xs ++ ys) x

pub last_first : {O T : Type 0} (got : O → List T) (xs ys : List T) (next : Option O) (item : T)
    → next ≡ None → ys ≡ xs ++ item ∷ [] → Some item ≡ last_of (ys ++ of_second got next)
last_first got xs ys next item none more =
    sym (ap (λ us. last_of us) (first_alone got ys next none ∙ more) ∙ last_of_push xs item)

pub last_second : {O T : Type 0} (got : O → List T) (xs : List T) (rx new : O) (item : T)
    → got new ≡ got rx ++ item ∷ [] → Some item ≡ last_of (xs ++ of_second got (Some new))
last_second got xs rx new item more =
    sym (ap (λ us. last_of (xs ++ us)) more ∙ last_of_snoc xs (got rx) item)

-- the way on was taken, and nothing of the second ring
pub gone_on : {O T : Type 0} (got : O → List T) (xs ys : List T) (next : Option O) (out fresh : O)
    → next ≡ None → ys ≡ xs → out ≡ fresh → length (got fresh) ≤ 0
    → ys ++ of_second got (Some out) ≡ xs ++ of_second got next
gone_on got xs ys next out fresh none same is empty =
    ap (λ us. us ++ got out) same
    ∙ (ap (λ us. xs ++ us) (ap (λ o. got o) is ∙ none_of (got fresh) empty)
    ∙ ap (λ o. xs ++ of_second got o) (sym none))

pub room_moved : {I : Type 0} (show : I → ℕ) (none : ℕ) (next : Option I) (tx new : I)
    → next ≡ Some tx → show new ≡ show tx → count_or show none next ≡ none → show new ≡ none
room_moved show none next tx new is same room =
    same ∙ subst (λ o. count_or show none o ≡ none) is room
