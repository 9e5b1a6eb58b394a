-- What one step more makes of all calls of a connection, and of their accounts.
use Rattle.std.proofs.Common.{
  ◌≡◌,
  ◌∙◌,
  inl,
  inr,
  ℕ,
  zero,
  suc,
  ◌<◌,
  ◌≤◌,
  Bool,
  true,
  false,
  true≢false,
  nat_eq,
  List,
  [],
  ◌∷◌,
  ◌++◌,
  All,
  None,
  Some,
  ap,
  append-nil,
  arith,
  eq-eqb,
  eqb-true,
  get_or,
  length,
  refl,
  set,
  subst,
  sym,
}
use Rattle.std.specs.Prelude.{Contains, max, position, slice_get}
use Rattle.std.specs.List.{IsDistinct, position_or_len}
use Rattle.std.proofs.lemmas.Bool.{cases_eq, cases_lt, cond-true, lt-ltb, ne_eqb}
use Rattle.std.specs.Prelude.{nat_lt}
use Rattle.std.proofs.lemmas.List.{
  get_or-map,
  get_or-set_same,
  get_or-set_other,
  get_or_append_left,
  get_or_push,
  length-map,
  length-set,
  length_push,
}
use Rattle.std.proofs.lemmas.List.Elements.{All-nil, All-weaker}
use Rattle.std.proofs.lemmas.List.Quantifiers.{position-Some}
use Rattle.std.proofs.lemmas.List.Sums.{fails_before_first}
use Rattle.std.proofs.lemmas.Map.Keys.{IsDistinct-from_apart, apart_from_distinct}
use Rattle.std.proofs.Math.Seq.{map-set_same}
use Rattle.account.specs.declared.call.OutItem.{OutItem}
use Rattle.callparts.specs.declared.call_account.CallAccount.{CallAccount}
use Rattle.callparts.specs.declared.register.Naming.{Ghosts}
use Rattle.handlers.specs.declared.step.MethodStep.{MethodStep as Answer}
use Rattle.readerloop.specs.declared.call.Call.{Call}
use Rattle.readerloop.specs.Calls.{IsCall, Rises}
use Rattle.readerloop.specs.Concerns.{Concerns, IsIdle}
use Rattle.readerloop.specs.Kept.{AreKept, IsSoFar, ids_of}
use Rattle.readerloop.specs.Orders.{greatest}
use Rattle.readerloop.specs.Steps.{IsRising, Step, admitted_by, last_of, reported, reported_by}
use Rattle.readerloop.proofs.AccountSteps.{accounted-step}
use Rattle.readerloop.proofs.CallSteps.{call-passes}

-- ---- steps that admit none

pub rises-not : (told : List Step) (step : Step) → admitted_by step ≡ None → Rises told step
rises-not told step none = rw none tt

last-not : (told : List Step) (step : Step) → admitted_by step ≡ None
    → last_of (step ∷ told) ≡ last_of told
last-not told step none = rw none refl

reported-not : (told : List Step) (step : Step) → reported_by step ≡ None
    → reported (step ∷ told) ≡ reported told
reported-not told step none = rw none (append-nil (reported told))

none-above : (step : Step) (id : ℕ) → admitted_by step ≡ None → (other : ℕ)
    → admitted_by step ≡ Some other → id < other
none-above step id none other some = let wrong : Some other ≡ None = sym some ∙ none in absurd cc

-- ---- the greatest of some

pub greatest-above : (ids : List ℕ) (id : ℕ) → greatest ids < id → greatest (ids ++ id ∷ []) ≡ id
greatest-above [] id low = grind (arith, low)
greatest-above (first ∷ ids) id low =
    let rest = greatest-above ids id (lower first (greatest ids) id low) in
    ap (λ (n : ℕ). max first n) rest ∙ upper first (greatest ids) id low
  where
    lower : (a b c : ℕ) → max a b < c → b < c
    lower a b c low = grind (arith, low)

    upper : (a b c : ℕ) → max a b < c → max a c ≡ c
    upper a b c low = grind (arith, low)

pub below-greatest : (ids : List ℕ) → All (λ (id : ℕ). id ≤ greatest ids) ids
below-greatest [] k d within = absurd (omega (arith, within))
below-greatest (first ∷ ids) k d within = by k within (below-greatest ids)
  where
    left : (a b : ℕ) → a ≤ max a b
    left a b = grind arith

    right : (a b c : ℕ) → c ≤ b → c ≤ max a b
    right a b c low = grind (arith, low)

    by : (k : ℕ) → k < length (first ∷ ids) → All (λ (id : ℕ). id ≤ greatest ids) ids
        → get_or (first ∷ ids) k d ≤ max first (greatest ids)
    by zero within behind = left first (greatest ids)
    by (suc k) within behind =
        right first (greatest ids) (get_or ids k d) (behind k d (omega (arith, within)))

-- ---- ids that are distinct

pub distinct-push : (ids : List ℕ) (id : ℕ) → All (λ (other : ℕ). other < id) ids
    → IsDistinct nat_eq ids → IsDistinct nat_eq (ids ++ id ∷ [])
distinct-push ids id above apart =
    IsDistinct-from_apart nat_eq (ids ++ id ∷ [])
    (λ i j d lt within. by i j d lt (omega (arith, within, length_push ids id)))
  where
    by : (i j : ℕ) (d : ℕ) → i < j → j ≤ length ids
        → nat_eq (get_or (ids ++ id ∷ []) i d) (get_or (ids ++ id ∷ []) j d) ≡ false
    by i j d lt within = elim (cases_lt j (length ids)) [
      | inl inside ↦
          let one = get_or_append_left ids (id ∷ []) d i (omega (arith, lt, inside)) in
          let other = get_or_append_left ids (id ∷ []) d j inside in
          rw (one, other) (apart_from_distinct nat_eq ids i j d apart lt inside)
      | inr behind ↦
          let one = get_or_append_left ids (id ∷ []) d i (omega (arith, lt, within)) in
          let other = get_or_push ids id d j (omega (arith, within, behind)) in
          let low = above i d (omega (arith, lt, within)) in
          rw (one, other) (ne_eqb (get_or ids i d) id (λ same. omega (arith, low, same)))
    ]

-- the same id at two places is at one
pub same-place : (ids : List ℕ) (one other : ℕ) (d : ℕ) → IsDistinct nat_eq ids → one < length ids
    → other < length ids → get_or ids one d ≡ get_or ids other d → one ≡ other
same-place ids one other d apart lt more same = elim (cases_lt one other) [
  | inl first ↦
      absurd (true≢false (sym (eq-eqb (get_or ids one d) (get_or ids other d) same)
      ∙ apart_from_distinct nat_eq ids one other d apart first more))
  | inr ge ↦ elim (cases_lt other one) [
    | inl second ↦
        absurd (true≢false (sym (eq-eqb (get_or ids other d) (get_or ids one d) (sym same))
        ∙ apart_from_distinct nat_eq ids other one d apart second lt))
    | inr le ↦ omega (arith, ge, le)
  ]
]

-- ---- what is found

none-passes : {X : Type 0} (p : X → Bool) (xs : List X) → position p xs ≡ None
    → length xs ≤ position_or_len p xs
none-passes p xs none = elim (cases_lt (position_or_len p xs) (length xs)) [
  | inl lt ↦
      let some =
      sym (cond-true (nat_lt (position_or_len p xs) (length xs)) (Some (position_or_len p xs)) None
      (lt-ltb (position_or_len p xs) (length xs) lt))
      ∙ none in
      absurd cc
  | inr all ↦ all
]

pub none-at : {X : Type 0} (p : X → Bool) (xs : List X) (n : ℕ) (d : X) → position p xs ≡ None
    → n < length xs → p (get_or xs n d) ≡ false
none-at p xs n d none within =
    fails_before_first p xs n d (omega (arith, within, none-passes p xs none))

-- ---- a list with one element changed

module _ {X : Type 0} (P Q : X → Type 0) where
  pub set-each : (xs : List X) (place : ℕ) (one : X) → place < length xs → Q one
      → ((k : ℕ) (d : X) → k < length xs → (k ≡ place → ⊥) → P (get_or xs k d) → Q (get_or xs k d))
      → All P xs → All Q (set xs place one)
  set-each xs place one there first others all k d within = elim (cases_eq k place) [
    | inl same ↦
        subst Q (sym (ap (λ (n : ℕ). get_or (set xs place one) n d) same
        ∙ get_or-set_same xs place one d there)) first
    | inr away ↦
        let inside : k < length xs = omega (arith, within, length-set xs place one) in
        subst Q (sym (get_or-set_other xs place k one d away))
        (others k d inside away (all k d inside))
  ]

module _ {J : Type 0} {book : Ghosts J} where
  abbrev pub ids : List (Call J book) → List ℕ
  ids calls = ids_of calls

  id-at : (calls : List (Call J book)) (n : ℕ) (d : Call J book) → n < length calls
      → get_or (ids calls) n 0 ≡ (get_or calls n d).id
  id-at calls n d within = get_or-map (λ (call : Call J book). call.id) calls n d 0 within

  ids-length : (calls : List (Call J book)) → length (ids calls) ≡ length calls
  ids-length calls = length-map calls (λ (call : Call J book). call.id)

  -- the call at another place is of another stream
  pub other-id : (calls : List (Call J book)) (place other : ℕ) (d e : Call J book)
      → IsDistinct nat_eq (ids calls) → place < length calls → other < length calls
      → (other ≡ place → ⊥)
      → nat_eq (get_or calls other e).id (get_or calls place d).id ≡ false
  other-id calls place other d e apart there within away =
      ne_eqb (get_or calls other e).id (get_or calls place d).id
      (λ same. away
      (same-place (ids calls) other place 0 apart (omega (arith, within, ids-length calls))
      (omega (arith, there, ids-length calls))
      (id-at calls other e within ∙ (same ∙ sym (id-at calls place d there)))))

  ids-set : (calls : List (Call J book)) (place : ℕ) (d moved : Call J book)
      → moved.id ≡ (get_or calls place d).id → ids (set calls place moved) ≡ ids calls
  ids-set calls place d moved same =
      map-set_same (λ (call : Call J book). call.id) calls place moved d same

  -- the call that is found is of this stream
  pub found-id : (calls : List (Call J book)) (place id : ℕ) (call : Call J book)
      → position (λ (c : Call J book). nat_eq c.id id) calls ≡ Some place
      → call ≡ get_or calls place call → call.id ≡ id
  found-id calls place id call found is =
      let here = (position-Some (λ (c : Call J book). nat_eq c.id id) calls place call found).1 in
      eqb-true call.id id (subst (λ (c : Call J book). nat_eq c.id id ≡ true) (sym is) here)

module _ {J : Type 0} {book : Ghosts J} {known : ℕ → List (List ℕ) → Bool → Answer → Type 0}
    {names : List ℕ → ℕ → Type 0} {carries : ℕ → List OutItem → Type 0} where
  -- no call is there yet
  pub kept-none-yet : AreKept {J = J} {book = book} known names carries [] [] [] 0
  kept-none-yet = record {
    rising = tt;
    last_is = omega arith;
    top = refl;
    closed = tt;
    once = IsDistinct-from_apart nat_eq [] (λ i j d lt within. absurd (omega (arith, within)));
    streams = refl;
    so_far = All-nil _;
    each = All-nil _;
    placed = All-nil _;
    apart = IsDistinct-from_apart nat_eq [] (λ i j d lt within. absurd (omega (arith, within)));
  }

  -- the accounts after a step that admits none
  accounts-not : (told : List Step) (step : Step) (calls new : List (Call J book))
      (accounts : List CallAccount)
      → IsRising told → admitted_by step ≡ None → ids new ≡ ids calls
      → All (IsSoFar known names carries told calls) accounts
      → All (IsSoFar known names carries (step ∷ told) new) accounts
  accounts-not told step calls new accounts rising none same all =
      All-weaker (IsSoFar known names carries told calls)
      (IsSoFar known names carries (step ∷ told) new)
      (λ account so_far. elim so_far [
        | inl is ↦
            inl (accounted-step told step account rising (rises-not told step none)
            (none-above step account.id none) is)
        | inr there ↦ inr (subst (λ (found : List ℕ). Contains found account.id) (sym same) there)
      ]) accounts all

  -- a step that admits none, after which the calls are these
  pub kept-step : (told : List Step) (step : Step) (calls new : List (Call J book))
      (accounts : List CallAccount) (last : ℕ)
      → admitted_by step ≡ None → reported_by step ≡ None → ids new ≡ ids calls
      → All (IsCall known names carries (step ∷ told)) new
      → All (λ (call : Call J book). slice_get (reported told) call.place ≡ Some call.id) new
      → AreKept known names carries told calls accounts last
      → AreKept known names carries (step ∷ told) new accounts last
  kept-step told step calls new accounts last none unreported same each placed k =
      let still = reported-not told step unreported in
      record {
        rising = (rises-not told step none, k.rising);
        last_is = subst (λ (n : ℕ). n ≤ last) (sym (last-not told step none)) k.last_is;
        top = k.top ∙ sym (ap greatest still);
        closed = (λ draining. unreported, k.closed);
        once = subst (λ (found : List ℕ). IsDistinct nat_eq found) (sym still) k.once;
        streams = k.streams ∙ sym still;
        so_far = accounts-not told step calls new accounts k.rising none same k.so_far;
        each = each;
        placed =
            subst (λ (found : List ℕ).
            All (λ (call : Call J book). slice_get found call.place ≡ Some call.id) new)
            (sym still) placed;
        apart = subst (λ (found : List ℕ). IsDistinct nat_eq found) (sym same) k.apart;
      }

  -- one that is nothing to any call
  pub kept-idle : (told : List Step) (step : Step) (calls : List (Call J book))
      (accounts : List CallAccount) (last : ℕ)
      → IsIdle step → AreKept known names carries told calls accounts last
      → AreKept known names carries (step ∷ told) calls accounts last
  kept-idle told step calls accounts last idle k =
      kept-step told step calls calls accounts last idle.admits idle.reports refl
      (All-weaker (IsCall known names carries told) (IsCall known names carries (step ∷ told))
      (λ call is.
      call-passes told step call (rises-not told step idle.admits) (record {
        closes = idle.closes call.id;
        feeds = idle.feeds call.id;
      }) is) calls k.each) k.placed k

  -- one that concerns a call that isn't there
  pub kept-unfound : (told : List Step) (step : Step) (calls : List (Call J book))
      (accounts : List CallAccount) (last id : ℕ)
      → position (λ (c : Call J book). nat_eq c.id id) calls ≡ None → Concerns id step
      → AreKept known names carries told calls accounts last
      → AreKept known names carries (step ∷ told) calls accounts last
  kept-unfound told step calls accounts last id none concerns k =
      kept-step told step calls calls accounts last concerns.admits concerns.reports refl
      (λ n d within.
      let call = get_or calls n d in
      let other = none-at (λ (c : Call J book). nat_eq c.id id) calls n d none within in
      call-passes told step call (rises-not told step concerns.admits) (record {
        closes = concerns.closes call.id other;
        feeds = concerns.feeds call.id other;
      }) (k.each n d within)) k.placed k

  -- one that concerns a call that is there, and makes something else of it
  pub kept-found : (told : List Step) (step : Step) (calls : List (Call J book))
      (accounts : List CallAccount) (last id place : ℕ) (call moved : Call J book)
      → place < length calls → call ≡ get_or calls place call
      → call.id ≡ id → moved.id ≡ call.id → moved.place ≡ call.place → Concerns id step
      → (IsCall known names carries told call → IsCall known names carries (step ∷ told) moved)
      → AreKept known names carries told calls accounts last
      → AreKept known names carries (step ∷ told) (set calls place moved) accounts last
  kept-found told step calls accounts last id place call moved there is of same_id same_place
      concerns changes k =
      kept-step told step calls (set calls place moved) accounts last
      concerns.admits concerns.reports
      (ids-set calls place call moved (same_id ∙ ap (λ (c : Call J book). c.id) is))
      (set-each (IsCall known names carries told) (IsCall known names carries (step ∷ told))
      calls place moved there
      (changes (subst (λ (c : Call J book). IsCall known names carries told c) (sym is)
      (k.each place call there)))
      (λ n d within away now.
      let one = get_or calls n d in
      let apart = other-id calls place n call d k.apart there within away in
      let other : nat_eq one.id id ≡ false =
      subst (λ (m : ℕ). nat_eq one.id m ≡ false)
      (sym (ap (λ (c : Call J book). c.id) is) ∙ of) apart in
      call-passes told step one (rises-not told step concerns.admits) (record {
        closes = concerns.closes one.id other;
        feeds = concerns.feeds one.id other;
      }) now) k.each)
      (set-each (λ (c : Call J book). slice_get (reported told) c.place ≡ Some c.id)
      (λ (c : Call J book). slice_get (reported told) c.place ≡ Some c.id) calls place moved there
      (let was =
      subst (λ (c : Call J book). slice_get (reported told) c.place ≡ Some c.id) (sym is)
      (k.placed place call there) in
      ap (λ (n : ℕ). slice_get (reported told) n) same_place ∙ was
      ∙ ap (λ (n : ℕ). Some n) (sym same_id))
      (λ n d within away now. now) k.placed) k

  -- the same steps, where something came back of a call
  pub kept-back : (told : List Step) (calls : List (Call J book)) (accounts : List CallAccount)
      (last place : ℕ) (call moved : Call J book)
      → place < length calls → call ≡ get_or calls place call
      → moved.id ≡ call.id → moved.place ≡ call.place
      → (IsCall known names carries told call → IsCall known names carries told moved)
      → AreKept known names carries told calls accounts last
      → AreKept known names carries told (set calls place moved) accounts last
  kept-back told calls accounts last place call moved there is same_id same_place changes k =
      let same = ids-set calls place call moved (same_id ∙ ap (λ (c : Call J book). c.id) is) in
      record {
        rising = k.rising;
        last_is = k.last_is;
        top = k.top;
        closed = k.closed;
        once = k.once;
        streams = k.streams;
        so_far =
            All-weaker (IsSoFar known names carries told calls)
            (IsSoFar known names carries told (set calls place moved))
            (λ account so_far. elim so_far [
              | inl final ↦ inl final
              | inr among ↦
                  inr (subst (λ (found : List ℕ). Contains found account.id) (sym same) among)
            ]) accounts k.so_far;
        each =
            set-each (IsCall known names carries told) (IsCall known names carries told)
            calls place moved there
            (changes (subst (λ (c : Call J book). IsCall known names carries told c) (sym is)
            (k.each place call there))) (λ n d within away now. now) k.each;
        placed =
            set-each (λ (c : Call J book). slice_get (reported told) c.place ≡ Some c.id)
            (λ (c : Call J book). slice_get (reported told) c.place ≡ Some c.id) calls place moved
            there
            (let was =
            subst (λ (c : Call J book). slice_get (reported told) c.place ≡ Some c.id) (sym is)
            (k.placed place call there) in
            ap (λ (n : ℕ). slice_get (reported told) n) same_place ∙ was
            ∙ ap (λ (n : ℕ). Some n) (sym same_id))
            (λ n d within away now. now) k.placed;
        apart = subst (λ (found : List ℕ). IsDistinct nat_eq found) (sym same) k.apart;
      }
