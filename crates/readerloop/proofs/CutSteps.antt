-- To which calls more may be fed, where one is shut, and where what came back of one is noted.
use Rattle.std.proofs.Common.{
  ◌≡◌,
  ◌∙◌,
  inl,
  inr,
  ℕ,
  ◌<◌,
  ◌≤◌,
  Bool,
  true,
  false,
  nat_eq,
  List,
  [],
  ◌∷◌,
  All,
  Option,
  None,
  Some,
  ap,
  arith,
  eq-eqb,
  get_or,
  length,
  refl,
  set,
  subst,
  sym,
}
use Rattle.std.specs.Prelude.{if◌then◌else◌, position, slice_get}
use Rattle.std.specs.List.{IsDistinct, swap_remove}
use Rattle.std.specs.List.Sorted.{IsPermutation}
use Rattle.std.proofs.lemmas.Bool.{cases_eq, cases_lt}
use Rattle.std.proofs.lemmas.List.{get_or-set_other, get_or-set_same, length-set}
use Rattle.std.proofs.lemmas.List.Elements.{All-tail}
use Rattle.std.proofs.lemmas.List.Sorted.{All-permutation, IsPermutation-swap_remove}
use Rattle.std.proofs.lemmas.Option.{slice_get-get_or, slice_get_past}
use Rattle.callparts.specs.declared.register.Naming.{Ghosts}
use Rattle.handlers.specs.declared.step.MethodStep.{MethodStep as Answer}
use Rattle.account.specs.declared.call.OutItem.{OutItem}
use Rattle.readerloop.specs.declared.call.Call.{Call}
use Rattle.readerloop.specs.declared.feeder_half.FeederHalf.{FeederHalf}
use Rattle.readerloop.specs.declared.feeder_half.FeederHalf.TheVariants.{
  Open,
  Shut as ShutHalf,
  Missed,
  Moving,
}
use Rattle.readerloop.specs.Calls.{IsCall}
use Rattle.readerloop.specs.Halves.{is_closed, is_open, shown}
use Rattle.readerloop.specs.Kept.{AreCut, fed_but, fed_in, ids_of}
use Rattle.readerloop.specs.Steps.{Step}
use Rattle.readerloop.proofs.KeptSteps.{none-at, other-id, set-each}

-- ---- one call

but-here : (open_now : Bool) (one id : ℕ) → nat_eq one id ≡ true
    → fed_but id (if open_now then Some one else None) ≡ None
but-here true one id same = ap (λ (b : Bool). if b then None else Some one) same
but-here false one id same = refl

but-other : (open_now : Bool) (one id : ℕ) → nat_eq one id ≡ false
    → fed_but id (if open_now then Some one else None) ≡ (if open_now then Some one else None)
but-other true one id other = ap (λ (b : Bool). if b then None else Some one) other
but-other false one id other = refl

not-open : (open_now : Bool) (one : ℕ) → open_now ≡ false
    → (if open_now then Some one else None) ≡ None
not-open open_now one is = ap (λ (b : Bool). if b then Some one else None) is

-- a half to which no more may be fed, and which isn't being moved, was closed
pub cut-closed : (half : FeederHalf) → is_open half ≡ false → (shown half).there ≡ true
    → is_closed half ≡ true
cut-closed (Open feeder) cut there = absurd cc
cut-closed (ShutHalf end) cut there = refl
cut-closed (Missed feeder) cut there = refl
cut-closed Moving cut there = absurd cc

module _ {J : Type 0} {book : Ghosts J} where
  past-set : (calls : List (Call J book)) (place n : ℕ) (moved : Call J book) → length calls ≤ n
      → fed_in (slice_get (set calls place moved) n) ≡ fed_in (slice_get calls n)
  past-set calls place n moved past =
      let none =
      slice_get_past (set calls place moved) n
      (omega (arith, past, length-set calls place moved)) in
      let before = slice_get_past calls n past in
      ap (λ (found : Option (Call J book)). fed_in found) (none ∙ sym before)

  -- a call that isn't of this stream
  fed-other : (id : ℕ) (calls : List (Call J book)) (n : ℕ) (d : Call J book) → n < length calls
      → nat_eq (get_or calls n d).id id ≡ false
      → fed_but id (fed_in (slice_get calls n)) ≡ fed_in (slice_get calls n)
  fed-other id calls n d within other =
      let there = slice_get-get_or calls n d within in
      ap (λ (found : Option (Call J book)). fed_but id (fed_in found)) there
      ∙ (but-other (is_open (get_or calls n d).half) (get_or calls n d).id id other
      ∙ sym (ap (λ (found : Option (Call J book)). fed_in found) there))

  fed-past : (id : ℕ) (calls : List (Call J book)) (n : ℕ) → length calls ≤ n
      → fed_but id (fed_in (slice_get calls n)) ≡ fed_in (slice_get calls n)
  fed-past id calls n past =
      let none = slice_get_past calls n past in
      ap (λ (found : Option (Call J book)). fed_but id (fed_in found)) none
      ∙ sym (ap (λ (found : Option (Call J book)). fed_in found) none)

  -- there is no call of this stream
  pub closes-unfound : (id : ℕ) (calls : List (Call J book))
      → position (λ (c : Call J book). nat_eq c.id id) calls ≡ None → (n : ℕ)
      → fed_in (slice_get calls n) ≡ fed_but id (fed_in (slice_get calls n))
  closes-unfound id [] none n = sym (fed-past id [] n (omega arith))
  closes-unfound id (first ∷ rest) none n = elim (cases_lt n (length (first ∷ rest))) [
    | inl within ↦
        sym (fed-other id (first ∷ rest) n first within
        (none-at (λ (c : Call J book). nat_eq c.id id) (first ∷ rest) n first none within))
    | inr past ↦ sym (fed-past id (first ∷ rest) n past)
  ]

  -- the call of this stream is shut
  pub closes-found : (id place : ℕ) (calls : List (Call J book)) (call moved : Call J book)
      → place < length calls → call ≡ get_or calls place call → call.id ≡ id
      → is_open moved.half ≡ false → IsDistinct nat_eq (ids_of calls)
      → (n : ℕ)
      → fed_in (slice_get (set calls place moved) n) ≡ fed_but id (fed_in (slice_get calls n))
  closes-found id place calls call moved there is of cut apart n = elim (cases_eq n place) [
    | inl same ↦
        let now : slice_get (set calls place moved) n ≡ Some moved =
        slice_get-get_or (set calls place moved) n call
        (omega (arith, same, there, length-set calls place moved))
        ∙ ap (λ (c : Call J book). Some c)
        (ap (λ (m : ℕ). get_or (set calls place moved) m call) same
        ∙ get_or-set_same calls place moved call there) in
        let was : slice_get calls n ≡ Some call =
        slice_get-get_or calls n call (omega (arith, same, there))
        ∙ ap (λ (c : Call J book). Some c) (ap (λ (m : ℕ). get_or calls m call) same ∙ sym is) in
        ap (λ (found : Option (Call J book)). fed_in found) now
        ∙ (not-open (is_open moved.half) moved.id cut
        ∙ sym (ap (λ (found : Option (Call J book)). fed_but id (fed_in found)) was
        ∙ but-here (is_open call.half) call.id id (eq-eqb call.id id of)))
    | inr away ↦ elim (cases_lt n (length calls)) [
      | inl within ↦
          let now : slice_get (set calls place moved) n ≡ slice_get calls n =
          slice_get-get_or (set calls place moved) n call
          (omega (arith, within, length-set calls place moved))
          ∙ (ap (λ (c : Call J book). Some c) (get_or-set_other calls place n moved call away)
          ∙ sym (slice_get-get_or calls n call within)) in
          let apart_ids = other-id calls place n call call apart there within away in
          let other : nat_eq (get_or calls n call).id id ≡ false =
          subst (λ (m : ℕ). nat_eq (get_or calls n call).id m ≡ false)
          (sym (ap (λ (c : Call J book). c.id) is) ∙ of) apart_ids in
          ap (λ (found : Option (Call J book)). fed_in found) now
          ∙ sym (fed-other id calls n call within other)
      | inr past ↦ past-set calls place n moved past ∙ sym (fed-past id calls n past)
    ]
  ]

  -- ---- all calls

  pub cut-set : (calls : List (Call J book)) (place : ℕ) (call moved : Call J book)
      → place < length calls → call ≡ get_or calls place call → moved.half ≡ call.half
      → AreCut calls → AreCut (set calls place moved)
  cut-set calls place call moved there is same cut =
      set-each (λ (c : Call J book). is_open c.half ≡ false)
      (λ (c : Call J book). is_open c.half ≡ false) calls place moved there
      (ap (λ (half : FeederHalf). is_open half) (same ∙ ap (λ (c : Call J book). c.half) is)
      ∙ cut place call there) (λ n d within away now. now) cut

  pub cut-out : (calls rest : List (Call J book)) (place : ℕ) (call : Call J book)
      → place < length calls → call ≡ get_or calls place call → rest ≡ swap_remove calls place call
      → AreCut calls → AreCut rest
  cut-out calls rest place call there is gone cut =
      let moves : IsPermutation calls (call ∷ rest) =
      subst (λ (found : List (Call J book)). IsPermutation calls (call ∷ found)) (sym gone)
      (IsPermutation-swap_remove calls place call there is) in
      All-tail (λ (c : Call J book). is_open c.half ≡ false) call rest
      (All-permutation (λ (c : Call J book). is_open c.half ≡ false) calls (call ∷ rest) moves cut)

  -- where more may be fed at no place, none may be fed more
  pub cut-all : (calls : List (Call J book))
      → ((n : ℕ) → n < length calls → fed_in (slice_get calls n) ≡ None) → AreCut calls
  cut-all calls none n d within =
      by (get_or calls n d)
      (ap (λ (found : Option (Call J book)). fed_in found) (sym (slice_get-get_or calls n d within))
      ∙ none n within)
    where
      by-open : (call : Call J book) (open_now : Bool) → is_open call.half ≡ open_now
          → (if open_now then Some call.id else None) ≡ None → is_open call.half ≡ false
      by-open call true is nothing = absurd cc
      by-open call false is nothing = is

      by : (call : Call J book) → fed_in (Some call) ≡ None → is_open call.half ≡ false
      by call nothing = by-open call (is_open call.half) refl nothing

module _ {J : Type 0} {book : Ghosts J} {known : ℕ → List (List ℕ) → Bool → Answer → Type 0}
    {names : List ℕ → ℕ → Type 0} {carries : ℕ → List OutItem → Type 0} where
  -- and each half was closed
  pub all-closed : (told : List Step) (calls : List (Call J book))
      → All (IsCall known names carries told) calls → AreCut calls
      → All (λ (call : Call J book). is_closed call.half ≡ true) calls
  all-closed told calls each cut n d within =
      cut-closed (get_or calls n d).half (cut n d within) (each n d within).fed.there
