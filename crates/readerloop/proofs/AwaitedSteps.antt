-- How many ends of calls are still to come back, where one of the calls is changed, added or taken
-- out.
use Rattle.std.proofs.Common.{
  ◌≡◌,
  ◌∙◌,
  ◌⊎◌,
  inl,
  inr,
  ℕ,
  ◌+◌,
  ◌-◌,
  ◌<◌,
  ◌≤◌,
  Bool,
  true,
  false,
  true≢false,
  nat_eq,
  List,
  [],
  ◌∷◌,
  ◌++◌,
  All,
  Option,
  None,
  Some,
  ap,
  arith,
  eq-eqb,
  eqb-true,
  get_or,
  length,
  refl,
  set,
  subst,
  sym,
}
use Rattle.std.specs.Prelude.{◌&&◌, IfNone, IsSome, count_by, if◌then◌else◌, is_none, position}
use Rattle.std.specs.List.{swap_remove}
use Rattle.std.specs.List.Sorted.{IsPermutation}
use Rattle.std.specs.Option.{is_some}
use Rattle.std.proofs.lemmas.Bool.{cases_eq, ne_eqb}
use Rattle.std.proofs.lemmas.List.Quantifiers.{position-Some}
use Rattle.std.proofs.lemmas.List.Sorted.{
  IsPermutation-swap_remove,
  length_permutation,
  sum_by_popped,
}
use Rattle.std.proofs.lemmas.List.Sums.{get_or-le-sum_by, sum_by-le, sum_by-set, sum_by_push}
use Rattle.callparts.specs.declared.job.FinishedJob.{FinishedJob}
use Rattle.callparts.specs.declared.order.ReturningCall.{ReturningCall}
use Rattle.callparts.specs.declared.order.SendingEnd.{SendingEnd}
use Rattle.callparts.specs.declared.register.CallNumber.{CallNumber}
use Rattle.callparts.specs.declared.register.Naming.{Ghosts}
use Rattle.readerloop.specs.declared.call.Call.{Call}
use Rattle.readerloop.specs.Awaited.{
  AwaitsAll,
  HasSameEnds,
  IsDone,
  IsOwed,
  IsSent,
  is_undone,
  is_unsent,
  once_at,
  undone,
  unsent,
}
use Rattle.readerloop.specs.Calls.{is_over}
use Rattle.readerloop.specs.Halves.{is_closed}
use Rattle.readerloop.proofs.KeptSteps.{none-at}

-- a test that says whether two numbers are equal
pub same_test : (found : Bool) (a b : ℕ) → (found ≡ true → a ≡ b) → (a ≡ b → found ≡ true)
    → found ≡ nat_eq a b
same_test true a b sound whole = sym (eq-eqb a b (sound refl))
same_test false a b sound whole = sym (ne_eqb a b (λ same. true≢false (sym (whole same))))

-- ---- counts

abbrev weight : Bool → ℕ
weight b = if b then 1 else 0

not-counted : (b : Bool) → b ≡ false → weight b ≤ 0
not-counted b fails = let none : weight b ≡ 0 = ap weight fails in omega (arith, none)

module _ {X : Type 0} (p : X → Bool) where
  -- the element at a place became another that passes as it did
  pub count-same : (xs : List X) (place : ℕ) (old new : X) → place < length xs
      → old ≡ get_or xs place old → p new ≡ p old → count_by p (set xs place new) ≡ count_by p xs
  count-same xs place old new there is same =
      let moved = sum_by-set (λ (x : X). weight (p x)) xs place new old there in
      let was = ap (λ (x : X). weight (p x)) is in
      let now = ap weight same in
      omega (arith, moved, was, now)

  -- one that passes became one that doesn't
  pub count-less : (xs : List X) (place : ℕ) (old new : X) → place < length xs
      → old ≡ get_or xs place old → p old ≡ true → p new ≡ false
      → count_by p (set xs place new) ≡ count_by p xs - 1
  count-less xs place old new there is passes fails =
      let moved = sum_by-set (λ (x : X). weight (p x)) xs place new old there in
      let was = ap (λ (x : X). weight (p x)) is in
      let before = ap weight passes in
      let now = ap weight fails in
      omega (arith, moved, was, before, now)

  -- none passes
  pub count-none : (xs : List X) → position p xs ≡ None → count_by p xs ≡ 0
  count-none xs none =
      let few =
      sum_by-le (λ (x : X). weight (p x)) 0 xs
      (λ n d within. not-counted (p (get_or xs n d)) (none-at p xs n d none within)) in
      omega (arith, few)

  -- one is taken out that doesn't pass
  pub count-out : (xs rest : List X) (x : X) → IsPermutation xs (x ∷ rest) → p x ≡ false
      → count_by p rest ≡ count_by p xs
  count-out xs rest x moves fails =
      let popped = sum_by_popped (λ (y : X). weight (p y)) x xs rest moves in
      let now = ap weight fails in
      omega (arith, popped, now)

  -- where none is counted the first doesn't pass
  pub count-first : (x : X) (xs : List X) → count_by p (x ∷ xs) ≡ 0 → p x ≡ false
  count-first x xs none = by (p x) refl
    where
      by : (found : Bool) → p x ≡ found → p x ≡ false
      by true passes =
          let least = get_or-le-sum_by (λ (y : X). weight (p y)) (x ∷ xs) 0 x (omega arith) in
          let now = ap weight passes in
          absurd (omega (arith, least, now, none))
      by false fails = fails

-- ---- what is awaited of a call

less-once : (n number before after : ℕ) → nat_eq number n ≡ false → after ≡ before
    → after ≡ before - once_at n number
less-once n number before after other same =
    let none : once_at n number ≡ 0 = ap weight other in
    omega (arith, same, none)

less-one : (n number before after : ℕ) → nat_eq number n ≡ true → after ≡ before - 1
    → after ≡ before - once_at n number
less-one n number before after here same =
    let one : once_at n number ≡ 1 = ap weight here in
    omega (arith, same, one)

and-false : (here found : Bool) → found ≡ false → (here && found) ≡ false
and-false true found none = none
and-false false found none = refl

and-true : (here found : Bool) → found ≡ true → (here && found) ≡ here
and-true true found some = some
and-true false found some = refl

both-left : (one other : Bool) → (one && other) ≡ true → one ≡ true
both-left true other is = refl
both-left false other is = absurd cc

both-right : (one other : Bool) → (one && other) ≡ true → other ≡ true
both-right true other is = is
both-right false other is = absurd cc

not-none : {A : Type 0} (found : Option A) → IsSome found → is_none found ≡ false
not-none None there = absurd (true≢false (sym there))
not-none (Some x) there = refl

none-not : {A : Type 0} (found : Option A) → is_some found ≡ true → is_none found ≡ false
none-not None is = absurd cc
none-not (Some x) is = refl

some-not : {A : Type 0} (found : Option A) → is_none found ≡ false → is_some found ≡ true
some-not None is = absurd cc
some-not (Some x) is = refl

other-number : (n number value : ℕ) (found : Bool) → value ≡ number → nat_eq number n ≡ false
    → (nat_eq value n && found) ≡ false
other-number n number value found same other =
    ap (λ (m : ℕ). nat_eq m n && found) same ∙ ap (λ (b : Bool). b && found) other

module _ {J : Type 0} {book : Ghosts J} where
  undone-as : (n : ℕ) (old new : Call J book) → new.number ≡ old.number
      → new.finished ≡ old.finished → is_undone n new ≡ is_undone n old
  undone-as n old new number finished =
      ap (λ (m : CallNumber J book). nat_eq m.value n && is_none new.finished) number
      ∙ ap (λ (found : Option (FinishedJob J book)). nat_eq old.number.value n && is_none found)
      finished

  unsent-as : (n : ℕ) (old new : Call J book) → new.number ≡ old.number
      → new.returning ≡ old.returning → is_unsent n new ≡ is_unsent n old
  unsent-as n old new number returning =
      ap (λ (m : CallNumber J book). nat_eq m.value n && is_none new.returning) number
      ∙ ap (λ (found : Option (ReturningCall J book)).
      nat_eq old.number.value n && is_none found) returning

  -- a call became another with the same ends
  pub awaits-same : (calls : List (Call J book)) (place : ℕ) (call moved : Call J book)
      → place < length calls → call ≡ get_or calls place call → HasSameEnds call moved
      → AwaitsAll calls (set calls place moved)
  awaits-same calls place call moved there is same = record {
    workers = λ n.
        count-same (λ (c : Call J book). is_undone n c) calls place call moved there is
        (undone-as n call moved same.number same.finished);
    senders = λ n.
        count-same (λ (c : Call J book). is_unsent n c) calls place call moved there is
        (unsent-as n call moved same.number same.returning);
  }

  -- ---- something comes back

  -- no worker was awaited for a call of this number
  pub done-none : (number : ℕ) (calls : List (Call J book))
      → position (λ (call : Call J book). is_undone number call) calls ≡ None
      → IsDone number calls calls
  done-none number calls none =
      record { workers = λ n. by n (nat_eq number n) refl; senders = λ n. refl }
    where
      by : (n : ℕ) (here : Bool) → nat_eq number n ≡ here
          → undone n calls ≡ undone n calls - once_at n number
      by n true here =
          let nothing : undone n calls ≡ 0 =
          ap (λ (m : ℕ). undone m calls) (sym (eqb-true number n here))
          ∙ count-none (λ (call : Call J book). is_undone number call) calls none in
          omega (arith, nothing)
      by n false other = less-once n number (undone n calls) (undone n calls) other refl

  -- and one was, which has now handed it back
  pub done-one : (number place : ℕ) (calls : List (Call J book)) (call moved : Call J book)
      → position (λ (c : Call J book). is_undone number c) calls ≡ Some place
      → call ≡ get_or calls place call
      → moved.number ≡ call.number → moved.returning ≡ call.returning
      → (call.number.value ≡ number → IsSome moved.finished)
      → IsDone number calls (set calls place moved)
  done-one number place calls call moved found is same_number same_returning back =
      let first = position-Some (λ (c : Call J book). is_undone number c) calls place call found in
      let awaited : is_undone number call ≡ true =
      subst (λ (c : Call J book). is_undone number c ≡ true) (sym is) first.1 in
      let value : call.number.value ≡ number =
      eqb-true call.number.value number
      (both-left (nat_eq call.number.value number) (is_none call.finished) awaited) in
      let taken : is_none moved.finished ≡ false = not-none moved.finished (back value) in
      record {
        workers = λ n. by n (nat_eq number n) refl first.0 awaited value taken;
        senders = λ n.
            count-same (λ (c : Call J book). is_unsent n c) calls place call moved first.0 is
            (unsent-as n call moved same_number same_returning);
      }
    where
      by : (n : ℕ) (here : Bool) → nat_eq number n ≡ here → place < length calls
          → is_undone number call ≡ true → call.number.value ≡ number
          → is_none moved.finished ≡ false
          → undone n (set calls place moved) ≡ undone n calls - once_at n number
      by n true here within awaited value taken =
          less-one n number (undone n calls) (undone n (set calls place moved)) here
          (count-less (λ (c : Call J book). is_undone n c) calls place call moved within is
          (subst (λ (m : ℕ). is_undone m call ≡ true) (eqb-true number n here) awaited)
          (and-false (nat_eq moved.number.value n) (is_none moved.finished) taken))
      by n false other within awaited value taken =
          less-once n number (undone n calls) (undone n (set calls place moved)) other
          (count-same (λ (c : Call J book). is_undone n c) calls place call moved within is
          (and-false (nat_eq moved.number.value n) (is_none moved.finished) taken
          ∙ sym (other-number n number call.number.value (is_none call.finished) value other)))

  -- what is looked for by the number that lies in a box
  pub found-by : (inner sending : SendingEnd J book) (calls : List (Call J book)) (found : Option ℕ)
      → inner ≡ sending
      → found ≡ position (λ (c : Call J book). is_unsent inner.number.value c) calls
      → position (λ (c : Call J book). is_unsent sending.number.value c) calls ≡ found
  found-by inner sending calls found same is =
      ap (λ (s : SendingEnd J book).
      position (λ (c : Call J book). is_unsent s.number.value c) calls) (sym same)
      ∙ sym is

  -- no sender was awaited of a call of this number
  pub sent-none : (number : ℕ) (calls : List (Call J book))
      → position (λ (call : Call J book). is_unsent number call) calls ≡ None
      → IsSent number calls calls
  sent-none number calls none =
      record { workers = λ n. refl; senders = λ n. by n (nat_eq number n) refl }
    where
      by : (n : ℕ) (here : Bool) → nat_eq number n ≡ here
          → unsent n calls ≡ unsent n calls - once_at n number
      by n true here =
          let nothing : unsent n calls ≡ 0 =
          ap (λ (m : ℕ). unsent m calls) (sym (eqb-true number n here))
          ∙ count-none (λ (call : Call J book). is_unsent number call) calls none in
          omega (arith, nothing)
      by n false other = less-once n number (unsent n calls) (unsent n calls) other refl

  -- and one was, which is now back
  pub sent-one : (number place : ℕ) (calls : List (Call J book)) (call moved : Call J book)
      → position (λ (c : Call J book). is_unsent number c) calls ≡ Some place
      → call ≡ get_or calls place call
      → moved.number ≡ call.number → moved.finished ≡ call.finished
      → (call.number.value ≡ number → IsSome moved.returning)
      → IsSent number calls (set calls place moved)
  sent-one number place calls call moved found is same_number same_finished back =
      let first = position-Some (λ (c : Call J book). is_unsent number c) calls place call found in
      let awaited : is_unsent number call ≡ true =
      subst (λ (c : Call J book). is_unsent number c ≡ true) (sym is) first.1 in
      let value : call.number.value ≡ number =
      eqb-true call.number.value number
      (both-left (nat_eq call.number.value number) (is_none call.returning) awaited) in
      let taken : is_none moved.returning ≡ false = not-none moved.returning (back value) in
      record {
        workers = λ n.
            count-same (λ (c : Call J book). is_undone n c) calls place call moved first.0 is
            (undone-as n call moved same_number same_finished);
        senders = λ n. by n (nat_eq number n) refl first.0 awaited value taken;
      }
    where
      by : (n : ℕ) (here : Bool) → nat_eq number n ≡ here → place < length calls
          → is_unsent number call ≡ true → call.number.value ≡ number
          → is_none moved.returning ≡ false
          → unsent n (set calls place moved) ≡ unsent n calls - once_at n number
      by n true here within awaited value taken =
          less-one n number (unsent n calls) (unsent n (set calls place moved)) here
          (count-less (λ (c : Call J book). is_unsent n c) calls place call moved within is
          (subst (λ (m : ℕ). is_unsent m call ≡ true) (eqb-true number n here) awaited)
          (and-false (nat_eq moved.number.value n) (is_none moved.returning) taken))
      by n false other within awaited value taken =
          less-once n number (unsent n calls) (unsent n (set calls place moved)) other
          (count-same (λ (c : Call J book). is_unsent n c) calls place call moved within is
          (and-false (nat_eq moved.number.value n) (is_none moved.returning) taken
          ∙ sym (other-number n number call.number.value (is_none call.returning) value other)))

  -- ---- a call more, and one less

  -- a call begins, whose ends are all awaited
  pub undone-added : (n : ℕ) (calls : List (Call J book)) (call : Call J book)
      → call.finished ≡ None
      → undone n (calls ++ call ∷ []) ≡ undone n calls + once_at n call.number.value
  undone-added n calls call none =
      sum_by_push (λ (c : Call J book). weight (is_undone n c)) calls call
      ∙ ap (λ (b : Bool). undone n calls + weight b) (and-true (nat_eq call.number.value n)
      (is_none call.finished) (ap (λ (found : Option (FinishedJob J book)). is_none found) none))

  pub unsent-added : (n : ℕ) (calls : List (Call J book)) (call : Call J book)
      → call.returning ≡ None
      → unsent n (calls ++ call ∷ []) ≡ unsent n calls + once_at n call.number.value
  unsent-added n calls call none =
      sum_by_push (λ (c : Call J book). weight (is_unsent n c)) calls call
      ∙ ap (λ (b : Bool). unsent n calls + weight b) (and-true (nat_eq call.number.value n)
      (is_none call.returning) (ap (λ (found : Option (ReturningCall J book)). is_none found) none))

  -- a call that is over is taken out
  pub awaits-settled : (calls rest : List (Call J book)) (place : ℕ) (call : Call J book)
      → place < length calls → call ≡ get_or calls place call → is_over call ≡ true
      → rest ≡ swap_remove calls place call → AwaitsAll calls rest
  awaits-settled calls rest place call there is over gone =
      let moves : IsPermutation calls (call ∷ rest) =
      subst (λ (found : List (Call J book)). IsPermutation calls (call ∷ found)) (sym gone)
      (IsPermutation-swap_remove calls place call there is) in
      let finished : is_some call.finished ≡ true =
      both-left (is_some call.finished) (is_some call.returning && is_closed call.half) over in
      let returned : is_some call.returning ≡ true =
      both-left (is_some call.returning) (is_closed call.half)
      (both-right (is_some call.finished) (is_some call.returning && is_closed call.half) over) in
      record {
        workers = λ n.
            count-out (λ (c : Call J book). is_undone n c) calls rest call moves (and-false
            (nat_eq call.number.value n) (is_none call.finished) (none-not call.finished finished));
        senders = λ n.
            count-out (λ (c : Call J book). is_unsent n c) calls rest call moves (and-false
            (nat_eq call.number.value n) (is_none call.returning)
            (none-not call.returning returned));
      }

  pub fewer-settled : (calls rest : List (Call J book)) (place : ℕ) (call : Call J book)
      → place < length calls → call ≡ get_or calls place call → rest ≡ swap_remove calls place call
      → length rest + 1 ≡ length calls
  fewer-settled calls rest place call there is gone =
      let moves : IsPermutation calls (call ∷ rest) =
      subst (λ (found : List (Call J book)). IsPermutation calls (call ∷ found)) (sym gone)
      (IsPermutation-swap_remove calls place call there is) in
      omega (arith, length_permutation calls (call ∷ rest) moves)

  -- ---- the end

  -- Where each half was closed and nothing is awaited each call is over. So none is left where none
  -- is over.
  pub none-left : (calls : List (Call J book))
      → All (λ (call : Call J book). is_closed call.half ≡ true) calls
      → ((n : ℕ) → undone n calls ≡ 0) → ((n : ℕ) → unsent n calls ≡ 0)
      → All (λ (call : Call J book). is_over call ≡ false) calls → calls ≡ []
  none-left [] closed workers senders unsettled = refl
  none-left (call ∷ rest) closed workers senders unsettled =
      let value = call.number.value in
      let done : is_none call.finished ≡ false =
      sym (ap (λ (b : Bool). b && is_none call.finished) (eq-eqb value value refl))
      ∙ count-first (λ (c : Call J book). is_undone value c) call rest (workers value) in
      let sent : is_none call.returning ≡ false =
      sym (ap (λ (b : Bool). b && is_none call.returning) (eq-eqb value value refl))
      ∙ count-first (λ (c : Call J book). is_unsent value c) call rest (senders value) in
      let over : is_over call ≡ true =
      ap (λ (b : Bool). b && (is_some call.returning && is_closed call.half))
      (some-not call.finished done)
      ∙ (ap (λ (b : Bool). b && is_closed call.half) (some-not call.returning sent)
      ∙ closed 0 call (omega arith)) in
      absurd (true≢false (sym over ∙ unsettled 0 call (omega arith)))

-- ---- a call that is over

pub none-any : {A : Type 0} (found : Option A) (P : Type 0) → P → IfNone found P
none-any None P p = p
none-any (Some x) P p = tt

within-found : {X : Type 0} (p : X → Bool) (xs : List X) (place : ℕ) → position p xs ≡ Some place
    → place < length xs
within-found p [] place found = absurd cc
within-found p (x ∷ xs) place found = (position-Some p (x ∷ xs) place x found).0

module _ {J : Type 0} {book : Ghosts J} where
  pub over-within : (calls : List (Call J book)) (place : ℕ)
      → position (λ (c : Call J book). is_over c) calls ≡ Some place → place < length calls
  over-within calls place found = within-found (λ (c : Call J book). is_over c) calls place found

  pub over-at : (calls : List (Call J book)) (place : ℕ) (call : Call J book)
      → position (λ (c : Call J book). is_over c) calls ≡ Some place
      → call ≡ get_or calls place call → is_over call ≡ true
  over-at calls place call found is =
      let first = position-Some (λ (c : Call J book). is_over c) calls place call found in
      subst (λ (c : Call J book). is_over c ≡ true) (sym is) first.1

  pub none-over : (calls : List (Call J book))
      → position (λ (c : Call J book). is_over c) calls ≡ None
      → All (λ (c : Call J book). is_over c ≡ false) calls
  none-over calls none n d within = none-at (λ (c : Call J book). is_over c) calls n d none within

-- ---- what is owed

once-same : (n number : ℕ) → (n ≡ number → ⊥) → once_at n number ≡ 0
once-same n number away = ap weight (ne_eqb number n (λ same. away (sym same)))

once-here : (n : ℕ) → once_at n n ≡ 1
once-here n = ap weight (eq-eqb n n refl)

-- nothing was given out
pub owed-none : (next : ℕ) → IsOwed (λ n. 0) (λ n. 0) (λ n. 0) next
owed-none next = record { most = λ n. omega arith; below = λ n above. refl }

-- less is awaited, and the next number is no lower
pub owed-as : (given back awaited less : ℕ → ℕ) (next later : ℕ) → ((n : ℕ) → less n ≤ awaited n)
    → next ≤ later → IsOwed given back awaited next → IsOwed given back less later
owed-as given back awaited less next later fewer up owed = record {
  most = λ n. let few = fewer n in let most = owed.most n in omega (arith, few, most);
  below = λ n above. owed.below n (omega (arith, above, up));
}

-- the next call is given out
pub owed-given : (given more back awaited now : ℕ → ℕ) (next : ℕ)
    → ((n : ℕ) → more n ≡ given n + once_at n next) → ((n : ℕ) → now n ≡ awaited n + once_at n next)
    → IsOwed given back awaited next → IsOwed more back now (next + 1)
owed-given given more back awaited now next gives awaits owed = record {
  most = λ n. by n (cases_eq n next);
  below = λ n above. owed.below n (omega (arith, above));
}
  where
    by : (n : ℕ) → (n ≡ next) ⊎ (n ≡ next → ⊥) → now n ≤ more n - back n
    by n (inl same) =
        let none : back n ≡ 0 = owed.below n (omega (arith, same)) in
        let most = owed.most n in
        let given_one = gives n in
        let awaited_one = awaits n in
        omega (arith, none, most, given_one, awaited_one)
    by n (inr away) =
        let zero = once-same n next away in
        let most = owed.most n in
        let given_none = gives n in
        let awaited_none = awaits n in
        omega (arith, zero, most, given_none, awaited_none)

-- one comes back, of a number that was given out
pub owed-back : (given back more awaited now : ℕ → ℕ) (next number : ℕ) → number < next
    → ((n : ℕ) → more n ≡ back n + once_at n number)
    → ((n : ℕ) → now n ≡ awaited n - once_at n number)
    → IsOwed given back awaited next → IsOwed given more now next
owed-back given back more awaited now next number low comes awaits owed = record {
  most = λ n.
      let most = owed.most n in
      let back_one = comes n in
      let awaited_one = awaits n in
      omega (arith, most, back_one, awaited_one);
  below = λ n above.
      let zero = once-same n number (λ same. omega (arith, same, above, low)) in
      let none = owed.below n above in
      let back_none = comes n in
      omega (arith, zero, none, back_none);
}

-- all came back: nothing is awaited
pub owed-all : (given back awaited : ℕ → ℕ) (next : ℕ) → ((n : ℕ) → given n ≤ back n)
    → IsOwed given back awaited next → (n : ℕ) → awaited n ≡ 0
owed-all given back awaited next all owed n =
    let whole = all n in
    let most = owed.most n in
    omega (arith, whole, most)
