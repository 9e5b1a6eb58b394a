-- Which ends of the unsettled calls are still to come back, by the calls' numbers.
use Rattle.std.specs.Prelude.{
  ◌≡◌,
  ◌-◌,
  ◌≤◌,
  ◌&&◌,
  ℕ,
  Bool,
  nat_eq,
  List,
  if◌then◌else◌,
  is_none,
  count_by,
}
use Rattle.callparts.specs.declared.register.Naming.{Ghosts}
use Rattle.readerloop.specs.declared.call.Call.{Call}

-- 1 where both numbers are equal
abbrev pub once_at : ℕ → ℕ → ℕ
once_at n number = if nat_eq number n then 1 else 0

module _ {J : Type 0} {book : Ghosts J} where
  -- a call of this number whose worker hasn't handed it back
  abbrev pub is_undone : ℕ → Call J book → Bool
  is_undone n call = nat_eq call.number.value n && is_none call.finished

  -- one whose sender isn't back
  abbrev pub is_unsent : ℕ → Call J book → Bool
  is_unsent n call = nat_eq call.number.value n && is_none call.returning

  -- how many calls of this number are undone, and how many unsent
  abbrev pub undone : ℕ → List (Call J book) → ℕ
  undone n calls = count_by (λ call. is_undone n call) calls

  abbrev pub unsent : ℕ → List (Call J book) → ℕ
  unsent n calls = count_by (λ call. is_unsent n call) calls

  -- one call before and after: its number and what came back of it didn't change
  pub record HasSameEnds (old new : Call J book) : Type 0 where
    pub number : new.number ≡ old.number
    pub finished : new.finished ≡ old.finished
    pub returning : new.returning ≡ old.returning

  -- What is still to come back of the calls doesn't change.
  pub record AwaitsAll (old new : List (Call J book)) : Type 0 where
    pub workers : (n : ℕ) → undone n new ≡ undone n old
    pub senders : (n : ℕ) → unsent n new ≡ unsent n old

  -- A worker has handed a call of this number back, if one was awaited.
  pub record IsDone (number : ℕ) (old new : List (Call J book)) : Type 0 where
    pub workers : (n : ℕ) → undone n new ≡ undone n old - once_at n number
    pub senders : (n : ℕ) → unsent n new ≡ unsent n old

  -- The sender of a call of this number is back, if one was awaited.
  pub record IsSent (number : ℕ) (old new : List (Call J book)) : Type 0 where
    pub workers : (n : ℕ) → undone n new ≡ undone n old
    pub senders : (n : ℕ) → unsent n new ≡ unsent n old - once_at n number

-- ---- what is owed

-- Of each number no more calls are awaited than were given out and didn't come back. What came back
-- has numbers below the next call's.
pub record IsOwed (given back awaited : ℕ → ℕ) (next : ℕ) : Type 0 where
  pub most : (n : ℕ) → awaited n ≤ given n - back n
  pub below : (n : ℕ) → next ≤ n → back n ≡ 0
