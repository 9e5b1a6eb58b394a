-- Calls that were run, one after another.
use Rattle.std.specs.Prelude.{
  ◌≡◌,
  ◌≤◌,
  ◌<◌,
  ◌+◌,
  ◌⊎◌,
  ℕ,
  Bool,
  true,
  false,
  List,
  [],
  Option,
  None,
  Some,
  IsSomeAnd,
}
use Rattle.account.specs.declared.call.OutItem.{OutItem}
use Rattle.callbox.specs.InSides.{TakesMessages}
use Rattle.callbox.specs.declared.piece.InPiece.{InPiece}
use Rattle.callbox.specs.declared.taker.Progress.{Progress}
use Rattle.callhead.specs.declared.head.CallHead.{CallHead}
use Rattle.handlers.specs.declared.step.MethodStep.{MethodStep}
use Rattle.callrun.specs.Outcomes.{IsOutcome, is_end}
use Rattle.callrun.specs.Runs.{deadline_of}
use Rattle.callrun.specs.declared.uses.call_list.Why.{Why}
use Rattle.callrun.specs.declared.uses.call_list.Why.TheVariants.{Over, Left, Spent}

-- Nothing was taken of the call yet, and nothing given.
abbrev pub IsUntouched : List InPiece → Progress → List OutItem → Type 0
IsUntouched got progress given =
    TakesMessages got progress [] × (progress.told ≡ None) × (given ≡ [])

-- A call was run: it took these messages, and what it was given is an outcome of what its method
-- answers to them, whatever that is. Its deadline counts as come only if it is no later than the
-- latest moment of its pace.
pub record WasRun (answers : List (List ℕ) → Bool → MethodStep → Type 0) (head : CallHead)
    (opened latest : ℕ)
    (got : List InPiece) (progress : Progress) (given : List OutItem)
    (code : Option ℕ) : Type 0 where
  pub messages : List (List ℕ)
  pub overdue : Bool
  pub took : TakesMessages got progress messages
  pub late : overdue ≡ true
      → IsSomeAnd (deadline_of head.timeout opened) (λ deadline. deadline ≤ latest)
  pub outcome : (answer : MethodStep) → answers messages (is_end progress.told) answer
      → IsOutcome head overdue progress.told answer given code

-- `more` more were counted. A count may stop at the greatest `u64`.
abbrev pub CountsOn : ℕ → ℕ → ℕ → Type 0
CountsOn old new more = (old ≤ new) × (new < 18446744073709551615 → new ≡ old + more)

-- an answer of a pace gives a turn, or leaves the call
abbrev pub turns_by : Option ℕ → ℕ
turns_by None = 0
turns_by (Some now) = 1

abbrev pub lefts_by : Option ℕ → ℕ
lefts_by None = 1
lefts_by (Some now) = 0

-- how often a pace left the call
abbrev pub leaves : Why → ℕ
leaves Over = 0
leaves Left = 1
leaves Spent = 0

-- of at most `most` turns a call had these, and no more for this reason
abbrev pub IsWhy : ℕ → ℕ → Why → Type 0
IsWhy most had Over = (0 < had) × (had ≤ most)
IsWhy most had Left = had < most
IsWhy most had Spent = had ≡ most

-- A call that is over was given its trailers, unless memory was wanting, or a place of its lane may
-- be taken already.
pub record HadTurns (most had : ℕ) (reason : Why) (is_shut ran_out : Bool)
    (MayMiss : Type 0) : Type 0 where
  pub why : IsWhy most had reason
  pub over : reason ≡ Over → (is_shut ≡ true) ⊎ (ran_out ≡ true) ⊎ MayMiss
