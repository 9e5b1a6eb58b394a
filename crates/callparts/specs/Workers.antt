-- What a worker is handed of a call, and what it did with it.
use Rattle.std.specs.Prelude.{
  ◌≡◌,
  ◌⊎◌,
  ℕ,
  Bool,
  true,
  List,
  [],
  ◌∷◌,
  ◌++◌,
  Option,
  None,
  IsSome,
  IsSomeAnd,
  slice_get,
}
use Rattle.lane.specs.RingLane.{got, put_in}
use Rattle.account.specs.declared.call.OutItem.{OutItem}
use Rattle.account.specs.declared.call.OutItem.TheVariants.{Left}
use Rattle.account.specs.declared.call.RequestEnd.{RequestEnd}
use Rattle.callbox.specs.declared.piece.InPiece.{InPiece}
use Rattle.callbox.specs.declared.taker.Progress.{Progress}
use Rattle.callbox.specs.InSides.{TakesMessages}
use Rattle.callhead.specs.declared.head.CallHead.{CallHead}
use Rattle.handlers.specs.declared.step.MethodStep.{MethodStep}
use Rattle.callrun.specs.Outcomes.{IsOutcome, is_end}
use Rattle.callparts.specs.declared.work.Request.{Request}
use Rattle.callparts.specs.declared.work.Work.{Work}
use Rattle.callparts.specs.Numbers.{request_at}

-- what the method of this index answers to messages, and to whether they have ended; without such a
-- method, nothing
abbrev pub answers_by : {A : Type 0} → (A → List (List ℕ) → Bool → MethodStep → Type 0) → List A → ℕ
    → List (List ℕ) → Bool → MethodStep → Type 0
answers_by of_method methods index messages ended answer =
    IsSomeAnd (slice_get methods index) (λ method. of_method method messages ended answer)

-- each answer of the first relation is one of the second
abbrev pub IsWithin : (ℕ → List (List ℕ) → Bool → MethodStep → Type 0)
    → (ℕ → List (List ℕ) → Bool → MethodStep → Type 0) → Type 0
IsWithin narrow wide =
    (index : ℕ) (messages : List (List ℕ)) (ended : Bool) (answer : MethodStep)
    → narrow index messages ended answer → wide index messages ended answer

-- what each of these methods answers is known
abbrev pub IsKnown : {A : Type 0} → (ℕ → List (List ℕ) → Bool → MethodStep → Type 0)
    → (A → List (List ℕ) → Bool → MethodStep → Type 0) → List A → Type 0
IsKnown known of_method methods = IsWithin known (answers_by of_method methods)

-- a call of which nothing was got, taken, told or given yet
abbrev pub IsFreshWork : Work → Type 0
IsFreshWork work =
    (got work.taker.rx ≡ []) × TakesMessages [] work.taker.progress []
    × (work.taker.progress.told ≡ None)
    × (put_in work.giver.tx ≡ [])

-- the items of an outcome, and after them at most that the call was left
abbrev pub IsGivenAs : List OutItem → List OutItem → Type 0
IsGivenAs items given = (given ≡ items) ⊎ (given ≡ items ++ Left ∷ [])

-- A call with this head took these messages, was told this after them, and was given this, with
-- this status: an outcome of what its method answers to what was taken, whatever that is. A call
-- ends by its deadline only where it has a timeout.
pub record IsAnswered (answers : List (List ℕ) → Bool → MethodStep → Type 0) (head : CallHead)
    (messages : List (List ℕ)) (said : Option RequestEnd) (given : List OutItem)
    (status : Option ℕ) : Type 0 where
  pub overdue : Bool
  pub timed : overdue ≡ true → IsSome head.timeout
  pub items : List OutItem
  pub outcome : (answer : MethodStep) → answers messages (is_end said) answer
      → IsOutcome head overdue said answer items status
  pub ends : IsGivenAs items given

-- the call of this request got these items, took messages of them, and was given this, with this
-- status
pub record Answers (answers : ℕ → List (List ℕ) → Bool → MethodStep → Type 0)
    (request : Request) (got : List InPiece) (progress : Progress)
    (given : List OutItem) (status : Option ℕ) : Type 0 where
  pub messages : List (List ℕ)
  pub took : TakesMessages got progress messages
  pub answered : IsAnswered (answers request.index) request.head messages progress.told given status

-- the call at this number of a register was answered so
abbrev pub AnswersAt : (ℕ → List (List ℕ) → Bool → MethodStep → Type 0) → List Work
    → ℕ → List InPiece
    → Progress → List OutItem → Option ℕ → Type 0
AnswersAt answers log number got progress given status =
    IsSomeAnd (request_at log number) (λ request. Answers answers request got progress given status)
