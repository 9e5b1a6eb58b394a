-- A call of a connection, as the reading side has it, and what the steps that were heard make of
-- it. A list of steps has the latest first.
use Rattle.std.specs.Prelude.{
  ◌≡◌,
  ◌≢◌,
  ◌<◌,
  ◌≤◌,
  ◌&&◌,
  ℕ,
  Bool,
  true,
  nat_eq,
  List,
  [],
  length,
  Contains,
  Option,
  None,
  Some,
  IfSome,
  IsSomeAnd,
  MatchOption,
}
use Rattle.std.specs.List.{list_any, AllWithin, HoldsAt}
use Rattle.std.specs.Option.{is_some}
use Rattle.account.specs.declared.call.OutItem.{OutItem}
use Rattle.callparts.specs.declared.job.FinishedJob.{FinishedJob}
use Rattle.callparts.specs.declared.order.SendingEnd.{SendingEnd}
use Rattle.callparts.specs.declared.order.ReturningCall.{ReturningCall}
use Rattle.callparts.specs.declared.register.CallNumber.{CallNumber}
use Rattle.callparts.specs.declared.register.Naming.{Ghosts}
use Rattle.callparts.specs.declared.work.Request.{Request}
use Rattle.callparts.specs.Numbers.{request_at}
use Rattle.callparts.specs.Workers.{AnswersAt}
use Rattle.handlers.specs.declared.step.MethodStep.{MethodStep as Answer}
use Rattle.lane.specs.RingLane.{got, put_shut}
use Rattle.readerloop.specs.declared.call.Call.{Call}
use Rattle.readerloop.specs.Halves.{HalfView, IsHalf, is_closed, shown}
use Rattle.readerloop.specs.Steps.{
  Step,
  admitted,
  admitted_by,
  closing_at,
  data_at,
  head_of,
  last_of,
  since,
}

-- where a step admits a call, its id is above those before it
abbrev pub Rises : List Step → Step → Type 0
Rises told step = MatchOption (admitted_by step) (Unit {0}) (λ id. last_of told < id)

-- whether a call of this stream was admitted
abbrev pub is_admitted : ℕ → List Step → Bool
is_admitted id told = list_any (nat_eq id) (admitted told)

-- a step that neither closes the half of a call of this stream nor brings data of it
pub record Passes (id : ℕ) (step : Step) : Type 0 where
  pub closes : closing_at id step ≡ None
  pub feeds : data_at id step ≡ []

-- ---- the method of a call

-- The method of this index has this path, and no method before it does.
pub record IsFirstWith {A : Type 0} (name_of : A → List ℕ) (methods : List A) (path : List ℕ)
    (index : ℕ) : Type 0 where
  pub within : index < length methods
  pub found : HoldsAt (λ method. name_of method ≡ path) methods index
  pub least : AllWithin (λ method. name_of method ≢ path) methods 0 index

-- each index that the first relation has for a path, the second has too
abbrev pub AreNames : (List ℕ → ℕ → Type 0) → (List ℕ → ℕ → Type 0) → Type 0
AreNames narrow wide = (path : List ℕ) (index : ℕ) → narrow path index → wide path index

-- ---- what came back of a call

-- the sender of this stream's call got these items
pub record SentItems : Type 0 where
  pub id : ℕ
  pub items : List OutItem

-- what is carried of a stream's call is what its sender got, by this list
abbrev pub carried_in : List SentItems → ℕ → List OutItem → Type 0
carried_in sent id items = Contains sent (record { id = id; items = items })

module _ {J : Type 0} {book : Ghosts J} where
  -- its worker answered what its client asked for
  abbrev pub HasAnswered : (ℕ → List (List ℕ) → Bool → Answer → Type 0)
      → FinishedJob J book → Type 0
  HasAnswered known finished =
      AnswersAt known finished.number.seen.log finished.number.value (got finished.taker.rx)
      finished.taker.progress (put_shut finished.given.shut) finished.status

  -- its sender is there, and got what is carried of its stream
  abbrev pub HasReturned : (ℕ → List OutItem → Type 0) → SendingEnd J book → Type 0
  HasReturned carries sending = IsSomeAnd (request_at sending.number.seen.log sending.number.value)
      (λ request. IsSomeAnd sending.sender (λ sender. carries request.id (got sender.rx)))

  -- ---- a call that isn't settled

  -- whether all its ends are back
  abbrev pub is_over : Call J book → Bool
  is_over call = is_some call.finished && (is_some call.returning && is_closed call.half)

  module _ (known : ℕ → List (List ℕ) → Bool → Answer → Type 0) (names : List ℕ → ℕ → Type 0)
      (carries : ℕ → List OutItem → Type 0) where
    -- The call of this stream and method was admitted with the head that it has in the register,
    -- whose path names its method. Its half is what the steps since make of it. What came back of
    -- it is as its worker and the writing side may hand it back.
    pub record IsCallOf (told : List Step) (id method : ℕ) (number : CallNumber J book)
        (half : HalfView) (finished : Option (FinishedJob J book))
        (returning : Option (ReturningCall J book)) : Type 0 where
      pub request : Request
      pub asked : request_at number.seen.log number.value ≡ Some request
      pub same_id : request.id ≡ id
      pub same_method : request.index ≡ method
      pub known_id : is_admitted id told ≡ true
      pub within : id ≤ last_of told
      pub opened : head_of id told ≡ Some request.head
      pub named : names request.head.path method
      pub fed : IsHalf id (since id told) half
      pub answered : IfSome finished (HasAnswered known)
      pub returned : IfSome returning (λ returning. HasReturned carries returning.sending.value)

    abbrev pub IsCall : List Step → Call J book → Type 0
    IsCall told call =
        IsCallOf told call.id call.method call.number (shown call.half) call.finished call.returning
