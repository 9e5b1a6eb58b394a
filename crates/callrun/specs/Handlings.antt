-- What a method has answered to what was taken of a call.
use Rattle.std.specs.Prelude.{
  ◌≡◌,
  ◌≢◌,
  ◌⊎◌,
  ℕ,
  Bool,
  true,
  false,
  List,
  [],
  ◌++◌,
  Option,
  None,
  Some,
  Result,
  Ok,
  Err,
}
use Rattle.account.specs.Accounts.{Begins}
use Rattle.account.specs.declared.call.RequestEnd.{RequestEnd}
use Rattle.callhead.specs.declared.head.CallHead.{CallHead}
use Rattle.handlers.specs.declared.fault.MethodFault.{MethodFault}
use Rattle.handlers.specs.declared.reply.Reply.{Reply}
use Rattle.handlers.specs.declared.state.MethodState.{MethodState}
use Rattle.handlers.specs.declared.status.Status.{Status}
use Rattle.handlers.specs.declared.step.MethodStep.{MethodStep}
use Rattle.callrun.specs.declared.cause.Cause.{Cause}
use Rattle.callrun.specs.declared.cause.Cause.TheVariants.{
  Cancelled,
  DeadlineExceeded,
  MessageTooLong,
  OutOfMemory,
  UnsupportedEncoding,
  CompressedWithoutEncoding,
  BadFlag,
  CutAtEnd,
}
use Rattle.callrun.specs.declared.ending.Ending.{Ending}
use Rattle.callrun.specs.declared.ending.Ending.TheVariants as ending
use Rattle.callrun.specs.declared.handling.Handling.{Handling}
use Rattle.callrun.specs.Outcomes.{Stood, is_end}
use Rattle.callrun.specs.Responses.{is_short}

abbrev pub is_memory : Cause → Bool
is_memory OutOfMemory = true
is_memory Cancelled = false
is_memory DeadlineExceeded = false
is_memory MessageTooLong = false
is_memory UnsupportedEncoding = false
is_memory CompressedWithoutEncoding = false
is_memory BadFlag = false
is_memory CutAtEnd = false

-- ---- what is left of an answer

-- These replies of the method's answer were given, and these wait, as the call's end has it.
abbrev pub EndsSo : MethodStep → CallHead → Bool → Option RequestEnd → List Reply → List Reply
    → Option Ending → Type 0
EndsSo answer head overdue said done waiting None =
    (answer.replies ≡ done ++ waiting) × (answer.ends ≡ None)
EndsSo answer head overdue said done waiting (Some (ending.Method status)) =
    (answer.replies ≡ done ++ waiting) × (answer.ends ≡ Some status)
EndsSo answer head overdue said done waiting (Some (ending.Cause cause)) =
    Stood cause head overdue said × (waiting ≡ []) × Begins done answer.replies

-- A head that was given has a reason: a reply waits, or the call doesn't end by one block.
abbrev pub LastsLong : CallHead → Option Ending → Type 0
LastsLong head None = ⊥
LastsLong head (Some (ending.Method status)) = is_short head [] status ≡ false
LastsLong head (Some (ending.Cause cause)) = Unit {0}

abbrev pub HeadIsDue : CallHead → Handling → Type 0
HeadIsDue head handling = (handling.waiting ≢ []) ⊎ LastsLong head handling.ending

-- the call ends for want of memory
abbrev pub lacks_memory : Option Ending → Bool
lacks_memory None = false
lacks_memory (Some (ending.Method status)) = false
lacks_memory (Some (ending.Cause cause)) = is_memory cause

-- ---- what the method's state stands for

-- The call goes on: the state stands for the messages that were taken, and nothing was told.
pub record IsStanding (answers : List (List ℕ) → Bool → MethodStep → Type 0)
    (stands : MethodState → List (List ℕ) → MethodStep → Type 0)
    (said : Option RequestEnd) (messages : List (List ℕ)) (state : MethodState) : Type 0 where
  pub answered : MethodStep
  pub standing : stands state messages answered
  pub answer : answers messages false answered
  pub unended : answered.ends ≡ None
  pub untold : said ≡ None

-- nothing waits, and the call goes on
abbrev pub IsReady : Handling → Type 0
IsReady handling = (handling.waiting ≡ []) × (handling.ending ≡ None)

-- ---- steps

abbrev pub method_ending : Option Status → Option Ending
method_ending None = None
method_ending (Some status) = Some (ending.Method status)

-- the call ends by this cause, and what waited is dropped
abbrev pub EndsBy : Cause → Handling → Handling → Type 0
EndsBy cause old new =
    (new.state ≡ old.state) × (new.waiting ≡ []) × (new.ending ≡ Some (ending.Cause cause))

-- what a step gave waits, and the call ends as it says
abbrev pub Accepts : Result MethodStep MethodFault → Handling → Handling → Type 0
Accepts (Ok step) old new =
    (new.state ≡ old.state) × (new.waiting ≡ step.replies) × (new.ending ≡ method_ending step.ends)
Accepts (Err fault) old new = EndsBy OutOfMemory old new

-- A method answers a message, or the end: what it answered before was given, and the whole answer
-- now begins with that.
pub record Answers (answers : List (List ℕ) → Bool → MethodStep → Type 0)
    (stands : MethodState → List (List ℕ) → MethodStep → Type 0)
    (next : Option RequestEnd) (messages all : List (List ℕ)) (new : Handling) : Type 0 where
  pub each : (answered answer : MethodStep) → answers messages false answered
      → answers all (is_end next) answer
      → (head : CallHead) (overdue : Bool)
      → EndsSo answer head overdue next answered.replies new.waiting new.ending
  pub standing : new.ending ≡ None → IsStanding answers stands next all new.state
