-- What a call may have been given, when its method answers this to the messages that were taken and
-- to whether their end was told.
use Rattle.std.specs.Prelude.{
  ◌≡◌,
  ◌⊎◌,
  ℕ,
  Bool,
  true,
  false,
  List,
  [],
  ◌∷◌,
  map,
  Option,
  None,
  Some,
}
use Rattle.lpm.specs.declared.fault.LpmFault.TheVariants as fault
use Rattle.account.specs.Accounts.{Begins}
use Rattle.account.specs.declared.call.OutItem.{OutItem}
use Rattle.account.specs.declared.call.RequestEnd.{RequestEnd}
use Rattle.account.specs.declared.call.RequestEnd.TheVariants as told
use Rattle.callhead.specs.declared.head.CallHead.{CallHead}
use Rattle.callhead.specs.declared.head.Encoding.TheVariants.{Identity, Other}
use Rattle.grpc_status.specs.StatusCode.{status_number}
use Rattle.handlers.specs.declared.reply.Reply.{Reply}
use Rattle.handlers.specs.declared.status.Status.{Status}
use Rattle.handlers.specs.declared.step.MethodStep.{MethodStep}
use Rattle.callrun.specs.declared.cause.Cause.{Cause}
use Rattle.callrun.specs.declared.cause.Cause.TheVariants.{
  Cancelled,
  DeadlineExceeded,
  MessageTooLong,
  OutOfMemory,
  UnsupportedEncoding,
  CompressedWithoutEncoding,
  BadFlag,
  CutAtEnd,
}
use Rattle.callrun.specs.Statuses.{status_of}
use Rattle.callrun.specs.Responses.{head_item, reply_item, full_response, response}

-- whether the end was told
abbrev pub is_end : Option RequestEnd → Bool
is_end None = false
is_end (Some told.End) = true
is_end (Some (told.Reset code)) = false
is_end (Some (told.Fault fault)) = false

-- A cause for which the server ends a call is there: in what was told, or because the deadline has
-- come. Want of memory leaves no trace.
abbrev pub Stood : Cause → CallHead → Bool → Option RequestEnd → Type 0
Stood Cancelled head overdue said = (code : ℕ) × (said ≡ Some (told.Reset code))
Stood DeadlineExceeded head overdue said = overdue ≡ true
Stood MessageTooLong head overdue said = said ≡ Some (told.Fault fault.TooLong)
Stood OutOfMemory head overdue said = Unit {0}
Stood UnsupportedEncoding head overdue said =
    (said ≡ Some (told.Fault fault.Compressed)) × (head.encoding ≡ Other)
Stood CompressedWithoutEncoding head overdue said =
    (said ≡ Some (told.Fault fault.Compressed)) × (head.encoding ≡ Identity)
Stood BadFlag head overdue said = said ≡ Some (told.Fault fault.BadFlag)
Stood CutAtEnd head overdue said = said ≡ Some (told.Fault fault.CutAtEnd)

-- the items so far of a response that goes on: none, or the head and these replies
abbrev pub IsBegun : CallHead → List Reply → List OutItem → Type 0
IsBegun head replies given =
    ((replies ≡ []) × (given ≡ [])) ⊎ (given ≡ head_item head ∷ map reply_item replies)

-- The items that were given, and the status of their trailers.
pub data IsOutcome (head : CallHead) (overdue : Bool) (said : Option RequestEnd)
    (answer : MethodStep)
    (given : List OutItem) (code : Option ℕ) : Type 0 where
  -- the whole answer of the method
  Whole : (status : Status) → answer.ends ≡ Some status
      → given ≡ response head answer.replies status → code ≡ Some (status_number status.code)
      → IsOutcome head overdue said answer given code
  -- a front of its replies, and a status of the server's own
  CutShort : (cause : Cause) (replies : List Reply) → Stood cause head overdue said
      → Begins replies answer.replies
      → given ≡ response head replies (status_of cause)
      → code ≡ Some (status_number (status_of cause).code)
      → IsOutcome head overdue said answer given code
  -- a front of its replies, and a status of the server's own, where the head was given before the
  -- cause was there
  CutShortBehindHead : (cause : Cause) (replies : List Reply) → Stood cause head overdue said
      → Begins replies answer.replies
      → given ≡ full_response head replies (status_of cause)
      → code ≡ Some (status_number (status_of cause).code)
      → IsOutcome head overdue said answer given code
  -- a front of its replies, and no trailers
  Unended : (replies : List Reply) → Begins replies answer.replies
      → IsBegun head replies given → code ≡ None
      → IsOutcome head overdue said answer given code
