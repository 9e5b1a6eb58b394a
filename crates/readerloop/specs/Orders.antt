-- The orders of the reading side of a connection to its writing side, step by step. It passes on
-- what the peer says, opens a call that is admitted, refuses or resets a stream or ends the
-- connection for its cause, and has GOAWAY name the last call where the server drains (RFC 9113,
-- sections 5.4, 6.8, 6.9.1, 8.1.1 and 8.7; gRPC over HTTP/2, "Responses"). A list of steps has the
-- latest first, a list of orders the earliest.
use Rattle.std.specs.Prelude.{
  ◌≡◌,
  ◌≢◌,
  ◌⊎◌,
  ◌&&◌,
  ℕ,
  ◌==◌,
  Bool,
  true,
  false,
  List,
  [],
  ◌∷◌,
  ◌++◌,
  length,
  Option,
  Some,
  None,
  is_none,
  if◌then◌else◌,
  max,
  ◌+◌,
}
use Rattle.limits.specs.declared.TheConstants.{MAX_STREAMS}
use Rattle.connbook.specs.declared.answers.AdmitFault.{AdmitFault}
use Rattle.connbook.specs.declared.answers.AdmitFault.TheVariants as refused
use Rattle.connbook.specs.declared.answers.Receipt.TheVariants.{CallWindow, Overrun}
use Rattle.callhead.specs.declared.fault.HeadFault.{HeadFault}
use Rattle.callhead.specs.StatusFields.{refusal_of, unknown_method}
use Rattle.callparts.specs.declared.report.Ending.{Ending}
use Rattle.callparts.specs.declared.report.Ending.TheVariants.{
  ProtocolError as ConnectionError,
  OutOfMemory as RanOut,
}
use Rattle.h2frame.specs.declared.error_code.ErrorCode.{ErrorCode}
use Rattle.h2frame.specs.declared.error_code.ErrorCode.TheVariants.{
  NoError,
  ProtocolError,
  FlowControlError,
  RefusedStream,
  Cancel,
  EnhanceYourCalm,
}
use Rattle.lists.specs.declared.field.Field.{Field}
use Rattle.outwriter.specs.declared.control.WriterOrder.TheVariants.{
  Settings,
  Ping,
  Window,
  Open,
  Refuse,
  Reset,
  Goaway,
}
use Rattle.outwriter.specs.Steps.{Order}
use Rattle.reasons.specs.declared.Reason.TheVariants as reason
use Rattle.reasons.specs.Codes.{code_of}
use Rattle.session.specs.declared.event.PeerControl.{PeerControl}
use Rattle.session.specs.declared.event.PeerControl.TheVariants as controls
use Rattle.session.specs.declared.event.InEvent.TheVariants as events
use Rattle.readerloop.specs.Calls.{is_admitted}
use Rattle.readerloop.specs.Steps.{
  NoWorker,
  Stopped,
  Fate,
  Admitted,
  Unserved,
  Unknown,
  TurnedAway,
  Received,
  Missed,
  Lacking,
  Step,
  Told,
  CutOff,
  Drains,
  Lacks,
  closing_by,
  is_draining,
  reported,
  since,
}

-- ---- streams that were begun

-- the stream that a step begins, with a head of a call or without
abbrev pub begun_at : Step → List ℕ
begun_at (Told (events.Open id head) fate) = id ∷ []
begun_at (Told (events.BadHead id fault) fate) = id ∷ []
begun_at _ = []

abbrev pub begun : List Step → List ℕ
begun [] = []
begun (step ∷ before) = begun_at step ++ begun before

-- the greatest of these, 0 for none
abbrev pub greatest : List ℕ → ℕ
greatest [] = 0
greatest (id ∷ ids) = max id (greatest ids)

-- The last stream of a GOAWAY (section 6.8): the greatest that was begun, or once the server drains
-- the greatest whose call was admitted; 0 for none. So after a drain it never rises.
abbrev pub named_with : ℕ → Bool → ℕ → ℕ
named_with id true last = last
named_with id false last = max id last

abbrev pub named : List Step → ℕ
named [] = 0
named (Told (events.Open id head) fate ∷ before) = named_with id (is_draining before) (named before)
named (Told (events.BadHead id fault) fate ∷ before) =
    named_with id (is_draining before) (named before)
named (Drains ∷ before) = greatest (reported before)
named (step ∷ before) = named before

-- how many streams a client may begin; at the last of them GOAWAY asks it to open no more, unless
-- the server drains, which has sent GOAWAY
abbrev pub last_stream : ℕ → Bool → List ℕ → List Order
last_stream id true before = []
last_stream id false before =
    if (1 + length before) == MAX_STREAMS then Goaway id (reason.Code NoError) ∷ [] else []

-- ---- the order of a step

-- whether more may be fed to a call: it was admitted, and its half isn't closed
abbrev pub is_fed : ℕ → List Step → Bool
is_fed id told = is_admitted id told && is_none (closing_by id (since id told))

-- these bytes are to be fed to the call: there are some, and its half is open
abbrev pub IsDue : ℕ → List ℕ → List Step → Type 0
IsDue id piece told = (piece ≢ []) × (is_fed id told ≡ true)

-- what the peer says to the writing side goes on as it is
abbrev pub news_of : PeerControl → Order
news_of (controls.Settings settings) = Settings settings
news_of (controls.Ping bytes) = Ping bytes
news_of (controls.Window id increment) = Window id increment

-- A call that isn't admitted is reset as not begun. For want of memory the connection ends, and
-- also where an id isn't greater than those before it (RFC 9113, section 5.1.1).
abbrev pub turned_away : ℕ → ℕ → AdmitFault → Order
turned_away last id refused.TooMany = Reset id RefusedStream true
turned_away last id refused.Draining = Reset id RefusedStream true
turned_away last id refused.NotNew = Goaway last (reason.Code ProtocolError)
turned_away last id refused.OutOfMemory = Goaway last reason.Memory

-- how a stream that begins is answered: `last` is the last stream of a GOAWAY
abbrev pub opened : ℕ → ℕ → Fate → List Order
opened last id Admitted = Open id tt ∷ []
opened last id Unknown = Refuse id unknown_method ∷ []
opened last id (TurnedAway fault) = turned_away last id fault ∷ []
opened last id Lacking = Goaway last reason.Memory ∷ []
opened last id (Unserved NoWorker) = Goaway last reason.Memory ∷ []
opened last id (Unserved Stopped) = []
opened last id _ = []

-- a malformed request is an error of its stream, others are refused with a block
abbrev pub without_head : ℕ → Option (List Field) → Order
without_head id None = Reset id ProtocolError true
without_head id (Some fields) = Refuse id fields

abbrev pub refused_head : ℕ → ℕ → HeadFault → Fate → List Order
refused_head last id fault Lacking = Goaway last reason.Memory ∷ []
refused_head last id fault _ = without_head id (refusal_of fault) ∷ []

-- bytes that came on a stream: for those that no call takes any more, which are counted and
-- returned, nothing is ordered
abbrev pub came : ℕ → ℕ → Fate → List Order
came last id (Received CallWindow) = Reset id FlowControlError true ∷ []
came last id (Received Overrun) = Goaway last reason.Overrun ∷ []
came last id Missed = Reset id EnhanceYourCalm true ∷ []
came last id Lacking = Goaway last reason.Memory ∷ []
came last id _ = []

abbrev pub came_loose : ℕ → Fate → List Order
came_loose last (Received Overrun) = Goaway last reason.Overrun ∷ []
came_loose last _ = []

-- The orders that a step leads to, after the steps before it. Where the input has ended, a call to
-- which more could be fed is cancelled.
abbrev pub orders_at : List Step → Step → List Order
orders_at before (Told (events.Open id head) fate) =
    last_stream id (is_draining before) (begun before)
    ++ opened (named_with id (is_draining before) (named before)) id fate
orders_at before (Told (events.BadHead id fault) fate) =
    last_stream id (is_draining before) (begun before)
    ++ refused_head (named_with id (is_draining before) (named before)) id fault fate
orders_at before (Told (events.Data id piece counted) fate) = came (named before) id fate
orders_at before (Told (events.Loose counted) fate) = came_loose (named before) fate
orders_at before (Told (events.Reset id code) fate) = Reset id code false ∷ []
orders_at before (Told (events.StreamError id code) fate) = Reset id code true ∷ []
orders_at before (Told (events.Control control) fate) = news_of control ∷ []
orders_at before (Told (events.Fatal cause) fate) = Goaway (named before) cause ∷ []
orders_at before (CutOff id) = if is_fed id before then Reset id Cancel true ∷ [] else []
orders_at before Drains = Goaway (greatest (reported before)) (reason.Code NoError) ∷ []
orders_at before Lacks = Goaway (named before) reason.Memory ∷ []
orders_at before _ = []

-- The orders that steps lead to.
abbrev pub orders_by : List Step → List Order
orders_by [] = []
orders_by (step ∷ before) = orders_by before ++ orders_at before step

-- ---- the end of a connection

-- how a step ends the connection, if it does: with an error that GOAWAY has, or for want of memory
abbrev pub ends_if_refused : AdmitFault → Option Ending
ends_if_refused refused.TooMany = None
ends_if_refused refused.Draining = None
ends_if_refused refused.NotNew = Some (ConnectionError ProtocolError)
ends_if_refused refused.OutOfMemory = Some RanOut

abbrev pub ends_by : Fate → Option Ending
ends_by (TurnedAway fault) = ends_if_refused fault
ends_by (Received Overrun) = Some (ConnectionError FlowControlError)
ends_by Lacking = Some RanOut
ends_by (Unserved NoWorker) = Some RanOut
ends_by _ = None

abbrev pub ends_at : Step → Option Ending
ends_at (Told (events.Fatal cause) fate) = Some (ConnectionError (code_of cause))
ends_at (Told event fate) = ends_by fate
ends_at (CutOff id) = None
ends_at Drains = None
ends_at Lacks = Some RanOut

-- a reset of this stream that is to be written is among these orders
abbrev pub IsReset : ℕ → List Order → Type 0
IsReset id [] = ⊥
IsReset id (order ∷ orders) =
    ((code : ErrorCode) × (order ≡ Reset id code true)) ⊎ IsReset id orders
