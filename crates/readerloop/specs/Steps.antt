-- What the reader of a connection hears, and what it makes of the client's half of each call (RFC
-- 9113, sections 5.1, 5.4.2, 6.4, 6.8 and 6.9.1). A list of steps has the latest first.
use Rattle.std.specs.Prelude.{
  ◌≡◌,
  ◌<◌,
  ◌&&◌,
  ◌||◌,
  ℕ,
  Bool,
  true,
  false,
  nat_eq,
  if◌then◌else◌,
  List,
  [],
  ◌∷◌,
  ◌++◌,
  Option,
  Some,
  None,
  MatchOption,
  unwrap_or,
}
use Rattle.std.specs.List.{list_any}
use Rattle.std.specs.Option.{is_some}
use Rattle.account.specs.declared.call.Shut.{Shut}
use Rattle.account.specs.declared.call.Shut.TheVariants as shut
use Rattle.callhead.specs.declared.head.CallHead.{CallHead}
use Rattle.connbook.specs.declared.answers.AdmitFault.{AdmitFault}
use Rattle.connbook.specs.declared.answers.Receipt.{Receipt}
use Rattle.connbook.specs.declared.answers.Receipt.TheVariants.{Discard, CallWindow, Overrun}
use Rattle.h2frame.specs.declared.error_code.ErrorCode.{ErrorCode}
use Rattle.h2frame.specs.declared.error_code.ErrorCode.TheVariants.{
  InternalError,
  FlowControlError,
  Cancel,
  EnhanceYourCalm,
}
use Rattle.h2frame.specs.ErrorCode.{error_number}
use Rattle.session.specs.declared.event.InEvent.{InEvent}
use Rattle.session.specs.declared.event.InEvent.TheVariants as events
use Rattle.session.specs.StreamData.{Finished, ending_told, piece_of}

-- Why no worker serves a call that the lock admitted: there was no memory for one, or no thread; or
-- the writing side had stopped.
pub data Lack : Type 0 where
  NoWorker : Lack
  Stopped : Lack

-- What became of an event. Nothing was to be answered; or, of a call that begins, the lock admitted
-- it, and a worker serves it or none does, or its path names no method, or the lock turned it away;
-- or, of bytes that came, what the lock said of them, or that the call's lane refused them when
-- they were to be fed; or there was no memory for what the event leads to.
pub data Fate : Type 0 where
  Plain : Fate
  Admitted : Fate
  Unserved : Lack → Fate
  Unknown : Fate
  TurnedAway : AdmitFault → Fate
  Received : Receipt → Fate
  Missed : Fate
  Lacking : Fate

-- An event came; or the input has ended, and the call of a stream hears no more; or the server
-- drains, which admits no more calls (section 6.8); or there was no memory for what came, and the
-- connection ends with an error (section 5.4.1).
pub data Step : Type 0 where
  Told : InEvent → Fate → Step
  CutOff : ℕ → Step
  Drains : Step
  Lacks : Step

-- ---- calls that were admitted

-- the call that the lock admits by a step; it has an account in the report
abbrev pub reported_by : Step → Option ℕ
reported_by (Told (events.Open id head) Admitted) = Some id
reported_by (Told (events.Open id head) (Unserved why)) = Some id
reported_by _ = None

-- the call that the lock admits and a worker serves: such calls are meant below
abbrev pub admitted_by : Step → Option ℕ
admitted_by (Told (events.Open id head) Admitted) = Some id
admitted_by _ = None

abbrev pub is_of : ℕ → Option ℕ → Bool
is_of id None = false
is_of id (Some other) = nat_eq id other

abbrev pub once : {A : Type 0} → Option A → List A
once None = []
once (Some x) = x ∷ []

-- the ids of all that have an account, the earliest first
abbrev pub reported : List Step → List ℕ
reported [] = []
reported (step ∷ before) = reported before ++ once (reported_by step)

-- a call was admitted with this head, and no worker serves it
abbrev pub WasUnserved : ℕ → CallHead → List Step → Type 0
WasUnserved id head told =
    (before : List Step) × (after : List Step) × (why : Lack)
    × (told ≡ after ++ Told (events.Open id head) (Unserved why) ∷ before)

-- the ids of those that are served, the earliest first, and the latest of them, 0 for none
abbrev pub admitted : List Step → List ℕ
admitted [] = []
admitted (step ∷ before) = admitted before ++ once (admitted_by step)

abbrev pub last_of : List Step → ℕ
last_of [] = 0
last_of (step ∷ before) = unwrap_or (admitted_by step) (last_of before)

-- each id is above those before it (section 5.1.1)
abbrev pub IsRising : List Step → Type 0
IsRising [] = Unit {0}
IsRising (step ∷ before) =
    MatchOption (admitted_by step) (Unit {0}) (λ id. last_of before < id) × IsRising before

-- ---- the end while calls go on

abbrev pub is_drain : Step → Bool
is_drain Drains = true
is_drain _ = false

-- the server drains
abbrev pub is_draining : List Step → Bool
is_draining [] = false
is_draining (step ∷ before) = is_drain step || is_draining before

-- after a drain no call is admitted
abbrev pub AdmitsNoMore : List Step → Type 0
AdmitsNoMore [] = Unit {0}
AdmitsNoMore (step ∷ before) =
    (is_draining before ≡ true → reported_by step ≡ None) × AdmitsNoMore before

-- ---- since a call was admitted

-- what was heard since a call was admitted
abbrev pub since : ℕ → List Step → List Step
since id [] = []
since id (step ∷ before) = if is_of id (admitted_by step) then [] else step ∷ since id before

-- the head of the call that a step admits
abbrev pub head_at : Step → Option CallHead
head_at (Told (events.Open id head) Admitted) = Some head
head_at _ = None

-- the head with which a call was admitted
abbrev pub head_of : ℕ → List Step → Option CallHead
head_of id [] = None
head_of id (step ∷ before) = if is_of id (admitted_by step) then head_at step else head_of id before

-- ---- the client's half of a call

abbrev pub data_at : ℕ → Step → List ℕ
data_at id (Told event fate) = piece_of id event
data_at id (CutOff other) = []
data_at id Drains = []
data_at id Lacks = []

-- How a half closes: it is shut; or the call misses a piece, which no call takes any more. How such
-- a half ends isn't recorded.
pub data Closing : Type 0 where
  ShutAs : Shut → Closing
  Misses : Closing

-- a call misses bytes that no call takes; a piece of padding alone is no loss
abbrev pub missed : List ℕ → Option Closing
missed [] = None
missed (byte ∷ bytes) = Some Misses

-- it is reset with this error
abbrev pub fails_as : ErrorCode → Closing
fails_as code = ShutAs (shut.Reset (error_number code))

-- how the half closes by a piece that isn't fed
abbrev pub lost : List ℕ → Fate → Option Closing
lost piece (Received Discard) = missed piece
lost piece (Received CallWindow) = Some (fails_as FlowControlError)
lost piece (Received Overrun) = Some (fails_as FlowControlError)
lost piece Missed = Some (fails_as EnhanceYourCalm)
lost piece Lacking = Some (fails_as InternalError)
lost piece _ = None

-- how a step closes the half, if it does
abbrev pub closing_at : ℕ → Step → Option Closing
closing_at id (Told (events.Data other piece counted) fate) =
    if nat_eq id other then lost piece fate else None
closing_at id (Told (events.End other) fate) =
    if nat_eq id other then Some (ShutAs shut.End) else None
closing_at id (Told (events.Reset other code) fate) =
    if nat_eq id other then Some (fails_as code) else None
closing_at id (Told (events.StreamError other code) fate) =
    if nat_eq id other then Some (fails_as code) else None
closing_at id (CutOff other) = if nat_eq id other then Some (fails_as Cancel) else None
closing_at id _ = None

-- the first of two
abbrev pub earlier : Option Closing → Option Closing → Option Closing
earlier None later = later
earlier (Some closing) later = Some closing

-- the half is closed by the first step that does so
abbrev pub closing_by : ℕ → List Step → Option Closing
closing_by id [] = None
closing_by id (step ∷ before) = earlier (closing_by id before) (closing_at id step)

abbrev pub shut_in : Option Closing → Option Shut
shut_in None = None
shut_in (Some (ShutAs kind)) = Some kind
shut_in (Some Misses) = None

-- how the half is shut by that step, if it is
abbrev pub shut_by : ℕ → List Step → Option Shut
shut_by id steps = shut_in (closing_by id steps)

abbrev pub unless : Option Closing → List ℕ → List ℕ
unless None bytes = bytes
unless (Some closing) bytes = []

-- what it is fed: the data that came before it was closed
abbrev pub fed_by : ℕ → List Step → List ℕ
fed_by id [] = []
fed_by id (step ∷ before) =
    fed_by id before ++ unless (closing_by id (step ∷ before)) (data_at id step)

-- the events that came, the earliest first
abbrev pub events_of : List Step → List InEvent
events_of [] = []
events_of (Told event fate ∷ before) = events_of before ++ event ∷ []
events_of (CutOff id ∷ before) = events_of before
events_of (Drains ∷ before) = events_of before
events_of (Lacks ∷ before) = events_of before

-- this event came
abbrev pub WasTold : InEvent → List Step → Type 0
WasTold event told =
    (before : List InEvent) × (after : List InEvent) × (events_of told ≡ before ++ event ∷ after)

-- ---- what lets a call's half go

-- whether a step lets the half go, whatever the client does to the stream: a piece is lost, or no
-- more of the stream is heard
abbrev pub lets_go : ℕ → Step → Bool
lets_go id (Told (events.Data other piece counted) fate) =
    nat_eq id other && is_some (lost piece fate)
lets_go id (CutOff other) = nat_eq id other
lets_go id _ = false

-- This step let the open half of a call go, and so closed it. END_STREAM came only later.
pub record WasLetGo (id : ℕ) (closing : Closing) (told : List Step) : Type 0 where
  pub later : List Step
  pub step : Step
  pub before : List Step
  pub parts : told ≡ later ++ step ∷ before
  pub heard : since id told ≡ later ++ step ∷ since id before
  pub known : list_any (nat_eq id) (admitted before) ≡ true
  pub unshut : closing_by id (since id before) ≡ None
  pub lets : lets_go id step ≡ true
  pub closes : closing_at id step ≡ Some closing
  pub ended : ending_told id (events_of later) ≡ Finished
