-- When the reading side may refuse what the peer sends: how many calls may be live at once (RFC
-- 9113, section 5.1.2), how many bytes of DATA may come (section 6.9.1), and that no more calls are
-- admitted once the server drains (section 6.8). Lists of steps have the latest first.
use Rattle.std.specs.Prelude.{◌≡◌, ◌≤◌, ◌<◌, ◌+◌, ℕ, Bool, true, All, List, [], ◌∷◌, ◌++◌, length}
use Rattle.callhead.specs.declared.head.CallHead.{CallHead}
use Rattle.connbook.specs.declared.answers.AdmitFault.{AdmitFault}
use Rattle.connbook.specs.declared.answers.AdmitFault.TheVariants as refused
use Rattle.connbook.specs.declared.answers.Receipt.{Receipt}
use Rattle.connbook.specs.declared.answers.Receipt.TheVariants as receipt
use Rattle.session.specs.declared.event.InEvent.{InEvent}
use Rattle.session.specs.declared.event.InEvent.TheVariants as events
use Rattle.session.specs.FlowBytes.{counted_by, counted_told}
use Rattle.readerloop.specs.Orders.{IsDue}
use Rattle.readerloop.specs.Steps.{
  Received,
  Missed,
  Lacking,
  Stopped,
  TurnedAway,
  Unknown,
  Unserved,
  Step,
  Told,
  CutOff,
  Drains,
  Lacks,
  events_of,
  is_draining,
  reported,
}

-- A call may be turned away after 64 or more were admitted, where the server drains, for want of
-- memory, or since its id doesn't rise.
abbrev pub MayTurnAway : ℕ → Bool → AdmitFault → Type 0
MayTurnAway calls draining refused.TooMany = 64 ≤ calls
MayTurnAway calls draining refused.Draining = draining ≡ true
MayTurnAway calls draining refused.NotNew = Unit {0}
MayTurnAway calls draining refused.OutOfMemory = Unit {0}

-- DATA are past a window only where more bytes of them came, padding too, than a new window has
abbrev pub MayRefuse : ℕ → Receipt → Type 0
MayRefuse came receipt.CallWindow = 65535 < came
MayRefuse came receipt.Overrun = 65535 < came
MayRefuse came receipt.Feed = Unit {0}
MayRefuse came receipt.Discard = Unit {0}

-- a piece is missed, and there is no memory for one, only where it has bytes, and its call's half
-- was open
abbrev pub IsDueOf : InEvent → List Step → Type 0
IsDueOf (events.Data id piece counted) before = IsDue id piece before
IsDueOf _ before = Unit {0}

-- what a step refuses may be refused, after the calls and the bytes of these
abbrev pub IsJustified : Step → List Step → Type 0
IsJustified (Told event (TurnedAway fault)) before =
    MayTurnAway (length (reported before)) (is_draining before) fault
IsJustified (Told event (Received found)) before =
    MayRefuse (counted_told (events_of before) + counted_by event) found
IsJustified (Told event Missed) before = IsDueOf event before
IsJustified (Told event Lacking) before = IsDueOf event before
IsJustified _ before = Unit {0}

abbrev pub AreJustified : List Step → Type 0
AreJustified [] = Unit {0}
AreJustified (step ∷ before) = IsJustified step before × AreJustified before

-- ---- calls that are refused, or passed over

-- A call is refused as one of an unknown method only where no index has its path. A call that was
-- admitted is left without a worker, because the writer has stopped, only where the writer was seen
-- to have stopped.
abbrev pub IsFounded : (List ℕ → ℕ → Type 0) → Bool → Step → Type 0
IsFounded names stopped (Told (events.Open id head) Unknown) =
    (index : ℕ) → names head.path index → ⊥
IsFounded names stopped (Told (events.Open id head) (Unserved Stopped)) = stopped ≡ true
IsFounded names stopped _ = Unit {0}

abbrev pub AreFounded : (List ℕ → ℕ → Type 0) → Bool → List Step → Type 0
AreFounded names stopped [] = Unit {0}
AreFounded names stopped (step ∷ before) =
    IsFounded names stopped step × AreFounded names stopped before

-- ---- the end of the input

-- no call was cut
abbrev pub AreGoing : List Step → Type 0
AreGoing [] = Unit {0}
AreGoing (Told event fate ∷ before) = AreGoing before
AreGoing (CutOff id ∷ before) = ⊥
AreGoing (Drains ∷ before) = AreGoing before
AreGoing (Lacks ∷ before) = AreGoing before

-- cuts come last: no event was heard after the first of them
pub record EndsLast (told : List Step) : Type 0 where
  pub cuts : List Step
  pub heard : List Step
  pub parts : told ≡ cuts ++ heard
  pub silent : events_of cuts ≡ []
  pub going : AreGoing heard

-- The call was cut, after the last event.
pub record WasCutLast (id : ℕ) (told : List Step) : Type 0 where
  pub before : List Step
  pub later : List Step
  pub parts : told ≡ later ++ CutOff id ∷ before
  pub silent : events_of later ≡ []

-- ---- what the reader has counted in the credit book

-- calls that were admitted, and bytes of DATA that came
pub record Tally : Type 0 where
  pub calls : ℕ
  pub came : ℕ

abbrev pub one_more : Tally → Tally
one_more tally = record tally { calls = tally.calls + 1 }

-- the steps admit at least the calls of the tally, and have at least its bytes
pub record Covers (told : List Step) (tally : Tally) : Type 0 where
  pub calls : tally.calls ≤ length (reported told)
  pub came : tally.came ≤ counted_told (events_of told)

-- ---- a call too many

-- A call of this stream was turned away after at least 64 were admitted, all of them on lesser
-- streams.
pub record IsOneTooMany (id : ℕ) (told : List Step) : Type 0 where
  pub head : CallHead
  pub before : List Step
  pub later : List Step
  pub parts : told ≡ later ++ Told (events.Open id head) (TurnedAway refused.TooMany) ∷ before
  pub many : 64 ≤ length (reported before)
  pub lesser : All (λ other. other < id) (reported before)

-- A call of this stream was turned away after a drain.
pub record WasDrained (id : ℕ) (told : List Step) : Type 0 where
  pub head : CallHead
  pub before : List Step
  pub later : List Step
  pub parts : told ≡ later ++ Told (events.Open id head) (TurnedAway refused.Draining) ∷ before
  pub draining : is_draining before ≡ true
