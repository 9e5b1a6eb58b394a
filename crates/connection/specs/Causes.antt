-- The cause of each error code of an RST_STREAM (RFC 9113, sections 5.4.2, 6.4 and 7), and of each
-- refusal (RFC 9113, section 8.1; gRPC over HTTP/2, "Responses"). Lists of steps and runs have the
-- latest first, lists of orders the earliest.
use Rattle.std.specs.Prelude.{◌≡◌, ◌⊎◌, ℕ, true, false, List, [], ◌∷◌, ◌++◌, None, Some}
use Rattle.std.specs.List.{list_any}
use Rattle.callhead.specs.declared.fault.HeadFault.{HeadFault}
use Rattle.callhead.specs.declared.head.CallHead.{CallHead}
use Rattle.callhead.specs.StatusFields.{refusal_of, unknown_method}
use Rattle.connbook.specs.declared.answers.AdmitFault.{AdmitFault}
use Rattle.connbook.specs.declared.answers.AdmitFault.TheVariants as refused
use Rattle.connbook.specs.declared.answers.Receipt.TheVariants.{CallWindow}
use Rattle.h2frame.specs.declared.error_code.ErrorCode.{ErrorCode}
use Rattle.h2frame.specs.declared.error_code.ErrorCode.TheVariants as error
use Rattle.h2frame.specs.declared.frame.Frame.{Frame}
use Rattle.lists.specs.declared.field.Field.{Field}
use Rattle.outwriter.specs.declared.control.WriterOrder.TheVariants.{Open}
use Rattle.outwriter.specs.Parts.{Mark, Fields, End, Reset}
use Rattle.outwriter.specs.Steps.{Order, Taken, Granted, Written, Returned}
use Rattle.outwriter.specs.Steps.{Step as RunStep}
use Rattle.session.specs.declared.event.InEvent.TheVariants as events
use Rattle.readerloop.specs.Orders.{is_fed}
use Rattle.readerloop.specs.Steps.{
  Unknown,
  TurnedAway,
  Received,
  Missed,
  Step,
  Told,
  CutOff,
  WasTold,
}
use Rattle.writerloop.specs.Blamed.{WouldOverflow}
use Rattle.writerloop.specs.Orders.{IsAmong, ends_input}

-- this step was heard, after these
abbrev pub WasHeard : Step → List Step → List Step → Type 0
WasHeard step before told = (later : List Step) × (told ≡ later ++ step ∷ before)

-- ---- what the side that reads resets a stream for

-- Its call isn't admitted: either 64 are live, or no more are admitted.
pub record WasTurnedAway (id : ℕ) (told : List Step) : Type 0 where
  pub head : CallHead
  pub fault : AdmitFault
  pub before : List Step
  pub heard : WasHeard (Told (events.Open id head) (TurnedAway fault)) before told
  pub refuses : (fault ≡ refused.TooMany) ⊎ (fault ≡ refused.Draining)

-- DATA came past its window.
pub record IsOverWindow (id : ℕ) (told : List Step) : Type 0 where
  pub piece : List ℕ
  pub counted : ℕ
  pub before : List Step
  pub heard : WasHeard (Told (events.Data id piece counted) (Received CallWindow)) before told

-- Data came for its call, and the call's lane took none of it.
pub record LacksData (id : ℕ) (told : List Step) : Type 0 where
  pub piece : List ℕ
  pub counted : ℕ
  pub before : List Step
  pub heard : WasHeard (Told (events.Data id piece counted) Missed) before told

-- The input has ended while its call's half was open.
pub record WasCut (id : ℕ) (told : List Step) : Type 0 where
  pub before : List Step
  pub heard : WasHeard (CutOff id) before told
  pub open_half : is_fed id before ≡ true

-- Its head is malformed (section 8.1.1).
pub record IsMalformed (id : ℕ) (told : List Step) : Type 0 where
  pub fault : HeadFault
  pub heard : WasTold (events.BadHead id fault) told
  pub unanswered : refusal_of fault ≡ None

-- the cause of a code that no event of the stream names
abbrev pub HasOwnCause : ErrorCode → ℕ → List Step → Type 0
HasOwnCause error.ProtocolError id told = IsMalformed id told
HasOwnCause error.FlowControlError id told = IsOverWindow id told
HasOwnCause error.RefusedStream id told = WasTurnedAway id told
HasOwnCause error.Cancel id told = WasCut id told
HasOwnCause error.EnhanceYourCalm id told = LacksData id told
HasOwnCause _ id told = ⊥

-- An event is an error of the stream with this code, or the code has its own cause.
abbrev pub HasResetCause : ErrorCode → ℕ → List Step → Type 0
HasResetCause code id told = WasTold (events.StreamError id code) told ⊎ HasOwnCause code id told

-- ---- what the side that writes resets a stream for by itself

-- One of the orders opened its call, while the input went on.
pub record WasOpened (id : ℕ) (put : List Order) : Type 0 where
  pub front : List Order
  pub rest : List Order
  pub parts : put ≡ front ++ rest
  pub opens : IsAmong (Open id tt) front
  pub input : list_any ends_input front ≡ false

abbrev pub HasWriterCause : ErrorCode → ℕ → List Order → List RunStep → Type 0
HasWriterCause error.FlowControlError id put run = WouldOverflow id run
HasWriterCause error.InternalError id put run = WasOpened id put
HasWriterCause _ id put run = ⊥

-- the cause of a reset by either side
abbrev pub HasCauseOf : ErrorCode → ℕ → List Step → List Order → List RunStep → Type 0
HasCauseOf code id told put run = HasResetCause code id told ⊎ HasWriterCause code id put run

-- ---- what a run took, and what it wrote

-- the order was taken
abbrev pub WasTaken : Order → List RunStep → Type 0
WasTaken order [] = ⊥
WasTaken order (Taken found ∷ before) = (order ≡ found) ⊎ WasTaken order before
WasTaken order (Granted id n ∷ before) = WasTaken order before
WasTaken order (Written frame ∷ before) = WasTaken order before
WasTaken order (Returned id items ∷ before) = WasTaken order before

-- the frame was written
abbrev pub WasWritten : Frame → List RunStep → Type 0
WasWritten frame [] = ⊥
WasWritten frame (Taken order ∷ before) = WasWritten frame before
WasWritten frame (Granted id n ∷ before) = WasWritten frame before
WasWritten frame (Written found ∷ before) = (frame ≡ found) ⊎ WasWritten frame before
WasWritten frame (Returned id items ∷ before) = WasWritten frame before

-- ---- streams without a call

-- The stream began with a head that is refused with these fields, or with the head of a call whose
-- path no method has.
abbrev pub IsRefusedWith : (List ℕ → ℕ → Type 0) → ℕ → List Field → List Step → Type 0
IsRefusedWith names id fields told =
    ((fault : HeadFault) × WasTold (events.BadHead id fault) told
    × (refusal_of fault ≡ Some fields))
    ⊎ ((head : CallHead) × (before : List Step)
    × WasHeard (Told (events.Open id head) Unknown) before told
    × ((index : ℕ) → names head.path index → ⊥) × (fields ≡ unknown_method))

-- The frames of the stream are none, an RST_STREAM, or one header block with the fields of its
-- refusal, which ends the stream.
abbrev pub IsRefusal : (List ℕ → ℕ → Type 0) → ℕ → List Step → List Mark → Type 0
IsRefusal names id told part = (part ≡ [])
    ⊎ (((code : ℕ) × (part ≡ Reset code ∷ []))
    ⊎ ((fields : List Field) × IsRefusedWith names id fields told
    × (part ≡ Fields fields ∷ End ∷ [])))
