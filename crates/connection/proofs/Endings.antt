-- How a connection ends, by what its reader saw and how its writer ended.
use Rattle.std.proofs.Common.{
  ◌≡◌,
  ◌≢◌,
  ◌∙◌,
  ◌⊎◌,
  inl,
  inr,
  Bool,
  true,
  false,
  true≢false,
  Option,
  None,
  Some,
  ap,
  refl,
  sym,
}
use Rattle.std.specs.Prelude.{IfSome}
use Rattle.callparts.specs.declared.report.Ending.{Ending}
use Rattle.callparts.specs.declared.report.Ending.TheVariants.{
  InputEnded,
  PeerGoaway,
  ProtocolError,
  ReadFailed,
  WriteFailed,
  OutOfMemory,
  Drained,
}
use Rattle.connbook.specs.declared.answers.AdmitFault.{AdmitFault}
use Rattle.connbook.specs.declared.answers.AdmitFault.TheVariants as refused
use Rattle.connbook.specs.declared.answers.Receipt.TheVariants.{Feed, Discard, CallWindow, Overrun}
use Rattle.h2frame.specs.declared.error_code.ErrorCode.{ErrorCode}
use Rattle.session.specs.declared.event.InEvent.TheVariants as events
use Rattle.readerloop.specs.Orders.{ends_at, ends_by, ends_if_refused}
use Rattle.readerloop.specs.Reports.{is_heard_out}
use Rattle.readerloop.specs.Steps.{
  NoWorker,
  Stopped,
  Fate,
  Plain,
  Admitted,
  Unserved,
  Unknown,
  TurnedAway,
  Received,
  Missed,
  Lacking,
  Step,
  Told,
  CutOff,
  Drains,
  Lacks,
}
use Rattle.writerloop.specs.declared.writer_ending.WriterEnding.{WriterEnding}
use Rattle.writerloop.specs.declared.writer_ending.WriterEnding.TheVariants as writer
use Rattle.writerloop.specs.Endings.{ending_of, ending_told}
use Rattle.connection.specs.Endings.{ended_by, unless_lacked}

-- ---- no step ends a connection by a failed write

refused-unbroken : (fault : AdmitFault) → IfSome (ends_if_refused fault) (λ end. end ≢ WriteFailed)
refused-unbroken refused.TooMany = tt
refused-unbroken refused.Draining = tt
refused-unbroken refused.NotNew = λ broke. cc
refused-unbroken refused.OutOfMemory = λ broke. cc

by-unbroken : (fate : Fate) → IfSome (ends_by fate) (λ end. end ≢ WriteFailed)
by-unbroken Plain = tt
by-unbroken Admitted = tt
by-unbroken Unknown = tt
by-unbroken (TurnedAway fault) = refused-unbroken fault
by-unbroken (Received Feed) = tt
by-unbroken (Received Discard) = tt
by-unbroken (Received CallWindow) = tt
by-unbroken (Received Overrun) = λ broke. cc
by-unbroken Missed = tt
by-unbroken Lacking = λ broke. cc
by-unbroken (Unserved NoWorker) = λ broke. cc
by-unbroken (Unserved Stopped) = tt

pub ends-unbroken : (step : Step) → IfSome (ends_at step) (λ end. end ≢ WriteFailed)
ends-unbroken (Told (events.Fatal cause) fate) = λ broke. cc
ends-unbroken (Told (events.Open id head) fate) = by-unbroken fate
ends-unbroken (Told (events.BadHead id fault) fate) = by-unbroken fate
ends-unbroken (Told (events.Data id piece counted) fate) = by-unbroken fate
ends-unbroken (Told (events.Loose counted) fate) = by-unbroken fate
ends-unbroken (Told (events.End id) fate) = by-unbroken fate
ends-unbroken (Told (events.Reset id code) fate) = by-unbroken fate
ends-unbroken (Told (events.StreamError id code) fate) = by-unbroken fate
ends-unbroken (Told (events.Control control) fate) = by-unbroken fate
ends-unbroken (Told events.PeerGoaway fate) = by-unbroken fate
ends-unbroken (CutOff id) = tt
ends-unbroken Drains = tt
ends-unbroken Lacks = λ broke. cc

-- ---- of both sides

-- What a connection's ending says, where its reader and its writer saw these, and where orders were
-- dropped or not.
pub record Meets (read ending : Ending) (written : Option Ending)
    (has_dropped : Bool) : Type 0 where
  pub memory : written ≡ Some OutOfMemory → ending ≡ OutOfMemory
  pub broken : written ≡ Some WriteFailed → ending ≢ OutOfMemory → ending ≡ WriteFailed
  pub marked : ending ≡ WriteFailed → written ≡ Some WriteFailed
  pub dropped : ending ≢ OutOfMemory → has_dropped ≡ false
  pub input : is_heard_out ending ≡ true → ending ≡ read
  pub whole : is_heard_out ending ≡ true → written ≡ None
  pub blamed : (code : ErrorCode) → ending ≡ ProtocolError code
      → (read ≡ ProtocolError code) ⊎ (written ≡ Some (ProtocolError code))

-- the writer's end is told, or want of memory
told-so : (read end : Ending)
    → (unless_lacked read end ≡ OutOfMemory) ⊎ (unless_lacked read end ≡ end)
told-so InputEnded end = inr refl
told-so PeerGoaway end = inr refl
told-so (ProtocolError code) end = inr refl
told-so ReadFailed end = inr refl
told-so WriteFailed end = inr refl
told-so OutOfMemory end = inl refl
told-so Drained end = inr refl

pub spared-so : (read end : Ending) → (read ≡ OutOfMemory → ⊥) → unless_lacked read end ≡ end
spared-so InputEnded end spared = refl
spared-so PeerGoaway end spared = refl
spared-so (ProtocolError code) end spared = refl
spared-so ReadFailed end spared = refl
spared-so WriteFailed end spared = refl
spared-so OutOfMemory end spared = absurd (spared refl)
spared-so Drained end spared = refl

heard-not : {P : Type 0} (one other : Ending) → one ≡ other → is_heard_out other ≡ false
    → is_heard_out one ≡ true → P
heard-not one other is not out =
    absurd (true≢false (sym out ∙ (ap (λ (e : Ending). is_heard_out e) is ∙ not)))

harsh : (end : WriterEnding) → is_heard_out (ending_of end) ≡ false
harsh writer.OutOfMemory = refl
harsh writer.WriteFailed = refl
harsh (writer.ProtocolError code) = refl

meets-end : (read ending end : Ending) → is_heard_out end ≡ false
    → (ending ≡ OutOfMemory) ⊎ (ending ≡ end) → Meets read ending (Some end) false
meets-end read ending end harsh (inl lacked) = record {
  memory = λ is. lacked;
  broken = λ is spared. absurd (spared lacked);
  marked = λ is. absurd cc;
  dropped = λ spared. refl;
  input = λ out. heard-not ending OutOfMemory lacked refl out;
  whole = λ out. heard-not ending OutOfMemory lacked refl out;
  blamed = λ code is. absurd cc;
}
meets-end read ending end harsh (inr told) = record {
  memory = λ is. cc;
  broken = λ is spared. cc;
  marked = λ is. ap Some (sym told ∙ is);
  dropped = λ spared. refl;
  input = λ out. heard-not ending end told harsh out;
  whole = λ out. heard-not ending end told harsh out;
  blamed = λ code is. inr (ap Some (sym told ∙ is));
}

-- so the ending of both says
pub meets : (read : Ending) (written : Option WriterEnding) (has_dropped : Bool)
    → read ≢ WriteFailed
    → Meets read (ended_by read written has_dropped) (ending_told written) has_dropped
meets read written true unbroken = record {
  memory = λ is. refl;
  broken = λ is spared. absurd (spared refl);
  marked = λ is. absurd cc;
  dropped = λ spared. absurd (spared refl);
  input = λ out. heard-not OutOfMemory OutOfMemory refl refl out;
  whole = λ out. heard-not OutOfMemory OutOfMemory refl refl out;
  blamed = λ code is. absurd cc;
}
meets read None false unbroken = record {
  memory = λ is. absurd cc;
  broken = λ is spared. absurd cc;
  marked = λ is. absurd (unbroken is);
  dropped = λ spared. refl;
  input = λ out. refl;
  whole = λ out. refl;
  blamed = λ code is. inl is;
}
meets read (Some end) false unbroken =
    meets-end read (unless_lacked read (ending_of end)) (ending_of end) (harsh end)
    (told-so read (ending_of end))

-- without memory for its reader it ends so
pub lacked-by : (written : Option WriterEnding) (has_dropped : Bool)
    → ended_by OutOfMemory written has_dropped ≡ OutOfMemory
lacked-by written true = refl
lacked-by None false = refl
lacked-by (Some end) false = refl

pub untold : (written : Option WriterEnding) → ending_told written ≡ None → written ≡ None
untold None is = refl
untold (Some end) is = absurd cc
