-- What a connection's writer did: a run of its core, and the bytes of the run's frames.
use Rattle.std.specs.Prelude.{
  ◌≡◌,
  ◌≢◌,
  ℕ,
  Bool,
  true,
  false,
  List,
  [],
  ◌∷◌,
  ◌++◌,
  map,
  Option,
  None,
  Some,
  Ok,
}
use Rattle.account.specs.declared.call.OutItem.{OutItem}
use Rattle.callbox.specs.declared.sender.Sender.{Sender}
use Rattle.h2frame.specs.declared.frame.Frame.{Frame}
use Rattle.h2frame.specs.Spelling.{spelled}
use Rattle.outwriter.specs.declared.control.WriterOrder.{WriterOrder}
use Rattle.outwriter.specs.Cores.{Brings, IsAtRest, Leads}
use Rattle.outwriter.specs.Steps.{Step, Written, frames_of}
use Rattle.writerloop.specs.declared.fill_end.FillEnd.{FillEnd}
use Rattle.writerloop.specs.declared.fill_end.FillEnd.TheVariants.{Full, Idle, Over, Stopped}
use Rattle.writerloop.specs.declared.standing.Standing.TheVariants.{Going, Broken}
use Rattle.writerloop.specs.declared.order_outcome.OrderOutcome.{OrderOutcome}
use Rattle.writerloop.specs.declared.order_outcome.OrderOutcome.TheVariants.{
  Done,
  Ended,
  Unanswered,
  HandedBack,
}
use Rattle.writerloop.specs.declared.frames.Frames.{Frames}
use Rattle.writerloop.specs.Spelled.{Holds, ended_by}

module _ {L In Out Shut : Type 0} where
  -- an Open that is taken adds its sender after the others; nothing else changes them
  abbrev pub BringsBy : OrderOutcome (Sender L In Out Shut) → WriterOrder (Sender L In Out Shut)
      → List (ℕ × Sender L In Out Shut) → List (ℕ × Sender L In Out Shut) → Type 0
  BringsBy Done control old new = Brings (Ok tt) control old new
  BringsBy (Ended id) control old new = new ≡ old
  BringsBy (Unanswered id) control old new = new ≡ old
  BringsBy (HandedBack back) control old new = new ≡ old

module _ {L In Out Shut W : Type 0} where
  -- This run led to the writer, whose device had something before it.
  pub record Wrote (got : Out → List OutItem) (contents : W → Option (List ℕ)) (failed : W → Bool)
      (before : Option (List ℕ)) (run : List Step)
      (writer : Frames L W In Out Shut) : Type 0 where
    pub leads : Leads got run writer.core
    pub bytes :
        Holds writer.standing (frames_of run) before (contents writer.device) writer.buffer.items
        writer.ended.items
    pub marked : writer.standing ≡ Broken → failed writer.device ≡ true

  -- whatever run led to the writer before, these steps lead on from it to the writer after
  abbrev pub WritesOn : (Out → List OutItem) → (W → Option (List ℕ)) → (W → Bool) → List Step
      → Frames L W In Out Shut → Frames L W In Out Shut → Type 0
  WritesOn got contents failed steps old new =
      (before : Option (List ℕ)) (run : List Step) → Wrote got contents failed before run old
      → Wrote got contents failed before (steps ++ run) new

  -- Why the buffer isn't filled further: nothing more comes only where a Close was taken, of a core
  -- that lives, and nothing comes now where none was.
  abbrev pub Rests : (Out → List OutItem) → FillEnd → List Step → Frames L W In Out Shut → Type 0
  Rests ahead Full run writer = Unit {0}
  Rests ahead Idle run writer = IsAtRest ahead run writer.core × (writer.core.closed ≡ false)
  Rests ahead Over run writer =
      IsAtRest ahead run writer.core × (writer.core.closed ≡ true) × (writer.core.is_dead ≡ false)
  Rests ahead Stopped run writer = writer.standing ≢ Going

  abbrev pub RestsIf : (Out → List OutItem) → Option FillEnd → List Step
      → Frames L W In Out Shut → Type 0
  RestsIf ahead None run writer = Unit {0}
  RestsIf ahead (Some filled) run writer = Rests ahead filled run writer

  -- whatever run led to the writer before, frames lead from it to the writer after
  abbrev pub Fills : (Out → List OutItem) → (Out → List OutItem) → (W → Option (List ℕ))
      → (W → Bool) → Option FillEnd
      → Frames L W In Out Shut → Frames L W In Out Shut → Type 0
  Fills got ahead contents failed filled old new =
      (before : Option (List ℕ)) (run : List Step) → Wrote got contents failed before run old
      → (frames : List Frame) × Wrote got contents failed before (map Written frames ++ run) new
      × RestsIf ahead filled (map Written frames ++ run) new

  -- ---- one frame

  -- the frame is in the buffer
  pub record Puts (frame : Frame) (old new : Frames L W In Out Shut) : Type 0 where
    pub core : new.core ≡ old.core
    pub standing : new.standing ≡ old.standing
    pub device : new.device ≡ old.device
    pub buffer : new.buffer.items ≡ old.buffer.items ++ spelled frame
    pub ended : new.ended.items ≡ old.ended.items ++ ended_by (frame ∷ [])
