-- DATA of a message: how much of it is taken, and what that changes.
use Rattle.std.proofs.Common.{
  ◌≡◌,
  ℕ,
  ℤ,
  ◌<◌,
  ◌≤◌,
  refl,
  sym,
  ap,
  subst,
  ◌∙◌,
  List,
  [],
  ◌∷◌,
  ◌++◌,
  Option,
  Some,
  None,
  length,
  arith,
}
use Rattle.std.specs.Prelude.{drop, take, map, IfNone, IfSome}
use Rattle.std.proofs.lemmas.List.{length-take-le, take-append-drop}
use Rattle.sendwindows.specs.Windows.{SharedWindow, Windows, room}
use Rattle.h2frame.specs.declared.frame.Frame.{Frame}
use Rattle.outwriter.specs.declared.sending.Sending.{Sending}
use Rattle.outwriter.specs.declared.outbound.Outbound.{Outbound}
use Rattle.outwriter.specs.declared.stream.NextData.{NextData}
use Rattle.outwriter.specs.declared.stream.NextData.TheVariants as looked
use Rattle.outwriter.specs.Data.{CutsData, Spends, TakesFrames, TakesData}
use Rattle.outwriter.specs.Frames.{IsSound, data_frame}
use Rattle.outwriter.specs.OpenStreams.{HandIs, kept}
use Rattle.outwriter.specs.Parts.{Mark, Byte, on_stream}
use Rattle.outwriter.specs.RunState.{IsBetween, Progress, SameButOpen, SameOwn}
use Rattle.outwriter.specs.States.{open_at, owed_on}
use Rattle.outwriter.specs.Steps.{Written}
use Rattle.outwriter.specs.StreamLooks.{frame_in}
use Rattle.outwriter.specs.ToldByNow.{Spells, SpellsOf, TellsMore}
use Rattle.outwriter.proofs.EndSteps.{data-written}
use Rattle.outwriter.proofs.RunStateSteps.{mirrors-but-open, mirrors-moved}
use Rattle.outwriter.proofs.ServeSteps.{append-nil}
use Rattle.outwriter.proofs.SoundFrames.{sound-data}
use Rattle.outwriter.proofs.TellSteps.{plain-tells}

-- ---- what is taken

pub data-cut : (id len : ℕ) (from to : SharedWindow) (was now : Option ℤ)
    (message front rest : List ℕ) (frame : Frame)
    → front ≡ take len message → rest ≡ drop len message → len ≤ length message → 0 < len
    → len ≤ 16384 → frame ≡ data_frame id front
    → Spends from to was now len → CutsData id from to was now message rest (looked.Frame frame)
data-cut id len from to was now message front rest frame is rest_is within some short made spends =
    let size : length front ≡ len = ap length is ∙ length-take-le len message within in (
      front,
      sym (take-append-drop len message) ∙ ap (λ (l : List ℕ). l ++ drop len message) (sym is)
          ∙ ap (λ (l : List ℕ). front ++ l) (sym rest_is),
      made,
      omega (arith, size, some),
      omega (arith, size, short),
      subst (Spends from to was now) (sym size) spends,
    )

-- ---- what it changes of a writer

same-windows : (o after : Outbound)
    → after
    ≡ record o {
      states = record o.states { opened = after.states.opened; windows = after.states.windows };
    } → after.states.windows ≡ o.states.windows
    → SameButOpen o after
same-windows o after is same =
    is
    ∙ ap (λ (w : Windows).
    record o { states = record o.states { opened = after.states.opened; windows = w } }) same

between-still : (o after : Outbound) → SameButOpen o after → IsBetween o → IsBetween after
between-still o after same between =
    subst IsBetween (sym same)
    (record { begun = between.begun; going = between.going; no_block = between.no_block })

module _ (o after : Outbound) (id : ℕ) (message rest : List ℕ) (between : IsBetween o)
    (can : TakesFrames o.states id)
    (is : after
    ≡ record o {
      states = record o.states { opened = after.states.opened; windows = after.states.windows };
    }) where
  pub data-progress : (found : NextData)
      → TakesData id o.states.windows after.states.windows message rest found
      → Progress (frame_in found) o after
  data-progress (looked.Frame frame) takes = λ run m.
      let next =
      data-written run o.begun o.gone o.states.windows after.states.windows o.due.items o.block
      o.states id takes.0 frame takes.2 between.begun between.going between.no_block
      can.not_over can.not_reset takes.3 takes.4 (takes.5 can.stream) takes.6 m in (
        next.0,
        mirrors-but-open (Written frame ∷ run)
            (record o { states = record o.states { windows = after.states.windows } }) after is
            (mirrors-moved (Written frame ∷ run) o.begun o.gone after.states.windows
            after.states.windows o.due.items o.block o.states next.1),
      )
  data-progress looked.Nothing takes =
      let same = same-windows o after is takes.1 in
      (λ run m. mirrors-but-open run o after same m, between-still o after same between)
  data-progress looked.Empty takes =
      let same = same-windows o after is takes.1 in
      (λ run m. mirrors-but-open run o after same m, between-still o after same between)

  pub data-sound : (found : NextData)
      → TakesData id o.states.windows after.states.windows message rest found
      → IfSome (frame_in found) IsSound
  data-sound (looked.Frame frame) takes =
      subst IsSound (sym takes.2) (sound-data id takes.0 can.stream can.number takes.4)
  data-sound looked.Nothing takes = tt
  data-sound looked.Empty takes = tt

  own-still : SameButOpen o after → SameOwn o after
  own-still same = (
    ap (λ (x : Outbound). x.due) same,
    λ k. ap (λ (x : Outbound). owed_on x.states k) same,
    ap (λ (x : Outbound). x.block) same,
  )

  pub data-own : (found : NextData)
      → TakesData id o.states.windows after.states.windows message rest found
      → IfNone (frame_in found) (SameOwn o after)
  data-own (looked.Frame frame) takes = tt
  data-own looked.Nothing takes = own-still (same-windows o after is takes.1)
  data-own looked.Empty takes = own-still (same-windows o after is takes.1)

  tells-front : (front : List ℕ) (frame : Frame) → frame ≡ data_frame id front
      → TellsMore frame (on_stream id (map Byte front)) o after
  tells-front front frame made = λ run marks spells.
      subst (λ (x : Outbound).
      SpellsOf (Written frame ∷ run) x (marks ++ on_stream id (map Byte front))) (sym is) (
        spells.0,
        subst (λ (more : List Mark).
            Spells (Written frame ∷ run) o.block o.encoder (marks ++ on_stream id more))
            (append-nil (map Byte front))
            (plain-tells run (data_frame id front) frame o.block o.block o.encoder marks made
            (λ begun. refl) between.no_block between.no_block spells.1),
      )

kept-some : (bytes : List ℕ) → 0 < length bytes → kept bytes ≡ Some bytes
kept-some [] some = absurd (omega (arith, some))
kept-some (byte ∷ bytes) some = refl

module _ {L In Out Shut : Type 0} where
  -- DATA of a front of some bytes, of which the rest is in hand then; or all of them are, as there
  -- is no room
  abbrev pub TellsData : ℕ → List ℕ → NextData → Sending L In Out Shut
      → Sending L In Out Shut → Type 0
  TellsData id bytes (looked.Frame frame) old new =
      (front : List ℕ) × (rest : List ℕ) × (bytes ≡ front ++ rest)
      × HandIs id (kept rest) (open_at old.outbound.states) (open_at new.outbound.states)
      × TellsMore frame (on_stream id (map Byte front)) old.outbound new.outbound
      × (new.outbound
      ≡ record old.outbound {
        states = record old.outbound.states
            { opened = new.outbound.states.opened; windows = new.outbound.states.windows };
      })
  TellsData id bytes looked.Nothing old new =
      HandIs id (Some bytes) (open_at old.outbound.states) (open_at new.outbound.states)
      × SameButOpen old.outbound new.outbound × (room old.outbound.states.windows id ≡ 0)
  TellsData id bytes looked.Empty old new =
      (bytes ≡ []) × HandIs id None (open_at old.outbound.states) (open_at new.outbound.states)
      × SameButOpen old.outbound new.outbound

  pub tells-data : (found : NextData) (old new : Sending L In Out Shut) (id : ℕ)
      (message rest : List ℕ)
      → IsBetween old.outbound → TakesFrames old.outbound.states id
      → HandIs id (kept rest) (open_at old.outbound.states) (open_at new.outbound.states)
      → new.outbound
      ≡ record old.outbound {
        states = record old.outbound.states
            { opened = new.outbound.states.opened; windows = new.outbound.states.windows };
      }
      → TakesData id old.outbound.states.windows new.outbound.states.windows message rest found
      → TellsData id message found old new
  tells-data (looked.Frame frame) old new id message rest between can hands is takes = (
    takes.0,
    rest,
    takes.1,
    hands,
    tells-front old.outbound new.outbound id message rest between can is takes.0 frame takes.2,
    is,
  )
  tells-data looked.Nothing old new id message rest between can hands is takes = (
    subst (λ (hand : Option (List ℕ)).
        HandIs id hand (open_at old.outbound.states) (open_at new.outbound.states))
        (ap kept takes.0 ∙ kept-some message takes.2) hands,
    same-windows old.outbound new.outbound is takes.1,
    takes.3,
  )
  tells-data looked.Empty old new id message rest between can hands is takes = (
    takes.2,
    subst (λ (hand : Option (List ℕ)).
        HandIs id hand (open_at old.outbound.states) (open_at new.outbound.states))
        (ap kept (takes.0 ∙ takes.2)) hands,
    same-windows old.outbound new.outbound is takes.1,
  )
