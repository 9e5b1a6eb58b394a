-- Frames that come to nothing, and WINDOW_UPDATE on a stream.
use Rattle.std.proofs.Common.{◌≡◌, ℕ, ◌⊎◌, inl, inr, Bool, List, [], ◌++◌, refl, sym, ap, subst}
use Rattle.std.specs.Prelude.{◌==◌, Result, Ok, Err, OnOk}
use Rattle.std.proofs.lemmas.Bool.{ne_eqb}
use Rattle.h2frame.specs.declared.frame.Frame.{Frame}
use Rattle.h2frame.specs.declared.kind.FrameKind.{FrameKind}
use Rattle.h2frame.specs.declared.kind.FrameKind.TheVariants.{Priority, Unknown}
use Rattle.streamstates.specs.declared.halves.FrameAction.{FrameAction}
use Rattle.streamstates.specs.Halves.{Event, Streams, Stands, verdict}
use Rattle.session.specs.declared.event.InEvent.{InEvent}
use Rattle.session.specs.Streams.{after_frame, window_events}
use Rattle.session.specs.Frames.{KindGives, WindowGives, Gives}

pub gives_nothing : (history : List Event) (frame : Frame)
    → (frame.head.kind ≡ Priority) ⊎ ((code : ℕ) × (frame.head.kind ≡ Unknown code))
    → Gives history frame [] history
gives_nothing history frame (inl e) =
    subst (λ (k : FrameKind). KindGives k history frame [] history) (sym e) (refl, refl)
gives_nothing history frame (inr (code, e)) =
    subst (λ (k : FrameKind). KindGives k history frame [] history) (sym e) (refl, refl)

pub gives_on_stream : (history : List Event) (frame : Frame) (answer : FrameAction)
    → (frame.head.stream ≡ 0 → ⊥) → answer ≡ verdict history frame.head
    → WindowGives (frame.head.stream == 0) history frame (window_events answer frame)
    (after_frame answer frame.head history)
gives_on_stream history frame answer on same =
    subst (λ (b : Bool).
    WindowGives b history frame (window_events answer frame)
    (after_frame answer frame.head history)) (sym (ne_eqb frame.head.stream 0 on)) (
      ap (λ (v : FrameAction). window_events v frame) same,
      ap (λ (v : FrameAction). after_frame v frame.head history) same,
    )

-- what is due of WINDOW_UPDATE, where there is memory
abbrev pub IsCredited : Frame → List InEvent → List InEvent → Streams → Streams → Type 0
IsCredited frame old new before behind =
    (history : List Event) → Stands history before
    → (given : List InEvent) × (next : List Event)
    × WindowGives (frame.head.stream == 0) history frame given next × (new ≡ old ++ given)
    × Stands next behind

pub credited : {T E : Type 0} (r : Result T E) (frame : Frame) (answer : FrameAction)
    (old new : List InEvent) (before behind : Streams)
    → (frame.head.stream ≡ 0 → ⊥)
    → ((history : List Event) → Stands history before → answer ≡ verdict history frame.head)
    → ((history : List Event) → Stands history before
    → Stands (after_frame answer frame.head history) behind)
    → OnOk r (new ≡ old ++ window_events answer frame)
    → OnOk r (IsCredited frame old new before behind)
credited (Ok x) frame answer old new before behind on same follows e =
    λ (history : List Event) (stands : Stands history before). (
      window_events answer frame,
      after_frame answer frame.head history,
      gives_on_stream history frame answer on (same history stands),
      e,
      follows history stands,
    )
credited (Err x) frame answer old new before behind on same follows e = tt
