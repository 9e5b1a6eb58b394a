-- What frames on a stream that wasn't begun have in common, whether its data are looked at or its
-- end.
use Rattle.std.proofs.Common.{
  ◌≡◌,
  ℕ,
  Bool,
  true,
  false,
  ◌&&◌,
  nat_eq,
  List,
  [],
  ◌∷◌,
  refl,
  sym,
  ap,
  ◌∙◌,
}
use Rattle.std.specs.Prelude.{if◌then◌else◌}
use Rattle.std.specs.List.{list_any}
use Rattle.h2frame.specs.declared.error_code.ErrorCode.TheVariants.{ProtocolError}
use Rattle.h2frame.specs.declared.frame.Frame.{Frame}
use Rattle.h2frame.specs.declared.frame.FrameHead.{FrameHead}
use Rattle.h2frame.specs.declared.kind.FrameKind.{FrameKind}
use Rattle.h2frame.specs.declared.kind.FrameKind.TheVariants.{Headers}
use Rattle.h2frame.specs.Flags.{has, end_stream}
use Rattle.callhead.specs.declared.fault.HeadFault.TheVariants.{Malformed}
use Rattle.streamstates.specs.declared.halves.HalfState.{HalfState}
use Rattle.streamstates.specs.declared.halves.HalfState.TheVariants.{Opened, Ended, Reset}
use Rattle.streamstates.specs.declared.halves.FrameAction.{FrameAction}
use Rattle.streamstates.specs.declared.halves.FrameAction.TheVariants.{ConnectionError}
use Rattle.streamstates.specs.Halves.{
  Received,
  Cut,
  verdict,
  half_after,
  half_of_new,
  is_last_of_kind,
}
use Rattle.reasons.specs.declared.Reason.{Reason}
use Rattle.reasons.specs.declared.Reason.TheVariants as reason
use Rattle.session.specs.declared.event.InEvent.{InEvent}
use Rattle.session.specs.declared.event.InEvent.TheVariants as events
use Rattle.session.specs.Streams.{window_events}
use Rattle.session.specs.Frames.{fatal, WindowGives}
use Rattle.session.specs.Events.{Situation, is_fatal, IsCalm}
use Rattle.session.specs.StreamData.{is_opening}

pub not_calm_end : (error : Reason) (given : List InEvent) → given ≡ fatal error → IsCalm given → ⊥
not_calm_end error given e calm =
    let wrong : true ≡ false = sym (ap (list_any is_fatal) e) ∙ calm in
    cc

pub window_unbegun : (b : Bool) (id : ℕ) (old new : Situation) (frame : Frame)
    (given : List InEvent)
    → WindowGives b old.history frame given new.history → IsCalm given
    → verdict old.history frame.head ≡ ConnectionError ProtocolError → new.history ≡ old.history
window_unbegun true id old new frame given (e, same) calm judged = same
window_unbegun false id old new frame given (e, same) calm judged =
    absurd (not_calm_end (reason.Stream frame.head.kind ProtocolError) given
    (e ∙ ap (λ (v : FrameAction). window_events v frame) judged) calm)

pub and_none : (b : Bool) → (b && false) ≡ false
and_none true = refl
and_none false = refl

pub new_half : (head : FrameHead) → head.kind ≡ Headers
    → half_of_new (Received head) ≡ (if has end_stream head.flags then Ended else Opened)
new_half head kind =
    ap (λ (k : FrameKind).
    if is_last_of_kind k (has end_stream head.flags) then Ended else Opened) kind

pub cut_half : (half : HalfState) (stream : ℕ) → half_after half (Cut stream) ≡ Reset
cut_half Opened stream = refl
cut_half Ended stream = refl
cut_half Reset stream = refl

pub malformed_untold : (id stream : ℕ)
    → list_any (is_opening id) (events.BadHead stream Malformed ∷ []) ≡ false
malformed_untold id stream =
    elim (nat_eq id stream)
    as (λ (b : Bool). list_any (λ (x : Bool). x) ((b && false) ∷ []) ≡ false)
    [ true ↦ refl | false ↦ refl ]
