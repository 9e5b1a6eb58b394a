-- What a group comes to for the end of a stream that wasn't begun.
use Rattle.std.proofs.Common.{
  ◌≡◌,
  ℕ,
  inl,
  inr,
  Bool,
  true,
  false,
  ◌&&◌,
  nat_eq,
  List,
  [],
  ◌∷◌,
  ◌++◌,
  map,
  refl,
  ap,
  subst,
  ◌∙◌,
}
use Rattle.std.specs.Prelude.{Some, None, ◌==◌, if◌then◌else◌}
use Rattle.std.specs.List.{list_any}
use Rattle.std.proofs.lemmas.Bool.{cases_Bool}
use Rattle.h2frame.specs.declared.error_code.ErrorCode.TheVariants.{ProtocolError}
use Rattle.h2frame.specs.declared.frame.Frame.{Frame}
use Rattle.h2frame.specs.declared.kind.FrameKind.{FrameKind}
use Rattle.h2frame.specs.declared.kind.FrameKind.TheVariants.{
  Data,
  Headers,
  Priority,
  RstStream,
  Settings,
  PushPromise,
  Ping,
  GoAway,
  WindowUpdate,
  Continuation,
  Unknown,
}
use Rattle.h2frame.specs.Flags.{has, ack, end_stream}
use Rattle.h2frame.specs.FrameList.{Entry, Whole}
use Rattle.callhead.specs.declared.fault.HeadFault.{HeadFault}
use Rattle.callhead.specs.declared.fault.HeadFault.TheVariants.{Malformed}
use Rattle.streamstates.specs.declared.halves.HalfState.{HalfState}
use Rattle.streamstates.specs.declared.halves.HalfState.TheVariants.{Opened, Ended}
use Rattle.streamstates.specs.declared.halves.FrameAction.{FrameAction}
use Rattle.streamstates.specs.declared.halves.FrameAction.TheVariants.{Open, ConnectionError}
use Rattle.streamstates.specs.Halves.{Event, Received, Cut, is_headers, verdict}
use Rattle.reasons.specs.declared.Reason.TheVariants as reason
use Rattle.session.specs.declared.event.InEvent.{InEvent}
use Rattle.session.specs.declared.event.InEvent.TheVariants as events
use Rattle.session.specs.Streams.{
  after_frame,
  refusal,
  data_events,
  reset_events,
  window_events,
  credit_head,
  without_increment,
}
use Rattle.session.specs.Frames.{WindowGives, KindGives}
use Rattle.session.specs.HeaderBlocks.{PendingBlock, Collects}
use Rattle.session.specs.Blocks.{bad_head_events, after_bad_head, BlockGives}
use Rattle.session.specs.Events.{
  Situation,
  Group,
  Single,
  Credit,
  Block,
  entries_of,
  GroupGives,
  IsCalm,
}
use Rattle.session.specs.StreamData.{
  is_opening,
  Unended,
  Finished,
  ending_behind,
  ending_of,
  ending_told,
}
use Rattle.session.proofs.HalfSteps.{
  half_at,
  IsClosed,
  step_begun,
  step_new,
  IsFew,
  verdict_unbegun,
  headers_open,
}
use Rattle.session.proofs.StreamPieces.{kind_silent}
use Rattle.session.proofs.StreamGroups.{stream_at, group_elsewhere, elsewhere_silent}
use Rattle.session.proofs.NewStreams.{
  not_calm_end,
  window_unbegun,
  and_none,
  new_half,
  cut_half,
  malformed_untold,
}
use Rattle.session.proofs.StreamEnds.{elsewhere_quiet, settings_quiet, ping_quiet}
use Rattle.session.proofs.OpenStreamEnds.{block_of, elsewhere_of, end_here}

-- it isn't begun yet; it is open; it has ended with its first frame; or it is closed, and was not
-- told of. So it is while fewer streams were begun than may be.
pub data NewEnd (id : ℕ) (new : Situation) (group : Group) (given : List InEvent) : Type 0 where
  Still : half_at new.history id ≡ None → ending_told id given ≡ Unended
      → list_any (is_opening id) given ≡ false
      → ((more : List Entry) → ending_of id (entries_of group ++ more) ≡ ending_of id more)
      → NewEnd id new group given
  Begins : half_at new.history id ≡ Some Opened → ending_told id given ≡ Unended
      → ((more : List Entry) → ending_of id (entries_of group ++ more) ≡ ending_behind id more)
      → NewEnd id new group given
  Ends : IsClosed (half_at new.history id) → ending_told id given ≡ Finished
      → ((more : List Entry) → ending_of id (entries_of group ++ more) ≡ Finished)
      → NewEnd id new group given
  Untold : IsClosed (half_at new.history id) → list_any (is_opening id) given ≡ false
      → NewEnd id new group given

stays_new : (id : ℕ) (old new : Situation) (frame : Frame) (given : List InEvent)
    → ending_told id given ≡ Unended → list_any (is_opening id) given ≡ false
    → new.history ≡ old.history → half_at old.history id ≡ None → is_headers frame.head.kind ≡ false
    → NewEnd id new (Single frame) given
stays_new id old new frame given quiet untold same none kind =
    Still (ap (λ (h : List Event). half_at h id) same ∙ none) quiet untold
    (λ more.
    ap (λ (b : Bool).
    if nat_eq id frame.head.stream && b
    then (if has end_stream frame.head.flags then Finished else ending_behind id more)
    else ending_of id more) kind
    ∙ ap (λ (b : Bool).
    if b then (if has end_stream frame.head.flags then Finished else ending_behind id more)
    else ending_of id more) (and_none (nat_eq id frame.head.stream)))

window_told : (b : Bool) (id : ℕ) (history next : List Event) (frame : Frame) (given : List InEvent)
    → verdict history frame.head ≡ ConnectionError ProtocolError
    → WindowGives b history frame given next → ending_told id given ≡ Unended
window_told true id history next frame given judged (e, same) = ap (ending_told id) e
window_told false id history next frame given judged (e, same) =
    ap (ending_told id) (e ∙ ap (λ (v : FrameAction). window_events v frame) judged)

single_new : (kind : FrameKind) (id : ℕ) (old new : Situation) (frame : Frame)
    (given : List InEvent)
    → frame.head.kind ≡ kind → KindGives kind old.history frame given new.history → IsCalm given
    → nat_eq id frame.head.stream ≡ true → half_at old.history id ≡ None → IsFew old.history
    → NewEnd id new (Single frame) given
single_new Headers id old new frame given is gives calm on none few = absurd gives
single_new Data id old new frame given is gives calm on none few =
    absurd (not_calm_end (reason.Stream frame.head.kind ProtocolError) given (gives.0
    ∙ ap (λ (v : FrameAction). data_events v frame)
    (verdict_unbegun id old.history frame.head on none few (ap is_headers is))) calm)
single_new RstStream id old new frame given is gives calm on none few =
    absurd (not_calm_end (reason.Stream frame.head.kind ProtocolError) given (gives.0
    ∙ ap (λ (v : FrameAction). reset_events v frame)
    (verdict_unbegun id old.history frame.head on none few (ap is_headers is))) calm)
single_new WindowUpdate id old new frame given is gives calm on none few =
    let judged : verdict old.history frame.head ≡ ConnectionError ProtocolError =
    verdict_unbegun id old.history frame.head on none few (ap is_headers is) in
    stays_new id old new frame given
    (window_told (frame.head.stream == 0) id old.history new.history frame given judged gives)
    (kind_silent id WindowUpdate old.history new.history frame given
    (λ (e : WindowUpdate ≡ Data). cc) gives).1
    (window_unbegun (frame.head.stream == 0) id old new frame given gives calm judged) none
    (ap is_headers is)
single_new Settings id old new frame given is gives calm on none few =
    stays_new id old new frame given
    (settings_quiet id (has ack frame.head.flags) frame.content given gives.0) (kind_silent id
    Settings old.history new.history frame given (λ (e : Settings ≡ Data). cc) gives).1 gives.1 none
    (ap is_headers is)
single_new Ping id old new frame given is gives calm on none few =
    stays_new id old new frame given
    (ap (ending_told id) gives.0 ∙ ping_quiet id (has ack frame.head.flags) frame.content)
    (kind_silent id Ping old.history new.history frame given (λ (e : Ping ≡ Data). cc) gives).1
    gives.1 none (ap is_headers is)
single_new GoAway id old new frame given is gives calm on none few =
    stays_new id old new frame given (ap (ending_told id) gives.0)
    (ap (list_any (is_opening id)) gives.0) gives.1 none (ap is_headers is)
single_new PushPromise id old new frame given is gives calm on none few =
    stays_new id old new frame given (ap (ending_told id) gives.0)
    (ap (list_any (is_opening id)) gives.0) gives.1 none (ap is_headers is)
single_new Continuation id old new frame given is gives calm on none few =
    stays_new id old new frame given (ap (ending_told id) gives.0)
    (ap (list_any (is_opening id)) gives.0) gives.1 none (ap is_headers is)
single_new Priority id old new frame given is gives calm on none few =
    stays_new id old new frame given (ap (ending_told id) gives.0)
    (ap (list_any (is_opening id)) gives.0) gives.1 none (ap is_headers is)
single_new (Unknown code) id old new frame given is gives calm on none few =
    stays_new id old new frame given (ap (ending_told id) gives.0)
    (ap (list_any (is_opening id)) gives.0) gives.1 none (ap is_headers is)

opens_well : (id : ℕ) (new : Situation) (frames : List Frame) (block : PendingBlock)
    (given : List InEvent)
    → Collects frames block → nat_eq id block.head.stream ≡ true
    → half_at new.history id ≡ Some (if has end_stream block.head.flags then Ended else Opened)
    → ending_told id given ≡ (if has end_stream block.head.flags then Finished else Unended)
    → NewEnd id new (Block frames block) given
opens_well id new frames block given collects on half told =
    by (has end_stream block.head.flags) refl half told
    (λ more.
    block_of id frames block more collects
    ∙ ap (λ (b : Bool).
    if b then (if has end_stream block.head.flags then Finished else ending_behind id more)
    else ending_of id more) on)
  where
    by : (b : Bool) → has end_stream block.head.flags ≡ b
        → half_at new.history id ≡ Some (if has end_stream block.head.flags then Ended else Opened)
        → ending_told id given ≡ (if has end_stream block.head.flags then Finished else Unended)
        → ((more : List Entry)
        → ending_of id (map Whole frames ++ more)
        ≡ (if has end_stream block.head.flags then Finished else ending_behind id more))
        → NewEnd id new (Block frames block) given
    by true ended half told due =
        Ends (inl (half ∙ ap (λ (b : Bool). Some (if b then Ended else Opened)) ended))
        (told ∙ ap (λ (b : Bool). if b then Finished else Unended) ended)
        (λ more. due more ∙ ap (λ (b : Bool). if b then Finished else ending_behind id more) ended)
    by false ended half told due =
        Begins (half ∙ ap (λ (b : Bool). Some (if b then Ended else Opened)) ended)
        (told ∙ ap (λ (b : Bool). if b then Finished else Unended) ended)
        (λ more. due more ∙ ap (λ (b : Bool). if b then Finished else ending_behind id more) ended)

opens_badly : (id : ℕ) (old new : Situation) (frames : List Frame) (block : PendingBlock)
    (given : List InEvent) (now : HalfState)
    → nat_eq id block.head.stream ≡ true
    → half_at (Received block.head ∷ old.history) id ≡ Some now
    → new.history ≡ Cut block.head.stream ∷ (Received block.head ∷ old.history)
    → given ≡ events.BadHead block.head.stream Malformed ∷ []
    → NewEnd id new (Block frames block) given
opens_badly id old new frames block given now on half same e =
    Untold (inr (ap (λ (h : List Event). half_at h id) same
    ∙ step_begun id (Cut block.head.stream) (Received block.head ∷ old.history) now on half
    ∙ ap Some (cut_half now block.head.stream)))
    (ap (list_any (is_opening id)) e ∙ malformed_untold id block.head.stream)

fault_new : (id : ℕ) (old new : Situation) (frames : List Frame) (block : PendingBlock)
    (given : List InEvent) (fault : HeadFault)
    → Collects frames block → nat_eq id block.head.stream ≡ true
    → half_at (Received block.head ∷ old.history) id
    ≡ Some (if has end_stream block.head.flags then Ended else Opened)
    → given ≡ bad_head_events fault block.head
    → new.history ≡ after_bad_head fault block.head.stream (Received block.head ∷ old.history)
    → NewEnd id new (Block frames block) given
fault_new id old new frames block given Malformed collects on half e same =
    opens_badly id old new frames block given
    (if has end_stream block.head.flags then Ended else Opened) on half same e
fault_new id old new frames block given _ collects on half e same =
    opens_well id new frames block given collects on
    (ap (λ (h : List Event). half_at h id) same ∙ half)
    (ap (ending_told id) e ∙ end_here id block.head on)

open_new : (id : ℕ) (old new : Situation) (frames : List Frame) (block : PendingBlock)
    (given : List InEvent)
    → Collects frames block → nat_eq id block.head.stream ≡ true → IsCalm given
    → BlockGives old.kept block.head Open block.block (Received block.head ∷ old.history) given
    new.history new.kept
    → half_at (Received block.head ∷ old.history) id
    ≡ Some (if has end_stream block.head.flags then Ended else Opened)
    → NewEnd id new (Block frames block) given
open_new id old new frames block given collects on calm
    (inl (fields, reads, inl (call, is, e, same))) half =
    opens_well id new frames block given collects on
    (ap (λ (h : List Event). half_at h id) same ∙ half)
    (ap (ending_told id) e ∙ end_here id block.head on)
open_new id old new frames block given collects on calm
    (inl (fields, reads, inr (fault, first, e, same))) half =
    fault_new id old new frames block given fault collects on half e same
open_new id old new frames block given collects on calm (inr (fault, first, memory, e, same)) half =
    absurd (not_calm_end _ given e calm)

block_new : (id : ℕ) (old new : Situation) (frames : List Frame) (block : PendingBlock)
    (given : List InEvent)
    → GroupGives old (Block frames block) given new → IsCalm given
    → nat_eq id block.head.stream ≡ true → half_at old.history id ≡ None → IsFew old.history
    → NewEnd id new (Block frames block) given
block_new id old new frames block given (is_begun, whole, gives) calm on none few =
    let opens =
    headers_open id old.history block.head on none few (ap is_headers is_begun.collects.kind)
    is_begun.lawful in
    open_new id old new frames block given is_begun.collects on calm
    (subst (λ (v : FrameAction).
    BlockGives old.kept block.head v block.block (after_frame v block.head old.history) given
    new.history new.kept) opens.verdict gives)
    (step_new id (Received block.head) old.history on none opens.begins
    ∙ ap Some (new_half block.head is_begun.collects.kind))

new_here : (id : ℕ) (old new : Situation) (group : Group) (given : List InEvent)
    → GroupGives old group given new → IsCalm given → nat_eq id (stream_at group) ≡ true
    → half_at old.history id ≡ None → IsFew old.history → NewEnd id new group given
new_here id old new (Single frame) given gives calm on none few =
    single_new frame.head.kind id old new frame given refl gives.0 calm on none few
new_here id old new (Credit stream) given gives calm on none few =
    absurd (not_calm_end (reason.Stream WindowUpdate ProtocolError) given (gives.0
    ∙ ap (λ (v : FrameAction). refusal (without_increment v) (credit_head stream))
    (verdict_unbegun id old.history (credit_head stream) on none few refl)) calm)
new_here id old new (Block frames block) given gives calm on none few =
    block_new id old new frames block given gives calm on none few

pub group_new_end : (id : ℕ) (old new : Situation) (group : Group) (given : List InEvent)
    → GroupGives old group given new → IsCalm given → half_at old.history id ≡ None
    → IsFew old.history → NewEnd id new group given
group_new_end id old new group given gives calm none few =
    elim (cases_Bool (nat_eq id (stream_at group))) [
      | inl on ↦ new_here id old new group given gives calm on none few
      | inr other ↦
          Still (group_elsewhere id old new group given gives other ∙ none)
          (elsewhere_quiet id old new group given gives other)
          (elsewhere_silent id old new group given gives other).1
          (λ more. elsewhere_of id old new group given more gives other)
    ]
