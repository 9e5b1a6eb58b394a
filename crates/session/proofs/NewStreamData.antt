-- What a group comes to for the data of a stream that wasn't begun.
use Rattle.std.proofs.Common.{
  ◌≡◌,
  ℕ,
  ◌⊎◌,
  inl,
  inr,
  Bool,
  true,
  false,
  ◌&&◌,
  nat_eq,
  List,
  [],
  ◌∷◌,
  ◌++◌,
  map,
  refl,
  ap,
  subst,
  ◌∙◌,
}
use Rattle.std.specs.Prelude.{Some, None, ◌==◌, if◌then◌else◌}
use Rattle.std.specs.List.{list_any}
use Rattle.std.proofs.lemmas.Bool.{cases_Bool}
use Rattle.h2frame.specs.declared.error_code.ErrorCode.TheVariants.{ProtocolError}
use Rattle.h2frame.specs.declared.frame.Frame.{Frame}
use Rattle.h2frame.specs.declared.frame.FrameHead.{FrameHead}
use Rattle.h2frame.specs.declared.kind.FrameKind.{FrameKind}
use Rattle.h2frame.specs.declared.kind.FrameKind.TheVariants.{
  Data,
  Headers,
  Priority,
  RstStream,
  Settings,
  PushPromise,
  Ping,
  GoAway,
  WindowUpdate,
  Continuation,
  Unknown,
}
use Rattle.h2frame.specs.Flags.{has, end_stream}
use Rattle.h2frame.specs.FrameList.{Entry, Whole}
use Rattle.lists.specs.declared.field.Field.{Field}
use Rattle.callhead.specs.declared.fault.HeadFault.TheVariants.{Malformed}
use Rattle.streamstates.specs.declared.halves.HalfState.{HalfState}
use Rattle.streamstates.specs.declared.halves.HalfState.TheVariants.{Opened, Ended}
use Rattle.streamstates.specs.declared.halves.FrameAction.{FrameAction}
use Rattle.streamstates.specs.declared.halves.FrameAction.TheVariants.{Open, ConnectionError}
use Rattle.streamstates.specs.Halves.{Event, Received, Cut, is_headers, verdict}
use Rattle.reasons.specs.declared.Reason.TheVariants as reason
use Rattle.session.specs.declared.event.InEvent.{InEvent}
use Rattle.session.specs.declared.event.InEvent.TheVariants as events
use Rattle.session.specs.Streams.{
  after_frame,
  refusal,
  data_events,
  reset_events,
  credit_head,
  credit_verdict,
  without_increment,
}
use Rattle.session.specs.Frames.{KindGives}
use Rattle.session.specs.HeaderBlocks.{PendingBlock, Collects}
use Rattle.session.specs.Blocks.{HeadGives, BlockGives}
use Rattle.session.specs.Events.{
  Situation,
  Group,
  Single,
  Credit,
  Block,
  entries_of,
  GroupGives,
  IsCalm,
}
use Rattle.session.specs.StreamData.{data_behind, data_of, pieces, is_opening}
use Rattle.session.proofs.HalfSteps.{
  half_at,
  IsClosed,
  step_begun,
  step_new,
  IsFew,
  verdict_unbegun,
  headers_open,
}
use Rattle.session.proofs.StreamPieces.{IsSilent, kind_silent, head_pieces}
use Rattle.session.proofs.NewStreams.{
  not_calm_end,
  window_unbegun,
  and_none,
  new_half,
  cut_half,
  malformed_untold,
}
use Rattle.session.proofs.StreamGroups.{
  stream_at,
  group_elsewhere,
  elsewhere_silent,
  block_of,
  elsewhere_of,
}

-- ---- where the stream wasn't begun

-- it isn't yet; it is open; or it is closed, and was not told of or has no data. So it is while
-- fewer streams were begun than may be.
abbrev pub UnbegunNext : ℕ → Situation → Group → List InEvent → Type 0
UnbegunNext id new group given =
    ((half_at new.history id ≡ None) × IsSilent id given
    × ((more : List Entry) → data_of id (entries_of group ++ more) ≡ data_of id more))
    ⊎ (((half_at new.history id ≡ Some Opened) × (pieces id given ≡ [])
    × ((more : List Entry) → data_of id (entries_of group ++ more) ≡ data_behind id more))
    ⊎ (IsClosed (half_at new.history id) × (pieces id given ≡ [])
    × ((list_any (is_opening id) given ≡ false)
    ⊎ ((more : List Entry) → data_of id (entries_of group ++ more) ≡ []))))

-- a frame that isn't HEADERS, and leaves the half as it is
stays_unbegun : (id : ℕ) (old new : Situation) (frame : Frame) (given : List InEvent)
    → IsSilent id given → new.history ≡ old.history → half_at old.history id ≡ None
    → is_headers frame.head.kind ≡ false → UnbegunNext id new (Single frame) given
stays_unbegun id old new frame given silent same none kind =
    inl (
      ap (λ (h : List Event). half_at h id) same ∙ none,
      silent,
      λ more.
          ap (λ (b : Bool).
          if nat_eq id frame.head.stream && b
          then (if has end_stream frame.head.flags then [] else data_behind id more)
          else data_of id more) kind
          ∙ ap (λ (b : Bool).
          if b then (if has end_stream frame.head.flags then [] else data_behind id more)
          else data_of id more) (and_none (nat_eq id frame.head.stream)),
    )

single_unbegun : (kind : FrameKind) (id : ℕ) (old new : Situation) (frame : Frame)
    (given : List InEvent)
    → frame.head.kind ≡ kind → KindGives kind old.history frame given new.history → IsCalm given
    → nat_eq id frame.head.stream ≡ true → half_at old.history id ≡ None → IsFew old.history
    → UnbegunNext id new (Single frame) given
single_unbegun Headers id old new frame given is gives calm on none few = absurd gives
single_unbegun Data id old new frame given is gives calm on none few =
    let judged : verdict old.history frame.head ≡ ConnectionError ProtocolError =
    verdict_unbegun id old.history frame.head on none few (ap is_headers is) in
    absurd (not_calm_end (reason.Stream frame.head.kind ProtocolError) given
    (gives.0 ∙ ap (λ (v : FrameAction). data_events v frame) judged) calm)
single_unbegun RstStream id old new frame given is gives calm on none few =
    let judged : verdict old.history frame.head ≡ ConnectionError ProtocolError =
    verdict_unbegun id old.history frame.head on none few (ap is_headers is) in
    absurd (not_calm_end (reason.Stream frame.head.kind ProtocolError) given
    (gives.0 ∙ ap (λ (v : FrameAction). reset_events v frame) judged) calm)
single_unbegun WindowUpdate id old new frame given is gives calm on none few =
    stays_unbegun id old new frame given (kind_silent id WindowUpdate old.history new.history frame
    given (λ (e : WindowUpdate ≡ Data). cc) gives)
    (window_unbegun (frame.head.stream == 0) id old new frame given gives calm
    (verdict_unbegun id old.history frame.head on none few (ap is_headers is))) none
    (ap is_headers is)
single_unbegun Settings id old new frame given is gives calm on none few =
    stays_unbegun id old new frame given (kind_silent id Settings old.history new.history frame
    given (λ (e : Settings ≡ Data). cc) gives) gives.1 none (ap is_headers is)
single_unbegun Ping id old new frame given is gives calm on none few =
    stays_unbegun id old new frame given (kind_silent id Ping old.history new.history frame
    given (λ (e : Ping ≡ Data). cc) gives) gives.1 none (ap is_headers is)
single_unbegun GoAway id old new frame given is gives calm on none few =
    stays_unbegun id old new frame given (kind_silent id GoAway old.history new.history frame
    given (λ (e : GoAway ≡ Data). cc) gives) gives.1 none (ap is_headers is)
single_unbegun PushPromise id old new frame given is gives calm on none few =
    stays_unbegun id old new frame given (kind_silent id PushPromise old.history new.history frame
    given (λ (e : PushPromise ≡ Data). cc) gives) gives.1 none (ap is_headers is)
single_unbegun Continuation id old new frame given is gives calm on none few =
    stays_unbegun id old new frame given (kind_silent id Continuation old.history new.history frame
    given (λ (e : Continuation ≡ Data). cc) gives) gives.1 none (ap is_headers is)
single_unbegun Priority id old new frame given is gives calm on none few =
    stays_unbegun id old new frame given (kind_silent id Priority old.history new.history frame
    given (λ (e : Priority ≡ Data). cc) gives) gives.1 none (ap is_headers is)
single_unbegun (Unknown code) id old new frame given is gives calm on none few =
    stays_unbegun id old new frame given (kind_silent id (Unknown code) old.history new.history
    frame given (λ (e : Unknown code ≡ Data). cc) gives) gives.1 none (ap is_headers is)

credit_unbegun : (id : ℕ) (old new : Situation) (stream : ℕ) (given : List InEvent)
    → GroupGives old (Credit stream) given new → IsCalm given → nat_eq id stream ≡ true
    → half_at old.history id ≡ None → IsFew old.history → UnbegunNext id new (Credit stream) given
credit_unbegun id old new stream given (e, next, same) calm on none few =
    let judged : credit_verdict old.history stream ≡ ConnectionError ProtocolError =
    ap without_increment (verdict_unbegun id old.history (credit_head stream) on none few refl) in
    absurd (not_calm_end (reason.Stream WindowUpdate ProtocolError) given
    (e ∙ ap (λ (v : FrameAction). refusal v (credit_head stream)) judged) calm)

-- a head that isn't malformed leaves the history as it is
pub head_cases : (head : FrameHead) (fields : List Field) (history next : List Event)
    (given : List InEvent)
    → HeadGives head fields history given next
    → (next ≡ history)
    ⊎ ((next ≡ Cut head.stream ∷ history) × (given ≡ events.BadHead head.stream Malformed ∷ []))
head_cases head fields history next given (inl (call, is, e, same)) = inl same
head_cases head fields history next given (inr (Malformed, first, e, same)) = inr (same, e)
head_cases head fields history next given (inr (_, first, e, same)) = inl same

-- a stream begins whose head isn't malformed
opens_well : (id : ℕ) (old new : Situation) (frames : List Frame) (block : PendingBlock)
    (given : List InEvent)
    → Collects frames block → nat_eq id block.head.stream ≡ true
    → new.history ≡ Received block.head ∷ old.history
    → half_at (Received block.head ∷ old.history) id
    ≡ Some (if has end_stream block.head.flags then Ended else Opened)
    → pieces id given ≡ [] → UnbegunNext id new (Block frames block) given
opens_well id old new frames block given collects on same half none =
    by (has end_stream block.head.flags) refl (ap (λ (h : List Event). half_at h id) same ∙ half)
    (λ more.
    block_of id frames block more collects
    ∙ ap (λ (b : Bool).
    if b then (if has end_stream block.head.flags then [] else data_behind id more)
    else data_of id more) on)
  where
    by : (b : Bool) → has end_stream block.head.flags ≡ b
        → half_at new.history id ≡ Some (if has end_stream block.head.flags then Ended else Opened)
        → ((more : List Entry)
        → data_of id (map Whole frames ++ more)
        ≡ (if has end_stream block.head.flags then [] else data_behind id more))
        → UnbegunNext id new (Block frames block) given
    by true ended now due =
        inr (inr (
          inl (now ∙ ap (λ (b : Bool). Some (if b then Ended else Opened)) ended),
          none,
          inr (λ more. due more ∙ ap (λ (b : Bool). if b then [] else data_behind id more) ended),
        ))
    by false ended now due =
        inr (inl (
          now ∙ ap (λ (b : Bool). Some (if b then Ended else Opened)) ended,
          none,
          λ more. due more ∙ ap (λ (b : Bool). if b then [] else data_behind id more) ended,
        ))

pub opens_badly : (id : ℕ) (old new : Situation) (frames : List Frame) (block : PendingBlock)
    (given : List InEvent) (now : HalfState)
    → nat_eq id block.head.stream ≡ true
    → half_at (Received block.head ∷ old.history) id ≡ Some now
    → new.history ≡ Cut block.head.stream ∷ (Received block.head ∷ old.history)
    → given ≡ events.BadHead block.head.stream Malformed ∷ []
    → UnbegunNext id new (Block frames block) given
opens_badly id old new frames block given now on half same e =
    inr (inr (
      inr (ap (λ (h : List Event). half_at h id) same
          ∙ step_begun id (Cut block.head.stream) (Received block.head ∷ old.history) now on half
          ∙ ap Some (cut_half now block.head.stream)),
      ap (pieces id) e,
      inl (ap (list_any (is_opening id)) e ∙ malformed_untold id block.head.stream),
    ))

fields_unbegun : (id : ℕ) (old new : Situation) (frames : List Frame) (block : PendingBlock)
    (given : List InEvent) (fields : List Field)
    → Collects frames block → nat_eq id block.head.stream ≡ true
    → HeadGives block.head fields (Received block.head ∷ old.history) given new.history
    → half_at (Received block.head ∷ old.history) id
    ≡ Some (if has end_stream block.head.flags then Ended else Opened)
    → UnbegunNext id new (Block frames block) given
fields_unbegun id old new frames block given fields collects on gives half =
    elim (head_cases block.head fields (Received block.head ∷ old.history)
    new.history given gives) [
      | inl same ↦
          opens_well id old new frames block given collects on same half (head_pieces id block.head
          fields (Received block.head ∷ old.history) new.history given gives)
      | inr (same, e) ↦
          opens_badly id old new frames block given
          (if has end_stream block.head.flags then Ended else Opened) on half same e
    ]

open_unbegun : (id : ℕ) (old new : Situation) (frames : List Frame) (block : PendingBlock)
    (given : List InEvent)
    → Collects frames block → nat_eq id block.head.stream ≡ true → IsCalm given
    → BlockGives old.kept block.head Open block.block (Received block.head ∷ old.history) given
    new.history new.kept
    → half_at (Received block.head ∷ old.history) id
    ≡ Some (if has end_stream block.head.flags then Ended else Opened)
    → UnbegunNext id new (Block frames block) given
open_unbegun id old new frames block given collects on calm (inl (fields, reads, gives)) half =
    fields_unbegun id old new frames block given fields collects on gives half
open_unbegun id old new frames block given collects on calm (inr (fault, first, memory, e, same))
    half = absurd (not_calm_end _ given e calm)

block_unbegun : (id : ℕ) (old new : Situation) (frames : List Frame) (block : PendingBlock)
    (given : List InEvent)
    → GroupGives old (Block frames block) given new → IsCalm given
    → nat_eq id block.head.stream ≡ true → half_at old.history id ≡ None → IsFew old.history
    → UnbegunNext id new (Block frames block) given
block_unbegun id old new frames block given (is_begun, whole, gives) calm on none few =
    let opens =
    headers_open id old.history block.head on none few (ap is_headers is_begun.collects.kind)
    is_begun.lawful in
    open_unbegun id old new frames block given is_begun.collects on calm
    (subst (λ (v : FrameAction).
    BlockGives old.kept block.head v block.block (after_frame v block.head old.history) given
    new.history new.kept) opens.verdict gives)
    (step_new id (Received block.head) old.history on none opens.begins
    ∙ ap Some (new_half block.head is_begun.collects.kind))

unbegun_here : (id : ℕ) (old new : Situation) (group : Group) (given : List InEvent)
    → GroupGives old group given new → IsCalm given → nat_eq id (stream_at group) ≡ true
    → half_at old.history id ≡ None → IsFew old.history → UnbegunNext id new group given
unbegun_here id old new (Single frame) given gives calm on none few =
    single_unbegun frame.head.kind id old new frame given refl gives.0 calm on none few
unbegun_here id old new (Credit stream) given gives calm on none few =
    credit_unbegun id old new stream given gives calm on none few
unbegun_here id old new (Block frames block) given gives calm on none few =
    block_unbegun id old new frames block given gives calm on none few

pub group_unbegun : (id : ℕ) (old new : Situation) (group : Group) (given : List InEvent)
    → GroupGives old group given new → IsCalm given → half_at old.history id ≡ None
    → IsFew old.history → UnbegunNext id new group given
group_unbegun id old new group given gives calm none few =
    elim (cases_Bool (nat_eq id (stream_at group))) [
      | inl on ↦ unbegun_here id old new group given gives calm on none few
      | inr other ↦ inl (
        group_elsewhere id old new group given gives other ∙ none,
        elsewhere_silent id old new group given gives other,
        λ more. elsewhere_of id old new group given more gives other,
      )
    ]
