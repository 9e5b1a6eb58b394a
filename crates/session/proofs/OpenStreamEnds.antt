-- What a group comes to for the end of a stream that is open.
use Rattle.std.proofs.Common.{
  ◌≡◌,
  ℕ,
  ◌⊎◌,
  inl,
  inr,
  Bool,
  true,
  false,
  ◌&&◌,
  ◌||◌,
  nat_eq,
  List,
  [],
  ◌∷◌,
  ◌++◌,
  map,
  refl,
  ap,
  subst,
  ◌∙◌,
}
use Rattle.std.specs.Prelude.{Option, Some, ◌==◌, if◌then◌else◌}
use Rattle.std.specs.List.{list_any, AllByRecursion}
use Rattle.std.proofs.lemmas.Bool.{cases_Bool}
use Rattle.h2frame.specs.declared.error_code.ErrorCode.TheVariants.{ProtocolError}
use Rattle.h2frame.specs.declared.frame.Frame.{Frame}
use Rattle.h2frame.specs.declared.frame.FrameHead.{FrameHead}
use Rattle.h2frame.specs.declared.kind.FrameKind.{FrameKind}
use Rattle.h2frame.specs.declared.kind.FrameKind.TheVariants.{
  Data,
  Headers,
  Priority,
  RstStream,
  Settings,
  PushPromise,
  Ping,
  GoAway,
  WindowUpdate,
  Continuation,
  Unknown,
}
use Rattle.h2frame.specs.Flags.{has, ack, end_stream}
use Rattle.h2frame.specs.FrameList.{Entry, Whole}
use Rattle.lists.specs.declared.field.Field.{Field}
use Rattle.hpack_codec.specs.Table.{Table}
use Rattle.hpack_codec.specs.Codec.{Reads}
use Rattle.callhead.specs.MalformedHeads.{are_malformed_trailers}
use Rattle.streamstates.specs.declared.halves.HalfState.TheVariants.{Opened, Ended}
use Rattle.streamstates.specs.declared.halves.FrameAction.{FrameAction}
use Rattle.streamstates.specs.declared.halves.FrameAction.TheVariants.{Accept, StreamError}
use Rattle.streamstates.specs.Halves.{Event, Received, is_headers, verdict}
use Rattle.session.specs.declared.event.InEvent.{InEvent}
use Rattle.session.specs.declared.event.InEvent.TheVariants as events
use Rattle.session.specs.Streams.{
  after_frame,
  counted,
  end_of,
  refusal,
  data_events,
  reset_events,
  window_events,
  credit_head,
  credit_verdict,
  without_increment,
}
use Rattle.session.specs.Frames.{WindowGives, KindGives}
use Rattle.session.specs.HeaderBlocks.{PendingBlock, Collects, IsContinuation}
use Rattle.session.specs.Blocks.{trailer_events, FieldsGive}
use Rattle.session.specs.Events.{
  Situation,
  Group,
  Single,
  Credit,
  Block,
  entries_of,
  GroupGives,
  IsCalm,
}
use Rattle.session.specs.StreamData.{
  Ending,
  Unended,
  Finished,
  Aborted,
  ending_with,
  ending_behind,
  ending_of,
  end_told,
  first_end,
  ending_told,
}
use Rattle.session.specs.Trailers.{is_stream_error}
use Rattle.session.proofs.HalfSteps.{
  half_at,
  IsClosed,
  step_begun,
  verdict_begun,
  opened_data,
  opened_reset,
  opened_window,
}
use Rattle.session.proofs.StreamGroups.{single_next, stream_at, group_elsewhere}
use Rattle.session.proofs.OpenStreamData.{
  still_open,
  window_open,
  reset_closed,
  credit_closed,
  opened_headers,
  block_closed,
}
use Rattle.session.proofs.NewStreams.{not_calm_end}
use Rattle.session.proofs.StreamEnds.{told_append, elsewhere_quiet, settings_quiet, ping_quiet}

-- ---- the entries of a group, for the end of a stream

either_way : (b : Bool) (x y : Ending) → x ≡ y → (if b then x else y) ≡ y
either_way true x y e = e
either_way false x y e = refl

and_false : (a b : Bool) → b ≡ false → (a && b) ≡ false
and_false true b e = e
and_false false b e = refl

and_true : (b : Bool) → (b && true) ≡ b
and_true true = refl
and_true false = refl

pub behind_continuations : (id stream : ℕ) (frames : List Frame) (more : List Entry)
    → AllByRecursion (IsContinuation stream) frames
    → ending_behind id (map Whole frames ++ more) ≡ ending_behind id more
behind_continuations id stream [] more all = refl
behind_continuations id stream (frame ∷ frames) more all =
    either_way (nat_eq id frame.head.stream) _ _ (ap
    (λ (k : FrameKind). ending_with k frame (ending_behind id (map Whole frames ++ more))) all.0.0)
    ∙ behind_continuations id stream frames more all.1

of_continuations : (id stream : ℕ) (frames : List Frame) (more : List Entry)
    → AllByRecursion (IsContinuation stream) frames
    → ending_of id (map Whole frames ++ more) ≡ ending_of id more
of_continuations id stream [] more all = refl
of_continuations id stream (frame ∷ frames) more all =
    ap (λ (b : Bool).
    if b
    then (if has end_stream frame.head.flags then Finished
    else ending_behind id (map Whole frames ++ more))
    else ending_of id (map Whole frames ++ more))
    (and_false (nat_eq id frame.head.stream) (is_headers frame.head.kind) (ap is_headers all.0.0))
    ∙ of_continuations id stream frames more all.1

block_behind : (id : ℕ) (frames : List Frame) (block : PendingBlock) (more : List Entry)
    → Collects frames block
    → ending_behind id (map Whole frames ++ more)
    ≡ (if nat_eq id block.head.stream
    then (if has end_stream block.head.flags then Finished else Aborted)
    else ending_behind id more)
block_behind id frames block more so =
    ap (λ (fs : List Frame). ending_behind id (map Whole fs ++ more)) so.parts
    ∙ ap (λ (h : FrameHead).
    if nat_eq id h.stream
    then ending_with h.kind (record { head = h; content = so.first.content })
    (ending_behind id (map Whole so.others ++ more))
    else ending_behind id (map Whole so.others ++ more)) so.headers
    ∙ ap (λ (k : FrameKind).
    if nat_eq id block.head.stream
    then ending_with k (record { head = block.head; content = so.first.content })
    (ending_behind id (map Whole so.others ++ more))
    else ending_behind id (map Whole so.others ++ more)) so.kind
    ∙ ap (λ (e : Ending).
    if nat_eq id block.head.stream
    then (if has end_stream block.head.flags then Finished else Aborted)
    else e) (behind_continuations id block.head.stream so.others more so.continuations)

pub block_of : (id : ℕ) (frames : List Frame) (block : PendingBlock) (more : List Entry)
    → Collects frames block
    → ending_of id (map Whole frames ++ more)
    ≡ (if nat_eq id block.head.stream
    then (if has end_stream block.head.flags then Finished else ending_behind id more)
    else ending_of id more)
block_of id frames block more so =
    ap (λ (fs : List Frame). ending_of id (map Whole fs ++ more)) so.parts
    ∙ ap (λ (h : FrameHead).
    if nat_eq id h.stream && is_headers h.kind
    then (if has end_stream h.flags then Finished
    else ending_behind id (map Whole so.others ++ more))
    else ending_of id (map Whole so.others ++ more)) so.headers
    ∙ ap (λ (k : FrameKind).
    if nat_eq id block.head.stream && is_headers k
    then (if has end_stream block.head.flags then Finished
    else ending_behind id (map Whole so.others ++ more))
    else ending_of id (map Whole so.others ++ more)) so.kind
    ∙ ap (λ (b : Bool).
    if b
    then (if has end_stream block.head.flags then Finished
    else ending_behind id (map Whole so.others ++ more))
    else ending_of id (map Whole so.others ++ more)) (and_true (nat_eq id block.head.stream))
    ∙ ap (λ (e : Ending).
    if nat_eq id block.head.stream then (if has end_stream block.head.flags then Finished else e)
    else ending_of id (map Whole so.others ++ more))
    (behind_continuations id block.head.stream so.others more so.continuations)
    ∙ ap (λ (e : Ending).
    if nat_eq id block.head.stream
    then (if has end_stream block.head.flags then Finished else ending_behind id more)
    else e) (of_continuations id block.head.stream so.others more so.continuations)

pub elsewhere_behind : (id : ℕ) (old new : Situation) (group : Group) (given : List InEvent)
    (more : List Entry)
    → GroupGives old group given new → nat_eq id (stream_at group) ≡ false
    → ending_behind id (entries_of group ++ more) ≡ ending_behind id more
elsewhere_behind id old new (Single frame) given more gives other =
    ap (λ (b : Bool).
    if b then ending_with frame.head.kind frame (ending_behind id more)
    else ending_behind id more) other
elsewhere_behind id old new (Credit stream) given more gives other =
    ap (λ (b : Bool). if b then Aborted else ending_behind id more) other
elsewhere_behind id old new (Block frames block) given more (begun, whole, gives) other =
    block_behind id frames block more begun.collects
    ∙ ap (λ (b : Bool).
    if b then (if has end_stream block.head.flags then Finished else Aborted)
    else ending_behind id more) other

pub elsewhere_of : (id : ℕ) (old new : Situation) (group : Group) (given : List InEvent)
    (more : List Entry)
    → GroupGives old group given new → nat_eq id (stream_at group) ≡ false
    → ending_of id (entries_of group ++ more) ≡ ending_of id more
elsewhere_of id old new (Single frame) given more gives other =
    ap (λ (b : Bool).
    if b && is_headers frame.head.kind
    then (if has end_stream frame.head.flags then Finished else ending_behind id more)
    else ending_of id more) other
elsewhere_of id old new (Credit stream) given more gives other = refl
elsewhere_of id old new (Block frames block) given more (begun, whole, gives) other =
    block_of id frames block more begun.collects
    ∙ ap (λ (b : Bool).
    if b then (if has end_stream block.head.flags then Finished else ending_behind id more)
    else ending_of id more) other

-- ---- where the stream is open

pub end_here : (id : ℕ) (head : FrameHead) → nat_eq id head.stream ≡ true
    → ending_told id (end_of head) ≡ (if has end_stream head.flags then Finished else Unended)
end_here id head on =
    elim (has end_stream head.flags) as (λ (b : Bool).
    ending_told id (if b then events.End head.stream ∷ [] else [])
    ≡ (if b then Finished else Unended)) [
      | true ↦ ap (λ (b : Bool). first_end (if b then Finished else Unended) Unended) on
      | false ↦ refl
    ]

abbrev pub IsLast : Ending → Type 0
IsLast e = (behind : Ending) → first_end e behind ≡ e

-- no end is told, and the stream is open; or its end is, and it is closed
abbrev pub OpenEnd : ℕ → Situation → Group → List InEvent → Type 0
OpenEnd id new group given =
    ((ending_told id given ≡ Unended) × (half_at new.history id ≡ Some Opened)
    × ((more : List Entry) → ending_behind id (entries_of group ++ more) ≡ ending_behind id more))
    ⊎ ((e : Ending) × IsLast e × (ending_told id given ≡ e) × IsClosed (half_at new.history id)
    × ((more : List Entry) → ending_behind id (entries_of group ++ more) ≡ e))

-- the group is a header block of malformed trailers of the stream
abbrev pub AreRefused : ℕ → Situation → Group → Type 0
AreRefused id old (Single frame) = ⊥
AreRefused id old (Credit stream) = ⊥
AreRefused id old (Block frames block) =
    (fields : List Field) × (next : Option Table) × Collects frames block × (block.whole ≡ true)
    × (nat_eq id block.head.stream ≡ true)
    × (verdict old.history block.head ≡ Accept) × Reads old.kept block.block fields next
    × (are_malformed_trailers fields ≡ true)

-- where it is, an error of the stream is told in place of its end, and it is closed
pub record OpenRefused (id : ℕ) (old new : Situation) (group : Group)
    (given : List InEvent) : Type 0 where
  pub refused : AreRefused id old group
  pub aborted : ending_told id given ≡ Aborted
  pub error : list_any (is_stream_error id) given ≡ true
  pub closed : IsClosed (half_at new.history id)
  pub due : (more : List Entry) → ending_behind id (entries_of group ++ more) ≡ Finished

here_with : (id : ℕ) (frame : Frame) (more : List Entry) → nat_eq id frame.head.stream ≡ true
    → ending_behind id (Whole frame ∷ more)
    ≡ ending_with frame.head.kind frame (ending_behind id more)
here_with id frame more on =
    ap (λ (b : Bool).
    if b then ending_with frame.head.kind frame (ending_behind id more)
    else ending_behind id more) on

counted_told : (id n : ℕ) (event : InEvent) → end_told id event ≡ Unended
    → ending_told id (counted n event) ≡ Unended
counted_told id n event quiet =
    elim (n == 0) as (λ (b : Bool). ending_told id (if b then [] else event ∷ []) ≡ Unended)
    [ true ↦ refl | false ↦ ap (λ (e : Ending). first_end e Unended) quiet ]

data_end : (id : ℕ) (old new : Situation) (frame : Frame) (given : List InEvent)
    → frame.head.kind ≡ Data → KindGives Data old.history frame given new.history
    → nat_eq id frame.head.stream ≡ true → half_at old.history id ≡ Some Opened
    → OpenEnd id new (Single frame) given
data_end id old new frame given is gives on at =
    let judged : verdict old.history frame.head ≡ Accept =
    verdict_begun id old.history frame.head Opened on at ∙ (opened_data frame.head is).0 in
    let told : ending_told id given
    ≡ (if has end_stream frame.head.flags then Finished else Unended) =
    ap (ending_told id) (gives.0 ∙ ap (λ (v : FrameAction). data_events v frame) judged)
    ∙ told_append id (counted frame.head.length
    (events.Data frame.head.stream frame.content frame.head.length)) (end_of frame.head)
    ∙ ap (λ (e : Ending). first_end e (ending_told id (end_of frame.head))) (counted_told id
    frame.head.length (events.Data frame.head.stream frame.content frame.head.length) refl)
    ∙ end_here id frame.head on in
    let half : half_at new.history id ≡ Some
    (if has end_stream frame.head.flags then Ended else Opened) =
    ap (λ (h : List Event). half_at h id)
    (gives.1 ∙ ap (λ (v : FrameAction). after_frame v frame.head old.history) judged)
    ∙ step_begun id (Received frame.head) old.history Opened on at
    ∙ ap Some (opened_data frame.head is).1 in
    by (has end_stream frame.head.flags) refl told half (λ more.
    here_with id frame more on
    ∙ ap (λ (k : FrameKind). ending_with k frame (ending_behind id more)) is)
  where
    by : (b : Bool) → has end_stream frame.head.flags ≡ b
        → ending_told id given ≡ (if has end_stream frame.head.flags then Finished else Unended)
        → half_at new.history id ≡ Some (if has end_stream frame.head.flags then Ended else Opened)
        → ((more : List Entry)
        → ending_behind id (Whole frame ∷ more)
        ≡ (if has end_stream frame.head.flags then Finished else ending_behind id more))
        → OpenEnd id new (Single frame) given
    by true ended told half due =
        inr (
          Finished,
          λ behind. refl,
          told ∙ ap (λ (b : Bool). if b then Finished else Unended) ended,
          inl (half ∙ ap (λ (b : Bool). Some (if b then Ended else Opened)) ended),
          λ more. due more ∙ ap (λ (b : Bool). if b then Finished else ending_behind id more) ended,
        )
    by false ended told half due =
        inl (
          told ∙ ap (λ (b : Bool). if b then Finished else Unended) ended,
          half ∙ ap (λ (b : Bool). Some (if b then Ended else Opened)) ended,
          λ more. due more ∙ ap (λ (b : Bool). if b then Finished else ending_behind id more) ended,
        )

reset_end : (id : ℕ) (old new : Situation) (frame : Frame) (given : List InEvent)
    → frame.head.kind ≡ RstStream → KindGives RstStream old.history frame given new.history
    → nat_eq id frame.head.stream ≡ true → half_at old.history id ≡ Some Opened
    → OpenEnd id new (Single frame) given
reset_end id old new frame given is gives on at =
    let judged : verdict old.history frame.head ≡ Accept =
    verdict_begun id old.history frame.head Opened on at ∙ (opened_reset frame.head is).0 in
    inr (
      Aborted,
      λ behind. refl,
      ap (ending_told id) (gives.0 ∙ ap (λ (v : FrameAction). reset_events v frame) judged)
          ∙ ap (λ (b : Bool). first_end (if b then Aborted else Unended) Unended) on,
      reset_closed id old new frame is gives.1 on at,
      λ more.
          here_with id frame more on
          ∙ ap (λ (k : FrameKind). ending_with k frame (ending_behind id more)) is,
    )

stays_unended : (id : ℕ) (new : Situation) (frame : Frame) (given : List InEvent)
    → ending_told id given ≡ Unended → half_at new.history id ≡ Some Opened
    → nat_eq id frame.head.stream ≡ true
    → ((behind : Ending) → ending_with frame.head.kind frame behind ≡ behind)
    → OpenEnd id new (Single frame) given
stays_unended id new frame given quiet half on skips =
    inl (quiet, half, λ more. here_with id frame more on ∙ skips (ending_behind id more))

window_quiet : (b : Bool) (id : ℕ) (history next : List Event) (frame : Frame)
    (given : List InEvent)
    → verdict history frame.head ≡ Accept → WindowGives b history frame given next
    → ending_told id given ≡ Unended
window_quiet true id history next frame given judged (e, same) = ap (ending_told id) e
window_quiet false id history next frame given judged (e, same) =
    ap (ending_told id) (e ∙ ap (λ (v : FrameAction). window_events v frame) judged)

single_end : (kind : FrameKind) (id : ℕ) (old new : Situation) (frame : Frame)
    (given : List InEvent)
    → frame.head.kind ≡ kind → KindGives kind old.history frame given new.history
    → nat_eq id frame.head.stream ≡ true → half_at old.history id ≡ Some Opened
    → OpenEnd id new (Single frame) given
single_end Data id old new frame given is gives on at =
    data_end id old new frame given is gives on at
single_end Headers id old new frame given is gives on at = absurd gives
single_end RstStream id old new frame given is gives on at =
    reset_end id old new frame given is gives on at
single_end WindowUpdate id old new frame given is gives on at =
    stays_unended id new frame given (window_quiet (frame.head.stream == 0) id old.history
    new.history frame given
    (verdict_begun id old.history frame.head Opened on at ∙ (opened_window frame.head is).0) gives)
    (window_open id old new frame given is on at
    (single_next WindowUpdate old.history new.history frame given gives)) on
    (λ behind. ap (λ (k : FrameKind). ending_with k frame behind) is)
single_end Settings id old new frame given is gives on at =
    stays_unended id new frame given
    (settings_quiet id (has ack frame.head.flags) frame.content given gives.0)
    (still_open id old new gives.1 at) on
    (λ behind. ap (λ (k : FrameKind). ending_with k frame behind) is)
single_end Ping id old new frame given is gives on at =
    stays_unended id new frame given
    (ap (ending_told id) gives.0 ∙ ping_quiet id (has ack frame.head.flags) frame.content)
    (still_open id old new gives.1 at) on
    (λ behind. ap (λ (k : FrameKind). ending_with k frame behind) is)
single_end GoAway id old new frame given is gives on at =
    stays_unended id new frame given (ap (ending_told id) gives.0)
    (still_open id old new gives.1 at) on
    (λ behind. ap (λ (k : FrameKind). ending_with k frame behind) is)
single_end PushPromise id old new frame given is gives on at =
    stays_unended id new frame given (ap (ending_told id) gives.0)
    (still_open id old new gives.1 at) on
    (λ behind. ap (λ (k : FrameKind). ending_with k frame behind) is)
single_end Continuation id old new frame given is gives on at =
    stays_unended id new frame given (ap (ending_told id) gives.0)
    (still_open id old new gives.1 at) on
    (λ behind. ap (λ (k : FrameKind). ending_with k frame behind) is)
single_end Priority id old new frame given is gives on at =
    stays_unended id new frame given (ap (ending_told id) gives.0)
    (still_open id old new gives.1 at) on
    (λ behind. ap (λ (k : FrameKind). ending_with k frame behind) is)
single_end (Unknown code) id old new frame given is gives on at =
    stays_unended id new frame given (ap (ending_told id) gives.0)
    (still_open id old new gives.1 at) on
    (λ behind. ap (λ (k : FrameKind). ending_with k frame behind) is)

credit_end : (id : ℕ) (old new : Situation) (stream : ℕ) (given : List InEvent)
    → GroupGives old (Credit stream) given new → nat_eq id stream ≡ true
    → half_at old.history id ≡ Some Opened → OpenEnd id new (Credit stream) given
credit_end id old new stream given (e, next, same) on at =
    let judged : credit_verdict old.history stream ≡ StreamError ProtocolError =
    ap without_increment (verdict_begun id old.history (credit_head stream) Opened on at) in
    inr (
      Aborted,
      λ behind. refl,
      ap (ending_told id) (e ∙ ap (λ (v : FrameAction). refusal v (credit_head stream)) judged)
          ∙ ap (λ (b : Bool). first_end (if b then Aborted else Unended) Unended) on,
      credit_closed id old new stream given (e, next, same) on at,
      λ more. ap (λ (b : Bool). if b then Aborted else ending_behind id more) on,
    )

-- ---- trailers, or HEADERS that are an error of the stream

due_block : (b : Bool) (id : ℕ) (frames : List Frame) (block : PendingBlock) (more : List Entry)
    → has end_stream block.head.flags ≡ b → Collects frames block
    → nat_eq id block.head.stream ≡ true
    → ending_behind id (map Whole frames ++ more) ≡ (if b then Finished else Aborted)
due_block b id frames block more ended collects on =
    block_behind id frames block more collects
    ∙ ap (λ (b : Bool).
    if b then (if has end_stream block.head.flags then Finished else Aborted)
    else ending_behind id more) on
    ∙ ap (λ (b : Bool). if b then Finished else Aborted) ended

last_block : (b : Bool) (id : ℕ) (new : Situation) (frames : List Frame) (block : PendingBlock)
    (given : List InEvent)
    → has end_stream block.head.flags ≡ b → Collects frames block
    → nat_eq id block.head.stream ≡ true
    → IsClosed (half_at new.history id) → ending_told id given ≡ (if b then Finished else Aborted)
    → OpenEnd id new (Block frames block) given
last_block b id new frames block given ended collects on closed told = inr (
  if b then Finished else Aborted,
  last b,
  told,
  closed,
  λ more. due_block b id frames block more ended collects on,
)
  where
    last : (b : Bool) → IsLast (if b then Finished else Aborted)
    last true = λ behind. refl
    last false = λ behind. refl

aborted_here : (id : ℕ) (head : FrameHead) → nat_eq id head.stream ≡ true
    → ending_told id (refusal (StreamError ProtocolError) head) ≡ Aborted
aborted_here id head on = ap (λ (b : Bool). first_end (if b then Aborted else Unended) Unended) on

error_here : (id : ℕ) (head : FrameHead) → nat_eq id head.stream ≡ true
    → list_any (is_stream_error id) (refusal (StreamError ProtocolError) head) ≡ true
error_here id head on = ap (λ (b : Bool). b || false) on

-- the fields of trailers
trailers_end : (malformed : Bool) (id : ℕ) (old new : Situation) (frames : List Frame)
    (block : PendingBlock) (given : List InEvent) (fields : List Field)
    → are_malformed_trailers fields ≡ malformed → has end_stream block.head.flags ≡ true
    → Collects frames block → block.whole ≡ true → nat_eq id block.head.stream ≡ true
    → verdict old.history block.head ≡ Accept → Reads old.kept block.block fields new.kept
    → given ≡ trailer_events malformed block.head
    → IsClosed (half_at new.history id)
    → OpenEnd id new (Block frames block) given ⊎ OpenRefused id old new (Block frames block) given
trailers_end false id old new frames block given fields is ended collects whole on
    accepted reads e closed =
    inl (last_block true id new frames block given ended collects on closed (ap (ending_told id) e
    ∙ end_here id block.head on ∙ ap (λ (b : Bool). if b then Finished else Unended) ended))
trailers_end true id old new frames block given fields is ended collects whole on
    accepted reads e closed =
    inr (record {
      refused = (fields, new.kept, collects, whole, on, accepted, reads, is);
      aborted = ap (ending_told id) e ∙ aborted_here id block.head on;
      error = ap (list_any (is_stream_error id)) e ∙ error_here id block.head on;
      closed = closed;
      due = λ more. due_block true id frames block more ended collects on;
    })

fields_end : (b : Bool) (id : ℕ) (old new : Situation) (frames : List Frame) (block : PendingBlock)
    (given : List InEvent) (fields : List Field) (history : List Event)
    → has end_stream block.head.flags ≡ b
    → verdict old.history block.head ≡ (if b then Accept else StreamError ProtocolError)
    → Collects frames block → block.whole ≡ true → nat_eq id block.head.stream ≡ true
    → Reads old.kept block.block fields new.kept
    → FieldsGive (if b then Accept else StreamError ProtocolError) block.head fields
    history given new.history
    → IsClosed (half_at new.history id)
    → OpenEnd id new (Block frames block) given ⊎ OpenRefused id old new (Block frames block) given
fields_end true id old new frames block given fields history ended accepted collects whole on
    reads gives closed =
    trailers_end (are_malformed_trailers fields) id old new frames block given fields refl ended
    collects whole on accepted reads gives.0 closed
fields_end false id old new frames block given fields history ended judged collects whole on
    reads gives closed =
    inl (last_block false id new frames block given ended collects on closed
    (ap (ending_told id) gives.0 ∙ aborted_here id block.head on))

block_end : (id : ℕ) (old new : Situation) (frames : List Frame) (block : PendingBlock)
    (given : List InEvent)
    → GroupGives old (Block frames block) given new → IsCalm given
    → nat_eq id block.head.stream ≡ true → half_at old.history id ≡ Some Opened
    → OpenEnd id new (Block frames block) given ⊎ OpenRefused id old new (Block frames block) given
block_end id old new frames block given (begun, whole, inr (fault, first, memory, e, same)) calm on
    at = absurd (not_calm_end _ given e calm)
block_end id old new frames block given (begun, whole, inl (fields, reads, gives)) calm on at =
    let judged : verdict old.history block.head
    ≡ (if has end_stream block.head.flags then Accept else StreamError ProtocolError) =
    verdict_begun id old.history block.head Opened on at
    ∙ (opened_headers block.head begun.collects.kind).0 in
    fields_end (has end_stream block.head.flags) id old new frames block given fields
    (after_frame (verdict old.history block.head) block.head old.history) refl judged
    begun.collects whole on reads
    (subst (λ (v : FrameAction).
    FieldsGive v block.head fields
    (after_frame (verdict old.history block.head) block.head old.history) given
    new.history) judged gives)
    (block_closed id old new frames block given (begun, whole, inl (fields, reads, gives)) on at).0

end_open_here : (id : ℕ) (old new : Situation) (group : Group) (given : List InEvent)
    → GroupGives old group given new → IsCalm given → nat_eq id (stream_at group) ≡ true
    → half_at old.history id ≡ Some Opened
    → OpenEnd id new group given ⊎ OpenRefused id old new group given
end_open_here id old new (Single frame) given gives calm on at =
    inl (single_end frame.head.kind id old new frame given refl gives.0 on at)
end_open_here id old new (Credit stream) given gives calm on at =
    inl (credit_end id old new stream given gives on at)
end_open_here id old new (Block frames block) given gives calm on at =
    block_end id old new frames block given gives calm on at

pub group_open_end : (id : ℕ) (old new : Situation) (group : Group) (given : List InEvent)
    → GroupGives old group given new → IsCalm given → half_at old.history id ≡ Some Opened
    → OpenEnd id new group given ⊎ OpenRefused id old new group given
group_open_end id old new group given gives calm at =
    elim (cases_Bool (nat_eq id (stream_at group))) [
      | inl on ↦ end_open_here id old new group given gives calm on at
      | inr other ↦
          inl (inl (
            elsewhere_quiet id old new group given gives other,
            group_elsewhere id old new group given gives other ∙ at,
            λ more. elsewhere_behind id old new group given more gives other,
          ))
    ]
