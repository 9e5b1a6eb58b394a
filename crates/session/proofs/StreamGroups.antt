-- What a group does to the half of a stream, and a group of another stream to its data.
use Rattle.std.proofs.Common.{
  ◌≡◌,
  ◌≢◌,
  ℕ,
  ◌⊎◌,
  inl,
  inr,
  Bool,
  true,
  false,
  ◌&&◌,
  nat_eq,
  List,
  [],
  ◌∷◌,
  ◌++◌,
  map,
  refl,
  sym,
  ap,
  subst,
  ◌∙◌,
}
use Rattle.std.specs.Prelude.{Option, ◌==◌, if◌then◌else◌}
use Rattle.std.specs.List.{list_any, AllByRecursion}
use Rattle.h2frame.specs.declared.frame.Frame.{Frame}
use Rattle.h2frame.specs.declared.frame.FrameHead.{FrameHead}
use Rattle.h2frame.specs.declared.kind.FrameKind.{FrameKind}
use Rattle.h2frame.specs.declared.kind.FrameKind.TheVariants.{
  Data,
  Headers,
  Priority,
  RstStream,
  Settings,
  PushPromise,
  Ping,
  GoAway,
  WindowUpdate,
  Continuation,
  Unknown,
}
use Rattle.h2frame.specs.Flags.{has, end_stream}
use Rattle.h2frame.specs.FrameList.{Entry, Whole}
use Rattle.lists.specs.declared.field.Field.{Field}
use Rattle.hpack_codec.specs.Table.{Table}
use Rattle.callhead.specs.MalformedHeads.{are_malformed_trailers}
use Rattle.callhead.specs.declared.fault.HeadFault.TheVariants.{Malformed}
use Rattle.streamstates.specs.declared.halves.HalfState.{HalfState}
use Rattle.streamstates.specs.declared.halves.FrameAction.{FrameAction}
use Rattle.streamstates.specs.declared.halves.FrameAction.TheVariants.{
  Open,
  Accept,
  Discard,
  StreamError,
  ConnectionError,
}
use Rattle.streamstates.specs.Halves.{Event, Cut, is_headers, begun, verdict}
use Rattle.session.specs.declared.event.InEvent.{InEvent}
use Rattle.session.specs.Streams.{after_frame, data_events, credit_head, credit_verdict}
use Rattle.session.specs.Frames.{WindowGives, KindGives}
use Rattle.session.specs.HeaderBlocks.{PendingBlock, Collects, IsContinuation}
use Rattle.session.specs.Blocks.{HeadGives, FieldsGive, BlockGives}
use Rattle.session.specs.Events.{Situation, Group, Single, Credit, Block, entries_of, GroupGives}
use Rattle.session.specs.StreamData.{data_with, data_behind, data_of, is_opening}
use Rattle.session.proofs.HalfSteps.{
  half_at,
  IsClosed,
  closed_stays,
  closed_after,
  other_after,
  step_other,
  IsFull,
  full_stays,
  full_after,
  full_verdict,
}
use Rattle.session.proofs.StreamPieces.{
  trailers_next,
  IsSilent,
  silent_same,
  end_silent,
  refusal_silent,
  data_untold,
  data_elsewhere,
  kind_silent,
  block_pieces,
  block_silent,
  bad_head_elsewhere,
}

-- ---- the history behind a group

pub single_next : (kind : FrameKind) (history next : List Event) (frame : Frame)
    (given : List InEvent)
    → KindGives kind history frame given next
    → (next ≡ history) ⊎ (next ≡ after_frame (verdict history frame.head) frame.head history)
single_next Data history next frame given (e, same) = inr same
single_next RstStream history next frame given (e, same) = inr same
single_next WindowUpdate history next frame given gives = by (frame.head.stream == 0) gives
  where
    by : (b : Bool) → WindowGives b history frame given next
        → (next ≡ history) ⊎ (next ≡ after_frame (verdict history frame.head) frame.head history)
    by true (e, same) = inl same
    by false (e, same) = inr same
single_next Settings history next frame given (gives, same) = inl same
single_next Ping history next frame given (e, same) = inl same
single_next GoAway history next frame given (e, same) = inl same
single_next PushPromise history next frame given (e, same) = inl same
single_next Continuation history next frame given (e, same) = inl same
single_next Priority history next frame given (e, same) = inl same
single_next (Unknown code) history next frame given (e, same) = inl same
single_next Headers history next frame given gives = absurd gives

head_next : (head : FrameHead) (fields : List Field) (history next : List Event)
    (given : List InEvent)
    → HeadGives head fields history given next
    → (next ≡ history) ⊎ (next ≡ Cut head.stream ∷ history)
head_next head fields history next given (inl (call, is, e, same)) = inl same
head_next head fields history next given (inr (Malformed, first, e, same)) = inr same
head_next head fields history next given (inr (_, first, e, same)) = inl same

pub fields_next : (judged : FrameAction) (head : FrameHead) (fields : List Field)
    (history next : List Event) (given : List InEvent)
    → FieldsGive judged head fields history given next
    → (next ≡ history) ⊎ (next ≡ Cut head.stream ∷ history)
fields_next Open head fields history next given gives =
    head_next head fields history next given gives
fields_next Accept head fields history next given (e, same) =
    trailers_next (are_malformed_trailers fields) head.stream history next same
fields_next Discard head fields history next given (e, same) = inl same
fields_next (StreamError error) head fields history next given (e, same) = inl same
fields_next (ConnectionError error) head fields history next given (e, same) = inl same

block_next : (kept kept_next : Option Table) (head : FrameHead) (judged : FrameAction)
    (block : List ℕ) (history next : List Event) (given : List InEvent)
    → BlockGives kept head judged block history given next kept_next
    → (next ≡ history) ⊎ (next ≡ Cut head.stream ∷ history)
block_next kept kept_next head judged block history next given (inl (fields, reads, gives)) =
    fields_next judged head fields history next given gives
block_next kept kept_next head judged block history next given
    (inr (fault, first, memory, e, same)) = inl same

pub at_next : (id : ℕ) (next history : List Event) (P : Option HalfState → Type 0) → next ≡ history
    → P (half_at history id) → P (half_at next id)
at_next id next history P e p = subst (λ (h : List Event). P (half_at h id)) (sym e) p

-- a closed half stays closed over a group
pub group_closed : (id : ℕ) (old new : Situation) (group : Group) (given : List InEvent)
    → GroupGives old group given new → IsClosed (half_at old.history id)
    → IsClosed (half_at new.history id)
group_closed id old new (Single frame) given (gives, same) closed =
    elim (single_next frame.head.kind old.history new.history frame given gives) [
      | inl e ↦ at_next id new.history old.history IsClosed e closed
      | inr e ↦
          at_next id new.history
          (after_frame (verdict old.history frame.head) frame.head old.history) IsClosed e
          (closed_after id (verdict old.history frame.head) frame.head old.history closed)
    ]
group_closed id old new (Credit stream) given (g, e, same) closed =
    at_next id new.history
    (after_frame (credit_verdict old.history stream) (credit_head stream) old.history) IsClosed e
    (closed_after id (credit_verdict old.history stream) (credit_head stream) old.history closed)
group_closed id old new (Block frames block) given (begun, whole, gives) closed =
    let judged : FrameAction = verdict old.history block.head in
    let after : IsClosed (half_at (after_frame judged block.head old.history) id) =
    closed_after id judged block.head old.history closed in
    elim (block_next old.kept new.kept block.head judged block.block
    (after_frame judged block.head old.history) new.history given gives) [
      | inl e ↦ at_next id new.history (after_frame judged block.head old.history) IsClosed e after
      | inr e ↦
          at_next id new.history (Cut block.head.stream ∷ after_frame judged block.head old.history)
          IsClosed e (closed_stays id (Cut block.head.stream)
          (after_frame judged block.head old.history) after)
    ]

-- the stream of a group
abbrev pub stream_at : Group → ℕ
stream_at (Single frame) = frame.head.stream
stream_at (Credit stream) = stream
stream_at (Block frames block) = block.head.stream

-- a group of another stream leaves a half as it is
pub group_elsewhere : (id : ℕ) (old new : Situation) (group : Group) (given : List InEvent)
    → GroupGives old group given new → nat_eq id (stream_at group) ≡ false
    → half_at new.history id ≡ half_at old.history id
group_elsewhere id old new (Single frame) given (gives, same) other =
    elim (single_next frame.head.kind old.history new.history frame given gives) [
      | inl e ↦ ap (λ (h : List Event). half_at h id) e
      | inr e ↦
          ap (λ (h : List Event). half_at h id) e
          ∙ other_after id (verdict old.history frame.head) frame.head old.history other
    ]
group_elsewhere id old new (Credit stream) given (g, e, same) other =
    ap (λ (h : List Event). half_at h id) e
    ∙ other_after id (credit_verdict old.history stream) (credit_head stream) old.history other
group_elsewhere id old new (Block frames block) given (begun, whole, gives) other =
    let judged : FrameAction = verdict old.history block.head in
    let after : half_at (after_frame judged block.head old.history) id ≡ half_at old.history id =
    other_after id judged block.head old.history other in
    elim (block_next old.kept new.kept block.head judged block.block
    (after_frame judged block.head old.history) new.history given gives) [
      | inl e ↦ ap (λ (h : List Event). half_at h id) e ∙ after
      | inr e ↦
          ap (λ (h : List Event). half_at h id) e
          ∙ step_other id (Cut block.head.stream) (after_frame judged block.head old.history) other
          ∙ after
    ]

-- ---- the events of a group

head_elsewhere : (id : ℕ) (head : FrameHead) (fields : List Field) (history next : List Event)
    (given : List InEvent)
    → nat_eq id head.stream ≡ false → HeadGives head fields history given next
    → list_any (is_opening id) given ≡ false
head_elsewhere id head fields history next given other (inl (call, is, e, same)) =
    ap (list_any (is_opening id)) e ∙ rw (other, (end_silent id head).1) refl
head_elsewhere id head fields history next given other (inr (fault, first, e, same)) =
    ap (list_any (is_opening id)) e ∙ bad_head_elsewhere id fault head other

pub open_or_not : (judged : FrameAction) → (judged ≡ Open) ⊎ (judged ≢ Open)
open_or_not Open = inl refl
open_or_not Accept = inr (λ (e : Accept ≡ Open). cc)
open_or_not Discard = inr (λ (e : Discard ≡ Open). cc)
open_or_not (StreamError error) = inr (λ (e : StreamError error ≡ Open). cc)
open_or_not (ConnectionError error) = inr (λ (e : ConnectionError error ≡ Open). cc)

open_elsewhere : (id : ℕ) (kept kept_next : Option Table) (head : FrameHead) (block : List ℕ)
    (history next : List Event) (given : List InEvent)
    → nat_eq id head.stream ≡ false → BlockGives kept head Open block history given next kept_next
    → list_any (is_opening id) given ≡ false
open_elsewhere id kept kept_next head block history next given other (inl (fields, reads, gives)) =
    head_elsewhere id head fields history next given other gives
open_elsewhere id kept kept_next head block history next given other
    (inr (fault, first, memory, e, same)) = ap (list_any (is_opening id)) e

block_elsewhere : (id : ℕ) (kept kept_next : Option Table) (head : FrameHead) (judged : FrameAction)
    (block : List ℕ) (history next : List Event) (given : List InEvent)
    → nat_eq id head.stream ≡ false → BlockGives kept head judged block history given next kept_next
    → IsSilent id given
block_elsewhere id kept kept_next head judged block history next given other gives =
    elim (open_or_not judged) [
      | inl opens ↦ (
        block_pieces id kept kept_next head judged block history next given gives,
        open_elsewhere id kept kept_next head block history next given other (subst
            (λ (v : FrameAction).
            BlockGives kept head v block history given next kept_next) opens gives),
      )
      | inr not ↦ (block_silent id kept kept_next head judged block history next given not gives).0
    ]

pub data_or_not : (kind : FrameKind) → (kind ≡ Data) ⊎ (kind ≢ Data)
data_or_not Data = inl refl
data_or_not Headers = inr (λ (e : Headers ≡ Data). cc)
data_or_not Priority = inr (λ (e : Priority ≡ Data). cc)
data_or_not RstStream = inr (λ (e : RstStream ≡ Data). cc)
data_or_not Settings = inr (λ (e : Settings ≡ Data). cc)
data_or_not PushPromise = inr (λ (e : PushPromise ≡ Data). cc)
data_or_not Ping = inr (λ (e : Ping ≡ Data). cc)
data_or_not GoAway = inr (λ (e : GoAway ≡ Data). cc)
data_or_not WindowUpdate = inr (λ (e : WindowUpdate ≡ Data). cc)
data_or_not Continuation = inr (λ (e : Continuation ≡ Data). cc)
data_or_not (Unknown code) = inr (λ (e : Unknown code ≡ Data). cc)

pub data_gives : (kind : FrameKind) (history next : List Event) (frame : Frame)
    (given : List InEvent)
    → kind ≡ Data → KindGives kind history frame given next
    → (given ≡ data_events (verdict history frame.head) frame)
    × (next ≡ after_frame (verdict history frame.head) frame.head history)
data_gives kind history next frame given is gives =
    subst (λ (k : FrameKind). KindGives k history frame given next) is gives

pub elsewhere_silent : (id : ℕ) (old new : Situation) (group : Group) (given : List InEvent)
    → GroupGives old group given new → nat_eq id (stream_at group) ≡ false → IsSilent id given
elsewhere_silent id old new (Single frame) given (gives, same) other =
    elim (data_or_not frame.head.kind) [
      | inl is ↦
          silent_same id given _
          (data_gives frame.head.kind old.history new.history frame given is gives).0
          (data_elsewhere id (verdict old.history frame.head) frame other)
      | inr not ↦ kind_silent id frame.head.kind old.history new.history frame given not gives
    ]
elsewhere_silent id old new (Credit stream) given (e, next, same) other =
    silent_same id given _ e
    (refusal_silent id (credit_verdict old.history stream) (credit_head stream))
elsewhere_silent id old new (Block frames block) given (begun, whole, gives) other =
    block_elsewhere id old.kept new.kept block.head (verdict old.history block.head) block.block _
    new.history given other gives

-- ---- once so many streams were begun as may be

full_next : (next history : List Event) → next ≡ history → IsFull history → IsFull next
full_next next history e full = subst IsFull (sym e) full

-- no group changes that
pub group_full : (old new : Situation) (group : Group) (given : List InEvent)
    → GroupGives old group given new → IsFull old.history → IsFull new.history
group_full old new (Single frame) given (gives, same) full =
    elim (single_next frame.head.kind old.history new.history frame given gives) [
      | inl e ↦ full_next new.history old.history e full
      | inr e ↦
          full_next new.history
          (after_frame (verdict old.history frame.head) frame.head old.history) e
          (full_after (verdict old.history frame.head) frame.head old.history full)
    ]
group_full old new (Credit stream) given (g, e, same) full =
    full_next new.history
    (after_frame (credit_verdict old.history stream) (credit_head stream) old.history) e
    (full_after (credit_verdict old.history stream) (credit_head stream) old.history full)
group_full old new (Block frames block) given (begun, whole, gives) full =
    let judged : FrameAction = verdict old.history block.head in
    let after : IsFull (after_frame judged block.head old.history) =
    full_after judged block.head old.history full in
    elim (block_next old.kept new.kept block.head judged block.block
    (after_frame judged block.head old.history) new.history given gives) [
      | inl e ↦ full_next new.history (after_frame judged block.head old.history) e after
      | inr e ↦
          full_next new.history (Cut block.head.stream ∷ after_frame judged block.head old.history)
          e (full_stays (Cut block.head.stream) (after_frame judged block.head old.history) after)
    ]

-- and none tells that a stream begins
pub group_untold : (id : ℕ) (old new : Situation) (group : Group) (given : List InEvent)
    → GroupGives old group given new → IsFull old.history → list_any (is_opening id) given ≡ false
group_untold id old new (Single frame) given (gives, same) full =
    elim (data_or_not frame.head.kind) [
      | inl is ↦
          ap (list_any (is_opening id))
          (data_gives frame.head.kind old.history new.history frame given is gives).0
          ∙ data_untold id (verdict old.history frame.head) frame
      | inr not ↦ (kind_silent id frame.head.kind old.history new.history frame given not gives).1
    ]
group_untold id old new (Credit stream) given (e, next, same) full =
    (silent_same id given _ e
    (refusal_silent id (credit_verdict old.history stream) (credit_head stream))).1
group_untold id old new (Block frames block) given (begun, whole, gives) full =
    (block_silent id old.kept new.kept block.head (verdict old.history block.head) block.block _
    new.history given (full_verdict old.history block.head full) gives).0.1

-- ---- the entries of a group, for the data of a stream

with_continuation : (kind : FrameKind) (frame : Frame) (behind : List ℕ) → kind ≡ Continuation
    → data_with kind frame behind ≡ behind
with_continuation kind frame behind is = ap (λ (k : FrameKind). data_with k frame behind) is

either_way : (b : Bool) (x y : List ℕ) → x ≡ y → (if b then x else y) ≡ y
either_way true x y e = e
either_way false x y e = refl

behind_continuations : (id stream : ℕ) (frames : List Frame) (more : List Entry)
    → AllByRecursion (IsContinuation stream) frames
    → data_behind id (map Whole frames ++ more) ≡ data_behind id more
behind_continuations id stream [] more all = refl
behind_continuations id stream (frame ∷ frames) more all =
    either_way (nat_eq id frame.head.stream) _ _
    (with_continuation frame.head.kind frame (data_behind id (map Whole frames ++ more)) all.0.0)
    ∙ behind_continuations id stream frames more all.1

not_headers : (kind : FrameKind) → kind ≡ Continuation → is_headers kind ≡ false
not_headers kind is = ap is_headers is

of_continuations : (id stream : ℕ) (frames : List Frame) (more : List Entry)
    → AllByRecursion (IsContinuation stream) frames
    → data_of id (map Whole frames ++ more) ≡ data_of id more
of_continuations id stream [] more all = refl
of_continuations id stream (frame ∷ frames) more all =
    ap (λ (b : Bool).
    if b
    then (if has end_stream frame.head.flags then [] else data_behind id (map Whole frames ++ more))
    else data_of id (map Whole frames ++ more))
    (and_false (nat_eq id frame.head.stream) (is_headers frame.head.kind)
    (not_headers frame.head.kind all.0.0))
    ∙ of_continuations id stream frames more all.1
  where
    and_false : (a b : Bool) → b ≡ false → (a && b) ≡ false
    and_false true b e = e
    and_false false b e = refl

-- the entries of a header block, where its stream is open
pub block_behind : (id : ℕ) (frames : List Frame) (block : PendingBlock) (more : List Entry)
    → Collects frames block
    → data_behind id (map Whole frames ++ more)
    ≡ (if nat_eq id block.head.stream then [] else data_behind id more)
block_behind id frames block more so =
    ap (λ (fs : List Frame). data_behind id (map Whole fs ++ more)) so.parts
    ∙ ap (λ (h : FrameHead).
    if nat_eq id h.stream
    then data_with h.kind so.first (data_behind id (map Whole so.others ++ more))
    else data_behind id (map Whole so.others ++ more)) so.headers
    ∙ ap (λ (k : FrameKind).
    if nat_eq id block.head.stream
    then data_with k so.first (data_behind id (map Whole so.others ++ more))
    else data_behind id (map Whole so.others ++ more)) so.kind
    ∙ ap (λ (b : List ℕ). if nat_eq id block.head.stream then [] else b)
    (behind_continuations id block.head.stream so.others more so.continuations)

-- and where it isn't
pub block_of : (id : ℕ) (frames : List Frame) (block : PendingBlock) (more : List Entry)
    → Collects frames block
    → data_of id (map Whole frames ++ more)
    ≡ (if nat_eq id block.head.stream
    then (if has end_stream block.head.flags then [] else data_behind id more)
    else data_of id more)
block_of id frames block more so =
    ap (λ (fs : List Frame). data_of id (map Whole fs ++ more)) so.parts
    ∙ ap (λ (h : FrameHead).
    if nat_eq id h.stream && is_headers h.kind
    then (if has end_stream h.flags then [] else data_behind id (map Whole so.others ++ more))
    else data_of id (map Whole so.others ++ more)) so.headers
    ∙ ap (λ (k : FrameKind).
    if nat_eq id block.head.stream && is_headers k
    then (if has end_stream block.head.flags then []
    else data_behind id (map Whole so.others ++ more))
    else data_of id (map Whole so.others ++ more)) so.kind
    ∙ ap (λ (b : Bool).
    if b
    then (if has end_stream block.head.flags then []
    else data_behind id (map Whole so.others ++ more))
    else data_of id (map Whole so.others ++ more)) (and_true (nat_eq id block.head.stream))
    ∙ ap (λ (b : List ℕ).
    if nat_eq id block.head.stream then (if has end_stream block.head.flags then [] else b)
    else data_of id (map Whole so.others ++ more))
    (behind_continuations id block.head.stream so.others more so.continuations)
    ∙ ap (λ (b : List ℕ).
    if nat_eq id block.head.stream
    then (if has end_stream block.head.flags then [] else data_behind id more)
    else b) (of_continuations id block.head.stream so.others more so.continuations)
  where
    and_true : (b : Bool) → (b && true) ≡ b
    and_true true = refl
    and_true false = refl

-- a group of another stream is no part of the data
pub elsewhere_behind : (id : ℕ) (old new : Situation) (group : Group) (given : List InEvent)
    (more : List Entry)
    → GroupGives old group given new → nat_eq id (stream_at group) ≡ false
    → data_behind id (entries_of group ++ more) ≡ data_behind id more
elsewhere_behind id old new (Single frame) given more gives other =
    ap (λ (b : Bool).
    if b then data_with frame.head.kind frame (data_behind id more) else data_behind id more) other
elsewhere_behind id old new (Credit stream) given more gives other =
    ap (λ (b : Bool). if b then [] else data_behind id more) other
elsewhere_behind id old new (Block frames block) given more (begun, whole, gives) other =
    block_behind id frames block more begun.collects
    ∙ ap (λ (b : Bool). if b then [] else data_behind id more) other

pub elsewhere_of : (id : ℕ) (old new : Situation) (group : Group) (given : List InEvent)
    (more : List Entry)
    → GroupGives old group given new → nat_eq id (stream_at group) ≡ false
    → data_of id (entries_of group ++ more) ≡ data_of id more
elsewhere_of id old new (Single frame) given more gives other =
    ap (λ (b : Bool).
    if b && is_headers frame.head.kind
    then (if has end_stream frame.head.flags then [] else data_behind id more)
    else data_of id more) other
elsewhere_of id old new (Credit stream) given more gives other = refl
elsewhere_of id old new (Block frames block) given more (begun, whole, gives) other =
    block_of id frames block more begun.collects
    ∙ ap (λ (b : Bool).
    if b then (if has end_stream block.head.flags then [] else data_behind id more)
    else data_of id more) other
