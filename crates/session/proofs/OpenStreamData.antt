-- What a group comes to for the data of a stream whose half is open or closed.
use Rattle.std.proofs.Common.{
  ◌≡◌,
  ◌≢◌,
  ◌≤◌,
  ℕ,
  ◌⊎◌,
  inl,
  inr,
  Bool,
  true,
  false,
  nat_eq,
  List,
  [],
  ◌∷◌,
  ◌++◌,
  length,
  refl,
  sym,
  ap,
  subst,
  ◌∙◌,
  arith,
}
use Rattle.std.specs.Prelude.{Some, ◌==◌, if◌then◌else◌}
use Rattle.std.specs.List.{AllByRecursion}
use Rattle.std.proofs.lemmas.Bool.{cases_Bool, eqb-true}
use Rattle.std.proofs.lemmas.List.{append-nil, nil_from_length}
use Rattle.h2frame.specs.declared.error_code.ErrorCode.TheVariants.{ProtocolError, StreamClosed}
use Rattle.h2frame.specs.declared.frame.Frame.{Frame}
use Rattle.h2frame.specs.declared.frame.FrameHead.{FrameHead}
use Rattle.h2frame.specs.declared.kind.FrameKind.{FrameKind}
use Rattle.h2frame.specs.declared.kind.FrameKind.TheVariants.{
  Data,
  Headers,
  Priority,
  RstStream,
  Settings,
  PushPromise,
  Ping,
  GoAway,
  WindowUpdate,
  Continuation,
  Unknown,
}
use Rattle.h2frame.specs.Flags.{has, end_stream}
use Rattle.h2frame.specs.FrameList.{Entry, Whole, NoIncrement}
use Rattle.streamstates.specs.declared.halves.HalfState.{HalfState}
use Rattle.streamstates.specs.declared.halves.HalfState.TheVariants.{Opened, Ended, Reset}
use Rattle.streamstates.specs.declared.halves.FrameAction.{FrameAction}
use Rattle.streamstates.specs.declared.halves.FrameAction.TheVariants.{
  Open,
  Accept,
  Discard,
  StreamError,
}
use Rattle.streamstates.specs.Halves.{
  Event,
  Received,
  Cut,
  begun,
  verdict,
  half_after,
  on_begun,
  is_last_of_kind,
  on_ended,
  on_opened,
  moved,
  is_reset_kind,
}
use Rattle.session.specs.declared.event.InEvent.{InEvent}
use Rattle.session.specs.declared.event.InEvent.TheVariants as events
use Rattle.session.specs.Streams.{
  after_frame,
  counted,
  end_of,
  data_events,
  credit_head,
  credit_verdict,
  without_increment,
}
use Rattle.session.specs.Frames.{KindGives}
use Rattle.session.specs.HeaderBlocks.{PendingBlock}
use Rattle.session.specs.Events.{Situation, Group, Single, Credit, Block, entries_of, GroupGives}
use Rattle.session.specs.StreamData.{data_with, data_behind, pieces}
use Rattle.session.proofs.HalfSteps.{
  half_at,
  IsClosed,
  closed_stays,
  step_begun,
  verdict_begun,
  closed_some,
  opened_data,
  opened_reset,
  opened_window,
}
use Rattle.session.proofs.StreamPieces.{
  IsNextOf,
  IsSilent,
  pieces_append,
  silent_same,
  end_silent,
  refusal_silent,
  data_silent,
  kind_silent,
  block_silent,
}
use Rattle.session.proofs.StreamGroups.{
  single_next,
  at_next,
  stream_at,
  group_elsewhere,
  data_or_not,
  data_gives,
  elsewhere_silent,
  block_behind,
  elsewhere_behind,
}

-- ---- where the stream's half is closed

closed_data : (now : HalfState) (head : FrameHead) → IsClosed (Some now) → head.kind ≡ Data
    → on_begun now head ≢ Accept
closed_data Opened head (inl e) kind = absurd cc
closed_data Opened head (inr e) kind = absurd cc
closed_data Ended head closed kind = λ (e : on_begun Ended head ≡ Accept).
    let wrong : StreamError StreamClosed ≡ Accept = sym (ap on_ended kind) ∙ e in cc
closed_data Reset head closed kind = λ (e : Discard ≡ Accept). cc

closed_headers : (now : HalfState) (head : FrameHead) → IsClosed (Some now) → head.kind ≡ Headers
    → on_begun now head ≢ Open
closed_headers Opened head (inl e) kind = absurd cc
closed_headers Opened head (inr e) kind = absurd cc
closed_headers Ended head closed kind = λ (e : on_begun Ended head ≡ Open).
    let wrong : StreamError StreamClosed ≡ Open = sym (ap on_ended kind) ∙ e in cc
closed_headers Reset head closed kind = λ (e : Discard ≡ Open). cc

closed_here : (id : ℕ) (old new : Situation) (group : Group)
    (given : List InEvent) (now : HalfState)
    → GroupGives old group given new → nat_eq id (stream_at group) ≡ true
    → half_at old.history id ≡ Some now → IsClosed (Some now) → IsSilent id given
closed_here id old new (Single frame) given now (gives, same) on at closed =
    elim (data_or_not frame.head.kind) [
      | inl is ↦
          silent_same id given _
          (data_gives frame.head.kind old.history new.history frame given is gives).0
          (data_silent id (verdict old.history frame.head) frame
          (λ (e : verdict old.history frame.head ≡ Accept).
          closed_data now frame.head closed is
          (sym (verdict_begun id old.history frame.head now on at) ∙ e)))
      | inr not ↦ kind_silent id frame.head.kind old.history new.history frame given not gives
    ]
closed_here id old new (Credit stream) given now (e, next, same) on at closed =
    silent_same id given _ e
    (refusal_silent id (credit_verdict old.history stream) (credit_head stream))
closed_here id old new (Block frames block) given now (begun, whole, gives) on at closed =
    (block_silent id old.kept new.kept block.head (verdict old.history block.head)
    block.block _ new.history given
    (λ (e : verdict old.history block.head ≡ Open).
    closed_headers now block.head closed begun.collects.kind
    (sym (verdict_begun id old.history block.head now on at) ∙ e)) gives).0

pub closed_silent : (id : ℕ) (old new : Situation) (group : Group) (given : List InEvent)
    → GroupGives old group given new → IsClosed (half_at old.history id) → IsSilent id given
closed_silent id old new group given gives closed =
    elim (cases_Bool (nat_eq id (stream_at group))) [
      | inl on ↦
          let now = closed_some (half_at old.history id) closed in
          closed_here id old new group given now.0 gives on now.1 (subst IsClosed now.1 closed)
      | inr other ↦ elsewhere_silent id old new group given gives other
    ]

-- ---- where the stream is open

-- the half stays open, and the pieces are the data up to here; or it is closed, and they are all
abbrev pub OpenNext : ℕ → Situation → Group → List InEvent → Type 0
OpenNext id new group given =
    ((half_at new.history id ≡ Some Opened)
    × ((more : List Entry)
    → data_behind id (entries_of group ++ more) ≡ pieces id given ++ data_behind id more))
    ⊎ (IsClosed (half_at new.history id)
    × ((more : List Entry) → data_behind id (entries_of group ++ more) ≡ pieces id given))

pub here_with : (id : ℕ) (frame : Frame) (more : List Entry) → nat_eq id frame.head.stream ≡ true
    → data_behind id (Whole frame ∷ more) ≡ data_with frame.head.kind frame (data_behind id more)
here_with id frame more on =
    ap (λ (b : Bool).
    if b then data_with frame.head.kind frame (data_behind id more) else data_behind id more) on

piece_here : (id : ℕ) (frame : Frame) → nat_eq id frame.head.stream ≡ true
    → length frame.content ≤ frame.head.length
    → pieces id (data_events Accept frame) ≡ frame.content
piece_here id frame on counts =
    pieces_append id (counted frame.head.length
    (events.Data frame.head.stream frame.content frame.head.length)) (end_of frame.head)
    ∙ ap (λ (b : List ℕ).
    pieces id (counted frame.head.length
    (events.Data frame.head.stream frame.content frame.head.length))
    ++ b) (end_silent id frame.head).0
    ∙ append-nil (pieces id
    (counted frame.head.length (events.Data frame.head.stream frame.content frame.head.length)))
    ∙ by (frame.head.length == 0) refl
  where
    by : (b : Bool) → frame.head.length == 0 ≡ b
        → pieces id (if b then []
        else events.Data frame.head.stream frame.content frame.head.length ∷ [])
        ≡ frame.content
    by true none =
        let n : frame.head.length ≡ 0 = eqb-true frame.head.length 0 none in
        let m : length frame.content ≡ 0 = omega (arith, counts, n) in
        sym (nil_from_length frame.content m)
    by false some =
        ap (λ (b : Bool). (if b then frame.content else []) ++ []) on ∙ append-nil frame.content

data_open : (id : ℕ) (old new : Situation) (frame : Frame) (given : List InEvent)
    → frame.head.kind ≡ Data → KindGives frame.head.kind old.history frame given new.history
    → nat_eq id frame.head.stream ≡ true → half_at old.history id ≡ Some Opened
    → length frame.content ≤ frame.head.length → OpenNext id new (Single frame) given
data_open id old new frame given is gives on at counts =
    let g = data_gives frame.head.kind old.history new.history frame given is gives in
    let judged : verdict old.history frame.head ≡ Accept =
    verdict_begun id old.history frame.head Opened on at ∙ (opened_data frame.head is).0 in
    let told : pieces id given ≡ frame.content =
    ap (pieces id) (g.0 ∙ ap (λ (v : FrameAction). data_events v frame) judged)
    ∙ piece_here id frame on counts in
    let next : new.history ≡ Received frame.head ∷ old.history =
    g.1 ∙ ap (λ (v : FrameAction). after_frame v frame.head old.history) judged in
    let half : half_at new.history id ≡ Some
    (if has end_stream frame.head.flags then Ended else Opened) =
    ap (λ (h : List Event). half_at h id) next
    ∙ step_begun id (Received frame.head) old.history Opened on at
    ∙ ap Some (opened_data frame.head is).1 in
    let due : (more : List Entry) → data_behind id (Whole frame ∷ more) ≡ frame.content
    ++ (if has end_stream frame.head.flags then [] else data_behind id more) =
    λ more.
    here_with id frame more on
    ∙ ap (λ (k : FrameKind). data_with k frame (data_behind id more)) is in
    by (has end_stream frame.head.flags) refl told half due
  where
    by : (b : Bool) → has end_stream frame.head.flags ≡ b → pieces id given ≡ frame.content
        → half_at new.history id ≡ Some (if has end_stream frame.head.flags then Ended else Opened)
        → ((more : List Entry)
        → data_behind id (Whole frame ∷ more)
        ≡ frame.content ++ (if has end_stream frame.head.flags then [] else data_behind id more))
        → OpenNext id new (Single frame) given
    by true ended told half due =
        inr (
          inl (half ∙ ap (λ (b : Bool). Some (if b then Ended else Opened)) ended),
          λ more.
              due more
              ∙ ap (λ (b : Bool). frame.content ++ (if b then [] else data_behind id more)) ended
              ∙ append-nil frame.content ∙ sym told,
        )
    by false ended told half due =
        inl (
          half ∙ ap (λ (b : Bool). Some (if b then Ended else Opened)) ended,
          λ more.
              due more
              ∙ ap (λ (b : Bool). frame.content ++ (if b then [] else data_behind id more)) ended
              ∙ ap (λ (b : List ℕ). b ++ data_behind id more) (sym told),
        )

-- a frame that leaves the stream open, and is no part of its data
stays_open : (id : ℕ) (new : Situation) (frame : Frame) (given : List InEvent) → IsSilent id given
    → half_at new.history id ≡ Some Opened → nat_eq id frame.head.stream ≡ true
    → ((behind : List ℕ) → data_with frame.head.kind frame behind ≡ behind)
    → OpenNext id new (Single frame) given
stays_open id new frame given silent half on skips =
    inl (
      half,
      λ more.
          here_with id frame more on ∙ skips (data_behind id more)
          ∙ ap (λ (b : List ℕ). b ++ data_behind id more) (sym silent.0),
    )

pub still_open : (id : ℕ) (old new : Situation) → new.history ≡ old.history
    → half_at old.history id ≡ Some Opened → half_at new.history id ≡ Some Opened
still_open id old new same at = ap (λ (h : List Event). half_at h id) same ∙ at

pub window_open : (id : ℕ) (old new : Situation) (frame : Frame) (given : List InEvent)
    → frame.head.kind ≡ WindowUpdate → nat_eq id frame.head.stream ≡ true
    → half_at old.history id ≡ Some Opened
    → (new.history ≡ old.history)
    ⊎ (new.history ≡ after_frame (verdict old.history frame.head) frame.head old.history)
    → half_at new.history id ≡ Some Opened
window_open id old new frame given is on at (inl same) = still_open id old new same at
window_open id old new frame given is on at (inr same) =
    let judged : verdict old.history frame.head ≡ Accept =
    verdict_begun id old.history frame.head Opened on at ∙ (opened_window frame.head is).0 in
    ap (λ (h : List Event). half_at h id)
    (same ∙ ap (λ (v : FrameAction). after_frame v frame.head old.history) judged)
    ∙ step_begun id (Received frame.head) old.history Opened on at
    ∙ ap Some (opened_window frame.head is).1

-- RST_STREAM closes it
pub reset_closed : (id : ℕ) (old new : Situation) (frame : Frame) → frame.head.kind ≡ RstStream
    → new.history ≡ after_frame (verdict old.history frame.head) frame.head old.history
    → nat_eq id frame.head.stream ≡ true → half_at old.history id ≡ Some Opened
    → IsClosed (half_at new.history id)
reset_closed id old new frame is same on at =
    let judged : verdict old.history frame.head ≡ Accept =
    verdict_begun id old.history frame.head Opened on at ∙ (opened_reset frame.head is).0 in
    inr (ap (λ (h : List Event). half_at h id)
    (same ∙ ap (λ (v : FrameAction). after_frame v frame.head old.history) judged)
    ∙ step_begun id (Received frame.head) old.history Opened on at
    ∙ ap Some (opened_reset frame.head is).1)

reset_open : (id : ℕ) (old new : Situation) (frame : Frame) (given : List InEvent)
    → frame.head.kind ≡ RstStream
    → new.history ≡ after_frame (verdict old.history frame.head) frame.head old.history
    → IsSilent id given
    → nat_eq id frame.head.stream ≡ true → half_at old.history id ≡ Some Opened
    → OpenNext id new (Single frame) given
reset_open id old new frame given is same silent on at =
    inr (
      reset_closed id old new frame is same on at,
      λ more.
          here_with id frame more on
          ∙ ap (λ (k : FrameKind). data_with k frame (data_behind id more)) is ∙ sym silent.0,
    )

single_open : (kind : FrameKind) (id : ℕ) (old new : Situation) (frame : Frame)
    (given : List InEvent)
    → frame.head.kind ≡ kind → KindGives kind old.history frame given new.history
    → nat_eq id frame.head.stream ≡ true → half_at old.history id ≡ Some Opened
    → length frame.content ≤ frame.head.length → OpenNext id new (Single frame) given
single_open Data id old new frame given is gives on at counts =
    data_open id old new frame given is (subst
    (λ (k : FrameKind). KindGives k old.history frame given new.history) (sym is)
    gives) on at counts
single_open Headers id old new frame given is gives on at counts = absurd gives
single_open RstStream id old new frame given is gives on at counts =
    reset_open id old new frame given is gives.1 (kind_silent id RstStream old.history new.history
    frame given (λ (e : RstStream ≡ Data). cc) gives) on at
single_open WindowUpdate id old new frame given is gives on at counts =
    stays_open id new frame given (kind_silent id WindowUpdate old.history new.history frame given
    (λ (e : WindowUpdate ≡ Data). cc) gives)
    (window_open id old new frame given is on at
    (single_next WindowUpdate old.history new.history frame given gives)) on
    (λ behind. ap (λ (k : FrameKind). data_with k frame behind) is)
single_open Settings id old new frame given is gives on at counts =
    stays_open id new frame given (kind_silent id Settings old.history new.history frame given
    (λ (e : Settings ≡ Data). cc) gives) (still_open id old new gives.1 at) on
    (λ behind. ap (λ (k : FrameKind). data_with k frame behind) is)
single_open Ping id old new frame given is gives on at counts =
    stays_open id new frame given (kind_silent id Ping old.history new.history frame given
    (λ (e : Ping ≡ Data). cc) gives) (still_open id old new gives.1 at) on
    (λ behind. ap (λ (k : FrameKind). data_with k frame behind) is)
single_open GoAway id old new frame given is gives on at counts =
    stays_open id new frame given (kind_silent id GoAway old.history new.history frame given
    (λ (e : GoAway ≡ Data). cc) gives) (still_open id old new gives.1 at) on
    (λ behind. ap (λ (k : FrameKind). data_with k frame behind) is)
single_open PushPromise id old new frame given is gives on at counts =
    stays_open id new frame given (kind_silent id PushPromise old.history new.history frame given
    (λ (e : PushPromise ≡ Data). cc) gives) (still_open id old new gives.1 at) on
    (λ behind. ap (λ (k : FrameKind). data_with k frame behind) is)
single_open Continuation id old new frame given is gives on at counts =
    stays_open id new frame given (kind_silent id Continuation old.history new.history frame given
    (λ (e : Continuation ≡ Data). cc) gives) (still_open id old new gives.1 at) on
    (λ behind. ap (λ (k : FrameKind). data_with k frame behind) is)
single_open Priority id old new frame given is gives on at counts =
    stays_open id new frame given (kind_silent id Priority old.history new.history frame given
    (λ (e : Priority ≡ Data). cc) gives) (still_open id old new gives.1 at) on
    (λ behind. ap (λ (k : FrameKind). data_with k frame behind) is)
single_open (Unknown code) id old new frame given is gives on at counts =
    stays_open id new frame given (kind_silent id (Unknown code) old.history new.history frame given
    (λ (e : Unknown code ≡ Data). cc) gives) (still_open id old new gives.1 at) on
    (λ behind. ap (λ (k : FrameKind). data_with k frame behind) is)

pub credit_closed : (id : ℕ) (old new : Situation) (stream : ℕ) (given : List InEvent)
    → GroupGives old (Credit stream) given new → nat_eq id stream ≡ true
    → half_at old.history id ≡ Some Opened → IsClosed (half_at new.history id)
credit_closed id old new stream given (e, next, same) on at =
    let judged : credit_verdict old.history stream ≡ StreamError ProtocolError =
    ap without_increment (verdict_begun id old.history (credit_head stream) Opened on at) in
    let after : new.history ≡ Cut stream ∷ (Received (credit_head stream) ∷ old.history) =
    next ∙ ap (λ (v : FrameAction). after_frame v (credit_head stream) old.history) judged in
    let half : half_at new.history id ≡ Some Reset =
    ap (λ (h : List Event). half_at h id) after
    ∙ step_begun id (Cut stream) (Received (credit_head stream) ∷ old.history) Opened on
    (step_begun id (Received (credit_head stream)) old.history Opened on at) in
    inr half

credit_open : (id : ℕ) (old new : Situation) (stream : ℕ) (given : List InEvent)
    → GroupGives old (Credit stream) given new → nat_eq id stream ≡ true
    → half_at old.history id ≡ Some Opened → OpenNext id new (Credit stream) given
credit_open id old new stream given (e, next, same) on at =
    let silent : IsSilent id given =
    silent_same id given _ e
    (refusal_silent id (credit_verdict old.history stream) (credit_head stream)) in
    inr (
      credit_closed id old new stream given (e, next, same) on at,
      λ more. ap (λ (b : Bool). if b then [] else data_behind id more) on ∙ sym silent.0,
    )

-- HEADERS on an open stream
pub opened_headers : (head : FrameHead) → head.kind ≡ Headers
    → (on_begun Opened head
    ≡ (if has end_stream head.flags then Accept else StreamError ProtocolError))
    × (half_after Opened (Received head) ≡ (if has end_stream head.flags then Ended else Opened))
opened_headers head kind = (
  ap (λ (k : FrameKind). on_opened k (has end_stream head.flags)) kind
      ∙ either (has end_stream head.flags),
  ap (λ (k : FrameKind).
      moved Opened (is_reset_kind k) (is_last_of_kind k (has end_stream head.flags))) kind,
)
  where
    either : (b : Bool) → on_opened Headers b ≡ (if b then Accept else StreamError ProtocolError)
    either true = refl
    either false = refl

trailers_closed : (id : ℕ) (head : FrameHead) (history : List Event) → head.kind ≡ Headers
    → nat_eq id head.stream ≡ true → half_at history id ≡ Some Opened
    → IsClosed (half_at (after_frame (verdict history head) head history) id)
    × (verdict history head ≢ Open)
trailers_closed id head history kind on at =
    by (has end_stream head.flags)
    (verdict_begun id history head Opened on at ∙ (opened_headers head kind).0)
    (step_begun id (Received head) history Opened on at ∙ ap Some (opened_headers head kind).1)
  where
    by : (b : Bool) → verdict history head ≡ (if b then Accept else StreamError ProtocolError)
        → half_at (Received head ∷ history) id ≡ Some (if b then Ended else Opened)
        → IsClosed (half_at (after_frame (verdict history head) head history) id)
        × (verdict history head ≢ Open)
    by true judged half = (
      inl (ap (λ (v : FrameAction). half_at (after_frame v head history) id) judged ∙ half),
      λ (e : verdict history head ≡ Open). let wrong : Accept ≡ Open = sym judged ∙ e in cc,
    )
    by false judged half = (
      inr (ap (λ (v : FrameAction). half_at (after_frame v head history) id) judged
          ∙ step_begun id (Cut head.stream) (Received head ∷ history) Opened on half),
      λ (e : verdict history head ≡ Open).
          let wrong : StreamError ProtocolError ≡ Open = sym judged ∙ e in
          cc,
    )

closed_next : (id stream : ℕ) (next history : List Event) → IsNextOf stream history next
    → IsClosed (half_at history id) → IsClosed (half_at next id)
closed_next id stream next history (inl e) closed = at_next id next history IsClosed e closed
closed_next id stream next history (inr e) closed =
    at_next id next (Cut stream ∷ history) IsClosed e (closed_stays id (Cut stream) history closed)

-- a header block closes it, and tells nothing of its data
pub block_closed : (id : ℕ) (old new : Situation) (frames : List Frame) (block : PendingBlock)
    (given : List InEvent)
    → GroupGives old (Block frames block) given new → nat_eq id block.head.stream ≡ true
    → half_at old.history id ≡ Some Opened
    → IsClosed (half_at new.history id) × IsSilent id given
block_closed id old new frames block given (begun, whole, gives) on at =
    let closed = trailers_closed id block.head old.history begun.collects.kind on at in
    let told =
    block_silent id old.kept new.kept block.head (verdict old.history block.head) block.block _
    new.history given closed.1 gives in (
      closed_next id block.head.stream new.history
          (after_frame (verdict old.history block.head) block.head old.history) told.1 closed.0,
      told.0,
    )

block_open : (id : ℕ) (old new : Situation) (frames : List Frame) (block : PendingBlock)
    (given : List InEvent)
    → GroupGives old (Block frames block) given new → nat_eq id block.head.stream ≡ true
    → half_at old.history id ≡ Some Opened → OpenNext id new (Block frames block) given
block_open id old new frames block given (begun, whole, gives) on at =
    let told = block_closed id old new frames block given (begun, whole, gives) on at in
    inr (
      told.0,
      λ more.
          block_behind id frames block more begun.collects
          ∙ ap (λ (b : Bool). if b then [] else data_behind id more) on ∙ sym told.1.0,
    )

-- DATA count at least the bytes of their content
abbrev pub IsCounted : Entry → Type 0
IsCounted (Whole frame) = length frame.content ≤ frame.head.length
IsCounted (NoIncrement stream) = Unit {0}

open_here : (id : ℕ) (old new : Situation) (group : Group) (given : List InEvent)
    → GroupGives old group given new → AllByRecursion IsCounted (entries_of group)
    → nat_eq id (stream_at group) ≡ true → half_at old.history id ≡ Some Opened
    → OpenNext id new group given
open_here id old new (Single frame) given gives counts on at =
    single_open frame.head.kind id old new frame given refl gives.0 on at counts.0
open_here id old new (Credit stream) given gives counts on at =
    credit_open id old new stream given gives on at
open_here id old new (Block frames block) given gives counts on at =
    block_open id old new frames block given gives on at

pub group_open : (id : ℕ) (old new : Situation) (group : Group) (given : List InEvent)
    → GroupGives old group given new → AllByRecursion IsCounted (entries_of group)
    → half_at old.history id ≡ Some Opened → OpenNext id new group given
group_open id old new group given gives counts at =
    elim (cases_Bool (nat_eq id (stream_at group))) [
      | inl on ↦ open_here id old new group given gives counts on at
      | inr other ↦ inl (
        group_elsewhere id old new group given gives other ∙ at,
        λ more.
            elsewhere_behind id old new group given more gives other
            ∙ ap (λ (b : List ℕ). b ++ data_behind id more)
            (sym (elsewhere_silent id old new group given gives other).0),
      )
    ]
