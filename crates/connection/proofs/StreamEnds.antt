-- How the stream of a call ended: trailers that are written have END_STREAM, and RST_STREAM comes
-- only behind a Reset.
use Rattle.std.proofs.Common.{
  ◌≡◌,
  ◌⊎◌,
  ◌∙◌,
  ◌==◌,
  ◌<◌,
  arith,
  inl,
  inr,
  ℕ,
  Bool,
  true,
  false,
  true≢false,
  eqb-true,
  List,
  [],
  ◌∷◌,
  ◌++◌,
  Option,
  None,
  Some,
  ap,
  if◌then◌else◌,
  map,
  refl,
  subst,
  sym,
}
use Rattle.std.specs.Prelude.{◌&&◌, ◌||◌}
use Rattle.std.specs.List.{list_any}
use Rattle.std.specs.Option.{option_map}
use Rattle.std.proofs.lemmas.Bool.{eq-eqb}
use Rattle.account.specs.declared.call.OutItem.{OutItem}
use Rattle.account.specs.declared.call.OutItem.TheVariants.{Head, Message, Trailers, Left}
use Rattle.callbox.specs.OutSides.{has_trailers}
use Rattle.h2frame.specs.declared.error_code.ErrorCode.{ErrorCode}
use Rattle.h2frame.specs.declared.frame.Frame.{Frame}
use Rattle.h2frame.specs.declared.kind.FrameKind.{FrameKind}
use Rattle.h2frame.specs.declared.kind.FrameKind.TheVariants as kind
use Rattle.hpack_codec.specs.Table.{Table}
use Rattle.lists.specs.declared.field.Field.{Field}
use Rattle.outwriter.specs.declared.control.WriterOrder.TheVariants as order
use Rattle.outwriter.specs.Frames.{ends, ends_block, ends_stream, is_reset, resets}
use Rattle.sendwindows.specs.WindowHistory.{room_after}
use Rattle.sendwindows.specs.WindowHistory.{Step as WindowStep}
use Rattle.outwriter.specs.Histories.{HasHistory, resets_stream, was_reset}
use Rattle.outwriter.specs.Parts.{
  Adds,
  Byte,
  End,
  Fields,
  IsPart,
  Mark,
  Reset,
  Tells,
  completed,
  end_mark,
  marks_on,
  on_stream,
  plain_kind,
  plain_marks,
  spelled,
}
use Rattle.outwriter.specs.Runs.{
  Asks,
  Fragments,
  IsAsked,
  IsLawful,
  fragments,
  fragments_kind,
  unfinished,
}
use Rattle.outwriter.specs.Steps.{Order, Step, Taken, Granted, Written, Returned, frames_of}
use Rattle.outwriter.specs.TableLimits.{least_begun}
use Rattle.outwriter.proofs.ServeSteps.{marks-append, marks-elsewhere, marks-here}
use Rattle.writerloop.specs.Done.{Ended, GotAll, HasAllBut, HasNoMore, Waits}
use Rattle.writerloop.specs.Done.{WasReset as NoMoreByReset}
use Rattle.connection.specs.Sent.{StreamEnd, WasEnded, WasHeldBack, WasLeftOpen, WasReset}

or-left : (a b : Bool) → a ≡ true → (a || b) ≡ true
or-left a b is = ap (λ (c : Bool). c || b) is

or-right : (a b : Bool) → b ≡ true → (a || b) ≡ true
or-right true b is = refl
or-right false b is = is

either : (a b : Bool) → (a || b) ≡ true → (a ≡ true) ⊎ (b ≡ true)
either true b is = inl refl
either false b is = inr is

both : (a b : Bool) → a ≡ true → b ≡ true → (a && b) ≡ true
both a b first second = ap (λ (c : Bool). c && b) first ∙ second

each-of : (a b : Bool) → (a && b) ≡ true → (a ≡ true) × (b ≡ true)
each-of true b is = (refl, is)
each-of false b is = absurd (true≢false (sym is))

-- ---- the end of a stream among marks

abbrev HasEnd : List Mark → Type 0
HasEnd [] = ⊥
HasEnd (Byte byte ∷ marks) = HasEnd marks
HasEnd (Fields fields ∷ marks) = HasEnd marks
HasEnd (End ∷ marks) = Unit {0}
HasEnd (Reset code ∷ marks) = HasEnd marks

end-behind : (bytes : List ℕ) (marks : List Mark) → HasEnd (map Byte bytes ++ marks) → HasEnd marks
end-behind [] marks has = has
end-behind (byte ∷ bytes) marks has = end-behind bytes marks has

end-before : (bytes : List ℕ) (marks : List Mark) → HasEnd marks → HasEnd (map Byte bytes ++ marks)
end-before [] marks has = has
end-before (byte ∷ bytes) marks has = end-before bytes marks has

bytes-none : (bytes : List ℕ) → HasEnd (map Byte bytes) → ⊥
bytes-none [] has = has
bytes-none (byte ∷ bytes) has = bytes-none bytes has

end-split : (front back : List Mark) → HasEnd (front ++ back) → HasEnd front ⊎ HasEnd back
end-split [] back has = inr has
end-split (Byte byte ∷ front) back has = end-split front back has
end-split (Fields fields ∷ front) back has = end-split front back has
end-split (End ∷ front) back has = inl tt
end-split (Reset code ∷ front) back has = end-split front back has

mark-ends : (b : Bool) → HasEnd (end_mark b) → b ≡ true
mark-ends true has = refl
mark-ends false has = absurd has

trailers-spelled : (items : List OutItem) → has_trailers items ≡ true → HasEnd (spelled items)
trailers-spelled [] is = absurd (true≢false (sym is))
trailers-spelled (Head fields ∷ items) is = trailers-spelled items is
trailers-spelled (Message bytes ∷ items) is =
    end-before bytes (spelled items) (trailers-spelled items is)
trailers-spelled (Trailers fields ∷ items) is = tt
trailers-spelled (Left ∷ items) is = trailers-spelled items is

-- ---- header blocks that end a stream

ends-of : Option Fragments → Bool
ends-of None = false
ends-of (Some block) = block.ends_it

stream-of : Option Fragments → ℕ
stream-of None = 0
stream-of (Some block) = block.stream

-- a frame of a header block begins it, or goes on with what was begun
data Source (frame : Frame) (begun : Option Fragments) (block : Fragments) : Type 0 where
  Begins : ends_stream frame ≡ block.ends_it → frame.head.stream ≡ block.stream
      → Source frame begun block
  GoesOn : (one : Fragments) → begun ≡ Some one → one.ends_it ≡ block.ends_it
      → one.stream ≡ block.stream → Source frame begun block

none-block : {P : Type 0} (block : Fragments) → None ≡ Some block → P
none-block block is = absurd cc

source : (found : FrameKind) (frame : Frame) (begun : Option Fragments) (block : Fragments)
    → fragments_kind found frame begun ≡ Some block → Source frame begun block
unfolding ends-of stream-of
source kind.Headers frame begun block is = Begins (ap ends-of is) (ap stream-of is)
source kind.Continuation frame None block is = none-block block is
source kind.Continuation frame (Some one) block is =
    GoesOn one refl (ap ends-of is) (ap stream-of is)
source _ frame begun block is = none-block block is

abbrev EndsBegun : List Step → Type 0
EndsBegun run =
    (block : Fragments) → unfinished run ≡ Some block → block.ends_it ≡ true
    → list_any (ends block.stream) (frames_of run) ≡ true

block-ends : (before : List Step) (frame : Frame) (block : Fragments) → EndsBegun before
    → fragments frame (unfinished before) ≡ Some block → block.ends_it ≡ true
    → list_any (ends block.stream) (frame ∷ frames_of before) ≡ true
block-ends before frame block was is ended =
    by (source frame.head.kind frame (unfinished before) block is)
  where
    by : Source frame (unfinished before) block
        → list_any (ends block.stream) (frame ∷ frames_of before) ≡ true
    by (Begins ends_it stream) =
        or-left (ends block.stream frame) (list_any (ends block.stream) (frames_of before))
        (both (ends_stream frame) (block.stream == frame.head.stream) (ends_it ∙ ended)
        (eq-eqb block.stream frame.head.stream (sym stream)))
    by (GoesOn one begun ends_it stream) =
        or-right (ends block.stream frame) (list_any (ends block.stream) (frames_of before))
        (subst (λ (n : ℕ). list_any (ends n) (frames_of before) ≡ true) stream
        (was one begun (ends_it ∙ ended)))

unfinished-ends : (run : List Step) → EndsBegun run
unfinished-ends [] block is ended = none-block block is
unfinished-ends (Taken one ∷ before) block is ended = unfinished-ends before block is ended
unfinished-ends (Granted id n ∷ before) block is ended = unfinished-ends before block is ended
unfinished-ends (Returned id items ∷ before) block is ended = unfinished-ends before block is ended
unfinished-ends (Written frame ∷ before) block is ended =
    by (unfinished-ends before) (ends_block frame) refl
  where
    by : EndsBegun before → (whole : Bool) → ends_block frame ≡ whole
        → list_any (ends block.stream) (frame ∷ frames_of before) ≡ true
    by was true found =
        none-block block
        (sym (ap (λ (b : Bool). if b then None else fragments frame (unfinished before)) found)
        ∙ is)
    by was false found =
        block-ends before frame block was
        (sym (ap (λ (b : Bool). if b then None else fragments frame (unfinished before)) found)
        ∙ is) ended

completed-ends : (before : List Step) (frame : Frame) (block : Fragments)
    → completed before frame ≡ Some block → block.ends_it ≡ true
    → list_any (ends block.stream) (frame ∷ frames_of before) ≡ true
completed-ends before frame block is ended = by (ends_block frame) refl
  where
    by : (whole : Bool) → ends_block frame ≡ whole
        → list_any (ends block.stream) (frame ∷ frames_of before) ≡ true
    by true found =
        block-ends before frame block (unfinished-ends before)
        (sym (ap (λ (b : Bool). if b then fragments frame (unfinished before) else None) found)
        ∙ is) ended
    by false found =
        none-block block (sym
        (ap (λ (b : Bool). if b then fragments frame (unfinished before) else None) found)
        ∙ is)

-- ---- an end that is told was written

plain-ends : (found : FrameKind) (frame : Frame) → HasEnd (plain_kind found frame)
    → ends_stream frame ≡ true
plain-ends kind.Data frame has =
    mark-ends (ends_stream frame) (end-behind frame.content (end_mark (ends_stream frame)) has)
plain-ends kind.RstStream frame has = absurd has
plain-ends _ frame has = absurd has

-- an end among the marks of one stream is of that stream
here-or : (id at : ℕ) (more : List Mark) → HasEnd (marks_on id (on_stream at more))
    → (id ≡ at) × HasEnd more
here-or id at more has = by (id == at) refl
  where
    by : (b : Bool) → (id == at) ≡ b → (id ≡ at) × HasEnd more
    by true is =
        let same : id ≡ at = eqb-true id at is in (
          same,
          subst (λ (marks : List Mark). HasEnd marks) (marks-here at more)
              (subst (λ (n : ℕ). HasEnd (marks_on n (on_stream at more))) same has),
        )
    by false other =
        absurd (subst (λ (marks : List Mark). HasEnd marks) (marks-elsewhere id at more other) has)

abbrev IsIn : ℕ → List Frame → Type 0
IsIn id frames = list_any (ends id) frames ≡ true

-- what is told before, or of this frame
or-here : (id at : ℕ) (fewer marks : List (ℕ × Mark)) (more : List Mark) (frame : Frame)
    (frames : List Frame)
    → marks ≡ fewer ++ on_stream at more → HasEnd (marks_on id marks)
    → (HasEnd (marks_on id fewer) → IsIn id frames)
    → (id ≡ at → HasEnd more → IsIn id (frame ∷ frames)) → IsIn id (frame ∷ frames)
or-here id at fewer marks more frame frames are has was goes =
    pick (end-split (marks_on id fewer) (marks_on id (on_stream at more))
    (subst (λ (all : List Mark). HasEnd all) (marks-append id fewer (on_stream at more))
    (subst (λ (all : List (ℕ × Mark)). HasEnd (marks_on id all)) are has)))
  where
    pick : HasEnd (marks_on id fewer) ⊎ HasEnd (marks_on id (on_stream at more))
        → IsIn id (frame ∷ frames)
    pick (inl before) = or-right (ends id frame) (list_any (ends id) frames) (was before)
    pick (inr is) = goes (here-or id at more is).0 (here-or id at more is).1

frame-ended : (id : ℕ) (before : List Step) (frame : Frame) (table earlier : Table)
    (marks fewer : List (ℕ × Mark)) (block : Option Fragments) → completed before frame ≡ block
    → Adds block (least_begun (Written frame ∷ before)) frame earlier fewer table marks
    → HasEnd (marks_on id marks) → (HasEnd (marks_on id fewer) → IsIn id (frames_of before))
    → IsIn id (frame ∷ frames_of before)
frame-ended id before frame table earlier marks fewer None is adds has was =
    or-here id frame.head.stream fewer marks (plain_marks frame) frame (frames_of before) adds.1 has
    was (λ same ended.
    or-left (ends id frame) (list_any (ends id) (frames_of before))
    (both (ends_stream frame) (id == frame.head.stream) (plain-ends frame.head.kind frame ended)
    (eq-eqb id frame.head.stream same)))
frame-ended id before frame table earlier marks fewer (Some block) is adds has was =
    or-here id block.stream fewer marks (Fields adds.0 ∷ end_mark block.ends_it) frame
    (frames_of before) adds.3 has was (λ same ended.
    subst (λ (n : ℕ). IsIn n (frame ∷ frames_of before)) (sym same)
    (completed-ends before frame block is (mark-ends block.ends_it ended)))

tells-ended : (id : ℕ) (run : List Step) (table : Table) (marks : List (ℕ × Mark))
    → Tells run table marks → HasEnd (marks_on id marks) → IsIn id (frames_of run)
tells-ended id [] table marks tells has =
    absurd (subst (λ (all : List (ℕ × Mark)). HasEnd (marks_on id all)) tells.1 has)
tells-ended id (Taken one ∷ before) table marks tells has =
    tells-ended id before table marks tells has
tells-ended id (Granted stream n ∷ before) table marks tells has =
    tells-ended id before table marks tells has
tells-ended id (Returned stream items ∷ before) table marks tells has =
    tells-ended id before table marks tells has
tells-ended id (Written frame ∷ before) table marks (earlier, fewer, tells, adds) has =
    frame-ended id before frame table earlier marks fewer (completed before frame) refl adds has
    (λ was. tells-ended id before earlier fewer tells was)

-- trailers that are among what is written ended the stream
trailers-ended : (bytes : List ℕ) (run : List Step) (id : ℕ) (items : List OutItem)
    → HasAllBut bytes run id items → has_trailers items ≡ true
    → list_any (ends id) (frames_of run) ≡ true
trailers-ended bytes run id items has is =
    tells-ended id run has.written.0 has.written.1 has.written.2
    (subst (λ (marks : List Mark). HasEnd marks) has.written.3
    (written (end-split has.part (map Byte bytes)
    (subst (λ (marks : List Mark). HasEnd marks) has.all (trailers-spelled items is)))))
  where
    written : HasEnd has.part ⊎ HasEnd (map Byte bytes) → HasEnd has.part
    written (inl ended) = ended
    written (inr none) = absurd (bytes-none bytes none)

-- ---- a reset that was written

asks-reset : (id : ℕ) (code : ErrorCode) (one : Order) → Asks id code one
    → resets_stream id one ≡ true
asks-reset id code (order.Reset stream found true) asked = eq-eqb id stream asked.0
asks-reset id code (order.Reset stream found false) asked = absurd asked
asks-reset id code (order.Settings settings) asked = absurd asked
asks-reset id code (order.Ping bytes) asked = absurd asked
asks-reset id code (order.Probe bytes) asked = absurd asked
asks-reset id code (order.Window stream n) asked = absurd asked
asks-reset id code (order.Open stream sender) asked = absurd asked
asks-reset id code (order.Refuse stream fields) asked = absurd asked
asks-reset id code (order.Goaway last found) asked = absurd asked
asks-reset id code order.InputEnded asked = absurd asked
asks-reset id code order.Close asked = absurd asked

asked-reset : (id : ℕ) (code : ErrorCode) (run : List Step) → IsAsked id code run
    → was_reset id run ≡ true
asked-reset id code [] asked = absurd asked
asked-reset id code (Taken one ∷ before) (inl here) =
    or-left (resets_stream id one) (was_reset id before) (asks-reset id code one here.0)
asked-reset id code (Taken one ∷ before) (inr asked) =
    or-right (resets_stream id one) (was_reset id before) (asked-reset id code before asked)
asked-reset id code (Granted stream n ∷ before) asked = asked-reset id code before asked
asked-reset id code (Returned stream items ∷ before) asked = asked-reset id code before asked
asked-reset id code (Written frame ∷ before) asked = asked-reset id code before asked

reset-kind : (found : FrameKind) → is_reset found ≡ true → found ≡ kind.RstStream
reset-kind kind.RstStream is = refl
reset-kind _ is = absurd (true≢false (sym is))

reset-taken : (id : ℕ) (run : List Step) → IsLawful run
    → list_any (resets id) (frames_of run) ≡ true → was_reset id run ≡ true
reset-taken id [] lawful is = absurd (true≢false (sym is))
reset-taken id (Taken one ∷ before) lawful is =
    or-right (resets_stream id one) (was_reset id before) (reset-taken id before lawful is)
reset-taken id (Granted stream n ∷ before) lawful is = reset-taken id before lawful is
reset-taken id (Returned stream items ∷ before) lawful is = reset-taken id before lawful is
reset-taken id (Written frame ∷ before) lawful is =
    by (λ was. reset-taken id before lawful.2 was)
    (either (resets id frame) (list_any (resets id) (frames_of before)) is)
  where
    by : (list_any (resets id) (frames_of before) ≡ true → was_reset id before ≡ true)
        → (resets id frame ≡ true) ⊎ (list_any (resets id) (frames_of before) ≡ true)
        → was_reset id before ≡ true
    by earlier (inl here) =
        let parts = each-of (is_reset frame.head.kind) (id == frame.head.stream) here in
        let asked = lawful.1.asked (reset-kind frame.head.kind parts.0) in
        subst (λ (n : ℕ). was_reset n before ≡ true)
        (sym (eqb-true id frame.head.stream parts.1))
        (asked-reset frame.head.stream asked.0 before asked.1)
    by earlier (inr was) = earlier was

any-split : (id : ℕ) (frames : List Frame)
    → list_any (λ frame. resets id frame || ends id frame) frames ≡ true
    → (list_any (ends id) frames ≡ true) ⊎ (list_any (resets id) frames ≡ true)
any-split id [] is = absurd (true≢false (sym is))
any-split id (frame ∷ frames) is =
    first (λ other. any-split id frames other) (either (resets id frame || ends id frame)
    (list_any (λ (f : Frame). resets id f || ends id f) frames) is)
  where
    rest : (list_any (ends id) frames ≡ true) ⊎ (list_any (resets id) frames ≡ true)
        → (list_any (ends id) (frame ∷ frames) ≡ true)
        ⊎ (list_any (resets id) (frame ∷ frames) ≡ true)
    rest (inl ended) = inl (or-right (ends id frame) (list_any (ends id) frames) ended)
    rest (inr was) = inr (or-right (resets id frame) (list_any (resets id) frames) was)

    here : (resets id frame ≡ true) ⊎ (ends id frame ≡ true)
        → (list_any (ends id) (frame ∷ frames) ≡ true)
        ⊎ (list_any (resets id) (frame ∷ frames) ≡ true)
    here (inl was) = inr (or-left (resets id frame) (list_any (resets id) frames) was)
    here (inr ended) = inl (or-left (ends id frame) (list_any (ends id) frames) ended)

    first : (list_any (λ (f : Frame). resets id f || ends id f) frames ≡ true
        → (list_any (ends id) frames ≡ true) ⊎ (list_any (resets id) frames ≡ true))
        → ((resets id frame || ends id frame) ≡ true)
        ⊎ (list_any (λ (f : Frame). resets id f || ends id f) frames ≡ true)
        → (list_any (ends id) (frame ∷ frames) ≡ true)
        ⊎ (list_any (resets id) (frame ∷ frames) ≡ true)
    first later (inl one) = here (either (resets id frame) (ends id frame) one)
    first later (inr other) = rest (later other)

-- ---- how it ended

pub stream-end : (run : List Step) (id : ℕ) (items : List OutItem) → IsLawful run
    → HasNoMore run id items [] → StreamEnd run id items
stream-end run id items lawful (Ended over) = by (any-split id (frames_of run) over)
  where
    by : (list_any (ends id) (frames_of run) ≡ true)
        ⊎ (list_any (resets id) (frames_of run) ≡ true)
        → StreamEnd run id items
    by (inl ended) = WasEnded ended
    by (inr was) = WasReset (reset-taken id run lawful was)
stream-end run id items lawful (NoMoreByReset was) = WasReset was
stream-end run id items lawful (Waits bytes has shut) = by (has_trailers items) refl
  where
    by : (b : Bool) → has_trailers items ≡ b → StreamEnd run id items
    by true is = WasEnded (trailers-ended bytes run id items has is)
    by false is = WasHeldBack is shut
stream-end run id items lawful (GotAll has none) = by (has_trailers items) refl
  where
    by : (b : Bool) → has_trailers items ≡ b → StreamEnd run id items
    by true is = WasEnded (trailers-ended [] run id items has is)
    by false is = WasLeftOpen is has

pub trailers-end : (run : List Step) (id : ℕ) (items : List OutItem)
    → StreamEnd run id items → has_trailers items ≡ true
    → (list_any (ends id) (frames_of run) ≡ true) ⊎ (was_reset id run ≡ true)
trailers-end run id items (WasEnded ended) is = inl ended
trailers-end run id items (WasReset was) is = inr was
trailers-end run id items (WasHeldBack none shut) is = absurd (true≢false (sym is ∙ none))
trailers-end run id items (WasLeftOpen none has) is = absurd (true≢false (sym is ∙ none))

pub open-windows : (run : List Step) (id : ℕ) (items : List OutItem) → StreamEnd run id items
    → ((history : List WindowStep) → HasHistory run history → 0 < room_after history id)
    → (list_any (ends id) (frames_of run) ≡ true)
    ⊎ ((was_reset id run ≡ true)
    ⊎ ((has_trailers items ≡ false) × HasAllBut [] run id items))
open-windows run id items (WasEnded ended) flows = inl ended
open-windows run id items (WasReset was) flows = inr (inl was)
open-windows run id items (WasHeldBack none shut) flows =
    absurd (omega (arith, flows shut.0 shut.1, shut.2))
open-windows run id items (WasLeftOpen none has) flows = inr (inr (none, has))

-- in the words of the call's account
pub answered : (run : List Step) (id : ℕ) (items : List OutItem) (trailers_sent : Bool)
    → trailers_sent ≡ has_trailers items → StreamEnd run id items
    → ((history : List WindowStep) → HasHistory run history → 0 < room_after history id)
    → (list_any (ends id) (frames_of run) ≡ true)
    ⊎ ((was_reset id run ≡ true) ⊎ (trailers_sent ≡ false))
answered run id items trailers_sent is (WasEnded ended) flows = inl ended
answered run id items trailers_sent is (WasReset was) flows = inr (inl was)
answered run id items trailers_sent is (WasHeldBack none shut) flows =
    absurd (omega (arith, flows shut.0 shut.1, shut.2))
answered run id items trailers_sent is (WasLeftOpen none has) flows = inr (inr (is ∙ none))
