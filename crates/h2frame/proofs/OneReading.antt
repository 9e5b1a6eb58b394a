-- What stands at the front of bytes is read there, so nothing else stands there.
use Rattle.std.proofs.Common.{
  ◌≡◌,
  ℕ,
  ◌+◌,
  ◌-◌,
  ◌<◌,
  Bool,
  true,
  false,
  cond,
  ltb,
  eqb,
  List,
  ◌∷◌,
  ◌++◌,
  length,
  get_or,
  take,
  drop,
  refl,
  sym,
  ap,
  ◌∙◌,
  append_assoc,
  arith,
  inl,
  inr,
}
use Rattle.std.specs.Prelude.{Option, Some, None, Result, Ok, Err}
use Rattle.std.specs.Option.{option_or}
use Rattle.std.proofs.lemmas.Bool.{lt-ltb, le-ltb, ne_eqb}
use Rattle.std.proofs.lemmas.List.{drop_at, drop-drop, length-append}
use Rattle.h2frame.specs.declared.fault.FrameFault.{FrameFault}
use Rattle.h2frame.specs.declared.fault.FrameFault.TheVariants.{
  TooLong,
  BadLength,
  BadPadding,
  WrongStream,
  ZeroIncrement,
  OutOfMemory,
}
use Rattle.h2frame.specs.declared.frame.Frame.{Frame}
use Rattle.h2frame.specs.declared.frame.FrameHead.{FrameHead}
use Rattle.h2frame.specs.declared.span.Span.{Span}
use Rattle.h2frame.specs.Flags.{is_padded, has_priority}
use Rattle.h2frame.specs.Faults.{
  max_payload,
  may_be_on,
  may_have_length,
  overhead,
  head_fault,
  lacks_increment,
}
use Rattle.h2frame.specs.Spelling.{SkippedParts, Fits, head_text, payload_text, spelling}
use Rattle.h2frame.specs.FrameList.{
  Entry,
  Whole,
  NoIncrement,
  IsSpelling,
  Spells,
  BeginsWith,
  IsUnfinished,
  IsOverpadded,
  IsFaulty,
}
use Rattle.h2frame.specs.Reading.{head_at, padding_at, content_at, frame_at, span_at, frame_in}
use Rattle.h2frame.proofs.Heads.{head_again}
use Rattle.h2frame.proofs.Payloads.{reads_parts, ReadsParts}
use Rattle.h2frame.proofs.Fronts.{head_faults}

-- what stands at the front: less than an entry, a fault, or an entry and what follows it
pub data Front : Type 0 where
  Less : Front
  Stops : FrameFault → Front
  Takes : Entry → List ℕ → Front

abbrev pub judged : Frame → List ℕ → Front
judged frame rest = cond (lacks_increment frame.head.kind frame.content)
    (cond (eqb frame.head.stream 0) (Stops (ZeroIncrement frame.head.stream))
    (Takes (NoIncrement frame.head.stream) rest))
    (Takes (Whole frame) rest)

abbrev pub of_span : Option (Result Span FrameFault) → List ℕ → Front
of_span None bytes = Less
of_span (Some (Err fault)) bytes = Stops fault
of_span (Some (Ok span)) bytes = judged (frame_in span bytes) (drop (9 + span.head.length) bytes)

abbrev pub front_of : List ℕ → Front
front_of bytes = of_span (span_at bytes) bytes

-- ---- the head

at_head : (bytes : List ℕ) (head : FrameHead) (after : List ℕ) → BeginsWith bytes head after
    → span_at bytes ≡ frame_at head bytes
unfolding span_at
at_head bytes head after begun =
    let read : head_at bytes ≡ head =
    ap head_at begun.3 ∙ head_again begun.0 head after begun.1 begun.2 in
    let long : ltb (length bytes) 9 ≡ false = le-ltb _ _ (omega (arith, ap length begun.3)) in
    rw (long, read) refl

length_after : (bytes : List ℕ) (head : FrameHead) (after : List ℕ) → BeginsWith bytes head after
    → length bytes ≡ 9 + length after
length_after bytes head after begun = ap length begun.3 ∙ omega arith

front_of_fault : (bytes : List ℕ) (head : FrameHead) (after : List ℕ) (fault : FrameFault)
    → BeginsWith bytes head after → head_fault head ≡ Some fault → front_of bytes ≡ Stops fault
unfolding frame_at
front_of_fault bytes head after fault begun e = rw (at_head bytes head after begun, e) refl

front_of_less : (bytes : List ℕ) (head : FrameHead) (after : List ℕ) → BeginsWith bytes head after
    → head_fault head ≡ None → length after < head.length → front_of bytes ≡ Less
unfolding frame_at
front_of_less bytes head after begun e less =
    let short : ltb (length bytes) (9 + head.length) ≡ true =
    lt-ltb _ _ (omega (arith, length_after bytes head after begun)) in
    rw (at_head bytes head after begun, e, short) refl

-- ---- the payload

front_of_overpadded : (bytes : List ℕ) → IsOverpadded bytes → front_of bytes ≡ Stops BadPadding
unfolding frame_at content_at
front_of_overpadded bytes (head, padding, after, begun, fine, padded, whole, less) =
    let long : ltb (length bytes) (9 + head.length) ≡ false =
    le-ltb _ _ (omega (arith, length_after bytes head (padding ∷ after) begun)) in
    let pad : padding_at head bytes ≡ padding =
    ap (λ (x : Bool). cond x (get_or bytes 9 0) 0) padded
    ∙ ap (λ (ys : List ℕ). get_or ys 9 0) begun.3 in
    let over : ltb head.length (overhead head + padding_at head bytes) ≡ true =
    lt-ltb _ _ (omega (arith, less, pad)) in
    rw (at_head bytes head (padding ∷ after) begun, fine, long, over) refl

content_read : (head : FrameHead) (bytes : List ℕ) (n m : ℕ) → padding_at head bytes ≡ n
    → overhead head + m + n ≡ head.length
    → content_at head bytes ≡ Ok (record { head = head; start = 9 + overhead head; len = m })
unfolding content_at
content_read head bytes n m pad whole =
    let enough : ltb head.length (overhead head + padding_at head bytes) ≡ false =
    le-ltb _ _ (omega (arith, pad, whole)) in
    let len : head.length - (overhead head + padding_at head bytes) ≡ m =
    omega (arith, pad, whole) in
    rw (enough, len) refl

frame_read : (bytes : List ℕ) (head : FrameHead) (content padding payload rest : List ℕ)
    → BeginsWith bytes head (payload ++ rest) → head_fault head ≡ None
    → length payload ≡ head.length
    → ReadsParts (is_padded head) (has_priority head) content padding payload rest
    → front_of bytes ≡ judged (record { head = head; content = content }) rest
unfolding frame_at
frame_read bytes head content padding payload rest begun fine size read =
    let long : ltb (length bytes) (9 + head.length) ≡ false =
    le-ltb _ _ (omega (
      arith,
      length_after bytes head (payload ++ rest) begun,
      length-append payload rest,
    )) in
    let pad : padding_at head bytes ≡ length padding =
    ap (λ (ys : List ℕ). cond (is_padded head) (get_or ys 9 0) 0) begun.3 ∙ read.pad in
    let at : content_at head bytes ≡ Ok
    (record { head = head; start = 9 + overhead head; len = length content }) =
    content_read head bytes (length padding) (length content) pad (sym read.whole ∙ size) in
    let after : drop 9 bytes ≡ payload ++ rest = ap (λ (ys : List ℕ). drop 9 ys) begun.3 in
    let middle : take (length content) (drop (9 + overhead head) bytes) ≡ content =
    ap (λ (ys : List ℕ). take (length content) ys)
    (sym (drop-drop (overhead head) 9 bytes) ∙ ap (λ (ys : List ℕ). drop (overhead head) ys) after)
    ∙ read.middle in
    let left : drop (9 + head.length) bytes ≡ rest =
    sym (drop-drop head.length 9 bytes) ∙ ap (λ (ys : List ℕ). drop head.length ys) after
    ∙ drop_at payload rest head.length size in
    let span : span_at bytes ≡ Some
    (Ok (record { head = head; start = 9 + overhead head; len = length content })) =
    at_head bytes head (payload ++ rest) begun ∙ rw (fine, long, at) refl in
    ap (λ (s : Option (Result Span FrameFault)). of_span s bytes) span
    ∙ ap (λ (ys : List ℕ).
    judged (record { head = head; content = ys }) (drop (9 + head.length) bytes)) middle
    ∙ ap (λ (ys : List ℕ). judged (record { head = head; content = content }) ys) left

front_of_frame : (frame : Frame) (skipped : SkippedParts) (rest : List ℕ) → Fits frame skipped
    → head_fault frame.head ≡ None → front_of (spelling frame skipped ++ rest) ≡ judged frame rest
front_of_frame frame skipped rest fits fine =
    let payload = payload_text frame.head skipped frame.content in
    frame_read (spelling frame skipped ++ rest) frame.head frame.content
    skipped.padding payload rest (
      skipped.reserved,
      fits.reserved,
      fits.head,
      append_assoc (head_text skipped.reserved frame.head) payload rest,
    ) fine fits.payload
    (reads_parts (is_padded frame.head) (has_priority frame.head) skipped.priority frame.content
    skipped.padding rest fits.priority fits.padding)

-- ---- entries and faults

fault_parts_none : (o : Option FrameFault) (b : Bool) (x : FrameFault)
    → option_or o (cond b (Some x) None) ≡ None → (o ≡ None) × (b ≡ false)
fault_parts_none (Some y) b x e = absurd cc
fault_parts_none None true x e = absurd cc
fault_parts_none None false x e = (refl, refl)

pub fault_parts_some : (o : Option FrameFault) (b : Bool) (x y : FrameFault) → (o ≡ Some y → ⊥)
    → option_or o (cond b (Some x) None) ≡ Some y → (o ≡ None) × (b ≡ true) × (x ≡ y)
fault_parts_some (Some z) b x y never e = absurd (never e)
fault_parts_some None true x y never e = (refl, refl, cc)
fault_parts_some None false x y never e = absurd cc

pub no_increment_fault : (head : FrameHead) (stream : ℕ)
    → head_fault head ≡ Some (ZeroIncrement stream) → ⊥
no_increment_fault head stream e =
    head_faults (ltb max_payload head.length) (may_be_on head.kind head.stream)
    (may_have_length head.kind head) (λ (f : FrameFault). f ≡ ZeroIncrement stream → ⊥)
    (ZeroIncrement stream) e
    (λ f g. cc) (λ f g. cc) (λ f g. cc) refl

pub same_stream : (s t : ℕ) → ◌≡◌ {A = FrameFault} (ZeroIncrement s) (ZeroIncrement t) → s ≡ t
same_stream s t e = cc

-- a frame without a fault, and more
front_of_whole : (text more : List ℕ) (frame : Frame) → IsSpelling text frame None
    → front_of (text ++ more) ≡ Takes (Whole frame) more
front_of_whole text more frame (skipped, fits, spells, fine) =
    let both =
    fault_parts_none (head_fault frame.head) (lacks_increment frame.head.kind frame.content)
    (ZeroIncrement frame.head.stream) fine in
    ap (λ (ys : List ℕ). front_of (ys ++ more)) spells
    ∙ front_of_frame frame skipped more fits both.0
    ∙ ap (λ (b : Bool).
    cond b (cond (eqb frame.head.stream 0) (Stops (ZeroIncrement frame.head.stream))
    (Takes (NoIncrement frame.head.stream) more)) (Takes (Whole frame) more)) both.1

-- a frame that lacks its increment, and more
front_of_refused : (text more : List ℕ) (frame : Frame) (stream : ℕ)
    → IsSpelling text frame (Some (ZeroIncrement stream))
    → front_of (text ++ more)
    ≡ cond (eqb stream 0) (Stops (ZeroIncrement stream)) (Takes (NoIncrement stream) more)
front_of_refused text more frame stream (skipped, fits, spells, faulty) =
    let parts =
    fault_parts_some (head_fault frame.head) (lacks_increment frame.head.kind frame.content)
    (ZeroIncrement frame.head.stream) (ZeroIncrement stream)
    (no_increment_fault frame.head stream) faulty in
    ap (λ (ys : List ℕ). front_of (ys ++ more)) spells
    ∙ front_of_frame frame skipped more fits parts.0
    ∙ ap (λ (b : Bool).
    cond b (cond (eqb frame.head.stream 0) (Stops (ZeroIncrement frame.head.stream))
    (Takes (NoIncrement frame.head.stream) more)) (Takes (Whole frame) more)) parts.1
    ∙ ap (λ (s : ℕ). cond (eqb s 0) (Stops (ZeroIncrement s)) (Takes (NoIncrement s) more))
    (same_stream frame.head.stream stream parts.2)

pub front_of_entry : (entry : Entry) (text more : List ℕ) → Spells text entry
    → front_of (text ++ more) ≡ Takes entry more
front_of_entry (Whole frame) text more spells = front_of_whole text more frame spells
front_of_entry (NoIncrement stream) text more (some, frame, spells) =
    let other : eqb stream 0 ≡ false = ne_eqb stream 0 (λ e. omega (arith, some, e)) in
    front_of_refused text more frame stream spells
    ∙ ap (λ (b : Bool).
    cond b (Stops (ZeroIncrement stream)) (Takes (NoIncrement stream) more)) other

pub front_of_faulty : (fault : FrameFault) (bytes : List ℕ) → IsFaulty fault bytes
    → front_of bytes ≡ Stops fault
front_of_faulty TooLong bytes (head, after, begun, e) =
    front_of_fault bytes head after TooLong begun e
front_of_faulty BadLength bytes (head, after, begun, e) =
    front_of_fault bytes head after BadLength begun e
front_of_faulty WrongStream bytes (head, after, begun, e) =
    front_of_fault bytes head after WrongStream begun e
front_of_faulty BadPadding bytes over = front_of_overpadded bytes over
front_of_faulty (ZeroIncrement stream) bytes (connection, text, more, parts, frame, spells) =
    ap front_of parts ∙ front_of_refused text more frame 0 spells
    ∙ ap (λ (s : ℕ). Stops (ZeroIncrement s)) (sym connection)
front_of_faulty OutOfMemory bytes h = absurd h

pub front_of_unfinished : (bytes : List ℕ) → IsUnfinished bytes → front_of bytes ≡ Less
unfolding span_at
front_of_unfinished bytes (inl short) =
    let test : ltb (length bytes) 9 ≡ true = lt-ltb _ _ short in
    rw test refl
front_of_unfinished bytes (inr (head, after, begun, fine, less)) =
    front_of_less bytes head after begun fine less
