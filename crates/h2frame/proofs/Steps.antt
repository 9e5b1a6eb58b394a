-- What a step of the reader answers is the next entry, and each fault has its cause.
use Rattle.std.proofs.Common.{
  ◌≡◌,
  ℕ,
  zero,
  suc,
  ◌+◌,
  ◌^◌,
  ◌<◌,
  ◌≤◌,
  Bool,
  true,
  false,
  cond,
  eqb,
  List,
  [],
  ◌∷◌,
  ◌++◌,
  length,
  take,
  drop,
  refl,
  sym,
  ap,
  subst,
  ◌∙◌,
  arith,
  inl,
  inr,
}
use Rattle.std.specs.Prelude.{Option, Some, None, IsNone, IfSome, IfOk, Result, Ok, Err}
use Rattle.std.specs.Option.{option_or}
use Rattle.std.proofs.lemmas.Bool.{ne_eqb}
use Rattle.h2frame.specs.declared.fault.FrameFault.{FrameFault}
use Rattle.h2frame.specs.declared.fault.FrameFault.TheVariants.{
  TooLong,
  BadLength,
  BadPadding,
  WrongStream,
  ZeroIncrement,
  OutOfMemory,
}
use Rattle.h2frame.specs.declared.frame.Frame.{Frame}
use Rattle.h2frame.specs.declared.frame.FrameHead.{FrameHead}
use Rattle.h2frame.specs.declared.span.Span.{Span}
use Rattle.h2frame.specs.Flags.{is_padded, has_priority}
use Rattle.h2frame.specs.Faults.{overhead, head_fault, lacks_increment, frame_fault}
use Rattle.h2frame.specs.Spelling.{SkippedParts, spelling}
use Rattle.h2frame.specs.FrameList.{
  Entry,
  Whole,
  NoIncrement,
  IsSpelling,
  Spells,
  Joined,
  IsUnfinished,
  IsFaulty,
  StandsAt,
  refused,
  answered,
  HasCause,
  IsLawful,
}
use Rattle.h2frame.specs.Reading.{frame_in, IsSpelledAt, IsDue, IsStep}
use Rattle.h2frame.proofs.OneReading.{
  Front,
  Less,
  Stops,
  Takes,
  front_of,
  front_of_entry,
  front_of_faulty,
  front_of_unfinished,
  fault_parts_some,
  no_increment_fault,
  same_stream,
}
use Rattle.h2frame.proofs.Payloads.{reads_parts}

-- ---- what stands is answered

faulty_refuses : (fault : FrameFault) (bytes : List ℕ) → IsFaulty fault bytes → refused fault ≡ []
faulty_refuses TooLong bytes h = refl
faulty_refuses BadLength bytes h = refl
faulty_refuses BadPadding bytes h = refl
faulty_refuses WrongStream bytes h = refl
faulty_refuses OutOfMemory bytes h = refl
faulty_refuses (ZeroIncrement stream) bytes h =
    ap (λ (s : ℕ). cond (eqb s 0) [] (NoIncrement s ∷ [])) h.0

faulty_cause : (fault : FrameFault) (bytes : List ℕ) → IsFaulty fault bytes → HasCause fault bytes
faulty_cause TooLong bytes h = h
faulty_cause BadLength bytes h = h
faulty_cause BadPadding bytes h = h
faulty_cause WrongStream bytes h = h
faulty_cause OutOfMemory bytes h = absurd h
faulty_cause (ZeroIncrement stream) bytes h = inr h

pub fault_step : (fault : FrameFault) (bytes : List ℕ) → IsFaulty fault bytes
    → IsStep (Some (Err fault)) bytes bytes
fault_step fault bytes h = record {
  taken =
      subst (λ (es : List Entry). Joined bytes es bytes) (sym (faulty_refuses fault bytes h)) refl;
  due = faulty_cause fault bytes h;
}

fault_of : (frame : Frame) (b : Bool) → head_fault frame.head ≡ None
    → lacks_increment frame.head.kind frame.content ≡ b
    → frame_fault frame ≡ cond b (Some (ZeroIncrement frame.head.stream)) None
fault_of frame b fine lacks =
    ap (λ (o : Option FrameFault).
    option_or o (cond (lacks_increment frame.head.kind frame.content)
    (Some (ZeroIncrement frame.head.stream)) None)) fine
    ∙ ap (λ (x : Bool). cond x (Some (ZeroIncrement frame.head.stream)) None) lacks

spelling_of : (span : Span) (bytes : List ℕ) (b : Bool) (at : IsSpelledAt span bytes)
    → lacks_increment span.head.kind (frame_in span bytes).content ≡ b
    → IsSpelling (spelling (frame_in span bytes) at.0) (frame_in span bytes)
    (cond b (Some (ZeroIncrement span.head.stream)) None)
spelling_of span bytes b at lacks = (at.0, at.1, refl, fault_of (frame_in span bytes) b at.2 lacks)

pub frame_step : (span : Span) (bytes : List ℕ) → IsSpelledAt span bytes
    → lacks_increment span.head.kind (frame_in span bytes).content ≡ false
    → IsStep (Some (Ok (frame_in span bytes))) bytes (drop (9 + span.head.length) bytes)
frame_step span bytes at has = record {
  taken = (
    spelling (frame_in span bytes) at.0,
    drop (9 + span.head.length) bytes,
    at.3,
    spelling_of span bytes false at has,
    refl,
  );
  due = tt;
}

pub memory_step : (span : Span) (bytes : List ℕ) → IsSpelledAt span bytes
    → lacks_increment span.head.kind (frame_in span bytes).content ≡ false
    → 0 < length (frame_in span bytes).content → IsStep (Some (Err OutOfMemory)) bytes bytes
memory_step span bytes at has some = record {
  taken = refl;
  due = (
    frame_in span bytes,
    (drop (9 + span.head.length) bytes, (frame_step span bytes at has).taken),
    some,
  );
}

pub connection_fault : (span : Span) (bytes : List ℕ) → IsSpelledAt span bytes
    → lacks_increment span.head.kind (frame_in span bytes).content ≡ true → span.head.stream ≡ 0
    → IsFaulty (ZeroIncrement span.head.stream) bytes
connection_fault span bytes at lacks connection = (
  connection,
  spelling (frame_in span bytes) at.0,
  drop (9 + span.head.length) bytes,
  at.3,
  frame_in span bytes,
  subst (λ (s : ℕ).
      IsSpelling (spelling (frame_in span bytes) at.0) (frame_in span bytes)
      (Some (ZeroIncrement s))) connection (spelling_of span bytes true at lacks),
)

pub connection_step : (span : Span) (bytes : List ℕ) → IsSpelledAt span bytes
    → lacks_increment span.head.kind (frame_in span bytes).content ≡ true → span.head.stream ≡ 0
    → IsStep (Some (Err (ZeroIncrement span.head.stream))) bytes bytes
connection_step span bytes at lacks connection =
    fault_step (ZeroIncrement span.head.stream) bytes
    (connection_fault span bytes at lacks connection)

pub stream_entry : (span : Span) (bytes : List ℕ) → IsSpelledAt span bytes
    → lacks_increment span.head.kind (frame_in span bytes).content ≡ true → 0 < span.head.stream
    → Joined bytes (NoIncrement span.head.stream ∷ []) (drop (9 + span.head.length) bytes)
stream_entry span bytes at lacks some = (
  spelling (frame_in span bytes) at.0,
  drop (9 + span.head.length) bytes,
  at.3,
  (some, frame_in span bytes, spelling_of span bytes true at lacks),
  refl,
)

pub stream_step : (span : Span) (bytes : List ℕ) → IsSpelledAt span bytes
    → lacks_increment span.head.kind (frame_in span bytes).content ≡ true → 0 < span.head.stream
    → IsStep (Some (Err (ZeroIncrement span.head.stream))) bytes (drop (9 + span.head.length) bytes)
stream_step span bytes at lacks some =
    let entry : refused (ZeroIncrement span.head.stream) ≡ NoIncrement span.head.stream ∷ [] =
    ap (λ (b : Bool). cond b [] (NoIncrement span.head.stream ∷ []))
    (ne_eqb span.head.stream 0 (λ e. omega (arith, some, e))) in
    let rest = drop (9 + span.head.length) bytes in
    let one = stream_entry span bytes at lacks some in
    record {
      taken = subst (λ (es : List Entry). Joined bytes es rest) (sym entry) one;
      due = inl (rest, one);
    }

-- ---- and nothing else is

front_of_standing : (entry : Entry) (bytes : List ℕ) (h : StandsAt entry bytes)
    → front_of bytes ≡ Takes entry h.1.1
front_of_standing entry bytes (rest, (text, more, parts, spells, e)) =
    ap front_of parts ∙ front_of_entry entry text more spells

pub data Seen : FrameFault → List ℕ → Type 0 where
  Stopped : {fault : FrameFault} {bytes : List ℕ} → front_of bytes ≡ Stops fault → Seen fault bytes
  Taken : {fault : FrameFault} {bytes : List ℕ} (entry : Entry) (rest : List ℕ)
      → front_of bytes ≡ Takes entry rest → Seen fault bytes

seen_cause : (fault : FrameFault) (bytes : List ℕ) → HasCause fault bytes → Seen fault bytes
seen_cause TooLong bytes h = Stopped (front_of_faulty TooLong bytes h)
seen_cause BadLength bytes h = Stopped (front_of_faulty BadLength bytes h)
seen_cause BadPadding bytes h = Stopped (front_of_faulty BadPadding bytes h)
seen_cause WrongStream bytes h = Stopped (front_of_faulty WrongStream bytes h)
seen_cause OutOfMemory bytes (frame, stands, some) =
    Taken (Whole frame) stands.1.1 (front_of_standing (Whole frame) bytes stands)
seen_cause (ZeroIncrement stream) bytes (inl stands) =
    Taken (NoIncrement stream) stands.1.1 (front_of_standing (NoIncrement stream) bytes stands)
seen_cause (ZeroIncrement stream) bytes (inr h) =
    Stopped (front_of_faulty (ZeroIncrement stream) bytes h)

abbrev none_yet : Option (Result Frame FrameFault)
none_yet = None

less_is_none : (answer : Option (Result Frame FrameFault)) (old new : List ℕ)
    → IsStep answer old new → front_of old ≡ Less → answer ≡ None
less_is_none None old new step e = refl
less_is_none (Some (Ok frame)) old new step e =
    let f = front_of_standing (Whole frame) old (new, step.taken) in
    absurd cc
less_is_none (Some (Err fault)) old new step e =
    elim (seen_cause fault old step.due) [ Stopped f ↦ absurd cc | Taken entry rest f ↦ absurd cc ]

pub none_since : (answer : Option (Result Frame FrameFault)) (old new : List ℕ)
    → IsStep answer old new → IsUnfinished old → answer ≡ None
none_since answer old new step h = less_is_none answer old new step (front_of_unfinished old h)

stops_is_fault : (answer : Option (Result Frame FrameFault)) (fault : FrameFault) (old new : List ℕ)
    → IsStep answer old new → front_of old ≡ Stops fault → answer ≡ Some (Err fault)
stops_is_fault None fault old new step e = let f = front_of_unfinished old step.due in absurd cc
stops_is_fault (Some (Ok frame)) fault old new step e =
    let f = front_of_standing (Whole frame) old (new, step.taken) in
    absurd cc
stops_is_fault (Some (Err other)) fault old new step e =
    elim (seen_cause other old step.due) [
      | Stopped f ↦ (let same : other ≡ fault = cc in ap (λ (x : FrameFault). Some (Err x)) same)
      | Taken entry rest f ↦ absurd cc
    ]

pub fault_since : (answer : Option (Result Frame FrameFault)) (fault : FrameFault)
    (old new : List ℕ)
    → IsStep answer old new → IsFaulty fault old → answer ≡ Some (Err fault)
fault_since answer fault old new step h =
    stops_is_fault answer fault old new step (front_of_faulty fault old h)

pub kept_since : (answer : Option (Result Frame FrameFault)) (old new : List ℕ)
    → IsStep answer old new → answered answer ≡ [] → new ≡ old
kept_since answer old new step e = sym (subst (λ (es : List Entry). Joined old es new) e step.taken)

pub fault_answers_none : (answer : Option (Result Frame FrameFault))
    (fault : FrameFault) (bytes : List ℕ)
    → answer ≡ Some (Err fault) → IsFaulty fault bytes → answered answer ≡ []
fault_answers_none answer fault bytes e h = ap answered e ∙ faulty_refuses fault bytes h

pub due_none : (answer : Option (Result Frame FrameFault)) (old new : List ℕ)
    → IsStep answer old new → answer ≡ None → IsUnfinished old
due_none None old new step e = step.due
due_none (Some r) old new step e = absurd cc

-- ---- where no fault stands

pub no_fault-unfinished : (bytes : List ℕ) → IsUnfinished bytes → (fault : FrameFault)
    → IsFaulty fault bytes → ⊥
no_fault-unfinished bytes less fault stands =
    let e : ◌≡◌ {A = Front} Less (Stops fault) =
    sym (front_of_unfinished bytes less) ∙ front_of_faulty fault bytes stands in
    absurd cc

no_fault-standing : (entry : Entry) (bytes : List ℕ) → StandsAt entry bytes → (fault : FrameFault)
    → IsFaulty fault bytes → ⊥
no_fault-standing entry bytes at fault stands =
    let e : Takes entry at.1.1 ≡ Stops fault =
    sym (front_of_standing entry bytes at) ∙ front_of_faulty fault bytes stands in
    absurd cc

pub no_fault-frame : (span : Span) (bytes : List ℕ) → IsSpelledAt span bytes
    → lacks_increment span.head.kind (frame_in span bytes).content ≡ false
    → (fault : FrameFault) → IsFaulty fault bytes → ⊥
no_fault-frame span bytes at has =
    no_fault-standing (Whole (frame_in span bytes)) bytes
    (drop (9 + span.head.length) bytes, (frame_step span bytes at has).taken)

pub no_fault-stream : (span : Span) (bytes : List ℕ) → IsSpelledAt span bytes → 0 < span.head.stream
    → (fault : FrameFault) → IsFaulty fault bytes → ⊥
no_fault-stream span bytes at some =
    by (lacks_increment span.head.kind (frame_in span bytes).content) refl
  where
    by : (b : Bool) → lacks_increment span.head.kind (frame_in span bytes).content ≡ b
        → (fault : FrameFault) → IsFaulty fault bytes → ⊥
    by true lacks =
        no_fault-standing (NoIncrement span.head.stream) bytes
        (drop (9 + span.head.length) bytes, stream_entry span bytes at lacks some)
    by false has = no_fault-frame span bytes at has

-- what the code's test of the content says of the frame
pub tested : (span : Span) (bytes slice content : List ℕ) (result answer : Bool)
    → slice ≡ bytes → content ≡ (frame_in span slice).content
    → result ≡ lacks_increment span.head.kind content → result ≡ answer
    → lacks_increment span.head.kind (frame_in span bytes).content ≡ answer
tested span bytes slice content result answer same value is b =
    ap (λ (xs : List ℕ).
    lacks_increment span.head.kind (take span.len (drop span.start xs))) (sym same)
    ∙ ap (λ (xs : List ℕ). lacks_increment span.head.kind xs) (sym value) ∙ sym is ∙ b

pub above_zero : (stream : ℕ) → eqb stream 0 ≡ false → 0 < stream
above_zero zero e = absurd cc
above_zero (suc n) e = omega arith

pub unfinished_iff : (answer : Option (Result Frame FrameFault)) (old new : List ℕ)
    → IsStep answer old new
    → (IsNone answer → IsUnfinished old) × (IsUnfinished old → IsNone answer)
unfinished_iff None old new step = (λ h. step.due, λ h. refl)
unfinished_iff (Some r) old new step =
    (λ h. absurd cc, λ h. (let e = none_since (Some r) old new step h in absurd cc))

-- ---- what is read is lawful

no_overhead : (p q : Bool) (content padding total : ℕ) → p ≡ false → q ≡ false → padding ≡ 0
    → (cond p 1 0 + cond q 5 0) + content + padding ≡ total → content ≡ total
no_overhead true q content padding total a b c e = absurd cc
no_overhead false true content padding total a b c e = absurd cc
no_overhead false false content padding total a b c e = omega arith

all_content : (p q : Bool) (o : ℕ) (head : FrameHead) (skipped : SkippedParts) (content : List ℕ)
    → cond p 1 0 + cond q 5 0 ≡ o → length skipped.priority ≡ cond q 5 0
    → (p ≡ false → skipped.padding ≡ [])
    → length
    (cond p (length skipped.padding ∷ []) [] ++ (skipped.priority ++ (content ++ skipped.padding)))
    ≡ head.length
    → (p ≡ false → q ≡ false → length content ≡ head.length) × (o + length content ≤ head.length)
all_content p q o head skipped content e size none whole =
    let read = reads_parts p q skipped.priority content skipped.padding [] size none in (
      (λ a b.
          no_overhead p q (length content) (length skipped.padding) head.length a b
          (ap length (none a)) (omega (arith, whole, read.whole))),
      omega (arith, whole, read.whole, e),
    )

pub lawful_since : (text : List ℕ) (frame : Frame) → Spells text (Whole frame) → IsLawful frame
lawful_since text frame (skipped, fits, spells, fine) =
    let parts =
    all_content (is_padded frame.head) (has_priority frame.head) (overhead frame.head) frame.head
    skipped frame.content refl fits.priority fits.padding fits.payload in
    record { head = fits.head; fault = fine; whole = parts.0; within = parts.1 }

pub lawful_answer : (answer : Option (Result Frame FrameFault)) (old new : List ℕ)
    → IsStep answer old new → IfSome answer (λ r. IfOk r IsLawful)
lawful_answer None old new step = tt
lawful_answer (Some (Ok frame)) old new step = lawful_since step.taken.0 frame step.taken.3
lawful_answer (Some (Err fault)) old new step = tt

small_stream : (stream : ℕ) (bytes : List ℕ)
    → HasCause (ZeroIncrement stream) bytes → stream < 2 ^ 31
small_stream stream bytes (inr h) = omega (arith, h.0)
small_stream stream bytes
    (inl (rest, (text, more, parts, (some, frame, (skipped, fits, spells, faulty)), e))) =
    let found =
    fault_parts_some (head_fault frame.head) (lacks_increment frame.head.kind frame.content)
    (ZeroIncrement frame.head.stream) (ZeroIncrement stream)
    (no_increment_fault frame.head stream) faulty in
    omega (arith, fits.head.stream, same_stream frame.head.stream stream found.2)

pub small_answer : (answer : Option (Result Frame FrameFault)) (stream : ℕ) (old new : List ℕ)
    → IsStep answer old new → answer ≡ Some (Err (ZeroIncrement stream)) → stream < 2 ^ 31
small_answer answer stream old new step e =
    small_stream stream old
    (subst (λ (a : Option (Result Frame FrameFault)). IsDue a old) e step.due)

-- a content of some bytes isn't empty
pub filled : (span : Span) (bytes slice content : List ℕ) → slice ≡ bytes
    → content ≡ (frame_in span slice).content → length content ≡ span.len → 0 < span.len
    → 0 < length (frame_in span bytes).content
filled span bytes slice content same value len some =
    let e : length content ≡ length (frame_in span bytes).content =
    ap length value ∙ ap (λ (xs : List ℕ). length (take span.len (drop span.start xs))) same in
    omega (arith, e, len, some)
