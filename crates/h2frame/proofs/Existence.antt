-- Each byte list has a frame list, and what is written is one.
use Rattle.std.proofs.Common.{
  ◌≡◌,
  ℕ,
  zero,
  suc,
  ◌+◌,
  ◌<◌,
  ◌≤◌,
  Bool,
  true,
  false,
  cond,
  eqb,
  List,
  [],
  ◌∷◌,
  ◌++◌,
  length,
  drop,
  refl,
  sym,
  ap,
  subst,
  ◌∙◌,
  arith,
  All,
  inl,
  inr,
}
use Rattle.std.specs.Prelude.{Option, Some, None, Result, Ok, Err, map, flat_map}
use Rattle.std.specs.List.{AllByRecursion}
use Rattle.std.proofs.lemmas.Bool.{cases_lt, cases_Bool, eqb-true}
use Rattle.std.proofs.lemmas.List.{append-nil, length-append, get_or_past}
use Rattle.std.proofs.lemmas.List.Elements.{All-get_or}
use Rattle.std.proofs.lemmas.List.Concat.{flat_map-cons}
use Rattle.h2frame.specs.declared.fault.FrameFault.{FrameFault}
use Rattle.h2frame.specs.declared.fault.FrameFault.TheVariants.{ZeroIncrement}
use Rattle.h2frame.specs.declared.frame.Frame.{Frame}
use Rattle.h2frame.specs.declared.span.Span.{Span}
use Rattle.h2frame.specs.Flags.{is_padded, has_priority}
use Rattle.h2frame.specs.Faults.{lacks_increment, frame_fault}
use Rattle.h2frame.specs.Spelling.{SkippedParts, IsHead, head_text, spelled}
use Rattle.h2frame.specs.FrameList.{Entry, Whole, NoIncrement, Spells, Joined, Ends, FrameList}
use Rattle.h2frame.specs.Reading.{span_at, frame_in, IsSpelledAt, IsFront}
use Rattle.h2frame.proofs.Heads.{AreBytes}
use Rattle.h2frame.proofs.Fronts.{front}
use Rattle.h2frame.proofs.Steps.{frame_step, stream_entry, connection_fault, above_zero}

-- ---- each list has one

-- what stands at the front of bytes: an end, or an entry with less behind it
pub data Found : List ℕ → Type 0 where
  Over : {bytes : List ℕ} (end : Option FrameFault) → Ends end bytes → Found bytes
  Entered : {bytes : List ℕ} (entry : Entry) (text more : List ℕ) → bytes ≡ text ++ more
      → Spells text entry → length more < length bytes → Found bytes

some_text : (entry : Entry) (text : List ℕ) → Spells text entry → 0 < length text
some_text (Whole frame) text (skipped, fits, spells, fine) = omega (arith, ap length spells)
some_text (NoIncrement stream) text (some, frame, (skipped, fits, spells, faulty)) =
    omega (arith, ap length spells)

found_entry : (entry : Entry) (bytes rest : List ℕ) → Joined bytes (entry ∷ []) rest → Found bytes
found_entry entry bytes rest (text, more, parts, spells, e) =
    Entered entry text more parts spells
    (omega (arith, ap length parts, length-append text more, some_text entry text spells))

-- the frame at the front, by the step that takes it
found_frame : (span : Span) (bytes : List ℕ) → IsSpelledAt span bytes → Found bytes
found_frame span bytes at =
    elim (cases_Bool (lacks_increment span.head.kind (frame_in span bytes).content)) [
      | inl lacks ↦ elim (cases_Bool (eqb span.head.stream 0)) [
        | inl connection ↦
            Over (Some (ZeroIncrement span.head.stream))
            (connection_fault span bytes at lacks (eqb-true _ _ connection))
        | inr other ↦
            found_entry (NoIncrement span.head.stream) bytes (drop (9 + span.head.length) bytes)
            (stream_entry span bytes at lacks (above_zero _ other))
      ]
      | inr has ↦
          found_entry (Whole (frame_in span bytes)) bytes (drop (9 + span.head.length) bytes)
          (frame_step span bytes at has).taken
    ]

found_front : (bytes : List ℕ) (answer : Option (Result Span FrameFault))
    → IsFront bytes answer → Found bytes
found_front bytes None h = Over None h
found_front bytes (Some (Err fault)) h = Over (Some fault) h
found_front bytes (Some (Ok span)) h = found_frame span bytes h

are_bytes : (bytes : List ℕ) → All (λ byte. byte < 256) bytes → AreBytes bytes
are_bytes bytes all i =
    elim (cases_lt i (length bytes)) [
      | inl lt ↦ All-get_or (λ byte. byte < 256) bytes i 0 lt all
      | inr le ↦ rw (get_or_past bytes i 0 le) (omega arith)
    ]

bytes_after : (text more : List ℕ) → AreBytes (text ++ more) → AreBytes more
bytes_after [] more fits = fits
bytes_after (x ∷ text) more fits = bytes_after text more (λ i. fits (suc i))

abbrev HasList : List ℕ → Type 0
HasList bytes = (entries : List Entry) × (end : Option FrameFault) × FrameList bytes entries end

list_of : (n : ℕ) (bytes : List ℕ) → length bytes ≤ n → AreBytes bytes → Found bytes → HasList bytes
list_of n bytes le fits (Over end h) = ([], end, (bytes, refl, h))
list_of zero bytes le fits (Entered entry text more parts spells less) = absurd (omega arith)
list_of (suc n) bytes le fits (Entered entry text more parts spells less) =
    let rest_fits = bytes_after text more (subst AreBytes parts fits) in
    let tail =
    list_of n more (omega arith) rest_fits
    (found_front more (span_at more) (front more rest_fits)) in
    (entry ∷ tail.0, tail.1, (tail.2.0, (text, more, parts, spells, tail.2.1), tail.2.2))

pub each_has_list : (bytes : List ℕ) → All (λ byte. byte < 256) bytes → HasList bytes
each_has_list bytes all =
    let fits = are_bytes bytes all in
    list_of (length bytes) bytes (omega arith) fits
    (found_front bytes (span_at bytes) (front bytes fits))

-- ---- what is written

nothing : SkippedParts
nothing = record { reserved = 0; priority = []; padding = [] }

unpadded_payload : (p : Bool) (content : List ℕ) → p ≡ false
    → cond p (0 ∷ []) [] ++ ([] ++ (content ++ [])) ≡ content
unpadded_payload true content e = absurd cc
unpadded_payload false content e = append-nil content

pub written : (frame : Frame) → IsHead frame.head → frame.head.length ≡ length frame.content
    → is_padded frame.head ≡ false → has_priority frame.head ≡ false → frame_fault frame ≡ None
    → Spells (spelled frame) (Whole frame)
unfolding nothing
written frame is whole not_padded no_priority fine =
    let payload = unpadded_payload (is_padded frame.head) frame.content not_padded in (
      nothing,
      record {
        head = is;
        reserved = omega arith;
        priority = sym (ap (λ (b : Bool). cond b 5 0) no_priority);
        padding = λ e. refl;
        payload = ap length payload ∙ sym whole;
      },
      ap (λ (ys : List ℕ). head_text 0 frame.head ++ ys) (sym payload),
      fine,
    )

-- frames written one after the other
pub joined_frames : (frames : List Frame)
    → AllByRecursion (λ frame. Spells (spelled frame) (Whole frame)) frames
    → Joined (flat_map spelled frames) (map Whole frames) []
joined_frames [] all = refl
joined_frames (frame ∷ frames) all = (
  spelled frame,
  flat_map spelled frames,
  flat_map-cons spelled frame frames,
  all.0,
  joined_frames frames all.1,
)
