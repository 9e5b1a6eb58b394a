-- What is at the front of bytes, read from left to right: the private steps of the reader.
use Rattle.std.specs.Prelude.{
  ◌≡◌,
  ℕ,
  ◌++◌,
  ◌+◌,
  ◌-◌,
  ◌^◌,
  ◌%◌,
  nat_lt,
  if◌then◌else◌,
  List,
  [],
  ◌∷◌,
  length,
  take,
  drop,
  slice_index,
  Option,
  Some,
  None,
  Result,
  Ok,
  Err,
}
use Rattle.std.specs.Int.{w32, from_be_bytes}
use Rattle.h2frame.specs.declared.fault.FrameFault.{FrameFault}
use Rattle.h2frame.specs.declared.fault.FrameFault.TheVariants.{BadPadding}
use Rattle.h2frame.specs.declared.frame.Frame.{Frame}
use Rattle.h2frame.specs.declared.frame.FrameHead.{FrameHead}
use Rattle.h2frame.specs.declared.span.Span.{Span}
use Rattle.h2frame.specs.Flags.{is_padded}
use Rattle.h2frame.specs.Faults.{overhead, head_fault}
use Rattle.h2frame.specs.Kind.{kind_of}
use Rattle.h2frame.specs.Spelling.{SkippedParts, Fits, spelling}
use Rattle.h2frame.specs.FrameList.{Joined, IsUnfinished, IsFaulty, answered, HasCause}

-- the head that nine bytes spell
unfoldable pub head_at : List ℕ → FrameHead
head_at bytes = record {
  kind = kind_of (slice_index bytes 3);
  flags = record { bits = slice_index bytes 4 };
  stream =
      from_be_bytes w32 (slice_index bytes 5 ∷ slice_index bytes 6 ∷ slice_index bytes 7
      ∷ slice_index bytes 8 ∷ [])
      % 2 ^ 31;
  length =
      from_be_bytes w32 (0 ∷ slice_index bytes 0 ∷ slice_index bytes 1 ∷ slice_index bytes 2 ∷ []);
}

-- how many bytes of padding there are, by the byte after the head
abbrev pub padding_at : FrameHead → List ℕ → ℕ
padding_at head bytes = if is_padded head then slice_index bytes 9 else 0

-- where the content is in the bytes of a whole frame
unfoldable pub content_at : FrameHead → List ℕ → Result Span FrameFault
content_at head bytes =
    if nat_lt head.length (overhead head + padding_at head bytes) then Err BadPadding
    else Ok (record {
      head = head;
      start = 9 + overhead head;
      len = head.length - (overhead head + padding_at head bytes);
    })

-- the fault; or, without one, this answer
abbrev pub unless_faulty : Option FrameFault → Option (Result Span FrameFault)
    → Option (Result Span FrameFault)
unless_faulty (Some fault) other = Some (Err fault)
unless_faulty None other = other

unfoldable pub frame_at : FrameHead → List ℕ → Option (Result Span FrameFault)
frame_at head bytes =
    unless_faulty (head_fault head)
    (if nat_lt (length bytes) (9 + head.length) then None else Some (content_at head bytes))

-- nothing yet, or where the frame at the front is, or a fault
unfoldable pub span_at : List ℕ → Option (Result Span FrameFault)
span_at bytes = if nat_lt (length bytes) 9 then None else frame_at (head_at bytes) bytes

-- the frame that is in the bytes
abbrev pub frame_in : Span → List ℕ → Frame
frame_in span bytes = record { head = span.head; content = take span.len (drop span.start bytes) }

-- the bytes begin with a spelling of the frame that is in them
abbrev pub IsSpelledAt : Span → List ℕ → Type 0
IsSpelledAt span bytes =
    (skipped : SkippedParts) × Fits (frame_in span bytes) skipped × (head_fault span.head ≡ None)
    × (bytes ≡ spelling (frame_in span bytes) skipped ++ drop (9 + span.head.length) bytes)

-- what the answer says of the bytes
abbrev pub IsFront : List ℕ → Option (Result Span FrameFault) → Type 0
IsFront bytes None = IsUnfinished bytes
IsFront bytes (Some (Err fault)) = IsFaulty fault bytes
IsFront bytes (Some (Ok span)) = IsSpelledAt span bytes

-- a step of the reader: its answer is due, and is taken off the front
abbrev pub IsDue : Option (Result Frame FrameFault) → List ℕ → Type 0
IsDue None bytes = IsUnfinished bytes
IsDue (Some (Ok frame)) bytes = Unit {0}
IsDue (Some (Err fault)) bytes = HasCause fault bytes

pub record IsStep (answer : Option (Result Frame FrameFault)) (old new : List ℕ) : Type 0 where
  pub taken : Joined old (answered answer) new
  pub due : IsDue answer old
