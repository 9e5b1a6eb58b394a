-- The frames of the bytes that follow a connection's preface (RFC 9113, sections 4.1 and 6).
use Rattle.std.specs.Prelude.{
  ◌≡◌,
  ℕ,
  ◌+◌,
  ◌<◌,
  ◌≤◌,
  ◌⊎◌,
  true,
  false,
  ◌==◌,
  if◌then◌else◌,
  List,
  [],
  ◌∷◌,
  ◌++◌,
  length,
  Option,
  Some,
  None,
  Result,
  Ok,
  Err,
}
use Rattle.h2frame.specs.declared.fault.FrameFault.{FrameFault}
use Rattle.h2frame.specs.declared.fault.FrameFault.TheVariants.{
  TooLong,
  BadLength,
  BadPadding,
  WrongStream,
  ZeroIncrement,
  OutOfMemory,
}
use Rattle.h2frame.specs.declared.frame.Frame.{Frame}
use Rattle.h2frame.specs.declared.frame.FrameHead.{FrameHead}
use Rattle.h2frame.specs.Flags.{is_padded, has_priority}
use Rattle.h2frame.specs.Faults.{overhead, head_fault, frame_fault}
use Rattle.h2frame.specs.Spelling.{SkippedParts, IsHead, Fits, head_text, spelling}

-- a frame, or the stream of a WINDOW_UPDATE without an increment, which is an error of that stream
-- alone
pub data Entry : Type 0 where
  Whole : Frame → Entry
  NoIncrement : ℕ → Entry

-- the text spells the frame, and this is its first fault
abbrev pub IsSpelling : List ℕ → Frame → Option FrameFault → Type 0
IsSpelling text frame fault =
    (skipped : SkippedParts) × Fits frame skipped × (text ≡ spelling frame skipped)
    × (frame_fault frame ≡ fault)

abbrev pub Spells : List ℕ → Entry → Type 0
Spells text (Whole frame) = IsSpelling text frame None
Spells text (NoIncrement stream) =
    (0 < stream) × (frame : Frame) × IsSpelling text frame (Some (ZeroIncrement stream))

-- the bytes are the joined spellings of the entries, and then the rest
abbrev pub Joined : List ℕ → List Entry → List ℕ → Type 0
Joined bytes [] rest = bytes ≡ rest
Joined bytes (entry ∷ entries) rest =
    (text : List ℕ) × (more : List ℕ) × (bytes ≡ text ++ more) × Spells text entry
    × Joined more entries rest

-- the bytes begin with this head, and have these after it
abbrev pub BeginsWith : List ℕ → FrameHead → List ℕ → Type 0
BeginsWith bytes head after =
    (reserved : ℕ) × (reserved < 2) × IsHead head × (bytes ≡ head_text reserved head ++ after)

-- less than a head, or than the payload of a head without a fault
abbrev pub IsUnfinished : List ℕ → Type 0
IsUnfinished bytes =
    (length bytes < 9)
    ⊎ ((head : FrameHead) × (after : List ℕ) × BeginsWith bytes head after
    × (head_fault head ≡ None) × (length after < head.length))

-- a head has this fault, which counts as soon as the head is there
abbrev pub HasFaultyHead : FrameFault → List ℕ → Type 0
HasFaultyHead fault bytes =
    (head : FrameHead) × (after : List ℕ) × BeginsWith bytes head after
    × (head_fault head ≡ Some fault)

-- more padding than bytes are left: it counts once the payload is whole
abbrev pub IsOverpadded : List ℕ → Type 0
IsOverpadded bytes =
    (head : FrameHead) × (padding : ℕ) × (after : List ℕ) × BeginsWith bytes head (padding ∷ after)
    × (head_fault head ≡ None)
    × (is_padded head ≡ true) × (head.length ≤ length (padding ∷ after))
    × (head.length < overhead head + padding)

-- no entry can begin with these bytes, however they go on
abbrev pub IsFaulty : FrameFault → List ℕ → Type 0
IsFaulty TooLong bytes = HasFaultyHead TooLong bytes
IsFaulty WrongStream bytes = HasFaultyHead WrongStream bytes
IsFaulty BadLength bytes = HasFaultyHead BadLength bytes
IsFaulty BadPadding bytes = IsOverpadded bytes
IsFaulty (ZeroIncrement stream) bytes =
    (stream ≡ 0) × (text : List ℕ) × (more : List ℕ) × (bytes ≡ text ++ more) × (frame : Frame)
    × IsSpelling text frame (Some (ZeroIncrement 0))
IsFaulty OutOfMemory bytes = ⊥

-- an unfinished rest, or a fault
abbrev pub Ends : Option FrameFault → List ℕ → Type 0
Ends None rest = IsUnfinished rest
Ends (Some fault) rest = IsFaulty fault rest

-- the frame list: the bytes are these entries, and then an unfinished rest or a fault
abbrev pub FrameList : List ℕ → List Entry → Option FrameFault → Type 0
FrameList bytes entries end = (rest : List ℕ) × Joined bytes entries rest × Ends end rest

-- ---- a reader's answers

-- what holds of each frame that is read
pub record IsLawful (frame : Frame) : Type 0 where
  pub head : IsHead frame.head
  pub fault : frame_fault frame ≡ None
  -- all of the payload is content, if nothing is skipped
  pub whole : is_padded frame.head ≡ false → has_priority frame.head ≡ false
      → length frame.content ≡ frame.head.length
  pub within : overhead frame.head + length frame.content ≤ frame.head.length

-- the bytes begin with this entry
abbrev pub StandsAt : Entry → List ℕ → Type 0
StandsAt entry bytes = (rest : List ℕ) × Joined bytes (entry ∷ []) rest

-- the entry that an answer is, if it is one
abbrev pub refused : FrameFault → List Entry
refused (ZeroIncrement stream) = if stream == 0 then [] else NoIncrement stream ∷ []
refused _ = []

abbrev pub answered : Option (Result Frame FrameFault) → List Entry
answered None = []
answered (Some (Ok frame)) = Whole frame ∷ []
answered (Some (Err fault)) = refused fault

-- why a fault is answered: the bytes have it; or they have a frame for whose content, which isn't
-- empty, there is no memory
abbrev pub HasCause : FrameFault → List ℕ → Type 0
HasCause OutOfMemory bytes =
    (frame : Frame) × StandsAt (Whole frame) bytes × (0 < length frame.content)
HasCause (ZeroIncrement stream) bytes =
    StandsAt (NoIncrement stream) bytes ⊎ IsFaulty (ZeroIncrement stream) bytes
HasCause TooLong bytes = IsFaulty TooLong bytes
HasCause BadLength bytes = IsFaulty BadLength bytes
HasCause BadPadding bytes = IsFaulty BadPadding bytes
HasCause WrongStream bytes = IsFaulty WrongStream bytes
