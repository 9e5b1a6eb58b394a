-- How frames are spelled (RFC 9113, sections 4.1, 6.1 and 6.2).
use Rattle.std.specs.Prelude.{
  ◌≡◌,
  ℕ,
  ◌+◌,
  ◌*◌,
  ◌^◌,
  ◌<◌,
  false,
  if◌then◌else◌,
  List,
  [],
  ◌∷◌,
  ◌++◌,
  length,
}
use Rattle.std.specs.Int.{bytes_high_first}
use Rattle.h2frame.specs.declared.frame.Frame.{Frame}
use Rattle.h2frame.specs.declared.frame.FrameHead.{FrameHead}
use Rattle.h2frame.specs.Flags.{is_padded, has_priority}
use Rattle.h2frame.specs.Kind.{code_of, kind_of}

-- what a spelling has beside its frame, which no reader keeps
pub record SkippedParts : Type 0 where
  -- the reserved bit, 0 or 1
  pub reserved : ℕ
  -- the priority of HEADERS, which is deprecated
  pub priority : List ℕ
  pub padding : List ℕ

-- nine bytes: the payload's length in three, the type, the flags, and in four the reserved bit and
-- the stream
abbrev pub head_text : ℕ → FrameHead → List ℕ
head_text reserved head =
    bytes_high_first 3 head.length ++ code_of head.kind ∷ head.flags.bits
    ∷ bytes_high_first 4 (reserved * 2 ^ 31 + head.stream)

-- the content, after the padding's length and the priority if the flags have them, and before the
-- padding
abbrev pub payload_text : FrameHead → SkippedParts → List ℕ → List ℕ
payload_text head skipped content =
    (if is_padded head then length skipped.padding ∷ [] else [])
    ++ (skipped.priority ++ (content ++ skipped.padding))

abbrev pub spelling : Frame → SkippedParts → List ℕ
spelling frame skipped =
    head_text skipped.reserved frame.head ++ payload_text frame.head skipped frame.content

-- the numbers of a head are within their fields, and its type is that of its code
pub record IsHead (head : FrameHead) : Type 0 where
  pub kind : kind_of (code_of head.kind) ≡ head.kind
  pub stream : head.stream < 2 ^ 31
  pub length : head.length < 2 ^ 24

-- the frame can be spelled with these skipped parts
pub record Fits (frame : Frame) (skipped : SkippedParts) : Type 0 where
  pub head : IsHead frame.head
  pub reserved : skipped.reserved < 2
  pub priority : length skipped.priority ≡ (if has_priority frame.head then 5 else 0)
  pub padding : is_padded frame.head ≡ false → skipped.padding ≡ []
  pub payload : length (payload_text frame.head skipped frame.content) ≡ frame.head.length

-- nothing is skipped: the one spelling that is written
abbrev pub spelled : Frame → List ℕ
spelled frame = head_text 0 frame.head ++ frame.content

-- a frame that can be spelled so: its type is that of its code (section 4.1), its stream has 31
-- bits (section 4.1), all of its payload is content, and it has neither padding (section 6.1) nor
-- priority (section 6.2)
pub record IsWritable (frame : Frame) : Type 0 where
  -- an unknown type doesn't have the code of a known one
  pub kind : kind_of (code_of frame.head.kind) ≡ frame.head.kind
  pub stream : frame.head.stream < 2 ^ 31
  pub whole : frame.head.length ≡ length frame.content
  pub not_padded : is_padded frame.head ≡ false
  pub no_priority : has_priority frame.head ≡ false
