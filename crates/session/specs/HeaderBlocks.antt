-- A header block over its frames (RFC 9113, section 4.3): HEADERS, and then CONTINUATION of the
-- same stream.
use Rattle.std.specs.Prelude.{◌≡◌, ◌≤◌, ◌<◌, ◌+◌, ℕ, Bool, false, List, [], ◌∷◌, length, flat_map}
use Rattle.std.specs.List.{AllByRecursion}
use Rattle.h2frame.specs.declared.frame.Frame.{Frame}
use Rattle.h2frame.specs.declared.frame.FrameHead.{FrameHead}
use Rattle.h2frame.specs.declared.kind.FrameKind.TheVariants.{Headers, Continuation}
use Rattle.h2frame.specs.Flags.{has, end_headers}
use Rattle.reasons.specs.declared.Reason.{Reason}
use Rattle.reasons.specs.declared.Reason.TheVariants as reason
use Rattle.session.specs.declared.header_block.FragmentFault.{FragmentFault}
use Rattle.session.specs.declared.header_block.FragmentFault.TheVariants.{
  Interrupted,
  TooLong,
  OutOfMemory,
}

-- the most bytes of a header block that the server takes (a limit of our own)
abbrev pub max_block : ℕ
max_block = 65536

-- what is kept of a header block: the head of its HEADERS, its bytes so far, and whether they are
-- all of them
pub record PendingBlock : Type 0 where
  pub head : FrameHead
  pub block : List ℕ
  pub whole : Bool

abbrev pub IsContinuation : ℕ → Frame → Type 0
IsContinuation id frame = (frame.head.kind ≡ Continuation) × (frame.head.stream ≡ id)

-- only the last frame has END_HEADERS, and it has it where the block is whole
abbrev pub AreMarked : List Frame → Bool → Type 0
AreMarked [] ended = ⊥
AreMarked (frame ∷ []) ended = has end_headers frame.head.flags ≡ ended
AreMarked (frame ∷ next ∷ frames) ended =
    (has end_headers frame.head.flags ≡ false) × AreMarked (next ∷ frames) ended

abbrev pub fragments : List Frame → List ℕ
fragments frames = flat_map (λ (frame : Frame). frame.content) frames

-- The frames are those of the block so far, and their joined contents are its bytes.
pub record Collects (frames : List Frame) (pending : PendingBlock) : Type 0 where
  pub first : Frame
  pub others : List Frame
  pub parts : frames ≡ first ∷ others
  pub headers : first.head ≡ pending.head
  pub kind : pending.head.kind ≡ Headers
  pub continuations : AllByRecursion (IsContinuation pending.head.stream) others
  pub text : pending.block ≡ fragments frames
  pub short : length pending.block ≤ max_block
  pub marks : AreMarked frames pending.whole

-- why a frame doesn't go on with the block: it isn't CONTINUATION of the stream, or it has too many
-- bytes
abbrev pub Stands : FragmentFault → PendingBlock → Frame → Type 0
Stands Interrupted pending frame = IsContinuation pending.head.stream frame → ⊥
Stands TooLong pending frame =
    IsContinuation pending.head.stream frame
    × (max_block < length pending.block + length frame.content)
Stands OutOfMemory pending frame =
    IsContinuation pending.head.stream frame
    × (length pending.block + length frame.content ≤ max_block)

-- the reason for which a fault ends the connection
abbrev pub fragment_reason : FragmentFault → Reason
fragment_reason Interrupted = reason.Interrupted
fragment_reason TooLong = reason.BlockTooLong
fragment_reason OutOfMemory = reason.Memory
