-- The bytes of frames: which were written to a device, and which are in a buffer. Lists of frames
-- have the latest first, as runs have.
use Rattle.std.specs.Prelude.{◌≡◌, ℕ, List, ◌++◌, Option, map, filter, flat_map, reverse}
use Rattle.std.specs.Io.KnownBytes.{Appends}
use Rattle.account.specs.Accounts.{Begins}
use Rattle.h2frame.specs.declared.frame.Frame.{Frame}
use Rattle.h2frame.specs.Spelling.{spelled}
use Rattle.outwriter.specs.Frames.{ends_stream}
use Rattle.writerloop.specs.declared.standing.Standing.{Standing}
use Rattle.writerloop.specs.declared.standing.Standing.TheVariants.{Going, OutOfMemory, Broken}

-- the joined spellings of frames, the earliest first (RFC 9113, section 4.1)
abbrev pub spelled_all : List Frame → List ℕ
spelled_all frames = flat_map spelled (reverse frames)

-- the streams on which frames have END_STREAM, the earliest first
abbrev pub ended_by : List Frame → List ℕ
ended_by frames = map (λ frame. frame.head.stream) (filter ends_stream (reverse frames))

-- The device has all frames but the last ones, after what it had before. The last ones are in the
-- buffer, with the streams that they end.
pub record IsParted (frames : List Frame) (before now : Option (List ℕ))
    (buffer ended : List ℕ) : Type 0 where
  pub waiting : List Frame
  pub written : List Frame
  pub all : frames ≡ waiting ++ written
  pub device : Appends before now (spelled_all written)
  pub buffered : buffer ≡ spelled_all waiting
  pub ends : ended ≡ ended_by waiting

-- all of the frames were written
abbrev pub IsAll : List Frame → Option (List ℕ) → Option (List ℕ) → Type 0
IsAll frames before now = Appends before now (spelled_all frames)

-- what was written begins what they spell
abbrev pub IsFront : List Frame → Option (List ℕ) → Option (List ℕ) → Type 0
IsFront frames before now =
    (front : List ℕ) × Begins front (spelled_all frames) × Appends before now front

-- No frame is lost, even out of memory. Where a write failed, one may be cut.
abbrev pub Holds : Standing → List Frame → Option (List ℕ) → Option (List ℕ)
    → List ℕ → List ℕ → Type 0
Holds Going frames before now buffer ended = IsParted frames before now buffer ended
Holds OutOfMemory frames before now buffer ended = IsParted frames before now buffer ended
Holds Broken frames before now buffer ended = IsFront frames before now
