use Rattle.std.proofs.Common.{List, ℕ, map, take}
use Rattle.std.specs.Prelude.{flat_map}
use Rattle.h2frame.specs.FrameList.{Whole, Joined, IsUnfinished}
use Rattle.connection_rows.proofs.recordings.frames.read.Given as goal

-- the pieces so far are the frames so far and what the reader holds
abbrev pub invariant-loop-piece : goal.invariant-loop-piece
invariant-loop-piece l = record {
  joined :
      Joined (flat_map (λ piece. piece.items) (take l.piece-index l.pieces))
      (map Whole l.frames.items) l.reader;
  unfinished : IsUnfinished l.reader;
}
