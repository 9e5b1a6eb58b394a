use Rattle.std.specs.List.{AllWithin}
use Rattle.wire.specs.Reactions.{IsUnlawful}
use Rattle.wire.proofs.seen_frames.SeenFrames.is_one_lawful.Given as goal

abbrev pub invariant-loop-lawful : goal.invariant-loop-lawful
invariant-loop-lawful l = AllWithin (IsUnlawful l.self) l.ways 0 l.lawful-index
