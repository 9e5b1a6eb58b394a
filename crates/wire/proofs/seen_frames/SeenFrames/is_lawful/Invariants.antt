use Rattle.std.specs.List.{AllWithin}
use Rattle.std.proofs.Common.{true}
use Rattle.wire.specs.Reactions.{Judges}
use Rattle.wire.proofs.seen_frames.SeenFrames.is_lawful.Given as goal

abbrev pub invariant-loop-reaction : goal.invariant-loop-reaction
invariant-loop-reaction l =
    AllWithin (λ asked. Judges l.self asked true) l.lawful.all.items 0 l.reaction-index
