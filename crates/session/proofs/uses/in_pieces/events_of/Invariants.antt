use Rattle.std.proofs.Common.{take, flat_map}
use Rattle.session.specs.CoreStates.{Reached}
use Rattle.session.proofs.uses.in_pieces.events_of.Given as goal

-- the core has read the pieces that were taken, and these are their events
abbrev pub invariant-loop-piece : goal.invariant-loop-piece
invariant-loop-piece l =
    Reached (flat_map (λ piece. piece.now) (take l.piece-index l.pieces)) l.events.items l.core
