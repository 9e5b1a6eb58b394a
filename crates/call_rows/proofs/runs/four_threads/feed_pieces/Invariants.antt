use Rattle.std.proofs.Common.{◌≡◌, [], ◌++◌, take}
use Rattle.std.specs.Prelude.{map}
use Rattle.callbox.specs.declared.piece.InPiece.TheVariants as in_piece
use Rattle.call_rows.proofs.runs.four_threads.feed_pieces.Given as goal

abbrev pub invariant-loop-piece : goal.invariant-loop-piece
invariant-loop-piece g l =
    record {
      name : g.L.Lane.in_name l.feeder.tx ≡ g.L.Lane.in_name l.fn.feeder.tx;
      fed : g.L.Lane.put_in l.feeder.tx ≡ [] ++ map in_piece.Bytes (take l.piece-index l.pieces);
    }
