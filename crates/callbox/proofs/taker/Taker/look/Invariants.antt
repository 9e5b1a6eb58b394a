use Rattle.std.proofs.Common.{◌≡◌, ℕ, ◌+◌, min, None, List, ◌++◌, length}
use Rattle.callbox.specs.InSides.{TakesMessages, EachNeeded, bytes_of}
use Rattle.callbox.specs.declared.piece.InPiece.{InPiece}
use Rattle.callbox.proofs.taker.Taker.look.Given as goal

abbrev pub invariant-loop : goal.invariant-loop
invariant-loop g l =
    record {
      told : l.self.progress.told ≡ None;
      name : g.L.Lane.out_name l.self.rx ≡ g.L.Lane.out_name l.fn.self.rx;
      took : (messages : List (List ℕ))
          → TakesMessages (g.L.Lane.got l.fn.self.rx) l.fn.self.progress messages
          → TakesMessages (g.L.Lane.got l.self.rx) l.self.progress messages;
      needed : (messages : List (List ℕ))
          → TakesMessages (g.L.Lane.got l.fn.self.rx) l.fn.self.progress messages
          → (items : List InPiece) × (g.L.Lane.got l.self.rx ≡ g.L.Lane.got l.fn.self.rx ++ items)
          × EachNeeded (g.L.Lane.got l.fn.self.rx) items messages;
      owed : (items : List InPiece) × (g.L.Lane.got l.self.rx ≡ g.L.Lane.got l.fn.self.rx ++ items)
          × (l.self.progress.owed
          ≡ min (l.fn.self.progress.owed + length (bytes_of items)) 4294967295);
    }
