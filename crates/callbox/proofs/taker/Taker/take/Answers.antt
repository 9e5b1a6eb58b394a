use Rattle.std.proofs.Common.{◌≡◌, ◌++◌, List, subst, rules}
use Rattle.callbox.specs.InSides.{EachNeeded, TakesMessages}
use Rattle.callbox.specs.declared.piece.InPiece.{InPiece}
use Rattle.callbox.proofs.taker.Taker.take.Goals as goal
use Rattle.callbox.proofs.taker.Taker.take.Goals.{then-self, else-self}

pub returns-clause-needed : goal.returns-clause-needed
returns-clause-needed g c = λ messages t.
    let now = g.L.Lane.got c.look.new.self.rx in
    let same : g.L.Lane.got c.if-self.self.rx ≡ g.L.Lane.got c.args.self.now.rx =
    elim c.if-self.branch [ then-self w ↦ search rules | else-self w ↦ search rules ] in
    let took : TakesMessages (g.L.Lane.got c.if-self.self.rx) c.if-self.self.progress messages =
    elim c.if-self.branch [
      | then-self w ↦ (let again = w.read_again.ensures.took messages t in search rules)
      | else-self w ↦ search rules
    ] in
    subst (λ (old : List InPiece).
    (items : List InPiece) × (now ≡ old ++ items) × EachNeeded old items messages) same
    (c.look.ensures.needed messages took)
