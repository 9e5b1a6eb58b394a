use Rattle.std.proofs.Common.{ℕ, ◌+◌, min, ◌∙◌, ap}
use Rattle.callbox.specs.declared.piece.InPiece.TheVariants as piece
use Rattle.callbox.proofs.InLemmas.{fed_more, shut_of-push}
use Rattle.callbox.specs.InSides.{shut_of}
use Rattle.callbox.proofs.feeder.Feeder.feed.Goals as goal

pub invariant_of-self-clause-counted : goal.invariant_of-self-clause-counted
invariant_of-self-clause-counted g c =
    let put = g.L.Lane.put_in c.args.self.now.tx in
    let new = g.L.Lane.put_in c.put.new.tx in
    let sum =
    c.saturating_add-self.ensures
    ∙ ap (λ (n : ℕ). min (c.args.self.now.fed + n) 18446744073709551615) c.len-len.ensures.value in
    fed_more put new c.args.piece c.args.self.now.fed c.saturating_add-self.result
    c.args.self.now.counted c.in-Ok.ensures.ok sum

pub invariant_of-self-clause-unshut : goal.invariant_of-self-clause-unshut
invariant_of-self-clause-unshut g c =
    ap shut_of c.in-Ok.ensures.ok
    ∙ shut_of-push (g.L.Lane.put_in c.args.self.now.tx) (piece.Bytes c.args.piece)
    c.args.self.now.unshut
