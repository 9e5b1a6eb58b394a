use Rattle.std.proofs.Common.{None, refl, subst, sym}
use Rattle.outwriter.specs.StreamLooks.{Gives, Picks}
use Rattle.outwriter.proofs.ServeStepsCore.{picks-none}
use Rattle.outwriter.proofs.sending.Sending.frame_out_of_turn.Goals.{
  in_default-via-in-Some+else-waits,
  in_default-via-in_default,
}
use Rattle.outwriter.proofs.sending.Sending.frame_out_of_turn.Goals as goal

pub returns-in_default-clause-gives : goal.returns-in_default-clause-gives
returns-in_default-clause-gives g c = elim c.in_default.branch [
  | in_default-via-in-Some+else-waits w ↦
      subst (λ left. Gives g.L.Lane.got g.L.Lane.out_name c.args.self.now left) (sym w.self-is)
      (λ run all. all, refl, λ id gave. gave)
  | in_default-via-in_default w ↦
      subst (λ left. Gives g.L.Lane.got g.L.Lane.out_name c.args.self.now left) (sym w.self-is)
      (λ run all. all, refl, λ id gave. gave)
]

pub returns-in_default-clause-picks : goal.returns-in_default-clause-picks
returns-in_default-clause-picks g c = elim c.in_default.branch [
  | in_default-via-in-Some+else-waits w ↦
      subst (λ left. Picks g.L.Lane.got None c.args.self.now left) (sym w.self-is)
      (picks-none g.L.Lane.got c.args.self.now c.requires)
  | in_default-via-in_default w ↦
      subst (λ left. Picks g.L.Lane.got None c.args.self.now left) (sym w.self-is)
      (picks-none g.L.Lane.got c.args.self.now c.requires)
]
