use Rattle.std.proofs.Common.{◌∙◌, sym, subst, true≢false}
use Rattle.outwriter.specs.Frames.{IsSound}
use Rattle.outwriter.proofs.Leads.{leads-parted}
use Rattle.outwriter.proofs.SoundFrames.{sound-goaway}
use Rattle.outwriter.proofs.out_core.OutCore.farewell.Goals.{then-self, else-self}
use Rattle.outwriter.proofs.out_core.OutCore.farewell.Goals as goal

pub returns-in-Ok-clause-sound : goal.returns-in-Ok-clause-sound
returns-in-Ok-clause-sound g c =
    subst IsSound (sym c.in-Ok.ensures) (sound-goaway c.args.last c.args.reason)

pub returns-in-Ok-clause-leads : goal.returns-in-Ok-clause-leads
returns-in-Ok-clause-leads g c = elim c.if-self.branch [
  | then-self w ↦
      leads-parted g.L.Lane.got c.args.self.now c.args.last c.args.reason c.in-Ok.frame
      c.in-Ok.ensures w.if-self.true (sym w.may_part-is ∙ c.if-not-may_part.false)
  | else-self w ↦
      absurd (true≢false (sym c.if-not-may_part.false ∙ w.may_part-is ∙ w.if-self.false))
]
