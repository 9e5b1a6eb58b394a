use Rattle.std.proofs.lemmas.Result.{IfOk-weaker}
use Rattle.session.proofs.Reading.{reads_more}
use Rattle.session.proofs.Stages.{reading_feeds}
use Rattle.session.proofs.in_core.read.Goals as goal

pub returns : goal.returns
returns c = record {
  feeds = IfOk-weaker c.read_waiting.result _ _
      (λ next waiting. reading_feeds c.args.position next _ _ _ _ _ _ _ _ _ waiting.sound
      (λ text before reads.
      waiting.reads _ before (reads_more _ _ _ _ _ _ _ _ c.in-Ok.ensures.list reads)))
      c.read_waiting.ensures.reads;
}
