use Rattle.callrun.proofs.Taking.{end_answers}
use Rattle.callrun.proofs.handling.Handling.end.Goals as goal

pub returns : goal.returns
returns g c = record {
  answers = λ messages lawful standing.
      end_answers messages c.args.self.now.state _ c.accept.new.self c.end-step.result lawful
      standing c.end-step.ensures.0 c.accept.ensures;
}
