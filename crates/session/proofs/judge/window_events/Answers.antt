use Rattle.session.proofs.SilentFrames.{credited}
use Rattle.session.proofs.judge.window_events.Goals as goal

pub returns : goal.returns
returns c =
    record {
      ok =
          credited _ c.args.frame _ _ _ _ _ c.if-frame-eq0.false c.in_ok-verdict.ensures.verdict
          c.in_ok-verdict.ensures.follows c.window_of-2.ensures;
    }
