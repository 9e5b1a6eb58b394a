use Rattle.std.proofs.Common.{Option, Some, None, subst}
use Rattle.std.proofs.lemmas.Result.{IfOk-weaker}
use Rattle.h2frame.specs.declared.frame.Frame.{Frame}
use Rattle.outwriter.specs.Polls.{coming}
use Rattle.outwriter.specs.CallState.{OwnOrRests}
use Rattle.outwriter.proofs.QuietSteps.{quiet-after}
use Rattle.outwriter.proofs.ServeStepsCore.{holds-then, own-holds}
use Rattle.outwriter.proofs.sending.Sending.choose.Goals as goal

pub returns-then-not-self-clause-served : goal.returns-then-not-self-clause-served
returns-then-not-self-clause-served g c =
    own-holds g.L.Lane.got c.args.self.now c.first_frame.new.self (Some c.first_frame.result)
    c.first_frame.ensures.own

pub returns-in-Some-clause-served : goal.returns-in-Some-clause-served
returns-in-Some-clause-served g c =
    own-holds g.L.Lane.got c.args.self.now c.own_frame.new.self (Some c.in-Some.frame)
    (subst (λ (x : Option Frame). OwnOrRests x c.args.self.now.outbound c.own_frame.new.self)
    c.in-Some.is c.in_ok-frame.ensures.own)

pub returns-clause-served : goal.returns-clause-served
returns-clause-served g c =
    IfOk-weaker c.stream_frame.result _ _ (λ o picks.
    holds-then g.L.Lane.got c.args.self.now
    (record c.args.self.now { outbound = c.own_frame.new.self }) c.stream_frame.new.self o
    (own-holds g.L.Lane.got c.args.self.now c.own_frame.new.self None
    (subst (λ (x : Option Frame). OwnOrRests x c.args.self.now.outbound c.own_frame.new.self)
    c.in_default.is c.in_ok-frame.ensures.own))
    picks.3) c.stream_frame.ensures.picks

pub returns-clause-quiet : goal.returns-clause-quiet
returns-clause-quiet g c =
    quiet-after g.L.Lane.got (coming g.L.Lane.got g.L.Lane.ahead) c.args.self.now
    (record c.args.self.now { outbound = c.own_frame.new.self }) c.stream_frame.new.self
    c.stream_frame.result
    (own-holds g.L.Lane.got c.args.self.now c.own_frame.new.self None
    (subst (λ (x : Option Frame). OwnOrRests x c.args.self.now.outbound c.own_frame.new.self)
    c.in_default.is c.in_ok-frame.ensures.own))
    c.stream_frame.ensures.quiet
