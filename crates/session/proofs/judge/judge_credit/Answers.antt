use Rattle.std.proofs.Common.{subst, ◌∷◌}
use Rattle.h2frame.specs.declared.frame.FrameHead.{FrameHead}
use Rattle.streamstates.specs.Halves.{Cut, Received, Stands}
use Rattle.session.proofs.judge.judge_credit.Goals as goal

pub returns-in-StreamError-clause-follows : goal.returns-in-StreamError-clause-follows
returns-in-StreamError-clause-follows c history stands =
    rw c.in-StreamError.is
    (subst (λ (head : FrameHead). Stands (Cut c.args.id ∷ Received head ∷ history) c.cut.new.self)
    c.credit_head-head.ensures
    (c.cut.ensures.follows _ (c.in_ok-on.ensures.follows history stands)))
