use Rattle.std.proofs.Common.{Option, subst}
use Rattle.std.proofs.lemmas.Result.{IfOk-weaker}
use Rattle.h2frame.specs.declared.frame.Frame.{Frame}
use Rattle.outwriter.specs.CallState.{OwnOrRests}
use Rattle.outwriter.proofs.TellStepsOwn.{rests-own, rests-rests, rests-either}
use Rattle.outwriter.proofs.outbound.Outbound.own_frame.Goals as goal

pub returns-in-Some-2-clause-own : goal.returns-in-Some-2-clause-own
returns-in-Some-2-clause-own c =
    rests-own c.args.self.now c.block_frame.new.self c.due_frame.new.self c.in-Some-2.frame
    (subst (λ (o : Option Frame). OwnOrRests o c.args.self.now c.block_frame.new.self)
    c.in_default.is c.in_ok-frame.ensures.own)
    (subst (λ (o : Option Frame). OwnOrRests o c.block_frame.new.self c.due_frame.new.self)
    c.in-Some-2.is c.in_ok-frame-2.ensures.own)

pub returns-clause-own : goal.returns-clause-own
returns-clause-own c = IfOk-weaker c.credit_frame.result
    (λ (o : Option Frame). OwnOrRests o c.due_frame.new.self c.credit_frame.new.self)
    (λ (o : Option Frame). OwnOrRests o c.args.self.now c.credit_frame.new.self)
    (λ o own.
    rests-either c.args.self.now c.due_frame.new.self c.credit_frame.new.self o
    (rests-rests c.args.self.now c.block_frame.new.self c.due_frame.new.self
    (subst (λ (o : Option Frame). OwnOrRests o c.args.self.now c.block_frame.new.self)
    c.in_default.is c.in_ok-frame.ensures.own)
    (subst (λ (o : Option Frame). OwnOrRests o c.block_frame.new.self c.due_frame.new.self)
    c.in_default-2.is c.in_ok-frame-2.ensures.own)) own)
    c.credit_frame.ensures.own
