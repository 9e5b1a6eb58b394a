use Rattle.std.proofs.Common.{refl}
use Rattle.outwriter.proofs.LeftSteps.{calls-same, leads-same, not-left, was-left}
use Rattle.outwriter.proofs.ServeStepsTake.{lanes-same}
use Rattle.outwriter.proofs.out_core.OutCore.left_at.Goals as goal

pub returns-then-was_left-clause-left : goal.returns-then-was_left-clause-left
returns-then-was_left-clause-left g c =
    was-left g.L.Lane.got c.args.self.now.sending.senders.items c.args.place c.in_ok-call.call.now
    c.was_left.new.self c.was_left.result c.in_ok-call.ensures.item.3.0
    c.in_ok-call.ensures.value c.was_left.ensures.got c.was_left.ensures.left c.if-was_left.true

pub returns-else-was_left-clause-not_left : goal.returns-else-was_left-clause-not_left
returns-else-was_left-clause-not_left g c =
    not-left g.L.Lane.got c.args.self.now.sending.senders.items c.args.place c.in_ok-call.call.now
    c.was_left.new.self c.was_left.result
    c.in_ok-call.ensures.value c.was_left.ensures.got c.was_left.ensures.left c.if-was_left.false

pub returns-then-was_left-clause-calls : goal.returns-then-was_left-clause-calls
returns-then-was_left-clause-calls g c =
    calls-same g.L.Lane.got c.args.self.now.sending.senders.items c.args.place c.in_ok-call.call.now
    c.was_left.new.self c.in_ok-call.ensures.value c.was_left.ensures.got

pub returns-then-was_left-clause-senders : goal.returns-then-was_left-clause-senders
returns-then-was_left-clause-senders g c =
    lanes-same g.L.Lane.out_name c.args.self.now.sending.senders.items c.args.place
    c.in_ok-call.call.now c.was_left.new.self c.in_ok-call.ensures.value c.was_left.ensures.id
    c.was_left.ensures.name

pub returns-then-was_left-clause-leads : goal.returns-then-was_left-clause-leads
returns-then-was_left-clause-leads g c =
    leads-same g.L.Lane.got c.args.self.now _ refl
    (calls-same g.L.Lane.got c.args.self.now.sending.senders.items c.args.place
    c.in_ok-call.call.now c.was_left.new.self c.in_ok-call.ensures.value c.was_left.ensures.got)

pub returns-else-was_left-clause-calls : goal.returns-else-was_left-clause-calls
returns-else-was_left-clause-calls g c =
    calls-same g.L.Lane.got c.args.self.now.sending.senders.items c.args.place c.in_ok-call.call.now
    c.was_left.new.self c.in_ok-call.ensures.value c.was_left.ensures.got

pub returns-else-was_left-clause-senders : goal.returns-else-was_left-clause-senders
returns-else-was_left-clause-senders g c =
    lanes-same g.L.Lane.out_name c.args.self.now.sending.senders.items c.args.place
    c.in_ok-call.call.now c.was_left.new.self c.in_ok-call.ensures.value c.was_left.ensures.id
    c.was_left.ensures.name

pub returns-else-was_left-clause-leads : goal.returns-else-was_left-clause-leads
returns-else-was_left-clause-leads g c =
    leads-same g.L.Lane.got c.args.self.now _ refl
    (calls-same g.L.Lane.got c.args.self.now.sending.senders.items c.args.place
    c.in_ok-call.call.now c.was_left.new.self c.in_ok-call.ensures.value c.was_left.ensures.got)
