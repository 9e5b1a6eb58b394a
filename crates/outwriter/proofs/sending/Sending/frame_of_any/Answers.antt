use Rattle.std.proofs.Common.{◌≡◌, ◌≤◌, Option, Some, get_or, length, arith, subst}
use Rattle.std.specs.Prelude.{IfNone}
use Rattle.h2frame.specs.declared.frame.Frame.{Frame}
use Rattle.outwriter.specs.Polls.{coming}
use Rattle.outwriter.specs.StreamLooks.{GetsStuck, Picks}
use Rattle.outwriter.proofs.ServeStepsCore.{gives-then, picks-then}
use Rattle.outwriter.proofs.QuietSteps.{all-stuck, looked-more, lt-from, number-at, numbers}
use Rattle.outwriter.proofs.sending.Sending.frame_of_any.Goals as goal

pub loop-index-preserved : goal.loop-index-preserved
loop-index-preserved g c =
    looked-more g.L.Lane.got (coming g.L.Lane.got g.L.Lane.ahead) g.L.Lane.out_name
    c.loop-index.index c.args.self.now c.loop-index.self c.frame_of.new.self c.in-Some.field-0.now.0
    c.loop-index.invariant
    (subst (λ senders. get_or (numbers senders) c.loop-index.index 0 ≡ c.in-Some.field-0.now.0)
    c.deref.ensures.value
    (number-at c.deref.result.now c.loop-index.index c.in-Some.field-0.now
    (lt-from c.loop-index.index (length c.deref.result.now) c.in-Some.ensures.lookup.0)
    c.in-Some.ensures.lookup.1))
    (subst (λ (o : Option Frame). Picks g.L.Lane.got o c.loop-index.self c.frame_of.new.self)
    c.in_default.is c.in_ok-frame.ensures.picks) c.frame_of.ensures.gives
    (subst (λ (o : Option Frame).
    IfNone o (GetsStuck g.L.Lane.got (coming g.L.Lane.got g.L.Lane.ahead) c.in-Some.field-0.now.0
    c.loop-index.self c.frame_of.new.self)) c.in_default.is
    c.in_ok-frame.ensures.quiet)

pub returns-clause-quiet : goal.returns-clause-quiet
returns-clause-quiet g c =
    let enough : length c.args.self.now.senders.items ≤ c.loop-index.index =
    omega (arith, c.len-index-end.ensures, c.loop-index-test.false) in
    all-stuck g.L.Lane.got (coming g.L.Lane.got g.L.Lane.ahead) c.loop-index.index c.args.self.now
    c.loop-index.self c.loop-index.invariant.2 enough

pub returns-in-Some-2-clause-picks : goal.returns-in-Some-2-clause-picks
returns-in-Some-2-clause-picks g c =
    picks-then g.L.Lane.got c.args.self.now c.loop-index.self c.frame_of.new.self
    (Some c.in-Some-2.frame) c.loop-index.invariant.0
    (subst (λ (o : Option Frame). Picks g.L.Lane.got o c.loop-index.self c.frame_of.new.self)
    c.in-Some-2.is c.in_ok-frame.ensures.picks)

pub returns-in_err-frame-clause-gives : goal.returns-in_err-frame-clause-gives
returns-in_err-frame-clause-gives g c =
    gives-then g.L.Lane.got g.L.Lane.out_name c.args.self.now c.loop-index.self c.frame_of.new.self
    c.loop-index.invariant.1 c.frame_of.ensures.gives

pub returns-in-Some-2-clause-gives : goal.returns-in-Some-2-clause-gives
returns-in-Some-2-clause-gives g c =
    gives-then g.L.Lane.got g.L.Lane.out_name c.args.self.now c.loop-index.self c.frame_of.new.self
    c.loop-index.invariant.1 c.frame_of.ensures.gives
