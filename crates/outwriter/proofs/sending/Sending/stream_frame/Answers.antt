use Rattle.std.proofs.Common.{Option, None, subst}
use Rattle.std.proofs.lemmas.Result.{IfOk-weaker}
use Rattle.h2frame.specs.declared.frame.Frame.{Frame}
use Rattle.outwriter.specs.Polls.{coming}
use Rattle.outwriter.specs.StreamLooks.{Picks}
use Rattle.outwriter.proofs.QuietSteps.{stuck-after}
use Rattle.outwriter.proofs.ServeStepsCore.{gives-then, picks-then}
use Rattle.outwriter.proofs.sending.Sending.stream_frame.Goals as goal

pub returns-clause-picks : goal.returns-clause-picks
returns-clause-picks g c =
    let one = c.frame_out_of_turn.new.self in
    let two = c.frame_in_turn.new.self in
    IfOk-weaker c.frame_of_any.result _ _ (λ o picks.
    picks-then g.L.Lane.got c.args.self.now two c.frame_of_any.new.self o
    (picks-then g.L.Lane.got c.args.self.now one two None
    (subst (λ (x : Option Frame). Picks g.L.Lane.got x c.args.self.now one) c.in_default.is
    c.in_ok-frame.ensures.picks)
    (subst (λ (x : Option Frame). Picks g.L.Lane.got x one two) c.in_default-2.is
    c.in_ok-frame-2.ensures.picks))
    picks) c.frame_of_any.ensures.picks

pub returns-clause-gives : goal.returns-clause-gives
returns-clause-gives g c =
    gives-then g.L.Lane.got g.L.Lane.out_name c.args.self.now c.frame_in_turn.new.self
    c.frame_of_any.new.self
    (gives-then g.L.Lane.got g.L.Lane.out_name c.args.self.now c.frame_out_of_turn.new.self
    c.frame_in_turn.new.self c.frame_out_of_turn.ensures.gives c.frame_in_turn.ensures.gives)
    c.frame_of_any.ensures.gives

pub returns-clause-quiet : goal.returns-clause-quiet
returns-clause-quiet g c =
    let one = c.frame_out_of_turn.new.self in
    let two = c.frame_in_turn.new.self in
    stuck-after g.L.Lane.got (coming g.L.Lane.got g.L.Lane.ahead) c.args.self.now two
    c.frame_of_any.new.self c.frame_of_any.result
    (picks-then g.L.Lane.got c.args.self.now one two None
    (subst (λ (x : Option Frame). Picks g.L.Lane.got x c.args.self.now one) c.in_default.is
    c.in_ok-frame.ensures.picks)
    (subst (λ (x : Option Frame). Picks g.L.Lane.got x one two) c.in_default-2.is
    c.in_ok-frame-2.ensures.picks)).3
    c.frame_of_any.ensures.quiet
