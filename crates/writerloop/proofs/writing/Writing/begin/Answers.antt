use Rattle.std.proofs.Common.{[], ◌∙◌, ap, refl, subst, sym, true}
use Rattle.lane.specs.Ring.{in_name, put_in}
use Rattle.lane.specs.RingLane.{got}
use Rattle.writerloop.specs.Sent.{numbers}
use Rattle.writerloop.specs.Wrote.{WritesOn}
use Rattle.writerloop.proofs.WrittenSteps.{goes-none}
use Rattle.writerloop.proofs.WrittenFrames.{begins-on, runs-same}
use Rattle.writerloop.proofs.writing.Writing.begin.Goals as goal

pub returns-in-Ok-clause-begins : goal.returns-in-Ok-clause-begins
returns-in-Ok-clause-begins g c = λ still.
    begins-on g.W.ConnWrite.contents g.W.ConnWrite.failed c.args.id c.args.opening
    c.in-Ok.ensures.brings.0 c.args.self.now _ c.in-Ok.ensures.wrote c.in-Ok.ensures.adds.numbers
    (ap put_in c.begin.ensures.way) c.in-Ok.ensures.brings.1 refl

pub returns-in-Err-clause-parts : goal.returns-in-Err-clause-parts
returns-in-Err-clause-parts g c = λ lost.
    runs-same g.W.ConnWrite.contents g.W.ConnWrite.failed true c.args.self.now c.lose.new.self
    (subst (λ frames.
    WritesOn got g.W.ConnWrite.contents g.W.ConnWrite.failed [] c.args.self.now.frames frames)
    (sym (ap (λ w. w.frames) c.lose.ensures.rest)) c.in-Err.ensures.still)
    (goes-none c.args.self.now c.lose.new.self
    (record {
      numbers =
          ap (λ w. numbers w.sends.calls.items) c.lose.ensures.rest
          ∙ ap (λ calls. numbers calls) c.in-Err.ensures.same.0;
      way = ap (λ w. put_in w.sends.home) c.lose.ensures.rest ∙ ap put_in c.begin.ensures.way;
    })
    (ap (λ w. w.blames) c.lose.ensures.rest)
    (ap (λ w. w.frames.core.sending.senders.items) c.lose.ensures.rest ∙ c.in-Err.ensures.same.1))

pub returns-in-Ok-clause-way : goal.returns-in-Ok-clause-way
returns-in-Ok-clause-way g c = ap in_name c.begin.ensures.way

pub returns-in-Err-clause-way : goal.returns-in-Err-clause-way
returns-in-Err-clause-way g c =
    ap (λ w. in_name w.sends.home) c.lose.ensures.rest ∙ ap in_name c.begin.ensures.way
