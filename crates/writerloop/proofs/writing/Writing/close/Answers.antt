use Rattle.std.proofs.Common.{ap}
use Rattle.lane.specs.Ring.{in_name, put_in}
use Rattle.writerloop.specs.Sent.{numbers}
use Rattle.writerloop.proofs.WrittenFrames.{closing-on}
use Rattle.writerloop.proofs.writing.Writing.close.Goals as goal

pub returns-clause-passes : goal.returns-clause-passes
returns-clause-passes g c =
    closing-on g.W.ConnWrite.contents g.W.ConnWrite.failed c.args.last c.give-taking.result
    c.args.self.now _ c.give-taking.ensures.wrote c.give-taking.ensures.blamed
    c.give-taking.ensures.core
    (record {
      numbers = ap (λ sends. numbers sends.calls.items) c.give-taking.ensures.sends;
      way = ap (λ sends. put_in sends.home) c.give-taking.ensures.sends;
    }) c.give-taking.ensures.blames

pub returns-clause-way : goal.returns-clause-way
returns-clause-way g c = ap (λ sends. in_name sends.home) c.give-taking.ensures.sends
