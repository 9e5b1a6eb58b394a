use Rattle.std.proofs.Common.{ap}
use Rattle.lane.specs.Ring.{in_name, put_in}
use Rattle.writerloop.specs.Sent.{numbers}
use Rattle.writerloop.proofs.WrittenSteps.{mild}
use Rattle.writerloop.proofs.WrittenInbox.{leads-warning}
use Rattle.writerloop.proofs.writing.Writing.warn_by.Goals as goal

pub give-taking-requires : goal.give-taking-requires
give-taking-requires g c = record { plain = (mild c.args.warning c.requires.own).plain }

pub returns-clause-leads : goal.returns-clause-leads
returns-clause-leads g c =
    leads-warning g.W.ConnWrite.contents g.W.ConnWrite.failed c.args.warning 2147483647
    c.give-taking.result c.args.self.now _ c.requires.own c.requires.kept
    c.give-taking.ensures.inbox
    (record {
      input = c.give-taking.ensures.input;
      closed = c.give-taking.ensures.closed;
      way = ap (λ sends. in_name sends.home) c.give-taking.ensures.sends;
    }) c.give-taking.ensures.wrote c.give-taking.ensures.blamed c.requires.warns
    c.give-taking.ensures.core
    (record {
      numbers = ap (λ sends. numbers sends.calls.items) c.give-taking.ensures.sends;
      way = ap (λ sends. put_in sends.home) c.give-taking.ensures.sends;
    }) c.give-taking.ensures.blames
