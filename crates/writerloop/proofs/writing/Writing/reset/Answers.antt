use Rattle.std.proofs.Common.{◌∙◌, ap}
use Rattle.lane.specs.Ring.{in_name, put_in}
use Rattle.writerloop.specs.Sent.{numbers}
use Rattle.writerloop.proofs.WrittenInbox.{gave-last, leads-reset}
use Rattle.writerloop.proofs.writing.Writing.reset.Goals as goal

pub returns-in_default-clause-leads : goal.returns-in_default-clause-leads
returns-in_default-clause-leads g c =
    leads-reset g.W.ConnWrite.contents g.W.ConnWrite.failed c.args.id 0 c.give-taking.result
    c.args.self.now _ c.requires.kept c.requires.going c.give-taking.ensures.inbox
    (record {
      input = c.give-taking.ensures.input;
      closed = c.give-taking.ensures.closed;
      way = ap (λ sends. in_name sends.home) c.give-taking.ensures.sends;
    }) c.give-taking.ensures.wrote c.give-taking.ensures.blamed c.give-taking.ensures.core
    (record {
      numbers = ap (λ sends. numbers sends.calls.items) c.give-taking.ensures.sends;
      way = ap (λ sends. put_in sends.home) c.give-taking.ensures.sends;
    }) c.give-taking.ensures.blames
    (gave-last c.args.id _ c.requires.left)

pub returns-clause-leads : goal.returns-clause-leads
returns-clause-leads g c =
    leads-reset g.W.ConnWrite.contents g.W.ConnWrite.failed c.args.id 0 c.give-taking.result
    c.args.self.now _ c.requires.kept c.requires.going c.give-taking.ensures.inbox
    (record {
      input = c.give-taking.ensures.input;
      closed = c.give-taking.ensures.closed;
      way =
          ap in_name c.note_through.ensures.home
          ∙ ap (λ sends. in_name sends.home) c.give-taking.ensures.sends;
    }) c.give-taking.ensures.wrote c.give-taking.ensures.blamed c.give-taking.ensures.core
    (record {
      numbers =
          c.note_through.ensures.same.numbers
          ∙ ap (λ sends. numbers sends.calls.items) c.give-taking.ensures.sends;
      way =
          ap put_in c.note_through.ensures.home
          ∙ ap (λ sends. put_in sends.home) c.give-taking.ensures.sends;
    }) c.give-taking.ensures.blames (gave-last c.args.id _ c.requires.left)
