use Rattle.std.proofs.Common.{◌≡◌, false}
use Rattle.writerloop.specs.Written.{LeadsOn}
use Rattle.writerloop.proofs.writing.Writing.reset_left.Given as goal

abbrev pub invariant-calls : goal.invariant-calls
invariant-calls g l = record {
  leads : LeadsOn g.W.ConnWrite.contents g.W.ConnWrite.failed l.fn.self l.self;
  kept : l.self.inbox.has_lost ≡ false;
  going : l.self.input_ended ≡ false;
}
