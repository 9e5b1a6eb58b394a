use Rattle.std.proofs.Common.{ap, refl, true}
use Rattle.writerloop.proofs.WrittenSteps.{goes-none}
use Rattle.writerloop.proofs.WrittenFrames.{runs-same}
use Rattle.writerloop.proofs.WrittenInbox.{leads-parting}
use Rattle.writerloop.proofs.writing.Writing.give_up.Goals as goal

pub returns-then-not-part : goal.returns-then-not-part
returns-then-not-part g c = record {
  leads =
      leads-parting g.W.ConnWrite.contents g.W.ConnWrite.failed c.args.self.now _ c.requires.lost
      c.part.ensures.inbox (record {
        input = c.part.ensures.input;
        closed = c.part.ensures.closed;
        way = c.part.ensures.way;
      })
      (λ orders before credit runs.
      runs-same g.W.ConnWrite.contents g.W.ConnWrite.failed true c.part.new.self _
      c.stop.ensures.wrote
      (goes-none c.part.new.self _ (record { numbers = refl; way = refl }) refl
      (ap (λ frames. frames.core.sending.senders.items) c.stop.ensures.rest)) orders before credit
      (c.part.ensures.parts orders before credit runs));
}

pub returns-else-not-part : goal.returns-else-not-part
returns-else-not-part g c = record {
  leads =
      leads-parting g.W.ConnWrite.contents g.W.ConnWrite.failed c.args.self.now c.part.new.self
      c.requires.lost c.part.ensures.inbox (record {
        input = c.part.ensures.input;
        closed = c.part.ensures.closed;
        way = c.part.ensures.way;
      }) c.part.ensures.parts;
}
