use Rattle.std.proofs.Common.{◌∙◌, ℕ, subst, sym}
use Rattle.lane.specs.Ring.{taken}
use Rattle.writerloop.specs.Endings.{ending_told}
use Rattle.writerloop.specs.Written.{HasSent}
use Rattle.writerloop.proofs.WrittenInbox.{to-here, to-then}
use Rattle.connection.proofs.writer.Writer.write.Goals as goal

pub turns-init : goal.turns-init
turns-init g c = to-here g.W.ConnWrite.contents g.W.ConnWrite.failed _ c.args.self.writing

pub turns-preserved : goal.turns-preserved
turns-preserved g c =
    to-then g.W.ConnWrite.contents g.W.ConnWrite.failed _ _ _ _ _ _ c.turns.invariant
    c.turn.ensures.leads

pub returns-then-turn : goal.returns-then-turn
returns-then-turn g c =
    let written = c.part.result.written in record {
      sent = λ before led.
          subst (λ (credit : ℕ).
          HasSent g.W.ConnWrite.contents g.W.ConnWrite.failed before credit (taken written.orders)
          written.senders (ending_told written.ending) written.device)
          (sym c.part.ensures.share.0)
          (c.part.ensures.sent before _
          (c.turn.ensures.over c.if-turn.true before (c.turns.invariant.on before led)));
      name = c.part.ensures.name ∙ (c.turn.ensures.leads.name ∙ c.turns.invariant.name);
      way = c.part.ensures.way ∙ (c.turn.ensures.leads.way ∙ c.turns.invariant.way);
      parts = c.part.ensures.share.1;
    }
