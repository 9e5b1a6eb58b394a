use Rattle.std.proofs.Common.{◌∙◌, Bool, ap, refl, subst, sym, true, true≢false}
use Rattle.lane.specs.RingLane.{got}
use Rattle.writerloop.specs.OwnOrders.{parting}
use Rattle.writerloop.specs.Wrote.{WritesOn}
use Rattle.writerloop.proofs.WrittenSteps.{goes-none}
use Rattle.writerloop.proofs.WrittenFrames.{parts-on, still-on}
use Rattle.writerloop.proofs.WrittenInbox.{stays-by}
use Rattle.writerloop.proofs.writing.Writing.say_last.Goals as goal

pub returns-then-part : goal.returns-then-part
returns-then-part g c = record {
  stays =
      stays-by g.W.ConnWrite.contents g.W.ConnWrite.failed c.args.self.now _ refl
      (λ kept. absurd (true≢false kept)) (record { input = refl; closed = refl; way = refl })
      (parts-on g.W.ConnWrite.contents g.W.ConnWrite.failed c.id.result
      c.args.self.now.inbox.has_lost c.args.self.now _
      (subst (λ (said : Bool).
      WritesOn got g.W.ConnWrite.contents g.W.ConnWrite.failed (parting c.id.result said)
      c.args.self.now.frames c.part.new.self) c.if-part.true c.part.ensures.wrote)
      (ap (λ senders. senders.items) c.part.ensures.senders) (record { numbers = refl; way = refl })
      refl (c.part.ensures.dead c.if-part.true).0 (ap (λ w. w.standing) c.part.ensures.rest));
}

pub returns-else-part : goal.returns-else-part
returns-else-part g c = record {
  stays =
      stays-by g.W.ConnWrite.contents g.W.ConnWrite.failed c.args.self.now _ refl (λ kept. kept)
      (record { input = refl; closed = refl; way = refl })
      (still-on g.W.ConnWrite.contents g.W.ConnWrite.failed c.args.self.now.inbox.has_lost
      c.args.self.now _
      (subst (λ (said : Bool).
      WritesOn got g.W.ConnWrite.contents g.W.ConnWrite.failed (parting c.id.result said)
      c.args.self.now.frames c.part.new.self) c.if-part.false c.part.ensures.wrote)
      (goes-none c.args.self.now _ (record { numbers = refl; way = refl }) refl
      (ap (λ senders. senders.items) c.part.ensures.senders)) c.part.ensures.lives
      (ap (λ senders. senders.items) c.part.ensures.senders)
      (λ going. sym (ap (λ w. w.standing) c.part.ensures.rest) ∙ going));
}
