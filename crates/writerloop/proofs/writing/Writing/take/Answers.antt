use Rattle.std.proofs.Common.{◌≡◌, ◌⊎◌, ◌∙◌, Bool, ap, inl, inr, subst, sym, true}
use Rattle.lane.specs.Ring.{in_name, put_in}
use Rattle.lane.specs.RingLane.{got}
use Rattle.outwriter.specs.Steps.{order_of}
use Rattle.writerloop.specs.declared.inbox.Inbox.{Inbox}
use Rattle.writerloop.specs.declared.steps.OrderStep.{OrderStep}
use Rattle.writerloop.specs.declared.steps.OrderStep.TheVariants as took
use Rattle.writerloop.specs.Orders.{loses_by}
use Rattle.writerloop.specs.OwnOrders.{steps_of}
use Rattle.writerloop.specs.Sent.{numbers}
use Rattle.writerloop.specs.Written.{Heeds, Takes}
use Rattle.writerloop.specs.Wrote.{WritesOn}
use Rattle.writerloop.specs.declared.order_outcome.OrderOutcome.TheVariants.{Done, Ended}
use Rattle.writerloop.proofs.WrittenSteps.{ended-by, ends-by}
use Rattle.writerloop.proofs.WrittenFrames.{given-on, takes-from}
use Rattle.writerloop.proofs.writing.Writing.take.Goals as goal
use Rattle.writerloop.proofs.writing.Writing.take.Goals.{
  in-Done,
  in-Ended,
  in-Unanswered,
  in-HandedBack,
}

one-lost : took.One ≡ took.Lost → ⊥
one-lost e = cc

one-stops : took.One ≡ took.Stops → ⊥
one-stops e = cc

lost-stops : took.Lost ≡ took.Stops → ⊥
lost-stops e = cc

but-lost : {S : Type 0} (new old : Inbox S) (lost : Bool) → new ≡ record old { has_lost = lost }
    → new ≡ record old { has_lost = new.has_lost }
but-lost {S} new old lost is =
    is
    ∙ ap (λ (was : Bool). record old { has_lost = was })
    (sym (ap (λ (inbox : Inbox S). inbox.has_lost) is))

as-lost : {S : Type 0} (new old : Inbox S) → new ≡ old
    → record new { has_lost = true } ≡ record old { has_lost = true }
as-lost {S} new old is = ap (λ (inbox : Inbox S). record inbox { has_lost = true }) is

pub returns-clause-takes : goal.returns-clause-takes
returns-clause-takes g c = elim c.match-give.branch [
  | in-Done w ↦
      subst (λ new.
      Takes g.W.ConnWrite.contents g.W.ConnWrite.failed (order_of c.args.order) c.args.self.now
      new) (sym w.self-is)
      (takes-from g.W.ConnWrite.contents g.W.ConnWrite.failed (order_of c.args.order)
      c.args.self.now c.note.new.self c.give.new.self c.note.ensures.frames (record {
        numbers = c.note.ensures.calls.numbers;
        way = ap put_in c.note.ensures.way;
      }) c.note.ensures.blames
      (given-on g.W.ConnWrite.contents g.W.ConnWrite.failed c.args.order c.args.last c.give.result
      c.note.new.self c.give.new.self c.requires.plain c.give.ensures.wrote c.give.ensures.blamed
      c.give.ensures.core
      (record {
        numbers = ap (λ sends. numbers sends.calls.items) c.give.ensures.sends;
        way = ap (λ sends. put_in sends.home) c.give.ensures.sends;
      }) (λ is. inr (sym c.give.ensures.blames ∙ is))
      (λ calm.
      (ends-by c.give.result Done w.in-Done.is (λ ends. ends), sym c.give.ensures.blames ∙ calm))
      (ap (λ inbox. inbox.has_lost) (c.give.ensures.inbox ∙ c.note.ensures.inbox)
      ∙ (c.requires.kept ∙ sym (ap (λ taking. loses_by taking) w.in-Done.is)))))
  | in-Ended w ↦
      subst (λ new.
      Takes g.W.ConnWrite.contents g.W.ConnWrite.failed (order_of c.args.order) c.args.self.now
      new) (sym w.self-is)
      (takes-from g.W.ConnWrite.contents g.W.ConnWrite.failed (order_of c.args.order)
      c.args.self.now c.note.new.self w.end.new.self c.note.ensures.frames (record {
        numbers = c.note.ensures.calls.numbers;
        way = ap put_in c.note.ensures.way;
      }) c.note.ensures.blames
      (given-on g.W.ConnWrite.contents g.W.ConnWrite.failed c.args.order c.args.last c.give.result
      c.note.new.self w.end.new.self c.requires.plain
      (subst (λ frames.
      WritesOn got g.W.ConnWrite.contents g.W.ConnWrite.failed
      (steps_of (order_of c.args.order) c.args.last c.give.result) c.note.new.self.frames frames)
      (sym w.end.ensures.frames) c.give.ensures.wrote)
      c.give.ensures.blamed
      (ap (λ frames. frames.core.sending.senders.items) w.end.ensures.frames ∙ c.give.ensures.core)
      (record {
        numbers =
            w.end.ensures.calls.numbers
            ∙ ap (λ sends. numbers sends.calls.items) c.give.ensures.sends;
        way = ap put_in w.end.ensures.way ∙ ap (λ sends. put_in sends.home) c.give.ensures.sends;
      }) (λ is.
      ended-by c.give.result w.in-Ended.id w.in-Ended.is (ended-or (w.end.ensures.blames is)))
      (λ calm. (
        ends-by c.give.result (Ended w.in-Ended.id) w.in-Ended.is (w.end.ensures.spares calm).0,
        sym c.give.ensures.blames ∙ (w.end.ensures.spares calm).1,
      ))
      (ap (λ inbox. inbox.has_lost)
      (w.end.ensures.inbox ∙ (c.give.ensures.inbox ∙ c.note.ensures.inbox))
      ∙ (c.requires.kept ∙ sym (ap (λ taking. loses_by taking) w.in-Ended.is)))))
  | in-Unanswered w ↦
      subst (λ new.
      Takes g.W.ConnWrite.contents g.W.ConnWrite.failed (order_of c.args.order) c.args.self.now
      new) (sym w.self-is)
      (takes-from g.W.ConnWrite.contents g.W.ConnWrite.failed (order_of c.args.order)
      c.args.self.now c.note.new.self w.lose.new.self c.note.ensures.frames (record {
        numbers = c.note.ensures.calls.numbers;
        way = ap put_in c.note.ensures.way;
      }) c.note.ensures.blames
      (given-on g.W.ConnWrite.contents g.W.ConnWrite.failed c.args.order c.args.last c.give.result
      c.note.new.self w.lose.new.self c.requires.plain
      (subst (λ frames.
      WritesOn got g.W.ConnWrite.contents g.W.ConnWrite.failed
      (steps_of (order_of c.args.order) c.args.last c.give.result) c.note.new.self.frames frames)
      (sym (ap (λ one. one.frames) w.lose.ensures.rest)) c.give.ensures.wrote)
      c.give.ensures.blamed
      (ap (λ one. one.frames.core.sending.senders.items) w.lose.ensures.rest ∙ c.give.ensures.core)
      (record {
        numbers =
            ap (λ one. numbers one.sends.calls.items) w.lose.ensures.rest
            ∙ ap (λ sends. numbers sends.calls.items) c.give.ensures.sends;
        way =
            ap (λ one. put_in one.sends.home) w.lose.ensures.rest
            ∙ ap (λ sends. put_in sends.home) c.give.ensures.sends;
      }) (λ is. inr (sym (ap (λ one. one.blames) w.lose.ensures.rest ∙ c.give.ensures.blames) ∙ is))
      (λ calm. (
        ends-by c.give.result _ w.in-Unanswered.is (λ ends. ends),
        sym (ap (λ one. one.blames) w.lose.ensures.rest ∙ c.give.ensures.blames) ∙ calm,
      ))
      (ap (λ one. one.inbox.has_lost) w.lose.ensures.rest
      ∙ sym (ap (λ taking. loses_by taking) w.in-Unanswered.is))))
  | in-HandedBack w ↦
      subst (λ new.
      Takes g.W.ConnWrite.contents g.W.ConnWrite.failed (order_of c.args.order) c.args.self.now
      new) (sym w.self-is)
      (takes-from g.W.ConnWrite.contents g.W.ConnWrite.failed (order_of c.args.order)
      c.args.self.now c.note.new.self w.lose-in-HandedBack.new.self c.note.ensures.frames (record {
        numbers = c.note.ensures.calls.numbers;
        way = ap put_in c.note.ensures.way;
      }) c.note.ensures.blames
      (given-on g.W.ConnWrite.contents g.W.ConnWrite.failed c.args.order c.args.last c.give.result
      c.note.new.self w.lose-in-HandedBack.new.self c.requires.plain
      (subst (λ frames.
      WritesOn got g.W.ConnWrite.contents g.W.ConnWrite.failed
      (steps_of (order_of c.args.order) c.args.last c.give.result) c.note.new.self.frames frames)
      (sym (ap (λ one. one.frames) w.lose-in-HandedBack.ensures.rest)) c.give.ensures.wrote)
      c.give.ensures.blamed
      (ap (λ one. one.frames.core.sending.senders.items) w.lose-in-HandedBack.ensures.rest
      ∙ c.give.ensures.core)
      (record {
        numbers =
            ap (λ one. numbers one.sends.calls.items) w.lose-in-HandedBack.ensures.rest
            ∙ ap (λ sends. numbers sends.calls.items) c.give.ensures.sends;
        way =
            ap (λ one. put_in one.sends.home) w.lose-in-HandedBack.ensures.rest
            ∙ ap (λ sends. put_in sends.home) c.give.ensures.sends;
      }) (λ is.
      inr
      (sym (ap (λ one. one.blames) w.lose-in-HandedBack.ensures.rest ∙ c.give.ensures.blames) ∙ is))
      (λ calm. (
        ends-by c.give.result _ w.in-HandedBack.is (λ ends. ends),
        sym (ap (λ one. one.blames) w.lose-in-HandedBack.ensures.rest ∙ c.give.ensures.blames)
            ∙ calm,
      ))
      (ap (λ one. one.inbox.has_lost) w.lose-in-HandedBack.ensures.rest
      ∙ sym (ap (λ taking. loses_by taking) w.in-HandedBack.is))))
]
  where
    ended-or : {A : Type 0} → A ⊎ (c.give.new.self.blames ≡ true)
        → A ⊎ (c.note.new.self.blames ≡ true)
    ended-or (inl a) = inl a
    ended-or (inr was) = inr (sym c.give.ensures.blames ∙ was)

pub returns-clause-inbox : goal.returns-clause-inbox
returns-clause-inbox g c = elim c.match-give.branch [
  | in-Done w ↦
      but-lost c.match-give.self.inbox c.args.self.now.inbox c.args.self.now.inbox.has_lost
      (ap (λ one. one.inbox) w.self-is ∙ (c.give.ensures.inbox ∙ c.note.ensures.inbox))
  | in-Ended w ↦
      but-lost c.match-give.self.inbox c.args.self.now.inbox c.args.self.now.inbox.has_lost
      (ap (λ one. one.inbox) w.self-is
      ∙ (w.end.ensures.inbox ∙ (c.give.ensures.inbox ∙ c.note.ensures.inbox)))
  | in-Unanswered w ↦
      but-lost c.match-give.self.inbox c.args.self.now.inbox true
      (ap (λ one. one.inbox) w.self-is
      ∙ (ap (λ one. one.inbox) w.lose.ensures.rest
      ∙ as-lost c.give.new.self.inbox c.args.self.now.inbox
      (c.give.ensures.inbox ∙ c.note.ensures.inbox)))
  | in-HandedBack w ↦
      but-lost c.match-give.self.inbox c.args.self.now.inbox true
      (ap (λ one. one.inbox) w.self-is
      ∙ (ap (λ one. one.inbox) w.lose-in-HandedBack.ensures.rest
      ∙ as-lost c.give.new.self.inbox c.args.self.now.inbox
      (c.give.ensures.inbox ∙ c.note.ensures.inbox)))
]

pub returns-clause-heeds : goal.returns-clause-heeds
returns-clause-heeds g c = elim c.match-give.branch [
  | in-Done w ↦ record {
    input =
        ap (λ one. one.input_ended) w.self-is ∙ (c.give.ensures.input ∙ c.note.ensures.heeds.input);
    closed =
        ap (λ one. one.closed) w.self-is ∙ (c.give.ensures.closed ∙ c.note.ensures.heeds.closed);
  }
  | in-Ended w ↦ record {
    input =
        ap (λ one. one.input_ended) w.self-is
        ∙ (w.end.ensures.input ∙ (c.give.ensures.input ∙ c.note.ensures.heeds.input));
    closed =
        ap (λ one. one.closed) w.self-is
        ∙ (w.end.ensures.closed ∙ (c.give.ensures.closed ∙ c.note.ensures.heeds.closed));
  }
  | in-Unanswered w ↦ record {
    input =
        ap (λ one. one.input_ended) w.self-is
        ∙ (ap (λ one. one.input_ended) w.lose.ensures.rest
        ∙ (c.give.ensures.input ∙ c.note.ensures.heeds.input));
    closed =
        ap (λ one. one.closed) w.self-is
        ∙ (ap (λ one. one.closed) w.lose.ensures.rest
        ∙ (c.give.ensures.closed ∙ c.note.ensures.heeds.closed));
  }
  | in-HandedBack w ↦ record {
    input =
        ap (λ one. one.input_ended) w.self-is
        ∙ (ap (λ one. one.input_ended) w.lose-in-HandedBack.ensures.rest
        ∙ (c.give.ensures.input ∙ c.note.ensures.heeds.input));
    closed =
        ap (λ one. one.closed) w.self-is
        ∙ (ap (λ one. one.closed) w.lose-in-HandedBack.ensures.rest
        ∙ (c.give.ensures.closed ∙ c.note.ensures.heeds.closed));
  }
]

pub returns-clause-lost : goal.returns-clause-lost
returns-clause-lost g c = λ is. elim c.match-give.branch [
  | in-Done w ↦ absurd (one-lost (sym w.result-is ∙ is))
  | in-Ended w ↦ absurd (w.end.ensures.ends (sym w.result-is ∙ is))
  | in-Unanswered w ↦
      ap (λ one. one.inbox.has_lost) w.self-is ∙ ap (λ one. one.inbox.has_lost) w.lose.ensures.rest
  | in-HandedBack w ↦
      ap (λ one. one.inbox.has_lost) w.self-is
      ∙ ap (λ one. one.inbox.has_lost) w.lose-in-HandedBack.ensures.rest
]

pub returns-clause-stops : goal.returns-clause-stops
returns-clause-stops g c = λ is. elim c.match-give.branch [
  | in-Done w ↦ absurd (one-stops (sym w.result-is ∙ is))
  | in-Ended w ↦ ap (λ one. one.blames) w.self-is ∙ w.end.ensures.stops (sym w.result-is ∙ is)
  | in-Unanswered w ↦ absurd (lost-stops (sym w.lose.ensures.lost ∙ (sym w.result-is ∙ is)))
  | in-HandedBack w ↦
      absurd (lost-stops (sym w.lose-in-HandedBack.ensures.lost ∙ (sym w.result-is ∙ is)))
]

pub returns-clause-way : goal.returns-clause-way
returns-clause-way g c = elim c.match-give.branch [
  | in-Done w ↦
      ap (λ one. in_name one.sends.home) w.self-is
      ∙ (ap (λ sends. in_name sends.home) c.give.ensures.sends ∙ ap in_name c.note.ensures.way)
  | in-Ended w ↦
      ap (λ one. in_name one.sends.home) w.self-is
      ∙ (ap in_name w.end.ensures.way
      ∙ (ap (λ sends. in_name sends.home) c.give.ensures.sends ∙ ap in_name c.note.ensures.way))
  | in-Unanswered w ↦
      ap (λ one. in_name one.sends.home) w.self-is
      ∙ (ap (λ one. in_name one.sends.home) w.lose.ensures.rest
      ∙ (ap (λ sends. in_name sends.home) c.give.ensures.sends ∙ ap in_name c.note.ensures.way))
  | in-HandedBack w ↦
      ap (λ one. in_name one.sends.home) w.self-is
      ∙ (ap (λ one. in_name one.sends.home) w.lose-in-HandedBack.ensures.rest
      ∙ (ap (λ sends. in_name sends.home) c.give.ensures.sends ∙ ap in_name c.note.ensures.way))
]
