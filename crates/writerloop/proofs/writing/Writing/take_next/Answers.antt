use Rattle.std.proofs.Common.{◌∙◌, ◌||◌, Option, Some, ap, refl, subst, sym}
use Rattle.outwriter.specs.declared.control.WriterOrder.{WriterOrder}
use Rattle.outwriter.specs.declared.control.WriterOrder.TheVariants.{Open}
use Rattle.outwriter.specs.Steps.{order_of}
use Rattle.writerloop.specs.Orders.{Gives, closes, ends_input}
use Rattle.writerloop.specs.Sent.{numbers}
use Rattle.writerloop.proofs.WrittenFrames.{begins-from, parts-from, passes-from, takes-from}
use Rattle.writerloop.proofs.WrittenInbox.{leads-begun, leads-none, leads-over, leads-taken}
use Rattle.writerloop.proofs.writing.Writing.take_next.Goals as goal

pub returns-in_default-clause-leads : goal.returns-in_default-clause-leads
returns-in_default-clause-leads g c =
    leads-none g.W.ConnWrite.contents g.W.ConnWrite.failed c.args.self.now _ (subst
    (λ (next : Option (WriterOrder _)). Gives next c.args.self.now.inbox c.next.new.self)
    c.in_default.is c.next.ensures.gives) (record { input = refl; closed = refl; way = refl })
    (record { numbers = refl; way = refl }) refl refl

pub returns-in-Ok-clause-leads : goal.returns-in-Ok-clause-leads
returns-in-Ok-clause-leads g c =
    leads-taken g.W.ConnWrite.contents g.W.ConnWrite.failed c.in-Some.order c.args.self.now
    c.take.new.self c.next.new.self
    (subst (λ (next : Option (WriterOrder _)). Gives next c.args.self.now.inbox c.next.new.self)
    c.in-Some.is c.next.ensures.gives) c.if-self.false c.take.ensures.inbox
    (λ orders before credit runs.
    takes-from g.W.ConnWrite.contents g.W.ConnWrite.failed (order_of c.in-Ok.control)
    c.args.self.now _ c.take.new.self refl (record { numbers = refl; way = refl }) refl
    c.take.ensures.takes
    orders c.in-Some.order before credit (sym c.in-Ok.ensures.same) runs)
    (record {
      input =
          c.take.ensures.heeds.input
          ∙ ap (λ order. ends_input order || c.args.self.now.input_ended) c.in-Ok.ensures.same;
      closed =
          c.take.ensures.heeds.closed
          ∙ ap (λ order. closes order || c.args.self.now.closed) c.in-Ok.ensures.same;
    }) c.take.ensures.way

pub returns-in-Err-clause-leads : goal.returns-in-Err-clause-leads
returns-in-Err-clause-leads g c =
    leads-begun g.W.ConnWrite.contents g.W.ConnWrite.failed c.begin.new.self.inbox.has_lost
    c.in-Err.id c.in-Err.opening c.args.self.now c.begin.new.self c.next.new.self refl
    (subst (λ (next : Option (WriterOrder _)). Gives next c.args.self.now.inbox c.next.new.self)
    (c.in-Some.is ∙ ap (λ order. Some order) c.in-Err.ensures.opens) c.next.ensures.gives)
    c.if-self.false c.begin.ensures.ring c.begin.ensures.one c.begin.ensures.waits
    (λ still.
    begins-from g.W.ConnWrite.contents g.W.ConnWrite.failed (Open c.in-Err.id c.in-Err.opening)
    c.args.self.now _ c.begin.new.self refl (record { numbers = refl; way = refl }) refl
    (c.begin.ensures.begins still))
    (λ lost.
    parts-from g.W.ConnWrite.contents g.W.ConnWrite.failed c.args.self.now _ c.begin.new.self refl
    (record { numbers = refl; way = refl }) refl (c.begin.ensures.parts lost))
    (record {
      input = c.begin.ensures.input;
      closed = c.begin.ensures.closed;
      way = c.begin.ensures.way;
    })

pub returns-then-self-clause-leads : goal.returns-then-self-clause-leads
returns-then-self-clause-leads g c =
    leads-over g.W.ConnWrite.contents g.W.ConnWrite.failed c.pass_over.result c.in-Some.order
    c.args.self.now c.pass_over.new.self c.next.new.self
    (subst (λ (next : Option (WriterOrder _)). Gives next c.args.self.now.inbox c.next.new.self)
    c.in-Some.is c.next.ensures.gives) c.if-self.true
    (λ one.
    passes-from g.W.ConnWrite.contents g.W.ConnWrite.failed c.in-Some.order c.args.self.now _
    c.pass_over.new.self refl (record { numbers = refl; way = refl }) refl
    (c.pass_over.ensures.passes one))
    c.pass_over.ensures.inbox
    (λ early. (
      c.pass_over.ensures.waits early,
      c.pass_over.ensures.frames early,
      record {
        numbers = ap (λ calls. numbers calls.items) (c.pass_over.ensures.same early).0;
        way = (c.pass_over.ensures.same early).1;
      },
      c.pass_over.ensures.blames,
      record {
        input = c.pass_over.ensures.input;
        closed = c.pass_over.ensures.closed early;
        way = c.pass_over.ensures.way;
      },
    )) c.pass_over.ensures.either c.pass_over.ensures.heeds c.pass_over.ensures.way
