use Rattle.std.proofs.Common.{◌≡◌, refl, subst, sym}
use Rattle.writerloop.specs.declared.steps.OrderStep.{OrderStep}
use Rattle.writerloop.specs.declared.steps.OrderStep.TheVariants as took
use Rattle.writerloop.specs.Written.{PassesOver}
use Rattle.writerloop.proofs.WrittenSteps.{closes-other, plain-other, sent-here}
use Rattle.writerloop.proofs.WrittenFrames.{passes-by}
use Rattle.writerloop.proofs.writing.Writing.pass_over.Goals as goal

one-early : took.One ≡ took.Early → ⊥
one-early e = cc

pub returns-in-Open-clause-passes : goal.returns-in-Open-clause-passes
returns-in-Open-clause-passes g c = λ one.
    subst (λ order.
    PassesOver g.W.ConnWrite.contents g.W.ConnWrite.failed order c.args.self.now
    c.turn_back.new.self) (sym c.in-Open.is) (c.turn_back.ensures.passes one)

pub returns-in-Close-clause-passes : goal.returns-in-Close-clause-passes
returns-in-Close-clause-passes g c = λ one.
    subst (λ order.
    PassesOver g.W.ConnWrite.contents g.W.ConnWrite.failed order c.args.self.now c.close.new.self)
    (sym c.in-Close.is) c.close.ensures.passes

pub returns : goal.returns
returns g c = record {
  passes = λ one.
      passes-by g.W.ConnWrite.contents g.W.ConnWrite.failed c.args.order c.args.self.now
      c.args.self.now (plain-other c.args.order c.in_default.not-Open) refl
      (sent-here c.args.self.now) refl;
  inbox = λ one. refl;
  waits = λ early. absurd (one-early early);
  same = λ early. absurd (one-early early);
  frames = λ early. absurd (one-early early);
  closed = λ early. absurd (one-early early);
  either = λ other. absurd (other refl);
  heeds = closes-other c.args.order c.args.self.now.closed c.in_default.not-Close;
  way = refl;
  input = refl;
  blames = refl;
}
