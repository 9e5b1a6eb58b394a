use Rattle.std.proofs.Common.{◌∙◌, Option, subst, refl}
use Rattle.h2frame.specs.declared.frame.Frame.{Frame}
use Rattle.outwriter.specs.Polls.{coming}
use Rattle.outwriter.specs.RunState.{Progresses}
use Rattle.outwriter.specs.StreamLooks.{HoldsOn}
use Rattle.outwriter.proofs.FrameSteps.{may-part}
use Rattle.outwriter.proofs.Leads.{at-rest, leads-dead, leads-frame, leads-none}
use Rattle.outwriter.proofs.Progresses.{sound-from}
use Rattle.outwriter.proofs.out_core.OutCore.next_frame.Goals as goal

pub returns-in-Ok-Some-clause-leads : goal.returns-in-Ok-Some-clause-leads
returns-in-Ok-Some-clause-leads g c =
    leads-frame g.L.Lane.got c.args.self.now c.choose.new.self c.if-self.false c.in-Ok-Some.frame
    (sound-from c.in-Ok-Some.field-0 c.in-Ok-Some.frame c.in-Ok-Some.frame c.in-Ok-Some.field-0-is
    refl c.in-Ok-Some.ensures.sound)
    (subst
    (λ (o : Option Frame). Progresses o c.args.self.now.sending.outbound c.choose.new.self.outbound)
    c.in-Ok-Some.field-0-is c.in-Ok-Some.ensures.frame)
    (subst (λ (o : Option Frame). HoldsOn g.L.Lane.got o c.args.self.now.sending c.choose.new.self)
    c.in-Ok-Some.field-0-is c.in-Ok-Some.ensures.served)

pub returns-in-Ok-Some-clause-sound : goal.returns-in-Ok-Some-clause-sound
returns-in-Ok-Some-clause-sound g c = λ frame is.
    sound-from c.in-Ok-Some.field-0 c.in-Ok-Some.frame frame c.in-Ok-Some.field-0-is is
    c.in-Ok-Some.ensures.sound

pub returns-in-Ok-None-clause-leads : goal.returns-in-Ok-None-clause-leads
returns-in-Ok-None-clause-leads g c =
    leads-none g.L.Lane.got c.args.self.now c.choose.new.self c.if-self.false c.in-Ok-None.field-0
    c.in-Ok-None.field-0-is c.in-Ok-None.ensures.frame c.in-Ok-None.ensures.served

pub returns-in-Ok-None-2-clause-leads : goal.returns-in-Ok-None-2-clause-leads
returns-in-Ok-None-2-clause-leads g c =
    leads-none g.L.Lane.got c.args.self.now c.choose.new.self c.if-self.false c.in-Ok-None.field-0
    c.in-Ok-None.field-0-is c.in-Ok-None.ensures.frame c.in-Ok-None.ensures.served

pub returns-in-Ok-None-clause-rests : goal.returns-in-Ok-None-clause-rests
returns-in-Ok-None-clause-rests g c = λ run l. (
  at-rest g.L.Lane.got c.args.self.now c.choose.new.self c.if-self.false
      (coming g.L.Lane.got g.L.Lane.ahead) c.in-Ok-None.field-0 c.in-Ok-None.field-0-is
      c.in-Ok-None.ensures.frame
      c.in-Ok-None.ensures.served c.in-Ok-None.ensures.spent c.in-Ok-None.ensures.quiet run l,
  l.closed ∙ c.if-self-2.true,
)

pub returns-in-Ok-None-2-clause-rests : goal.returns-in-Ok-None-2-clause-rests
returns-in-Ok-None-2-clause-rests g c = λ run l. (
  at-rest g.L.Lane.got c.args.self.now c.choose.new.self c.if-self.false
      (coming g.L.Lane.got g.L.Lane.ahead) c.in-Ok-None.field-0 c.in-Ok-None.field-0-is
      c.in-Ok-None.ensures.frame
      c.in-Ok-None.ensures.served c.in-Ok-None.ensures.spent c.in-Ok-None.ensures.quiet run l,
  l.closed ∙ c.if-self-2.false,
)

pub returns-in-Err-clause-leads : goal.returns-in-Err-clause-leads
returns-in-Err-clause-leads g c =
    leads-dead g.L.Lane.got c.args.self.now _ refl refl c.choose.ensures.gives.0
    (λ run l dead may last reason.
    let between = c.is_between-may_part.ensures may in
    may-part run _ _ _ _ _ _ last reason between.begun between.going between.no_block
    (l.keeps c.if-self.false).mirrors)
