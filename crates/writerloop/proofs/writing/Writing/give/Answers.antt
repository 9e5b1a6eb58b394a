use Rattle.std.proofs.Common.{◌∙◌, ap, sym}
use Rattle.writerloop.specs.Sent.{core_keys}
use Rattle.writerloop.proofs.WrittenSteps.{brings-plain, unused-plain}
use Rattle.writerloop.proofs.writing.Writing.give.Goals as goal

pub invariant_of-self : goal.invariant_of-self
invariant_of-self g c = record {
  aligned =
      c.args.self.now.aligned
      ∙ sym (ap (λ core. core_keys core)
      (brings-plain c.take.result c.args.order _ _ c.requires.plain c.take.ensures.brings));
}

pub returns-clause-wrote : goal.returns-clause-wrote
returns-clause-wrote g c = c.take.ensures.wrote (unused-plain c.args.order c.requires.plain)

pub returns-clause-core : goal.returns-clause-core
returns-clause-core g c =
    brings-plain c.take.result c.args.order _ _ c.requires.plain c.take.ensures.brings
