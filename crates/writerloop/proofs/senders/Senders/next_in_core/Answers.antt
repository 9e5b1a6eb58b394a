use Rattle.std.proofs.Common.{rules}
use Rattle.writerloop.proofs.RestSteps.{aligned-last, hands-last, last-of, nothing-left}
use Rattle.writerloop.proofs.senders.Senders.next_in_core.Goals as goal

pub take_last-requires : goal.take_last-requires
take_last-requires g c = record {
  whose =
      last-of c.in-Some.last.0 c.in-Some.last.1 c.args.self.now.sends.calls.items
      c.args.self.now.core.items c.pop.new.self.items c.args.self.now.aligned
      c.in-Some.ensures.items;
}

pub invariant_of-self : goal.invariant_of-self
invariant_of-self g c = record {
  aligned =
      aligned-last c.in-Some.last.0 c.in-Some.last.1 c.args.self.now.sends.calls.items
      c.take_last.new.self.calls.items c.take_last.result c.args.self.now.core.items
      c.pop.new.self.items
      c.args.self.now.aligned c.in-Some.ensures.items c.take_last.ensures.takes;
}

pub returns-in-Some-clause-some : goal.returns-in-Some-clause-some
returns-in-Some-clause-some g c =
    hands-last c.in-Some.last.0 c.in-Some.last.1 c.take_last.result c.args.self.now _ c.requires
    c.requires c.in-Some.ensures.items c.take_last.ensures.takes

pub returns-in-None-clause-none : goal.returns-in-None-clause-none
returns-in-None-clause-none g c = nothing-left c.args.self.now c.requires (search rules)
