use Rattle.std.proofs.Common.{◌∙◌, ap, arith, refl}
use Rattle.writerloop.specs.Sent.{lane_of}
use Rattle.writerloop.proofs.RestSteps.{last-lane, none-there, some-last}
use Rattle.writerloop.proofs.sends.Sends.take_last.Goals as goal

pub unreachable-requires : goal.unreachable-requires
unreachable-requires g c =
    let some = some-last c.args.sender c.args.self.now.calls.items c.requires.whose in
    none-there c.pop.result c.in_default.is
    (c.pop.ensures.variant.1 (omega (arith, some, c.args.self.now.calls.ok.0)))

pub invariant_of-deref_mut : goal.invariant_of-deref_mut
invariant_of-deref_mut g c = record {
  out_lane =
      ap (λ sending. lane_of sending) c.deref_mut.ensures.value
      ∙ last-lane c.args.sender c.args.self.now.calls.items c.pop.new.self.items c.in-Some.call
      c.requires.whose c.in-Some.ensures.items;
}

pub returns-clause-takes : goal.returns-clause-takes
returns-clause-takes g c = record {
  call = c.in-Some.call;
  rest = c.in-Some.ensures.items;
  sender_is = refl;
  number_is = ap (λ sending. sending.number) c.deref_mut.ensures.value;
}
