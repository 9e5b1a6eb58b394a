use Rattle.std.proofs.Common.{ℕ, Option, ap, refl, subst}
use Rattle.std.specs.Prelude.{IfNone}
use Rattle.writerloop.specs.Sent.{HasNone}
use Rattle.writerloop.proofs.CallSteps.{missing-first}
use Rattle.writerloop.proofs.sends.Sends.take.Goals as goal

pub unreachable-requires : goal.unreachable-requires
unreachable-requires g c =
    missing-first c.args.id c.args.sender c.args.self.now.calls.items c.requires.whose
    (subst (λ (place : Option ℕ). IfNone place (HasNone c.args.id c.args.self.now.calls.items))
    c.in_default.is c.place_of.ensures.none)

pub returns-clause-home : goal.returns-clause-home
returns-clause-home g c = record {
  place = c.in-Some.place;
  call = c.swap_remove-sending.result;
  at = c.in-Some.ensures.some;
  below = c.in-Some.ensures.first;
  is = c.swap_remove-sending.ensures.value;
  rest = c.swap_remove-sending.ensures.items;
  returning = _;
  sender_is = refl;
  number_is = ap (λ sending. sending.number) c.deref_mut.ensures.value;
  put = refl;
}
