use Rattle.std.proofs.Common.{List, ℕ, arith, rules, subst, sym}
use Rattle.capture.specs.Format.{Carries}
use Rattle.capture.proofs.Records.{not_carried}
use Rattle.capture.proofs.reading.parts_of.Goals as goal

pub returns-in-None-clause-none : goal.returns-in-None-clause-none
returns-in-None-clause-none c = not_carried c.args.text.now (λ head payload has.
    c.in-None.ensures.none head payload
    (subst (λ (b : List ℕ). Carries b head payload) (sym c.split_at.ensures.back) has))

pub returns-in-Some-clause-some : goal.returns-in-Some-clause-some
returns-in-Some-clause-some c = record {
  size = omega arith;
  seconds = search rules;
  micros = search rules;
  kept = omega arith;
  whole = omega arith;
  carries =
      subst (λ (b : List ℕ). Carries b c.in-Some.head c.in-Some.payload.now) c.split_at.ensures.back
      c.in-Some.ensures.some;
}
