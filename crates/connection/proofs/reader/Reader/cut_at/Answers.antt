use Rattle.std.proofs.Common.{Option, None, Some, refl, true≢false}
use Rattle.std.specs.Prelude.{IsSomeAnd}
use Rattle.readerloop.specs.declared.decision.HalfToShut.{HalfToShut}
use Rattle.readerloop.specs.Readings.{DecidesOn}
use Rattle.readerloop.specs.Steps.{CutOff}
use Rattle.connection.proofs.HeardActs.{cuts-none, cuts-one}
use Rattle.connection.proofs.reader.Reader.cut_at.Goals as goal

some-of : {A : Type 0} (found : Option A) (P : A → Type 0) → IsSomeAnd found P → (x : A) × P x
some-of None P is = absurd is
some-of (Some x) P is = (x, is)

pub returns-in-Some : goal.returns-in-Some
returns-in-Some g c = record {
  cuts =
      let found = some-of c.in-Some.decided.to_shut
      (λ (cut : HalfToShut).
      DecidesOn g.M.Answering.known g.M.Answering.names (CutOff cut.id) c.in-Some.decided
      c.args.self.now.reading c.args.self.now.reading) c.in-Some.ensures.decides in
      cuts-one _ _ found.0.id _ _ _ _ _ (λ is. true≢false is) refl found.1 c.act.ensures.acts;
}

pub returns-in_default : goal.returns-in_default
returns-in_default g c = record { cuts = cuts-none _ _ _ }
