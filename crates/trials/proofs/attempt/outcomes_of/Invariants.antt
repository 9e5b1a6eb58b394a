use Rattle.std.proofs.Common.{◌≡◌, map, take}
use Rattle.trials.specs.Verdicts.{verdict_on}
use Rattle.trials.proofs.attempt.outcomes_of.Given as goal

abbrev pub invariant-loop-one : goal.invariant-loop-one
invariant-loop-one l =
    map (λ outcome. outcome.verdict) l.outcomes.items ≡ map verdict_on (take l.one-index l.ended)
