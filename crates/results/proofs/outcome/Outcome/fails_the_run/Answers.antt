use Rattle.std.proofs.Common.{rules}
use Rattle.results.specs.Standings.{fails_the_run}
use Rattle.results.proofs.outcome.Outcome.fails_the_run.Goals as goal

pub returns-in-AsFound : goal.returns-in-AsFound
unfolding fails_the_run
returns-in-AsFound c = search rules

pub returns-in-Known : goal.returns-in-Known
unfolding fails_the_run
returns-in-Known c = search rules

pub returns-in-Mended : goal.returns-in-Mended
unfolding fails_the_run
returns-in-Mended c = search rules
