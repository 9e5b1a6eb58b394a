use Rattle.std.proofs.Common.{rules}
use Rattle.results.proofs.PatternLemmas.{group_cut}
use Rattle.results.proofs.pattern.is_group.Goals as goal

pub returns-in-Some : goal.returns-in-Some
returns-in-Some c = group_cut _ _ _ _ _ c.in-Some.ensures.some (search rules)
