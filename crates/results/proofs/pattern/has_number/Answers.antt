use Rattle.results.proofs.PatternLemmas.{range_cut, range_low}
use Rattle.results.proofs.pattern.has_number.Goals as goal

pub returns-then-is_at_most : goal.returns-then-is_at_most
returns-then-is_at_most c =
    range_cut _ _ _ _ _ c.in-Some.ensures.some (c.is_at_most.ensures.0 c.if-is_at_most.true)
    c.is_at_most-then-is_at_most.ensures.0 c.is_at_most-then-is_at_most.ensures.1

pub returns-else-is_at_most : goal.returns-else-is_at_most
returns-else-is_at_most c =
    range_low _ _ _ _ _ c.in-Some.ensures.some c.is_at_most.ensures.1 c.if-is_at_most.false
