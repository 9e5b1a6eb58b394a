use Rattle.std.proofs.Common.{rules}
use Rattle.results.proofs.PatternLemmas.{in_range_cut, in_range_other}
use Rattle.results.proofs.pattern.is_in_range.Goals as goal

pub returns-then-eq : goal.returns-then-eq
returns-then-eq c =
    in_range_cut _ _ _ _ _ _ c.eq.result _ c.in-Some-Some.ensures.some c.in-Some-Some.ensures'.some
    (search rules) c.if-eq.true
    c.has_number.ensures.0 c.has_number.ensures.1

pub returns-else-eq : goal.returns-else-eq
returns-else-eq c =
    in_range_other _ _ _ _ _ _ c.eq.result c.in-Some-Some.ensures.some c.in-Some-Some.ensures'.some
    (search rules) c.if-eq.false
