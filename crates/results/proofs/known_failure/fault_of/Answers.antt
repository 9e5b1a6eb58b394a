use Rattle.std.proofs.Common.{rules}
use Rattle.results.proofs.KnownLemmas.{found_name, lost_name, some_text}
use Rattle.results.proofs.known_failure.fault_of.Goals as goal

pub returns-then-is_some-clause-some : goal.returns-then-is_some-clause-some
returns-then-is_some-clause-some c =
    (some_text _ (search rules), found_name _ _ _ c.known_named.ensures (search rules))

pub returns-else-is_some-clause-none : goal.returns-else-is_some-clause-none
returns-else-is_some-clause-none c =
    (some_text _ (search rules), lost_name _ _ _ c.known_named.ensures (search rules))
