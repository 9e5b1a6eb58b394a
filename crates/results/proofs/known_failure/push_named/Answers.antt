use Rattle.results.proofs.KnownLemmas.{good_more}
use Rattle.results.proofs.known_failure.push_named.Goals as goal

pub returns-clause-good : goal.returns-clause-good
returns-clause-good c =
    good_more c.args.all.now.items c.push.new.self.items _ _ c.in_ok-known.ensures
    (rw c.as_slice.ensures.value at c.in_default-fault_of.ensures.none) c.in_ok-push.ensures.items
