use Rattle.callhead.proofs.HeadLemmas.{echoes_some}
use Rattle.callhead.proofs.head.echoes_of.Goals as goal

pub returns-in-Some : goal.returns-in-Some
returns-in-Some c =
    rw c.into_vec.ensures
    (echoes_some c.args.text.now c.in-Some.values (rw c.in-Some.is at c.in_ok-values.ensures))
