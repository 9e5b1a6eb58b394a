use Rattle.callhead.proofs.HeadLemmas.{has_path}
use Rattle.callhead.proofs.head.CallHead.read.Goals as goal

pub returns-in_default-clause-err : goal.returns-in_default-clause-err
returns-in_default-clause-err c =
    let none = c.in_default.ensures in
    absurd (has_path c.args.fields.now c.in_ok-timeout.ensures.ok.well_formed none)
