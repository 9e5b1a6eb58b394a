use Rattle.std.proofs.Common.{Some, ap, ◌∙◌}
use Rattle.account.specs.declared.call.Shut.{Shut}
use Rattle.account.proofs.SerialLemmas.{telling-ended, telling-cut, nothing_left}
use Rattle.account.proofs.ending.told_behind.Goals as goal

pub returns-in-Ok : goal.returns-in-Ok
returns-in-Ok c =
    let ended = c.in-Some.is ∙ ap (λ (s : Shut). Some s) c.in-End.is in
    telling-ended c.args.splitter.now c.args.shut ended
    (nothing_left c.args.splitter.now c.requires c.in-Ok.ensures.ok)

pub returns-in-Err : goal.returns-in-Err
returns-in-Err c =
    let ended = c.in-Some.is ∙ ap (λ (s : Shut). Some s) c.in-End.is in
    telling-cut c.args.splitter.now c.args.shut c.in-Err.fault ended c.in-Err.ensures.cut
    c.in-Err.ensures.fault
