use Rattle.std.proofs.Common.{◌∙◌, ap, Some}
use Rattle.lpm.specs.declared.fault.LpmFault.{LpmFault}
use Rattle.commands.proofs.TellingLemmas.{cut_end, faulty_end, whole_end}
use Rattle.commands.proofs.body.MessagePrinter.fault_at_end.Goals as goal

pub returns-in-Some : goal.returns-in-Some
returns-in-Some c bytes told = faulty_end bytes told.0 c.in-Some.fault (rw c.in-Some.is at told.2)

pub returns-in-Ok : goal.returns-in-Ok
returns-in-Ok c bytes told =
    whole_end bytes told.0 c.args.self.now.splitter (rw c.in-None.is at told.2) c.in-Ok.ensures.ok

pub returns-in-Err : goal.returns-in-Err
returns-in-Err c bytes told =
    ap (λ (fault : LpmFault). Some fault) c.in-Err.ensures.fault
    ∙ cut_end bytes told.0 c.args.self.now.splitter (rw c.in-None.is at told.2) c.in-Err.ensures.cut
