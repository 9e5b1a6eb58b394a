use Rattle.std.proofs.Common.{arith}
use Rattle.lpm.proofs.Tails.{leaves_cut, leaves_whole, ended_not_cut, leaves_fault, fault_not_cut}
use Rattle.lpm.proofs.tail.Tail.end.Goals as goal

pub returns-in-Err-clause-ok : goal.returns-in-Err-clause-ok
returns-in-Err-clause-ok c = λ bytes leaves.
    let known = c.known.result.now in
    fault_not_cut bytes c.in-Err._fault (leaves_fault bytes known c.args.self.now c.in-Err._fault
    leaves c.known.ensures c.in-Err.ensures.means)

pub returns-then-self-total-clause-cut : goal.returns-then-self-total-clause-cut
returns-then-self-total-clause-cut c = λ bytes leaves.
    leaves_cut bytes c.known.result.now c.args.self.now c.in-Ok.total leaves c.known.ensures
    c.in-Ok.ensures.extent (omega arith) (omega arith)

pub returns-else-self-total-clause-ok : goal.returns-else-self-total-clause-ok
returns-else-self-total-clause-ok c = λ bytes leaves.
    ended_not_cut bytes (leaves_whole bytes c.known.result.now c.args.self.now c.in-Ok.total leaves
    c.known.ensures c.in-Ok.ensures.bytes c.in-Ok.ensures.extent (omega arith))
