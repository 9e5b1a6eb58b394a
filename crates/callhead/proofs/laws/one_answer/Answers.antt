use Rattle.callhead.proofs.OneHead.{head_one, head_fault_one, head_or_fault}
use Rattle.callhead.proofs.laws.one_answer.Goals as goal

pub returns-clause-head : goal.returns-clause-head
returns-clause-head c = head_one

pub returns-clause-fault : goal.returns-clause-fault
returns-clause-fault c = head_fault_one

pub returns-clause-never_both : goal.returns-clause-never_both
returns-clause-never_both c = λ fields call fault is first. head_or_fault fault fields call is first
