use Rattle.pbwire.proofs.Varints.{either, same_varint, same_fault, not_both}
use Rattle.pbwire.proofs.laws.one_varint.Goals as goal

pub returns-clause-some : goal.returns-clause-some
returns-clause-some c = either

pub returns-clause-no_other : goal.returns-clause-no_other
returns-clause-no_other c = same_varint

pub returns-clause-no_other_fault : goal.returns-clause-no_other_fault
returns-clause-no_other_fault c = same_fault

pub returns-clause-not_both : goal.returns-clause-not_both
returns-clause-not_both c = not_both
