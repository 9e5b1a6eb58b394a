use Rattle.pbwire.proofs.VarintsWritten.{is_varint, shortest}
use Rattle.pbwire.proofs.laws.shortest_varint.Goals as goal

pub returns-clause-spelled : goal.returns-clause-spelled
returns-clause-spelled c = is_varint

pub returns-clause-shortest : goal.returns-clause-shortest
returns-clause-shortest c = shortest
