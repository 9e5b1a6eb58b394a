use Rattle.connection.proofs.Causes.{streams-without-a-call}
use Rattle.connection.proofs.laws.streams_without_a_call.Goals as goal

pub returns : goal.returns
returns g c = λ stopped told put run are has obeys others id unknown.
    streams-without-a-call g.M.Answering.names stopped told put run are has obeys others id unknown
