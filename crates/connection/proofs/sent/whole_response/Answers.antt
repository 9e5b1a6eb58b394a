use Rattle.connection.proofs.Whole.{whole-response}
use Rattle.connection.proofs.sent.whole_response.Goals as goal

pub returns : goal.returns
returns g c = λ end came told put run given heard are has obeys others account settled.
    whole-response g.M.Answering.known g.M.Answering.names end came told put run given heard are has
    obeys others account settled
