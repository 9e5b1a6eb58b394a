use Rattle.connection.proofs.StreamEnds.{answered}
use Rattle.connection.proofs.sent.answered_calls.Goals as goal

pub returns : goal.returns
returns g c = λ end told run account settled ended flows.
    answered run account.id settled.whole.sent account.output.trailers_sent
    settled.stands.out_side.trailers_sent ended flows
