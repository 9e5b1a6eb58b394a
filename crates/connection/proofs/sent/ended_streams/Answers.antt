use Rattle.std.proofs.Common.{◌∙◌, append-nil, false, sym}
use Rattle.std.proofs.lemmas.List.{append_assoc}
use Rattle.std.specs.Prelude.{[], ◌∷◌, ◌++◌}
use Rattle.outwriter.specs.declared.control.WriterOrder.TheVariants.{Close, InputEnded}
use Rattle.readerloop.specs.Orders.{orders_by}
use Rattle.writerloop.proofs.OrderSteps.{obeys-lost}
use Rattle.connection.proofs.Whole.{call-ended}
use Rattle.connection.proofs.sent.ended_streams.Goals as goal

pub returns : goal.returns
returns g c = λ end came told put run given heard are is obeys lawful out account settled there.
    call-ended g.M.Answering.known g.M.Answering.names end came told put run given heard are
    (record {
      front = orders_by told ++ InputEnded ∷ [];
      begins = ([], append-nil (orders_by told ++ InputEnded ∷ []));
      closed = is ∙ sym (append_assoc (orders_by told) (InputEnded ∷ []) (Close ∷ []));
    })
    (obeys-lost false put run obeys) (InputEnded ∷ Close ∷ []) is obeys.0 lawful out account settled
    there
