use Rattle.connection.proofs.Codes.{order-codes, reset-codes}
use Rattle.connection.proofs.laws.reset_codes.Goals as goal

pub returns : goal.returns
returns c = record {
  written = λ came told put run accounts given entries history are framed.
      reset-codes history.end came told put run given entries accounts history.heard history.rising
      history.justified history.ended are framed history.left history.rows history.ordered
      history.obeyed history.lawful;
  taken = λ came told put run accounts given entries history are framed.
      order-codes history.end came told put run given entries accounts history.heard history.rising
      history.justified history.ended are framed history.left history.rows history.ordered
      history.obeyed;
}
