use Rattle.connection.proofs.laws.history.Goals as goal

pub returns : goal.returns
returns g c = λ came rest before read_failed end calls device served. record {
  end = end;
  heard = served.heard;
  rising = served.rising;
  justified = served.justified;
  ended = served.ended;
  ordered = served.ordered;
  obeyed = served.written.some;
  lawful = served.written.lawful;
  rows = served.rows.streams;
  left = served.left;
}
