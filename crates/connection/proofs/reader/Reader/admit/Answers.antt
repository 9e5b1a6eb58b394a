use Rattle.std.proofs.Common.{sym}
use Rattle.connection.proofs.HeardActs.{with-tally}
use Rattle.connection.proofs.reader.Reader.admit.Goals as goal

pub returns-in-Ok : goal.returns-in-Ok
returns-in-Ok g c = record {
  reads = with-tally _ _ _ _ _ _ _ _ _ c.in-Ok.ensures.counted (c.start.ensures.reads _);
}

pub returns-in-Err : goal.returns-in-Err
returns-in-Err g c = record {
  reads =
      with-tally _ _ _ _ _ _ _ _ _ c.in-Err.ensures.uncounted
      (rw (sym c.in-Err.ensures.whose)
      (c.turn_away.ensures.reads c.args.request.head _ c.in-Err.ensures.justified));
}
