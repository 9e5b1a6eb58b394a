use Rattle.std.proofs.Common.{subst, sym}
use Rattle.connbook.specs.declared.answers.AdmitFault.{AdmitFault}
use Rattle.connection.specs.Limits.{MayTurnAway}
use Rattle.connection.proofs.HeardActs.{with-behind}
use Rattle.connection.proofs.reader.Reader.turn_away_drained.Goals as goal

pub returns : goal.returns
returns g c = record {
  reads = λ head tally.
      with-behind _ _ _ _ _ _ _ _ _ _ c.drain.ensures.cuts
      (c.decline.ensures.reads head tally
      (subst (λ (fault : AdmitFault).
      MayTurnAway tally.calls c.drain.new.self.reading.is_draining fault)
      (sym c.requires.drained) c.drain.ensures.draining));
}
