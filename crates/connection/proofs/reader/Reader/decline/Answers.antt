use Rattle.std.proofs.Common.{Bool, [], ◌∷◌, length, refl, subst}
use Rattle.session.specs.declared.event.InEvent.TheVariants as events
use Rattle.readerloop.specs.Steps.{Told, TurnedAway, is_draining, reported}
use Rattle.connection.specs.Limits.{MayTurnAway}
use Rattle.connection.proofs.HeardActs.{with-one}
use Rattle.connection.proofs.Opens.{plain-own}
use Rattle.connection.proofs.Tallies.{covers-more, may-turn}
use Rattle.connection.proofs.reader.Reader.decline.Goals as goal

pub returns : goal.returns
returns g c = record {
  reads = λ head tally may.
      let step = Told (events.Open c.args.refused.now.id head) (TurnedAway c.args.refused.now.fault) in
      with-one tally tally (events.Open c.args.refused.now.id head) (TurnedAway c.args.refused.now.fault) _ _ _ _ _ _ _
      (λ sent told reads covers.
      may-turn c.args.refused.now.fault tally.calls (length (reported told)) (is_draining told)
      (subst (λ (b : Bool). MayTurnAway tally.calls b c.args.refused.now.fault) reads.drains may) covers.calls)
      (λ told covers. covers-more tally (step ∷ []) told covers)
      c.act.ensures.ends c.turn_away-decided.ensures.home (c.turn_away-decided.ensures.decides head)
      (λ told is. plain-own told step c.turn_away-decided.result refl is) c.act.ensures.acts tt;
}
