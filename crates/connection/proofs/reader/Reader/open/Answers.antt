use Rattle.std.proofs.Common.{[], ◌∷◌, ap, refl}
use Rattle.handlers.specs.Listed.{listed}
use Rattle.session.specs.declared.event.InEvent.TheVariants as events
use Rattle.readerloop.specs.Readings.{refused_by, unless_ended}
use Rattle.readerloop.specs.Steps.{Told}
use Rattle.connection.proofs.Founded.{none-first, none-of, refused-founded}
use Rattle.connection.proofs.Tallies.{covers-more, ended-justified, refused-justified}
use Rattle.connection.proofs.HeardActs.{cuts-same, with-behind, with-one, with-open-for}
use Rattle.connection.proofs.Opens.{admits-none, plain-own}
use Rattle.connection.proofs.reader.Reader.open.Goals as goal

pub returns-in-Err : goal.returns-in-Err
returns-in-Err g c = record {
  reads =
      let draining = c.args.self.now.reading.is_draining in
      let fate = unless_ended c.in-Err.decided.ends (refused_by draining) in
      let step = Told (events.Open c.args.id c.args.head) fate in
      with-one _ _ (events.Open c.args.id c.args.head) fate _ _ _ _ _ _ _
      (λ sent told reads covers.
      ended-justified (events.Open c.args.id c.args.head) (refused_by draining) told
      c.in-Err.decided.ends tt (refused-justified c.args.id c.args.head told draining reads.drains))
      (λ told covers. covers-more _ (step ∷ []) told covers) c.act.ensures.ends c.open.ensures.home
      c.in-Err.ensures.refused
      (λ told is.
      plain-own told step c.in-Err.decided
      (admits-none c.args.id c.args.head draining c.in-Err.decided.ends) is) c.act.ensures.acts
      (refused-founded g.M.Answering.names c.args.self.now.orders.has_stopped c.args.id c.args.head
      draining c.in-Err.decided.ends
      (λ goes admits index named.
      none-first _ _ _ c.args.head.path _ index (ap (λ methods. listed methods) c.deref.ensures)
      c.as_slice.ensures
      (none-of _ c.find-index.ensures.none (c.in-Err.ensures.unnamed goes admits))
      (c.requires.methods.unnamed c.args.head.path index named)));
}

pub returns-in-Ok : goal.returns-in-Ok
returns-in-Ok g c = record {
  reads =
      with-behind _ _ _ _ _ _ _ _ _ _
      (cuts-same _ _ _ _ _ c.open.ensures.home c.in-Ok.ensures.stays (refl, refl, refl, refl, refl))
      (with-open-for _ _ c.in-Ok.request c.args.id c.args.head _ _ _ _ _ c.in-Ok.ensures.request.0
      c.in-Ok.ensures.request.1 c.admit.ensures.reads);
}
