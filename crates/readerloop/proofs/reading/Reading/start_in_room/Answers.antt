use Rattle.std.proofs.Common.{◌∷◌, refl, subst, sym}
use Rattle.callparts.specs.declared.work.Request.{Request}
use Rattle.session.specs.declared.event.InEvent.TheVariants as events
use Rattle.readerloop.specs.Calls.{carried_in}
use Rattle.readerloop.specs.Kept.{Kept}
use Rattle.readerloop.specs.Readings.{IsNext}
use Rattle.readerloop.specs.Steps.{Admitted, Told}
use Rattle.readerloop.proofs.Starting.{request-stands, same-rest}
use Rattle.readerloop.proofs.reading.Reading.start_in_room.Goals as goal

pub enter-requires-clause-named : goal.enter-requires-clause-named
enter-requires-clause-named g c =
    subst (λ (request : Request). g.M.Answering.names request.head.path request.index)
    (sym c.in_ok-ends.ensures.request) c.requires.named

pub enter-requires-clause-next : goal.enter-requires-clause-next
enter-requires-clause-next g c =
    subst (λ (request : Request). IsNext request.id c.args.self.now)
    (sym c.in_ok-ends.ensures.request) c.requires.next

pub returns-clause-heard : goal.returns-clause-heard
returns-clause-heard g c = λ sent told going kept.
    subst (λ (request : Request).
    Kept g.M.Answering.known g.M.Answering.names (carried_in sent)
    (Told (events.Open request.id request.head) Admitted ∷ told) c.enter.new.self.calls)
    c.in_ok-ends.ensures.request (c.enter.ensures.heard sent told going kept)

pub returns-clause-opens : goal.returns-clause-opens
returns-clause-opens g c = (
  refl,
  request-stands c.in_ok-ends.ends.sending.value.number.seen.log
      c.in_ok-ends.ends.sending.value.number.value _ _ c.in_ok-ends.ensures.stands
      c.in_ok-ends.ensures.request,
)

pub returns-clause-rest : goal.returns-clause-rest
returns-clause-rest g c =
    let rest = c.enter.ensures.rest in
    same-rest _ _ rest.draining rest.last rest.begun rest.goaway rest.home
