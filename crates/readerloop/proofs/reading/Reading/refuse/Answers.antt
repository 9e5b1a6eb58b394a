use Rattle.std.proofs.Common.{◌∷◌, ◌++◌, [], ap, refl, sym}
use Rattle.outwriter.specs.Steps.{Order}
use Rattle.session.specs.declared.event.InEvent.TheVariants as events
use Rattle.readerloop.specs.Orders.{begun, last_stream}
use Rattle.readerloop.specs.Steps.{Lacking, Plain, Told, is_draining}
use Rattle.readerloop.proofs.Heard.{idle-head}
use Rattle.readerloop.proofs.ReadingSteps.{begins-idle, lacks-as, plain-as}
use Rattle.readerloop.proofs.reading.Reading.refuse.Goals as goal

pub returns-in-Ok-clause-decides : goal.returns-in-Ok-clause-decides
returns-in-Ok-clause-decides g c =
    plain-as (events.BadHead c.args.id c.args.fault) Plain _ _ _ c.begin.ensures.ends
    (λ sent told reads.
    c.begin.ensures.decides sent told (Told (events.BadHead c.args.id c.args.fault) Plain)
    (begins-idle told _ c.args.id _ refl (idle-head c.args.id c.args.fault Plain) reads) refl
    (ap (λ (order : Order). last_stream c.args.id (is_draining told) (begun told) ++ order ∷ [])
    (sym c.in-Ok.ensures)))

pub returns-in-Err-clause-decides : goal.returns-in-Err-clause-decides
returns-in-Err-clause-decides g c =
    lacks-as (events.BadHead c.args.id c.args.fault) Plain _ _ _ _ c.end_at.ensures.end
    (λ sent told reads.
    c.end_at.ensures.ends sent told
    (Told (events.BadHead c.args.id c.args.fault) Lacking) (begins-idle told _ c.args.id
    _ refl (idle-head c.args.id c.args.fault Lacking) reads) refl refl)
