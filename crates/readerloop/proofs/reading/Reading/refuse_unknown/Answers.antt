use Rattle.std.proofs.Common.{◌∷◌, ◌++◌, [], ap, refl, sym}
use Rattle.outwriter.specs.Steps.{Order}
use Rattle.session.specs.declared.event.InEvent.TheVariants as events
use Rattle.readerloop.specs.Orders.{begun, last_stream}
use Rattle.readerloop.specs.Steps.{Told, Unknown, is_draining}
use Rattle.readerloop.proofs.Heard.{idle-open}
use Rattle.readerloop.proofs.ReadingSteps.{begins-idle, lacks-as, plain-as}
use Rattle.readerloop.proofs.reading.Reading.refuse_unknown.Goals as goal

pub returns-in-Ok-clause-decides : goal.returns-in-Ok-clause-decides
returns-in-Ok-clause-decides g c = λ head.
    plain-as (events.Open c.args.id head) Unknown _ _ _ c.begin.ensures.ends (λ sent told reads.
    c.begin.ensures.decides sent told (Told (events.Open c.args.id head) Unknown)
    (begins-idle told _ c.args.id _ refl (idle-open c.args.id head Unknown refl) reads) refl
    (ap (λ (order : Order). last_stream c.args.id (is_draining told) (begun told) ++ order ∷ [])
    (sym c.in-Ok.ensures)))

pub returns-in-Err-clause-decides : goal.returns-in-Err-clause-decides
returns-in-Err-clause-decides g c = λ head.
    lacks-as (events.Open c.args.id head) Unknown _ _ _ _ c.lack.ensures.memory
    (c.lack.ensures.lacking head)
