use Rattle.std.proofs.Common.{◌∙◌, refl}
use Rattle.connection.proofs.HeardActs.{collects-more, collects-stays, collects-then}
use Rattle.connection.proofs.reader.Reader.settle_all.Goals as goal

pub calls-init : goal.calls-init
calls-init g c = (
  collects-more _ _ c.collect.ensures.name c.collect.ensures.stays,
  c.collect.ensures.next,
  c.collect.ensures.draining,
  refl,
)

pub calls-preserved : goal.calls-preserved
calls-preserved g c = (
  collects-then _ _ _ c.calls.invariant.0
      (collects-stays _ _ c.settle_next.ensures.home c.settle_next.ensures.stays),
  λ id next. c.settle_next.ensures.next id (c.calls.invariant.1 id next),
  c.settle_next.ensures.draining ∙ c.calls.invariant.2,
  c.calls.invariant.3,
)

pub returns-in_default-clause-collects : goal.returns-in_default-clause-collects
returns-in_default-clause-collects g c =
    collects-then _ _ _ c.calls.invariant.0
    (collects-stays _ _ c.settle_next.ensures.home c.settle_next.ensures.stays)

pub returns-in_default-clause-next : goal.returns-in_default-clause-next
returns-in_default-clause-next g c = λ id next.
    c.settle_next.ensures.next id (c.calls.invariant.1 id next)

pub returns-in_default-clause-draining : goal.returns-in_default-clause-draining
returns-in_default-clause-draining g c = c.settle_next.ensures.draining ∙ c.calls.invariant.2
