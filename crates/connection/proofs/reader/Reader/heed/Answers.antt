use Rattle.std.proofs.Common.{
  ◌≡◌,
  List,
  [],
  ◌∷◌,
  ◌++◌,
  ◌∙◌,
  Option,
  None,
  ap,
  append-nil,
  arith,
  length,
  subst,
  sym,
}
use Rattle.std.specs.Vec.Iter.{into_iter_steps}
use Rattle.session.specs.declared.event.InEvent.{InEvent}
use Rattle.connection.proofs.HeardActs.{with-end, with-events, with-none, with-stop, with-then}
use Rattle.connection.proofs.HeardBytes.{none-end, parts-more, some-end}
use Rattle.connection.proofs.reader.Reader.heed.Goals as goal

pub events-init : goal.events-init
events-init g c =
    let gives = c.into_iter-event-iterator.ensures.into_iter_gives in (
      with-none _ _ _,
      gives.0,
      omega (arith, gives.1, c.args.events.ok.0, ap (λ (es : List InEvent). length es) gives.0),
    )

pub returns-then-is_some : goal.returns-then-is_some
returns-then-is_some g c = record {
  reads =
      let step =
      subst (λ (o : Option InEvent). into_iter_steps c.events.event-iterator o c.next.new.self)
      c.in-Some.is c.next.ensures.steps in
      let ending = some-end c.follow-end.result (sym c.is_some.ensures ∙ c.if-is_some.true) in
      with-events _ _ _ _ _ _ _ _ _
      (parts-more c.events.yielded c.in-Some.event _ _ _ c.events.invariant.1 step.0)
      (with-stop _ _ _ _ ending.0 _ _ _ _ _ ending.1 (with-then _ _ _ c.events.yielded
      (c.in-Some.event ∷ []) _ _ _ _ _ _ _ c.events.invariant.0 c.follow-end.ensures.reads));
}

pub events-preserved : goal.events-preserved
events-preserved g c =
    let step =
    subst (λ (o : Option InEvent). into_iter_steps c.events.event-iterator o c.next.new.self)
    c.in-Some.is c.next.ensures.steps in
    let none = none-end c.follow-end.result (sym c.is_some.ensures ∙ c.if-is_some.false) in (
      with-then _ _ _ c.events.yielded (c.in-Some.event ∷ []) None _ _ _ _ _ _ c.events.invariant.0
          (with-end _ _ _ _ None _ _ _ _ none c.follow-end.ensures.reads),
      parts-more c.events.yielded c.in-Some.event _ _ _ c.events.invariant.1 step.0,
      omega (arith, step.1, c.events.invariant.2, ap (λ (es : List InEvent). length es) step.0),
    )

all-yielded : (yielded left all : List InEvent) → yielded ++ left ≡ all
    → length left ≡ 0 → yielded ≡ all
all-yielded yielded [] all parts none = sym (append-nil yielded) ∙ parts
all-yielded yielded (event ∷ left) all parts none = absurd cc

pub returns : goal.returns
returns g c = record {
  reads =
      let step =
      subst (λ (o : Option InEvent). into_iter_steps c.events.event-iterator o c.next.new.self)
      c.in-None.is c.next.ensures.steps in
      with-events _ _ _ _ _ _ _ _ _ (all-yielded _ _ _ c.events.invariant.1
      (omega (arith, step.0, c.events.invariant.2))) c.events.invariant.0;
}
