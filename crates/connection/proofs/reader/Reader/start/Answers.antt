use Rattle.std.proofs.Common.{◌∙◌, refl, true}
use Rattle.connection.proofs.Heard.{same-of}
use Rattle.connection.proofs.HeardActs.{
  collects-none,
  collects-seats,
  collects-then,
  next-seats,
  with-collected,
  with-stopped,
}
use Rattle.connection.proofs.reader.Reader.start.Goals as goal

pub looks-init : goal.looks-init
looks-init g c = (collects-none _ _ refl, λ id next. next, refl)

pub returns-then-self : goal.returns-then-self
returns-then-self g c =
    record { reads = λ tally. c.pass_over.ensures.reads c.args.request.head tally c.requires.named }

pub returns-in-Some-find_free : goal.returns-in-Some-find_free
returns-in-Some-find_free g c = record {
  reads = λ tally.
      with-collected _ _ _ _ _ _ _ _ _ _
      (collects-then _ _ _ c.looks.invariant.0 c.find_free.ensures.collects)
      (same-of _ _ (c.find_free.ensures.orders ∙ c.looks.invariant.2))
      (c.engage.ensures.reads tally);
}

pub returns-in-Err : goal.returns-in-Err
returns-in-Err g c = record {
  reads = λ tally. with-collected _ _ _ _ _ _ _ _ _ _
      (collects-then _ _ _ (collects-then _ _ _ c.looks.invariant.0 c.find_free.ensures.collects)
      (collects-seats _ _ c.hire.ensures.reading))
      (same-of _ _ (c.hire.ensures.orders ∙ (c.find_free.ensures.orders ∙ c.looks.invariant.2)))
      (c.lose.ensures.reads c.args.request.head tally c.requires.named);
}

pub returns-then-has_stopped : goal.returns-then-has_stopped
returns-then-has_stopped g c = record {
  reads = λ tally.
      with-collected _ _ _ _ _ _ _ _ _ _
      (collects-then _ _ _ c.looks.invariant.0 c.find_free.ensures.collects)
      (same-of _ _ (c.find_free.ensures.orders ∙ c.looks.invariant.2))
      (with-stopped _ _ _ _ _ _ c.find_free.new.self.orders
      (record c.find_free.new.self.orders { has_stopped = true }) _ refl refl refl refl refl
      (c.pass_over-then-has_stopped.ensures.reads c.args.request.head tally c.requires.named));
}

pub looks-preserved : goal.looks-preserved
looks-preserved g c = (
  collects-then _ _ _ (collects-then _ _ _ c.looks.invariant.0 c.find_free.ensures.collects)
      (collects-seats _ _ c.wait.ensures.reading),
  λ id next.
      next-seats c.find_free.new.self.reading _ c.wait.ensures.reading id
      (c.find_free.ensures.next id (c.looks.invariant.1 id next)),
  c.wait.ensures.orders ∙ (c.find_free.ensures.orders ∙ c.looks.invariant.2),
)

pub looks-preserved-in_default-hire : goal.looks-preserved-in_default-hire
looks-preserved-in_default-hire g c = (
  collects-then _ _ _ (collects-then _ _ _ c.looks.invariant.0 c.find_free.ensures.collects)
      (collects-seats _ _ c.hire.ensures.reading),
  λ id next.
      next-seats c.find_free.new.self.reading _ c.hire.ensures.reading id
      (c.find_free.ensures.next id (c.looks.invariant.1 id next)),
  c.hire.ensures.orders ∙ (c.find_free.ensures.orders ∙ c.looks.invariant.2),
)

pub engage-requires-clause-next : goal.engage-requires-clause-next
engage-requires-clause-next g c = λ κs within.
    c.find_free.ensures.next c.args.request.id
    (c.looks.invariant.1 c.args.request.id c.requires.next)

pub lose-requires-clause-next : goal.lose-requires-clause-next
lose-requires-clause-next g c = λ κs within.
    next-seats c.find_free.new.self.reading _ c.hire.ensures.reading c.args.request.id
    (c.find_free.ensures.next c.args.request.id
    (c.looks.invariant.1 c.args.request.id c.requires.next))

pub pass_over-requires-then-has_stopped-clause-next :
    goal.pass_over-requires-then-has_stopped-clause-next
pass_over-requires-then-has_stopped-clause-next g c = λ κs within.
    c.find_free.ensures.next c.args.request.id
    (c.looks.invariant.1 c.args.request.id c.requires.next)
