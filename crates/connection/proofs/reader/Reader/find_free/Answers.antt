use Rattle.connection.proofs.HeardActs.{collects-seats, collects-then, next-seats}
use Rattle.connection.proofs.reader.Reader.find_free.Goals as goal

pub returns-then-is_some-clause-collects : goal.returns-then-is_some-clause-collects
returns-then-is_some-clause-collects g c = collects-seats _ _ c.free-found.ensures.rest

pub returns-then-is_some-clause-next : goal.returns-then-is_some-clause-next
returns-then-is_some-clause-next g c =
    next-seats c.args.self.now.reading _ c.free-found.ensures.rest

pub returns-clause-collects : goal.returns-clause-collects
returns-clause-collects g c =
    collects-then _ _ _ (collects-seats _ _ c.free-found.ensures.rest)
    (collects-then _ _ _ c.settle_all.ensures.collects (collects-seats _ _ c.free.ensures.rest))

pub returns-clause-next : goal.returns-clause-next
returns-clause-next g c = λ id next.
    next-seats c.settle_all.new.self.reading _ c.free.ensures.rest id (c.settle_all.ensures.next id
    (next-seats c.args.self.now.reading _ c.free-found.ensures.rest id next))
