use Rattle.std.proofs.Common.{inl}
use Rattle.outwriter.proofs.release.move_last.Goals as goal

pub returns-in-Some-clause-moved : goal.returns-in-Some-clause-moved
returns-in-Some-clause-moved g c =
    inl (c.in-Some.call.now, c.in-Some.ensures.lookup.1, c.move_place.ensures.place)
