use Rattle.std.proofs.Common.{◌∙◌}
use Rattle.readerloop.proofs.Starting.{fresh-work, given-lane, same-request, taken-lane}
use Rattle.readerloop.proofs.reading.streams.open_lanes.Goals as goal

pub ends_of-requires-clause-one_lane : goal.ends_of-requires-clause-one_lane
ends_of-requires-clause-one_lane g c =
    given-lane c.in-Some.job.work _ _ c.in-Some.ensures c.in_ok-feeder.ensures.one_out

pub ends_of-requires-clause-ungot : goal.ends_of-requires-clause-ungot
ends_of-requires-clause-ungot g c = c.in_ok-feeder.ensures.ungiven.1

pub returns-clause-request : goal.returns-clause-request
returns-clause-request g c =
    same-request c.in_ok-ends.ends.job.work _ (c.in_ok-ends.ensures.work ∙ c.in-Some.ensures)

pub returns-clause-fresh : goal.returns-clause-fresh
returns-clause-fresh g c =
    let opened = c.in_ok-feeder.ensures in
    fresh-work c.in_ok-ends.ends.job.work _ (c.in_ok-ends.ensures.work ∙ c.in-Some.ensures)
    opened.unfed.1 opened.took opened.told opened.ungiven.0

pub returns-clause-one_lane : goal.returns-clause-one_lane
returns-clause-one_lane g c =
    c.in_ok-ends.ensures.lane
    ∙ taken-lane c.in_ok-ends.ends.job.work _ _ (c.in_ok-ends.ensures.work ∙ c.in-Some.ensures)
    c.in_ok-feeder.ensures.one_in

pub returns-clause-unfed : goal.returns-clause-unfed
returns-clause-unfed g c = c.in_ok-ends.ensures.fed ∙ c.in_ok-feeder.ensures.unfed.0

pub returns-clause-stands : goal.returns-clause-stands
returns-clause-stands g c = c.in_ok-ends.ensures.stands

pub returns-clause-ungot : goal.returns-clause-ungot
returns-clause-ungot g c = c.in_ok-ends.ensures.ungot
