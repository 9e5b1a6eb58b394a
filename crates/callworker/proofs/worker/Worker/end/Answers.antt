use Rattle.lane.specs.End.{of_end}
use Rattle.lane.specs.RingLane.{put_in, put_shut}
use Rattle.callworker.proofs.Turns.{same_ends}
use Rattle.callworker.proofs.worker.Worker.end.Goals as goal

pub returns-clause-given : goal.returns-clause-given
returns-clause-given g c =
    same_ends c.args.run c.credit-credit.new.self
    (of_end (λ giver. put_in giver.tx) (λ s. put_shut s.shut) c.into_ends-taker.result.1) _ _
    c.credit-credit.ensures.none c.credit-credit.ensures.same c.shut_of-given.ensures.given
    c.into_ends-taker.ensures.outcome
