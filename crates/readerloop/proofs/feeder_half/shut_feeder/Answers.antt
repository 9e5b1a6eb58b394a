use Rattle.std.proofs.Common.{true}
use Rattle.account.specs.declared.call.Shut.TheVariants as shut
use Rattle.lane.specs.RingLane.{put_in, put_shut}
use Rattle.readerloop.proofs.HalfLemmas.{pieces_of-shut}
use Rattle.readerloop.proofs.feeder_half.shut_feeder.Goals as goal

pub returns-in-End-clause-fed : goal.returns-in-End-clause-fed
returns-in-End-clause-fed c =
    pieces_of-shut true shut.End (put_shut c.end.result.shut)
    (put_in c.args.feeder.tx) c.end.ensures.put

pub returns-in-Reset-clause-fed : goal.returns-in-Reset-clause-fed
returns-in-Reset-clause-fed c =
    pieces_of-shut true (shut.Reset c.in-Reset.code) (put_shut c.reset.result.shut)
    (put_in c.args.feeder.tx) c.reset.ensures.put
