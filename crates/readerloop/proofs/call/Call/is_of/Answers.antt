use Rattle.readerloop.proofs.AwaitedSteps.{same_test}
use Rattle.readerloop.proofs.call.Call.is_of.Goals as goal

pub returns : goal.returns
returns g c =
    same_test c.is.result c.args.self.now.number.value c.args.number.now.value c.is.ensures.value
    c.is.ensures.equal
