use Rattle.std.proofs.Common.{refl}
use Rattle.writerloop.proofs.CallSteps.{adds-pushed}
use Rattle.writerloop.proofs.sends.Sends.push_reserved.Goals as goal

pub returns-clause-adds : goal.returns-clause-adds
returns-clause-adds g c =
    adds-pushed c.args.id c.args.sending.value _ c.args.self.now.calls.items
    c.push_reserved.new.self.items refl refl c.push_reserved.ensures.items
