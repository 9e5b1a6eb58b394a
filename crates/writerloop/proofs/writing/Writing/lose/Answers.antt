use Rattle.std.proofs.Common.{true}
use Rattle.writerloop.proofs.WrittenSteps.{same-aligned}
use Rattle.writerloop.proofs.writing.Writing.lose.Goals as goal

pub returns-clause-rest : goal.returns-clause-rest
returns-clause-rest g c =
    same-aligned (record c.args.self.now
    { inbox = record c.args.self.now.inbox { has_lost = true } }) _
