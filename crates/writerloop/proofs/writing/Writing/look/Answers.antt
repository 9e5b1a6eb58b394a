use Rattle.std.proofs.Common.{refl}
use Rattle.writerloop.proofs.WrittenSteps.{same-aligned}
use Rattle.writerloop.proofs.WrittenInbox.{stays-with}
use Rattle.writerloop.proofs.writing.Writing.look.Goals as goal

pub returns-clause-rest : goal.returns-clause-rest
returns-clause-rest g c = same-aligned (record c.args.self.now { inbox = c.look.new.self }) _

pub returns-clause-stays : goal.returns-clause-stays
returns-clause-stays g c =
    stays-with g.W.ConnWrite.contents g.W.ConnWrite.failed c.args.self.now _
    c.look.ensures.keeps (record { input = refl; closed = refl; way = refl })
    (record { numbers = refl; way = refl }) refl refl
