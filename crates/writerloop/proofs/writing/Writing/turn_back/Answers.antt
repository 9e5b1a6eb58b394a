use Rattle.std.proofs.Common.{ap, refl}
use Rattle.writerloop.specs.Sent.{numbers}
use Rattle.writerloop.proofs.WrittenFrames.{passes-open}
use Rattle.writerloop.proofs.writing.Writing.turn_back.Goals as goal

pub returns-in-Ok-clause-passes : goal.returns-in-Ok-clause-passes
returns-in-Ok-clause-passes g c = λ one.
    passes-open g.W.ConnWrite.contents g.W.ConnWrite.failed c.args.id c.args.opening c.args.self.now
    _ refl (ap (λ calls. numbers calls.items) c.turn_back.ensures.calls) refl c.in-Ok.ensures.home
