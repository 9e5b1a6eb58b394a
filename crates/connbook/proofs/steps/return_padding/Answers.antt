use Rattle.creditbook.specs.Books.{GiveBackCause}
use Rattle.connbook.proofs.StepLemmas.{done, returns_padding}
use Rattle.connbook.proofs.steps.return_padding.Goals as goal

pub returns-clause-value : goal.returns-clause-value
returns-clause-value c =
    done (GiveBackCause c.args.book.now c.args.id c.args.n) c.give_back.result
    (returns_padding c.args.book.now c.args.id c.args.n c.requires.law c.requires.live)
    c.give_back.ensures.fault c.give_back.ensures.ok
