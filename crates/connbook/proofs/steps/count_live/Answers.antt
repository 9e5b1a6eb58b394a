use Rattle.creditbook.specs.Books.{ReceiveCause}
use Rattle.connbook.proofs.StepLemmas.{done, receives}
use Rattle.connbook.proofs.steps.count_live.Goals as goal

pub returns-clause-value : goal.returns-clause-value
returns-clause-value c =
    done (ReceiveCause c.args.book.now c.args.id c.args.n) c.receive.result
    (receives c.args.book.now c.args.id c.args.n c.requires.law c.requires.live c.requires.fits
    c.requires.fits_call)
    c.receive.ensures.fault c.receive.ensures.ok
