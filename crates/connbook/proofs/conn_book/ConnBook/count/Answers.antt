use Rattle.std.proofs.Common.{◌∙◌, sym, arith}
use Rattle.connbook.proofs.StepLemmas.{past_call}
use Rattle.connbook.proofs.conn_book.ConnBook.count.Goals as goal

pub returns-then-ne-clause-over_call : goal.returns-then-ne-clause-over_call
returns-then-ne-clause-over_call g c = λ is.
    let past =
    past_call c.args.self.now.book c.args.id c.args.flow c.args.self.now.kept.law
    (sym c.judge-receipt.ensures ∙ is) in
    omega (
      arith,
      past,
      c.args.self.now.kept.came,
      c.audit.ensures.whole c.requires.whole,
      c.audit.ensures.amount,
      c.add.ensures.amount,
    )
