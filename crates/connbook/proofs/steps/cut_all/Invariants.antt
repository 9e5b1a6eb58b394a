use Rattle.std.proofs.Common.{◌≡◌, length}
use Rattle.creditbook.specs.Books.{IsLawful}
use Rattle.connbook.specs.Receipts.{after_stop}
use Rattle.connbook.proofs.steps.cut_all.Given as goal

abbrev pub invariant-loop-id : goal.invariant-loop-id
invariant-loop-id l =
    record {
      law : IsLawful l.book;
      same : after_stop l.book ≡ after_stop l.initial.book;
    }

abbrev pub decreases-loop-id : goal.decreases-loop-id
decreases-loop-id l = length l.book.calls
