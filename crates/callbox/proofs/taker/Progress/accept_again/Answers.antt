use Rattle.std.proofs.Common.{rules}
use Rattle.callbox.proofs.TakerLemmas.{took_again, took_same}
use Rattle.callbox.proofs.taker.Progress.accept_again.Goals as goal

pub returns-then-is_ok-clause-took : goal.returns-then-is_ok-clause-took
returns-then-is_ok-clause-took c = λ items item messages t last is.
    took_again items item c.in-Bytes.bytes c.args.self.now _ messages t last (search rules)
    c.requires.unread c.requires.untold (search rules) (search rules) (search rules)
    (search rules) (search rules)

pub returns-else-is_ok-clause-took : goal.returns-else-is_ok-clause-took
returns-else-is_ok-clause-took c = λ items item messages t last is.
    took_same items c.args.self.now _ messages t (search rules) (search rules) (search rules)
    (search rules) (search rules)
