use Rattle.std.proofs.Common.{◌≡◌, ◌+◌, Option, subst}
use Rattle.std.specs.Prelude.{nat_eq, if◌then◌else◌}
use Rattle.connbook.specs.Words.{increment_in}
use Rattle.connbook.specs.declared.words.DueCredit.{DueCredit}
use Rattle.connection.proofs.outlet.grant_due_on.Goals as goal

pub returns-in-Some-clause-leads : goal.returns-in-Some-clause-leads
returns-in-Some-clause-leads g c =
    let had = c.args.announced.now.amount in
    let has = c.take_due_credit.new.mine.amount in
    c.grant.ensures.leads had has
    (rw (c.in-Some.ensures.whose)
    (subst (λ (due : Option DueCredit).
    has ≡ had + (if nat_eq c.args.id 0 then increment_in due else 0))
    c.in-Some.is c.take_due_credit.ensures.counted))
