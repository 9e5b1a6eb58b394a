use Rattle.std.proofs.Common.{◌≡◌, ◌≢◌, rules, tests}
use Rattle.std.proofs.lemmas.Iterator.{first_from_find, YieldsList-from_slice}
use Rattle.cases.specs.Names.{name_of}
use Rattle.cases.specs.Report.{known_cases}
use Rattle.cases.proofs.NameLemmas.{none_named}
use Rattle.cases.proofs.case.Case.named.Goals as goal

pub returns-clause-none : goal.returns-clause-none
returns-clause-none c =
    none_named c.args.name.now _ c.copied.result c.copied.ensures
    (first_from_find _ _ _ (λ case. name_of case ≡ c.args.name.now)
    (λ case. name_of case ≢ c.args.name.now) c.find.ensures.ran
    (YieldsList-from_slice known_cases cc) (λ x q k. search (rules, tests))
    (λ x q k. search (rules, tests)))
