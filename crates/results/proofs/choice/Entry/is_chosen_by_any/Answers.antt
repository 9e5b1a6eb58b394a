use Rattle.std.proofs.Common.{rules, tests}
use Rattle.std.proofs.lemmas.Iterator.{cases_from_any, YieldsList-from_slice}
use Rattle.results.specs.Choices.{IsChosenBy}
use Rattle.results.proofs.ChoiceLemmas.{any_decides}
use Rattle.results.proofs.choice.Entry.is_chosen_by_any.Goals as goal

pub returns : goal.returns
returns c =
    any_decides (λ word. IsChosenBy c.args.self.now word.now) c.args.words.now c.any.result
    (cases_from_any _ _ _ (λ word. IsChosenBy c.args.self.now word.now)
    (λ word. IsChosenBy c.args.self.now word.now → ⊥) c.any.ensures.ran
    (YieldsList-from_slice c.args.words.now c.iter.ensures.rest) (λ x q k. search (rules, tests))
    (λ x q k. search (rules, tests)))
