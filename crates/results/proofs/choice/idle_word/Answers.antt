use Rattle.std.proofs.Common.{arith, rules, subst}
use Rattle.std.proofs.lemmas.List.{take_all}
use Rattle.std.proofs.lemmas.List.Elements.{All-more}
use Rattle.std.specs.Prelude.{Any}
use Rattle.results.specs.Choices.{AllChoose, IsChosenBy}
use Rattle.results.proofs.choice.idle_word.Goals as goal

pub loop-word-preserved : goal.loop-word-preserved
loop-word-preserved c =
    All-more (λ word. Any (λ entry. IsChosenBy entry word.now) c.args.entries.now) c.args.words.now
    c.loop-word.word-index _ (omega arith)
    c.loop-word.invariant (c.chooses_any.ensures.0 (search rules))

pub returns-clause-none : goal.returns-clause-none
returns-clause-none c =
    subst (AllChoose c.args.entries.now)
    (take_all c.loop-word.word-index c.args.words.now (omega arith)) c.loop-word.invariant
