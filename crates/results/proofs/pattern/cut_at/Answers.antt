use Rattle.results.proofs.PatternLemmas.{cut_found, cut_lost}
use Rattle.results.proofs.pattern.cut_at.Goals as goal

pub returns-clause-some : goal.returns-clause-some
returns-clause-some c =
    cut_found c.args.mark c.args.text.now _ c.split_once.ensures.cases c.requires

pub returns-clause-none : goal.returns-clause-none
returns-clause-none c = cut_lost c.args.mark c.args.text.now _ c.split_once.ensures.cases c.requires
