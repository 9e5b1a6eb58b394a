use Rattle.std.proofs.Common.{◌≡◌, ◌∙◌, rules, sym, true, false}
use Rattle.results.proofs.PatternLemmas.{glob_later}
use Rattle.results.proofs.pattern.+is_glob.Goals as goal

pub returns-in-Some-split_first-2 : goal.returns-in-Some-split_first-2
returns-in-Some-split_first-2 t c =
    glob_later c.args.word.now c.in-Some.rest.now c.args.text.now c.in-Some-split_first-2.behind.now
    c.in-Some.byte.now c.in-Some-split_first-2.field-0-0.now _
    (search rules) (search rules) (search rules)
    (λ glob. let bad : true ≡ false = sym (c.is_glob-2.ensures.1 glob) ∙ c.if-is_glob.false in cc)
    c.is_glob-in-Some-split_first-2.ensures.0 c.is_glob-in-Some-split_first-2.ensures.1
