use Rattle.std.proofs.Common.{◌∙◌, arith}
use Rattle.clap.specs.Matches.{found_of}
use Rattle.clap.proofs.WalkLemmas.{one_text-rows}
use Rattle.words.proofs.NumberLemmas.{option_outside, option_unread, option_within}
use Rattle.words.proofs.options.number_of.Goals as goal

pub returns-in_err-number-clause-value : goal.returns-in_err-number-clause-value
returns-in_err-number-clause-value c =
    rw (← one_text-rows (found_of c.args.options.now) c.args.name.now)
    (c.from_residual.ensures ∙ option_unread 1 c.args.high _ c.in_err-number.ensures.value)

pub returns-then-number-high-clause-value : goal.returns-then-number-high-clause-value
returns-then-number-high-clause-value c =
    rw (← one_text-rows (found_of c.args.options.now) c.args.name.now)
    (option_within 1 c.args.high _ _ c.in_ok-number.ensures.none c.in_ok-number.ensures.value
    c.if-number-ge1.true c.if-number-high.true)

pub returns-else-number-ge1-clause-value : goal.returns-else-number-ge1-clause-value
returns-else-number-ge1-clause-value c =
    rw (← one_text-rows (found_of c.args.options.now) c.args.name.now)
    (option_outside 1 c.args.high c.in_ok-number.number _ c.in_ok-number.ensures.value
    (λ above below. omega arith))
