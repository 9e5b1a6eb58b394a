use Rattle.std.proofs.Common.{◌∙◌, arith}
use Rattle.clap.specs.Matches.{found_of}
use Rattle.clap.proofs.WalkLemmas.{one_text-rows}
use Rattle.words.proofs.NumberLemmas.{option_outside, option_unread, option_within}
use Rattle.words.proofs.options.amount_of.Goals as goal

pub returns-in_err-number : goal.returns-in_err-number
returns-in_err-number c =
    rw (← one_text-rows (found_of c.args.options.now) c.args.name.now)
    (c.from_residual.ensures ∙ option_unread 0 4000000 _ c.in_err-number.ensures.value)

pub returns-then-number-le-MAX_AMOUNT : goal.returns-then-number-le-MAX_AMOUNT
returns-then-number-le-MAX_AMOUNT c =
    rw (← one_text-rows (found_of c.args.options.now) c.args.name.now)
    (option_within 0 4000000 _ _ c.in_ok-number.ensures.none c.in_ok-number.ensures.value
    (omega arith) c.if-number-le-MAX_AMOUNT.true)

pub returns-else-number-le-MAX_AMOUNT : goal.returns-else-number-le-MAX_AMOUNT
returns-else-number-le-MAX_AMOUNT c =
    rw (← one_text-rows (found_of c.args.options.now) c.args.name.now)
    (option_outside 0 4000000 c.in_ok-number.number _ c.in_ok-number.ensures.value
    (λ above below. omega arith))
