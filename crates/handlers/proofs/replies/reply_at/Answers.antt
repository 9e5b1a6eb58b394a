use Rattle.std.proofs.Common.{sym, ◌<◌, ◌-◌, arith}
use Rattle.std.proofs.lemmas.Int.{of_z-to_z}
use Rattle.std.specs.Int.{w32}
use Rattle.handlers.proofs.RepliesHeld.{zeros_at, sum_at, empty_at}
use Rattle.handlers.proofs.replies.reply_at.Goals as goal

pub returns-then-number-lt-SUMS : goal.returns-then-number-lt-SUMS
returns-then-number-lt-SUMS c = sym (zeros_at c.args.number c.if-number-lt-SUMS.true)

pub returns-then-number-lt-EMPTY : goal.returns-then-number-lt-EMPTY
returns-then-number-lt-EMPTY c =
    let low : c.args.number - 4294967296 < 4294967296 = omega arith in
    let sum = sum_at c.args.number (c.args.number - 4294967296) (omega arith) low in
    rw (c.cast_signed.ensures, of_z-to_z w32 (c.args.number - 4294967296) low) (sym sum)

pub returns : goal.returns
returns c = sym (empty_at c.args.number (omega arith))
