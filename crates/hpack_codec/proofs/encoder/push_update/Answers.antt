use Rattle.std.proofs.Common.{arith}
use Rattle.hpack_codec.proofs.Blocks.{update_none, update_one, resized_private}
use Rattle.hpack_codec.proofs.encoder.push_update.Goals as goal

pub returns-in_err-push_integer-clause-private : goal.returns-in_err-push_integer-clause-private
returns-in_err-push_integer-clause-private c =
    resized_private c.args.table.now c.resize.new.self c.args.least c.resize.ensures

pub returns-in_ok-push_integer-clause-text : goal.returns-in_ok-push_integer-clause-text
returns-in_ok-push_integer-clause-text c =
    rw c.resize.ensures (update_one c.args.table.now c.args.least _ _
    (omega (arith, c.requires.lower, c.requires.lawful)) c.in_ok-push_integer.ensures)

pub returns-in_ok-push_integer-clause-private : goal.returns-in_ok-push_integer-clause-private
returns-in_ok-push_integer-clause-private c =
    resized_private c.args.table.now c.resize.new.self c.args.least c.resize.ensures

pub returns-else-least-limit-clause-text : goal.returns-else-least-limit-clause-text
returns-else-least-limit-clause-text c = update_none c.args.table.now c.args.out.now.items
