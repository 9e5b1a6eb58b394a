use Rattle.std.proofs.Common.{arith}
use Rattle.handlers.proofs.RepliesHeld.{nothing_held}
use Rattle.handlers.proofs.replies.Replies.new.Goals as goal

pub invariant_of-result : goal.invariant_of-result
invariant_of-result c = (omega arith, (nothing_held c.new.result.items c.new.ensures.items).0)

pub returns : goal.returns
returns c = (nothing_held c.new.result.items c.new.ensures.items).1
