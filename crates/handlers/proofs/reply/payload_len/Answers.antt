use Rattle.std.proofs.Common.{refl}
use Rattle.handlers.proofs.ReplyLengths.{body_len}
use Rattle.handlers.proofs.reply.payload_len.Goals as goal

pub returns : goal.returns
returns c = let body = body_len c.args.size in rw (c.body_head_len.ensures.len, body) refl
