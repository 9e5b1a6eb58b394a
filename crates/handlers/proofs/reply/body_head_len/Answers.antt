use Rattle.std.proofs.Common.{refl}
use Rattle.handlers.proofs.ReplyLengths.{body_head_len}
use Rattle.handlers.proofs.reply.body_head_len.Goals as goal

pub returns-clause-len : goal.returns-clause-len
returns-clause-len c =
    let head = body_head_len c.args.size c.if-size-eq0.false in
    rw (c.varint_len.ensures.len, c.from.ensures, head) refl
