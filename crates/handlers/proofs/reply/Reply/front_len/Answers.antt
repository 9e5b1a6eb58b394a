use Rattle.std.proofs.Common.{refl}
use Rattle.handlers.proofs.ReplyLengths.{front_len}
use Rattle.handlers.proofs.reply.Reply.front_len.Goals as goal

pub returns-in-Zeros-clause-len : goal.returns-in-Zeros-clause-len
returns-in-Zeros-clause-len c =
    let front = front_len c.in-Zeros.size in
    rw (
      c.varint_len.ensures.len,
      c.payload_len.ensures,
      c.body_head_len.ensures.len,
      c.in-Zeros.is,
      front,
    ) refl
