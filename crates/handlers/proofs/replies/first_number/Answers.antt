use Rattle.handlers.proofs.RepliesHeld.{is_first, is_none}
use Rattle.handlers.proofs.replies.first_number.Goals as goal

pub returns-in-Ok : goal.returns-in-Ok
returns-in-Ok c =
    is_first c.args.bytes.now c.in-Ok.found c.requires c.in-Ok.ensures.ok
    c.in-Ok.ensures.every_varint

pub returns-in-Err : goal.returns-in-Err
returns-in-Err c =
    is_none c.args.bytes.now c.in-Err.field-0 c.requires c.in-Err.ensures.every_varint
