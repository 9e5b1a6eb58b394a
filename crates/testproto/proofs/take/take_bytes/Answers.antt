use Rattle.std.proofs.Common.{sym, ◌∙◌}
use Rattle.pbwire.specs.Fields.{field_of}
use Rattle.testproto.proofs.Joining.{byte_string-same, byte_string-last}
use Rattle.testproto.proofs.take.take_bytes.Goals as goal

pub returns-in_default : goal.returns-in_default
returns-in_default c before had =
    had
    ∙ sym (byte_string-same c.args.number before (field_of c.args.item.now) c.in_default.ensures)

pub returns-in-Some : goal.returns-in-Some
returns-in-Some c before had =
    c.from_slice.ensures
    ∙ sym (byte_string-last c.args.number before (field_of c.args.item.now) c.in-Some.content.now
    c.in-Some.ensures)
