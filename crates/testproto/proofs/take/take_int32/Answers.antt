use Rattle.std.proofs.Common.{sym, ◌∙◌}
use Rattle.pbwire.specs.Fields.{field_of}
use Rattle.testproto.proofs.Joining.{int32-same, int32-last, int32-stored}
use Rattle.testproto.proofs.take.take_int32.Goals as goal

pub returns-in_default : goal.returns-in_default
returns-in_default c before had =
    had ∙ sym (int32-same c.args.number before (field_of c.args.item.now) c.in_default.ensures)

pub returns-in-Some : goal.returns-in-Some
returns-in-Some c before had =
    int32-stored c.in-Some.n c.cast_signed.result c.cast_signed.ensures
    ∙ sym (int32-last c.args.number before (field_of c.args.item.now) c.in-Some.n c.in-Some.ensures)
