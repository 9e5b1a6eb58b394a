use Rattle.std.proofs.Common.{sym, ◌∙◌}
use Rattle.pbwire.specs.Fields.{field_of}
use Rattle.testproto.proofs.Joining.{boolean-same, boolean-last}
use Rattle.testproto.proofs.take.take_bool.Goals as goal

pub returns-in_default : goal.returns-in_default
returns-in_default c before had =
    had ∙ sym (boolean-same c.args.number before (field_of c.args.item.now) c.in_default.ensures)

pub returns-in-Some : goal.returns-in-Some
returns-in-Some c before had =
    sym (boolean-last c.args.number before (field_of c.args.item.now) c.in-Some.n c.in-Some.ensures)
