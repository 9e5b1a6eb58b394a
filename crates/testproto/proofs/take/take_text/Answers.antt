use Rattle.std.proofs.Common.{sym, ◌∙◌}
use Rattle.pbwire.specs.Fields.{field_of}
use Rattle.testproto.proofs.Joining.{byte_string-same, byte_string-last}
use Rattle.testproto.proofs.take.take_text.Goals as goal

pub returns-in_default-clause-value : goal.returns-in_default-clause-value
returns-in_default-clause-value c before had =
    had
    ∙ sym (byte_string-same c.args.number before (field_of c.args.item.now) c.in_default.ensures)

pub returns-in-Ok-clause-value : goal.returns-in-Ok-clause-value
returns-in-Ok-clause-value c before had =
    c.from_text.ensures ∙ c.in-Ok.ensures.cases.0
    ∙ sym (byte_string-last c.args.number before (field_of c.args.item.now) c.in-Some.content.now
    c.in-Some.ensures)
