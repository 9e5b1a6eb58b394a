use Rattle.std.proofs.Common.{sym, ◌∙◌}
use Rattle.handlers.proofs.judge.read.Goals as goal

-- bytes that had a value were not refused for anything but memory
pub returns-in-Wire : goal.returns-in-Wire
returns-in-Wire g c = λ message is.
    let wrong = sym c.in-Wire.is ∙ c.in-Err.ensures.every_value message is in
    cc

pub returns-in-NotUtf8 : goal.returns-in-NotUtf8
returns-in-NotUtf8 g c = λ message is.
    let wrong = sym c.in-NotUtf8.is ∙ c.in-Err.ensures.every_value message is in
    cc
