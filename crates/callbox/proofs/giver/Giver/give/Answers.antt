use Rattle.std.proofs.Common.{ap, ◌∙◌}
use Rattle.lpm.specs.Messages.{frame}
use Rattle.callbox.proofs.giver.Giver.give.Goals as goal

pub put_frame-requires-clause-frame : goal.put_frame-requires-clause-frame
put_frame-requires-clause-frame g c = λ κs outlive.
    (c.args.message, c.requires.len, c.from.ensures ∙ c.in-Ok.ensures ∙ ap frame c.as_slice.ensures)
