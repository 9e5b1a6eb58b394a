use Rattle.std.proofs.Common.{◌≡◌, ◌++◌, drop}
use Rattle.commands.specs.Drain.{goaway_lines}
use Rattle.commands.proofs.drain.goaway_lines.Given as goal

abbrev pub invariant-loop-goaway : goal.invariant-loop-goaway
invariant-loop-goaway l =
    l.text.items ++ goaway_lines (drop l.goaway-index l.goaways) ≡ goaway_lines l.goaways
