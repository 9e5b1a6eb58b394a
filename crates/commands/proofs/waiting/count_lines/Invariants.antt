use Rattle.std.proofs.Common.{◌≡◌, ◌+◌, drop}
use Rattle.commands.specs.Lines.{lines_of}
use Rattle.commands.proofs.waiting.count_lines.Given as goal

abbrev pub invariant-loop-batch : goal.invariant-loop-batch
invariant-loop-batch l = l.count + lines_of (drop l.batch-index l.batches) ≡ lines_of l.batches
