use Rattle.std.proofs.Common.{List, length}
use Rattle.outwriter.specs.RunState.{MirrorsOf, IsBetween}
use Rattle.outwriter.specs.CallState.{Rests}
use Rattle.outwriter.specs.Steps.{Step}
use Rattle.outwriter.proofs.outbound.Outbound.due_frame.Given as goal

abbrev pub invariant-loop-due : goal.invariant-loop-due
invariant-loop-due l = record {
  between : IsBetween l.self;
  mirrors : (run : List Step) → MirrorsOf run l.fn.self → MirrorsOf run l.self;
  rests : Rests l.fn.self l.self;
}

abbrev pub decreases-loop-due : goal.decreases-loop-due
decreases-loop-due l = length l.self.due.items
