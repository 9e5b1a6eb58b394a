use Rattle.std.proofs.Common.{List, ℕ, ◌++◌, length}
use Rattle.session.specs.declared.event.InEvent.{InEvent}
use Rattle.session.specs.CoreStates.{IsSound, ReadsTo}
use Rattle.session.proofs.in_core.read_waiting.Given as goal

abbrev pub invariant-loop-answer : goal.invariant-loop-answer
invariant-loop-answer l = record {
  sound : IsSound l.at l.context.halves;
  follows : (text : List ℕ) (before : List InEvent)
      → ReadsTo text (before ++ l.initial.events.items) l.initial.at l.initial.reader
      l.initial.context.halves l.initial.context.decoder
      → ReadsTo text (before ++ l.events.items) l.at l.reader l.context.halves l.context.decoder;
}

abbrev pub decreases-loop-answer : goal.decreases-loop-answer
decreases-loop-answer l = length l.reader
