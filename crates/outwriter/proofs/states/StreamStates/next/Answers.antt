use Rattle.std.proofs.Common.{arith, subst, []}
use Rattle.outwriter.specs.States.{States, Moves, SameEnds, SameOpen, TakesAll, states_of}
use Rattle.outwriter.proofs.StateLemmas.{within-taken}
use Rattle.outwriter.proofs.StateWindows.{
  takes_all,
  taken-ends,
  taken-moves,
  taken-numbered,
  taken-open,
}
use Rattle.outwriter.proofs.states.StreamStates.next.Goals as goal

pub invariant_of-self-2 : goal.invariant_of-self-2
invariant_of-self-2 c =
    within-taken c.self.inside.connection c.self.inside.streams.entries c.self.inside.owing
    c.take_last-owing.result.0 c.take_last-owing.result.1
    c.take_last-owing.new.streams.entries c.self.invariant c.take_last-owing.ensures.takes
    c.take_last-owing.ensures.owing c.take_last-owing.ensures.settled

pub returns-clause-takes : goal.returns-clause-takes
returns-clause-takes c =
    subst (λ (o : States).
    TakesAll o c.take_last-owing.result.1 (states_of c.self.inside.connection
    c.self.inside.window c.take_last-owing.new.streams.entries)) c.self.view_is
    (takes_all c.self.inside.streams.entries c.self.inside.owing c.take_last-owing.result.0
    c.take_last-owing.result.1 c.take_last-owing.new.streams.entries
    c.self.inside.connection c.self.inside.window (omega (arith, c.if-self-gt0.false))
    c.self.invariant c.take_last-owing.ensures.takes c.take_last-owing.ensures.settled)

pub returns-clause-numbered : goal.returns-clause-numbered
returns-clause-numbered c =
    taken-numbered c.self.inside.streams.entries c.take_last-owing.result.0
    c.take_last-owing.result.1 c.take_last-owing.new.streams.entries
    c.self.invariant.numbered c.take_last-owing.ensures.takes

pub returns-clause-ends : goal.returns-clause-ends
returns-clause-ends c =
    subst (λ (o : States).
    SameEnds o (states_of c.self.inside.connection c.self.inside.window
    c.take_last-owing.new.streams.entries)) c.self.view_is
    (taken-ends c.self.inside.streams.entries c.self.inside.owing c.take_last-owing.result.0
    c.take_last-owing.result.1 c.take_last-owing.new.streams.entries
    c.self.inside.connection c.self.inside.window c.self.invariant c.take_last-owing.ensures.takes)

pub returns-clause-open : goal.returns-clause-open
returns-clause-open c =
    subst (λ (o : States).
    SameOpen o (states_of c.self.inside.connection c.self.inside.window
    c.take_last-owing.new.streams.entries)) c.self.view_is
    (taken-open c.self.inside.streams.entries c.take_last-owing.result.0 c.take_last-owing.result.1
    c.take_last-owing.new.streams.entries c.self.inside.connection c.self.inside.window
    c.take_last-owing.ensures.takes)

pub returns-clause-windows : goal.returns-clause-windows
returns-clause-windows c =
    subst (λ (o : States).
    Moves o [] (states_of c.self.inside.connection c.self.inside.window
    c.take_last-owing.new.streams.entries)) c.self.view_is
    (taken-moves c.self.inside.streams.entries c.take_last-owing.result.0 c.take_last-owing.result.1
    c.take_last-owing.new.streams.entries c.self.inside.connection c.self.inside.window
    c.take_last-owing.ensures.takes)
