use Rattle.std.proofs.Common.{subst, [], ◌∷◌}
use Rattle.sendwindows.specs.WindowHistory.{Closing}
use Rattle.outwriter.specs.States.{Moves, SameButWindows, States, states_of}
use Rattle.outwriter.proofs.StateWindows.{closed-moves, closed-stands, closed-within}
use Rattle.outwriter.proofs.states.StreamStates.close_window.Goals as goal

pub invariant_of-self : goal.invariant_of-self
invariant_of-self c =
    closed-within c.self.inside.connection c.self.inside.window c.self.inside.streams.entries
    c.self.inside.owing c.args.id c.close_window_of.new.streams.entries
    c.close_window_of.ensures c.self.invariant

pub returns-clause-rest : goal.returns-clause-rest
returns-clause-rest c =
    subst (λ (o : States).
    SameButWindows o (states_of c.self.inside.connection c.self.inside.window
    c.close_window_of.new.streams.entries)) c.self.view_is
    (closed-stands c.self.inside.connection c.self.inside.window c.self.inside.streams.entries
    c.self.inside.owing c.args.id c.close_window_of.new.streams.entries c.close_window_of.ensures)

pub returns-clause-windows : goal.returns-clause-windows
returns-clause-windows c =
    subst (λ (o : States).
    Moves o (Closing c.args.id ∷ []) (states_of c.self.inside.connection c.self.inside.window
    c.close_window_of.new.streams.entries)) c.self.view_is
    (closed-moves c.self.inside.connection c.self.inside.window c.self.inside.streams.entries
    c.self.inside.owing c.args.id c.close_window_of.new.streams.entries c.close_window_of.ensures)
