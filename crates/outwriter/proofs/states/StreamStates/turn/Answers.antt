use Rattle.std.proofs.Common.{subst}
use Rattle.outwriter.specs.OpenStreams.{SameHands}
use Rattle.outwriter.specs.States.{StandAs, States, open_at, states_of}
use Rattle.outwriter.proofs.StateChanges.{edit-stands, edit-within}
use Rattle.outwriter.proofs.StateWindows.{edit-same}
use Rattle.outwriter.proofs.states.StreamStates.turn.Goals as goal

pub invariant_of-self : goal.invariant_of-self
invariant_of-self c =
    edit-within c.self.inside.connection c.self.inside.streams.entries c.self.inside.owing c.args.id
    c.turn_of.new.streams.entries c.turn_of.ensures.edits c.self.invariant

pub returns-clause-stands : goal.returns-clause-stands
returns-clause-stands c =
    subst (λ (o : States).
    StandAs o (states_of c.self.inside.connection c.self.inside.window
    c.turn_of.new.streams.entries)) c.self.view_is
    (edit-stands c.self.inside.connection c.self.inside.window c.self.inside.streams.entries
    c.args.id c.turn_of.new.streams.entries c.turn_of.ensures.edits)

pub returns-clause-hands : goal.returns-clause-hands
returns-clause-hands c =
    subst (λ (o : States).
    SameHands (open_at o) (open_at (states_of c.self.inside.connection c.self.inside.window
    c.turn_of.new.streams.entries))) c.self.view_is
    (edit-same c.self.inside.connection c.self.inside.window c.self.inside.streams.entries c.args.id
    c.turn_of.new.streams.entries c.turn_of.ensures.edits c.turn_of.ensures.hand)
