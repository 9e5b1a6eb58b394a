use Rattle.std.proofs.Common.{subst}
use Rattle.outwriter.specs.OpenStreams.{Closes}
use Rattle.outwriter.specs.States.{StandAs, States, open_at, states_of}
use Rattle.outwriter.proofs.StateChanges.{edit-stands, edit-within, edit-closes}
use Rattle.outwriter.proofs.states.StreamStates.close.Goals as goal

pub invariant_of-self : goal.invariant_of-self
invariant_of-self c =
    edit-within c.self.inside.connection c.self.inside.streams.entries c.self.inside.owing c.args.id
    c.close_of.new.streams.entries c.close_of.ensures.edits c.self.invariant

pub returns-clause-stands : goal.returns-clause-stands
returns-clause-stands c =
    subst (λ (o : States).
    StandAs o (states_of c.self.inside.connection c.self.inside.window
    c.close_of.new.streams.entries)) c.self.view_is
    (edit-stands c.self.inside.connection c.self.inside.window c.self.inside.streams.entries
    c.args.id c.close_of.new.streams.entries c.close_of.ensures.edits)

pub returns-clause-closes : goal.returns-clause-closes
returns-clause-closes c =
    subst (λ (o : States).
    Closes c.args.id (open_at o) (open_at (states_of c.self.inside.connection
    c.self.inside.window c.close_of.new.streams.entries))) c.self.view_is
    (edit-closes c.self.inside.connection c.self.inside.window c.self.inside.streams.entries
    c.args.id c.close_of.new.streams.entries c.close_of.ensures.edits c.close_of.ensures.closed)
