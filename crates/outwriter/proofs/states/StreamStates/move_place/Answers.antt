use Rattle.std.proofs.Common.{subst}
use Rattle.outwriter.specs.OpenStreams.{PlaceIs, with_place}
use Rattle.outwriter.specs.States.{StandAs, States, open_at, states_of}
use Rattle.outwriter.proofs.StateChanges.{edit-stands, edit-within, edit-shows}
use Rattle.outwriter.proofs.states.StreamStates.move_place.Goals as goal

pub invariant_of-self : goal.invariant_of-self
invariant_of-self c =
    edit-within c.self.inside.connection c.self.inside.streams.entries c.self.inside.owing c.args.id
    c.move_place_of.new.streams.entries c.move_place_of.ensures.edits c.self.invariant

pub returns-clause-stands : goal.returns-clause-stands
returns-clause-stands c =
    subst (λ (o : States).
    StandAs o (states_of c.self.inside.connection c.self.inside.window
    c.move_place_of.new.streams.entries)) c.self.view_is
    (edit-stands c.self.inside.connection c.self.inside.window c.self.inside.streams.entries
    c.args.id c.move_place_of.new.streams.entries c.move_place_of.ensures.edits)

pub returns-clause-place : goal.returns-clause-place
returns-clause-place c =
    subst (λ (o : States).
    PlaceIs c.args.id c.args.from c.args.to (open_at o) (open_at (states_of
    c.self.inside.connection c.self.inside.window
    c.move_place_of.new.streams.entries))) c.self.view_is
    (edit-shows c.self.inside.connection c.self.inside.window c.self.inside.streams.entries
    c.args.id c.move_place_of.new.streams.entries (with_place c.args.from c.args.to)
    c.move_place_of.ensures.edits c.move_place_of.ensures.place)
