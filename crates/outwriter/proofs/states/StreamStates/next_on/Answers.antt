use Rattle.std.proofs.Common.{subst}
use Rattle.std.specs.Prelude.{IfOk}
use Rattle.std.proofs.lemmas.Result.{IfOk-weaker}
use Rattle.outwriter.specs.NextOn.{TakesNext}
use Rattle.outwriter.specs.Polls.{coming}
use Rattle.outwriter.specs.States.{States, states_of}
use Rattle.outwriter.proofs.StateChanges.{keeps-within}
use Rattle.outwriter.proofs.StateWindows.{next-view}
use Rattle.outwriter.proofs.states.StreamStates.next_on.Goals as goal

pub invariant_of-self : goal.invariant_of-self
invariant_of-self g c =
    keeps-within c.self.inside.connection c.self.inside.streams.entries c.self.inside.owing
    c.args.id c.next_at.new.streams.entries
    c.next_at.ensures.amount c.self.invariant

pub returns-clause-next : goal.returns-clause-next
returns-clause-next g c =
    subst (λ (o : States).
    IfOk c.next_at.result (TakesNext g.L.Lane.got (coming g.L.Lane.got g.L.Lane.ahead) c.args.id o
    (states_of c.self.inside.connection c.next_at.new.window c.next_at.new.streams.entries)
    c.args.senders.now.items c.next_at.new.senders.items c.args.encoder.now
    c.next_at.new.encoder)) c.self.view_is
    (IfOk-weaker c.next_at.result _ _ (λ found next.
    next-view g.L.Lane.got (coming g.L.Lane.got g.L.Lane.ahead) c.self.inside.connection
    c.self.inside.window c.self.inside.streams.entries c.self.inside.owing c.args.id
    c.next_at.new.streams.entries c.next_at.new.window c.args.senders.now.items
    c.next_at.new.senders.items c.args.encoder.now c.next_at.new.encoder found c.self.invariant
    next) c.next_at.ensures.next)
