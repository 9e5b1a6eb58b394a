use Rattle.std.proofs.Common.{◌≡◌, ◌∙◌, ap, subst, sym}
use Rattle.sendwindows.specs.Windows.{room}
use Rattle.outwriter.specs.States.{States, balance_in, room_in}
use Rattle.outwriter.proofs.BalanceLemmas.{found-balance}
use Rattle.outwriter.proofs.states.StreamStates.room.Goals as goal

pub returns-in-Some : goal.returns-in-Some
returns-in-Some c = subst (λ (o : States). c.room.result ≡ room o.windows c.args.id) c.self.view_is
    (c.room.ensures
    ∙ ap (room_in c.self.inside.window) (sym
    (found-balance c.self.inside.window c.self.inside.streams.entries c.args.id
    ∙ ap balance_in (sym c.in-Some.ensures.value))))

pub returns-in-None : goal.returns-in-None
returns-in-None c = subst (λ (o : States). 0 ≡ room o.windows c.args.id) c.self.view_is
    (sym (ap (room_in c.self.inside.window)
    (found-balance c.self.inside.window c.self.inside.streams.entries c.args.id
    ∙ ap balance_in (sym c.in-None.ensures.value))))
