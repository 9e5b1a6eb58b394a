use Rattle.std.proofs.Common.{◌≡◌, ◌∙◌, ap, false, is_some, subst, sym}
use Rattle.outwriter.specs.States.{States, open_at, opened_of}
use Rattle.outwriter.proofs.StateLemmas.{found-open}
use Rattle.outwriter.proofs.states.StreamStates.is_open.Goals as goal

pub returns-in-Some : goal.returns-in-Some
returns-in-Some c =
    subst (λ (o : States). c.is_some.result ≡ is_some (open_at o c.args.id)) c.self.view_is
    (c.is_some.ensures
    ∙ ap is_some (sym (found-open c.self.inside.connection c.self.inside.window
    c.self.inside.streams.entries c.args.id
    ∙ ap opened_of (sym c.in-Some.ensures.value))))

pub returns-in-None : goal.returns-in-None
returns-in-None c = subst (λ (o : States). false ≡ is_some (open_at o c.args.id)) c.self.view_is
    (ap is_some (sym (found-open c.self.inside.connection c.self.inside.window
    c.self.inside.streams.entries c.args.id
    ∙ ap opened_of (sym c.in-None.ensures.value))))
