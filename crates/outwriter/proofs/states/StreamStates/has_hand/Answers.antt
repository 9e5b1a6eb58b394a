use Rattle.std.proofs.Common.{◌≡◌, ◌∙◌, ap, false, subst, sym}
use Rattle.outwriter.specs.OpenStreams.{has_hand}
use Rattle.outwriter.specs.States.{States, open_at, opened_of}
use Rattle.outwriter.proofs.StateLemmas.{found-open}
use Rattle.outwriter.proofs.states.StreamStates.has_hand.Goals as goal

pub returns-in-Some-opened : goal.returns-in-Some-opened
returns-in-Some-opened c =
    subst (λ (o : States). c.has_hand.result ≡ has_hand (open_at o c.args.id)) c.self.view_is
    (c.has_hand.ensures
    ∙ ap has_hand (sym (found-open c.self.inside.connection c.self.inside.window
    c.self.inside.streams.entries c.args.id
    ∙ ap opened_of (sym c.in-Some.ensures.value) ∙ c.in-Some-opened.is)))

pub returns-in-None-opened : goal.returns-in-None-opened
returns-in-None-opened c =
    subst (λ (o : States). false ≡ has_hand (open_at o c.args.id)) c.self.view_is
    (ap has_hand (sym (found-open c.self.inside.connection c.self.inside.window
    c.self.inside.streams.entries c.args.id
    ∙ ap opened_of (sym c.in-Some.ensures.value) ∙ c.in-None-opened.is)))

pub returns-in-None : goal.returns-in-None
returns-in-None c = subst (λ (o : States). false ≡ has_hand (open_at o c.args.id)) c.self.view_is
    (ap has_hand (sym (found-open c.self.inside.connection c.self.inside.window
    c.self.inside.streams.entries c.args.id
    ∙ ap opened_of (sym c.in-None.ensures.value))))
