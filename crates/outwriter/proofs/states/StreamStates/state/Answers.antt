use Rattle.std.proofs.Common.{◌≡◌, ◌∙◌, None, ap, subst, sym}
use Rattle.outwriter.specs.declared.stream_state.StreamState.TheVariants.{NoCall}
use Rattle.outwriter.specs.States.{States, state_in, state_of, state_on}
use Rattle.outwriter.proofs.StateLemmas.{state-found}
use Rattle.outwriter.proofs.states.StreamStates.state.Goals as goal

pub returns-in-Some : goal.returns-in-Some
returns-in-Some c =
    subst (λ (o : States). c.in-Some.stream.now.state ≡ state_on o c.args.id) c.self.view_is
    (sym (state-found c.self.inside.connection c.self.inside.window
    c.self.inside.streams.entries c.args.id
    ∙ ap (λ o. state_in (state_of o)) (sym c.in-Some.ensures.value)))

pub returns-in-None : goal.returns-in-None
returns-in-None c = subst (λ (o : States). NoCall None ≡ state_on o c.args.id) c.self.view_is
    (sym (state-found c.self.inside.connection c.self.inside.window
    c.self.inside.streams.entries c.args.id
    ∙ ap (λ o. state_in (state_of o)) (sym c.in-None.ensures.value)))
