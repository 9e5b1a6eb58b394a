use Rattle.std.proofs.Common.{◌≡◌, ◌∙◌, subst, sym}
use Rattle.outwriter.specs.States.{States, is_heard}
use Rattle.outwriter.proofs.StateLemmas.{heard-found}
use Rattle.outwriter.proofs.states.StreamStates.is_heard.Goals as goal

pub returns : goal.returns
returns c =
    subst (λ (o : States). c.contains_key.result ≡ is_heard o c.args.id) c.self.view_is
    (c.contains_key.ensures
    ∙ sym (heard-found c.self.inside.connection c.self.inside.window
    c.self.inside.streams.entries c.args.id))
