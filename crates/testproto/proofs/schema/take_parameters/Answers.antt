use Rattle.std.proofs.Common.{◌++◌, ◌∷◌, [], List, sym, subst}
use Rattle.pbwire.specs.Fields.{field_of}
use Rattle.testproto.specs.declared.messages.ResponseParameters.{ResponseParameters}
use Rattle.testproto.specs.Values.{contents, AreRepeated}
use Rattle.testproto.specs.Messages.{IsResponseParameters}
use Rattle.testproto.proofs.Joining.{repeated-last}
use Rattle.testproto.proofs.schema.take_parameters.Goals as goal

pub returns-in_ok-push-clause-value : goal.returns-in_ok-push-clause-value
returns-in_ok-push-clause-value c before had =
    let found = rw c.in-Some.is at c.in_ok-parameters.ensures.some in
    let parameters = c.in-Some.parameters in
    subst (λ (t : List ResponseParameters).
    AreRepeated IsResponseParameters
    (contents c.args.number (before ++ field_of c.args.item.now ∷ [])) t)
    (sym c.in_ok-push.ensures.ok)
    (repeated-last IsResponseParameters c.args.number before (field_of c.args.item.now) found.0
    found.2.0 c.args.held.now parameters found.1 had found.2.1 found.2.3)
