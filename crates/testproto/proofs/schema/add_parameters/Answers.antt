use Rattle.std.proofs.Common.{◌^◌}
use Rattle.testproto.specs.Canonical.{response_parameters_fields}
use Rattle.testproto.proofs.Writing.{if_none, too_long_part}
use Rattle.testproto.proofs.schema.add_parameters.Goals as goal

pub returns-in_err-size-clause-too_long : goal.returns-in_err-size-clause-too_long
returns-in_err-size-clause-too_long c =
    let too_long =
    too_long_part response_parameters_fields c.args.number c.args.total c.loop-parameters.size
    c.loop-parameters.parameters-index (2 ^ 64)
    c.as_slice-parameters-items.result.now _ c.loop-parameters-test.true
    c.loop-parameters.invariant.0 c.in_err-size.ensures.too_long in
    if_none c.from_residual.result (rw c.as_slice-parameters-items.ensures at too_long)
