use Rattle.std.proofs.Common.{subst}
use Rattle.base64.specs.GeneralPurpose.{IsDecodeFailure}
use Rattle.callhead.proofs.bin.decode.Goals as goal

pub returns-in-Ok-clause-some : goal.returns-in-Ok-clause-some
returns-in-Ok-clause-some c =
    rw c.from.ensures (c.in-Ok.ensures.bytes, c.in-Ok.ensures.exact c.requires.strict)

pub returns-in-Err-DecodeError-clause-none : goal.returns-in-Err-DecodeError-clause-none
returns-in-Err-DecodeError-clause-none c = λ value fits e.
    let ok = (c.in-Err-DecodeError.ensures.strict c.requires.strict value fits).1 e in
    let err =
    subst (IsDecodeFailure c.args.engine.now c.args.part.now) c.in-Err-DecodeError.field-0-is
    c.in-Err-DecodeError.ensures.err in
    cc (ok, err)
