use Rattle.std.proofs.Common.{◌∙◌, sym}
use Rattle.std.proofs.lemmas.Result.{err_from_is_err_and}
use Rattle.hpack_codec.proofs.Decoding.{updates_fault, block_fault, first_fault}
use Rattle.hpack_codec.proofs.decoder.Decoder.read.Goals as goal

pub returns-in_err-rest-clause-err : goal.returns-in_err-rest-clause-err
returns-in_err-rest-clause-err c =
    let p = err_from_is_err_and c.from_residual.result c.from_residual.ensures.1 in
    rw (p.1, p.2)
    (first_fault _ c.args.self.now c.in-Some.table c.args.block.now
    (sym c.self.view_is ∙ sym c.in-Some.ensures.value)
    (updates_fault _ c.in-Some.table c.args.block.now c.in_err-rest.ensures.err))

pub returns-in_err-fields-clause-err : goal.returns-in_err-fields-clause-err
returns-in_err-fields-clause-err c =
    let p =
    err_from_is_err_and c.from_residual-in_err-fields.result
    c.from_residual-in_err-fields.ensures.1 in
    rw (p.1, p.2)
    (first_fault _ c.args.self.now c.in-Some.table c.args.block.now
    (sym c.self.view_is ∙ sym c.in-Some.ensures.value)
    (block_fault _ c.in-Some.table _ c.args.block.now c.in_ok-rest.rest.now c.in_ok-rest.ensures.ok
    c.in_err-fields.ensures.err))
