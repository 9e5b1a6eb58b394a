use Rattle.std.proofs.Common.{arith}
use Rattle.std.proofs.lemmas.Result.{err_from_is_err_and}
use Rattle.hpack_codec.proofs.Literals.{
  field_incremental,
  field_literal,
  fault_incremental,
  fault_literal,
}
use Rattle.hpack_codec.proofs.Strings.{flags_7_high}
use Rattle.hpack_codec.proofs.decoder.field_at.Goals as goal

pub indexed-requires : goal.indexed-requires
indexed-requires c =
    flags_7_high c.args.bytes.now c.requires c.if-first-ge-INDEXED.true
    (omega (arith, c.type_inv.bytes 0))

pub returns-in_err-field-2-clause-err : goal.returns-in_err-field-2-clause-err
returns-in_err-field-2-clause-err c =
    let p =
    err_from_is_err_and c.from_residual-in_err-field-2.result
    c.from_residual-in_err-field-2.ensures.1 in
    rw (p.1, p.2) (fault_incremental _ c.args.table.now c.args.bytes.now c.requires
    c.if-first-ge-LITERAL_INDEXED.true c.if-first-ge-INDEXED.false c.in_err-field-2.ensures.err)

pub returns-then-first-ge-LITERAL_INDEXED-clause-ok :
    goal.returns-then-first-ge-LITERAL_INDEXED-clause-ok
returns-then-first-ge-LITERAL_INDEXED-clause-ok c =
    field_incremental c.args.table.now c.args.bytes.now c.in_ok-field-2.rest.now
    c.in_ok-field-2.field c.requires c.if-first-ge-LITERAL_INDEXED.true c.if-first-ge-INDEXED.false
    c.in_ok-field-2.ensures.ok

pub returns-in_err-field-3-clause-err : goal.returns-in_err-field-3-clause-err
returns-in_err-field-3-clause-err c =
    let p =
    err_from_is_err_and c.from_residual-in_err-field-3.result
    c.from_residual-in_err-field-3.ensures.1 in
    rw (p.1, p.2) (fault_literal _ c.args.table.now c.args.bytes.now c.requires
    c.if-first-ge-SIZE_UPDATE.false c.in_err-field-3.ensures.err)

pub returns-clause-ok : goal.returns-clause-ok
returns-clause-ok c =
    field_literal c.args.table.now c.args.bytes.now _ _ c.requires c.if-first-ge-SIZE_UPDATE.false
    c.in_ok-field-3.ensures.ok
