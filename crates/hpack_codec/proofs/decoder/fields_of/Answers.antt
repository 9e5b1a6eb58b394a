use Rattle.std.proofs.lemmas.Result.{err_from_is_err_and}
use Rattle.hpack_codec.proofs.Decoding.{
  taking_none,
  taking_more,
  too_large,
  whole_size,
  fields_fault,
}
use Rattle.hpack_codec.proofs.decoder.fields_of.Goals as goal

pub loop-rest-init : goal.loop-rest-init
loop-rest-init c =
    rw c.in_ok-fields.ensures.items (taking_none c.args.table.now c.args.bytes.now c.requires)

pub returns-in_err-field-clause-err : goal.returns-in_err-field-clause-err
returns-in_err-field-clause-err c =
    let p =
    err_from_is_err_and c.from_residual-in_err-field.result
    c.from_residual-in_err-field.ensures.1 in
    rw (p.1, p.2)
    (fields_fault _ c.args.table.now c.loop-rest.table c.args.bytes.now c.loop-rest.rest.now
    c.loop-rest.fields.items c.loop-rest.room
    c.loop-rest.invariant c.in_err-field.ensures.err)

pub returns-then-size-room-clause-err : goal.returns-then-size-room-clause-err
returns-then-size-room-clause-err c =
    too_large c.args.table.now c.loop-rest.table c.args.bytes.now c.loop-rest.rest.now
    c.in_ok-field.behind.now c.loop-rest.fields.items c.in_ok-field.field
    c.in_ok-field.is_entry c.loop-rest.room c.capped_size-size.result c.loop-rest.invariant
    c.in_ok-field.ensures.ok c.capped_size-size.ensures c.if-size-room.true

pub loop-rest-preserved : goal.loop-rest-preserved
loop-rest-preserved c =
    rw c.in_ok-push.ensures.items
    (taking_more c.args.table.now c.loop-rest.table c.keep.new.table c.args.bytes.now
    c.loop-rest.rest.now c.in_ok-field.behind.now c.loop-rest.fields.items
    c.in_ok-field.field c.in_ok-field.is_entry c.loop-rest.room c.capped_size-size.result
    c.loop-rest.invariant c.in_ok-field.ensures.ok
    (whole_size c.args.table.now c.loop-rest.table c.args.bytes.now c.loop-rest.rest.now
    c.loop-rest.fields.items c.in_ok-field.field c.loop-rest.room
    c.capped_size-size.result c.loop-rest.invariant c.capped_size-size.ensures c.if-size-room.false)
    c.if-size-room.false c.in_ok-keep.ensures)
