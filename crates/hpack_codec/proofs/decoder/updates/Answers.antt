use Rattle.hpack_codec.proofs.Decoding.{updating_none, updating_more, updates_over}
use Rattle.hpack_codec.proofs.decoder.updates.Goals as goal

pub loop-rest-init : goal.loop-rest-init
loop-rest-init c = updating_none c.args.table.now c.args.block.now

pub returns-then-limit-gt-MAX_LIMIT-clause-err : goal.returns-then-limit-gt-MAX_LIMIT-clause-err
returns-then-limit-gt-MAX_LIMIT-clause-err c =
    updates_over c.args.table.now c.loop-rest.table c.args.block.now c.loop-rest.rest.now
    c.in_ok-limit.behind.now c.in_ok-limit.limit
    c.loop-rest.invariant (c.begins_update.ensures.begins c.loop-rest-test.true)
    c.in_ok-limit.ensures.ok c.if-limit-gt-MAX_LIMIT.true

pub loop-rest-preserved : goal.loop-rest-preserved
loop-rest-preserved c =
    rw c.resize.ensures
    (updating_more c.args.table.now c.loop-rest.table c.args.block.now c.loop-rest.rest.now
    c.in_ok-limit.behind.now c.in_ok-limit.limit
    c.loop-rest.invariant (c.begins_update.ensures.begins c.loop-rest-test.true)
    c.in_ok-limit.ensures.ok c.if-limit-gt-MAX_LIMIT.false)
