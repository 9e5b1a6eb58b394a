use Rattle.std.proofs.Common.{◌/◌, ◌<◌, ◌^◌, arith}
use Rattle.pbwire.proofs.VarintsWritten.{one_longer, one_long, len_bounds}
use Rattle.pbwire.proofs.writing.varint_len.Goals as goal

pub loop-rest-preserved : goal.loop-rest-preserved
loop-rest-preserved c =
    let longer = one_longer c.loop-rest.rest c.loop-rest-test.true c.loop-rest.invariant.fits in
    let fits : c.loop-rest.rest < 2 ^ 64 = c.loop-rest.invariant.fits in
    let lower : c.loop-rest.rest / 128 < 2 ^ 64 = omega arith in
    let some = (len_bounds (c.loop-rest.rest / 128) lower).0 in
    let most = (len_bounds c.args.number c.loop-rest.invariant.number).1 in
    record {
      number = c.loop-rest.invariant.number;
      fits = lower;
      small = omega (arith, longer, some, most, c.loop-rest.invariant.len);
      len = omega (arith, longer, c.loop-rest.invariant.len);
    }

pub returns-clause-len : goal.returns-clause-len
returns-clause-len c =
    omega (arith, one_long c.loop-rest.rest c.loop-rest-test.false, c.loop-rest.invariant.len)
