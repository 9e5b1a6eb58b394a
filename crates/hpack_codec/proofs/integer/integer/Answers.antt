use Rattle.std.proofs.Common.{arith}
use Rattle.hpack_codec.proofs.Integers.{takes_short_at, takes_long_at}
use Rattle.hpack_codec.proofs.integer.integer.Goals as goal

pub returns-then-prefix-span-clause-ok : goal.returns-then-prefix-span-clause-ok
returns-then-prefix-span-clause-ok c =
    takes_short_at c.args.prefix_bits c.from.result c.args.bytes.now c.requires
    c.in-len1-up.len_at_least c.from.ensures c.if-prefix-span.true

pub returns-clause-ok : goal.returns-clause-ok
returns-clause-ok c =
    takes_long_at c.args.prefix_bits c.from.result c.in_ok-more.more c.args.bytes.now
    c.in_ok-more.rest.now
    c.requires c.in-len1-up.len_at_least c.from.ensures c.if-prefix-span.false
    c.in_ok-more.ensures.ok
    (omega (arith, c.if-number-from.false, c.from-2.ensures))
