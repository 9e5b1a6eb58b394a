use Rattle.std.proofs.Common.{arith, ◌*◌, ◌+◌, ◌-◌, ◌%◌, ◌^◌, ap}
use Rattle.hpack_codec.proofs.Writing.{begins, goes_on, ends, span_is_32}
use Rattle.hpack_codec.proofs.integer.push_integer.Goals as goal

pub loop-rest-init : goal.loop-rest-init
loop-rest-init c =
    rw c.in_ok-push-2.ensures.items
    (begins c.args.out.now.items (c.args.flags + (1 * 2 ^ c.args.prefix_bits % 2 ^ 32 - 1))
    (c.args.number - (1 * 2 ^ c.args.prefix_bits % 2 ^ 32 - 1)) (omega arith))

pub loop-rest-preserved : goal.loop-rest-preserved
loop-rest-preserved c =
    rw c.in_ok-push-3.ensures.items (goes_on _ _ _ _ _ c.loop-rest.invariant c.loop-rest-test.true)

pub returns : goal.returns
returns c =
    rw c.in_ok-push-4.ensures.items
    (ends c.args.out.now.items c.loop-rest.out.items c.args.prefix_bits
    (1 * 2 ^ c.args.prefix_bits % 2 ^ 32 - 1) c.args.flags c.args.number c.loop-rest.rest
    (ap (λ n. n - 1) (span_is_32 c.args.prefix_bits c.requires.prefix)) c.loop-rest.invariant
    c.loop-rest-test.false (omega arith) c.if-number-most.false)
