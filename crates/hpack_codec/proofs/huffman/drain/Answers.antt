use Rattle.std.proofs.Common.{◌≤◌, ◌-◌, arith}
use Rattle.std.proofs.lemmas.Nat.{one_shl}
use Rattle.hpack_codec.specs.Huffman.{code_length}
use Rattle.hpack_codec.proofs.HuffmanTable.{code_facts}
use Rattle.hpack_codec.proofs.Huffmans.{drains_none, drains_more, drained}
use Rattle.hpack_codec.proofs.huffman.drain.Goals as goal

pub loop-symbol-init : goal.loop-symbol-init
loop-symbol-init c =
    drains_none c.args.octets.now.items c.args.count c.args.register c.requires.register

pub loop-symbol-smaller : goal.loop-symbol-smaller
loop-symbol-smaller c =
    let low : 5 ≤ code_length c.in-Some.symbol =
    (code_facts c.in-Some.symbol c.in-Some.ensures.octet).low in
    omega (arith, low, c.in-Some.ensures.len.0, c.in-Some.ensures.len.1)

pub loop-symbol-preserved : goal.loop-symbol-preserved
loop-symbol-preserved c =
    rw c.in_ok-push.ensures.items
    (drains_more _ _ c.args.count c.args.register c.loop-symbol.count c.loop-symbol.register
    c.in-Some.symbol c.in-Some.len _ c.loop-symbol.invariant
    c.in-Some.ensures.octet c.in-Some.ensures.len.0 c.in-Some.ensures.len.1 c.in-Some.ensures.number
    (one_shl (c.loop-symbol.count - c.in-Some.len) 64
    (omega (arith, c.requires.count, c.loop-symbol.invariant.shorter))))

pub returns : goal.returns
returns c =
    drained _ _ c.args.count c.args.register c.loop-symbol.count c.loop-symbol.register
    c.loop-symbol.invariant c.in_default.ensures.none
