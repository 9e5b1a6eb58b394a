use Rattle.std.proofs.Common.{◌∙◌, arith, refl}
use Rattle.hpack_codec.proofs.HuffmanWriting.{counts_more, counted}
use Rattle.hpack_codec.proofs.huffman_writing.text_len.Goals as goal

pub loop-octet-preserved : goal.loop-octet-preserved
loop-octet-preserved c =
    let more =
    counts_more c.args.octets.now c.loop-octet.octet-index _ c.from-bits.result c.loop-octet.bits
    c.loop-octet-test.true refl
    (omega (arith, c.type_inv.octets c.loop-octet.octet-index))
    (c.from-bits.ensures ∙ c.code_of-len.ensures.len) c.loop-octet.invariant.sum in
    record {
      sum = more.0;
      most = omega (arith, more.1, c.loop-octet.invariant.most);
    }

pub returns : goal.returns
returns c =
    counted c.args.octets.now c.loop-octet.octet-index c.loop-octet.bits c.loop-octet-test.false
    c.loop-octet.invariant.sum
