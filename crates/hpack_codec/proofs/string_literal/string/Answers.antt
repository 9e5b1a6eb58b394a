use Rattle.std.proofs.Common.{inr, arith}
use Rattle.std.proofs.lemmas.Result.{err_from_is_err_and}
use Rattle.hpack_codec.proofs.Strings.{
  flags_7_high,
  flags_7_low,
  takes_plain,
  takes_huffman,
  text_fault,
  cut_string,
}
use Rattle.hpack_codec.proofs.string_literal.string.Goals as goal
use Rattle.hpack_codec.proofs.string_literal.string.Goals.{
  then-is_huffman+in_ok-octets,
  else-is_huffman+in_ok-octets-2,
}

pub returns-in_err-octets-clause-err : goal.returns-in_err-octets-clause-err
returns-in_err-octets-clause-err c =
    let p =
    err_from_is_err_and c.from_residual-in_err-octets.result
    c.from_residual-in_err-octets.ensures.1 in
    rw (p.1, p.2)
    (text_fault _ c.args.bytes.now c.in_ok-len.rest.now _ _ c.in_ok-len.len c.in_ok-len.ensures.ok
    (flags_7_high c.args.bytes.now c.in-len1-up.len_at_least c.if-is_huffman.true
    (omega (arith, c.type_inv.bytes 0)))
    c.split_at.ensures.by_index.0 c.split_at.ensures.front_len c.in_err-octets.ensures.err)

pub returns-clause-ok : goal.returns-clause-ok
returns-clause-ok c =
    elim c.if-is_huffman.branch [
      | then-is_huffman+in_ok-octets w ↦
          takes_huffman c.args.bytes.now c.in_ok-len.rest.now _ _ _ c.in_ok-len.len
          c.in_ok-len.ensures.ok
          (flags_7_high c.args.bytes.now c.in-len1-up.len_at_least w.if-is_huffman.true
          (omega (arith, c.type_inv.bytes 0)))
          c.split_at.ensures.by_index.0 c.split_at.ensures.front_len
          (rw (c.from.ensures, w.octets-is) w.in_ok-octets.ensures.ok)
      | else-is_huffman+in_ok-octets-2 w ↦
          takes_plain c.args.bytes.now c.in_ok-len.rest.now _ _ _ c.in_ok-len.len
          c.in_ok-len.ensures.ok
          (flags_7_low c.args.bytes.now c.in-len1-up.len_at_least w.if-is_huffman.false)
          c.split_at.ensures.by_index.0 c.split_at.ensures.front_len
          (rw (c.from.ensures, w.octets-is) w.in_ok-octets-2.ensures.items)
    ]

pub returns-then-rest-len-clause-err : goal.returns-then-rest-len-clause-err
returns-then-rest-len-clause-err c =
    inr (cut_string c.args.bytes.now c.in_ok-len.rest.now c.in_ok-len.len c.in-len1-up.len_at_least
    (omega (arith, c.type_inv.bytes 0)) c.in_ok-len.ensures.ok c.if-rest-len.true)
