use Rattle.std.proofs.lemmas.Result.{on_ok_weaker}
use Rattle.hpack_codec.proofs.Blocks.{wrote_value, wrote_both}
use Rattle.hpack_codec.proofs.encoder.push_pair.Goals as goal
use Rattle.hpack_codec.proofs.encoder.push_pair.Goals.{
  then-index-eq-NEW_NAME+in_ok-push_string,
  else-index-eq-NEW_NAME,
}

pub returns : goal.returns
returns c = λ table at_.
    on_ok_weaker c.push_string-2.result
    (λ value.
    elim c.if-index-eq-NEW_NAME.branch [
      | then-index-eq-NEW_NAME+in_ok-push_string w ↦
          wrote_both c.args.prefix_bits c.args.flags c.args.index _ _ _ _ _ _ c.args.field.now
          w.as_slice.ensures c.as_slice-2.ensures
          w.if-index-eq-NEW_NAME.true c.in_ok-push_integer.ensures w.in_ok-push_string.ensures
          (rw (← w.out-is) value) table
      | else-index-eq-NEW_NAME w ↦
          wrote_value c.args.prefix_bits c.args.flags c.args.index _ _ _ _ c.args.field.now
          c.as_slice-2.ensures w.if-index-eq-NEW_NAME.false
          c.in_ok-push_integer.ensures (rw (← w.out-is) value) table at_
    ])
    c.push_string-2.ensures
