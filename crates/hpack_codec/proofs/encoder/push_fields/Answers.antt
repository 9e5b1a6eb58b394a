use Rattle.std.proofs.Common.{arith, refl, ◌∙◌}
use Rattle.hpack_codec.proofs.Blocks.{fields_none, fields_more, fields_all}
use Rattle.hpack_codec.proofs.encoder.push_fields.Goals as goal

pub loop-field-init : goal.loop-field-init
loop-field-init c = record {
  text = fields_none c.args.table.now c.args.out.now.items;
  limit = refl;
  private = λ none. none;
}

pub loop-field-preserved : goal.loop-field-preserved
loop-field-preserved c = record {
  text =
      fields_more _ _ _ _ _ _ c.args.fields.now c.loop-field.field-index c.field-item.result
      c.loop-field-test.true c.field-item.is
      c.loop-field.invariant.text c.in_ok-push_field.ensures.text;
  limit = c.in_ok-push_field.ensures.limit ∙ c.loop-field.invariant.limit;
  private = λ none. c.in_ok-push_field.ensures.private (c.loop-field.invariant.private none);
}

pub returns-clause-text : goal.returns-clause-text
returns-clause-text c =
    fields_all _ _ _ _ c.args.fields.now c.loop-field.field-index
    (omega (arith, c.loop-field-test.false)) c.loop-field.invariant.text
