use Rattle.std.proofs.Common.{◌≡◌, take}
use Rattle.hpack_codec.specs.Block.{AreFields}
use Rattle.hpack_codec.specs.Codec.{NonePrivate}
use Rattle.hpack_codec.specs.Reading.{Appends}
use Rattle.hpack_codec.proofs.encoder.push_fields.Given as goal

abbrev pub invariant-loop-field : goal.invariant-loop-field
invariant-loop-field l = record {
  text :
      Appends l.fn.out.items l.out.items
      (λ text. AreFields l.fn.table text (take l.field-index l.fields) l.table);
  limit : l.table.limit ≡ l.fn.table.limit;
  private : NonePrivate l.fn.table → NonePrivate l.table;
}
