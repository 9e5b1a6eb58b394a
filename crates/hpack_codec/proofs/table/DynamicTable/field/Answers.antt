use Rattle.std.proofs.Common.{arith, ◌∙◌}
use Rattle.std.proofs.lemmas.Result.{IfOk-weaker}
use Rattle.hpack_codec.proofs.Tables.{entry_at-zero, entry_at-static, entry_at-recent}
use Rattle.hpack_codec.proofs.table.DynamicTable.field.Goals as goal

pub returns-then-index-gt-LEN : goal.returns-then-index-gt-LEN
returns-then-index-gt-LEN c =
    IfOk-weaker c.recent_field.result _ _
    (λ found is. entry_at-recent c.args.self.now c.args.index c.if-index-gt-LEN.true ∙ is)
    c.recent_field.ensures

pub returns-then-index-gt0 : goal.returns-then-index-gt0
returns-then-index-gt0 c =
    entry_at-static c.args.self.now c.args.index _
    (λ zero. absurd (omega (arith, zero, c.if-index-gt0.true)))
    (omega (arith, c.if-index-gt-LEN.false)) c.static_field.ensures

pub returns : goal.returns
returns c = entry_at-zero c.args.self.now c.args.index (omega (arith, c.if-index-gt0.false))
