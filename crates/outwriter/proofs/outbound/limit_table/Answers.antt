use Rattle.outwriter.proofs.TableLemmas.{limited-more, limited-same}
use Rattle.outwriter.proofs.outbound.limit_table.Goals.{in-TableSize, in_default}
use Rattle.outwriter.proofs.outbound.limit_table.Goals as goal

pub loop-setting-preserved : goal.loop-setting-preserved
loop-setting-preserved c = elim c.match-setting.branch [
  | in-TableSize w ↦
      rw w.encoder-is (limited-more c.args.settings.now c.loop-setting.setting-index _
      c.args.encoder.now c.loop-setting.encoder _ w.in-TableSize.limit
      c.loop-setting-test.true w.in-TableSize.is w.limit.ensures c.loop-setting.invariant)
  | in_default w ↦
      rw w.encoder-is (limited-same c.args.settings.now c.loop-setting.setting-index _
      c.args.encoder.now c.loop-setting.encoder w.in_default.field-0
      c.loop-setting-test.true w.in_default.is c.loop-setting.invariant)
]
