use Rattle.std.proofs.Common.{◌∙◌}
use Rattle.outwriter.proofs.ResizeLemmas.{seen-window, seen-table}
use Rattle.outwriter.proofs.resize.sizes.Goals.{in-WindowSize, in_default}
use Rattle.outwriter.proofs.resize.sizes.Goals as goal

pub loop-setting-preserved : goal.loop-setting-preserved
loop-setting-preserved c = elim c.match-setting.branch [
  | in-WindowSize w ↦
      rw w.last-is (seen-window c.args.settings.now c.loop-setting.setting-index _
      c.loop-setting.greatest c.loop-setting.last w.in-WindowSize.size c.match-setting.greatest
      c.loop-setting-test.true w.in-WindowSize.is (w.greatest-is ∙ w.max-greatest.ensures)
      c.loop-setting.invariant)
  | in_default w ↦
      rw (w.last-is, w.greatest-is) (seen-table c.args.settings.now c.loop-setting.setting-index _
      c.loop-setting.greatest c.loop-setting.last w.in_default.field-0
      c.loop-setting-test.true w.in_default.is c.loop-setting.invariant)
]
