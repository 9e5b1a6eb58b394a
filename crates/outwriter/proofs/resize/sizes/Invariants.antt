use Rattle.std.proofs.Common.{take}
use Rattle.outwriter.specs.Histories.{window_sizes}
use Rattle.outwriter.specs.Resizes.{IsSeen}
use Rattle.outwriter.proofs.resize.sizes.Given as goal

abbrev pub invariant-loop-setting : goal.invariant-loop-setting
invariant-loop-setting l = IsSeen (window_sizes (take l.setting-index l.settings)) l.greatest l.last
