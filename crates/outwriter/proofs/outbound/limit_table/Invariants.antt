use Rattle.std.proofs.Common.{◌≡◌, take}
use Rattle.outwriter.specs.Histories.{table_sizes}
use Rattle.outwriter.specs.TableLimits.{limited_by}
use Rattle.outwriter.proofs.outbound.limit_table.Given as goal

abbrev pub invariant-loop-setting : goal.invariant-loop-setting
invariant-loop-setting l =
    l.encoder ≡ limited_by l.fn.encoder (table_sizes (take l.setting-index l.settings))
