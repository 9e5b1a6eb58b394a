use Rattle.std.proofs.Common.{length}
use Rattle.session.proofs.SettingSteps.{ReadTo}
use Rattle.session.proofs.settings.read_settings.Given as goal

abbrev pub invariant-loop-rest : goal.invariant-loop-rest
invariant-loop-rest l = ReadTo l.content l.settings.items l.rest

abbrev pub decreases-loop-rest : goal.decreases-loop-rest
decreases-loop-rest l = length l.rest
