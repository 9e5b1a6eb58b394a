use Rattle.std.proofs.Common.{◌+◌, length}
use Rattle.results.proofs.pattern.+is_glob.Given as goal

abbrev pub decreases-is_glob : goal.decreases-is_glob
decreases-is_glob l = length l.word.now + length l.text.now
