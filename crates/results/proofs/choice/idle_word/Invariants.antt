use Rattle.std.proofs.Common.{take}
use Rattle.results.specs.Choices.{AllChoose}
use Rattle.results.proofs.choice.idle_word.Given as goal

abbrev pub invariant-loop-word : goal.invariant-loop-word
invariant-loop-word l = AllChoose l.entries (take l.word-index l.words)
