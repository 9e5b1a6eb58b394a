use Rattle.std.proofs.Common.{drop}
use Rattle.zeros.specs.Marks.{AreZerosOutside}
use Rattle.zeros.proofs.marks.wipe_spans.Given as goal

-- the spans so far are wiped
abbrev pub invariant-loop-place : goal.invariant-loop-place
invariant-loop-place l = AreZerosOutside (drop l.place l.spans) l.bytes
