use Rattle.std.proofs.Common.{◌≡◌, ◌+◌, ◌<◌, ◌≤◌, ◌^◌, length}
use Rattle.pbwire.specs.Spelling.{varint_spelling}
use Rattle.pbwire.proofs.writing.varint_len.Given as goal

-- the bytes so far, and those of the rest but its last
abbrev pub invariant-loop-rest : goal.invariant-loop-rest
invariant-loop-rest l = record {
  number : l.number < 2 ^ 64;
  fits : l.rest < 2 ^ 64;
  small : l.len ≤ 10;
  len : l.len + length (varint_spelling l.rest) ≡ 1 + length (varint_spelling l.number);
}

abbrev pub decreases-loop-rest : goal.decreases-loop-rest
decreases-loop-rest l = l.rest
