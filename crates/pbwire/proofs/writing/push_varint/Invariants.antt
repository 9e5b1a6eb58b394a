use Rattle.std.proofs.Common.{◌≡◌, ◌^◌, ◌<◌, ◌≤◌, ◌++◌, take, vec_len, vec_capacity}
use Rattle.pbwire.specs.Spelling.{varint_spelling}
use Rattle.pbwire.proofs.writing.push_varint.Given as goal

-- whatever is written of the rest completes the number, and what was there stays
abbrev pub invariant-loop-rest : goal.invariant-loop-rest
invariant-loop-rest l = record {
  fits : l.rest < 2 ^ 64;
  completes : l.out.items ++ varint_spelling l.rest
      ≡ l.initial.out.items ++ varint_spelling l.number;
  kept : take (vec_len l.initial.out) l.out.items ≡ l.initial.out.items;
  grown : vec_len l.initial.out ≤ vec_len l.out;
  capacity : vec_capacity l.initial.out ≤ vec_capacity l.out;
}

abbrev pub decreases-loop-rest : goal.decreases-loop-rest
decreases-loop-rest l = l.rest
