use Rattle.std.proofs.Common.{◌≡◌, ◌%◌, ◌^◌, take}
use Rattle.std.specs.List.{AllByRecursion}
use Rattle.pbwire.specs.Varint.{HasTopBit, sum_of_groups}
use Rattle.pbwire.proofs.varint.read_varint.Given as goal

-- every byte so far has the top bit, and the number is that of their groups
abbrev pub invariant-loop-i : goal.invariant-loop-i
invariant-loop-i l = record {
  high : AllByRecursion HasTopBit (take l.i l.front);
  sum : l.number ≡ sum_of_groups (take l.i l.front) % 2 ^ 64;
}
