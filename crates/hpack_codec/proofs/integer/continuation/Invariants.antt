use Rattle.std.proofs.Common.{◌≡◌, ◌^◌, ◌<◌, ◌≤◌, length, take}
use Rattle.hpack_codec.specs.Integer.{base_128, IsUnfinished}
use Rattle.hpack_codec.proofs.integer.continuation.Given as goal

abbrev pub invariant-loop-i : goal.invariant-loop-i
invariant-loop-i l = record {
  within : l.i ≤ length l.bytes;
  unfinished : IsUnfinished (take l.i l.bytes);
  number : l.number ≡ base_128 (take l.i l.bytes);
  small : l.number < l.weight;
  weight : l.weight ≡ 128 ^ l.i;
}
