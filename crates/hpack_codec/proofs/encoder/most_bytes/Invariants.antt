use Rattle.std.proofs.Common.{◌≡◌, ◌+◌, ◌-◌, ◌^◌, min, take}
use Rattle.hpack_codec.specs.Table.{sizes_of}
use Rattle.hpack_codec.proofs.encoder.most_bytes.Given as goal

-- the sizes of the fields before this one are counted
abbrev pub invariant-loop-field : goal.invariant-loop-field
invariant-loop-field l = l.most ≡ min (sizes_of (take l.field-index l.fields) + 3) (2 ^ 64 - 1)
