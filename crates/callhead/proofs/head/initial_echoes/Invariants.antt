use Rattle.std.proofs.Common.{◌≡◌, map, take, string_bytes}
use Rattle.callhead.specs.Heads.{initial_echoes}
use Rattle.callhead.proofs.head.initial_echoes.Given as goal

-- the echoes of the fields before this one
abbrev pub invariant-loop-field : goal.invariant-loop-field
invariant-loop-field l =
    map string_bytes l.echoes.items ≡ initial_echoes (take l.field-index l.fields)
