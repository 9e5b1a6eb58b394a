use Rattle.std.proofs.Common.{◌≡◌, map, take, string_bytes}
use Rattle.callhead.specs.StatusFields.{response_fields}
use Rattle.callhead.proofs.response.response_fields.Given as goal

-- the echoes before this one have their fields
abbrev pub invariant-loop-echo : goal.invariant-loop-echo
invariant-loop-echo l =
    l.fields.items ≡ response_fields (map string_bytes (take l.echo-index l.echo-items))
