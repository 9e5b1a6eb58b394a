use Rattle.std.proofs.Common.{◌≡◌, take}
use Rattle.callhead.specs.StatusFields.{status_fields}
use Rattle.callhead.proofs.response.status_fields.Given as goal

-- the echoes before this one have their fields
abbrev pub invariant-loop-echo : goal.invariant-loop-echo
invariant-loop-echo l =
    l.fields.items ≡ status_fields l.code l.text (take l.echo-index l.echo-items)
