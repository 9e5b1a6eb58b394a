use Rattle.std.proofs.Common.{◌≡◌, ◌≤◌, take}
use Rattle.std.specs.Str.Parse.{AllDigits, digits_value}
use Rattle.callhead.proofs.status.read_code.Given as goal

-- the digits before this one are read, and name no number over 16
abbrev pub invariant-loop-digit : goal.invariant-loop-digit
invariant-loop-digit l =
    AllDigits 10 (take l.digit-index l.text)
    × (l.code ≡ digits_value 10 (take l.digit-index l.text)) × (l.code ≤ 16)
