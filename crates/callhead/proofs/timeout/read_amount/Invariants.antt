use Rattle.std.proofs.Common.{◌≡◌, take}
use Rattle.std.specs.Str.Parse.{AllDigits, digits_value}
use Rattle.callhead.proofs.timeout.read_amount.Given as goal

-- the digits before this one are read
abbrev pub invariant-loop-digit : goal.invariant-loop-digit
invariant-loop-digit l =
    AllDigits 10 (take l.digit-index l.digits)
    × (l.amount ≡ digits_value 10 (take l.digit-index l.digits))
