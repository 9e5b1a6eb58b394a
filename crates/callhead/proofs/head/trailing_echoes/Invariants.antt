use Rattle.std.proofs.Common.{◌≡◌, ◌↔◌, ℕ, List, take}
use Rattle.callhead.specs.Heads.{AreTrailingEchoes}
use Rattle.callhead.proofs.head.trailing_echoes.Given as goal

-- the echoes of the fields before this one
abbrev pub invariant-loop-field : goal.invariant-loop-field
invariant-loop-field l =
    (values : List (List ℕ))
    → (l.echoes.items ≡ values) ↔ AreTrailingEchoes (take l.field-index l.fields) values
