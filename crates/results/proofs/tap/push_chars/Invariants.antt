use Rattle.std.proofs.Common.{◌≡◌, ◌++◌, string_bytes, take}
use Rattle.std.specs.List.{flat_map}
use Rattle.results.specs.Tap.{char_text}
use Rattle.results.proofs.tap.push_chars.Given as goal

abbrev pub invariant-loop-c : goal.invariant-loop-c
invariant-loop-c l =
    string_bytes l.line ≡ string_bytes l.fn.line ++ flat_map char_text (take l.c-index l.all)
