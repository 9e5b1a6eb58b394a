use Rattle.std.proofs.Common.{◌≡◌, ◌++◌, string_bytes, take}
use Rattle.std.specs.List.{flat_map}
use Rattle.results.specs.Xml.{char_text}
use Rattle.results.proofs.xml.push_chars.Given as goal

abbrev pub invariant-loop-c : goal.invariant-loop-c
invariant-loop-c l =
    string_bytes l.xml ≡ string_bytes l.fn.xml ++ flat_map char_text (take l.c-index l.all)
