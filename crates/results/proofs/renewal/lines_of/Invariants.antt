use Rattle.std.proofs.Common.{◌≡◌, string_bytes, take}
use Rattle.std.specs.List.{flat_map}
use Rattle.results.specs.KnownList.{entry}
use Rattle.results.specs.Renewals.{line_of}
use Rattle.results.proofs.renewal.lines_of.Given as goal

abbrev pub invariant-loop-known : goal.invariant-loop-known
invariant-loop-known l =
    string_bytes l.text ≡ flat_map (λ known. line_of (entry known)) (take l.known-index l.all)
