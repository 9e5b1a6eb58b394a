use Rattle.std.proofs.Common.{ap, not, rules, tests, string_bytes}
use Rattle.std.specs.Str.{bytes_eq}
use Rattle.std.proofs.lemmas.Iterator.{YieldsList-from_slice}
use Rattle.std.proofs.lemmas.Iterator.Search.{any_from_yields_List}
use Rattle.results.proofs.known_failure.is_stray.Goals as goal

pub returns : goal.returns
returns c =
    ap not (any_from_yields_List (λ name. bytes_eq name.now (string_bytes c.args.known.now.name)) _
    _ _ c.any.ensures.ran
    (YieldsList-from_slice c.args.names.now c.iter.ensures.rest) (λ x b q k. search (rules, tests)))
