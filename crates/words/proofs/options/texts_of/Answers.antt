use Rattle.std.proofs.Common.{◌∙◌, ap, [], List, Option, map, unwrap_or}
use Rattle.std.proofs.lemmas.Result.{IfOk-weaker}
use Rattle.clap.specs.Matches.{found_of}
use Rattle.clap.specs.Walk.{Text}
use Rattle.clap.proofs.WalkLemmas.{raw_values-rows}
use Rattle.words.proofs.TextsLemmas.{nows}
use Rattle.words.proofs.options.texts_of.Goals as goal

pub returns-in-Some : goal.returns-in-Some
returns-in-Some c =
    IfOk-weaker c.from_slice.result _ _ (λ texts same. ap nows same
    ∙ ap (λ (all : Option (List Text)). unwrap_or all [])
    (c.in-Some.ensures ∙ raw_values-rows (found_of c.args.options.now) c.args.name.now))
    c.from_slice.ensures.items

pub returns-in-None : goal.returns-in-None
returns-in-None c =
    ap nows c.new.ensures.items
    ∙ ap (λ (all : Option (List Text)). unwrap_or all [])
    (c.in-None.ensures ∙ raw_values-rows (found_of c.args.options.now) c.args.name.now)
