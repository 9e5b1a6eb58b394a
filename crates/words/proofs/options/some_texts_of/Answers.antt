use Rattle.std.proofs.Common.{◌≡◌, ◌∙◌, arith, false, sym, true}
use Rattle.std.proofs.lemmas.Bool.{eq-eqb, eqb-true}
use Rattle.words.proofs.TextsLemmas.{none_given, some_given}
use Rattle.words.proofs.options.some_texts_of.Goals as goal

pub returns-then-is_empty : goal.returns-then-is_empty
returns-then-is_empty c =
    none_given c.in_ok-texts.texts.items _ c.in_ok-texts.ensures
    (omega
    (arith, c.in_ok-texts.texts.ok.0, eqb-true _ _ (sym c.is_empty.ensures ∙ c.if-is_empty.true)))
