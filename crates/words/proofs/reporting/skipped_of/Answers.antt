use Rattle.std.proofs.Common.{◌∙◌, ◌==◌, ap, sym}
use Rattle.std.specs.List.{flat_map, slice_split}
use Rattle.std.proofs.lemmas.List.Folds.{flat_map-map}
use Rattle.std.proofs.lemmas.Result.{IfOk-weaker}
use Rattle.words.proofs.reporting.skipped_of.Goals as goal

pub returns : goal.returns
returns c =
    IfOk-weaker c.all_parts_of.result _ _ (λ words is. is
    ∙ (ap (flat_map (λ text. slice_split (λ byte. byte == 44) text.now)) c.as_slice.ensures.value
    ∙ (sym
    (flat_map-map (slice_split (λ byte. byte == 44)) (λ text. text.now) c.in_ok-texts.texts.items)
    ∙ ap (flat_map (slice_split (λ byte. byte == 44))) c.in_ok-texts.ensures)))
    c.all_parts_of.ensures
