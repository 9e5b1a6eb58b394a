use Rattle.std.proofs.Common.{rules, not}
use Rattle.std.proofs.lemmas.List.Elements.{filter_from_retain}
use Rattle.commands.specs.Hex.{is_blank}
use Rattle.commands.proofs.text.drop_blanks.Goals as goal

pub returns : goal.returns
returns c =
    filter_from_retain _ (λ b. not (is_blank b)) (λ test b stays after called. search rules) _ _ _
    c.retain.ensures.filtered
