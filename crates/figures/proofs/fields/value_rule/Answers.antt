use Rattle.std.proofs.Common.{sym, ap, ◌∙◌}
use Rattle.std.specs.List.{find}
use Rattle.std.proofs.lemmas.Bool.{and_from}
use Rattle.callhead.specs.MalformedHeads.{is_forbidden_in_values}
use Rattle.figures.proofs.FieldLemmas.{has_found, found_passes, none_passes, last_of_three}
use Rattle.figures.proofs.fields.value_rule.Goals as goal

-- src/fields.rt:79:1
pub returns-in-Some : goal.returns-in-Some
returns-in-Some c =
    let found =
    ap (find is_forbidden_in_values) (sym c.as_slice.ensures)
    ∙ sym c.forbidden_in_value.ensures ∙ c.in-Some.is in
    record {
      broken = and_from _ _
          (found_passes is_forbidden_in_values c.in-Some.byte c.args.field.now.value found)
          (has_found is_forbidden_in_values c.in-Some.byte c.args.field.now.value found);
    }

-- src/fields.rt:79:1
pub returns-in-None : goal.returns-in-None
returns-in-None c =
    let none =
    ap (find is_forbidden_in_values) (sym c.as_slice.ensures)
    ∙ sym c.forbidden_in_value.ensures ∙ c.in-None.is in
    record {
      broken =
          last_of_three _ _ _
          (none_passes is_forbidden_in_values c.args.field.now.value none) c.requires.bad;
    }
