use Rattle.std.proofs.Common.{sym, ap, ◌∙◌, List, ℕ, length}
use Rattle.std.specs.Prelude.{◌==◌}
use Rattle.std.specs.List.{find}
use Rattle.std.specs.Char.{is_ascii_uppercase}
use Rattle.std.proofs.lemmas.Bool.{or_left, and_from}
use Rattle.callhead.specs.MalformedHeads.{is_forbidden_in_names}
use Rattle.figures.proofs.FieldLemmas.{
  any_passes,
  has_found,
  found_passes,
  none_passes,
  last_of_two,
  last_of_three,
}
use Rattle.figures.proofs.fields.name_rule.Goals as goal

-- src/fields.rt:56:1
pub returns-in-Some : goal.returns-in-Some
returns-in-Some c =
    record {
      broken =
          any_passes is_forbidden_in_names is_ascii_uppercase c.in-Some.byte c.args.field.now.name
          (ap (find is_forbidden_in_names) (sym c.as_slice-name.ensures)
          ∙ sym c.forbidden_in_name.ensures ∙ c.in-Some.is)
          (sym c.if-is_ascii_uppercase.ensures.value);
    }

-- src/fields.rt:56:1
pub returns-in-Some-2 : goal.returns-in-Some-2
returns-in-Some-2 c =
    let found =
    ap (find is_forbidden_in_names) (sym c.as_slice-name.ensures)
    ∙ sym c.forbidden_in_name.ensures ∙ c.in-Some.is in
    record {
      broken = or_left _ _ (and_from _ _
          (found_passes is_forbidden_in_names c.in-Some.byte c.args.field.now.name found)
          (has_found is_forbidden_in_names c.in-Some.byte c.args.field.now.name found));
    }

-- src/fields.rt:56:1
pub returns-in-None : goal.returns-in-None
returns-in-None c =
    let none =
    ap (find is_forbidden_in_names) (sym c.as_slice-name.ensures)
    ∙ sym c.forbidden_in_name.ensures ∙ c.in-None.is in
    let not_empty =
    ap (λ (name : List ℕ). length name == 0) (sym c.as_slice-name.ensures)
    ∙ sym c.if-is_empty.ensures in
    record {
      broken =
          last_of_two _ _ (none_passes is_forbidden_in_names c.args.field.now.name none)
          (last_of_three _ _ _ not_empty c.requires.bad);
    }
