-- Fields of a header block, by their names.
use Rattle.std.specs.Prelude.{ℕ, Bool, List, map, filter, find, Option, option_map, bytes_eq}
use Rattle.lists.specs.declared.field.Field.{Field}

abbrev pub field_of : List ℕ → List ℕ → Field
field_of name_bytes value_bytes = record { name = name_bytes; value = value_bytes }

abbrev pub is_named : List ℕ → Field → Bool
is_named name field = bytes_eq field.name name

-- the value of a field: of several with one name the first counts
abbrev pub first_of : List ℕ → List Field → Option (List ℕ)
first_of name fields = option_map (λ (field : Field). field.value) (find (is_named name) fields)

-- the values of all fields with one name, in order
abbrev pub values_of : List ℕ → List Field → List (List ℕ)
values_of name fields = map (λ (field : Field). field.value) (filter (is_named name) fields)
