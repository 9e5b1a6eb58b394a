-- The tables by which Huffman's code is read and written, and a computed test that they are that
-- code.
use Rattle.std.specs.Prelude.{
  ℕ,
  zero,
  suc,
  ◌+◌,
  ◌-◌,
  Bool,
  true,
  false,
  ◌&&◌,
  ◌||◌,
  nat_lt,
  nat_le,
  ◌==◌,
  List,
  [],
  ◌∷◌,
  length,
  slice_index,
}
use Rattle.hpack_codec.specs.declared.huffman.Codes.{Codes}
use Rattle.hpack_codec.specs.Huffman.{code_length, code_number}

-- each number below n passes
unfoldable pub each_below : ℕ → (ℕ → Bool) → Bool
each_below zero passes = true
each_below (suc n) passes = passes n && each_below n passes

-- the symbol at this place of a row has the row's length and the number of this place
abbrev pub is_in_row : List ℕ → Codes → ℕ → Bool
is_in_row symbols row k =
    (code_length (slice_index symbols (row.place + k)) == row.len)
    && (code_number (slice_index symbols (row.place + k)) == row.first + k)

-- the row's numbers are those of its symbols
abbrev pub is_row : List ℕ → Codes → Bool
is_row symbols row =
    nat_le (row.place + (row.above - row.first)) (length symbols)
    && each_below (row.above - row.first) (is_in_row symbols row)

abbrev pub are_rows : List ℕ → List Codes → Bool
are_rows symbols [] = true
are_rows symbols (row ∷ rows) = is_row symbols row && are_rows symbols rows

-- the rows are in the order of their lengths
abbrev pub is_least : Codes → List Codes → Bool
is_least row [] = true
is_least row (next ∷ rows) = nat_le row.len next.len && is_least row rows

abbrev pub are_ascending : List Codes → Bool
are_ascending [] = true
are_ascending (row ∷ rows) = is_least row rows && are_ascending rows

-- one of the rows has the symbol's code
abbrev pub is_covered : List Codes → ℕ → Bool
is_covered [] symbol = false
is_covered (row ∷ rows) symbol =
    ((row.len == code_length symbol)
    && (nat_le row.first (code_number symbol) && nat_lt (code_number symbol) row.above))
    || is_covered rows symbol

-- Each row is right, the rows are in order, and each byte is in one.
unfoldable pub is_code_table : List Codes → List ℕ → Bool
is_code_table rows symbols =
    are_rows symbols rows && (are_ascending rows && each_below 256 (is_covered rows))

-- the symbol's code has the number and the length at its place
abbrev pub is_listed : List ℕ → List ℕ → ℕ → Bool
is_listed numbers lengths symbol =
    (code_number symbol == slice_index numbers symbol)
    && (code_length symbol == slice_index lengths symbol)

-- Each byte's code is listed.
unfoldable pub is_code_list : List ℕ → List ℕ → Bool
is_code_list numbers lengths =
    ((length numbers == 256) && (length lengths == 256))
    && each_below 256 (is_listed numbers lengths)
