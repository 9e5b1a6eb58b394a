-- How long a length-delimited field is.
use Rattle.std.specs.Prelude.{ℕ, ◌+◌, ◌*◌, length}
use Rattle.pbwire.specs.Spelling.{varint_spelling}

abbrev pub delimited_len : ℕ → ℕ → ℕ
delimited_len number len =
    length (varint_spelling (number * 8 + 2)) + length (varint_spelling len) + len
