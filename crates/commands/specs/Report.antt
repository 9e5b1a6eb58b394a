-- The text with a call's messages and how the call ended.
use Rattle.std.specs.Prelude.{ℕ, ◌+◌, List, [], ◌∷◌, ◌++◌, length, Option, Some, None, codes}
use Rattle.std.specs.Fmt.{decimal}
use Rattle.hex.specs.Hex.{encode_lower}
use Rattle.lpm.specs.Faults.{code_of}
use Rattle.lpm.specs.declared.fault.LpmFault.{LpmFault}

-- a message in hexadecimal, with a blank before it; of an empty one nothing
abbrev pub hex_column : List ℕ → List ℕ
hex_column [] = []
hex_column (byte ∷ bytes) = 32 ∷ encode_lower (byte ∷ bytes)

-- `message I LEN HEX`, and `message I 0` for an empty one
abbrev pub message_line : ℕ → List ℕ → List ℕ
message_line number message =
    codes "message " ++ decimal number ++ codes " " ++ decimal (length message)
    ++ hex_column message ++ 10 ∷ []

-- the messages, numbered from some number on
abbrev pub message_lines : ℕ → List (List ℕ) → List ℕ
message_lines number [] = []
message_lines number (message ∷ messages) =
    message_line number message ++ message_lines (number + 1) messages

-- `end`, or `fault CODE`
abbrev pub ending_line : Option LpmFault → List ℕ
ending_line None = codes "end" ++ 10 ∷ []
ending_line (Some fault) = codes "fault " ++ decimal (code_of fault) ++ 10 ∷ []

abbrev pub report : List (List ℕ) → Option LpmFault → List ℕ
report messages fault = message_lines 0 messages ++ ending_line fault
