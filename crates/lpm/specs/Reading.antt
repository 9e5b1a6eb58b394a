-- The one list of messages that bytes spell, computed. `Spells` and `IsFaultyAfter` say what it has
-- to be; the law `one_reading` says that one of them holds of it, and of no other list.
use Rattle.std.specs.Prelude.{
  ℕ,
  zero,
  suc,
  Bool,
  true,
  false,
  ◌==◌,
  nat_lt,
  if◌then◌else◌,
  List,
  [],
  ◌∷◌,
  length,
  take,
  drop,
  Option,
  Some,
  None,
}
use Rattle.lpm.specs.declared.fault.LpmFault.{LpmFault}
use Rattle.lpm.specs.declared.fault.LpmFault.TheVariants.{Compressed, BadFlag, TooLong}
use Rattle.lpm.specs.Messages.{max_message_len, announced}

-- what is at the front of some bytes
pub data Front : Type 0 where
  Whole : (message rest : List ℕ) → Front
  Unfinished : Front
  Faulty : (fault : LpmFault) → Front

-- after a flag and a length
unfoldable pub front_of_message : ℕ → List ℕ → Front
front_of_message len bytes =
    if nat_lt max_message_len len
    then Faulty TooLong
    else (if nat_lt (length bytes) len then Unfinished else Whole (take len bytes) (drop len bytes))

-- after the flag 0
unfoldable pub front_of_length : List ℕ → Front
front_of_length bytes =
    if nat_lt (length bytes) 4 then Unfinished
    else front_of_message (announced bytes) (drop 4 bytes)

unfoldable pub front_of : List ℕ → Front
front_of [] = Unfinished
front_of (flag ∷ bytes) =
    if flag == 0
    then front_of_length bytes
    else (if flag == 1 then Faulty Compressed else Faulty BadFlag)

-- whether it is a message with nothing after it
abbrev pub is_alone : Front → Bool
is_alone (Whole message []) = true
is_alone (Whole message (byte ∷ rest)) = false
is_alone Unfinished = false
is_alone (Faulty fault) = false

-- whether bytes are one message with its prefix
abbrev pub is_frame : List ℕ → Bool
is_frame bytes = is_alone (front_of bytes)

-- messages, what is left after them, and the fault there
pub record Reading : Type 0 where
  pub messages : List (List ℕ)
  pub rest : List ℕ
  pub fault : Option LpmFault

-- no message, and this at the front
abbrev pub ended : List ℕ → Option LpmFault → Reading
ended bytes fault = record { messages = []; rest = bytes; fault = fault }

abbrev pub with_front : List ℕ → Reading → Reading
with_front message reading =
    record { messages = message ∷ reading.messages; rest = reading.rest; fault = reading.fault }

abbrev pub reading_behind : Front → List ℕ → (List ℕ → Reading) → Reading
reading_behind (Whole message rest) bytes read = with_front message (read rest)
reading_behind Unfinished bytes read = ended bytes None
reading_behind (Faulty fault) bytes read = ended bytes (Some fault)

-- the reading of bytes with at most this many messages
unfoldable pub reading_within : ℕ → List ℕ → Reading
reading_within zero bytes = reading_behind (front_of bytes) bytes (λ rest. ended rest None)
reading_within (suc n) bytes = reading_behind (front_of bytes) bytes (reading_within n)

-- the reading of bytes: a message takes at least five of them
unfoldable pub reading_of : List ℕ → Reading
reading_of bytes = reading_within (length bytes) bytes

abbrev pub messages_of : List ℕ → List (List ℕ)
messages_of bytes = (reading_of bytes).messages

abbrev pub rest_of : List ℕ → List ℕ
rest_of bytes = (reading_of bytes).rest

abbrev pub fault_of : List ℕ → Option LpmFault
fault_of bytes = (reading_of bytes).fault
