-- How a list of messages is spelled in the DATA bytes of a call: gRPC over HTTP/2,
-- "Length-Prefixed-Message". A message is one flag byte, four bytes of length, and that many bytes.
-- These are relations on whole lists of bytes: nothing here knows of pieces, nor of how far a
-- reader has come.
use Rattle.std.specs.Prelude.{
  ◌≡◌,
  ℕ,
  ◌+◌,
  ◌<◌,
  ◌≤◌,
  List,
  [],
  ◌∷◌,
  ◌++◌,
  length,
  take,
  slice_index,
  All,
  ◌⊎◌,
}
use Rattle.std.specs.List.{flat_map}
use Rattle.std.specs.Int.{w32, to_be_bytes, from_be_bytes}
use Rattle.lpm.specs.declared.fault.LpmFault.{LpmFault}
use Rattle.lpm.specs.declared.fault.LpmFault.TheVariants.{
  Compressed,
  BadFlag,
  TooLong,
  CutAtEnd,
  OutOfMemory,
}

-- what comes before a message of n bytes: the flag 0, as it isn't compressed; the length,
-- big-endian
abbrev pub prefix_of : ℕ → List ℕ
prefix_of len = 0 ∷ to_be_bytes w32 len

-- one message, after its prefix
unfoldable pub frame : List ℕ → List ℕ
frame message = prefix_of (length message) ++ message

-- messages, one after another
abbrev pub frames : List (List ℕ) → List ℕ
frames messages = flat_map frame messages

-- how many bytes a message may have, 4 MiB; a law says that the constant of the program is this
-- number
abbrev pub max_message_len : ℕ
max_message_len = 4194304

-- no longer than a message may be
abbrev pub IsMessage : List ℕ → Type 0
IsMessage message = length message ≤ max_message_len

-- these bytes are one message with its prefix, and nothing else
abbrev pub IsFrame : List ℕ → Type 0
IsFrame bytes = (message : List ℕ) × IsMessage message × (bytes ≡ frame message)

-- the length that the four bytes after a flag announce
unfoldable pub announced : List ℕ → ℕ
announced bytes = from_be_bytes w32 (take 4 bytes)

-- Less than a whole message: nothing, or the flag 0 and then too few bytes. Once the length is
-- there it is lawful.
abbrev pub IsUnfinished : List ℕ → Type 0
IsUnfinished [] = Unit {0}
IsUnfinished (flag ∷ bytes) =
    (flag ≡ 0)
    × (4 ≤ length bytes
    → (announced bytes ≤ max_message_len) × (length bytes < 4 + announced bytes))

-- What can't go on as a message: another flag, or the flag 0 and a length over the limit. Bytes
-- have no other fault.
abbrev pub IsFaulty : List ℕ → LpmFault → Type 0
IsFaulty [] fault = ⊥
IsFaulty (flag ∷ bytes) Compressed = flag ≡ 1
IsFaulty (flag ∷ bytes) BadFlag = 2 ≤ flag
IsFaulty (flag ∷ bytes) TooLong =
    (flag ≡ 0) × (4 ≤ length bytes) × (max_message_len < announced bytes)
IsFaulty (flag ∷ bytes) CutAtEnd = ⊥
IsFaulty (flag ∷ bytes) OutOfMemory = ⊥

-- the bytes are these messages, and then less than a whole one
pub record Spells (bytes : List ℕ) (messages : List (List ℕ)) (rest : List ℕ) : Type 0 where
  pub whole : bytes ≡ frames messages ++ rest
  pub each : All IsMessage messages
  pub unfinished : IsUnfinished rest

-- the bytes are these messages, and then what can't go on as one
pub record IsFaultyAfter (bytes : List ℕ) (messages : List (List ℕ))
    (fault : LpmFault) : Type 0 where
  pub rest : List ℕ
  pub whole : bytes ≡ frames messages ++ rest
  pub each : All IsMessage messages
  pub faulty : IsFaulty rest fault

-- the numbers are bytes
abbrev pub AreBytes : List ℕ → Type 0
AreBytes bytes = (i : ℕ) → slice_index bytes i < 256

-- bytes that end inside a message
pub record IsCut (bytes : List ℕ) : Type 0 where
  pub messages : List (List ℕ)
  pub rest : List ℕ
  pub spells : Spells bytes messages rest
  pub some : 0 < length rest

-- bytes that end with a message, or can't go on as messages
abbrev pub IsNotCut : List ℕ → Type 0
IsNotCut bytes =
    ((messages : List (List ℕ)) × Spells bytes messages [])
    ⊎ ((messages : List (List ℕ)) × (fault : LpmFault) × IsFaultyAfter bytes messages fault)
