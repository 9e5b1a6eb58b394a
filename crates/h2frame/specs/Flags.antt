-- The flags of a frame (RFC 9113, section 6).
use Rattle.std.specs.Prelude.{ℕ, Bool, false, ◌==◌, bit_and}
use Rattle.h2frame.specs.declared.flags.Flags.{Flags}
use Rattle.h2frame.specs.declared.frame.FrameHead.{FrameHead}
use Rattle.h2frame.specs.declared.kind.FrameKind.{FrameKind}
use Rattle.h2frame.specs.declared.kind.FrameKind.TheVariants.{Data, Headers}

-- all of the wanted flags are set
abbrev pub has : ℕ → Flags → Bool
has wanted flags = bit_and flags.bits wanted == wanted

abbrev pub ack : ℕ
ack = 0x01

abbrev pub end_stream : ℕ
end_stream = 0x01

abbrev pub end_headers : ℕ
end_headers = 0x04

abbrev pub padded : ℕ
padded = 0x08

abbrev pub priority : ℕ
priority = 0x20

-- DATA and HEADERS may be padded
abbrev pub is_padded_kind : FrameKind → Flags → Bool
is_padded_kind Data flags = has padded flags
is_padded_kind Headers flags = has padded flags
is_padded_kind _ flags = false

-- HEADERS may have a priority
abbrev pub has_priority_kind : FrameKind → Flags → Bool
has_priority_kind Headers flags = has priority flags
has_priority_kind _ flags = false

-- the payload begins with the length of its padding
abbrev pub is_padded : FrameHead → Bool
is_padded head = is_padded_kind head.kind head.flags

-- five bytes of priority come before the content
abbrev pub has_priority : FrameHead → Bool
has_priority head = has_priority_kind head.kind head.flags
