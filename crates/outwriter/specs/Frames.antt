-- The frames of a server's connection (RFC 9113, section 6), and what a frame says.
use Rattle.std.specs.Prelude.{
  ◌≡◌,
  bit_and,
  drop,
  take,
  ◌+◌,
  ℕ,
  ◌==◌,
  ◌&&◌,
  not,
  Bool,
  true,
  false,
  List,
  [],
  ◌++◌,
  length,
  if◌then◌else◌,
  None,
}
use Rattle.std.specs.Int.{bytes_high_first, from_be_bytes, w32}
use Rattle.h2frame.specs.declared.error_code.ErrorCode.{ErrorCode}
use Rattle.h2frame.specs.declared.frame.Frame.{Frame}
use Rattle.h2frame.specs.declared.kind.FrameKind.{FrameKind}
use Rattle.h2frame.specs.declared.kind.FrameKind.TheVariants.{
  Data,
  Headers,
  RstStream,
  Settings,
  Ping,
  GoAway,
  WindowUpdate,
  Continuation,
}
use Rattle.h2frame.specs.ErrorCode.{error_number}
use Rattle.h2frame.specs.Faults.{frame_fault, increment_of}
use Rattle.limits.specs.declared.TheConstants.{MAX_LIVE}
use Rattle.h2frame.specs.declared.setting.SettingId.TheVariants.{
  MaxConcurrentStreams,
  MaxHeaderListSize,
}
use Rattle.h2frame.specs.Setting.{setting_code}
use Rattle.h2frame.specs.Flags.{has, ack, end_stream, end_headers}
use Rattle.h2frame.specs.Spelling.{IsWritable}
use Rattle.reasons.specs.declared.Reason.{Reason}
use Rattle.reasons.specs.Codes.{code_of}
use Rattle.reasons.specs.Texts.{text_of}

-- a frame without padding or priority
abbrev pub frame_with : FrameKind → ℕ → ℕ → List ℕ → Frame
frame_with kind bits stream content =
    record {
      head = record {
        kind = kind;
        flags = record { bits = bits };
        stream = stream;
        length = length content;
      };
      content = content;
    }

-- ---- the frames that a writer makes

abbrev pub parameter : ℕ → ℕ → List ℕ
parameter id value = bytes_high_first 2 id ++ bytes_high_first 4 value

-- the most bytes of fields that a header block may have
abbrev pub max_field_bytes : ℕ
max_field_bytes = 16384

-- the limits of streams at once and of bytes of fields (section 6.5.2)
abbrev pub first_settings : Frame
first_settings =
    frame_with Settings 0 0 (parameter (setting_code MaxConcurrentStreams) MAX_LIVE
    ++ parameter (setting_code MaxHeaderListSize) max_field_bytes)

abbrev pub settings_ack : Frame
settings_ack = frame_with Settings ack 0 []

abbrev pub ping_ack : List ℕ → Frame
ping_ack bytes = frame_with Ping ack 0 bytes

-- a PING of the server's own (section 6.7)
abbrev pub ping_frame : List ℕ → Frame
ping_frame bytes = frame_with Ping 0 0 bytes

abbrev pub reset_frame : ℕ → ErrorCode → Frame
reset_frame id code = frame_with RstStream 0 id (bytes_high_first 4 (error_number code))

-- the last stream, the code, and why, as debug data (section 6.8)
abbrev pub goaway_frame : ℕ → Reason → Frame
goaway_frame last reason =
    frame_with GoAway 0 0
    ((bytes_high_first 4 last ++ bytes_high_first 4 (error_number (code_of reason)))
    ++ text_of reason)

abbrev pub update_frame : ℕ → ℕ → Frame
update_frame id increment = frame_with WindowUpdate 0 id (bytes_high_first 4 increment)

abbrev pub data_frame : ℕ → List ℕ → Frame
data_frame id bytes = frame_with Data 0 id bytes

-- the flags of a fragment of a header block
abbrev pub block_bits : Bool → Bool → ℕ
block_bits ends whole = (if ends then end_stream else 0) + (if whole then end_headers else 0)

-- the first fragment of a header block, and a further one (sections 6.2 and 6.10)
abbrev pub headers_frame : ℕ → Bool → Bool → List ℕ → Frame
headers_frame id ends whole fragment = frame_with Headers (block_bits ends whole) id fragment

abbrev pub continuation_frame : ℕ → Bool → List ℕ → Frame
continuation_frame id whole fragment = frame_with Continuation (block_bits false whole) id fragment

-- ---- what a frame is

abbrev pub is_data : FrameKind → Bool
is_data Data = true
is_data _ = false

abbrev pub is_reset : FrameKind → Bool
is_reset RstStream = true
is_reset _ = false

-- DATA and HEADERS may have END_STREAM
abbrev pub may_end : FrameKind → Bool
may_end Data = true
may_end Headers = true
may_end _ = false

abbrev pub ends_stream : Frame → Bool
ends_stream frame = may_end frame.head.kind && has end_stream frame.head.flags

abbrev pub ends_block : Frame → Bool
ends_block frame = has end_headers frame.head.flags

-- the frame is on the stream and resets it, or ends it
abbrev pub resets : ℕ → Frame → Bool
resets id frame = is_reset frame.head.kind && (id == frame.head.stream)

abbrev pub ends : ℕ → Frame → Bool
ends id frame = ends_stream frame && (id == frame.head.stream)

-- the error of a GOAWAY, after the last stream (section 6.8)
abbrev pub goaway_error : List ℕ → ℕ
goaway_error content = from_be_bytes w32 (take 4 (drop 4 content))

-- a GOAWAY with an error
abbrev pub is_last_kind : FrameKind → List ℕ → Bool
is_last_kind GoAway content = not (goaway_error content == 0)
is_last_kind _ content = false

abbrev pub is_last : Frame → Bool
is_last frame = is_last_kind frame.head.kind frame.content

-- the increment of a WINDOW_UPDATE
abbrev pub update_kind : FrameKind → List ℕ → ℕ
update_kind WindowUpdate content = increment_of content
update_kind _ content = 0

-- the credit that a frame gives on a stream, or on the connection as stream 0
abbrev pub update_on : ℕ → Frame → ℕ
update_on id frame =
    if id == frame.head.stream then update_kind frame.head.kind frame.content else 0

-- ---- what each frame must be, whatever came before it

-- the flags of a type of frame, but for those of padding and priority (sections 6.1, 6.2, 6.5, 6.7
-- and 6.10); types that a server never writes have none here
abbrev pub flags_of : FrameKind → ℕ
flags_of Data = end_stream
flags_of Headers = end_stream + end_headers
flags_of Settings = ack
flags_of Ping = ack
flags_of Continuation = end_headers
flags_of _ = 0

-- the frame keeps the rules of its type (sections 4.1, 4.2 and 6)
pub record IsSound (frame : Frame) : Type 0 where
  -- it can be spelled: its type is that of its code, its stream's number has 31 bits, all of its
  -- payload is content, and it has no padding or priority (section 4.1)
  pub writable : IsWritable frame
  -- a reader of its bytes finds no fault: it has at most 16,384 bytes, and a length, a stream and
  -- an increment that its type may have (sections 4.2 and 6)
  pub faultless : frame_fault frame ≡ None
  -- it has no flag without a meaning on its type, which a sender must leave unset (section 4.1)
  pub flags : bit_and frame.head.flags.bits (flags_of frame.head.kind) ≡ frame.head.flags.bits
