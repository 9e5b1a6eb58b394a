-- Which frames are faulty, and what the first fault of each is (RFC 9113, section 6).
use Rattle.std.specs.Prelude.{
  ℕ,
  ◌+◌,
  ◌^◌,
  ◌%◌,
  Bool,
  true,
  false,
  ◌==◌,
  nat_lt,
  nat_le,
  if◌then◌else◌,
  List,
  Option,
  Some,
  None,
}
use Rattle.std.specs.Option.{option_or}
use Rattle.std.specs.Int.{w32, from_be_bytes}
use Rattle.h2frame.specs.declared.error_code.ErrorCode.{ErrorCode}
use Rattle.h2frame.specs.declared.error_code.ErrorCode.TheVariants.{
  ProtocolError,
  InternalError,
  FrameSizeError,
}
use Rattle.h2frame.specs.declared.fault.FrameFault.{FrameFault}
use Rattle.h2frame.specs.declared.fault.FrameFault.TheVariants.{
  TooLong,
  BadLength,
  BadPadding,
  WrongStream,
  ZeroIncrement,
  OutOfMemory,
}
use Rattle.h2frame.specs.declared.frame.Frame.{Frame}
use Rattle.h2frame.specs.declared.frame.FrameHead.{FrameHead}
use Rattle.h2frame.specs.declared.kind.FrameKind.{FrameKind}
use Rattle.h2frame.specs.declared.kind.FrameKind.TheVariants.{
  Data,
  Headers,
  Priority,
  RstStream,
  Settings,
  PushPromise,
  Ping,
  GoAway,
  WindowUpdate,
  Continuation,
  Unknown,
}
use Rattle.h2frame.specs.Flags.{has, ack, is_padded, has_priority}

-- SETTINGS_MAX_FRAME_SIZE as it is until SETTINGS change it (section 4.2)
abbrev pub max_payload : ℕ
max_payload = 16384

-- a frame of a stream, of the connection as a whole, or of either
abbrev pub may_be_on : FrameKind → ℕ → Bool
may_be_on Data stream = nat_lt 0 stream
may_be_on Headers stream = nat_lt 0 stream
may_be_on Priority stream = nat_lt 0 stream
may_be_on RstStream stream = nat_lt 0 stream
may_be_on Settings stream = stream == 0
may_be_on PushPromise stream = true
may_be_on Ping stream = stream == 0
may_be_on GoAway stream = stream == 0
may_be_on WindowUpdate stream = true
may_be_on Continuation stream = nat_lt 0 stream
may_be_on (Unknown code) stream = true

-- the bytes of a payload before its content: the length of the padding, and the priority (sections
-- 6.1 and 6.2)
abbrev pub overhead : FrameHead → ℕ
overhead head = (if is_padded head then 1 else 0) + (if has_priority head then 5 else 0)

-- what a payload's length may be
abbrev pub may_have_length : FrameKind → FrameHead → Bool
may_have_length Data head = nat_le (overhead head) head.length
may_have_length Headers head = nat_le (overhead head) head.length
may_have_length Priority head = head.length == 5
may_have_length RstStream head = head.length == 4
may_have_length Settings head =
    if has ack head.flags then head.length == 0 else head.length % 6 == 0
may_have_length PushPromise head = true
may_have_length Ping head = head.length == 8
may_have_length GoAway head = nat_le 8 head.length
may_have_length WindowUpdate head = head.length == 4
may_have_length Continuation head = true
may_have_length (Unknown code) head = true

-- the first fault that a head shows by itself
abbrev pub head_fault : FrameHead → Option FrameFault
head_fault head =
    if nat_lt max_payload head.length then Some TooLong
    else (if may_be_on head.kind head.stream then
    (if may_have_length head.kind head then None else Some BadLength)
    else Some WrongStream)

-- the increment of a WINDOW_UPDATE's content: 31 bits after one that is ignored (section 6.9)
abbrev pub increment_of : List ℕ → ℕ
increment_of content = from_be_bytes w32 content % 2 ^ 31

abbrev pub lacks_increment : FrameKind → List ℕ → Bool
lacks_increment WindowUpdate content = increment_of content == 0
lacks_increment _ content = false

-- the first fault of a frame whose padding is as it should be
abbrev pub frame_fault : Frame → Option FrameFault
frame_fault frame = option_or (head_fault frame.head)
    (if lacks_increment frame.head.kind frame.content then Some (ZeroIncrement frame.head.stream)
    else None)

-- the error code of a fault (RFC 9113, sections 4.2 and 6)
abbrev pub fault_error : FrameFault → ErrorCode
fault_error TooLong = FrameSizeError
fault_error BadLength = FrameSizeError
fault_error BadPadding = ProtocolError
fault_error WrongStream = ProtocolError
fault_error (ZeroIncrement stream) = ProtocolError
fault_error OutOfMemory = InternalError

-- a number for each fault
abbrev pub fault_code : FrameFault → ℕ
fault_code TooLong = 1
fault_code BadLength = 2
fault_code BadPadding = 3
fault_code WrongStream = 4
fault_code (ZeroIncrement stream) = 5
fault_code OutOfMemory = 6
