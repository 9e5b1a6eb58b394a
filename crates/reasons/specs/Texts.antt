-- The debug data of GOAWAY, by the reason (RFC 9113, section 6.8; the texts are our own).
use Rattle.std.specs.Prelude.{ℕ, List, codes}
use Rattle.h2frame.specs.declared.fault.FrameFault.{FrameFault}
use Rattle.h2frame.specs.declared.fault.FrameFault.TheVariants as fault
use Rattle.h2frame.specs.declared.kind.FrameKind.{FrameKind}
use Rattle.h2frame.specs.declared.kind.FrameKind.TheVariants as kind
use Rattle.h2frame.specs.declared.setting.SettingId.{SettingId}
use Rattle.h2frame.specs.declared.setting.SettingId.TheVariants as setting
use Rattle.hpack_codec.specs.declared.fault.HpackFault.{HpackFault}
use Rattle.hpack_codec.specs.declared.fault.HpackFault.TheVariants as hpack
use Rattle.reasons.specs.declared.Reason.{Reason}
use Rattle.reasons.specs.declared.Reason.TheVariants.{
  Code,
  Preface,
  First,
  Frame,
  Push,
  Lone,
  Interrupted,
  BlockTooLong,
  Hpack,
  Setting,
  Stream,
  Overrun,
  Window,
  Memory,
}

-- no text is longer, so that GOAWAY is a small frame
abbrev pub max_text : ℕ
max_text = 128

abbrev pub frame_text : FrameFault → List ℕ
frame_text fault.TooLong = codes "a frame of over 16,384 bytes (RFC 9113, 4.2)"
frame_text fault.BadLength = codes "a frame of a length that its type may not have (RFC 9113, 6)"
frame_text fault.BadPadding = codes "a frame with more padding than bytes (RFC 9113, 6.1, 6.2)"
frame_text fault.WrongStream =
    codes "a frame of a stream on stream 0, or one of the connection on a stream (RFC 9113, 6)"
frame_text (fault.ZeroIncrement stream) = codes "WINDOW_UPDATE of 0, wanted more (RFC 9113, 6.9)"
frame_text fault.OutOfMemory = codes "out of memory"

abbrev pub hpack_text : HpackFault → List ℕ
hpack_text hpack.Index = codes "an index that names no field (RFC 7541, 6.1)"
hpack_text hpack.Integer =
    codes "an integer over 4,294,967,295, or of over six bytes (RFC 7541, 5.1)"
hpack_text hpack.Huffman = codes "a text that is no Huffman text (RFC 7541, 5.2)"
hpack_text hpack.SizeUpdate =
    codes "a table of over 4,096 bytes, or one behind the first field (RFC 7541, 4.2, 6.3)"
hpack_text hpack.Truncated = codes "a header block that ends inside a field (RFC 7541, 6)"
hpack_text hpack.TooLarge = codes "fields of over 65,536 bytes"
hpack_text hpack.OutOfMemory = codes "out of memory"
hpack_text hpack.Dead = codes "out of memory"

abbrev pub setting_text : SettingId → List ℕ
setting_text setting.EnablePush = codes "setting 2, wanted 0 or 1 (RFC 9113, 6.5.2)"
setting_text setting.InitialWindowSize =
    codes "setting 4, wanted at most 2,147,483,647 (RFC 9113, 6.5.2)"
setting_text setting.MaxFrameSize = codes "setting 5, wanted 16,384 to 16,777,215 (RFC 9113, 6.5.2)"
setting_text _ = codes "a setting has a value that it may not have (RFC 9113, 6.5.2)"

-- the text for a frame on a stream that wasn't begun
abbrev pub unbegun_text : FrameKind → List ℕ
unbegun_text kind.Headers =
    codes "HEADERS on an even stream, or on one below the greatest that was begun (RFC 9113, 5.1.1)"
unbegun_text kind.Data = codes "DATA on a stream that wasn't begun (RFC 9113, 5.1)"
unbegun_text kind.RstStream = codes "RST_STREAM on a stream that wasn't begun (RFC 9113, 5.1)"
unbegun_text kind.WindowUpdate = codes "WINDOW_UPDATE on a stream that wasn't begun (RFC 9113, 5.1)"
unbegun_text _ = codes "a frame on a stream that wasn't begun (RFC 9113, 5.1)"

abbrev pub text_of : Reason → List ℕ
text_of (Code error) = codes ""
text_of Preface = codes "the bytes depart from the preface (RFC 9113, 3.4)"
text_of First = codes "another frame than SETTINGS came first (RFC 9113, 3.4)"
text_of (Frame fault) = frame_text fault
text_of Push = codes "PUSH_PROMISE, which no client may send (RFC 9113, 8.4)"
text_of Lone = codes "CONTINUATION outside a header block (RFC 9113, 6.10)"
text_of Interrupted = codes "another frame inside a header block (RFC 9113, 4.3)"
text_of BlockTooLong = codes "a header block of over 65,536 bytes"
text_of (Hpack fault) = hpack_text fault
text_of (Setting id) = setting_text id
text_of (Stream kind error) = unbegun_text kind
text_of Overrun = codes "DATA past the window of the connection (RFC 9113, 6.9.1)"
text_of Window =
    codes "a window over 2,147,483,647, by WINDOW_UPDATE or setting 4 (RFC 9113, 6.9.1, 6.9.2)"
text_of Memory = codes "out of memory"
