-- No text is longer than 128 bytes.
use Rattle.std.proofs.Common.{◌≤◌, length, lit≤}
use Rattle.h2frame.specs.declared.fault.FrameFault.{FrameFault}
use Rattle.h2frame.specs.declared.fault.FrameFault.TheVariants as fault
use Rattle.h2frame.specs.declared.kind.FrameKind.{FrameKind}
use Rattle.h2frame.specs.declared.kind.FrameKind.TheVariants as kind
use Rattle.h2frame.specs.declared.setting.SettingId.{SettingId}
use Rattle.h2frame.specs.declared.setting.SettingId.TheVariants as setting
use Rattle.hpack_codec.specs.declared.fault.HpackFault.{HpackFault}
use Rattle.hpack_codec.specs.declared.fault.HpackFault.TheVariants as hpack
use Rattle.reasons.specs.declared.Reason.{Reason}
use Rattle.reasons.specs.declared.Reason.TheVariants.{
  Code,
  Preface,
  First,
  Frame,
  Push,
  Lone,
  Interrupted,
  BlockTooLong,
  Hpack,
  Setting,
  Stream,
  Overrun,
  Window,
  Memory,
}
use Rattle.reasons.specs.Texts.{
  text_of,
  max_text,
  frame_text,
  hpack_text,
  setting_text,
  unbegun_text,
}

short-frame : (fault : FrameFault) → length (frame_text fault) ≤ max_text
short-frame fault.TooLong = lit≤ tt
short-frame fault.BadLength = lit≤ tt
short-frame fault.BadPadding = lit≤ tt
short-frame fault.WrongStream = lit≤ tt
short-frame (fault.ZeroIncrement stream) = lit≤ tt
short-frame fault.OutOfMemory = lit≤ tt

short-hpack : (fault : HpackFault) → length (hpack_text fault) ≤ max_text
short-hpack hpack.Index = lit≤ tt
short-hpack hpack.Integer = lit≤ tt
short-hpack hpack.Huffman = lit≤ tt
short-hpack hpack.SizeUpdate = lit≤ tt
short-hpack hpack.Truncated = lit≤ tt
short-hpack hpack.TooLarge = lit≤ tt
short-hpack hpack.OutOfMemory = lit≤ tt
short-hpack hpack.Dead = lit≤ tt

short-setting : (id : SettingId) → length (setting_text id) ≤ max_text
short-setting setting.EnablePush = lit≤ tt
short-setting setting.InitialWindowSize = lit≤ tt
short-setting setting.MaxFrameSize = lit≤ tt
short-setting _ = lit≤ tt

short-unbegun : (kind : FrameKind) → length (unbegun_text kind) ≤ max_text
short-unbegun kind.Headers = lit≤ tt
short-unbegun kind.Data = lit≤ tt
short-unbegun kind.RstStream = lit≤ tt
short-unbegun kind.WindowUpdate = lit≤ tt
short-unbegun _ = lit≤ tt

pub short-text : (reason : Reason) → length (text_of reason) ≤ max_text
short-text (Code error) = lit≤ tt
short-text Preface = lit≤ tt
short-text First = lit≤ tt
short-text (Frame fault) = short-frame fault
short-text Push = lit≤ tt
short-text Lone = lit≤ tt
short-text Interrupted = lit≤ tt
short-text BlockTooLong = lit≤ tt
short-text (Hpack fault) = short-hpack fault
short-text (Setting id) = short-setting id
short-text (Stream kind error) = short-unbegun kind
short-text Overrun = lit≤ tt
short-text Window = lit≤ tt
short-text Memory = lit≤ tt
