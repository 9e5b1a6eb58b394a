-- The code with which a connection ends, by the reason (RFC 9113, sections 4.3, 5.1, 5.4.1, 6.5.2,
-- 6.9.1 and 7).
use Rattle.h2frame.specs.declared.error_code.ErrorCode.{ErrorCode}
use Rattle.h2frame.specs.declared.error_code.ErrorCode.TheVariants.{
  ProtocolError,
  InternalError,
  FlowControlError,
  CompressionError,
  EnhanceYourCalm,
}
use Rattle.h2frame.specs.declared.setting.SettingId.{SettingId}
use Rattle.h2frame.specs.declared.setting.SettingId.TheVariants.{InitialWindowSize}
use Rattle.h2frame.specs.Faults.{fault_error}
use Rattle.hpack_codec.specs.declared.fault.HpackFault.{HpackFault}
use Rattle.hpack_codec.specs.declared.fault.HpackFault.TheVariants.{TooLarge}
use Rattle.reasons.specs.declared.Reason.{Reason}
use Rattle.reasons.specs.declared.Reason.TheVariants.{
  Code,
  Preface,
  First,
  Frame,
  Push,
  Lone,
  Interrupted,
  BlockTooLong,
  Hpack,
  Setting,
  Stream,
  Overrun,
  Window,
  Memory,
}

-- a block that can't be read (section 4.3); for one that is too large the code is ENHANCE_YOUR_CALM
abbrev pub block_error : HpackFault → ErrorCode
block_error TooLarge = EnhanceYourCalm
block_error _ = CompressionError

-- the value of a parameter (section 6.5.2)
abbrev pub setting_error : SettingId → ErrorCode
setting_error InitialWindowSize = FlowControlError
setting_error _ = ProtocolError

abbrev pub code_of : Reason → ErrorCode
code_of (Code error) = error
code_of Preface = ProtocolError
code_of First = ProtocolError
code_of (Frame fault) = fault_error fault
code_of Push = ProtocolError
code_of Lone = ProtocolError
code_of Interrupted = ProtocolError
code_of BlockTooLong = EnhanceYourCalm
code_of (Hpack fault) = block_error fault
code_of (Setting id) = setting_error id
code_of (Stream kind error) = error
code_of Overrun = FlowControlError
code_of Window = FlowControlError
code_of Memory = InternalError
