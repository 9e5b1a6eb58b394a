-- Worked examples of the definitions, computed.
use Rattle.std.specs.Prelude.{◌≡◌, [], refl, codes}
use Rattle.h2frame.specs.declared.error_code.ErrorCode.TheVariants.{
  NoError,
  ProtocolError,
  FrameSizeError,
  FlowControlError,
  CompressionError,
  EnhanceYourCalm,
}
use Rattle.h2frame.specs.declared.fault.FrameFault.TheVariants.{TooLong}
use Rattle.h2frame.specs.declared.setting.SettingId.TheVariants.{EnablePush, InitialWindowSize}
use Rattle.hpack_codec.specs.declared.fault.HpackFault.TheVariants.{Index, TooLarge}
use Rattle.reasons.specs.declared.Reason.TheVariants.{Code, First, Frame, Hpack, Setting}
use Rattle.reasons.specs.Codes.{code_of}
use Rattle.reasons.specs.Texts.{text_of}

-- a server that stops has no fault to report
pub nothing_to_tell : text_of (Code NoError) ≡ []
nothing_to_tell = refl

pub first_is_told : text_of First ≡ codes "another frame than SETTINGS came first (RFC 9113, 3.4)"
first_is_told = refl

pub first_is_protocol_error : code_of First ≡ ProtocolError
first_is_protocol_error = refl

pub long_frame : code_of (Frame TooLong) ≡ FrameSizeError
long_frame = refl

pub no_such_index : code_of (Hpack Index) ≡ CompressionError
no_such_index = refl

pub large_fields : code_of (Hpack TooLarge) ≡ EnhanceYourCalm
large_fields = refl

pub window_of_32_bits : code_of (Setting InitialWindowSize) ≡ FlowControlError
window_of_32_bits = refl

pub half_a_push : code_of (Setting EnablePush) ≡ ProtocolError
half_a_push = refl
