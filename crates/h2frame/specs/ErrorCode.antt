-- The error codes and their numbers (RFC 9113, section 7).
use Rattle.std.specs.Prelude.{ℕ, ◌==◌, if◌then◌else◌}
use Rattle.h2frame.specs.declared.error_code.ErrorCode.{ErrorCode}
use Rattle.h2frame.specs.declared.error_code.ErrorCode.TheVariants.{
  NoError,
  ProtocolError,
  InternalError,
  FlowControlError,
  SettingsTimeout,
  StreamClosed,
  FrameSizeError,
  RefusedStream,
  Cancel,
  CompressionError,
  ConnectError,
  EnhanceYourCalm,
  InadequateSecurity,
  Http11Required,
  Unknown,
}

-- the number of an error
abbrev pub error_number : ErrorCode → ℕ
error_number NoError = 0
error_number ProtocolError = 1
error_number InternalError = 2
error_number FlowControlError = 3
error_number SettingsTimeout = 4
error_number StreamClosed = 5
error_number FrameSizeError = 6
error_number RefusedStream = 7
error_number Cancel = 8
error_number CompressionError = 9
error_number ConnectError = 10
error_number EnhanceYourCalm = 11
error_number InadequateSecurity = 12
error_number Http11Required = 13
error_number (Unknown code) = code

-- the error of a number
abbrev pub error_of : ℕ → ErrorCode
error_of n =
    if n == 0 then NoError
    else (if n == 1 then ProtocolError
    else (if n == 2 then InternalError
    else (if n == 3 then FlowControlError
    else (if n == 4 then SettingsTimeout
    else (if n == 5 then StreamClosed
    else (if n == 6 then FrameSizeError
    else (if n == 7 then RefusedStream
    else (if n == 8 then Cancel
    else (if n == 9 then CompressionError
    else (if n == 10 then ConnectError
    else (if n == 11 then EnhanceYourCalm
    else (if n == 12 then InadequateSecurity
    else (if n == 13 then Http11Required
    else Unknown n)))))))))))))
