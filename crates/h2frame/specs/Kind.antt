-- The types of frames and their codes (RFC 9113, section 6).
use Rattle.std.specs.Prelude.{ℕ, ◌==◌, if◌then◌else◌}
use Rattle.h2frame.specs.declared.kind.FrameKind.{FrameKind}
use Rattle.h2frame.specs.declared.kind.FrameKind.TheVariants.{
  Data,
  Headers,
  Priority,
  RstStream,
  Settings,
  PushPromise,
  Ping,
  GoAway,
  WindowUpdate,
  Continuation,
  Unknown,
}

-- the code of a type
abbrev pub code_of : FrameKind → ℕ
code_of Data = 0
code_of Headers = 1
code_of Priority = 2
code_of RstStream = 3
code_of Settings = 4
code_of PushPromise = 5
code_of Ping = 6
code_of GoAway = 7
code_of WindowUpdate = 8
code_of Continuation = 9
code_of (Unknown code) = code

-- the type of a code
abbrev pub kind_of : ℕ → FrameKind
kind_of n =
    if n == 0 then Data
    else (if n == 1 then Headers
    else (if n == 2 then Priority
    else (if n == 3 then RstStream
    else (if n == 4 then Settings
    else (if n == 5 then PushPromise
    else (if n == 6 then Ping
    else (if n == 7 then GoAway
    else (if n == 8 then WindowUpdate
    else (if n == 9 then Continuation
    else Unknown n)))))))))
