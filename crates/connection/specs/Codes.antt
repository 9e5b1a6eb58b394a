-- What each error code of a reset says of the bytes that came, of the calls that were admitted, and
-- of what they were fed (RFC 9113, sections 5.1.2, 5.4.2, 6.9.1, 7 and 8.1.1). Lists of steps and
-- runs have the latest first.
use Rattle.std.specs.Prelude.{◌≡◌, ◌≢◌, ◌⊎◌, ◌<◌, ℕ, true, false, nat_eq, List}
use Rattle.std.specs.List.{list_any}
use Rattle.callparts.specs.declared.call_account.CallAccount.{CallAccount}
use Rattle.h2frame.specs.FrameList.{Entry}
use Rattle.h2frame.specs.declared.error_code.ErrorCode.{ErrorCode}
use Rattle.h2frame.specs.declared.error_code.ErrorCode.TheVariants as error
use Rattle.outwriter.specs.Steps.{Order}
use Rattle.outwriter.specs.Steps.{Step as RunStep}
use Rattle.session.specs.declared.event.InEvent.TheVariants as events
use Rattle.session.specs.FlowBytes.{payloads}
use Rattle.session.specs.StreamData.{Unended, ending_told, pieces}
use Rattle.readerloop.specs.Calls.{is_admitted}
use Rattle.readerloop.specs.Steps.{Step, WasTold, events_of, fed_by, reported, since}
use Rattle.writerloop.specs.Blamed.{WouldOverflow}
use Rattle.connection.specs.Causes.{IsMalformed, WasOpened}
use Rattle.connection.specs.Left.{WasLeft}
use Rattle.connection.specs.Limits.{IsOneTooMany, WasDrained}

-- 7: no call of the stream was admitted, but 64 were that have lesser ids, or the server drained
abbrev pub WasRefused : ℕ → List Step → Type 0
WasRefused id told =
    (IsOneTooMany id told ⊎ WasDrained id told) × (list_any (nat_eq id) (reported told) ≡ false)

-- 8: no event that was heard ends the call's stream
abbrev pub WasUnended : ℕ → List Step → Type 0
WasUnended id told =
    (is_admitted id told ≡ true) × (ending_told id (events_of (since id told)) ≡ Unended)

-- 11: the call was fed less than all data that the events have of its stream
abbrev pub MissesData : ℕ → List Step → Type 0
MissesData id told =
    (is_admitted id told ≡ true)
    × (fed_by id (since id told) ≢ pieces id (events_of (since id told)))

-- The cause of a code. 1: the head is malformed. 2: the call was left, as the writer saw, and its
-- account has no status. 3: the payloads of the DATA that came, padding too, have more than 65,535
-- bytes, or a control of the peer that the run took would make the stream's window too large.
abbrev pub HasCodeCause : ErrorCode → ℕ → List Entry → List Step → List Order → List RunStep
    → List CallAccount → Type 0
HasCodeCause error.ProtocolError id entries told put run accounts = IsMalformed id told
HasCodeCause error.InternalError id entries told put run accounts =
    WasOpened id put × WasLeft id accounts
HasCodeCause error.FlowControlError id entries told put run accounts =
    (65535 < payloads entries) ⊎ WouldOverflow id run
HasCodeCause error.RefusedStream id entries told put run accounts = WasRefused id told
HasCodeCause error.Cancel id entries told put run accounts = WasUnended id told
HasCodeCause error.EnhanceYourCalm id entries told put run accounts = MissesData id told
HasCodeCause _ id entries told put run accounts = ⊥

-- An event is an error of the stream with this code, or the code has the cause above.
abbrev pub MayHaveCode : ErrorCode → ℕ → List Entry → List Step → List Order → List RunStep
    → List CallAccount → Type 0
MayHaveCode code id entries told put run accounts =
    WasTold (events.StreamError id code) told ⊎ HasCodeCause code id entries told put run accounts
