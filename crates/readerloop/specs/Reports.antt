-- The accounts of a connection's calls, each with what the reader heard of its stream.
use Rattle.std.specs.Prelude.{◌≡◌, ◌⊎◌, ℕ, Bool, true, false, List, [], ◌∷◌, None, Some, All, map}
use Rattle.std.specs.List.{list_any}
use Rattle.std.specs.Option.{is_some}
use mathlib.Core.List.{IsPrefix}
use Rattle.account.specs.declared.call.Account.{Account}
use Rattle.account.specs.declared.call.OutItem.{OutItem}
use Rattle.account.specs.declared.call.Shut.TheVariants as shut
use Rattle.callbox.specs.OutSides.{has_trailers}
use Rattle.callhead.specs.declared.head.CallHead.{CallHead}
use Rattle.handlers.specs.declared.step.MethodStep.{MethodStep as Answer}
use Rattle.outwriter.specs.Steps.{Order}
use Rattle.session.specs.declared.event.InEvent.{InEvent}
use Rattle.session.specs.Events.{Events}
use Rattle.session.specs.StreamData.{Finished, ending_told}
use Rattle.session.specs.Trailers.{is_stream_error}
use Rattle.callparts.specs.declared.call_account.CallAccount.{CallAccount}
use Rattle.callparts.specs.declared.report.Ending.{Ending}
use Rattle.callparts.specs.declared.report.Ending.TheVariants as ending
use Rattle.callparts.specs.Accounts.{StandsOn, unserved}
use Rattle.readerloop.specs.Calls.{is_admitted}
use Rattle.readerloop.specs.Orders.{IsReset, ends_at}
use Rattle.readerloop.specs.Steps.{
  Step,
  WasUnserved,
  closing_by,
  events_of,
  fed_by,
  head_of,
  shut_by,
  since,
}

-- these events are the first that the bytes that came mean
abbrev pub IsFront : List ℕ → List InEvent → Type 0
IsFront came given = (all : List InEvent) → Events came all → IsPrefix given all

-- whether all that came was heard: the input ended, a read failed, or the reader stopped because no
-- call was live any more
abbrev pub is_heard_out : Ending → Bool
is_heard_out ending.InputEnded = true
is_heard_out ending.PeerGoaway = true
is_heard_out (ending.ProtocolError code) = false
is_heard_out ending.ReadFailed = true
is_heard_out ending.WriteFailed = false
is_heard_out ending.OutOfMemory = false
is_heard_out ending.Drained = true

-- These events are the first that the bytes that came mean, and all of them where all that came was
-- heard.
pub record AreHeard (end : Ending) (came : List ℕ) (given : List InEvent) : Type 0 where
  pub front : IsFront came given
  pub whole : is_heard_out end ≡ true → Events came given

-- no step ends the connection
abbrev pub AreCalm : List Step → Type 0
AreCalm [] = Unit {0}
AreCalm (step ∷ before) = (ends_at step ≡ None) × AreCalm before

-- END_STREAM ended the stream, or an error of the stream came
abbrev pub IsEndedOrError : ℕ → List InEvent → Type 0
IsEndedOrError id given =
    (ending_told id given ≡ Finished) ⊎ (list_any (is_stream_error id) given ≡ true)

-- Where the half of a call was reset, though END_STREAM or an error of its stream came, a reset of
-- the stream that is to be written was ordered.
abbrev pub WasResetFor : List Step → List Order → ℕ → Type 0
WasResetFor told orders id =
    (code : ℕ) → IsEndedOrError id (events_of (since id told))
    → shut_by id (since id told) ≡ Some (shut.Reset code) → IsReset id orders

-- ---- the account of a call

-- A call was admitted, and no worker serves it: nothing of it was fed, taken or given.
pub record IsUnserved (names : List ℕ → ℕ → Type 0) (told : List Step)
    (account : CallAccount) : Type 0 where
  pub head : CallHead
  pub apart : is_admitted account.id told ≡ false
  pub opened : WasUnserved account.id head told
  pub named : names head.path account.method
  pub bare : account ≡ unserved account.id account.method

module _ (answers : ℕ → List (List ℕ) → Bool → Answer → Type 0) (names : List ℕ → ℕ → Type 0)
    (carries : ℕ → List OutItem → Type 0) where
  -- A call was admitted with a head whose path names the account's method, and is over: its half
  -- was closed, its worker has answered it, and its sender came back. The account is lawful: what
  -- was fed and how the half was shut is what was heard, and what was sent is what the sender got.
  -- Without trailers it has no status.
  pub record IsSettled (told : List Step) (account : CallAccount) : Type 0 where
    pub head : CallHead
    pub known : is_admitted account.id told ≡ true
    pub opened : head_of account.id told ≡ Some head
    pub named : names head.path account.method
    pub over : is_some (closing_by account.id (since account.id told)) ≡ true
    pub whole : Account
    pub fed : whole.fed ≡ fed_by account.id (since account.id told)
    pub shut : whole.shut ≡ shut_by account.id (since account.id told)
    pub stands : StandsOn answers head whole account
    pub bare : has_trailers whole.given ≡ false → account.status ≡ None
    pub carried : carries account.id whole.sent

  -- The account of a call that was admitted: a worker served it, or none did.
  abbrev pub IsAccounted : List Step → CallAccount → Type 0
  IsAccounted told account = IsSettled told account ⊎ IsUnserved names told account

  -- There is an account for each of the calls of these streams, in this order.
  pub record AreAccounts (told : List Step) (ids : List ℕ)
      (accounts : List CallAccount) : Type 0 where
    pub each : All (IsAccounted told) accounts
    pub streams : map (λ account. account.id) accounts ≡ ids
