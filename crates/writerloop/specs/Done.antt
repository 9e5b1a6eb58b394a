-- Why nothing more is written of a call, where its writer is at its end (RFC 9113, sections 5.1,
-- 6.4 and 6.9). A run has the latest first.
use Rattle.std.specs.Prelude.{
  ◌≡◌,
  ◌⊎◌,
  ℕ,
  true,
  All,
  List,
  [],
  ◌++◌,
  map,
}
use Rattle.std.specs.List.{list_any}
use Rattle.account.specs.declared.call.OutItem.{OutItem}
use Rattle.callbox.specs.declared.sender.Sender.{Sender}
use Rattle.sendwindows.specs.WindowHistory.{room_after}
use Rattle.sendwindows.specs.WindowHistory.{Step as WindowStep}
use Rattle.outwriter.specs.Calls.{IsReturned, is_served}
use Rattle.outwriter.specs.Frames.{is_last}
use Rattle.outwriter.specs.Histories.{HasHistory, is_over, is_stream, was_reset}
use Rattle.outwriter.specs.Parts.{Mark, Byte, IsPart, spelled}
use Rattle.outwriter.specs.Steps.{Step, frames_of}

-- the peer's windows let nothing through on the stream
abbrev pub IsShut : ℕ → List Step → Type 0
IsShut id run = (history : List WindowStep) × HasHistory run history × (room_after history id ≡ 0)

-- the frames of the stream have all that these items spell, but for these bytes of DATA
pub record HasAllBut (bytes : List ℕ) (run : List Step) (id : ℕ)
    (items : List OutItem) : Type 0 where
  pub part : List Mark
  pub written : IsPart id run part
  pub all : spelled items ≡ part ++ map Byte bytes

-- Nothing more is written of a call whose sender got these items, and had these ahead: the end of
-- its stream was written, or a Reset of it was taken; or DATA of it wait, and the peer's windows
-- are shut; or all that the sender got is written, and nothing is ahead.
pub data HasNoMore (run : List Step) (id : ℕ) (items ahead : List OutItem) : Type 0 where
  Ended : is_over id run ≡ true → HasNoMore run id items ahead
  WasReset : was_reset id run ≡ true → HasNoMore run id items ahead
  Waits : (bytes : List ℕ) → HasAllBut bytes run id items → IsShut id run
      → HasNoMore run id items ahead
  GotAll : HasAllBut [] run id items → ahead ≡ [] → HasNoMore run id items ahead

-- the last frame is a GOAWAY with an error (section 5.4.1)
abbrev pub HasFailed : List Step → Type 0
HasFailed run = list_any is_last (frames_of run) ≡ true

-- so it is of the call of this stream, where no more is known to be ahead
abbrev pub IsDone : List Step → ℕ × List OutItem → Type 0
IsDone run call =
    is_served call.0 run ≡ true → is_stream call.0 ≡ true → HasNoMore run call.0 call.1 []

-- so it is of each call whose sender a core has, unless the connection has failed
abbrev pub HaveNoMore : {L In Out Shut : Type 0} → (Out → List OutItem) → (Out → List OutItem)
    → List Step → List (ℕ × Sender L In Out Shut) → Type 0
HaveNoMore got ahead run senders = HasFailed run
    ⊎ All (λ call.
    is_served call.0 run ≡ true → is_stream call.0 ≡ true
    → HasNoMore run call.0 (got call.1.rx) (ahead call.1.rx)) senders

-- no sender was given back before the end of its stream was written or a Reset of it was taken
abbrev pub TellBack : List Step → Type 0
TellBack run =
    (id : ℕ) (items : List OutItem) → IsReturned id items run → is_served id run ≡ true
    → is_stream id ≡ true
    → (is_over id run ≡ true) ⊎ (was_reset id run ≡ true)
