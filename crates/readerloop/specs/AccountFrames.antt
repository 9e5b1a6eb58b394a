-- The account of a call, by the frames of its stream (RFC 9113, sections 5.1 and 8.1).
use mathlib.Core.List.{IsPrefix}
use Rattle.std.specs.Prelude.{◌≡◌, ◌⊎◌, ◌<◌, ℕ, true, List, None, Some, length}
use Rattle.account.specs.declared.call.Account.{Account}
use Rattle.account.specs.declared.call.Shut.TheVariants as shut
use Rattle.h2frame.specs.FrameList.{Entry}
use Rattle.outwriter.specs.Steps.{Order}
use Rattle.session.specs.StreamData.{Finished, data_of, ending_of}
use Rattle.callparts.specs.declared.report.Ending.{Ending}
use Rattle.readerloop.specs.Orders.{IsReset}
use Rattle.readerloop.specs.Reports.{is_heard_out}

-- the half was reset, and a reset of the stream that is to be written was ordered
abbrev pub WasReset : ℕ → List Order → Account → Type 0
WasReset id orders account =
    ((code : ℕ) × (account.shut ≡ Some (shut.Reset code))) × IsReset id orders

-- the call missed bytes of its stream's data, and how its half is shut isn't known
abbrev pub HasMissed : List ℕ → Account → Type 0
HasMissed sent account = (account.shut ≡ None) × (length account.fed < length sent)

-- The call was fed a front of its stream's data, and all of them where its half ended, which it did
-- only where END_STREAM ended the stream. Where END_STREAM ended the stream and all that came was
-- heard, the half ended, or a reset of the stream was ordered, or the call missed data.
pub record HasFrames (end : Ending) (entries : List Entry) (orders : List Order) (id : ℕ)
    (account : Account) : Type 0 where
  pub front : IsPrefix account.fed (data_of id entries)
  pub whole : account.shut ≡ Some shut.End
      → (account.fed ≡ data_of id entries) × (ending_of id entries ≡ Finished)
  pub ends : is_heard_out end ≡ true → ending_of id entries ≡ Finished
      → (account.shut ≡ Some shut.End)
      ⊎ (WasReset id orders account ⊎ HasMissed (data_of id entries) account)
