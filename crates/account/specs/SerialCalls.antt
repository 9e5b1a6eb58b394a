-- What is kept while events are replayed.
use Rattle.std.specs.Prelude.{◌≡◌, ◌++◌, All}
use Rattle.lpm.specs.Messages.{frames, IsMessage, IsFrame}
use Rattle.account.specs.declared.call.Account.{Account}
use Rattle.account.specs.declared.call.OutItem.{OutItem}
use Rattle.account.specs.declared.call.OutItem.TheVariants.{Head, Message, Trailers, Left}
use Rattle.account.specs.declared.serial.SerialCall.{SerialCall}
use Rattle.account.specs.Accounts.{Begins, IsResponse, MayTell}

abbrev pub account_of : SerialCall → Account
account_of r = record {
  fed = r.fed.items;
  shut = r.shut;
  taken = r.taken.items;
  told = r.told;
  given = r.given.items;
  sent = r.sent.items;
}

pub record IsConsistent (r : SerialCall) : Type 0 where
  -- the splitter has what was fed, but for the messages that were taken
  pub whole : r.fed.items ≡ frames r.taken.items ++ r.splitter
  pub each : All IsMessage r.taken.items
  pub told : MayTell r.told r.fed.items r.shut r.taken.items
  pub sent : Begins r.sent.items r.given.items
  pub given : IsResponse r.given.items

-- if the item is a message, it is one with its prefix
abbrev pub IsFramed : OutItem → Type 0
IsFramed (Head fields) = Unit {0}
IsFramed (Message bytes) = IsFrame bytes
IsFramed (Trailers fields) = Unit {0}
IsFramed Left = Unit {0}
