-- What the two ends of a call's in side give when they are brought together.
use Rattle.std.specs.Prelude.{◌≡◌, ℕ, List, Option}
use Rattle.std.specs.List.{concat}
use Rattle.lane.specs.Lawful.{count_of}
use Rattle.account.specs.declared.call.Shut.{Shut}
use Rattle.account.specs.declared.call.RequestEnd.{RequestEnd}
use Rattle.callbox.specs.declared.in_side.InAccount.{InAccount}
use Rattle.account.specs.Accounts.{IsLawful}
use Rattle.account.specs.Runs.{run}
use Rattle.callbox.specs.InSides.{in_account, in_events}

pub record CountsIn (pieces : List (List ℕ)) (closed : Option Shut) (messages : List (List ℕ))
    (said : Option RequestEnd) (r : InAccount) : Type 0 where
  pub lawful : IsLawful (in_account pieces closed messages said)
  pub run : in_account pieces closed messages said ≡ run (in_events pieces closed messages said)
  pub fed : r.fed ≡ count_of (concat pieces)
  pub shut : r.shut ≡ closed
  pub taken : r.taken ≡ count_of messages
  pub told : r.told ≡ said
