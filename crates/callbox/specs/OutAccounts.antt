-- What the two ends of a call's out side give when they are brought together.
use Rattle.std.specs.Prelude.{◌≡◌, List}
use Rattle.lane.specs.Lawful.{count_of}
use Rattle.account.specs.declared.call.OutItem.{OutItem}
use Rattle.callbox.specs.declared.out_side.OutAccount.{OutAccount}
use Rattle.account.specs.Accounts.{IsLawful}
use Rattle.account.specs.Runs.{run}
use Rattle.callbox.specs.OutSides.{has_trailers, out_account, out_events}

pub record CountsOut (put got : List OutItem) (r : OutAccount) : Type 0 where
  pub lawful : IsLawful (out_account put got)
  pub run : out_account put got ≡ run (out_events put got)
  pub given : r.given ≡ count_of put
  pub sent : r.sent ≡ count_of got
  pub trailers_given : r.trailers_given ≡ has_trailers put
  pub trailers_sent : r.trailers_sent ≡ has_trailers got
