use Rattle.std.proofs.Common.{◌≡◌, take}
use Rattle.account.specs.Runs.{run}
use Rattle.account.specs.SerialCalls.{account_of, IsConsistent}
use Rattle.account.proofs.serial.replay.Given as goal

-- the call is where the events so far lead
abbrev pub invariant-loop-event : goal.invariant-loop-event
invariant-loop-event l =
    (account_of l.call ≡ run (take l.event-index l.events)) × IsConsistent l.call
