-- What was sent of each call, when that is the whole response to it, and how its stream ended.
use Rattle.std.specs.Prelude.{◌≡◌, ℕ, Bool, true, false, List, [], IsSome}
use Rattle.std.specs.List.{list_any}
use Rattle.account.specs.declared.call.Account.{Account}
use Rattle.account.specs.declared.call.OutItem.{OutItem}
use Rattle.callbox.specs.OutSides.{has_trailers}
use Rattle.callhead.specs.declared.head.CallHead.{CallHead}
use Rattle.callrun.specs.Outcomes.{IsOutcome, is_end}
use Rattle.callparts.specs.declared.call_account.CallAccount.{CallAccount}
use Rattle.handlers.specs.declared.step.MethodStep.{MethodStep as Answer}
use Rattle.outwriter.specs.Frames.{ends}
use Rattle.outwriter.specs.Histories.{was_reset}
use Rattle.outwriter.specs.Parts.{Mark, spelled}
use Rattle.outwriter.specs.Steps.{Step, frames_of}
use Rattle.writerloop.specs.Done.{HasAllBut, IsDone, IsShut}
use Rattle.writerloop.specs.Sent.{IsTold}

-- What the stream of a call carries of which these items were sent. Its frames begin what the items
-- spell; or they are a front of that and then a reset. Where all that came was heard, nothing more
-- was to be written of the call.
pub record CarriesWhatWasSent (heard_out : Bool) (run : List Step) (id : ℕ)
    (items : List OutItem) : Type 0 where
  pub told : IsTold run (id, items)
  pub done : heard_out ≡ true → IsDone run (id, items)

-- How the stream of a call ended of which these items were sent.
pub data StreamEnd (run : List Step) (id : ℕ) (sent : List OutItem) : Type 0 where
  -- END_STREAM was written on it, as trailers have it (RFC 9113, section 8.1)
  WasEnded : list_any (ends id) (frames_of run) ≡ true → StreamEnd run id sent
  -- a Reset of it was taken: of the peer's RST_STREAM, or one of the server's (section 6.4)
  WasReset : was_reset id run ≡ true → StreamEnd run id sent
  -- no trailers were sent, and the peer's windows let nothing through (section 6.9)
  WasHeldBack : has_trailers sent ≡ false → IsShut id run → StreamEnd run id sent
  -- no trailers were sent, and all that was sent is written
  WasLeftOpen : has_trailers sent ≡ false → HasAllBut [] run id sent → StreamEnd run id sent

-- The frames of a stream are the whole response to its call: all that was given. That is an outcome
-- of what the method of its index answers to all that was taken, and the account has its status.
pub record IsWholeResponse (answers : ℕ → List (List ℕ) → Bool → Answer → Type 0) (head : CallHead)
    (whole : Account) (account : CallAccount) (part : List Mark) : Type 0 where
  -- all that was given was sent
  pub sent : whole.sent ≡ whole.given
  -- the frames spell each item of it, in order, and nothing else
  pub tells : part ≡ spelled whole.given
  -- whether the deadline had come, which is so only where the head has a timeout
  pub overdue : Bool
  pub timed : overdue ≡ true → IsSome head.timeout
  -- whatever the method answers, that is an outcome of it
  pub outcome : (answer : Answer) → answers account.method whole.taken (is_end whole.told) answer
      → IsOutcome head overdue whole.told answer whole.given account.status
  -- the outcome has trailers, with the account's status
  pub status : (answer : Answer) → answers account.method whole.taken (is_end whole.told) answer
      → IsSome account.status
