-- Worked histories of a reader's calls, computed. A list of steps has the latest first.
use Rattle.std.proofs.Common.{lit<}
use Rattle.std.specs.Prelude.{◌≡◌, true, false, refl, List, [], ◌∷◌, Some, None}
use Rattle.account.specs.declared.call.Shut.TheVariants as shut
use Rattle.callhead.specs.declared.head.CallHead.{CallHead}
use Rattle.callparts.specs.declared.report.Ending.TheVariants.{OutOfMemory}
use Rattle.connbook.specs.declared.answers.AdmitFault.TheVariants as refused
use Rattle.connbook.specs.declared.answers.Receipt.TheVariants.{Feed, Discard, Overrun}
use Rattle.h2frame.specs.declared.error_code.ErrorCode.TheVariants.{
  NoError,
  RefusedStream,
  Cancel,
  EnhanceYourCalm,
}
use Rattle.callhead.specs.StatusFields.{unknown_method}
use Rattle.outwriter.specs.declared.control.WriterOrder.TheVariants.{Open, Refuse, Reset, Goaway}
use Rattle.reasons.specs.declared.Reason.TheVariants as reason
use Rattle.session.specs.declared.event.InEvent.TheVariants as events
use Rattle.readerloop.specs.Orders.{ends_at, orders_at, orders_by}
use Rattle.readerloop.specs.Steps.{
  AdmitsNoMore,
  NoWorker,
  Stopped,
  Plain,
  Admitted,
  Unserved,
  Unknown,
  TurnedAway,
  Received,
  Missed,
  Step,
  Told,
  CutOff,
  Drains,
  Lacks,
  Lacking,
  Misses,
  ShutAs,
  admitted,
  reported,
  head_of,
  last_of,
  IsRising,
  since,
  closing_by,
  shut_by,
  fed_by,
  lets_go,
  WasLetGo,
}

-- call 1 is fed four bytes in two pieces, and its half ends
abbrev pub one_call : CallHead → List Step
one_call head =
    Told (events.End 1) Plain
    ∷ Told (events.Data 1 (13 ∷ []) 1) (Received Feed)
    ∷ Told (events.Data 1 (10 ∷ 11 ∷ 12 ∷ []) 3) (Received Feed)
    ∷ Told (events.Open 1 head) Admitted
    ∷ []

pub all_is_fed : (head : CallHead) → fed_by 1 (since 1 (one_call head)) ≡ 10 ∷ 11 ∷ 12 ∷ 13 ∷ []
all_is_fed head = refl

pub half_has_ended : (head : CallHead) → shut_by 1 (since 1 (one_call head)) ≡ Some shut.End
half_has_ended head = refl

-- RST_STREAM after END_STREAM changes nothing of the half
pub end_comes_first : (head : CallHead)
    → shut_by 1 (since 1 (Told (events.Reset 1 Cancel) Plain ∷ one_call head)) ≡ Some shut.End
end_comes_first head = refl

-- the second piece finds no room, and the third is not fed
abbrev pub one_is_missed : CallHead → List Step
one_is_missed head =
    Told (events.Data 1 (12 ∷ []) 1) (Received Feed)
    ∷ Told (events.Data 1 (11 ∷ []) 1) Missed
    ∷ Told (events.Data 1 (10 ∷ []) 1) (Received Feed)
    ∷ Told (events.Open 1 head) Admitted
    ∷ []

pub first_is_fed : (head : CallHead) → fed_by 1 (since 1 (one_is_missed head)) ≡ 10 ∷ []
first_is_fed head = refl

-- 11 is ENHANCE_YOUR_CALM
pub missed_is_reset : (head : CallHead)
    → shut_by 1 (since 1 (one_is_missed head)) ≡ Some (shut.Reset 11)
missed_is_reset head = refl

-- a piece that no call takes is missed, unless it is padding alone; what comes later isn't fed, and
-- no end shuts the half
abbrev pub one_is_discarded : CallHead → List Step
one_is_discarded head =
    Told (events.End 1) Plain
    ∷ Told (events.Data 1 (12 ∷ []) 1) (Received Feed)
    ∷ Told (events.Data 1 (11 ∷ []) 1) (Received Discard)
    ∷ Told (events.Data 1 (10 ∷ []) 1) (Received Feed)
    ∷ Told (events.Open 1 head) Admitted
    ∷ []

pub first_alone : (head : CallHead) → fed_by 1 (since 1 (one_is_discarded head)) ≡ 10 ∷ []
first_alone head = refl

pub byte_is_missed : (head : CallHead)
    → closing_by 1 (since 1 (one_is_discarded head)) ≡ Some Misses
byte_is_missed head = refl

pub end_is_untold : (head : CallHead) → shut_by 1 (since 1 (one_is_discarded head)) ≡ None
end_is_untold head = refl

pub padding_is_none : closing_by 1 (Told (events.Data 1 [] 5) (Received Discard) ∷ []) ≡ None
padding_is_none = refl

-- where there was no memory for a piece the half is reset with INTERNAL_ERROR
pub lacking_is_reset : shut_by 1 (Told (events.Data 1 (10 ∷ []) 1) Lacking ∷ [])
    ≡ Some (shut.Reset 2)
lacking_is_reset = refl

-- calls 1 and 5 are admitted; 3 has no method, and 7 is one too many
abbrev pub two_calls : CallHead → List Step
two_calls head =
    Told (events.Open 7 head) (TurnedAway refused.TooMany)
    ∷ Told (events.Open 5 head) Admitted
    ∷ Told (events.Open 3 head) Unknown
    ∷ Told (events.Open 1 head) Admitted
    ∷ []

pub two_are_admitted : (head : CallHead) → admitted (two_calls head) ≡ 1 ∷ 5 ∷ []
two_are_admitted head = refl

pub fifth_is_last : (head : CallHead) → last_of (two_calls head) ≡ 5
fifth_is_last head = refl

pub two_rise : (head : CallHead) → IsRising (two_calls head)
two_rise head = (tt, (lit< tt, (tt, (lit< tt, tt))))

-- a call that no worker serves has a row
pub three_have_rows : (head : CallHead)
    → reported (Told (events.Open 9 head) (Unserved NoWorker) ∷ two_calls head) ≡ 1 ∷ 5 ∷ 9 ∷ []
three_have_rows head = refl

-- for want of a worker the connection ends; where the writing side has stopped nothing is ordered
pub unstarted_ends : (head : CallHead)
    → orders_at (two_calls head) (Told (events.Open 9 head) (Unserved NoWorker))
    ≡ Goaway 9 reason.Memory ∷ []
unstarted_ends head = refl

pub stopped_orders_none : (head : CallHead)
    → orders_at (two_calls head) (Told (events.Open 9 head) (Unserved Stopped)) ≡ []
stopped_orders_none head = refl

-- the head of a stream that was turned away is no call's
pub first_head : (head : CallHead) → head_of 1 (two_calls head) ≡ Some head
first_head head = refl

pub no_head_of_seventh : (head : CallHead) → head_of 7 (two_calls head) ≡ None
no_head_of_seventh head = refl

-- what came before a call was admitted doesn't concern it
pub since_begins_anew : (head : CallHead)
    → since 5 (two_calls head) ≡ Told (events.Open 7 head) (TurnedAway refused.TooMany) ∷ []
since_begins_anew head = refl

-- one too many is reset as not begun
pub too_many : (head : CallHead)
    → orders_at (two_calls head) (Told (events.Open 9 head) (TurnedAway refused.TooMany))
    ≡ Reset 9 RefusedStream true ∷ []
too_many head = refl

-- GOAWAY names the greatest stream that was begun, admitted or not
pub overrun_ends : (head : CallHead)
    → orders_at (two_calls head) (Told (events.Data 1 (10 ∷ []) 1) (Received Overrun))
    ≡ Goaway 7 reason.Overrun ∷ []
overrun_ends head = refl

pub missed_is_answered : (head : CallHead)
    → orders_at (two_calls head) (Told (events.Data 1 (10 ∷ []) 1) Missed)
    ≡ Reset 1 EnhanceYourCalm true ∷ []
missed_is_answered head = refl

-- where there is no memory for a piece the connection ends
pub lacking_ends : (head : CallHead)
    → orders_at (two_calls head) (Told (events.Data 1 (10 ∷ []) 1) Lacking)
    ≡ Goaway 7 reason.Memory ∷ []
lacking_ends head = refl

-- a piece that no call takes is counted, and nothing is ordered
pub discard_orders_none : (head : CallHead)
    → orders_at (two_calls head) (Told (events.Data 5 (10 ∷ []) 1) (Received Discard)) ≡ []
discard_orders_none head = refl

-- The server drains after the two calls: GOAWAY names the later of them, though stream 7 was begun.
-- A stream that begins after that is refused, and an error's GOAWAY names no greater stream.
pub drain_names_last : (head : CallHead)
    → orders_at (two_calls head) Drains ≡ Goaway 5 (reason.Code NoError) ∷ []
drain_names_last head = refl

pub drained_refuses : (head : CallHead)
    → orders_at (Drains ∷ two_calls head) (Told (events.Open 9 head) (TurnedAway refused.Draining))
    ≡ Reset 9 RefusedStream true ∷ []
drained_refuses head = refl

pub drained_fails : (head : CallHead)
    → orders_at (Told (events.Open 9 head) (TurnedAway refused.Draining) ∷ Drains ∷ two_calls head)
    (Told (events.Fatal reason.Memory) Plain)
    ≡ Goaway 5 reason.Memory ∷ []
drained_fails head = refl

pub drain_of_none : orders_at [] Drains ≡ Goaway 0 (reason.Code NoError) ∷ []
drain_of_none = refl

-- where memory runs out after a drain, GOAWAY names no greater stream either, and the connection
-- ends
pub drained_lacks : (head : CallHead)
    → orders_at (Told (events.Open 9 head) (TurnedAway refused.Draining) ∷ Drains
    ∷ two_calls head) Lacks
    ≡ Goaway 5 reason.Memory ∷ []
drained_lacks head = refl

pub lacks_ends : ends_at Lacks ≡ Some OutOfMemory
lacks_ends = refl

-- a call that is admitted after a drain is refused by the law
pub admitted_late : (head : CallHead)
    → ¬ AdmitsNoMore (Told (events.Open 9 head) Admitted ∷ Drains ∷ two_calls head)
admitted_late head (none, rest) = cc-some (none refl)
  where
    cc-some : {A : Type 0} {x : A} → Some x ≡ None → ⊥
    cc-some same = cc

-- a reset by the client goes on to the writing side, and isn't written
pub reset_goes_on : (head : CallHead)
    → orders_at (two_calls head) (Told (events.Reset 1 Cancel) Plain) ≡ Reset 1 Cancel false ∷ []
reset_goes_on head = refl

-- at the end of the input the halves that are open are reset, with RST_STREAM to the client
pub open_is_cut : (head : CallHead)
    → orders_at (two_calls head) (CutOff 1) ≡ Reset 1 Cancel true ∷ []
open_is_cut head = refl

pub shut_is_not_cut : (head : CallHead) → orders_at (one_call head) (CutOff 1) ≡ []
shut_is_not_cut head = refl

-- the orders of three steps, in turn
pub in_turn : (head : CallHead)
    → orders_by (Told (events.Open 5 head) Admitted ∷ Told (events.Open 3 head) Unknown
    ∷ Told (events.Open 1 head) Admitted ∷ [])
    ≡ Open 1 tt ∷ Refuse 3 unknown_method ∷ Open 5 tt ∷ []
in_turn head = refl

-- a piece that is lost lets the half go; padding alone doesn't, and a reset by the client doesn't
pub missed_lets_go : lets_go 1 (Told (events.Data 1 (11 ∷ []) 1) Missed) ≡ true
missed_lets_go = refl

pub padding_lets_none : lets_go 1 (Told (events.Data 1 [] 5) (Received Discard)) ≡ false
padding_lets_none = refl

pub client_resets : lets_go 1 (Told (events.Reset 1 Cancel) Plain) ≡ false
client_resets = refl

-- END_STREAM comes after the piece that was missed
pub missed_before_end : (head : CallHead)
    → WasLetGo 1 (ShutAs (shut.Reset 11)) (Told (events.End 1) Plain ∷ one_is_missed head)
missed_before_end head = record {
  later = Told (events.End 1) Plain ∷ Told (events.Data 1 (12 ∷ []) 1) (Received Feed) ∷ [];
  step = Told (events.Data 1 (11 ∷ []) 1) Missed;
  before =
      Told (events.Data 1 (10 ∷ []) 1) (Received Feed) ∷ Told (events.Open 1 head) Admitted ∷ [];
  parts = refl;
  heard = refl;
  known = refl;
  unshut = refl;
  lets = refl;
  closes = refl;
  ended = refl;
}
