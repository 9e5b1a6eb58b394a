-- How a call goes on from turn to turn, over its two lanes.
use Rattle.std.specs.Prelude.{
  ◌≡◌,
  ◌⊎◌,
  ℕ,
  Bool,
  true,
  List,
  ◌++◌,
  Option,
  IfSome,
  IsSome,
  slice_get,
}
use Rattle.lane.specs.contracts.ring_lane.RingLaneLane.TheImpl.{ghosts, no_dict}
use Rattle.lane.specs.declared.ring_lane.RingLane.{RingLane}
use Rattle.lane.specs.declared.ring_lane.RingLaneIn.{RingLaneIn}
use Rattle.lane.specs.declared.ring_lane.RingLaneOut.{RingLaneOut}
use Rattle.lane.specs.declared.ring_lane.RingLaneShut.{RingLaneShut}
use Rattle.lane.specs.RingLane.{LaneName, got, in_name, out_name, put_in, put_shut, shut_name}
use Rattle.account.specs.contracts.call.OutItem as out_item
use Rattle.account.specs.declared.call.OutItem.{OutItem}
use Rattle.callbox.specs.contracts.piece.InPiece as in_piece
use Rattle.callbox.specs.declared.piece.InPiece.{InPiece}
use Rattle.callbox.specs.InSides.{TakesMessages}
use Rattle.handlers.specs.declared.state.MethodState.{MethodState}
use Rattle.handlers.specs.declared.step.MethodStep.{MethodStep}
use Rattle.callrun.specs.declared.call_run.CallRun.{CallRun}
use Rattle.callrun.specs.declared.response.Response.{Response}
use Rattle.callrun.specs.Outcomes.{IsOutcome}
use Rattle.callrun.specs.Runs.{GivesOf, HasCome}
use Rattle.callrun.specs.Sides.{ResponseView, name_by, shown}
use Rattle.callparts.specs.Lanes.{OutGiven, OutGiver}
use Rattle.callparts.specs.Workers.{IsGivenAs}

-- a call over its two lanes
abbrev pub LaneRun : Type 0
LaneRun = CallRun (RingLane InPiece) (RingLane OutItem)
    (RingLaneIn InPiece) (RingLaneOut InPiece) (RingLaneShut InPiece)
    (RingLaneIn OutItem) (RingLaneOut OutItem) (RingLaneShut OutItem)
    (ghosts in_piece.the_row no_dict) (ghosts out_item.the_row no_dict)

-- ---- what a call shows

-- what its giving end shows: what the call was given
abbrev pub shown_by : Response OutGiver OutGiven → ResponseView
shown_by response = shown (λ g. put_in g.tx) (λ s. put_shut s.shut) (λ s. true) response

abbrev pub shows : LaneRun → ResponseView
shows run = shown_by run.response

abbrev pub giver_name : Response OutGiver OutGiven → Option LaneName
giver_name response = name_by (λ g. in_name g.tx) (λ s. shut_name s.shut) response

-- Whatever messages led to the call before, those and the ones that were taken since lead to it
-- after.
abbrev pub LeadsOn : (List (List ℕ) → Bool → MethodStep → Type 0)
    → (MethodState → List (List ℕ) → MethodStep → Type 0)
    → LaneRun → LaneRun → Type 0
LeadsOn answers stands before after = (messages : List (List ℕ))
    → TakesMessages (got before.taker.rx) before.taker.progress messages
    → HasCome answers stands before.taker.progress.told messages before.call
    before.in_hand (shows before)
    → (more : List (List ℕ))
    × TakesMessages (got after.taker.rx) after.taker.progress (messages ++ more)
    × HasCome answers stands after.taker.progress.told (messages ++ more) after.call
    after.in_hand (shows after)

-- a call leads on so, by the method that it names
abbrev pub GoesOn : {A : Type 0} → (A → List (List ℕ) → Bool → MethodStep → Type 0)
    → (A → MethodState → List (List ℕ) → MethodStep → Type 0) → List A → LaneRun → LaneRun → Type 0
GoesOn answers stands methods before after =
    IfSome (slice_get methods before.index) (λ m. LeadsOn (answers m) (stands m) before after)

-- It is one call before and after: its ends, method, head and deadline didn't change. The deadline
-- counts as come only where it has one.
abbrev pub IsOneCall : LaneRun → LaneRun → Type 0
IsOneCall before after = (out_name after.taker.rx ≡ out_name before.taker.rx)
    × (giver_name after.response ≡ giver_name before.response)
    × (after.index ≡ before.index) × (after.call.head ≡ before.call.head)
    × (after.call.deadline ≡ before.call.deadline)
    × (after.call.overdue ≡ true → (before.call.overdue ≡ true) ⊎ IsSome before.call.deadline)

-- What was given is an outcome of whatever answer led to the call, maybe with a status, and after
-- it at most that the call was left.
abbrev pub EndsAs : LaneRun → List OutItem → Option ℕ → Type 0
EndsAs run given status = (items : List OutItem) × IsGivenAs items given
    × ((answer : MethodStep) → GivesOf run.taker.progress.told answer run.call (shows run)
    → IsOutcome run.call.head run.call.overdue run.taker.progress.told answer items status)
