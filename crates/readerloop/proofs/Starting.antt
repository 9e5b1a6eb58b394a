-- A call that begins.
use Rattle.std.proofs.Common.{◌≡◌, ◌∙◌, ℕ, true, List, [], Option, None, Some, ap, subst, sym}
use Rattle.std.specs.Prelude.{option_map, slice_get}
use Rattle.account.specs.declared.call.OutItem.{OutItem}
use Rattle.callbox.specs.declared.piece.InPiece.{InPiece}
use Rattle.callbox.specs.InSides.{TakesMessages}
use Rattle.callparts.specs.Lanes.{OutSender}
use Rattle.callparts.specs.Workers.{IsFreshWork}
use Rattle.callparts.specs.Numbers.{in_lane_at, out_lane_at, request_at}
use Rattle.callparts.specs.declared.register.Naming.{Ghosts}
use Rattle.callparts.specs.declared.work.Request.{Request}
use Rattle.callparts.specs.declared.work.Work.{Work}
use Rattle.lane.specs.RingLane.{LaneName, got, in_name, out_name, put_in}
use Rattle.callparts.specs.Blocks.{has_room}
use Rattle.readerloop.specs.declared.calls.Calls.{Calls}
use Rattle.readerloop.specs.declared.reading.Reading.{Reading}
use Rattle.readerloop.specs.Readings.{HasSameRest, KeepsNext}
use Rattle.readerloop.proofs.Collecting.{keeps-next}
use Rattle.readerloop.specs.Halves.{HalfView, unfed}

-- what stands at a number
pub request-stands : (log : List Work) (number : ℕ) (work : Work) (request : Request)
    → slice_get log number ≡ Some work → work.request ≡ request
    → request_at log number ≡ Some request
request-stands log number work request stands is =
    ap (λ (found : Option Work). option_map (λ (w : Work). w.request) found) stands
    ∙ ap (λ (r : Request). Some r) is

pub request-again : (log other : List Work) (n m : ℕ) (work : Work) (request : Request)
    → slice_get log n ≡ Some work → work.request ≡ request → other ≡ log → m ≡ n
    → request_at other m ≡ Some request
request-again log other n m work request stands is same_log same_number =
    ap (λ (l : List Work). request_at l m) same_log
    ∙ (ap (λ (k : ℕ). request_at log k) same_number ∙ request-stands log n work request stands is)

pub lane-again : (log other : List Work) (n m : ℕ) (work : Work) (lane : LaneName)
    → slice_get log n ≡ Some work → lane ≡ out_name work.taker.rx → other ≡ log → m ≡ n
    → in_lane_at other m ≡ Some lane
lane-again log other n m work lane stands is same_log same_number =
    ap (λ (l : List Work). in_lane_at l m) same_log ∙ (ap (λ (k : ℕ). in_lane_at log k) same_number
    ∙ (ap (λ (found : Option Work). option_map (λ (w : Work). out_name w.taker.rx) found) stands
    ∙ ap (λ (l : LaneName). Some l) (sym is)))

-- nothing was fed
pub shown-unfed : (items : List InPiece) → items ≡ []
    → record { there = true; items = items; closing = None } ≡ unfed
shown-unfed items none = ap (λ (i : List InPiece). Shown-of i) none
  where
    Shown-of : List InPiece → HalfView
    Shown-of i = record { there = true; items = i; closing = None }

-- the lane of what it is answered with
pub out-lane-again : (log other : List Work) (n m : ℕ) (work : Work) (lane : LaneName)
    → slice_get log n ≡ Some work → in_name work.giver.tx ≡ lane → other ≡ log → m ≡ n
    → out_lane_at other m ≡ Some lane
out-lane-again log other n m work lane stands is same_log same_number =
    ap (λ (l : List Work). out_lane_at l m) same_log
    ∙ (ap (λ (k : ℕ). out_lane_at log k) same_number
    ∙ (ap (λ (found : Option Work). option_map (λ (w : Work). in_name w.giver.tx) found) stands
    ∙ ap (λ (l : LaneName). Some l) is))

pub stands-again : (log other : List Work) (n m : ℕ) (work : Work) → slice_get log n ≡ Some work
    → other ≡ log → m ≡ n → slice_get other m ≡ Some work
stands-again log other n m work stands same_log same_number =
    ap (λ (l : List Work). slice_get l m) same_log
    ∙ (ap (λ (k : ℕ). slice_get log k) same_number ∙ stands)

module _ {J M : Type 0} {book : Ghosts J} where
  pub same-rest : (old new : Reading J M book) → new.is_draining ≡ old.is_draining
      → new.last ≡ old.last → new.begun ≡ old.begun → new.peer_goaway ≡ old.peer_goaway
      → new.home ≡ old.home → HasSameRest old new
  same-rest old new draining last begun goaway home =
      record { draining = draining; last = last; begun = begun; goaway = goaway; home = home }

  -- where the calls are as they were once there was room
  pub next-again : (old new : Reading J M book) (calls : Calls J book) → calls.last ≡ old.calls.last
      → has_room calls.accounts.count calls.accounts.last
      ≡ has_room old.calls.accounts.count old.calls.accounts.last
      → new.calls ≡ calls → new.is_draining ≡ old.is_draining → KeepsNext old new
  next-again old new calls last room same draining =
      keeps-next old new (ap (λ (some : Calls J book). some.last) same ∙ last)
      (ap (λ (some : Calls J book). has_room some.accounts.count some.accounts.last) same ∙ room)
      draining

-- of its ends nothing was made use of
pub fresh-work : (work made : Work) → work ≡ made → got made.taker.rx ≡ []
    → TakesMessages (got made.taker.rx) made.taker.progress [] → made.taker.progress.told ≡ None
    → put_in made.giver.tx ≡ [] → IsFreshWork work
fresh-work work made is ungot took untold ungiven =
    subst (λ (w : Work). IsFreshWork w) (sym is) (
      ungot,
      subst (λ (items : List InPiece). TakesMessages items made.taker.progress []) ungot took,
      untold,
      ungiven,
    )

pub given-lane : (work made : Work) (lane : LaneName) → work ≡ made → in_name made.giver.tx ≡ lane
    → in_name work.giver.tx ≡ lane
given-lane work made lane is lanes = ap (λ (w : Work). in_name w.giver.tx) is ∙ lanes

pub taken-lane : (work made : Work) (lane : LaneName) → work ≡ made → lane ≡ out_name made.taker.rx
    → lane ≡ out_name work.taker.rx
taken-lane work made lane is lanes = lanes ∙ ap (λ (w : Work). out_name w.taker.rx) (sym is)

pub same-request : (work made : Work) → work ≡ made → work.request ≡ made.request
same-request work made is = ap (λ (w : Work). w.request) is

pub ungot-sender : (found : Option OutSender) (sender : OutSender) → found ≡ Some sender
    → got sender.rx ≡ [] → option_map (λ (s : OutSender). got s.rx) found ≡ Some []
ungot-sender found sender is none =
    ap (λ (f : Option OutSender). option_map (λ (s : OutSender). got s.rx) f) is
    ∙ ap (λ (items : List OutItem). Some items) none
