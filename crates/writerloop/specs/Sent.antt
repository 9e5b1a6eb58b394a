-- The calls whose senders a writer's core has, and the senders that were handed back. A call has
-- one sender. It comes with the order that opens the call, is with the core while the call is sent,
-- and is then handed back.
use Rattle.std.specs.Prelude.{
  ◌≡◌,
  ◌≢◌,
  ◌⊎◌,
  ◌<◌,
  ℕ,
  nat_eq,
  false,
  true,
  All,
  Contains,
  List,
  [],
  ◌∷◌,
  ◌++◌,
  map,
  length,
  get_or,
  Option,
  None,
  Some,
  Result,
  Ok,
  Err,
}
use Rattle.std.specs.List.{IsDistinct, swap_remove}
use Rattle.std.specs.List.Sorted.{IsPermutation}
use Rattle.account.specs.declared.call.OutItem.{OutItem}
use Rattle.lane.specs.RingLane.{LaneName, got, out_name}
use Rattle.outwriter.specs.declared.control.WriterOrder.{WriterOrder}
use Rattle.outwriter.specs.declared.control.WriterOrder.TheVariants.{Open}
use Rattle.outwriter.specs.Calls.{IsReturned, is_served}
use Rattle.outwriter.specs.Cores.{calls}
use Rattle.outwriter.specs.LeftCalls.{GaveLeft}
use Rattle.outwriter.specs.Parts.{Mark, IsPart, IsFrontOf, spelled}
use Rattle.outwriter.specs.Runs.{is_opened}
use Rattle.outwriter.specs.Steps.{Order, Step}
use Rattle.callparts.specs.declared.order.OpeningCall.{OpeningCall}
use Rattle.callparts.specs.declared.order.ReturningCall.{ReturningCall}
use Rattle.callparts.specs.declared.order.SendingEnd.{SendingEnd}
use Rattle.callparts.specs.declared.register.CallNumber.{CallNumber}
use Rattle.callparts.specs.declared.register.Naming.{Ghosts}
use Rattle.callparts.specs.Lanes.{OutSender}
use Rattle.callparts.specs.Numbers.{out_lane_at}
use Rattle.writerloop.specs.declared.sends.SendingCall.{SendingCall}
use Rattle.writerloop.specs.Left.{left_by, left_in}
use Rattle.writerloop.specs.Orders.{IsAmong, orders_of}

-- ---- with a core

-- the stream of each call whose sender a core has, and the sender's lane
abbrev pub core_keys : List (ℕ × OutSender) → List (ℕ × Option LaneName)
core_keys core = map (λ call. (call.0, Some (out_name call.1.rx))) core

-- ---- what was sent

-- what a sender that was handed back has got
abbrev pub got_of : Option OutSender → List OutItem
got_of None = []
got_of (Some sender) = got sender.rx

-- the run gave the sender back, with what it had got; or the stream was never opened, and it got
-- nothing
abbrev pub IsBack : List Step → ℕ → Option OutSender → Type 0
IsBack run id None = ⊥
IsBack run id (Some sender) =
    IsReturned id (got sender.rx) run ⊎ ((is_opened id run ≡ false) × (got sender.rx ≡ []))

-- the frames of a call's stream begin what these items spell, or are a front of that and then a
-- reset
abbrev pub IsTold : List Step → ℕ × List OutItem → Type 0
IsTold run call =
    is_served call.0 run ≡ true
    → (part : List Mark) × IsPart call.0 run part × IsFrontOf part (spelled call.1)

-- none of these orders resets a stream as the writer does for a call that was left
abbrev pub ResetsNone : List Order → Type 0
ResetsNone orders = (order : Order) → IsAmong order orders → left_by order ≡ []

module _ {J : Type 0} {naming : Ghosts J} where
  -- the lane of a call's answer, by the call's number
  abbrev pub lane_of : SendingEnd J naming → Option LaneName
  lane_of sending = out_lane_at sending.number.seen.log sending.number.value

  -- a call that begins, or that is sent: its number and its stream
  abbrev pub numbered : ℕ → SendingEnd J naming → CallNumber J naming × ℕ
  numbered id sending = (sending.number, id)

  -- the calls that orders open
  abbrev pub opens : List (WriterOrder (OpeningCall J naming)) → List (CallNumber J naming × ℕ)
  opens [] = []
  opens (Open id opening ∷ orders) = numbered id opening.sending.value ∷ opens orders
  opens (_ ∷ orders) = opens orders

  -- no two of them are of one stream
  abbrev pub AreApart : List (WriterOrder (OpeningCall J naming)) → Type 0
  AreApart orders = IsDistinct nat_eq (map (λ call. call.1) (opens orders))

  -- ---- the calls whose senders the core has

  abbrev pub ids_of : List (SendingCall J naming) → List ℕ
  ids_of calls = map (λ call. call.id) calls

  abbrev pub keys : List (SendingCall J naming) → List (ℕ × Option LaneName)
  keys calls = map (λ call. (call.id, lane_of call.sending.value)) calls

  abbrev pub numbers : List (SendingCall J naming) → List (CallNumber J naming × ℕ)
  numbers calls = map (λ call. numbered call.id call.sending.value) calls

  -- a call of this stream is at a place
  abbrev pub IsAt : ℕ → ℕ → List (SendingCall J naming) → Type 0
  IsAt id place calls =
      (place < length calls) × ((d : SendingCall J naming) → (get_or calls place d).id ≡ id)

  -- none of the calls before a place is of this stream
  abbrev pub HasNoneBelow : ℕ → ℕ → List (SendingCall J naming) → Type 0
  HasNoneBelow n id calls =
      (k : ℕ) (d : SendingCall J naming) → k < n → k < length calls → (get_or calls k d).id ≢ id

  -- none of the calls is of this stream
  abbrev pub HasNone : ℕ → List (SendingCall J naming) → Type 0
  HasNone id calls = All (λ call. call.id ≢ id) calls

  -- the first call of a stream is that of this sender
  abbrev pub IsFirstOf : ℕ → OutSender → List (SendingCall J naming) → Type 0
  IsFirstOf id sender calls =
      (place : ℕ) × IsAt id place calls
      × ((d : SendingCall J naming)
      → lane_of (get_or calls place d).sending.value ≡ Some (out_name sender.rx))
      × HasNoneBelow place id calls

  -- the last call is that of this sender
  abbrev pub IsLastOf : OutSender → List (SendingCall J naming) → Type 0
  IsLastOf sender calls =
      (before : List (ℕ × Option LaneName)) × (id : ℕ)
      × (keys calls ≡ before ++ (id, Some (out_name sender.rx)) ∷ [])

  -- the calls before and after are the same
  pub record SameCalls (old new : List (SendingCall J naming)) : Type 0 where
    pub keys : keys new ≡ keys old
    pub numbers : numbers new ≡ numbers old

  -- a call is added after the others
  pub record Adds (id : ℕ) (sending : SendingEnd J naming)
      (old new : List (SendingCall J naming)) : Type 0 where
    pub keys : keys new ≡ keys old ++ (id, lane_of sending) ∷ []
    pub numbers : numbers new ≡ numbers old ++ numbered id sending ∷ []

  -- The sender of the first call of a stream is handed back, after those that were before. The last
  -- call takes the call's place.
  pub record HandsHome (id : ℕ) (sender : OutSender) (old new : List (SendingCall J naming))
      (from to : List (ReturningCall J naming)) : Type 0 where
    pub place : ℕ
    pub call : SendingCall J naming
    pub at : IsAt id place old
    pub below : HasNoneBelow place id old
    pub is : call ≡ get_or old place call
    pub rest : new ≡ swap_remove old place call
    pub returning : ReturningCall J naming
    pub sender_is : returning.sending.value.sender ≡ Some sender
    pub number_is : returning.sending.value.number ≡ call.sending.value.number
    pub put : to ≡ from ++ returning ∷ []

  -- the sender of the last call is taken
  pub record TakesLast (sender : OutSender) (old new : List (SendingCall J naming))
      (returning : ReturningCall J naming) : Type 0 where
    pub call : SendingCall J naming
    pub rest : old ≡ new ++ call ∷ []
    pub sender_is : returning.sending.value.sender ≡ Some sender
    pub number_is : returning.sending.value.number ≡ call.sending.value.number

  -- The sender of an order that isn't taken is handed back, after those that were before; or the
  -- order comes back.
  abbrev pub Passes : OpeningCall J naming → Result (Unit {0}) (OpeningCall J naming)
      → List (ReturningCall J naming) → List (ReturningCall J naming) → Type 0
  Passes opening (Ok done) from to =
      (returning : ReturningCall J naming) × (returning.sending ≡ opening.sending)
      × (to ≡ from ++ returning ∷ [])
  Passes opening (Err back) from to = (back ≡ opening) × (to ≡ from)

  -- ---- those that were handed back, with the streams of their calls

  abbrev pub handed_numbers : List (ℕ × ReturningCall J naming) → List (CallNumber J naming × ℕ)
  handed_numbers handed = map (λ one. numbered one.0 one.1.sending.value) handed

  abbrev pub handed_calls : List (ℕ × ReturningCall J naming) → List (ℕ × List OutItem)
  handed_calls handed = map (λ one. (one.0, got_of one.1.sending.value.sender)) handed

  -- No sender is lost: the core has the sender of each call that these orders opened, or it was
  -- handed back; and there is no other sender.
  pub record HasAll (orders : List (WriterOrder (OpeningCall J naming))) (run : List Step)
      (sent : List (SendingCall J naming)) (core : List (ℕ × OutSender))
      (home : List (ReturningCall J naming)) : Type 0 where
    pub handed : List (ℕ × ReturningCall J naming)
    pub are : map (λ one. one.1) handed ≡ home
    pub all : IsPermutation (opens orders) (numbers sent ++ handed_numbers handed)
    -- for each sender that was handed back, the frames of its call have nothing but what it got
    pub back : AreApart orders → All (λ one. IsBack run one.0 one.1.sending.value.sender) handed
    -- the sender of each stream that the writer reset for a call that was left got that last
    pub left : ResetsNone (orders_of orders) → (id : ℕ) → Contains (left_in run) id
        → GaveLeft id (calls got core ++ handed_calls handed)
