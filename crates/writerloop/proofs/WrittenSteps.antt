-- What each step of a connection's writer does to what it wrote.
use Rattle.reasons.specs.declared.Reason.TheVariants as reason
use Rattle.std.proofs.Common.{
  ◌≡◌,
  ◌≢◌,
  ◌⊎◌,
  ◌∙◌,
  ◌+◌,
  ◌==◌,
  arith,
  inl,
  inr,
  ℕ,
  suc,
  Bool,
  true,
  false,
  true≢false,
  List,
  [],
  ◌∷◌,
  ◌++◌,
  Option,
  None,
  Some,
  ap,
  append-nil,
  sym,
  refl,
  map,
  subst,
  if◌then◌else◌,
}
use Rattle.std.specs.Prelude.{◌||◌, Contains, option_map}
use Rattle.std.specs.List.{list_any}
use Rattle.std.proofs.lemmas.Bool.{eqb-true}
use Rattle.std.proofs.lemmas.Cmp.{nat_eq_equiv}
use Rattle.std.proofs.lemmas.List.Sums.{sum_by-cons}
use Rattle.account.specs.declared.call.OutItem.{OutItem}
use Rattle.h2frame.specs.declared.error_code.ErrorCode.TheVariants.{FlowControlError}
use Rattle.h2frame.specs.declared.frame.Frame.{Frame}
use Rattle.lane.specs.Ring.{in_name, put_in, taken}
use Rattle.lane.specs.RingLane.{got}
use Rattle.outwriter.specs.declared.control.WriterOrder.{WriterOrder}
use Rattle.outwriter.specs.declared.control.WriterOrder.TheVariants as control
use Rattle.outwriter.specs.declared.control.OutFault.TheVariants.{PeerWindow}
use Rattle.outwriter.specs.Cores.{IsUnused, calls}
use Rattle.outwriter.specs.Credit.{granted, granted_by}
use Rattle.outwriter.specs.Frames.{goaway_frame}
use Rattle.outwriter.specs.LeftCalls.{GaveLeft}
use Rattle.outwriter.specs.RunState.{Blames, Concerns, HasRoom}
use Rattle.outwriter.specs.Runs.{is_opened, opens_stream}
use Rattle.outwriter.specs.Steps.{Order, Step, Taken, Granted, Written, order_of}
use Rattle.callparts.specs.declared.order.OpeningCall.{OpeningCall}
use Rattle.callparts.specs.declared.register.CallNumber.{CallNumber}
use Rattle.callparts.specs.declared.register.Naming.{Ghosts}
use Rattle.device.specs.declared.conn.ConnWrite.{Ghosts as ConnGhosts}
use Rattle.callparts.specs.Lanes.{OutSender}
use Rattle.writerloop.specs.declared.inbox.Inbox.{Inbox}
use Rattle.writerloop.specs.declared.standing.Standing.TheVariants as stands
use Rattle.writerloop.specs.declared.order_outcome.OrderOutcome.{OrderOutcome}
use Rattle.writerloop.specs.declared.order_outcome.OrderOutcome.TheVariants.{
  Done,
  Ended,
  Unanswered,
  HandedBack,
}
use Rattle.writerloop.specs.declared.writing.Writing.{Writing}
use Rattle.writerloop.specs.Blamed.{WouldOverflow, blames_by, blames_in}
use Rattle.writerloop.specs.Keys.{Keys_set}
use Rattle.writerloop.specs.Left.{left_by, left_in}
use Rattle.writerloop.specs.Orders.{
  HasGiven,
  IsAmong,
  IsWarning,
  OpensNone,
  Warns,
  closes,
  ends_input,
  order_in,
  orders_of,
}
use Rattle.writerloop.specs.OwnOrders.{Blamed, own_order, parting, steps_of}
use Rattle.writerloop.specs.Sent.{IsBack, core_keys, keys, numbers, opens}
use Rattle.writerloop.specs.Written.{Heeds, Holds, Knows, core_of}
use Rattle.writerloop.specs.Wrote.{BringsBy}
use Rattle.writerloop.proofs.BlamedSteps.{overflow-later, overflow-now}
use Rattle.writerloop.proofs.OrderSteps.{given-next}
use Rattle.writerloop.proofs.SentSteps.{On, has-still, on-frames, on-granted, on-same, on-taken}

pub memory-going : stands.OutOfMemory ≢ stands.Going
memory-going e = cc

pub broken-going : stands.Broken ≢ stands.Going
broken-going e = cc

-- ---- what the writer knows by the orders

or-swap : (a b c : Bool) → (a || (b || c)) ≡ (b || (a || c))
or-swap true true c = refl
or-swap true false c = refl
or-swap false true c = refl
or-swap false false c = refl

any-more : (is : Order → Bool) (orders : List Order) (order : Order)
    → (is order || list_any is orders) ≡ list_any is (orders ++ order ∷ [])
any-more is [] order = refl
any-more is (one ∷ orders) order =
    or-swap (is order) (is one) (list_any is orders)
    ∙ ap (λ (later : Bool). is one || later) (any-more is orders order)

-- ---- orders

module _ {S : Type 0} where
  -- an order that opens no call opens no stream
  pub plain-opens : (one : WriterOrder S) (id : ℕ) → OpensNone one
      → opens_stream id (order_of one) ≡ false
  plain-opens (control.Open stream opening) id none = absurd none
  plain-opens (control.Settings settings) id none = refl
  plain-opens (control.Ping bytes) id none = refl
  plain-opens (control.Probe bytes) id none = refl
  plain-opens (control.Window stream n) id none = refl
  plain-opens (control.Refuse stream fields) id none = refl
  plain-opens (control.Reset stream code written) id none = refl
  plain-opens (control.Goaway last cause) id none = refl
  plain-opens control.InputEnded id none = refl
  plain-opens control.Close id none = refl

  plain-as : (one : WriterOrder S)
      → ((id : ℕ) → opens_stream id (order_of one) ≡ false) → OpensNone one
  plain-as (control.Open stream opening) none =
      true≢false (sym (nat_eq_equiv.refl stream) ∙ none stream)
  plain-as (control.Settings settings) none = tt
  plain-as (control.Ping bytes) none = tt
  plain-as (control.Probe bytes) none = tt
  plain-as (control.Window stream n) none = tt
  plain-as (control.Refuse stream fields) none = tt
  plain-as (control.Reset stream code written) none = tt
  plain-as (control.Goaway last cause) none = tt
  plain-as control.InputEnded none = tt
  plain-as control.Close none = tt

  -- an order that isn't an Open opens no call
  pub plain-other : (one : WriterOrder S)
      → ((id : ℕ) (opening : S) → one ≡ control.Open id opening → ⊥) → OpensNone one
  plain-other (control.Open id opening) other = absurd (other id opening refl)
  plain-other (control.Settings settings) other = tt
  plain-other (control.Ping bytes) other = tt
  plain-other (control.Probe bytes) other = tt
  plain-other (control.Window id n) other = tt
  plain-other (control.Refuse id fields) other = tt
  plain-other (control.Reset id code written) other = tt
  plain-other (control.Goaway last cause) other = tt
  plain-other control.InputEnded other = tt
  plain-other control.Close other = tt

  -- behind one that isn't a Close as many orders come as before
  pub closes-other : (one : WriterOrder S) (closed : Bool) → (one ≡ control.Close → ⊥)
      → closed ≡ (closes (order_of one) || closed)
  closes-other (control.Open id opening) closed other = refl
  closes-other (control.Settings settings) closed other = refl
  closes-other (control.Ping bytes) closed other = refl
  closes-other (control.Probe bytes) closed other = refl
  closes-other (control.Window id n) closed other = refl
  closes-other (control.Refuse id fields) closed other = refl
  closes-other (control.Reset id code written) closed other = refl
  closes-other (control.Goaway last cause) closed other = refl
  closes-other control.InputEnded closed other = refl
  closes-other control.Close closed other = absurd (other refl)

-- the same order without a sender
pub as-plain : {S T : Type 0} (one : WriterOrder S) (other : WriterOrder T)
    → order_of one ≡ order_of other
    → OpensNone other → OpensNone one
as-plain one other is none =
    plain-as one (λ id.
    ap (λ (order : Order). opens_stream id order) is ∙ plain-opens other id none)

own-plain-by : (first : Bool) (last id k : ℕ)
    → opens_stream k (if first then control.Goaway last reason.Window
    else control.Reset id FlowControlError true)
    ≡ false
own-plain-by true last id k = refl
own-plain-by false last id k = refl

own-plain : (last id k : ℕ) → opens_stream k (own_order last id) ≡ false
own-plain last id k = own-plain-by (id == 0) last id k

own-leaves-by : (first : Bool) (last id : ℕ)
    → left_by (if first then control.Goaway last reason.Window
    else control.Reset id FlowControlError true)
    ≡ []
own-leaves-by true last id = refl
own-leaves-by false last id = refl

own-leaves : (last id : ℕ) → left_by (own_order last id) ≡ []
own-leaves last id = own-leaves-by (id == 0) last id

module _ {S : Type 0} where
  -- an order, and the writer's own behind it, open no stream
  pub on-steps : (order : Order) (last : ℕ) (taking : OrderOutcome S) (run : List Step) (k : ℕ)
      → opens_stream k order ≡ false → On run (steps_of order last taking ++ run) k
  on-steps order last Done run k plain = on-taken order run k plain
  on-steps order last (Ended id) run k plain =
      let first = on-taken order run k plain in
      let second = on-taken (own_order last id) (Taken order ∷ run) k (own-plain last id k) in
      (λ never. second.0 (first.0 never), λ items returned. second.1 items (first.1 items returned))
  on-steps order last (Unanswered id) run k plain = on-taken order run k plain
  on-steps order last (HandedBack back) run k plain = on-same run k

  -- and reset no call that was left
  pub left-steps : (order : Order) (last : ℕ) (taking : OrderOutcome S) (run : List Step)
      → left_by order ≡ []
      → left_in (steps_of order last taking ++ run) ≡ left_in run
  left-steps order last Done run none = ap (λ (ids : List ℕ). ids ++ left_in run) none
  left-steps order last (Ended id) run none =
      ap (λ (ids : List ℕ). ids ++ (left_by order ++ left_in run)) (own-leaves last id)
      ∙ ap (λ (ids : List ℕ). ids ++ left_in run) none
  left-steps order last (Unanswered id) run none = ap (λ (ids : List ℕ). ids ++ left_in run) none
  left-steps order last (HandedBack back) run none = refl

  -- the core ended the connection
  abbrev pub EndsAll : OrderOutcome S → Type 0
  EndsAll (Ended id) = id ≡ 0
  EndsAll _ = ⊥

  pub ends-by : (taking one : OrderOutcome S) → taking ≡ one → (EndsAll one → ⊥)
      → EndsAll taking → ⊥
  ends-by taking one is other ends =
      other (subst (λ (found : OrderOutcome S). EndsAll found) is ends)

  pub ended-by : {B : Type 0} (taking : OrderOutcome S) (id : ℕ) → taking ≡ Ended id → (id ≡ 0) ⊎ B
      → EndsAll taking ⊎ B
  ended-by taking id is (inl none) =
      inl (subst (λ (one : OrderOutcome S). EndsAll one) (sym is) none)
  ended-by taking id is (inr other) = inr other

  pub overflow-taking : (one : WriterOrder S) (last : ℕ) (taking : OrderOutcome S) (run : List Step)
      → Blamed taking one run → EndsAll taking
      → WouldOverflow 0 (steps_of (order_of one) last taking ++ run)
  overflow-taking one last Done run why ends = absurd ends
  overflow-taking one last (Ended id) run why ends =
      overflow-later 0 (Taken (own_order last id) ∷ []) (Taken (order_of one) ∷ run)
      (overflow-now one 0 run (subst (λ (n : ℕ). Concerns (PeerWindow n) one) ends why.0)
      (subst (λ (n : ℕ). Blames (PeerWindow n) one run) ends why.1))
  overflow-taking one last (Unanswered id) run why ends = absurd ends
  overflow-taking one last (HandedBack back) run why ends = absurd ends

-- the core's senders stay, but for an Open
pub brings-plain : (taking : OrderOutcome OutSender) (one : WriterOrder OutSender)
    (core cores : List (ℕ × OutSender))
    → OpensNone one → BringsBy taking one core cores → cores ≡ core
brings-plain Done (control.Open id sender) core cores plain is = absurd plain
brings-plain Done (control.Settings settings) core cores plain is = is
brings-plain Done (control.Ping bytes) core cores plain is = is
brings-plain Done (control.Probe bytes) core cores plain is = is
brings-plain Done (control.Window id n) core cores plain is = is
brings-plain Done (control.Refuse id fields) core cores plain is = is
brings-plain Done (control.Reset id code written) core cores plain is = is
brings-plain Done (control.Goaway last cause) core cores plain is = is
brings-plain Done control.InputEnded core cores plain is = is
brings-plain Done control.Close core cores plain is = is
brings-plain (Ended id) one core cores plain is = is
brings-plain (Unanswered id) one core cores plain is = is
brings-plain (HandedBack back) one core cores plain is = is

-- of an order that opens no call no sender's items matter
pub unused-plain : (one : WriterOrder OutSender) → OpensNone one → IsUnused got one
unused-plain (control.Open id sender) plain = absurd plain
unused-plain (control.Settings settings) plain = tt
unused-plain (control.Ping bytes) plain = tt
unused-plain (control.Probe bytes) plain = tt
unused-plain (control.Window id n) plain = tt
unused-plain (control.Refuse id fields) plain = tt
unused-plain (control.Reset id code written) plain = tt
unused-plain (control.Goaway last cause) plain = tt
unused-plain control.InputEnded plain = tt
unused-plain control.Close plain = tt

-- ---- a GOAWAY for a window

or-left : (a b c : Bool) → (b ≡ true → c ≡ true) → (a || b) ≡ true → (a || c) ≡ true
or-left true b c on is = refl
or-left false b c on is = on is

or-right : (a c : Bool) → c ≡ true → (a || c) ≡ true
or-right true c is = refl
or-right false c is = is

own-spares-by : (first : Bool) (last id : ℕ) → (first ≡ true → ⊥)
    → blames_by (if first then control.Goaway last reason.Window
    else control.Reset id FlowControlError true)
    ≡ false
own-spares-by true last id other = absurd (other refl)
own-spares-by false last id other = refl

-- what ends a stream doesn't end the connection
own-spares : (last id : ℕ) → (id ≡ 0 → ⊥) → blames_by (own_order last id) ≡ false
own-spares last id other = own-spares-by (id == 0) last id (λ is. other (eqb-true id 0 is))

pub warns-spares : (order : Order) (run : List Step) → Warns order run → blames_by order ≡ false
warns-spares order run (inl warns) = ap blames_by warns.0
warns-spares order run (inr probes) = ap blames_by probes.0

blames-frames : (frames : List Frame) (run : List Step)
    → blames_in (map Written frames ++ run) ≡ blames_in run
blames-frames [] run = refl
blames-frames (frame ∷ frames) run = blames-frames frames run

module _ {S : Type 0} where
  -- the core doesn't end the connection by an order that concerns no window
  pub ends-none : (one : WriterOrder S) (taking : OrderOutcome S) (run : List Step)
      → ((id : ℕ) → Concerns (PeerWindow id) one → ⊥) → Blamed taking one run → EndsAll taking → ⊥
  ends-none one Done run spares why ends = ends
  ends-none one (Ended id) run spares why ends = spares id why.0
  ends-none one (Unanswered id) run spares why ends = ends
  ends-none one (HandedBack back) run spares why ends = ends

  -- by an order of the writer's own, and what comes behind it
  pub blames-own : (order : Order) (last : ℕ) (taking : OrderOutcome S) (run : List Step)
      → blames_by order ≡ false → (EndsAll taking → ⊥)
      → blames_in (steps_of order last taking ++ run) ≡ blames_in run
  blames-own order last Done run none other = ap (λ (b : Bool). b || blames_in run) none
  blames-own order last (Ended id) run none other =
      ap (λ (b : Bool). b || (blames_by order || blames_in run)) (own-spares last id other)
      ∙ ap (λ (b : Bool). b || blames_in run) none
  blames-own order last (Unanswered id) run none other = ap (λ (b : Bool). b || blames_in run) none
  blames-own order last (HandedBack back) run none other = refl

  -- by the next order, and what comes behind it
  pub blames-steps : (order : Order) (last : ℕ) (taking : OrderOutcome S) (run : List Step)
      (orders : List Order)
      → (EndsAll taking → ⊥) → (blames_in run ≡ true → list_any blames_by orders ≡ true)
      → blames_in (steps_of order last taking ++ run) ≡ true
      → list_any blames_by (orders ++ order ∷ []) ≡ true
  blames-steps order last Done run orders other was is =
      sym (any-more blames_by orders order)
      ∙ or-left (blames_by order) (blames_in run) (list_any blames_by orders) was is
  blames-steps order last (Ended id) run orders other was is =
      sym (any-more blames_by orders order)
      ∙ or-left (blames_by order) (blames_in run) (list_any blames_by orders) was
      (sym (ap (λ (b : Bool). b || (blames_by order || blames_in run)) (own-spares last id other))
      ∙ is)
  blames-steps order last (Unanswered id) run orders other was is =
      sym (any-more blames_by orders order)
      ∙ or-left (blames_by order) (blames_in run) (list_any blames_by orders) was is
  blames-steps order last (HandedBack back) run orders other was is =
      sym (any-more blames_by orders order)
      ∙ or-right (blames_by order) (list_any blames_by orders) (was is)

  pub blames-more : (orders : List (WriterOrder S)) (order : WriterOrder S)
      → list_any blames_by (orders_of orders) ≡ true
      → list_any blames_by (orders_of (orders ++ order ∷ [])) ≡ true
  blames-more orders order is =
      ap (λ (os : List Order). list_any blames_by os) (given-next orders order)
      ∙ (sym (any-more blames_by (orders_of orders) (order_of order))
      ∙ or-right (blames_by (order_of order)) (list_any blames_by (orders_of orders)) is)

-- ---- the credit

-- a step that grants none on the connection
pub granted-none : (step : Step) (run : List Step) (credit : ℕ) → granted_by 0 step ≡ 0
    → granted 0 run ≡ credit → granted 0 (step ∷ run) ≡ credit
granted-none step run credit none is = omega (arith, sum_by-cons (granted_by 0) step run, none, is)

pub granted-frames : (frames : List Frame) (run : List Step) (credit : ℕ) → granted 0 run ≡ credit
    → granted 0 (map Written frames ++ run) ≡ credit
granted-frames [] run credit is = is
granted-frames (frame ∷ frames) run credit is =
    granted-none (Written frame) (map Written frames ++ run) credit refl
    (granted-frames frames run credit is)

pub granted-steps : {S : Type 0} (order : Order) (last : ℕ) (taking : OrderOutcome S)
    (run : List Step) (credit : ℕ)
    → granted 0 run ≡ credit → granted 0 (steps_of order last taking ++ run) ≡ credit
granted-steps order last Done run credit is = granted-none (Taken order) run credit refl is
granted-steps order last (Ended id) run credit is =
    granted-none (Taken (own_order last id)) (Taken order ∷ run) credit refl
    (granted-none (Taken order) run credit refl is)
granted-steps order last (Unanswered id) run credit is =
    granted-none (Taken order) run credit refl is
granted-steps order last (HandedBack back) run credit is = is

pub granted-parting : (last : ℕ) (run : List Step) (credit : ℕ) → granted 0 run ≡ credit
    → granted 0 (parting last true ++ run) ≡ credit
granted-parting last run credit is =
    granted-none (Written (goaway_frame last reason.Memory))
    (Taken (control.Goaway last reason.Memory) ∷ run) credit refl
    (granted-none (Taken (control.Goaway last reason.Memory)) run credit refl is)

pub granted-more : (id n : ℕ) (run : List Step) (credit : ℕ) → granted 0 run ≡ credit
    → granted 0 (Granted id n ∷ run) ≡ credit + granted_by 0 (Granted id n)
granted-more id n run credit is = omega (arith, sum_by-cons (granted_by 0) (Granted id n) run, is)

-- ---- a warning

-- it opens no stream, and concerns no window
pub record IsMild (one : WriterOrder OutSender) : Type 0 where
  pub plain : OpensNone one
  pub spares : (id : ℕ) → Concerns (PeerWindow id) one → ⊥
  pub room : (run : List Step) → HasRoom (order_of one) run
  pub leaves : left_by (order_of one) ≡ []

pub mild : (one : WriterOrder OutSender) → IsWarning one → IsMild one
mild (control.Goaway last cause) own =
    record { plain = tt; spares = λ id concerns. concerns; room = λ run. tt; leaves = refl }
mild (control.Probe bytes) own =
    record { plain = tt; spares = λ id concerns. concerns; room = λ run. tt; leaves = refl }
mild (control.Settings settings) own = absurd own
mild (control.Ping bytes) own = absurd own
mild (control.Window id n) own = absurd own
mild (control.Open id sender) own = absurd own
mild (control.Refuse id fields) own = absurd own
mild (control.Reset id code written) own = absurd own
mild control.InputEnded own = absurd own
mild control.Close own = absurd own

-- ---- a call that is passed over

abbrev some-of : Option (List OutItem) → List OutItem
some-of None = []
some-of (Some items) = items

pub fresh-back : (run : List Step) (id : ℕ) (sender : Option OutSender)
    → option_map (λ (s : OutSender). got s.rx) sender ≡ Some [] → is_opened id run ≡ false
    → IsBack run id sender
fresh-back run id None fresh never = absurd (none fresh)
  where
    none : {X : Type 0} {x : X} → None ≡ Some x → ⊥
    none e = cc
fresh-back run id (Some sender) fresh never = inr (never, ap some-of fresh)

abbrev stream-of : Order → ℕ
stream-of (control.Open n sender) = n
stream-of _ = 0

abbrev opens-it : Order → Bool
opens-it (control.Open n sender) = true
opens-it _ = false

module _ {J : Type 0} {naming : Ghosts J} where
  pub among-opens : (orders : List (WriterOrder (OpeningCall J naming))) (id : ℕ)
      → IsAmong (control.Open id tt) (orders_of orders)
      → (number : CallNumber J naming) × Contains (opens orders) (number, id)
  among-opens [] id among = absurd among
  among-opens (control.Open stream opening ∷ orders) id (inl is) =
      let same : id ≡ stream = ap stream-of is in (
        opening.sending.value.number,
        (0, omega arith, ap (λ (n : ℕ). (opening.sending.value.number, n)) (sym same)),
      )
  among-opens (control.Open stream opening ∷ orders) id (inr among) =
      let rest = among-opens orders id among in
      (rest.0, (suc rest.1.0, omega (arith, rest.1.1), rest.1.2))
  among-opens (control.Settings settings ∷ orders) id (inl is) =
      absurd (true≢false (ap opens-it is))
  among-opens (control.Settings settings ∷ orders) id (inr among) = among-opens orders id among
  among-opens (control.Ping bytes ∷ orders) id (inl is) = absurd (true≢false (ap opens-it is))
  among-opens (control.Ping bytes ∷ orders) id (inr among) = among-opens orders id among
  among-opens (control.Probe bytes ∷ orders) id (inl is) = absurd (true≢false (ap opens-it is))
  among-opens (control.Probe bytes ∷ orders) id (inr among) = among-opens orders id among
  among-opens (control.Window stream n ∷ orders) id (inl is) = absurd (true≢false (ap opens-it is))
  among-opens (control.Window stream n ∷ orders) id (inr among) = among-opens orders id among
  among-opens (control.Refuse stream fields ∷ orders) id (inl is) =
      absurd (true≢false (ap opens-it is))
  among-opens (control.Refuse stream fields ∷ orders) id (inr among) = among-opens orders id among
  among-opens (control.Reset stream code written ∷ orders) id (inl is) =
      absurd (true≢false (ap opens-it is))
  among-opens (control.Reset stream code written ∷ orders) id (inr among) =
      among-opens orders id among
  among-opens (control.Goaway last cause ∷ orders) id (inl is) =
      absurd (true≢false (ap opens-it is))
  among-opens (control.Goaway last cause ∷ orders) id (inr among) = among-opens orders id among
  among-opens (control.InputEnded ∷ orders) id (inl is) = absurd (true≢false (ap opens-it is))
  among-opens (control.InputEnded ∷ orders) id (inr among) = among-opens orders id among
  among-opens (control.Close ∷ orders) id (inl is) = absurd (true≢false (ap opens-it is))
  among-opens (control.Close ∷ orders) id (inr among) = among-opens orders id among

  -- the next order is among those that were taken
  pub aside-given : (next : WriterOrder (OpeningCall J naming))
      (given : List (WriterOrder (OpeningCall J naming)))
      (mid : Inbox (OpeningCall J naming))
      → mid.set_aside ≡ None → HasGiven (given ++ next ∷ []) mid
      → given ++ next ∷ [] ≡ taken mid.ring
  aside-given next given mid none has =
      sym (append-nil (given ++ next ∷ []))
      ∙ (ap (λ (one : Option (WriterOrder (OpeningCall J naming))).
      (given ++ next ∷ []) ++ order_in one) (sym none)
      ∙ has)

-- frames reset no call that was left
left-frames : (frames : List Frame) (run : List Step)
    → left_in (map Written frames ++ run) ≡ left_in run
left-frames [] run = refl
left-frames (frame ∷ frames) run = left-frames frames run

module _ {J W : Type 0} {naming : Ghosts J} {conn : ConnGhosts W} where
  -- the calls are the same, and what was handed back
  pub record SameSent (old new : Writing J W naming conn) : Type 0 where
    pub numbers : numbers new.sends.calls.items ≡ numbers old.sends.calls.items
    pub way : put_in new.sends.home ≡ put_in old.sends.home

  -- what it knows by the orders is the same, and the ring on which senders go home
  pub record SameKnown (old new : Writing J W naming conn) : Type 0 where
    pub input : new.input_ended ≡ old.input_ended
    pub closed : new.closed ≡ old.closed
    pub way : in_name new.sends.home ≡ in_name old.sends.home

  pub sent-here : (writer : Writing J W naming conn) → SameSent writer writer
  sent-here writer = record { numbers = refl; way = refl }

  pub known-here : (writer : Writing J W naming conn) → SameKnown writer writer
  known-here writer = record { input = refl; closed = refl; way = refl }

  -- that its calls stand beside the core's senders is known in one way
  pub same-aligned : (writer : Writing J W naming conn)
      (again : keys writer.sends.calls.items ≡ core_keys (core_of writer))
      → record writer { aligned = again } ≡ writer
  same-aligned writer again =
      ap (λ (same : keys writer.sends.calls.items ≡ core_keys (core_of writer)).
      record writer { aligned = same })
      (Keys_set (keys writer.sends.calls.items) (core_keys (core_of writer)) again writer.aligned)

  -- by these steps no sender is lost
  abbrev pub GoesOn : List Step → Writing J W naming conn → Writing J W naming conn → Type 0
  GoesOn steps old new =
      (orders : List (WriterOrder (OpeningCall J naming))) (run : List Step) → Holds orders run old
      → Holds orders (steps ++ run) new

  pub goes-by : (steps : List Step) (old new : Writing J W naming conn) → SameSent old new
      → new.blames ≡ old.blames → ((run : List Step) (id : ℕ) → On run (steps ++ run) id)
      → ((run : List Step) → left_in (steps ++ run) ≡ left_in run)
      → ((run : List Step) → blames_in (steps ++ run) ≡ blames_in run)
      → ((id : ℕ) → GaveLeft id (calls got (core_of old)) → GaveLeft id (calls got (core_of new)))
      → GoesOn steps old new
  goes-by steps old new same blames on lefts spares gave orders run holds = record {
    senders =
        has-still orders run (steps ++ run) old.sends.calls.items new.sends.calls.items
        (core_of old) (core_of new) (put_in old.sends.home) (put_in new.sends.home)
        same.numbers same.way (on run)
        (λ id there. subst (λ (ids : List ℕ). Contains ids id) (lefts run) there)
        gave holds.senders;
    blamed = λ is. overflow-later 0 steps run (holds.blamed (sym blames ∙ is));
    unblamed = λ calm found. holds.unblamed (sym blames ∙ calm) (sym (spares run) ∙ found);
  }

  pub gave-same : (old new : Writing J W naming conn) → core_of new ≡ core_of old → (id : ℕ)
      → GaveLeft id (calls got (core_of old)) → GaveLeft id (calls got (core_of new))
  gave-same old new core id gave =
      subst (λ (senders : List (ℕ × OutSender)). GaveLeft id (calls got senders)) (sym core) gave

  pub goes-none : (old new : Writing J W naming conn) → SameSent old new → new.blames ≡ old.blames
      → core_of new ≡ core_of old → GoesOn [] old new
  goes-none old new same blames core =
      goes-by [] old new same blames on-same (λ run. refl) (λ run. refl) (gave-same old new core)

  pub goes-granted : (id n : ℕ) (old new : Writing J W naming conn) → SameSent old new
      → new.blames ≡ old.blames → core_of new ≡ core_of old → GoesOn (Granted id n ∷ []) old new
  goes-granted id n old new same blames core =
      goes-by (Granted id n ∷ []) old new same blames (on-granted id n) (λ run. refl) (λ run. refl)
      (gave-same old new core)

  pub goes-frames : (frames : List Frame) (old new : Writing J W naming conn) → SameSent old new
      → new.blames ≡ old.blames
      → ((id : ℕ) → GaveLeft id (calls got (core_of old)) → GaveLeft id (calls got (core_of new)))
      → GoesOn (map Written frames) old new
  goes-frames frames old new same blames gave =
      goes-by (map Written frames) old new same blames (on-frames frames) (left-frames frames)
      (blames-frames frames) gave

  -- an order that opens no call and resets none that was left
  pub goes-plain : {S : Type 0} (order : Order) (last : ℕ) (taking : OrderOutcome S)
      (old new : Writing J W naming conn)
      → ((k : ℕ) → opens_stream k order ≡ false) → left_by order ≡ [] → blames_by order ≡ false
      → (EndsAll taking → ⊥)
      → SameSent old new → new.blames ≡ old.blames → core_of new ≡ core_of old
      → GoesOn (steps_of order last taking) old new
  goes-plain order last taking old new plain leaves spares other same blames core =
      goes-by (steps_of order last taking) old new same blames
      (λ run k. on-steps order last taking run k (plain k))
      (λ run. left-steps order last taking run leaves)
      (λ run. blames-own order last taking run spares other) (gave-same old new core)

  pub knows-same : (orders : List Order) (old new : Writing J W naming conn)
      → (new.inbox.has_lost ≡ false → old.inbox.has_lost ≡ false) → SameKnown old new
      → Knows orders old → Knows orders new
  knows-same orders old new kept same knows = record {
    input = λ still. same.input ∙ knows.input (kept still);
    closed = same.closed ∙ knows.closed;
  }

  pub closed-more : (order : Order) (orders : List Order) (old new : Writing J W naming conn)
      → new.closed ≡ (closes order || old.closed) → old.closed ≡ list_any closes orders
      → new.closed ≡ list_any closes (orders ++ order ∷ [])
  closed-more order orders old new heeds was =
      heeds ∙ (ap (λ (closed : Bool). closes order || closed) was ∙ any-more closes orders order)

  -- the next order is taken
  pub knows-taken : (order : Order) (old new : Writing J W naming conn)
      → (new.inbox.has_lost ≡ false → old.inbox.has_lost ≡ false) → Heeds order old new
      → (orders : List Order) → Knows orders old
      → Knows (orders ++ order ∷ []) new
  knows-taken order old new kept heeds orders knows = record {
    input = λ still.
        heeds.input
        ∙ (ap (λ (ended : Bool). ends_input order || ended) (knows.input (kept still))
        ∙ any-more ends_input orders order);
    closed = closed-more order orders old new heeds.closed knows.closed;
  }
