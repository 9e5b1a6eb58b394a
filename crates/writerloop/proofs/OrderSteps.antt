-- What each step of a connection's writer does to the orders that its run obeys.
use Rattle.reasons.specs.declared.Reason.TheVariants as reason
use Rattle.std.proofs.Common.{
  ◌≡◌,
  ◌∙◌,
  inl,
  inr,
  ℕ,
  Bool,
  true,
  false,
  true≢false,
  List,
  [],
  ◌∷◌,
  ◌++◌,
  ◌==◌,
  if◌then◌else◌,
  Option,
  None,
  Some,
  ap,
  append-nil,
  append_assoc,
  map,
  refl,
  subst,
  sym,
  ◌||◌,
}
use Rattle.std.proofs.lemmas.Bool.{eqb-true}
use Rattle.std.proofs.lemmas.List.{map-append}
use Rattle.std.specs.List.{list_any}
use Rattle.lane.specs.Ring.{taken}
use Rattle.h2frame.specs.declared.error_code.ErrorCode.TheVariants.{FlowControlError, InternalError}
use Rattle.h2frame.specs.declared.frame.Frame.{Frame}
use Rattle.account.specs.declared.call.OutItem.{OutItem}
use Rattle.outwriter.specs.declared.control.WriterOrder.{WriterOrder}
use Rattle.outwriter.specs.declared.control.WriterOrder.TheVariants as control
use Rattle.outwriter.specs.declared.control.OutFault.TheVariants.{PeerWindow}
use Rattle.outwriter.specs.RunState.{Blames, Concerns, HasRoom}
use Rattle.outwriter.specs.Runs.{is_opened, opens_stream}
use Rattle.outwriter.specs.Steps.{Order, Step, Taken, Granted, Written, Returned, order_of}
use Rattle.writerloop.specs.declared.order_outcome.OrderOutcome.{OrderOutcome}
use Rattle.writerloop.specs.declared.order_outcome.OrderOutcome.TheVariants.{
  Done,
  Ended,
  Unanswered,
  HandedBack,
}
use Rattle.writerloop.specs.OwnOrders.{Blamed, own_order, parting, steps_of}
use Rattle.writerloop.specs.declared.inbox.Inbox.{Inbox}
use Rattle.writerloop.specs.Orders.{
  AreAnswered,
  AreLast,
  HasGiven,
  HasTaken,
  IsAmong,
  IsAnswer,
  Obeys,
  Warns,
  ends_input,
  loses_by,
  order_in,
  orders_of,
}

was-false : (b : Bool) → (b ≡ true → ⊥) → b ≡ false
was-false true isnt = absurd (isnt refl)
was-false false isnt = refl

-- ---- orders were lost

answered-but : (next : Option Order) (run : List Step) → AreAnswered false next run
    → AreAnswered true next run
answered-but next [] answered = tt
answered-but next (Taken order ∷ before) (inl room, rest) = (inl room, rest)
answered-but next (Taken order ∷ before) (inr (inl ends), rest) = (inr (inl ends), rest)
answered-but next (Taken order ∷ before) (inr (inr lacks), rest) = absurd (true≢false (sym lacks))
answered-but next (Granted id n ∷ before) answered = answered-but None before answered
answered-but next (Written frame ∷ before) answered = answered-but None before answered
answered-but next (Returned id items ∷ before) answered = answered-but None before answered

-- orders that some run obeys it obeys where orders were lost
pub obeys-lost : (lost : Bool) (orders : List Order) (run : List Step) → Obeys lost orders run
    → Obeys true orders run
obeys-lost true orders run obeys = obeys
obeys-lost false orders run obeys = record {
  front = orders;
  rest = [];
  ends = [];
  steps = run;
  orders_are = sym (append-nil orders);
  run_is = refl;
  took = obeys.0;
  answered = answered-but None run obeys.1;
  ended = tt;
}

pub among-more : (order : Order) (orders more : List Order) → IsAmong order orders
    → IsAmong order (orders ++ more)
among-more order [] more among = absurd among
among-more order (one ∷ orders) more (inl is) = inl is
among-more order (one ∷ orders) more (inr among) = inr (among-more order orders more among)

pub among-last : (order : Order) (orders : List Order) → IsAmong order (orders ++ order ∷ [])
among-last order [] = inl refl
among-last order (one ∷ orders) = inr (among-last order orders)

last-more : (orders more : List Order) (ends : List Step) → AreLast orders ends
    → AreLast (orders ++ more) ends
last-more orders more [] last = tt
last-more orders more (Taken order ∷ ends) (inl parts, last) =
    (inl parts, last-more orders more ends last)
last-more orders more (Taken order ∷ ends) (inr closes, last) =
    (inr (closes.0, among-more order orders more closes.1), last-more orders more ends last)
last-more orders more (Granted id n ∷ ends) last = last-more orders more ends last
last-more orders more (Written frame ∷ ends) last = last-more orders more ends last
last-more orders more (Returned id items ∷ ends) last = last-more orders more ends last

-- then more may have been lost
pub obeys-more : (orders more : List Order) (run : List Step) → Obeys true orders run
    → Obeys true (orders ++ more) run
obeys-more orders more run obeys = record {
  front = obeys.front;
  rest = obeys.rest ++ more;
  ends = obeys.ends;
  steps = obeys.steps;
  orders_are =
      ap (λ (os : List Order). os ++ more) obeys.orders_are
      ∙ append_assoc obeys.front obeys.rest more;
  run_is = obeys.run_is;
  took = obeys.took;
  answered = obeys.answered;
  ended = last-more obeys.rest more obeys.ends obeys.ended;
}

-- a last step
ends-by : (orders : List Order) (run : List Step) (step : Step)
    → ((rest : List Order) (ends : List Step) → AreLast rest ends → AreLast rest (step ∷ ends))
    → Obeys true orders run
    → Obeys true orders (step ∷ run)
ends-by orders run step more obeys = record {
  front = obeys.front;
  rest = obeys.rest;
  ends = step ∷ obeys.ends;
  steps = obeys.steps;
  orders_are = obeys.orders_are;
  run_is = ap (λ (steps : List Step). step ∷ steps) obeys.run_is;
  took = obeys.took;
  answered = obeys.answered;
  ended = more obeys.rest obeys.ends obeys.ended;
}

-- ---- steps that are no orders

pub obeys-granted : (lost : Bool) (orders : List Order) (id n : ℕ) (run : List Step)
    → Obeys lost orders run → Obeys lost orders (Granted id n ∷ run)
obeys-granted false orders id n run obeys = obeys
obeys-granted true orders id n run obeys =
    ends-by orders run (Granted id n) (λ rest ends last. last) obeys

pub obeys-returned : (lost : Bool) (orders : List Order) (id : ℕ)
    (items : List OutItem) (run : List Step)
    → Obeys lost orders run → Obeys lost orders (Returned id items ∷ run)
obeys-returned false orders id items run obeys = obeys
obeys-returned true orders id items run obeys =
    ends-by orders run (Returned id items) (λ rest ends last. last) obeys

obeys-frame : (lost : Bool) (orders : List Order) (frame : Frame) (run : List Step)
    → Obeys lost orders run → Obeys lost orders (Written frame ∷ run)
obeys-frame false orders frame run obeys = obeys
obeys-frame true orders frame run obeys =
    ends-by orders run (Written frame) (λ rest ends last. last) obeys

pub obeys-frames : (lost : Bool) (orders : List Order) (frames : List Frame) (run : List Step)
    → Obeys lost orders run → Obeys lost orders (map Written frames ++ run)
obeys-frames lost orders [] run obeys = obeys
obeys-frames lost orders (frame ∷ frames) run obeys =
    obeys-frame lost orders frame (map Written frames ++ run)
    (obeys-frames lost orders frames run obeys)

-- ---- orders

-- what is answered without a next order is with one
answered-next : (next : Order) (run : List Step) → AreAnswered false None run
    → AreAnswered false (Some next) run
answered-next next [] answered = tt
answered-next next (Taken order ∷ before) (inl room, answered) = (inl room, answered)
answered-next next (Taken order ∷ before) (inr (inl none), answered) = absurd none
answered-next next (Taken order ∷ before) (inr (inr lacks), answered) =
    absurd (true≢false (sym lacks))
answered-next next (Granted id n ∷ before) answered = answered
answered-next next (Written frame ∷ before) answered = answered
answered-next next (Returned id items ∷ before) answered = answered

-- the next order is taken
taken-next : (orders : List Order) (order : Order) (run : List Step) → HasTaken orders run
    → HasTaken (orders ++ order ∷ []) (Taken order ∷ run)
taken-next orders order run took = inl (orders, refl, took)

-- what ends a stream takes no window
ends-fit : (first : Bool) (last id : ℕ) (run : List Step)
    → HasRoom {S = Unit {0}} (if first then control.Goaway last reason.Window
    else control.Reset id FlowControlError true) run
ends-fit true last id run = tt
ends-fit false last id run = tt

module _ {S : Type 0} where
  answer-of : (taken : WriterOrder S) (last id : ℕ) (run : List Step)
      → Concerns (PeerWindow id) taken
      → Blames (PeerWindow id) taken run
      → IsAnswer (own_order last id) (Taken (order_of taken) ∷ run)
  answer-of (control.Settings settings) last id run concerns blames =
      (last, id, refl, concerns, blames)
  answer-of (control.Window stream n) last id run concerns blames =
      (last, id, refl, concerns, blames)
  answer-of (control.Ping bytes) last id run concerns blames = absurd concerns
  answer-of (control.Probe bytes) last id run concerns blames = absurd concerns
  answer-of (control.Open stream sender) last id run concerns blames = absurd concerns
  answer-of (control.Refuse stream fields) last id run concerns blames = absurd concerns
  answer-of (control.Reset stream code written) last id run concerns blames = absurd concerns
  answer-of (control.Goaway stream cause) last id run concerns blames = absurd concerns
  answer-of control.InputEnded last id run concerns blames = absurd concerns
  answer-of control.Close last id run concerns blames = absurd concerns

  room-of : (taken : WriterOrder S) (run : List Step) → HasRoom taken run
      → HasRoom (order_of taken) run
  room-of (control.Settings settings) run room = room
  room-of (control.Window stream n) run room = room
  room-of (control.Ping bytes) run room = tt
  room-of (control.Probe bytes) run room = tt
  room-of (control.Open stream sender) run room = tt
  room-of (control.Refuse stream fields) run room = tt
  room-of (control.Reset stream code written) run room = tt
  room-of (control.Goaway stream cause) run room = tt
  room-of control.InputEnded run room = tt
  room-of control.Close run room = tt

  -- an order that the core was given, where none was lost
  pub obeys-taking : (taken : WriterOrder S) (last : ℕ) (taking : OrderOutcome S)
      (orders : List Order) (run : List Step)
      → Blamed taking taken run → Obeys false orders run
      → Obeys (loses_by taking) (orders ++ order_of taken ∷ [])
      (steps_of (order_of taken) last taking ++ run)
  obeys-taking taken last Done orders run blamed obeys = (
    taken-next orders (order_of taken) run obeys.0,
    (inl (room-of taken run blamed), answered-next (order_of taken) run obeys.1),
  )
  obeys-taking taken last (Ended id) orders run blamed obeys =
      let answer = answer-of taken last id run blamed.0 blamed.1 in (
        inr (inl answer, taken-next orders (order_of taken) run obeys.0),
        (
          inl (ends-fit (id == 0) last id (Taken (order_of taken) ∷ run)),
          (
            inr (inl (answer.0, answer.1, answer.2, answer.3)),
            answered-next (order_of taken) run obeys.1,
          ),
        ),
      )
  obeys-taking taken last (Unanswered id) orders run blamed obeys = record {
    front = orders ++ order_of taken ∷ [];
    rest = [];
    ends = [];
    steps = Taken (order_of taken) ∷ run;
    orders_are = sym (append-nil (orders ++ order_of taken ∷ []));
    run_is = refl;
    took = taken-next orders (order_of taken) run obeys.0;
    answered = (inr (inr refl), answered-next (order_of taken) run obeys.1);
    ended = tt;
  }
  obeys-taking taken last (HandedBack back) orders run blamed obeys =
      obeys-more orders (order_of taken ∷ []) run (obeys-lost false orders run obeys)

  -- a reset of the writer's own
  pub obeys-reset : (id last : ℕ) (taking : OrderOutcome S) (orders : List Order) (run : List Step)
      → Blamed taking (control.Reset id InternalError true) run
      → IsAmong (control.Open id tt) orders → list_any ends_input orders ≡ false
      → Obeys false orders run
      → Obeys false orders (steps_of (control.Reset id InternalError true) last taking ++ run)
  obeys-reset id last Done orders run blamed among goes_on obeys = (
    inr (inr (inl (id, refl, among, goes_on)), obeys.0),
    (inl tt, answered-next (control.Reset id InternalError true) run obeys.1),
  )
  obeys-reset id last (Ended stream) orders run blamed among goes_on obeys = absurd blamed.0
  obeys-reset id last (Unanswered stream) orders run blamed among goes_on obeys = absurd blamed.0
  obeys-reset id last (HandedBack back) orders run blamed among goes_on obeys = obeys

  -- a warning of the writer's own
  pub obeys-warning : (one : WriterOrder S) (last : ℕ) (taking : OrderOutcome S)
      (orders : List Order) (run : List Step)
      → Blamed taking one run → ((id : ℕ) → Concerns (PeerWindow id) one → ⊥)
      → HasRoom (order_of one) run → Warns (order_of one) run → Obeys false orders run
      → Obeys false orders (steps_of (order_of one) last taking ++ run)
  obeys-warning one last Done orders run blamed spares room warns obeys =
      (inr (inr (inr warns), obeys.0), (inl room, answered-next (order_of one) run obeys.1))
  obeys-warning one last (Ended id) orders run blamed spares room warns obeys =
      absurd (spares id blamed.0)
  obeys-warning one last (Unanswered id) orders run blamed spares room warns obeys =
      absurd (spares id blamed.0)
  obeys-warning one last (HandedBack back) orders run blamed spares room warns obeys = obeys

  -- a GOAWAY of the writer's own
  pub obeys-parting : (last : ℕ) (taking : OrderOutcome S) (orders : List Order) (run : List Step)
      → Blamed taking (control.Goaway last reason.Memory) run → Obeys true orders run
      → Obeys true orders (steps_of (control.Goaway last reason.Memory) last taking ++ run)
  obeys-parting last Done orders run blamed obeys =
      ends-by orders run (Taken (control.Goaway last reason.Memory))
      (λ rest ends before. (inl (last, refl), before)) obeys
  obeys-parting last (Ended id) orders run blamed obeys = absurd blamed.0
  obeys-parting last (Unanswered id) orders run blamed obeys = absurd blamed.0
  obeys-parting last (HandedBack back) orders run blamed obeys = obeys

  -- a Close behind orders that were lost
  pub obeys-closing : (last : ℕ) (taking : OrderOutcome S) (orders : List Order) (run : List Step)
      → Blamed taking control.Close run → Obeys true orders run
      → Obeys true (orders ++ control.Close ∷ []) (steps_of control.Close last taking ++ run)
  obeys-closing last Done orders run blamed obeys = record {
    front = obeys.front;
    rest = obeys.rest ++ control.Close ∷ [];
    ends = Taken control.Close ∷ obeys.ends;
    steps = obeys.steps;
    orders_are =
        ap (λ (os : List Order). os ++ control.Close ∷ []) obeys.orders_are
        ∙ append_assoc obeys.front obeys.rest (control.Close ∷ []);
    run_is = ap (λ (steps : List Step). Taken control.Close ∷ steps) obeys.run_is;
    took = obeys.took;
    answered = obeys.answered;
    ended = (
      inr (refl, among-last control.Close obeys.rest),
      last-more obeys.rest (control.Close ∷ []) obeys.ends obeys.ended,
    );
  }
  obeys-closing last (Ended id) orders run blamed obeys = absurd blamed.0
  obeys-closing last (Unanswered id) orders run blamed obeys = absurd blamed.0
  obeys-closing last (HandedBack back) orders run blamed obeys =
      obeys-more orders (control.Close ∷ []) run obeys

-- the last word of a core is a GOAWAY of the writer's own, for which orders are lost
pub obeys-last-word : (last : ℕ) (lost : Bool) (orders : List Order) (run : List Step)
    → Obeys lost orders run → Obeys true orders (parting last true ++ run)
obeys-last-word last lost orders run obeys =
    obeys-frame true orders _ _
    (obeys-parting {S = Unit {0}} last Done orders run tt (obeys-lost lost orders run obeys))

-- ---- the inbox

module _ {S : Type 0} where
  -- all that were given, and the next one
  pub given-all : (given : List (WriterOrder S)) (inbox : Inbox S) → HasGiven given inbox
      → orders_of (taken inbox.ring) ≡ orders_of given ++ orders_of (order_in inbox.set_aside)
  given-all given inbox has =
      ap (λ (os : List (WriterOrder S)). orders_of os) (sym has)
      ∙ map-append (λ (one : WriterOrder S). order_of one) given (order_in inbox.set_aside)

  pub given-next : (given : List (WriterOrder S)) (next : WriterOrder S)
      → orders_of (given ++ next ∷ []) ≡ orders_of given ++ order_of next ∷ []
  given-next given next = map-append (λ (one : WriterOrder S). order_of one) given (next ∷ [])

  pub all-given : (inbox : Inbox S) → inbox.set_aside ≡ None → taken inbox.ring ≡ []
      → HasGiven [] inbox
  all-given inbox none empty =
      ap (λ (aside : Option (WriterOrder S)). order_in aside) none ∙ sym empty

-- an order that opens a call takes its turn
pub obeys-opening : (id : ℕ) (orders : List Order) (run : List Step) → Obeys false orders run
    → Obeys false (orders ++ control.Open id tt ∷ []) (Taken (control.Open id tt) ∷ run)
obeys-opening id orders run obeys = (
  taken-next orders (control.Open id tt) run obeys.0,
  (inl tt, answered-next (control.Open id tt) run obeys.1),
)

-- ---- streams that are opened

opened-by : (id : ℕ) (order : Order) → opens_stream id order ≡ true → order ≡ control.Open id tt
opened-by id (control.Open stream sender) is =
    ap (λ n. control.Open n tt) (sym (eqb-true id stream is))
opened-by id (control.Settings settings) is = absurd (true≢false (sym is))
opened-by id (control.Ping bytes) is = absurd (true≢false (sym is))
opened-by id (control.Probe bytes) is = absurd (true≢false (sym is))
opened-by id (control.Window stream n) is = absurd (true≢false (sym is))
opened-by id (control.Refuse stream fields) is = absurd (true≢false (sym is))
opened-by id (control.Reset stream code written) is = absurd (true≢false (sym is))
opened-by id (control.Goaway stream cause) is = absurd (true≢false (sym is))
opened-by id control.InputEnded is = absurd (true≢false (sym is))
opened-by id control.Close is = absurd (true≢false (sym is))

-- no order of the writer's own opens a stream
own-opens-by : (first : Bool) (last id stream : ℕ)
    → opens_stream stream
    (if first then control.Goaway last reason.Window else control.Reset id FlowControlError true)
    ≡ false
own-opens-by true last id stream = refl
own-opens-by false last id stream = refl

answer-opens : (order : Order) (before : List Step) (id : ℕ) → IsAnswer order before
    → opens_stream id order ≡ false
answer-opens order [] id answer = absurd answer
answer-opens order (Taken blamed ∷ before) id answer =
    ap (λ (one : Order). opens_stream id one) answer.2
    ∙ own-opens-by (answer.1 == 0) answer.0 answer.1 id
answer-opens order (Granted stream n ∷ before) id answer = absurd answer
answer-opens order (Written frame ∷ before) id answer = absurd answer
answer-opens order (Returned stream items ∷ before) id answer = absurd answer

warning-opens : (order : Order) (before : List Step) (id : ℕ) → Warns order before
    → opens_stream id order ≡ false
warning-opens order before id (inl (is, unsaid)) = ap (λ (one : Order). opens_stream id one) is
warning-opens order before id (inr (is, unsaid)) = ap (λ (one : Order). opens_stream id one) is

-- no order opened the stream, and so none that was taken did
unopened-taken : (orders : List Order) (run : List Step) (id : ℕ)
    → (IsAmong (control.Open id tt) orders → ⊥) → HasTaken orders run → is_opened id run ≡ false
unopened-taken orders [] id none took = refl
unopened-taken orders (Taken order ∷ before) id none (inl (earlier, are, took)) =
    ap (λ b. b || is_opened id before) (was-false (opens_stream id order)
    (λ is.
    none (subst (λ (os : List Order). IsAmong (control.Open id tt) os) (sym are) (subst
    (λ (one : Order). IsAmong one (earlier ++ order ∷ [])) (opened-by id order is)
    (among-last order earlier)))))
    ∙ unopened-taken earlier before id (λ among.
    none (subst (λ (os : List Order). IsAmong (control.Open id tt) os) (sym are)
    (among-more (control.Open id tt) earlier (order ∷ []) among))) took
unopened-taken orders (Taken order ∷ before) id none (inr (inl answer, took)) =
    ap (λ b. b || is_opened id before) (answer-opens order before id answer)
    ∙ unopened-taken orders before id none took
unopened-taken orders (Taken order ∷ before) id none (inr (inr (inl resets), took)) =
    ap (λ b. b || is_opened id before) (ap (λ (one : Order). opens_stream id one) resets.1)
    ∙ unopened-taken orders before id none took
unopened-taken orders (Taken order ∷ before) id none (inr (inr (inr warns), took)) =
    ap (λ b. b || is_opened id before) (warning-opens order before id warns)
    ∙ unopened-taken orders before id none took
unopened-taken orders (Granted stream n ∷ before) id none took =
    unopened-taken orders before id none took
unopened-taken orders (Written frame ∷ before) id none took =
    unopened-taken orders before id none took
unopened-taken orders (Returned stream items ∷ before) id none took =
    unopened-taken orders before id none took

-- nor does what is taken once orders are lost
unopened-last : (rest : List Order) (ends steps : List Step) (id : ℕ) → AreLast rest ends
    → is_opened id steps ≡ false → is_opened id (ends ++ steps) ≡ false
unopened-last rest [] steps id last never = never
unopened-last rest (Taken order ∷ ends) steps id (inl parts, last) never =
    ap (λ b. b || is_opened id (ends ++ steps)) (ap (λ (one : Order). opens_stream id one) parts.1)
    ∙ unopened-last rest ends steps id last never
unopened-last rest (Taken order ∷ ends) steps id (inr closes, last) never =
    ap (λ b. b || is_opened id (ends ++ steps)) (ap (λ (one : Order). opens_stream id one) closes.0)
    ∙ unopened-last rest ends steps id last never
unopened-last rest (Granted stream n ∷ ends) steps id last never =
    unopened-last rest ends steps id last never
unopened-last rest (Written frame ∷ ends) steps id last never =
    unopened-last rest ends steps id last never
unopened-last rest (Returned stream items ∷ ends) steps id last never =
    unopened-last rest ends steps id last never

pub unopened : (lost : Bool) (orders : List Order) (run : List Step) (id : ℕ)
    → (IsAmong (control.Open id tt) orders → ⊥) → Obeys lost orders run → is_opened id run ≡ false
unopened false orders run id none obeys = unopened-taken orders run id none obeys.0
unopened true orders run id none obeys =
    ap (λ (steps : List Step). is_opened id steps) obeys.run_is
    ∙ unopened-last obeys.rest obeys.ends obeys.steps id obeys.ended
    (unopened-taken obeys.front obeys.steps id
    (λ among.
    none (subst (λ (os : List Order). IsAmong (control.Open id tt) os) (sym obeys.orders_are)
    (among-more (control.Open id tt) obeys.front obeys.rest among))) obeys.took)
