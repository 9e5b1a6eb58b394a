-- The orders open or refuse each stream once at most. So an Open that a run took is the first of
-- its stream, and none was refused before.
use Rattle.std.proofs.Common.{
  ◌≡◌,
  ◌∙◌,
  ◌⊎◌,
  inl,
  inr,
  ◌+◌,
  ◌<◌,
  ◌≤◌,
  ℕ,
  Bool,
  true,
  false,
  nat_eq,
  List,
  [],
  ◌∷◌,
  ◌++◌,
  Option,
  None,
  Some,
  ap,
  arith,
  eqb-true,
  refl,
  suc,
  sym,
}
use Rattle.std.specs.Prelude.{Contains, ◌==◌, ◌||◌, if◌then◌else◌, length}
use Rattle.std.specs.List.{list_any}
use Rattle.std.proofs.lemmas.Bool.{cases_Bool, eq-eqb}
use Rattle.std.proofs.lemmas.Grind.{flat_map-append}
use mathlib.Core.List.{IsPrefix}
use Rattle.limits.specs.declared.TheConstants.{MAX_STREAMS}
use Rattle.callhead.specs.declared.fault.HeadFault.{HeadFault}
use Rattle.callhead.specs.StatusFields.{refusal_of}
use Rattle.callparts.specs.declared.report.Ending.{Ending}
use Rattle.connbook.specs.declared.answers.AdmitFault.TheVariants as refused
use Rattle.connbook.specs.declared.answers.Receipt.TheVariants.{Feed, Discard, CallWindow, Overrun}
use Rattle.writerloop.specs.OwnOrders.{own_order}
use Rattle.h2frame.specs.declared.error_code.ErrorCode.TheVariants.{
  NoError,
  InternalError,
  FlowControlError,
  Cancel,
}
use Rattle.lists.specs.declared.field.Field.{Field}
use Rattle.outwriter.specs.declared.control.WriterOrder.TheVariants.{
  Settings,
  Ping,
  Probe,
  Window,
  Open,
  Refuse,
  Reset,
  Goaway,
  InputEnded,
  Close,
}
use Rattle.outwriter.specs.Calls.{IsRefused, Refuses, is_fresh, is_served, refuses_stream}
use Rattle.outwriter.specs.Drains.{draining, warning}
use Rattle.outwriter.specs.Runs.{is_opened, opens_stream}
use Rattle.outwriter.specs.Steps.{Order, Taken, Granted, Written, Returned}
use Rattle.outwriter.specs.Steps.{Step as RunStep}
use Rattle.reasons.specs.declared.Reason.TheVariants as reason
use Rattle.session.specs.declared.event.PeerControl.{PeerControl as News}
use Rattle.session.specs.declared.event.PeerControl.TheVariants as news
use Rattle.session.specs.declared.event.InEvent.{InEvent}
use Rattle.session.specs.declared.event.InEvent.TheVariants as events
use Rattle.session.specs.Events.{Events}
use Rattle.session.specs.Openings.{AreRising, RiseFrom, opening_of, openings}
use Rattle.session.proofs.OpeningOrder.{events_rise}
use Rattle.readerloop.specs.Calls.{is_admitted}
use Rattle.readerloop.specs.Orders.{
  begun,
  came,
  came_loose,
  is_fed,
  last_stream,
  named,
  named_with,
  news_of,
  opened,
  orders_at,
  orders_by,
  refused_head,
  without_head,
}
use Rattle.readerloop.specs.Reports.{AreHeard}
use Rattle.readerloop.specs.Steps.{
  Fate,
  Plain,
  Admitted,
  Unserved,
  NoWorker,
  Stopped,
  Unknown,
  TurnedAway,
  Received,
  Missed,
  Lacking,
  Step,
  Told,
  CutOff,
  Drains,
  Lacks,
  admitted,
  admitted_by,
  events_of,
  is_draining,
  once,
}
use Rattle.writerloop.specs.Orders.{AreLast, HasTaken, IsAmong, IsAnswer, Obeys, ResetsCall, Warns}
use Rattle.connection.specs.Heard.{HasPut}
use Rattle.connection.proofs.Opens.{opens-at, opens_of}

-- ---- how many pass a test

abbrev bit : Bool → ℕ
bit true = 1
bit false = 0

bit-most : (b : Bool) → bit b ≤ 1
bit-most true = omega arith
bit-most false = omega arith

bit-true : (b : Bool) → b ≡ true → bit b ≡ 1
bit-true b is = ap (λ (one : Bool). bit one) is

bit-false : (b : Bool) → b ≡ false → bit b ≡ 0
bit-false b is = ap (λ (one : Bool). bit one) is

not-one : bit true ≡ 0 → ⊥
not-one is = omega (arith, is)

bit-none : (b : Bool) → bit b ≡ 0 → b ≡ false
bit-none true none = absurd (not-one none)
bit-none false none = refl

abbrev many : {A : Type 0} → (A → Bool) → List A → ℕ
many P [] = 0
many P (x ∷ xs) = bit (P x) + many P xs

many-append : {A : Type 0} (P : A → Bool) (xs ys : List A)
    → many P (xs ++ ys) ≡ many P xs + many P ys
many-append P [] ys = omega arith
many-append P (x ∷ xs) ys = omega (arith, many-append P xs ys)

-- ---- numbers that rise

not-below : (id one : ℕ) → id < one → id ≡ one → ⊥
not-below id one less same = omega (arith, less, same)

below-apart : (id one : ℕ) → id < one → bit (nat_eq id one) ≡ 0
below-apart id one less = elim (cases_Bool (nat_eq id one)) [
  | inl same ↦ absurd (not-below id one less (eqb-true id one same))
  | inr apart ↦ bit-false (nat_eq id one) apart
]

none-above : (id last : ℕ) (ids : List ℕ) → id ≤ last → RiseFrom last ids → many (nat_eq id) ids ≡ 0
none-above id last [] low rise = refl
none-above id last (one ∷ ids) low rise =
    let less : id < one = omega (arith, low, rise.0) in
    let rest = none-above id one ids (omega (arith, less)) rise.1 in
    omega (arith, below-apart id one less, rest)

once-from : (id first : ℕ) (ids : List ℕ) → RiseFrom first ids → many (nat_eq id) (first ∷ ids) ≤ 1
once-from id first [] rise = omega (arith, bit-most (nat_eq id first))
once-from id first (second ∷ ids) rise = elim (cases_Bool (nat_eq id first)) [
  | inl same ↦
      let low : id ≤ first = omega (arith, eqb-true id first same) in
      omega (arith, bit-true (nat_eq id first) same, none-above id first (second ∷ ids) low rise)
  | inr apart ↦ omega (arith, bit-false (nat_eq id first) apart, once-from id second ids rise.1)
]

once-rising : (id : ℕ) (ids : List ℕ) → AreRising ids → many (nat_eq id) ids ≤ 1
once-rising id [] rise = omega arith
once-rising id (first ∷ ids) rise = once-from id first ids rise

-- a stream begins once at most
begun-once : (id : ℕ) (came : List ℕ) (given : List InEvent) (told : List Step) → Events came given
    → IsPrefix (events_of told) given → many (nat_eq id) (openings (events_of told)) ≤ 1
begun-once id came given told are front =
    omega (
      arith,
      once-rising id (openings given) (events_rise came given are),
      ap (λ (es : List InEvent). many (nat_eq id) (openings es)) front.1,
      ap (λ (ids : List ℕ). many (nat_eq id) ids)
          (flat_map-append opening_of (events_of told) front.0),
      many-append (nat_eq id) (openings (events_of told)) (openings front.0),
    )

-- ---- the orders of a step

-- how many orders open the stream or refuse it
abbrev touches : ℕ → List Order → ℕ
touches id orders = many (opens_stream id) orders + many (refuses_stream id) orders

touches-append : (id : ℕ) (orders more : List Order)
    → touches id (orders ++ more) ≡ touches id orders + touches id more
touches-append id orders more = omega
    (arith, many-append (opens_stream id) orders more, many-append (refuses_stream id) orders more)

last-none : (id stream : ℕ) (drains : Bool) (before : List ℕ)
    → touches id (last_stream stream drains before) ≡ 0
last-none id stream true before = refl
last-none id stream false before = by ((1 + length before) == MAX_STREAMS)
  where
    by : (b : Bool) → touches id (if b then Goaway stream (reason.Code NoError) ∷ [] else []) ≡ 0
    by true = refl
    by false = refl

opened-once : (id last stream : ℕ) (fate : Fate)
    → touches id (opened last stream fate) ≤ bit (nat_eq id stream)
opened-once id last stream Admitted = omega arith
opened-once id last stream Unknown = omega arith
opened-once id last stream (TurnedAway refused.TooMany) = omega arith
opened-once id last stream (TurnedAway refused.Draining) = omega arith
opened-once id last stream (TurnedAway refused.NotNew) = omega arith
opened-once id last stream (TurnedAway refused.OutOfMemory) = omega arith
opened-once id last stream Lacking = omega arith
opened-once id last stream (Unserved NoWorker) = omega arith
opened-once id last stream (Unserved Stopped) = omega arith
opened-once id last stream Plain = omega arith
opened-once id last stream (Received receipt) = omega arith
opened-once id last stream Missed = omega arith

without-once : (id stream : ℕ) (found : Option (List Field))
    → touches id (without_head stream found ∷ []) ≤ bit (nat_eq id stream)
without-once id stream None = omega arith
without-once id stream (Some fields) = omega arith

refused-once : (id last stream : ℕ) (fault : HeadFault) (fate : Fate)
    → touches id (refused_head last stream fault fate) ≤ bit (nat_eq id stream)
refused-once id last stream fault Lacking = omega arith
refused-once id last stream fault Plain = without-once id stream (refusal_of fault)
refused-once id last stream fault Admitted = without-once id stream (refusal_of fault)
refused-once id last stream fault (Unserved why) = without-once id stream (refusal_of fault)
refused-once id last stream fault Unknown = without-once id stream (refusal_of fault)
refused-once id last stream fault (TurnedAway why) = without-once id stream (refusal_of fault)
refused-once id last stream fault (Received receipt) = without-once id stream (refusal_of fault)
refused-once id last stream fault Missed = without-once id stream (refusal_of fault)

came-none : (id last stream : ℕ) (fate : Fate) → touches id (came last stream fate) ≡ 0
came-none id last stream (Received CallWindow) = refl
came-none id last stream (Received Overrun) = refl
came-none id last stream (Received Discard) = refl
came-none id last stream (Received Feed) = refl
came-none id last stream Missed = refl
came-none id last stream Plain = refl
came-none id last stream Admitted = refl
came-none id last stream (Unserved why) = refl
came-none id last stream Unknown = refl
came-none id last stream (TurnedAway fault) = refl
came-none id last stream Lacking = refl

loose-none : (id last : ℕ) (fate : Fate) → touches id (came_loose last fate) ≡ 0
loose-none id last (Received Overrun) = refl
loose-none id last (Received CallWindow) = refl
loose-none id last (Received Discard) = refl
loose-none id last (Received Feed) = refl
loose-none id last Missed = refl
loose-none id last Plain = refl
loose-none id last Admitted = refl
loose-none id last (Unserved why) = refl
loose-none id last Unknown = refl
loose-none id last (TurnedAway fault) = refl
loose-none id last Lacking = refl

news-none : (id : ℕ) (told : News) → touches id (news_of told ∷ []) ≡ 0
news-none id (news.Settings settings) = refl
news-none id (news.Ping bytes) = refl
news-none id (news.Window stream increment) = refl

cut-none : (id stream : ℕ) (feeding : Bool)
    → touches id (if feeding then Reset stream Cancel true ∷ [] else []) ≡ 0
cut-none id stream true = refl
cut-none id stream false = refl

-- they open or refuse only the stream that the event begins, and that once
told-once : (id : ℕ) (before : List Step) (event : InEvent) (fate : Fate)
    → touches id (orders_at before (Told event fate)) ≤ many (nat_eq id) (openings (event ∷ []))
told-once id before (events.Open stream head) fate =
    let last = named_with stream (is_draining before) (named before) in
    omega (
      arith,
      touches-append id (last_stream stream (is_draining before) (begun before))
          (opened last stream fate),
      last-none id stream (is_draining before) (begun before),
      opened-once id last stream fate,
    )
told-once id before (events.BadHead stream fault) fate =
    let last = named_with stream (is_draining before) (named before) in
    omega (
      arith,
      touches-append id (last_stream stream (is_draining before) (begun before))
          (refused_head last stream fault fate),
      last-none id stream (is_draining before) (begun before),
      refused-once id last stream fault fate,
    )
told-once id before (events.Data stream piece counted) fate =
    omega (arith, came-none id (named before) stream fate)
told-once id before (events.Loose counted) fate = omega (arith, loose-none id (named before) fate)
told-once id before (events.End stream) fate = omega arith
told-once id before (events.Reset stream code) fate = omega arith
told-once id before (events.StreamError stream code) fate = omega arith
told-once id before (events.Control control) fate = omega (arith, news-none id control)
told-once id before events.PeerGoaway fate = omega arith
told-once id before (events.Fatal cause) fate = omega arith

ordered-once : (id : ℕ) (told : List Step)
    → touches id (orders_by told) ≤ many (nat_eq id) (openings (events_of told))
ordered-once id [] = omega arith
ordered-once id (Told event fate ∷ before) =
    omega (
      arith,
      touches-append id (orders_by before) (orders_at before (Told event fate)),
      ordered-once id before,
      told-once id before event fate,
      many-append (nat_eq id) (openings (events_of before)) (openings (event ∷ [])),
      ap (λ (ids : List ℕ). many (nat_eq id) ids)
          (flat_map-append opening_of (events_of before) (event ∷ [])),
    )
ordered-once id (CutOff stream ∷ before) =
    omega (
      arith,
      touches-append id (orders_by before) (orders_at before (CutOff stream)),
      cut-none id stream (is_fed stream before),
      ordered-once id before,
    )
ordered-once id (Drains ∷ before) = omega
    (arith, touches-append id (orders_by before) (orders_at before Drains), ordered-once id before)
ordered-once id (Lacks ∷ before) = omega
    (arith, touches-append id (orders_by before) (orders_at before Lacks), ordered-once id before)

-- ---- the streams of calls that were admitted

many-opens : (id : ℕ) (orders : List Order)
    → many (opens_stream id) orders ≡ many (nat_eq id) (opens_of orders)
many-opens id [] = refl
many-opens id (Open stream sender ∷ orders) = omega (arith, many-opens id orders)
many-opens id (Settings settings ∷ orders) = omega (arith, many-opens id orders)
many-opens id (Ping bytes ∷ orders) = omega (arith, many-opens id orders)
many-opens id (Probe bytes ∷ orders) = omega (arith, many-opens id orders)
many-opens id (Window stream increment ∷ orders) = omega (arith, many-opens id orders)
many-opens id (Refuse stream fields ∷ orders) = omega (arith, many-opens id orders)
many-opens id (Reset stream code written ∷ orders) = omega (arith, many-opens id orders)
many-opens id (Goaway last cause ∷ orders) = omega (arith, many-opens id orders)
many-opens id (InputEnded ∷ orders) = omega (arith, many-opens id orders)
many-opens id (Close ∷ orders) = omega (arith, many-opens id orders)

-- a stream is opened as often as its call was admitted
many-admitted : (id : ℕ) (told : List Step)
    → many (opens_stream id) (orders_by told) ≡ many (nat_eq id) (admitted told)
many-admitted id [] = refl
many-admitted id (step ∷ before) =
    omega (
      arith,
      many-append (opens_stream id) (orders_by before) (orders_at before step),
      many-opens id (orders_at before step),
      ap (λ (ids : List ℕ). many (nat_eq id) ids) (opens-at before step),
      many-append (nat_eq id) (admitted before) (once (admitted_by step)),
      many-admitted id before,
    )

any-many : (id : ℕ) (ids : List ℕ) → list_any (nat_eq id) ids ≡ true → 1 ≤ many (nat_eq id) ids
any-many id [] is = absurd cc
any-many id (one ∷ ids) is = elim (cases_Bool (nat_eq id one)) [
  | inl same ↦ omega (arith, bit-true (nat_eq id one) same)
  | inr apart ↦
      let rest =
      any-many id ids (sym (ap (λ (b : Bool). b || list_any (nat_eq id) ids) apart) ∙ is) in
      omega (arith, rest)
]

-- ---- the orders that a run took

abbrev many_taken : (Order → Bool) → List RunStep → ℕ
many_taken P [] = 0
many_taken P (Taken order ∷ before) = bit (P order) + many_taken P before
many_taken P (Granted id n ∷ before) = many_taken P before
many_taken P (Written frame ∷ before) = many_taken P before
many_taken P (Returned id items ∷ before) = many_taken P before

-- no order of the writer's own passes the test, nor one that ends the reader's
pub record PassesNone (P : Order → Bool) : Type 0 where
  pub answers : (last id : ℕ) → P (own_order last id) ≡ false
  pub leaves : (id : ℕ) → P (Reset id InternalError true) ≡ false
  pub gives_up : (last : ℕ) → P (Goaway last reason.Memory) ≡ false
  pub warns : P warning ≡ false
  pub probes : P (Probe draining) ≡ false
  pub input : P InputEnded ≡ false
  pub closes : P Close ≡ false

module _ (P : Order → Bool) (own : PassesNone P) where
  none-by : (order one : Order) → order ≡ one → P one ≡ false → bit (P order) ≡ 0
  none-by order one is none = bit-false (P order) (ap (λ (o : Order). P o) is ∙ none)

  answer-none : (order : Order) (before : List RunStep) → IsAnswer order before → bit (P order) ≡ 0
  answer-none order [] answer = absurd answer
  answer-none order (Taken blamed ∷ before) answer =
      none-by order (own_order answer.0 answer.1) answer.2 (own.answers answer.0 answer.1)
  answer-none order (Granted id n ∷ before) answer = absurd answer
  answer-none order (Written frame ∷ before) answer = absurd answer
  answer-none order (Returned id items ∷ before) answer = absurd answer

  own-none : (order : Order) (orders : List Order) (before : List RunStep)
      → IsAnswer order before ⊎ (ResetsCall order orders ⊎ Warns order before) → bit (P order) ≡ 0
  own-none order orders before (inl answer) = answer-none order before answer
  own-none order orders before (inr (inl resets)) =
      none-by order (Reset resets.0 InternalError true) resets.1 (own.leaves resets.0)
  own-none order orders before (inr (inr (inl warns))) = none-by order warning warns.0 own.warns
  own-none order orders before (inr (inr (inr warns))) =
      none-by order (Probe draining) warns.0 own.probes

  took-many : (orders : List Order) (run : List RunStep) → HasTaken orders run
      → many_taken P run ≡ many P orders
  took-many orders [] took = sym (ap (λ (os : List Order). many P os) took)
  took-many orders (Taken order ∷ before) (inl took) =
      omega (
        arith,
        took-many took.0 before took.2,
        ap (λ (os : List Order). many P os) took.1,
        many-append P took.0 (order ∷ []),
      )
  took-many orders (Taken order ∷ before) (inr took) =
      omega (arith, took-many orders before took.1, own-none order orders before took.0)
  took-many orders (Granted id n ∷ before) took = took-many orders before took
  took-many orders (Written frame ∷ before) took = took-many orders before took
  took-many orders (Returned id items ∷ before) took = took-many orders before took

  end-none : (order : Order) (rest : List Order)
      → ((last : ℕ) × (order ≡ Goaway last reason.Memory)) ⊎ ((order ≡ Close) × IsAmong order rest)
      → bit (P order) ≡ 0
  end-none order rest (inl goaway) =
      none-by order (Goaway goaway.0 reason.Memory) goaway.1 (own.gives_up goaway.0)
  end-none order rest (inr close) = none-by order Close close.0 own.closes

  ends-none : (rest : List Order) (ends steps : List RunStep) → AreLast rest ends
      → many_taken P (ends ++ steps) ≡ many_taken P steps
  ends-none rest [] steps last = refl
  ends-none rest (Taken order ∷ before) steps last =
      omega (arith, end-none order rest last.0, ends-none rest before steps last.1)
  ends-none rest (Granted id n ∷ before) steps last = ends-none rest before steps last
  ends-none rest (Written frame ∷ before) steps last = ends-none rest before steps last
  ends-none rest (Returned id items ∷ before) steps last = ends-none rest before steps last

  obeyed-many : (put : List Order) (run : List RunStep) → Obeys true put run
      → many_taken P run ≤ many P put
  obeyed-many put run obeys =
      omega (
        arith,
        ap (λ (steps : List RunStep). many_taken P steps) obeys.run_is,
        ends-none obeys.rest obeys.ends obeys.steps obeys.ended,
        took-many obeys.front obeys.steps obeys.took,
        ap (λ (os : List Order). many P os) obeys.orders_are,
        many-append P obeys.front obeys.rest,
      )

  put-many : (all put : List Order) → HasPut (all ++ InputEnded ∷ []) put → many P put ≤ many P all
  put-many all put has =
      omega (
        arith,
        ap (λ (os : List Order). many P os) has.closed,
        many-append P has.front (Close ∷ []),
        bit-false (P Close) own.closes,
        ap (λ (os : List Order). many P os) has.begins.1,
        many-append P has.front has.begins.0,
        many-append P all (InputEnded ∷ []),
        bit-false (P InputEnded) own.input,
      )

  -- a run takes no more than the steps lead to
  taken-many : (told : List Step) (put : List Order) (run : List RunStep)
      → HasPut (orders_by told ++ InputEnded ∷ []) put → Obeys true put run
      → many_taken P run ≤ many P (orders_by told)
  taken-many told put run has obeys =
      omega (arith, obeyed-many put run obeys, put-many (orders_by told) put has)

opens-none : (id : ℕ) → PassesNone (opens_stream id)
opens-none id = record {
  answers = λ last one. by last one (one == 0);
  leaves = λ one. refl;
  gives_up = λ last. refl;
  warns = refl;
  probes = refl;
  input = refl;
  closes = refl;
}
  where
    by : (last one : ℕ) (b : Bool)
        → opens_stream id (if b then Goaway last reason.Window else Reset one FlowControlError true)
        ≡ false
    by last one true = refl
    by last one false = refl

refuses-none : (id : ℕ) → PassesNone (refuses_stream id)
refuses-none id = record {
  answers = λ last one. by last one (one == 0);
  leaves = λ one. refl;
  gives_up = λ last. refl;
  warns = refl;
  probes = refl;
  input = refl;
  closes = refl;
}
  where
    by : (last one : ℕ) (b : Bool)
        → refuses_stream id
        (if b then Goaway last reason.Window else Reset one FlowControlError true)
        ≡ false
    by last one true = refl
    by last one false = refl

-- ---- what a run took of a stream

fresh-none : (id : ℕ) (run : List RunStep)
    → many_taken (opens_stream id) run + many_taken (refuses_stream id) run ≡ 0
    → is_fresh id run ≡ true
fresh-none id [] none = refl
fresh-none id (Taken order ∷ before) none =
    let opens = bit-none (opens_stream id order) (omega (arith, none)) in
    let refuses = bit-none (refuses_stream id order) (omega (arith, none)) in
    ap (λ (b : Bool).
    if b then false else (if refuses_stream id order then false else is_fresh id before)) opens
    ∙ (ap (λ (b : Bool). if b then false else is_fresh id before) refuses
    ∙ fresh-none id before (omega (arith, none)))
fresh-none id (Granted stream n ∷ before) none = fresh-none id before none
fresh-none id (Written frame ∷ before) none = fresh-none id before none
fresh-none id (Returned stream items ∷ before) none = fresh-none id before none

served-once : (id : ℕ) (run : List RunStep)
    → many_taken (opens_stream id) run + many_taken (refuses_stream id) run ≤ 1
    → is_opened id run ≡ true → is_served id run ≡ true
served-once id [] few is = absurd cc
served-once id (Taken order ∷ before) few is = elim (cases_Bool (opens_stream id order)) [
  | inl opens ↦
      let none = bit-true (opens_stream id order) opens in
      ap (λ (b : Bool). if b then is_fresh id before else is_served id before) opens
      ∙ fresh-none id before (omega (arith, few, none))
  | inr other ↦
      ap (λ (b : Bool). if b then is_fresh id before else is_served id before) other
      ∙ served-once id before (omega (arith, few))
      (sym (ap (λ (b : Bool). b || is_opened id before) other) ∙ is)
]
served-once id (Granted stream n ∷ before) few is = served-once id before few is
served-once id (Written frame ∷ before) few is = served-once id before few is
served-once id (Returned stream items ∷ before) few is = served-once id before few is

refuses-here : (id : ℕ) (fields : List Field) (order : Order) → Refuses id fields order
    → refuses_stream id order ≡ true
refuses-here id fields (Refuse stream found) same = eq-eqb id stream same.0
refuses-here id fields (Settings settings) same = absurd same
refuses-here id fields (Ping bytes) same = absurd same
refuses-here id fields (Probe bytes) same = absurd same
refuses-here id fields (Window stream increment) same = absurd same
refuses-here id fields (Open stream sender) same = absurd same
refuses-here id fields (Reset stream code written) same = absurd same
refuses-here id fields (Goaway last cause) same = absurd same
refuses-here id fields InputEnded same = absurd same
refuses-here id fields Close same = absurd same

some-refused : (id : ℕ) (fields : List Field) (run : List RunStep) → IsRefused id fields run
    → 1 ≤ many_taken (refuses_stream id) run
some-refused id fields [] was = absurd was
some-refused id fields (Taken order ∷ before) (inl here) =
    omega (arith, bit-true (refuses_stream id order) (refuses-here id fields order here))
some-refused id fields (Taken order ∷ before) (inr there) =
    omega (arith, some-refused id fields before there)
some-refused id fields (Granted stream n ∷ before) was = some-refused id fields before was
some-refused id fields (Written frame ∷ before) was = some-refused id fields before was
some-refused id fields (Returned stream items ∷ before) was = some-refused id fields before was

-- ---- of orders that were obeyed

served-some : (id : ℕ) (run : List RunStep) → is_served id run ≡ true
    → 1 ≤ many_taken (opens_stream id) run
served-some id [] is = absurd cc
served-some id (Taken order ∷ before) is = elim (cases_Bool (opens_stream id order)) [
  | inl opens ↦ omega (arith, bit-true (opens_stream id order) opens)
  | inr other ↦
      let rest =
      served-some id before
      (sym (ap (λ (b : Bool). if b then is_fresh id before else is_served id before) other) ∙ is) in
      omega (arith, rest)
]
served-some id (Granted stream n ∷ before) is = served-some id before is
served-some id (Written frame ∷ before) is = served-some id before is
served-some id (Returned stream items ∷ before) is = served-some id before is

many-there : (id : ℕ) (ids : List ℕ) → 1 ≤ many (nat_eq id) ids → Contains ids id
many-there id [] some = absurd (omega (arith, some))
many-there id (one ∷ ids) some = elim (cases_Bool (nat_eq id one)) [
  | inl same ↦ (0, omega arith, sym (eqb-true id one same))
  | inr apart ↦
      let rest = many-there id ids (omega (arith, some, bit-false (nat_eq id one) apart)) in
      (suc rest.0, omega (arith, rest.1), rest.2)
]

-- the stream of a call that a run serves is one that they open
pub served-among : (id : ℕ) (orders : List Order) (run : List RunStep) → Obeys true orders run
    → is_served id run ≡ true → Contains (opens_of orders) id
served-among id orders run obeys is =
    many-there id (opens_of orders) (omega (
      arith,
      served-some id run is,
      obeyed-many (opens_stream id) (opens-none id) orders run obeys,
      many-opens id orders,
    ))

opened-some : (id : ℕ) (run : List RunStep) → 1 ≤ many_taken (opens_stream id) run
    → is_opened id run ≡ true
opened-some id [] some = absurd (omega (arith, some))
opened-some id (Taken order ∷ before) some = elim (cases_Bool (opens_stream id order)) [
  | inl opens ↦ ap (λ (b : Bool). b || is_opened id before) opens
  | inr other ↦
      ap (λ (b : Bool). b || is_opened id before) other
      ∙ opened-some id before (omega (arith, some, bit-false (opens_stream id order) other))
]
opened-some id (Granted stream n ∷ before) some = opened-some id before some
opened-some id (Written frame ∷ before) some = opened-some id before some
opened-some id (Returned stream items ∷ before) some = opened-some id before some

-- where all orders are taken, each call that was admitted is opened
pub admitted-opened : (id : ℕ) (told : List Step) (put rest : List Order) (run : List RunStep)
    → put ≡ orders_by told ++ rest → HasTaken put run → is_admitted id told ≡ true
    → is_opened id run ≡ true
admitted-opened id told put rest run is took known =
    opened-some id run (omega (
      arith,
      took-many (opens_stream id) (opens-none id) put run took,
      ap (λ (os : List Order). many (opens_stream id) os) is,
      many-append (opens_stream id) (orders_by told) rest,
      many-admitted id told,
      any-many id (admitted told) known,
    ))

-- ---- of what was heard

module _ (end : Ending) (came : List ℕ) (told : List Step) (put : List Order) (run : List RunStep)
    (given : List InEvent) (heard : AreHeard end came (events_of told)) (are : Events came given)
    (has : HasPut (orders_by told ++ InputEnded ∷ []) put) (obeys : Obeys true put run) where
  touched-once : (id : ℕ) → touches id (orders_by told) ≤ 1
  touched-once id =
      omega (arith, ordered-once id told, begun-once id came given told are (heard.front given are))

  pub once-opened : (id : ℕ) → is_opened id run ≡ true → is_served id run ≡ true
  once-opened id is =
      served-once id run
      (omega (
        arith,
        touched-once id,
        taken-many (opens_stream id) (opens-none id) told put run has obeys,
        taken-many (refuses_stream id) (refuses-none id) told put run has obeys,
      )) is

  -- the stream of a call that was admitted is not refused
  pub never-refused : (id : ℕ) (fields : List Field) → is_admitted id told ≡ true
      → IsRefused id fields run → ⊥
  never-refused id fields known was =
      omega (
        arith,
        touched-once id,
        many-admitted id told,
        any-many id (admitted told) known,
        some-refused id fields run was,
        taken-many (refuses_stream id) (refuses-none id) told put run has obeys,
      )
