-- The order Close is the last, and with it all orders were taken; an order tells an error only
-- where the connection ended with one.
use Rattle.std.proofs.Common.{
  ◌≡◌,
  ◌∙◌,
  ◌⊎◌,
  inl,
  inr,
  ℕ,
  ◌==◌,
  if◌then◌else◌,
  Bool,
  true,
  false,
  true≢false,
  List,
  [],
  ◌∷◌,
  ◌++◌,
  Option,
  None,
  Some,
  ap,
  refl,
  sym,
  ◌+◌,
}
use Rattle.std.specs.Prelude.{◌||◌, length}
use Rattle.std.specs.List.{list_any}
use Rattle.limits.specs.declared.TheConstants.{MAX_STREAMS}
use Rattle.callhead.specs.declared.fault.HeadFault.{HeadFault}
use Rattle.callhead.specs.StatusFields.{refusal_of}
use Rattle.connbook.specs.declared.answers.AdmitFault.TheVariants as refused
use Rattle.connbook.specs.declared.answers.Receipt.TheVariants.{Feed, Discard, CallWindow, Overrun}
use Rattle.h2frame.specs.declared.error_code.ErrorCode.{ErrorCode}
use Rattle.h2frame.specs.declared.error_code.ErrorCode.TheVariants.{
  NoError,
  FlowControlError,
  Cancel,
}
use Rattle.lists.specs.declared.field.Field.{Field}
use Rattle.outwriter.specs.declared.control.WriterOrder.TheVariants as order
use Rattle.outwriter.specs.declared.control.WriterOrder.TheVariants.{
  Goaway,
  Reset,
  InputEnded,
  Close,
}
use Rattle.outwriter.specs.Calls.{is_closed}
use Rattle.outwriter.specs.Drains.{fails, has_failed}
use Rattle.outwriter.specs.Steps.{Order, Taken, Granted, Written, Returned}
use Rattle.outwriter.specs.Steps.{Step as RunStep}
use Rattle.reasons.specs.declared.Reason.TheVariants as reason
use Rattle.session.specs.declared.event.PeerControl.{PeerControl as News}
use Rattle.session.specs.declared.event.PeerControl.TheVariants as news
use Rattle.session.specs.declared.event.InEvent.{InEvent}
use Rattle.session.specs.declared.event.InEvent.TheVariants as events
use Rattle.readerloop.specs.Orders.{
  begun,
  came,
  came_loose,
  ends_at,
  ends_by,
  is_fed,
  last_stream,
  named,
  named_with,
  news_of,
  opened,
  orders_at,
  orders_by,
  refused_head,
  without_head,
}
use Rattle.readerloop.specs.Reports.{AreCalm}
use Rattle.readerloop.specs.Steps.{
  NoWorker,
  Stopped,
  Fate,
  Plain,
  Admitted,
  Unserved,
  Unknown,
  TurnedAway,
  Received,
  Missed,
  Lacking,
  Step,
  Told,
  CutOff,
  Drains,
  Lacks,
  is_draining,
}
use Rattle.writerloop.specs.Blamed.{blames_by, blames_in}
use Rattle.writerloop.specs.Orders.{HasTaken, IsAnswer, ResetsCall, Warns, closes}

none-true : {P : Type 0} (b : Bool) → b ≡ false → b ≡ true → P
none-true b not is = absurd (true≢false (sym is ∙ not))

or-right : (a c : Bool) → c ≡ true → (a || c) ≡ true
or-right true c is = refl
or-right false c is = is

-- neither is so, where one of them isn't
neither : (a b : Bool) → a ≡ false → b ≡ false → (a || b) ≡ false
neither true b first second = first
neither false b first second = second

neither-left : (a b : Bool) → (a || b) ≡ false → a ≡ false
neither-left true b is = is
neither-left false b is = refl

neither-right : (a b : Bool) → (a || b) ≡ false → b ≡ false
neither-right true b is = absurd (true≢false is)
neither-right false b is = is

other-true : (a b : Bool) → a ≡ false → (a || b) ≡ true → b ≡ true
other-true true b not is = absurd (true≢false not)
other-true false b not is = is

none-append : (is : Order → Bool) (xs ys : List Order) → list_any is xs ≡ false
    → list_any is ys ≡ false → list_any is (xs ++ ys) ≡ false
none-append is [] ys first second = second
none-append is (x ∷ xs) ys first second =
    neither (is x) (list_any is (xs ++ ys)) (neither-left (is x) (list_any is xs) first)
    (none-append is xs ys (neither-right (is x) (list_any is xs) first) second)

none-front : (is : Order → Bool) (xs ys : List Order) → list_any is (xs ++ ys) ≡ false
    → list_any is xs ≡ false
none-front is [] ys none = refl
none-front is (x ∷ xs) ys none =
    neither (is x) (list_any is xs) (neither-left (is x) (list_any is (xs ++ ys)) none)
    (none-front is xs ys (neither-right (is x) (list_any is (xs ++ ys)) none))

none-last : (is : Order → Bool) (xs : List Order) (x : Order)
    → list_any is (xs ++ x ∷ []) ≡ false → is x ≡ false
none-last is [] x none = neither-left (is x) false none
none-last is (y ∷ xs) x none =
    none-last is xs x (neither-right (is y) (list_any is (xs ++ x ∷ [])) none)

any-last : (is : Order → Bool) (xs : List Order) (x : Order) → is x ≡ true
    → list_any is (xs ++ x ∷ []) ≡ true
any-last is [] x one = ap (λ (b : Bool). b || false) one
any-last is (y ∷ xs) x one = or-right (is y) (list_any is (xs ++ x ∷ [])) (any-last is xs x one)

or-mono : (a b c : Bool) → (b ≡ true → c ≡ true) → (a || b) ≡ true → (a || c) ≡ true
or-mono true b c on is = refl
or-mono false b c on is = on is

any-front : (is : Order → Bool) (xs ys : List Order) → list_any is xs ≡ true
    → list_any is (xs ++ ys) ≡ true
any-front is [] ys one = absurd (true≢false (sym one))
any-front is (x ∷ xs) ys one =
    or-mono (is x) (list_any is xs) (list_any is (xs ++ ys)) (λ found. any-front is xs ys found) one

-- ---- an order of the writer's own

-- it closes nothing
own-open : (order : Order) (before : List RunStep) (orders : List Order)
    → IsAnswer order before ⊎ (ResetsCall order orders ⊎ Warns order before) → closes order ≡ false
own-open order [] orders (inl answer) = absurd answer
own-open order (Taken blamed ∷ before) orders (inl (last, id, is, concerns, blames)) =
    ap closes is ∙ by (id == 0)
  where
    by : (b : Bool)
        → closes (if b then Goaway last reason.Window else Reset id FlowControlError true) ≡ false
    by true = refl
    by false = refl
own-open order (Granted id n ∷ before) orders (inl answer) = absurd answer
own-open order (Written frame ∷ before) orders (inl answer) = absurd answer
own-open order (Returned id items ∷ before) orders (inl answer) = absurd answer
own-open order before orders (inr (inl (id, is, among, goes))) = ap closes is
own-open order before orders (inr (inr (inl (is, rest)))) = ap closes is
own-open order before orders (inr (inr (inr (is, rest)))) = ap closes is

-- it tells an error only where it ends the connection for a window
own-fault : (order : Order) (before : List RunStep) (orders : List Order)
    → IsAnswer order before ⊎ (ResetsCall order orders ⊎ Warns order before)
    → (blames_by order ≡ true) ⊎ (fails order ≡ false)
own-fault order [] orders (inl answer) = absurd answer
own-fault order (Taken blamed ∷ before) orders
    (inl (last, id, is, concerns, blames)) = by (id == 0) is
  where
    by : (b : Bool)
        → order ≡ (if b then Goaway last reason.Window else Reset id FlowControlError true)
        → (blames_by order ≡ true) ⊎ (fails order ≡ false)
    by true same = inl (ap blames_by same)
    by false same = inr (ap fails same)
own-fault order (Granted id n ∷ before) orders (inl answer) = absurd answer
own-fault order (Written frame ∷ before) orders (inl answer) = absurd answer
own-fault order (Returned id items ∷ before) orders (inl answer) = absurd answer
own-fault order before orders (inr (inl (id, is, among, goes))) = inr (ap fails is)
own-fault order before orders (inr (inr (inl (is, rest)))) = inr (ap fails is)
own-fault order before orders (inr (inr (inr (is, rest)))) = inr (ap fails is)

-- ---- Close was taken, so all orders were

-- the next order is Close, or one before it is
closes-last : (one : Order) (before : List RunStep) (earlier : List Order)
    → (is_closed before ≡ true → list_any closes earlier ≡ true)
    → is_closed (Taken one ∷ before) ≡ true
    → list_any closes (earlier ++ one ∷ []) ≡ true
closes-last order.Close before earlier on found = any-last closes earlier order.Close refl
closes-last (order.Open id sender) before earlier on found =
    any-front closes earlier (order.Open id sender ∷ []) (on found)
closes-last (order.Settings settings) before earlier on found =
    any-front closes earlier (order.Settings settings ∷ []) (on found)
closes-last (order.Ping bytes) before earlier on found =
    any-front closes earlier (order.Ping bytes ∷ []) (on found)
closes-last (order.Probe bytes) before earlier on found =
    any-front closes earlier (order.Probe bytes ∷ []) (on found)
closes-last (order.Window id n) before earlier on found =
    any-front closes earlier (order.Window id n ∷ []) (on found)
closes-last (order.Refuse id fields) before earlier on found =
    any-front closes earlier (order.Refuse id fields ∷ []) (on found)
closes-last (order.Reset id code written) before earlier on found =
    any-front closes earlier (order.Reset id code written ∷ []) (on found)
closes-last (order.Goaway last cause) before earlier on found =
    any-front closes earlier (order.Goaway last cause ∷ []) (on found)
closes-last order.InputEnded before earlier on found =
    any-front closes earlier (order.InputEnded ∷ []) (on found)

closed-before : (one : Order) (before : List RunStep) → closes one ≡ false
    → is_closed (Taken one ∷ before) ≡ true → is_closed before ≡ true
closed-before order.Close before other found = absurd (true≢false other)
closed-before (order.Open id sender) before other found = found
closed-before (order.Settings settings) before other found = found
closed-before (order.Ping bytes) before other found = found
closed-before (order.Probe bytes) before other found = found
closed-before (order.Window id n) before other found = found
closed-before (order.Refuse id fields) before other found = found
closed-before (order.Reset id code written) before other found = found
closed-before (order.Goaway last cause) before other found = found
closed-before order.InputEnded before other found = found

-- a run that took Close has it of the orders
pub took-close : (orders : List Order) (run : List RunStep) → HasTaken orders run
    → is_closed run ≡ true → list_any closes orders ≡ true
took-close orders [] took is = absurd (true≢false (sym is))
took-close orders (Taken one ∷ before) (inl (earlier, parts, took)) is =
    ap (λ (os : List Order). list_any closes os) parts
    ∙ closes-last one before earlier (λ found. took-close earlier before took found) is
took-close orders (Taken one ∷ before) (inr (own, took)) is =
    took-close orders before took (closed-before one before (own-open one before orders own) is)
took-close orders (Granted id n ∷ before) took is = took-close orders before took is
took-close orders (Written frame ∷ before) took is = took-close orders before took is
took-close orders (Returned id items ∷ before) took is = took-close orders before took is

abbrev tail-of : List Order → List Order
tail-of [] = []
tail-of (x ∷ xs) = xs

abbrev head-closes : List Order → Bool
head-closes [] = false
head-closes (x ∷ xs) = closes x

nil-right : (xs ys : List Order) → xs ++ ys ≡ [] → ys ≡ []
nil-right [] ys is = is
nil-right (x ∷ xs) ys is = absurd cc

-- behind the last order none is left
pub none-behind : (xs ys front : List Order) → xs ++ ys ≡ front ++ Close ∷ []
    → list_any closes xs ≡ true → list_any closes front ≡ false → ys ≡ []
none-behind [] ys front parts found none = absurd (true≢false (sym found))
none-behind (x ∷ xs) ys [] parts found none = nil-right xs ys (ap tail-of parts)
none-behind (x ∷ xs) ys (f ∷ front) parts found none =
    let open-one : closes x ≡ false =
    ap head-closes parts ∙ neither-left (closes f) (list_any closes front) none in
    none-behind xs ys front (ap tail-of parts)
    (other-true (closes x) (list_any closes xs) open-one found)
    (neither-right (closes f) (list_any closes front) none)

-- ---- no step leads to a Close

open-opened : (last id : ℕ) (fate : Fate) → list_any closes (opened last id fate) ≡ false
open-opened last id Admitted = refl
open-opened last id Unknown = refl
open-opened last id (TurnedAway refused.TooMany) = refl
open-opened last id (TurnedAway refused.Draining) = refl
open-opened last id (TurnedAway refused.NotNew) = refl
open-opened last id (TurnedAway refused.OutOfMemory) = refl
open-opened last id Lacking = refl
open-opened last id (Unserved NoWorker) = refl
open-opened last id (Unserved Stopped) = refl
open-opened last id Plain = refl
open-opened last id (Received receipt) = refl
open-opened last id Missed = refl

open-without : (id : ℕ) (found : Option (List Field))
    → list_any closes (without_head id found ∷ []) ≡ false
open-without id None = refl
open-without id (Some fields) = refl

open-refused : (last id : ℕ) (fault : HeadFault) (fate : Fate)
    → list_any closes (refused_head last id fault fate) ≡ false
open-refused last id fault Lacking = refl
open-refused last id fault Plain = open-without id (refusal_of fault)
open-refused last id fault Admitted = open-without id (refusal_of fault)
open-refused last id fault (Unserved why) = open-without id (refusal_of fault)
open-refused last id fault Unknown = open-without id (refusal_of fault)
open-refused last id fault (TurnedAway why) = open-without id (refusal_of fault)
open-refused last id fault (Received receipt) = open-without id (refusal_of fault)
open-refused last id fault Missed = open-without id (refusal_of fault)

open-came : (last id : ℕ) (fate : Fate) → list_any closes (came last id fate) ≡ false
open-came last id (Received CallWindow) = refl
open-came last id (Received Overrun) = refl
open-came last id (Received Discard) = refl
open-came last id (Received Feed) = refl
open-came last id Missed = refl
open-came last id Plain = refl
open-came last id Admitted = refl
open-came last id (Unserved why) = refl
open-came last id Unknown = refl
open-came last id (TurnedAway fault) = refl
open-came last id Lacking = refl

open-loose : (last : ℕ) (fate : Fate) → list_any closes (came_loose last fate) ≡ false
open-loose last (Received Overrun) = refl
open-loose last (Received CallWindow) = refl
open-loose last (Received Discard) = refl
open-loose last (Received Feed) = refl
open-loose last Missed = refl
open-loose last Plain = refl
open-loose last Admitted = refl
open-loose last (Unserved why) = refl
open-loose last Unknown = refl
open-loose last (TurnedAway fault) = refl
open-loose last Lacking = refl

open-news : (control : News) → list_any closes (news_of control ∷ []) ≡ false
open-news (news.Settings settings) = refl
open-news (news.Ping bytes) = refl
open-news (news.Window id increment) = refl

open-cut : (id : ℕ) (code : ErrorCode) (fed : Bool)
    → list_any closes (if fed then Reset id code true ∷ [] else []) ≡ false
open-cut id code true = refl
open-cut id code false = refl

open-named : (id : ℕ) (many : Bool)
    → list_any closes (if many then Goaway id (reason.Code NoError) ∷ [] else []) ≡ false
open-named id true = refl
open-named id false = refl

open-last : (id : ℕ) (draining : Bool) (ids : List ℕ)
    → list_any closes (last_stream id draining ids) ≡ false
open-last id true ids = refl
open-last id false ids = open-named id ((1 + length ids) == MAX_STREAMS)

open-event : (before : List Step) (event : InEvent) (fate : Fate)
    → list_any closes (orders_at before (Told event fate)) ≡ false
open-event before (events.Open id head) fate =
    none-append closes (last_stream id (is_draining before) (begun before))
    (opened (named_with id (is_draining before) (named before)) id fate)
    (open-last id (is_draining before) (begun before))
    (open-opened (named_with id (is_draining before) (named before)) id fate)
open-event before (events.BadHead id fault) fate =
    none-append closes (last_stream id (is_draining before) (begun before))
    (refused_head (named_with id (is_draining before) (named before)) id fault fate)
    (open-last id (is_draining before) (begun before))
    (open-refused (named_with id (is_draining before) (named before)) id fault fate)
open-event before (events.Data id piece counted) fate = open-came (named before) id fate
open-event before (events.Loose counted) fate = open-loose (named before) fate
open-event before (events.Reset id code) fate = refl
open-event before (events.StreamError id code) fate = refl
open-event before (events.Control control) fate = open-news control
open-event before (events.Fatal cause) fate = refl
open-event before (events.End id) fate = refl
open-event before events.PeerGoaway fate = refl

pub none-closes : (told : List Step) → list_any closes (orders_by told) ≡ false
none-closes [] = refl
none-closes (Drains ∷ before) =
    none-append closes (orders_by before) (orders_at before Drains) (none-closes before) refl
none-closes (Lacks ∷ before) =
    none-append closes (orders_by before) (orders_at before Lacks) (none-closes before) refl
none-closes (Told event fate ∷ before) =
    none-append closes (orders_by before) (orders_at before (Told event fate)) (none-closes before)
    (open-event before event fate)
none-closes (CutOff id ∷ before) =
    none-append closes (orders_by before) (orders_at before (CutOff id)) (none-closes before)
    (open-cut id Cancel (is_fed id before))

-- so of all orders of the reader's Close is the last: where the writer took it, none is left
pub none-left : (told : List Step) (front dropped xs ys : List Order)
    → front ++ dropped ≡ orders_by told ++ InputEnded ∷ [] → xs ++ ys ≡ front ++ Close ∷ []
    → list_any closes xs ≡ true → ys ≡ []
none-left told front dropped xs ys parts put found =
    none-behind xs ys front put found
    (none-front closes front dropped (ap (λ (os : List Order). list_any closes os) parts
    ∙ none-append closes (orders_by told) (InputEnded ∷ []) (none-closes told) refl))

-- ---- a step that doesn't end the connection leads to no error of it

mild-opened : (last id : ℕ) (fate : Fate) → ends_by fate ≡ None
    → list_any fails (opened last id fate) ≡ false
mild-opened last id Admitted calm = refl
mild-opened last id Unknown calm = refl
mild-opened last id (TurnedAway refused.TooMany) calm = refl
mild-opened last id (TurnedAway refused.Draining) calm = refl
mild-opened last id (TurnedAway refused.NotNew) calm = absurd cc
mild-opened last id (TurnedAway refused.OutOfMemory) calm = absurd cc
mild-opened last id Lacking calm = absurd cc
mild-opened last id (Unserved NoWorker) calm = absurd cc
mild-opened last id (Unserved Stopped) calm = refl
mild-opened last id Plain calm = refl
mild-opened last id (Received receipt) calm = refl
mild-opened last id Missed calm = refl

mild-without : (id : ℕ) (found : Option (List Field))
    → list_any fails (without_head id found ∷ []) ≡ false
mild-without id None = refl
mild-without id (Some fields) = refl

mild-refused : (last id : ℕ) (fault : HeadFault) (fate : Fate) → ends_by fate ≡ None
    → list_any fails (refused_head last id fault fate) ≡ false
mild-refused last id fault Lacking calm = absurd cc
mild-refused last id fault Plain calm = mild-without id (refusal_of fault)
mild-refused last id fault Admitted calm = mild-without id (refusal_of fault)
mild-refused last id fault (Unserved why) calm = mild-without id (refusal_of fault)
mild-refused last id fault Unknown calm = mild-without id (refusal_of fault)
mild-refused last id fault (TurnedAway why) calm = mild-without id (refusal_of fault)
mild-refused last id fault (Received receipt) calm = mild-without id (refusal_of fault)
mild-refused last id fault Missed calm = mild-without id (refusal_of fault)

mild-came : (last id : ℕ) (fate : Fate) → ends_by fate ≡ None
    → list_any fails (came last id fate) ≡ false
mild-came last id (Received CallWindow) calm = refl
mild-came last id (Received Overrun) calm = absurd cc
mild-came last id (Received Discard) calm = refl
mild-came last id (Received Feed) calm = refl
mild-came last id Missed calm = refl
mild-came last id Plain calm = refl
mild-came last id Admitted calm = refl
mild-came last id (Unserved why) calm = refl
mild-came last id Unknown calm = refl
mild-came last id (TurnedAway fault) calm = refl
mild-came last id Lacking calm = absurd cc

mild-loose : (last : ℕ) (fate : Fate) → ends_by fate ≡ None
    → list_any fails (came_loose last fate) ≡ false
mild-loose last (Received Overrun) calm = absurd cc
mild-loose last (Received CallWindow) calm = refl
mild-loose last (Received Discard) calm = refl
mild-loose last (Received Feed) calm = refl
mild-loose last Missed calm = refl
mild-loose last Plain calm = refl
mild-loose last Admitted calm = refl
mild-loose last (Unserved why) calm = refl
mild-loose last Unknown calm = refl
mild-loose last (TurnedAway fault) calm = refl
mild-loose last Lacking calm = refl

mild-news : (control : News) → list_any fails (news_of control ∷ []) ≡ false
mild-news (news.Settings settings) = refl
mild-news (news.Ping bytes) = refl
mild-news (news.Window id increment) = refl

mild-cut : (id : ℕ) (code : ErrorCode) (fed : Bool)
    → list_any fails (if fed then Reset id code true ∷ [] else []) ≡ false
mild-cut id code true = refl
mild-cut id code false = refl

mild-named : (id : ℕ) (many : Bool)
    → list_any fails (if many then Goaway id (reason.Code NoError) ∷ [] else []) ≡ false
mild-named id true = refl
mild-named id false = refl

mild-last : (id : ℕ) (draining : Bool) (ids : List ℕ)
    → list_any fails (last_stream id draining ids) ≡ false
mild-last id true ids = refl
mild-last id false ids = mild-named id ((1 + length ids) == MAX_STREAMS)

mild-event : (before : List Step) (event : InEvent) (fate : Fate) → ends_at (Told event fate) ≡ None
    → list_any fails (orders_at before (Told event fate)) ≡ false
mild-event before (events.Open id head) fate calm =
    none-append fails (last_stream id (is_draining before) (begun before))
    (opened (named_with id (is_draining before) (named before)) id fate)
    (mild-last id (is_draining before) (begun before))
    (mild-opened (named_with id (is_draining before) (named before)) id fate calm)
mild-event before (events.BadHead id fault) fate calm =
    none-append fails (last_stream id (is_draining before) (begun before))
    (refused_head (named_with id (is_draining before) (named before)) id fault fate)
    (mild-last id (is_draining before) (begun before))
    (mild-refused (named_with id (is_draining before) (named before)) id fault fate calm)
mild-event before (events.Data id piece counted) fate calm = mild-came (named before) id fate calm
mild-event before (events.Loose counted) fate calm = mild-loose (named before) fate calm
mild-event before (events.Reset id code) fate calm = refl
mild-event before (events.StreamError id code) fate calm = refl
mild-event before (events.Control control) fate calm = mild-news control
mild-event before (events.Fatal cause) fate calm = absurd cc
mild-event before (events.End id) fate calm = refl
mild-event before events.PeerGoaway fate calm = refl

none-ends : {A : Type 0} {end : A} → Some end ≡ None → ⊥
none-ends is = cc

none-fails : (told : List Step) → AreCalm told → list_any fails (orders_by told) ≡ false
none-fails [] calm = refl
none-fails (Drains ∷ before) calm =
    none-append fails (orders_by before) (orders_at before Drains) (none-fails before calm.1) refl
none-fails (Lacks ∷ before) calm = absurd (none-ends calm.0)
none-fails (Told event fate ∷ before) calm =
    none-append fails (orders_by before) (orders_at before (Told event fate))
    (none-fails before calm.1) (mild-event before event fate calm.0)
none-fails (CutOff id ∷ before) calm =
    none-append fails (orders_by before) (orders_at before (CutOff id)) (none-fails before calm.1)
    (mild-cut id Cancel (is_fed id before))

-- ---- the writer told no error

-- an order for a window tells an error
window-fails : (one : Order) → blames_by one ≡ true → fails one ≡ true
window-fails (order.Goaway last reason.Window) is = refl
window-fails (order.Goaway last (reason.Code code)) is = absurd (true≢false (sym is))
window-fails (order.Goaway last reason.Preface) is = absurd (true≢false (sym is))
window-fails (order.Goaway last reason.First) is = absurd (true≢false (sym is))
window-fails (order.Goaway last (reason.Frame fault)) is = absurd (true≢false (sym is))
window-fails (order.Goaway last reason.Push) is = absurd (true≢false (sym is))
window-fails (order.Goaway last reason.Lone) is = absurd (true≢false (sym is))
window-fails (order.Goaway last reason.Interrupted) is = absurd (true≢false (sym is))
window-fails (order.Goaway last reason.BlockTooLong) is = absurd (true≢false (sym is))
window-fails (order.Goaway last (reason.Hpack fault)) is = absurd (true≢false (sym is))
window-fails (order.Goaway last (reason.Setting id)) is = absurd (true≢false (sym is))
window-fails (order.Goaway last (reason.Stream kind code)) is = absurd (true≢false (sym is))
window-fails (order.Goaway last reason.Overrun) is = absurd (true≢false (sym is))
window-fails (order.Goaway last reason.Memory) is = absurd (true≢false (sym is))
window-fails (order.Open id sender) is = absurd (true≢false (sym is))
window-fails (order.Settings settings) is = absurd (true≢false (sym is))
window-fails (order.Ping bytes) is = absurd (true≢false (sym is))
window-fails (order.Probe bytes) is = absurd (true≢false (sym is))
window-fails (order.Window id n) is = absurd (true≢false (sym is))
window-fails (order.Refuse id fields) is = absurd (true≢false (sym is))
window-fails (order.Reset id code written) is = absurd (true≢false (sym is))
window-fails order.InputEnded is = absurd (true≢false (sym is))
window-fails order.Close is = absurd (true≢false (sym is))

windows-fail : (orders : List Order) → list_any fails orders ≡ false
    → list_any blames_by orders ≡ false
windows-fail [] none = refl
windows-fail (one ∷ orders) none =
    neither (blames_by one) (list_any blames_by orders) (by (blames_by one) refl)
    (windows-fail orders (neither-right (fails one) (list_any fails orders) none))
  where
    by : (b : Bool) → blames_by one ≡ b → blames_by one ≡ false
    by true is =
        none-true (fails one) (neither-left (fails one) (list_any fails orders) none)
        (window-fails one is)
    by false is = is

fault-or : (one : Order) (before : List RunStep) → (blames_by one ≡ true) ⊎ (fails one ≡ false)
    → (has_failed before ≡ true → blames_in before ≡ true) → has_failed (Taken one ∷ before) ≡ true
    → blames_in (Taken one ∷ before) ≡ true
fault-or one before (inl blames) on is = ap (λ (b : Bool). b || blames_in before) blames
fault-or one before (inr mild) on is =
    or-right (blames_by one) (blames_in before)
    (on (other-true (fails one) (has_failed before) mild is))

-- where it told one, and none was ordered, it was for a window
failed-blames : (orders : List Order) (run : List RunStep) → HasTaken orders run
    → list_any fails orders ≡ false → has_failed run ≡ true → blames_in run ≡ true
failed-blames orders [] took none is = absurd (true≢false (sym is))
failed-blames orders (Taken one ∷ before) (inl (earlier, parts, took)) none is =
    let all : list_any fails (earlier ++ one ∷ []) ≡ false =
    ap (λ (os : List Order). list_any fails os) (sym parts) ∙ none in
    or-right (blames_by one) (blames_in before)
    (failed-blames earlier before took (none-front fails earlier (one ∷ []) all)
    (other-true (fails one) (has_failed before) (none-last fails earlier one all) is))
failed-blames orders (Taken one ∷ before) (inr (own, took)) none is =
    fault-or one before (own-fault one before orders own)
    (λ found. failed-blames orders before took none found) is
failed-blames orders (Granted id n ∷ before) took none is = failed-blames orders before took none is
failed-blames orders (Written frame ∷ before) took none is =
    failed-blames orders before took none is
failed-blames orders (Returned id items ∷ before) took none is =
    failed-blames orders before took none is

-- behind steps none of which ended the connection, a writer that blamed its peer for no window told
-- no error
pub none-failed : (told : List Step) (put : List Order) (run : List RunStep) → AreCalm told
    → put ≡ orders_by told ++ InputEnded ∷ Close ∷ [] → HasTaken put run
    → (blames_in run ≡ true → list_any blames_by put ≡ true) → has_failed run ≡ false
none-failed told put run calm is took blames = by (has_failed run) refl
  where
    clean : list_any fails put ≡ false
    clean =
        ap (λ (os : List Order). list_any fails os) is
        ∙ none-append fails (orders_by told) (InputEnded ∷ Close ∷ []) (none-fails told calm) refl

    by : (b : Bool) → has_failed run ≡ b → has_failed run ≡ false
    by true found =
        none-true (list_any blames_by put) (windows-fail put clean)
        (blames (failed-blames put run took clean found))
    by false found = found
