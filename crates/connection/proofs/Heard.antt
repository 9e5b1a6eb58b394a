-- What the reading thread has heard, one after another.
use Rattle.std.proofs.Common.{
  ◌≡◌,
  ◌≢◌,
  ◌∙◌,
  ◌⊎◌,
  ◌<◌,
  inl,
  inr,
  ℕ,
  Bool,
  true,
  false,
  true≢false,
  List,
  [],
  ◌∷◌,
  ◌++◌,
  All,
  Option,
  None,
  Some,
  ap,
  append-nil,
  arith,
  refl,
  subst,
  sym,
  map,
}
use Rattle.std.proofs.lemmas.List.{append_assoc, map-append}
use Rattle.std.proofs.lemmas.List.Elements.{All-push, Contains-append_left, Contains-append_right}
use Rattle.std.specs.Io.KnownBytes.{Consumes, Keeps, ReadConsumes}
use Rattle.std.specs.Prelude.{◌||◌, Contains, IfSome, Result, Ok, Err}
use mathlib.Core.List.{IsPrefix}
use Rattle.callparts.specs.declared.order.OpeningCall.{OpeningCall}
use Rattle.callparts.specs.declared.register.Naming.{Ghosts as Naming}
use Rattle.callparts.specs.declared.report.Ending.{Ending}
use Rattle.callparts.specs.declared.report.Ending.TheVariants.{
  Drained,
  InputEnded,
  PeerGoaway,
  ProtocolError,
  ReadFailed,
  WriteFailed,
}
use Rattle.h2frame.specs.declared.error_code.ErrorCode.{ErrorCode}
use Rattle.lane.specs.Ring.{put_in}
use Rattle.outwriter.specs.declared.control.WriterOrder.{WriterOrder}
use Rattle.outwriter.specs.declared.control.WriterOrder.TheVariants as orders
use Rattle.outwriter.specs.Steps.{Order, order_of}
use Rattle.session.specs.declared.event.InEvent.{InEvent}
use Rattle.session.specs.CoreStates.{Core, Reached}
use Rattle.session.proofs.EventLaws.{reached_events}
use Rattle.session.proofs.OneEvents.{events_go_on, events_one}
use Rattle.readerloop.specs.Orders.{ends_at}
use Rattle.readerloop.specs.Readings.{order_in}
use Rattle.readerloop.specs.Reports.{IsFront, is_heard_out}
use Rattle.readerloop.specs.Steps.{Step, events_of, is_drain, is_draining}
use Rattle.readerloop.proofs.LetGo.{events-append}
use Rattle.readerloop.proofs.Resets.{ends-harsh}
use Rattle.connection.specs.declared.orders.Orders.{Orders}
use Rattle.connection.specs.declared.orders.Outbox.{Outbox}
use Rattle.connection.specs.declared.orders.Route.{Ghosts}
use Rattle.connection.specs.Heard.{HasPut, IsEndedBy, IsOfInput}
use Rattle.connection.specs.Puts.{
  Closed,
  DropsNone,
  IsKept,
  IsOwn,
  IsSame,
  Ordered,
  Puts,
  PutsAll,
  put_of,
  put_orders,
}
use Rattle.connection.proofs.Endings.{ends-unbroken}

-- what a core answered to the bytes before
pub front-before : (bytes more : List ℕ) (given : List InEvent) (core : Core)
    → Reached bytes given core → IsFront (bytes ++ more) given
front-before bytes more given core reached all are =
    let on = events_go_on bytes more given all (reached_events bytes given core reached) are in
    (on.0, sym on.1)

-- a front of what it answered
pub front-some : (bytes : List ℕ) (told given : List InEvent) (core : Core)
    → Reached bytes given core → IsPrefix told given → IsFront bytes told
front-some bytes told given core reached begins all are =
    (begins.0, begins.1 ∙ events_one bytes given all (reached_events bytes given core reached) are)

-- ---- bytes that are read

pub consumes-none : (known : Option (List ℕ)) → Consumes known known []
consumes-none None = tt
consumes-none (Some rest) = refl

pub consumes-keeps : (old mid new : Option (List ℕ)) (bytes : List ℕ) → Consumes old mid bytes
    → Keeps mid new → Consumes old new bytes
consumes-keeps None mid new bytes came kept = tt
consumes-keeps (Some whole) None new bytes came kept = absurd came
consumes-keeps (Some whole) (Some rest) None bytes came kept = absurd kept
consumes-keeps (Some whole) (Some rest) (Some now) bytes came kept =
    came ∙ ap (λ (xs : List ℕ). bytes ++ xs) (sym kept)

pub consumes-then : (old mid new : Option (List ℕ)) (bytes more : List ℕ) → Consumes old mid bytes
    → Consumes mid new more → Consumes old new (bytes ++ more)
consumes-then None mid new bytes more came next = tt
consumes-then (Some whole) None new bytes more came next = absurd came
consumes-then (Some whole) (Some rest) None bytes more came next = absurd next
consumes-then (Some whole) (Some rest) (Some now) bytes more came next =
    came ∙ ap (λ (xs : List ℕ). bytes ++ xs) next ∙ sym (append_assoc bytes more now)

pub read-failed : {E : Type 0} (old new : Option (List ℕ)) (result : Result ℕ E) (buf : List ℕ)
    → ((n : ℕ) → result ≡ Ok n → ⊥) → ReadConsumes old new result buf → Consumes old new []
read-failed old new (Ok n) buf not read = absurd (not n refl)
read-failed old new (Err fault) buf not read =
    consumes-keeps old old new [] (consumes-none old) read

-- ---- orders

pub undropped : {P : Type 0} (dropped : Bool) → dropped ≡ true → dropped ≡ false → P
undropped dropped is not = absurd (true≢false (sym is ∙ not))

none-in : {A P : Type 0} (x : A) → Contains [] x → P
none-in x there = absurd (none-within there.0 there.1)
  where
    none-within : (k : ℕ) → k < 0 → ⊥
    none-within k within = omega (arith, within)

module _ {J : Type 0} {book : Naming J} where
  abbrev pub map_of : List (WriterOrder (OpeningCall J book)) → List Order
  map_of controls = map (λ (order : WriterOrder (OpeningCall J book)). order_of order) controls

  -- of nothing that was dropped nothing is kept
  kept-nothing : (one two : Option (WriterOrder (OpeningCall J book))) → two ≡ one
      → IfSome one (Contains []) → IfSome two (Contains [])
  kept-nothing one two is kept =
      subst (λ (found : Option (WriterOrder (OpeningCall J book))).
      IfSome found (Contains [])) (sym is) kept

  kept-left : (dropped : List (WriterOrder (OpeningCall J book)))
      (order : WriterOrder (OpeningCall J book))
      (kept : Option (WriterOrder (OpeningCall J book)))
      → IfSome kept (Contains dropped) → IfSome kept (Contains (dropped ++ order ∷ []))
  kept-left dropped order None there = tt
  kept-left dropped order (Some one) there = Contains-append_left dropped (order ∷ []) one there

  kept-more : (dropped : List (WriterOrder (OpeningCall J book)))
      (order : WriterOrder (OpeningCall J book))
      (old new : Option (WriterOrder (OpeningCall J book)))
      → IsKept order old new → IfSome old (Contains dropped)
      → IfSome new (Contains (dropped ++ order ∷ []))
  kept-more dropped order old new (inl is) there =
      subst (λ (found : Option (WriterOrder (OpeningCall J book))).
      IfSome found (Contains (dropped ++ order ∷ []))) (sym is) (kept-left dropped order old there)
  kept-more dropped order old new (inr is) there =
      subst (λ (found : Option (WriterOrder (OpeningCall J book))).
      IfSome found (Contains (dropped ++ order ∷ []))) (sym is)
      (Contains-append_right dropped (order ∷ []) order (0, omega arith, refl))

module _ {A B C J N : Type 0} {book : Naming J} {route : Ghosts N} where
  pub same-of : (old new : Orders A B C J N book route) → new ≡ old → IsSame old new
  same-of old new is = (
    ap (λ (o : Orders A B C J N book route). o.outbox) is,
    ap (λ (o : Orders A B C J N book route). o.has_dropped) is,
    ap (λ (o : Orders A B C J N book route). o.unput) is,
    ap (λ (o : Orders A B C J N book route). o.backlog) is,
    ap (λ (o : Orders A B C J N book route). o.has_stopped) is,
  )

  pub drops-none : (old new : Orders A B C J N book route) → new ≡ old → DropsNone old new
  drops-none old new is = record {
    stopped = ap (λ (o : Orders A B C J N book route). o.has_stopped) is;
    dropped = ap (λ (o : Orders A B C J N book route). o.has_dropped) is;
    unput = ap (λ (o : Orders A B C J N book route). o.unput) is;
  }

  pub drops-then : (old mid new : Orders A B C J N book route) → DropsNone old mid
      → DropsNone mid new → DropsNone old new
  drops-then old mid new first second = record {
    stopped = second.stopped ∙ first.stopped;
    dropped = second.dropped ∙ first.dropped;
    unput = second.unput ∙ first.unput;
  }

  -- the same was put
  pub put-same : (old new : Orders A B C J N book route) → new.outbox ≡ old.outbox
      → new.backlog ≡ old.backlog → put_of new ≡ put_of old
  put-same old new outbox backlog =
      ap (λ (box : Outbox J N book route). put_in box.tx ++ new.backlog.items) outbox
      ∙ ap (λ later. put_in old.outbox.tx ++ later.items) backlog

  -- an order more
  pub ordered-put : (all : List Order) (order : WriterOrder (OpeningCall J book))
      (old new : Orders A B C J N book route)
      → Puts order old new → IsOwn order → Ordered all old
      → Ordered (all ++ order_of order ∷ []) new
  ordered-put all order old new (inl (put, had, has, unput)) own ordered =
      let none : ordered.dropped ≡ [] = ordered.whole had in
      let before : put_of old ≡ put_of old ++ ordered.dropped =
      sym (ap (λ (os : List (WriterOrder (OpeningCall J book))). put_of old ++ os) none
      ∙ append-nil (put_of old)) in
      let is : put_of new ++ [] ≡ (put_of old ++ ordered.dropped) ++ order ∷ [] =
      append-nil (put_of new)
      ∙ (put ∙ ap (λ (os : List (WriterOrder (OpeningCall J book))). os ++ order ∷ []) before) in
      record {
        dropped = [];
        parts =
            ap map_of is
            ∙ (map-append (λ (o : WriterOrder (OpeningCall J book)). order_of o)
            (put_of old ++ ordered.dropped) (order ∷ [])
            ∙ ap (λ (os : List Order). os ++ order_of order ∷ []) ordered.parts);
        own =
            subst (λ (os : List (WriterOrder (OpeningCall J book))). All IsOwn os) (sym is)
            (All-push IsOwn (put_of old ++ ordered.dropped) order ordered.own own);
        kept =
            kept-nothing old.unput new.unput unput (subst
            (λ (os : List (WriterOrder (OpeningCall J book))). IfSome old.unput (Contains os))
            none ordered.kept);
        whole = λ undropped. refl;
      }
  ordered-put all order old new (inr (same, drops, keeps)) own ordered =
      let is : put_of new ++ (ordered.dropped ++ order ∷ [])
      ≡ (put_of old ++ ordered.dropped) ++ order ∷ [] =
      ap (λ (os : List (WriterOrder (OpeningCall J book))).
      os ++ (ordered.dropped ++ order ∷ [])) same
      ∙ sym (append_assoc (put_of old) ordered.dropped (order ∷ [])) in
      record {
        dropped = ordered.dropped ++ order ∷ [];
        parts =
            ap map_of is
            ∙ (map-append (λ (o : WriterOrder (OpeningCall J book)). order_of o)
            (put_of old ++ ordered.dropped) (order ∷ [])
            ∙ ap (λ (os : List Order). os ++ order_of order ∷ []) ordered.parts);
        own =
            subst (λ (os : List (WriterOrder (OpeningCall J book))). All IsOwn os) (sym is)
            (All-push IsOwn (put_of old ++ ordered.dropped) order ordered.own own);
        kept = kept-more ordered.dropped order old.unput new.unput keeps ordered.kept;
        whole = λ none. undropped new.has_dropped drops none;
      }

  pub ordered-some : (all : List Order) (order : Option (WriterOrder (OpeningCall J book)))
      (old new : Orders A B C J N book route)
      → PutsAll order old new → IfSome order IsOwn → Ordered all old
      → Ordered (all ++ order_in order) new
  ordered-some all None old new same own ordered =
      subst (λ (orders : Orders A B C J N book route). Ordered (all ++ []) orders) (sym same)
      (subst (λ (os : List Order). Ordered os old) (sym (append-nil all)) ordered)
  ordered-some all (Some order) old new puts own ordered =
      ordered-put all order old new puts own ordered

  -- the same orders, where the writer was seen to have stopped since
  pub ordered-stopped : (all : List Order) (old new : Orders A B C J N book route)
      → new.outbox ≡ old.outbox → new.has_dropped ≡ old.has_dropped → new.unput ≡ old.unput
      → new.backlog ≡ old.backlog → Ordered all old → Ordered all new
  ordered-stopped all old new outbox drops unput backlog ordered =
      let is : put_of new ≡ put_of old = put-same old new outbox backlog in
      record {
        dropped = ordered.dropped;
        parts =
            ap (λ (os : List (WriterOrder (OpeningCall J book))). map_of (os ++ ordered.dropped)) is
            ∙ ordered.parts;
        own =
            subst
            (λ (os : List (WriterOrder (OpeningCall J book))). All IsOwn (os ++ ordered.dropped))
            (sym is) ordered.own;
        kept =
            subst (λ (found : Option (WriterOrder (OpeningCall J book))).
            IfSome found (Contains ordered.dropped)) (sym unput) ordered.kept;
        whole = λ none. ordered.whole (sym drops ∙ none);
      }

  pub ordered-same : (all : List Order) (old new : Orders A B C J N book route) → IsSame old new
      → Ordered all old → Ordered all new
  ordered-same all old new same ordered =
      ordered-stopped all old new same.0 same.1 same.2 same.3 ordered

  -- behind these orders that no more come
  pub closed-behind : (all : List Order) (old new : Orders A B C J N book route)
      → put_of new ≡ put_of old ++ orders.Close ∷ [] → new.has_dropped ≡ old.has_dropped
      → new.unput ≡ old.unput → Ordered all old → Closed all new
  closed-behind all old new put same unput ordered = record {
    front = put_of old;
    dropped = ordered.dropped;
    put = put;
    parts = ordered.parts;
    own = ordered.own;
    kept =
        subst (λ (found : Option (WriterOrder (OpeningCall J book))).
        IfSome found (Contains ordered.dropped)) (sym unput) ordered.kept;
    whole = λ none. ordered.whole (sym same ∙ none);
  }

  closed-orders : (all : List Order) (orders_now : Orders A B C J N book route)
      (closed : Closed all orders_now)
      → put_orders orders_now ≡ map_of closed.front ++ orders.Close ∷ []
  closed-orders all orders_now closed =
      ap map_of closed.put
      ∙ map-append (λ (o : WriterOrder (OpeningCall J book)). order_of o) closed.front
      (orders.Close ∷ [])

  pub closed-put : (all : List Order) (orders_now : Orders A B C J N book route)
      → Closed all orders_now → HasPut all (put_orders orders_now)
  closed-put all orders_now closed = record {
    front = map_of closed.front;
    begins = (
      map_of closed.dropped,
      sym (map-append (λ (o : WriterOrder (OpeningCall J book)). order_of o)
          closed.front closed.dropped)
          ∙ closed.parts,
    );
    closed = closed-orders all orders_now closed;
  }

  pub closed-whole : (all : List Order) (orders_now : Orders A B C J N book route)
      → Closed all orders_now → orders_now.has_dropped ≡ false
      → put_orders orders_now ≡ all ++ orders.Close ∷ []
  closed-whole all orders_now closed none =
      let all-put : map_of closed.front ≡ all =
      ap map_of (sym (append-nil closed.front)
      ∙ sym (ap (λ (os : List (WriterOrder (OpeningCall J book))). closed.front ++ os)
      (closed.whole none)))
      ∙ closed.parts in
      closed-orders all orders_now closed
      ∙ ap (λ (os : List Order). os ++ orders.Close ∷ []) all-put

-- ---- steps

pub silent-more : (more told : List Step) → events_of more ≡ []
    → events_of (more ++ told) ≡ events_of told
silent-more more told silent =
    events-append more told
    ∙ (ap (λ (es : List InEvent). events_of told ++ es) silent ∙ append-nil (events_of told))

or-both : (a b : Bool) → a ≡ false → b ≡ false → (a || b) ≡ false
or-both true b one other = absurd (true≢false one)
or-both false b one other = other

or-first : (a b : Bool) → (a || b) ≡ false → a ≡ false
or-first true b is = absurd (true≢false is)
or-first false b is = refl

or-second : (a b : Bool) → (a || b) ≡ false → b ≡ false
or-second true b is = absurd (true≢false is)
or-second false b is = is

-- neither with these steps nor before them the server drained
pub undrained-more : (more told : List Step) → is_draining more ≡ false → is_draining told ≡ false
    → is_draining (more ++ told) ≡ false
undrained-more [] told first none = none
undrained-more (step ∷ more) told first none =
    or-both (is_drain step) (is_draining (more ++ told))
    (or-first (is_drain step) (is_draining more) first)
    (undrained-more more told (or-second (is_drain step) (is_draining more) first) none)

-- ---- how a step ended the connection

pub ended-more : (ending : Ending) (more told : List Step) → IsEndedBy ending told
    → IsEndedBy ending (more ++ told)
ended-more ending [] told is = is
ended-more ending (step ∷ more) told is = inr (ended-more ending more told is)

pub ended-front : (ending : Ending) (more told : List Step) → IsEndedBy ending more
    → IsEndedBy ending (more ++ told)
ended-front ending [] told is = absurd is
ended-front ending (step ∷ more) told (inl is) = inl is
ended-front ending (step ∷ more) told (inr is) = inr (ended-front ending more told is)

pub ended-harsh : (ending : Ending) (told : List Step) → IsEndedBy ending told
    → is_heard_out ending ≡ false
ended-harsh ending [] is = absurd is
ended-harsh ending (step ∷ told) (inl is) =
    subst (λ (found : Option Ending).
    IfSome found (λ e. is_heard_out e ≡ false)) is (ends-harsh step)
ended-harsh ending (step ∷ told) (inr is) = ended-harsh ending told is

-- it is no failed write
pub ended-unbroken : (ending : Ending) (told : List Step) → IsEndedBy ending told
    → ending ≢ WriteFailed
ended-unbroken ending [] is = absurd is
ended-unbroken ending (step ∷ told) (inl is) =
    subst (λ (found : Option Ending). IfSome found (λ e. e ≢ WriteFailed)) is (ends-unbroken step)
ended-unbroken ending (step ∷ told) (inr is) = ended-unbroken ending told is

pub if-ended : (end : Option Ending) (more told : List Step) → IfSome end (λ e. IsEndedBy e more)
    → IfSome end (λ e. IsEndedBy e (more ++ told))
if-ended None more told is = tt
if-ended (Some ending) more told is = ended-front ending more told is

pub ended-at : (step : Step) (end : Option Ending) → ends_at step ≡ end
    → IfSome end (λ e. IsEndedBy e (step ∷ []))
ended-at step None is = tt
ended-at step (Some ending) is = inl is

-- the input ended
abbrev pub EndsInput : Ending → Type 0
EndsInput end = (end ≡ InputEnded) ⊎ ((end ≡ PeerGoaway) ⊎ (end ≡ Drained))

pub not-by-writing : (end : Ending) → EndsInput end → end ≢ WriteFailed
not-by-writing end (inl is) other = cc
not-by-writing end (inr (inl is)) other = cc
not-by-writing end (inr (inr is)) other = cc

pub input-out : (end : Ending) → IsOfInput end → is_heard_out end ≡ true
input-out end (inl is) = ap (λ (e : Ending). is_heard_out e) is
input-out end (inr is) = ap (λ (e : Ending). is_heard_out e) is

pub not-drained : (end : Ending) → end ≡ Drained → IsOfInput end → ⊥
not-drained end drained (inl is) = cc
not-drained end drained (inr is) = cc

pub undrained-so : (end : Ending) (draining told : Bool) → draining ≡ told
    → (draining ≡ true → end ≡ Drained) → IsOfInput end → told ≡ false
undrained-so end true told same drains input = absurd (not-drained end (drains refl) input)
undrained-so end false told same drains input = sym same

pub not-by-error : (end : Ending) → EndsInput end → (code : ErrorCode) → end ≢ ProtocolError code
not-by-error end (inl is) code other = cc
not-by-error end (inr (inl is)) code other = cc
not-by-error end (inr (inr is)) code other = cc

pub not-by-fault : (end : Ending) → EndsInput end → end ≢ ReadFailed
not-by-fault end (inl is) other = cc
not-by-fault end (inr (inl is)) other = cc
not-by-fault end (inr (inr is)) other = cc
