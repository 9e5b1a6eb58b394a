-- What each step of a writer does to the calls whose senders its core has, and to the senders that
-- were handed back.
use Rattle.std.proofs.Common.{
  ◌≡◌,
  ◌≢◌,
  ◌⊎◌,
  ◌∙◌,
  ℕ,
  zero,
  suc,
  ◌<◌,
  ◌+◌,
  eqb,
  Bool,
  true,
  false,
  nat_eq,
  List,
  [],
  ◌∷◌,
  ◌++◌,
  Option,
  None,
  Some,
  map,
  length,
  get_or,
  ap,
  sym,
  refl,
  subst,
  inl,
  inr,
  arith,
  ◌||◌,
  append-nil,
  append_assoc,
  true≢false,
}
use Rattle.std.specs.Prelude.{All, Contains}
use Rattle.std.specs.List.{IsDistinct, AllByRecursion, swap_remove}
use Rattle.std.specs.List.Sorted.{IsPermutation}
use Rattle.std.proofs.lemmas.Bool.Decides.{eqb_tells}
use Rattle.std.proofs.lemmas.Cmp.{nat_eq_equiv}
use Rattle.std.proofs.lemmas.List.{get_or-map, get_or_default, length-map, map-append}
use Rattle.std.proofs.lemmas.List.Elements.{
  All-nil,
  All-push,
  All-weaker,
  Contains-append_cases,
  Contains-append_left,
  Contains-append_right,
  Contains-get_or,
  Contains-push,
}
use Rattle.std.proofs.lemmas.List.Sorted.{
  Contains-permutation,
  IsPermutation-append_comm,
  IsPermutation-append_left,
  IsPermutation-append_right,
  IsPermutation-map,
  IsPermutation-refl,
  IsPermutation-swap_remove,
  IsPermutation-sym,
  IsPermutation-trans,
}
use Rattle.account.specs.declared.call.OutItem.{OutItem}
use Rattle.lane.specs.RingLane.{got}
use Rattle.h2frame.specs.declared.frame.Frame.{Frame}
use Rattle.outwriter.specs.declared.control.WriterOrder.{WriterOrder}
use Rattle.outwriter.specs.declared.control.WriterOrder.TheVariants as control
use Rattle.outwriter.specs.Calls.{IsReturned}
use Rattle.outwriter.specs.Cores.{calls}
use Rattle.outwriter.specs.LeftCalls.{GaveLeft}
use Rattle.outwriter.specs.Releases.{Releases}
use Rattle.outwriter.specs.Runs.{is_opened, opens_stream}
use Rattle.outwriter.specs.Steps.{Order, Step, Taken, Granted, Written, Returned, order_of}
use Rattle.callparts.specs.declared.order.OpeningCall.{OpeningCall}
use Rattle.callparts.specs.declared.order.ReturningCall.{ReturningCall}
use Rattle.callparts.specs.declared.register.CallNumber.{CallNumber}
use Rattle.callparts.specs.declared.register.Naming.{Ghosts}
use Rattle.callparts.specs.Lanes.{OutSender}
use Rattle.writerloop.specs.declared.sends.SendingCall.{SendingCall}
use Rattle.writerloop.specs.Left.{left_by, left_in}
use Rattle.writerloop.specs.Orders.{IsAmong, OpensNone, order_in, orders_of}
use Rattle.writerloop.specs.Sent.{
  AreApart,
  HandsHome,
  HasAll,
  IsBack,
  ResetsNone,
  got_of,
  handed_calls,
  handed_numbers,
  numbered,
  numbers,
  opens,
}
use Rattle.writerloop.proofs.OrderSteps.{among-last, among-more}

-- ---- lists

contains-map : {X Y : Type 0} (f : X → Y) (xs : List X) (x : X) → Contains xs x
    → Contains (map f xs) (f x)
contains-map f xs x (k, within, at) =
    (k, omega (arith, within, length-map xs f), get_or-map f xs k x (f x) within ∙ ap f at)

rec-last : {X : Type 0} (P : X → Type 0) (xs : List X) (x : X)
    → AllByRecursion P (xs ++ x ∷ []) → P x
rec-last P [] x all = all.0
rec-last P (y ∷ ys) x all = rec-last P ys x all.1

rec-front : {X : Type 0} (P : X → Type 0) (xs : List X) (x : X) → AllByRecursion P (xs ++ x ∷ [])
    → AllByRecursion P xs
rec-front P [] x all = tt
rec-front P (y ∷ ys) x all = (all.0, rec-front P ys x all.1)

distinct-front : (ids : List ℕ) (id : ℕ) → IsDistinct nat_eq (ids ++ id ∷ [])
    → IsDistinct nat_eq ids
unfolding IsDistinct
distinct-front [] id apart = tt
distinct-front (x ∷ ids) id apart =
    (rec-front (λ (y : ℕ). nat_eq x y ≡ false) ids id apart.0, distinct-front ids id apart.1)

-- the last one is none of those before
last-new : (ids : List ℕ) (id : ℕ) → IsDistinct nat_eq (ids ++ id ∷ []) → (k : ℕ) → k < length ids
    → get_or ids k id ≡ id → ⊥
unfolding IsDistinct
last-new [] id apart k within at = absurd (omega (arith, within))
last-new (x ∷ ids) id apart zero within at =
    true≢false (sym (ap (λ (n : ℕ). nat_eq n id) at ∙ nat_eq_equiv.refl id)
    ∙ rec-last (λ (y : ℕ). nat_eq x y ≡ false) ids id apart.0)
last-new (x ∷ ids) id apart (suc k) within at = last-new ids id apart.1 k (omega (arith, within)) at

-- ---- runs

-- the run goes on, and opens this stream no more
abbrev pub On : List Step → List Step → ℕ → Type 0
On run new id =
    (is_opened id run ≡ false → is_opened id new ≡ false)
    × ((items : List OutItem) → IsReturned id items run → IsReturned id items new)

pub on-same : (run : List Step) (id : ℕ) → On run run id
on-same run id = (λ never. never, λ items r. r)

pub on-frames : (frames : List Frame) (run : List Step) (id : ℕ)
    → On run (map Written frames ++ run) id
on-frames [] run id = (λ never. never, λ items r. r)
on-frames (frame ∷ frames) run id = on-frames frames run id

pub on-granted : (stream n : ℕ) (run : List Step) (id : ℕ) → On run (Granted stream n ∷ run) id
on-granted stream n run id = (λ never. never, λ items r. r)

on-returned : (stream : ℕ) (found : List OutItem) (run : List Step) (id : ℕ)
    → On run (Returned stream found ∷ run) id
on-returned stream found run id = (λ never. never, λ items r. inr r)

pub on-taken : (order : Order) (run : List Step) (id : ℕ) → opens_stream id order ≡ false
    → On run (Taken order ∷ run) id
on-taken order run id other = (λ never. ap (λ b. b || is_opened id run) other ∙ never, λ items r. r)

not-eq : (a b : ℕ) → (a ≡ b → ⊥) → eqb a b ≡ false
not-eq a b ne = by (eqb_tells a b)
  where
    by : ((eqb a b ≡ true) × (a ≡ b)) ⊎ ((eqb a b ≡ false) × (a ≡ b → ⊥)) → eqb a b ≡ false
    by (inl t) = absurd (ne t.1)
    by (inr t) = t.0

on-open : (stream : ℕ) (run : List Step) (id : ℕ) → (id ≡ stream → ⊥)
    → On run (Taken (control.Open stream tt) ∷ run) id
on-open stream run id ne = on-taken (control.Open stream tt) run id (not-eq id stream ne)

back-on : (run new : List Step) (id : ℕ) (sender : Option OutSender) → On run new id
    → IsBack run id sender → IsBack new id sender
back-on run new id None on back = absurd back
back-on run new id (Some sender) on (inl returned) = inl (on.1 (got sender.rx) returned)
back-on run new id (Some sender) on (inr never) = inr (on.0 never.0, never.1)

gave-either : (id : ℕ) (core cores handed : List (ℕ × List OutItem))
    → (GaveLeft id core → GaveLeft id cores) → GaveLeft id (core ++ handed)
    → GaveLeft id (cores ++ handed)
gave-either id core cores handed more (items, there, left) =
    by (Contains-append_cases core handed (id, items) there)
  where
    by : Contains core (id, items) ⊎ Contains handed (id, items) → GaveLeft id (cores ++ handed)
    by (inl here) =
        let found = more (items, here, left) in
        (found.0, Contains-append_left cores handed (id, found.0) found.1, found.2)
    by (inr other) = (items, Contains-append_right cores handed (id, items) other, left)

gave-more : (id : ℕ) (core handed more : List (ℕ × List OutItem)) → GaveLeft id (core ++ handed)
    → GaveLeft id (core ++ (handed ++ more))
gave-more id core handed more (items, there, left) = (
  items,
  subst (λ (all : List (ℕ × List OutItem)). Contains all (id, items))
      (append_assoc core handed more)
      (Contains-append_left (core ++ handed) more (id, items) there),
  left,
)

-- ---- orders that open calls

module _ {J : Type 0} {naming : Ghosts J} where
  opens-append : (xs ys : List (WriterOrder (OpeningCall J naming)))
      → opens (xs ++ ys) ≡ opens xs ++ opens ys
  opens-append [] ys = refl
  opens-append (control.Open id opening ∷ xs) ys =
      ap (λ (all : List (CallNumber J naming × ℕ)). numbered id opening.sending.value ∷ all)
      (opens-append xs ys)
  opens-append (control.Settings settings ∷ xs) ys = opens-append xs ys
  opens-append (control.Ping bytes ∷ xs) ys = opens-append xs ys
  opens-append (control.Probe bytes ∷ xs) ys = opens-append xs ys
  opens-append (control.Window id n ∷ xs) ys = opens-append xs ys
  opens-append (control.Refuse id fields ∷ xs) ys = opens-append xs ys
  opens-append (control.Reset id code written ∷ xs) ys = opens-append xs ys
  opens-append (control.Goaway last cause ∷ xs) ys = opens-append xs ys
  opens-append (control.InputEnded ∷ xs) ys = opens-append xs ys
  opens-append (control.Close ∷ xs) ys = opens-append xs ys

  pub opens-none : (order : WriterOrder (OpeningCall J naming)) → OpensNone order
      → opens (order ∷ []) ≡ []
  opens-none (control.Open id opening) none = absurd none
  opens-none (control.Settings settings) none = refl
  opens-none (control.Ping bytes) none = refl
  opens-none (control.Probe bytes) none = refl
  opens-none (control.Window id n) none = refl
  opens-none (control.Refuse id fields) none = refl
  opens-none (control.Reset id code written) none = refl
  opens-none (control.Goaway last cause) none = refl
  opens-none control.InputEnded none = refl
  opens-none control.Close none = refl

  -- a further order that opens none
  opens-plain : (orders : List (WriterOrder (OpeningCall J naming)))
      (order : WriterOrder (OpeningCall J naming))
      → OpensNone order → opens (orders ++ order ∷ []) ≡ opens orders
  opens-plain orders order none =
      opens-append orders (order ∷ [])
      ∙ (ap (λ (all : List (CallNumber J naming × ℕ)). opens orders ++ all) (opens-none order none)
      ∙ append-nil (opens orders))

  streams-open : (orders : List (WriterOrder (OpeningCall J naming))) (id : ℕ)
      (opening : OpeningCall J naming)
      → map (λ call. call.1) (opens (orders ++ control.Open id opening ∷ []))
      ≡ map (λ call. call.1) (opens orders) ++ id ∷ []
  streams-open orders id opening =
      ap (λ (all : List (CallNumber J naming × ℕ)). map (λ call. call.1) all)
      (opens-append orders (control.Open id opening ∷ []))
      ∙ map-append (λ (call : CallNumber J naming × ℕ). call.1) (opens orders)
      (numbered id opening.sending.value ∷ [])

  apart-front : (orders : List (WriterOrder (OpeningCall J naming))) (id : ℕ)
      (opening : OpeningCall J naming)
      → AreApart (orders ++ control.Open id opening ∷ []) → AreApart orders
  apart-front orders id opening apart =
      distinct-front (map (λ call. call.1) (opens orders)) id
      (subst (λ (ids : List ℕ). IsDistinct nat_eq ids) (streams-open orders id opening) apart)

  -- the stream that an order opens is none of those before
  pub apart-last : (orders : List (WriterOrder (OpeningCall J naming))) (id : ℕ)
      (opening : OpeningCall J naming)
      → AreApart (orders ++ control.Open id opening ∷ [])
      → (number : CallNumber J naming) → Contains (opens orders) (number, id) → ⊥
  apart-last orders id opening apart number there =
      let ids : List ℕ = map (λ call. call.1) (opens orders) in
      let found : Contains ids id =
      contains-map (λ (call : CallNumber J naming × ℕ). call.1) (opens orders) (number, id) there in
      last-new ids id (subst (λ (all : List ℕ). IsDistinct nat_eq all)
      (streams-open orders id opening) apart) found.0 found.1 found.2

  plain-apart : (orders : List (WriterOrder (OpeningCall J naming)))
      (order : WriterOrder (OpeningCall J naming))
      → OpensNone order → AreApart (orders ++ order ∷ []) → AreApart orders
  plain-apart orders order none apart =
      subst (λ (all : List (CallNumber J naming × ℕ)). IsDistinct nat_eq (map (λ call. call.1) all))
      (opens-plain orders order none) apart

  -- those before an order that was set aside
  pub plain-front : (orders : List (WriterOrder (OpeningCall J naming)))
      (aside : Option (WriterOrder (OpeningCall J naming)))
      → AreApart (orders ++ order_in aside) → AreApart orders
  plain-front orders None apart =
      subst (λ (all : List (WriterOrder (OpeningCall J naming))). AreApart all)
      (append-nil orders) apart
  plain-front orders (Some (control.Open id opening)) apart = apart-front orders id opening apart
  plain-front orders (Some (control.Settings settings)) apart =
      plain-apart orders (control.Settings settings) tt apart
  plain-front orders (Some (control.Ping bytes)) apart =
      plain-apart orders (control.Ping bytes) tt apart
  plain-front orders (Some (control.Probe bytes)) apart =
      plain-apart orders (control.Probe bytes) tt apart
  plain-front orders (Some (control.Window id n)) apart =
      plain-apart orders (control.Window id n) tt apart
  plain-front orders (Some (control.Refuse id fields)) apart =
      plain-apart orders (control.Refuse id fields) tt apart
  plain-front orders (Some (control.Reset id code written)) apart =
      plain-apart orders (control.Reset id code written) tt apart
  plain-front orders (Some (control.Goaway last cause)) apart =
      plain-apart orders (control.Goaway last cause) tt apart
  plain-front orders (Some control.InputEnded) apart =
      plain-apart orders control.InputEnded tt apart
  plain-front orders (Some control.Close) apart = plain-apart orders control.Close tt apart

  resets-front : (orders more : List (WriterOrder (OpeningCall J naming)))
      → ResetsNone (orders_of (orders ++ more)) → ResetsNone (orders_of orders)
  resets-front orders more none order among =
      none order (subst (λ (all : List Order). IsAmong order all)
      (sym (map-append (λ (one : WriterOrder (OpeningCall J naming)). order_of one) orders more))
      (among-more order (orders_of orders) (orders_of more) among))

  resets-last : (orders : List (WriterOrder (OpeningCall J naming)))
      (order : WriterOrder (OpeningCall J naming))
      → ResetsNone (orders_of (orders ++ order ∷ [])) → left_by (order_of order) ≡ []
  resets-last orders order none =
      none (order_of order) (subst (λ (all : List Order). IsAmong (order_of order) all)
      (sym
      (map-append (λ (one : WriterOrder (OpeningCall J naming)). order_of one) orders (order ∷ [])))
      (among-last (order_of order) (orders_of orders)))

  -- ---- the steps

  pub has-none : (sent : List (SendingCall J naming)) (core : List (ℕ × OutSender))
      (home : List (ReturningCall J naming))
      → sent ≡ [] → home ≡ [] → HasAll [] [] sent core home
  has-none sent core home none empty = record {
    handed = [];
    are = sym empty;
    all =
        subst (λ (calls : List (SendingCall J naming)).
        IsPermutation [] (numbers calls ++ [])) (sym none)
        (IsPermutation-refl []);
    back = λ apart.
        All-nil (λ (one : ℕ × ReturningCall J naming). IsBack [] one.0 one.1.sending.value.sender);
    left = λ spared id there. absurd (omega (arith, there.1));
  }

  -- the run goes on, and takes no order of these; the calls are the same
  pub has-still : (orders : List (WriterOrder (OpeningCall J naming))) (run new : List Step)
      (sent after : List (SendingCall J naming)) (core cores : List (ℕ × OutSender))
      (home homes : List (ReturningCall J naming))
      → numbers after ≡ numbers sent → homes ≡ home → ((id : ℕ) → On run new id)
      → ((id : ℕ) → Contains (left_in new) id → Contains (left_in run) id)
      → ((id : ℕ) → GaveLeft id (calls got core) → GaveLeft id (calls got cores))
      → HasAll orders run sent core home → HasAll orders new after cores homes
  has-still orders run new sent after core cores home homes same way on lefts gave has = record {
    handed = has.handed;
    are = has.are ∙ sym way;
    all =
        subst (λ (calls : List (CallNumber J naming × ℕ)).
        IsPermutation (opens orders) (calls ++ handed_numbers has.handed)) (sym same) has.all;
    back = λ apart.
        All-weaker
        (λ (one : ℕ × ReturningCall J naming). IsBack run one.0 one.1.sending.value.sender)
        (λ one. IsBack new one.0 one.1.sending.value.sender)
        (λ one back. back-on run new one.0 one.1.sending.value.sender (on one.0) back)
        has.handed (has.back apart);
    left = λ spared id there.
        gave-either id (calls got core) (calls got cores) (handed_calls has.handed) (gave id)
        (has.left spared id (lefts id there));
  }

  -- a further order that opens no call, whether it was taken or lost
  pub has-plain : (order : WriterOrder (OpeningCall J naming))
      (orders : List (WriterOrder (OpeningCall J naming)))
      (run new : List Step) (sent after : List (SendingCall J naming))
      (core cores : List (ℕ × OutSender))
      (home homes : List (ReturningCall J naming))
      → OpensNone order → numbers after ≡ numbers sent → homes ≡ home → ((id : ℕ) → On run new id)
      → (left_by (order_of order) ≡ [] → (id : ℕ) → Contains (left_in new) id
      → Contains (left_in run) id)
      → ((id : ℕ) → GaveLeft id (calls got core) → GaveLeft id (calls got cores))
      → HasAll orders run sent core home → HasAll (orders ++ order ∷ []) new after cores homes
  has-plain order orders run new sent after core cores home homes none same way on lefts
      gave has = record {
        handed = has.handed;
        are = has.are ∙ sym way;
        all =
            subst (λ (opened : List (CallNumber J naming × ℕ)).
            IsPermutation opened (numbers after ++ handed_numbers has.handed))
            (sym (opens-plain orders order none))
            (subst (λ (calls : List (CallNumber J naming × ℕ)).
            IsPermutation (opens orders) (calls ++ handed_numbers has.handed)) (sym same) has.all);
        back = λ apart.
            All-weaker
            (λ (one : ℕ × ReturningCall J naming). IsBack run one.0 one.1.sending.value.sender)
            (λ one. IsBack new one.0 one.1.sending.value.sender)
            (λ one back.
            back-on run new one.0 one.1.sending.value.sender (on one.0) back) has.handed
            (has.back (plain-apart orders order none apart));
        left = λ spared id there.
            gave-either id (calls got core) (calls got cores) (handed_calls has.handed) (gave id)
            (has.left (resets-front orders (order ∷ []) spared) id
            (lefts (resets-last orders order spared) id there));
      }

  -- a reset of a call that was left
  pub has-reset : (id : ℕ) (orders : List (WriterOrder (OpeningCall J naming)))
      (run new : List Step)
      (sent after : List (SendingCall J naming)) (core cores : List (ℕ × OutSender))
      (home homes : List (ReturningCall J naming))
      → numbers after ≡ numbers sent → homes ≡ home → ((k : ℕ) → On run new k)
      → ((k : ℕ) → Contains (left_in new) k → (k ≡ id) ⊎ Contains (left_in run) k)
      → cores ≡ core → GaveLeft id (calls got core) → HasAll orders run sent core home
      → HasAll orders new after cores homes
  has-reset id orders run new sent after core cores home homes same way on lefts still
      gave has = record {
        handed = has.handed;
        are = has.are ∙ sym way;
        all =
            subst (λ (calls : List (CallNumber J naming × ℕ)).
            IsPermutation (opens orders) (calls ++ handed_numbers has.handed)) (sym same) has.all;
        back = λ apart.
            All-weaker
            (λ (one : ℕ × ReturningCall J naming). IsBack run one.0 one.1.sending.value.sender)
            (λ one. IsBack new one.0 one.1.sending.value.sender)
            (λ one back. back-on run new one.0 one.1.sending.value.sender (on one.0) back)
            has.handed (has.back apart);
        left = λ spared k there. by k spared (lefts k there);
      }
    where
      by : (k : ℕ) → ResetsNone (orders_of orders) → (k ≡ id) ⊎ Contains (left_in run) k
          → GaveLeft k (calls got cores ++ handed_calls has.handed)
      by k spared (inl is) =
          subst (λ (senders : List (ℕ × OutSender)).
          GaveLeft k (calls got senders ++ handed_calls has.handed)) (sym still)
          (subst (λ (n : ℕ). GaveLeft n (calls got core ++ handed_calls has.handed)) (sym is) (
            gave.0,
            Contains-append_left (calls got core) (handed_calls has.handed) (id, gave.0) gave.1,
            gave.2,
          ))
      by k spared (inr before) =
          subst (λ (senders : List (ℕ × OutSender)).
          GaveLeft k (calls got senders ++ handed_calls has.handed)) (sym still)
          (has.left spared k before)

  -- a call begins
  pub has-opened : (id : ℕ) (opening : OpeningCall J naming) (sender : OutSender)
      (orders : List (WriterOrder (OpeningCall J naming))) (run : List Step)
      (sent after : List (SendingCall J naming)) (core cores : List (ℕ × OutSender))
      (home homes : List (ReturningCall J naming))
      → numbers after ≡ numbers sent ++ numbered id opening.sending.value ∷ [] → homes ≡ home
      → cores ≡ core ++ (id, sender) ∷ [] → HasAll orders run sent core home
      → HasAll (orders ++ control.Open id opening ∷ [])
      (Taken (control.Open id tt) ∷ run) after cores homes
  has-opened id opening sender orders run sent after core cores home homes more way brings has =
      let one : CallNumber J naming × ℕ = numbered id opening.sending.value in
      let handed : List (CallNumber J naming × ℕ) = handed_numbers has.handed in
      record {
        handed = has.handed;
        are = has.are ∙ sym way;
        all =
            subst (λ (opened : List (CallNumber J naming × ℕ)).
            IsPermutation opened (numbers after ++ handed))
            (sym (opens-append orders (control.Open id opening ∷ [])))
            (subst (λ (calls : List (CallNumber J naming × ℕ)).
            IsPermutation (opens orders ++ one ∷ []) (calls ++ handed)) (sym more)
            (IsPermutation-trans (opens orders ++ one ∷ []) ((numbers sent ++ handed) ++ one ∷ [])
            ((numbers sent ++ one ∷ []) ++ handed)
            (IsPermutation-append_left (one ∷ []) (opens orders) (numbers sent ++ handed) has.all)
            (subst (λ (all : List (CallNumber J naming × ℕ)).
            IsPermutation all ((numbers sent ++ one ∷ []) ++ handed))
            (sym (append_assoc (numbers sent) handed (one ∷ [])))
            (subst (λ (all : List (CallNumber J naming × ℕ)).
            IsPermutation (numbers sent ++ (handed ++ one ∷ [])) all)
            (sym (append_assoc (numbers sent) (one ∷ []) handed))
            (IsPermutation-append_right (numbers sent) (handed ++ one ∷ []) (one ∷ handed)
            (IsPermutation-append_comm handed (one ∷ [])))))));
        back = λ apart k d within.
            let call : ℕ × ReturningCall J naming = get_or has.handed k d in
            back-on run (Taken (control.Open id tt) ∷ run) call.0 call.1.sending.value.sender
            (on-open id run call.0 (λ is.
            apart-last orders id opening apart call.1.sending.value.number (subst
            (λ (n : ℕ). Contains (opens orders) (call.1.sending.value.number, n)) is
            (opened call (Contains-get_or has.handed k d within)))))
            (has.back (apart-front orders id opening apart) k d within);
        left = λ spared k there.
            gave-either k (calls got core) (calls got cores) (handed_calls has.handed) (kept k)
            (has.left (resets-front orders (control.Open id opening ∷ []) spared) k there);
      }
    where
      opened : (call : ℕ × ReturningCall J naming) → Contains has.handed call
          → Contains (opens orders) (call.1.sending.value.number, call.0)
      opened call there =
          Contains-permutation (numbers sent ++ handed_numbers has.handed) (opens orders)
          (call.1.sending.value.number, call.0)
          (IsPermutation-sym (opens orders) (numbers sent ++ handed_numbers has.handed) has.all)
          (Contains-append_right (numbers sent) (handed_numbers has.handed)
          (call.1.sending.value.number, call.0)
          (contains-map (λ (one : ℕ × ReturningCall J naming). numbered one.0 one.1.sending.value)
          has.handed call there))

      kept : (k : ℕ) → GaveLeft k (calls got core) → GaveLeft k (calls got cores)
      kept k (items, there, left) = (
        items,
        subst (λ (senders : List (ℕ × OutSender)).
            Contains (calls got senders) (k, items)) (sym brings)
            (subst (λ (all : List (ℕ × List OutItem)). Contains all (k, items)) (sym (map-append
            (λ (call : ℕ × OutSender). (call.0, got call.1.rx)) core ((id, sender) ∷ [])))
            (Contains-append_left (calls got core) (calls got ((id, sender) ∷ []))
            (k, items) there)),
        left,
      )

  -- the sender of a call whose order isn't taken is handed back
  pub has-passed : (id : ℕ) (opening : OpeningCall J naming) (returning : ReturningCall J naming)
      (orders : List (WriterOrder (OpeningCall J naming))) (run : List Step)
      (sent after : List (SendingCall J naming)) (core cores : List (ℕ × OutSender))
      (home homes : List (ReturningCall J naming))
      → returning.sending ≡ opening.sending
      → (AreApart (orders ++ control.Open id opening ∷ [])
      → IsBack run id opening.sending.value.sender)
      → numbers after ≡ numbers sent → cores ≡ core → homes ≡ home ++ returning ∷ []
      → HasAll orders run sent core home
      → HasAll (orders ++ control.Open id opening ∷ []) run after cores homes
  has-passed id opening returning orders run sent after core cores home homes is back
      same still way has =
      let one : CallNumber J naming × ℕ = numbered id opening.sending.value in
      let handed : List (CallNumber J naming × ℕ) = handed_numbers has.handed in
      let all_handed : handed_numbers (has.handed ++ (id, returning) ∷ []) ≡ handed ++ one ∷ [] =
      map-append (λ (call : ℕ × ReturningCall J naming). numbered call.0 call.1.sending.value)
      has.handed ((id, returning) ∷ [])
      ∙ ap (λ sending. handed ++ numbered id sending.value ∷ []) is in
      record {
        handed = has.handed ++ (id, returning) ∷ [];
        are =
            map-append (λ (call : ℕ × ReturningCall J naming). call.1) has.handed
            ((id, returning) ∷ [])
            ∙ (ap (λ (all : List (ReturningCall J naming)). all ++ returning ∷ []) has.are
            ∙ sym way);
        all =
            subst (λ (opened : List (CallNumber J naming × ℕ)).
            IsPermutation opened
            (numbers after ++ handed_numbers (has.handed ++ (id, returning) ∷ [])))
            (sym (opens-append orders (control.Open id opening ∷ [])))
            (subst (λ (all : List (CallNumber J naming × ℕ)).
            IsPermutation (opens orders ++ one ∷ []) (numbers after ++ all)) (sym all_handed)
            (subst (λ (calls : List (CallNumber J naming × ℕ)).
            IsPermutation (opens orders ++ one ∷ []) (calls ++ (handed ++ one ∷ []))) (sym same)
            (subst
            (λ (all : List (CallNumber J naming × ℕ)). IsPermutation (opens orders ++ one ∷ []) all)
            (append_assoc (numbers sent) handed (one ∷ []))
            (IsPermutation-append_left (one ∷ []) (opens orders)
            (numbers sent ++ handed) has.all))));
        back = λ apart.
            All-push
            (λ (call : ℕ × ReturningCall J naming). IsBack run call.0 call.1.sending.value.sender)
            has.handed (id, returning) (has.back (apart-front orders id opening apart))
            (subst (λ sending. IsBack run id sending.value.sender) (sym is) (back apart));
        left = λ spared k there.
            subst (λ (senders : List (ℕ × OutSender)).
            GaveLeft k (calls got senders
            ++ handed_calls (has.handed ++ (id, returning) ∷ []))) (sym still)
            (subst (λ (all : List (ℕ × List OutItem)). GaveLeft k (calls got core ++ all))
            (sym (map-append (λ (call : ℕ × ReturningCall J naming).
            (call.0, got_of call.1.sending.value.sender)) has.handed
            ((id, returning) ∷ [])))
            (gave-more k (calls got core) (handed_calls has.handed)
            (handed_calls ((id, returning) ∷ []))
            (has.left (resets-front orders (control.Open id opening ∷ []) spared) k there)));
      }

  -- the sender of a call that is through is handed back
  pub has-returned : (id : ℕ) (sender : OutSender)
      (orders : List (WriterOrder (OpeningCall J naming)))
      (run : List Step) (sent after : List (SendingCall J naming))
      (core cores : List (ℕ × OutSender))
      (home homes : List (ReturningCall J naming))
      → HandsHome id sender sent after home homes → Releases id sender core cores
      → HasAll orders run sent core home
      → HasAll orders (Returned id (got sender.rx) ∷ run) after cores homes
  has-returned id sender orders run sent after core cores home homes hands releases has =
      let handed : List (CallNumber J naming × ℕ) = handed_numbers has.handed in
      let f : SendingCall J naming → CallNumber J naming × ℕ = λ call.
      numbered call.id call.sending.value in
      let one : CallNumber J naming × ℕ = numbered id hands.returning.sending.value in
      let same_id : hands.call.id ≡ id =
      ap (λ (call : SendingCall J naming). call.id) hands.is ∙ hands.at.1 hands.call in
      let same : f hands.call ≡ one =
      ap (λ (n : ℕ). (hands.call.sending.value.number, n)) same_id
      ∙ ap (λ (number : CallNumber J naming). (number, id)) (sym hands.number_is) in
      let out : IsPermutation (numbers sent) (one ∷ numbers after) =
      subst (λ (first : CallNumber J naming × ℕ).
      IsPermutation (numbers sent) (first ∷ numbers after)) same
      (subst (λ (calls : List (SendingCall J naming)).
      IsPermutation (numbers sent) (f hands.call ∷ numbers calls)) (sym hands.rest)
      (IsPermutation-map f sent (hands.call ∷ swap_remove sent hands.place hands.call)
      (IsPermutation-swap_remove sent hands.place hands.call within hands.is))) in
      let all_handed : handed_numbers (has.handed ++ (id, hands.returning) ∷ [])
      ≡ handed ++ one ∷ [] =
      map-append (λ (call : ℕ × ReturningCall J naming). numbered call.0 call.1.sending.value)
      has.handed ((id, hands.returning) ∷ []) in
      record {
        handed = has.handed ++ (id, hands.returning) ∷ [];
        are =
            map-append (λ (call : ℕ × ReturningCall J naming). call.1) has.handed
            ((id, hands.returning) ∷ [])
            ∙ (ap (λ (all : List (ReturningCall J naming)). all ++ hands.returning ∷ []) has.are
            ∙ sym hands.put);
        all =
            subst (λ (all : List (CallNumber J naming × ℕ)).
            IsPermutation (opens orders) (numbers after ++ all)) (sym all_handed)
            (IsPermutation-trans (opens orders) (numbers sent ++ handed)
            (numbers after ++ (handed ++ one ∷ [])) has.all
            (IsPermutation-trans (numbers sent ++ handed) ((one ∷ numbers after) ++ handed)
            (numbers after ++ (handed ++ one ∷ []))
            (IsPermutation-append_left handed (numbers sent) (one ∷ numbers after) out)
            (subst (λ (all : List (CallNumber J naming × ℕ)).
            IsPermutation (one ∷ (numbers after ++ handed)) all)
            (append_assoc (numbers after) handed (one ∷ []))
            (IsPermutation-append_comm (one ∷ []) (numbers after ++ handed)))));
        back = λ apart.
            All-push (λ (call : ℕ × ReturningCall J naming).
            IsBack (Returned id (got sender.rx) ∷ run) call.0 call.1.sending.value.sender)
            has.handed (id, hands.returning)
            (All-weaker
            (λ (call : ℕ × ReturningCall J naming). IsBack run call.0 call.1.sending.value.sender)
            (λ call. IsBack (Returned id (got sender.rx) ∷ run) call.0 call.1.sending.value.sender)
            (λ call back.
            back-on run (Returned id (got sender.rx) ∷ run) call.0 call.1.sending.value.sender
            (on-returned id (got sender.rx) run call.0) back) has.handed (has.back apart))
            (subst (λ (one : Option OutSender). IsBack (Returned id (got sender.rx) ∷ run) id one)
            (sym hands.sender_is) (inl (inl (refl, refl))));
        left = λ spared k there. moved k (has.left spared k there);
      }
    where
      within : hands.place < length sent
      within = hands.at.0

      left_out : IsPermutation (calls got core) ((id, got sender.rx) ∷ calls got cores)
      left_out =
          subst (λ (senders : List (ℕ × OutSender)).
          IsPermutation (calls got core) ((id, got sender.rx) ∷ calls got senders)) (sym releases.3)
          (IsPermutation-map (λ (call : ℕ × OutSender). (call.0, got call.1.rx)) core
          ((id, sender) ∷ swap_remove core releases.0 (id, sender))
          (IsPermutation-swap_remove core releases.0 (id, sender) releases.1 releases.2))

      last : handed_calls (has.handed ++ (id, hands.returning) ∷ [])
          ≡ handed_calls has.handed ++ (id, got sender.rx) ∷ []
      last =
          map-append
          (λ (call : ℕ × ReturningCall J naming). (call.0, got_of call.1.sending.value.sender))
          has.handed ((id, hands.returning) ∷ [])
          ∙ ap (λ (one : Option OutSender).
          handed_calls has.handed ++ (id, got_of one) ∷ []) hands.sender_is

      moved : (k : ℕ) → GaveLeft k (calls got core ++ handed_calls has.handed)
          → GaveLeft k (calls got cores ++ handed_calls (has.handed ++ (id, hands.returning) ∷ []))
      moved k (gave, there, left) =
          let end : List (ℕ × List OutItem) = (id, got sender.rx) ∷ [] in (
            gave,
            subst (λ (all : List (ℕ × List OutItem)).
                Contains (calls got cores ++ all) (k, gave)) (sym last)
                (Contains-permutation
                ((id, got sender.rx) ∷ (calls got cores ++ handed_calls has.handed))
                (calls got cores ++ (handed_calls has.handed ++ end)) (k, gave)
                (subst (λ (all : List (ℕ × List OutItem)).
                IsPermutation ((id, got sender.rx) ∷ (calls got cores ++ handed_calls has.handed))
                all) (append_assoc (calls got cores) (handed_calls has.handed) end)
                (IsPermutation-append_comm end (calls got cores ++ handed_calls has.handed)))
                (Contains-permutation (calls got core ++ handed_calls has.handed)
                ((id, got sender.rx) ∷ (calls got cores ++ handed_calls has.handed)) (k, gave)
                (IsPermutation-append_left (handed_calls has.handed) (calls got core)
                ((id, got sender.rx) ∷ calls got cores) left_out) there)),
            left,
          )
