-- What holds of each order that was put, and of the writer's own, holds of each order that the run
-- took.
use Rattle.std.proofs.Common.{
  ◌≡◌,
  ◌∙◌,
  ◌⊎◌,
  inl,
  inr,
  ℕ,
  true,
  false,
  List,
  [],
  ◌∷◌,
  ◌++◌,
  ap,
  subst,
  sym,
}
use Rattle.std.proofs.lemmas.List.{append_assoc}
use Rattle.std.specs.List.{list_any}
use Rattle.writerloop.specs.OwnOrders.{own_order}
use Rattle.h2frame.specs.declared.error_code.ErrorCode.TheVariants.{InternalError}
use Rattle.outwriter.specs.declared.control.WriterOrder.TheVariants.{
  Probe,
  Open,
  Reset,
  Goaway,
  Close,
}
use Rattle.outwriter.specs.declared.control.OutFault.TheVariants.{PeerWindow}
use Rattle.outwriter.specs.RunState.{Blames, Concerns}
use Rattle.outwriter.specs.Drains.{draining, warning}
use Rattle.outwriter.specs.Steps.{Order, Taken, Granted, Written, Returned}
use Rattle.outwriter.specs.Steps.{Step as RunStep}
use Rattle.reasons.specs.declared.Reason.TheVariants as reason
use Rattle.writerloop.specs.Orders.{
  AreLast,
  HasTaken,
  IsAmong,
  IsAnswer,
  Obeys,
  ResetsCall,
  Warns,
  ends_input,
}
use Rattle.connection.specs.Causes.{WasTaken}
use Rattle.connection.specs.Heard.{HasPut}

-- ---- of each item of a list

abbrev pub Each : {A : Type 0} → (A → Type 0) → List A → Type 0
Each P [] = Unit {0}
Each P (x ∷ xs) = P x × Each P xs

pub each-append : {A : Type 0} (P : A → Type 0) (xs ys : List A) → Each P xs → Each P ys
    → Each P (xs ++ ys)
each-append P [] ys first more = more
each-append P (x ∷ xs) ys first more = (first.0, each-append P xs ys first.1 more)

pub each-front : {A : Type 0} (P : A → Type 0) (xs ys : List A) → Each P (xs ++ ys) → Each P xs
each-front P [] ys all = tt
each-front P (x ∷ xs) ys all = (all.0, each-front P xs ys all.1)

pub each-back : {A : Type 0} (P : A → Type 0) (xs ys : List A) → Each P (xs ++ ys) → Each P ys
each-back P [] ys all = all
each-back P (x ∷ xs) ys all = each-back P xs ys all.1

pub each-more : {A : Type 0} (P Q : A → Type 0) → ((x : A) → P x → Q x) → (xs : List A)
    → Each P xs → Each Q xs
each-more P Q more [] all = tt
each-more P Q more (x ∷ xs) all = (more x all.0, each-more P Q more xs all.1)

pub each-among : (P : Order → Type 0) (order : Order) (orders : List Order) → IsAmong order orders
    → Each P orders → P order
each-among P order [] among all = absurd among
each-among P order (one ∷ orders) (inl is) all = subst P (sym is) all.0
each-among P order (one ∷ orders) (inr rest) all = each-among P order orders rest all.1

-- ---- of what was put

pub each-put : (P : Order → Type 0) (all put : List Order) → HasPut all put → Each P all
    → P Close → Each P put
each-put P all put has each close =
    subst (λ (os : List Order). Each P os) (sym has.closed)
    (each-append P has.front (Close ∷ []) (each-front P has.front has.begins.0
    (subst (λ (os : List Order). Each P os) (sym has.begins.1) each)) (close, tt))

-- ---- of what a run took

abbrev pub EachTaken : (Order → Type 0) → List RunStep → Type 0
EachTaken P [] = Unit {0}
EachTaken P (Taken order ∷ before) = P order × EachTaken P before
EachTaken P (Granted id n ∷ before) = EachTaken P before
EachTaken P (Written frame ∷ before) = EachTaken P before
EachTaken P (Returned id items ∷ before) = EachTaken P before

pub taken-one : (P : Order → Type 0) (order : Order) (run : List RunStep) → WasTaken order run
    → EachTaken P run → P order
taken-one P order [] was all = absurd was
taken-one P order (Taken found ∷ before) (inl is) all = subst P (sym is) all.0
taken-one P order (Taken found ∷ before) (inr rest) all = taken-one P order before rest all.1
taken-one P order (Granted id n ∷ before) was all = taken-one P order before was all
taken-one P order (Written frame ∷ before) was all = taken-one P order before was all
taken-one P order (Returned id items ∷ before) was all = taken-one P order before was all

-- it holds of the writer's own orders
pub record IsOfOwn (P : Order → Type 0) (put : List Order) (run : List RunStep) : Type 0 where
  pub answers : (last id : ℕ) (order : Order) (before later : List RunStep)
      → run ≡ later ++ Taken order ∷ before → Concerns (PeerWindow id) order
      → Blames (PeerWindow id) order before → P (own_order last id)
  pub leaves : (id : ℕ) (front rest : List Order) → put ≡ front ++ rest → IsAmong (Open id tt) front
      → list_any ends_input front ≡ false → P (Reset id InternalError true)
  pub gives_up : (last : ℕ) → P (Goaway last reason.Memory)
  pub warns : P warning
  pub probes : P (Probe draining)
  pub closes : P Close

module _ (P : Order → Type 0) (put : List Order) (run : List RunStep)
    (own : IsOfOwn P put run) where
  at-step : (later before : List RunStep) (step : RunStep) → run ≡ later ++ step ∷ before
      → run ≡ (later ++ step ∷ []) ++ before
  at-step later before step is = is ∙ sym (append_assoc later (step ∷ []) before)

  answered : (later before : List RunStep) (order : Order) → run ≡ later ++ Taken order ∷ before
      → IsAnswer order before → P order
  answered later [] order is answer = absurd answer
  answered later (Taken blamed ∷ before) order is answer =
      subst P (sym answer.2) (own.answers answer.0 answer.1 blamed before
      (later ++ Taken order ∷ []) (at-step later (Taken blamed ∷ before) (Taken order) is)
      answer.3 answer.4)
  answered later (Granted id n ∷ before) order is answer = absurd answer
  answered later (Written frame ∷ before) order is answer = absurd answer
  answered later (Returned id items ∷ before) order is answer = absurd answer

  of-own : (later before : List RunStep) (order : Order) (orders rest : List Order)
      → run ≡ later ++ Taken order ∷ before → put ≡ orders ++ rest
      → IsAnswer order before ⊎ (ResetsCall order orders ⊎ Warns order before) → P order
  of-own later before order orders rest is parts (inl answer) =
      answered later before order is answer
  of-own later before order orders rest is parts (inr (inl left)) =
      subst P (sym left.1) (own.leaves left.0 orders rest parts left.2 left.3)
  of-own later before order orders rest is parts (inr (inr (inl warns))) =
      subst P (sym warns.0) own.warns
  of-own later before order orders rest is parts (inr (inr (inr warns))) =
      subst P (sym warns.0) own.probes

  took-each : (later : List RunStep) (orders rest : List Order) (steps : List RunStep)
      → run ≡ later ++ steps → put ≡ orders ++ rest → Each P orders → HasTaken orders steps
      → EachTaken P steps
  took-each later orders rest [] is parts all took = tt
  took-each later orders rest (Taken order ∷ before) is parts all (inl took) =
      let split = subst (λ (os : List Order). Each P os) took.1 all in (
        (each-back P took.0 (order ∷ []) split).0,
        took-each (later ++ Taken order ∷ []) took.0 (order ∷ rest) before
            (at-step later before (Taken order) is)
            (parts
            ∙ (ap (λ (os : List Order). os ++ rest) took.1 ∙ append_assoc took.0 (order ∷ []) rest))
            (each-front P took.0 (order ∷ []) split) took.2,
      )
  took-each later orders rest (Taken order ∷ before) is parts all (inr took) = (
    of-own later before order orders rest is parts took.0,
    took-each (later ++ Taken order ∷ []) orders rest before
        (at-step later before (Taken order) is) parts all took.1,
  )
  took-each later orders rest (Granted id n ∷ before) is parts all took =
      took-each (later ++ Granted id n ∷ []) orders rest before
      (at-step later before (Granted id n) is) parts all took
  took-each later orders rest (Written frame ∷ before) is parts all took =
      took-each (later ++ Written frame ∷ []) orders rest before
      (at-step later before (Written frame) is) parts all took
  took-each later orders rest (Returned id items ∷ before) is parts all took =
      took-each (later ++ Returned id items ∷ []) orders rest before
      (at-step later before (Returned id items) is) parts all took

  last-one : (order : Order) (rest : List Order)
      → ((last : ℕ) × (order ≡ Goaway last reason.Memory)) ⊎ ((order ≡ Close) × IsAmong order rest)
      → P order
  last-one order rest (inl goaway) = subst P (sym goaway.1) (own.gives_up goaway.0)
  last-one order rest (inr close) = subst P (sym close.0) own.closes

  last-each : (rest : List Order) (ends steps : List RunStep) → AreLast rest ends
      → EachTaken P steps → EachTaken P (ends ++ steps)
  last-each rest [] steps last all = all
  last-each rest (Taken order ∷ before) steps last all =
      (last-one order rest last.0, last-each rest before steps last.1 all)
  last-each rest (Granted id n ∷ before) steps last all = last-each rest before steps last all
  last-each rest (Written frame ∷ before) steps last all = last-each rest before steps last all
  last-each rest (Returned id items ∷ before) steps last all = last-each rest before steps last all

  pub obeys-each : Each P put → Obeys true put run → EachTaken P run
  obeys-each all obeys =
      subst (λ (steps : List RunStep). EachTaken P steps) (sym obeys.run_is)
      (last-each obeys.rest obeys.ends obeys.steps obeys.ended
      (took-each obeys.ends obeys.front obeys.rest obeys.steps obeys.run_is obeys.orders_are
      (each-front P obeys.front obeys.rest
      (subst (λ (os : List Order). Each P os) obeys.orders_are all)) obeys.took))
