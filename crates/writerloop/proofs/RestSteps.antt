-- The senders that a writer has at its end, handed over one after another.
use Rattle.std.proofs.Common.{
  ◌≡◌,
  ◌∙◌,
  ◌<◌,
  ℕ,
  true≢false,
  List,
  [],
  ◌∷◌,
  ◌++◌,
  Option,
  None,
  Some,
  map,
  length,
  ap,
  sym,
  refl,
  subst,
  arith,
  length-append,
}
use Rattle.std.specs.Prelude.{IfNone, IfSome, option_map}
use Rattle.std.specs.List.Sorted.{IsPermutation}
use Rattle.std.specs.Option.{IsSome, is_some}
use Rattle.std.proofs.lemmas.List.{append_cancel_right, length-map, map-append}
use Rattle.std.proofs.lemmas.List.Sorted.{IsPermutation-append_comm, IsPermutation-refl}
use Rattle.account.specs.declared.call.OutItem.{OutItem}
use Rattle.lane.specs.Lawful.{last_of}
use Rattle.lane.specs.RingLane.{LaneName, got, out_name}
use Rattle.lane.proofs.KnownItems.{last_of_push}
use Rattle.outwriter.specs.declared.control.WriterOrder.{WriterOrder}
use Rattle.outwriter.specs.declared.control.WriterOrder.TheVariants as control
use Rattle.outwriter.specs.Cores.{calls}
use Rattle.callparts.specs.declared.order.OpeningCall.{OpeningCall}
use Rattle.callparts.specs.declared.order.ReturningCall.{ReturningCall}
use Rattle.callparts.specs.declared.register.CallNumber.{CallNumber}
use Rattle.callparts.specs.declared.register.Naming.{Ghosts}
use Rattle.callparts.specs.Lanes.{OutSender}
use Rattle.writerloop.specs.declared.sends.Sends.{Sends}
use Rattle.writerloop.specs.declared.sends.SendingCall.{SendingCall}
use Rattle.writerloop.specs.declared.senders.Senders.{Senders}
use Rattle.writerloop.specs.Orders.{order_in}
use Rattle.writerloop.specs.Rest.{HandsOver, rest_calls, rest_numbers}
use Rattle.writerloop.specs.Sent.{
  IsLastOf,
  TakesLast,
  core_keys,
  got_of,
  keys,
  lane_of,
  numbered,
  numbers,
  opens,
}
use Rattle.writerloop.proofs.CallSteps.{key, key-of, number, same-length}

-- ---- lists

abbrev some-of : {X : Type 0} → X → Option X → X
some-of other None = other
some-of other (Some x) = x

same-last : {X : Type 0} (xs ys : List X) (x y : X) → xs ++ x ∷ [] ≡ ys ++ y ∷ [] → x ≡ y
same-last {X} xs ys x y same =
    ap (some-of x) (sym (last_of_push xs x)
    ∙ (ap (λ (zs : List X). last_of zs) same ∙ last_of_push ys y))

same-front : {X : Type 0} (xs ys : List X) (x y : X) → xs ++ x ∷ [] ≡ ys ++ y ∷ [] → xs ≡ ys
same-front {X} xs ys x y same =
    append_cancel_right xs ys (y ∷ [])
    (sym (ap (λ (z : X). xs ++ z ∷ []) (same-last xs ys x y same)) ∙ same)

-- of a call that begins nothing was got
unsent : (sender : Option OutSender) → option_map (λ (s : OutSender). got s.rx) sender ≡ Some []
    → got_of sender ≡ []
unsent None fresh = absurd (none fresh)
  where
    none : {X : Type 0} {x : X} → None ≡ Some x → ⊥
    none e = cc
unsent (Some sender) fresh = ap (some-of []) fresh

-- none is there
pub none-there : {X : Type 0} (one : Option X) → one ≡ None → IsSome one → ⊥
none-there one none some = true≢false (sym some ∙ ap is_some none)

module _ {J : Type 0} {naming : Ghosts J} where
  -- the last call is that of the last sender
  pub last-of : (id : ℕ) (sender : OutSender) (sent : List (SendingCall J naming))
      (core cores : List (ℕ × OutSender))
      → keys sent ≡ core_keys core → core ≡ cores ++ (id, sender) ∷ [] → IsLastOf sender sent
  last-of id sender sent core cores aligned is = (
    core_keys cores,
    id,
    aligned
        ∙ (ap (λ (all : List (ℕ × OutSender)). core_keys all) is
        ∙ map-append key-of cores ((id, sender) ∷ [])),
  )

  -- there is a last call
  pub some-last : (sender : OutSender) (sent : List (SendingCall J naming))
      → IsLastOf sender sent → 0 < length sent
  some-last sender sent last =
      omega (
        arith,
        length-map sent key,
        ap (λ (all : List (ℕ × Option LaneName)). length all) last.2,
        length-append last.0 ((last.1, Some (out_name sender.rx)) ∷ []),
      )

  -- its lane is the sender's
  pub last-lane : (sender : OutSender) (sent rest : List (SendingCall J naming))
      (call : SendingCall J naming)
      → IsLastOf sender sent → sent ≡ rest ++ call ∷ []
      → lane_of call.sending.value ≡ Some (out_name sender.rx)
  last-lane sender sent rest call last is =
      ap (λ (one : ℕ × Option LaneName). one.1)
      (same-last (keys rest) last.0 (key call) (last.1, Some (out_name sender.rx))
      (sym (map-append key rest (call ∷ []))
      ∙ (sym (ap (λ (all : List (SendingCall J naming)). keys all) is) ∙ last.2)))

  last-keys : (id : ℕ) (sender : OutSender) (sent after : List (SendingCall J naming))
      (call : SendingCall J naming) (core cores : List (ℕ × OutSender))
      → keys sent ≡ core_keys core → core ≡ cores ++ (id, sender) ∷ []
      → sent ≡ after ++ call ∷ []
      → keys after ++ key call ∷ [] ≡ core_keys cores ++ key-of (id, sender) ∷ []
  last-keys id sender sent after call core cores aligned is rest =
      sym (map-append key after (call ∷ []))
      ∙ (sym (ap (λ (all : List (SendingCall J naming)). keys all) rest)
      ∙ (aligned
      ∙ (ap (λ (all : List (ℕ × OutSender)). core_keys all) is
      ∙ map-append key-of cores ((id, sender) ∷ []))))

  -- without them the calls stand beside the senders still
  pub aligned-last : (id : ℕ) (sender : OutSender) (sent after : List (SendingCall J naming))
      (returning : ReturningCall J naming) (core cores : List (ℕ × OutSender))
      → keys sent ≡ core_keys core
      → core ≡ cores ++ (id, sender) ∷ [] → TakesLast sender sent after returning
      → keys after ≡ core_keys cores
  aligned-last id sender sent after returning core cores aligned is takes =
      same-front (keys after) (core_keys cores) (key takes.call) (key-of (id, sender))
      (last-keys id sender sent after takes.call core cores aligned is takes.rest)

  -- the call of an order that was set aside is handed over
  pub hands-aside : (id : ℕ) (opening : OpeningCall J naming) (returning : ReturningCall J naming)
      (old new : Senders J naming)
      → old.aside ≡ Some (control.Open id opening) → returning.sending ≡ opening.sending
      → new.aside ≡ None → new.sends ≡ old.sends → new.core.items ≡ old.core.items
      → HandsOver old new returning
  hands-aside id opening returning old new is same none sends core = record {
    id = id;
    number =
        subst (λ (all : List (CallNumber J naming × ℕ)).
        IsPermutation all (numbered id returning.sending.value
        ∷ rest_numbers new)) (sym all_numbers)
        (subst (λ (rest : List (CallNumber J naming × ℕ)).
        IsPermutation (numbered id opening.sending.value ∷ sent)
        (numbered id returning.sending.value ∷ rest)) (sym rest_sent)
        (subst (λ (one : CallNumber J naming × ℕ).
        IsPermutation (numbered id opening.sending.value ∷ sent) (one ∷ sent))
        (sym (ap (λ sending. numbered id sending.value) same))
        (IsPermutation-refl (numbered id opening.sending.value ∷ sent))));
    call =
        subst (λ (all : List (ℕ × List OutItem)).
        IsPermutation all ((id, got_of returning.sending.value.sender) ∷ rest_calls new))
        (sym all_calls)
        (subst (λ (rest : List (ℕ × List OutItem)).
        IsPermutation ((id, []) ∷ gave)
        ((id, got_of returning.sending.value.sender) ∷ rest)) (sym rest_gave)
        (subst (λ (items : List OutItem). IsPermutation ((id, []) ∷ gave) ((id, items) ∷ gave))
        (sym nothing) (IsPermutation-refl ((id, []) ∷ gave))));
  }
    where
      sent : List (CallNumber J naming × ℕ)
      sent = numbers old.sends.calls.items

      gave : List (ℕ × List OutItem)
      gave = calls got old.core.items

      all_numbers : rest_numbers old ≡ numbered id opening.sending.value ∷ sent
      all_numbers =
          ap (λ (aside : Option (WriterOrder (OpeningCall J naming))).
          opens (order_in aside) ++ sent) is

      rest_sent : rest_numbers new ≡ sent
      rest_sent =
          ap (λ (aside : Option (WriterOrder (OpeningCall J naming))).
          opens (order_in aside) ++ numbers new.sends.calls.items) none
          ∙ ap (λ (all : Sends J naming). numbers all.calls.items) sends

      all_calls : rest_calls old ≡ (id, []) ∷ gave
      all_calls =
          ap (λ (aside : Option (WriterOrder (OpeningCall J naming))).
          map (λ call. (call.1, [])) (opens (order_in aside)) ++ gave) is

      rest_gave : rest_calls new ≡ gave
      rest_gave =
          ap (λ (aside : Option (WriterOrder (OpeningCall J naming))).
          map (λ call. (call.1, [])) (opens (order_in aside)) ++ calls got new.core.items) none
          ∙ ap (λ (senders : List (ℕ × OutSender)). calls got senders) core

      nothing : got_of returning.sending.value.sender ≡ []
      nothing =
          ap (λ sending. got_of sending.value.sender) same
          ∙ unsent opening.sending.value.sender opening.fresh

  -- the call of the last sender that the core had is
  pub hands-last : (id : ℕ) (sender : OutSender) (returning : ReturningCall J naming)
      (old new : Senders J naming)
      → old.aside ≡ None → new.aside ≡ None
      → old.core.items ≡ new.core.items ++ (id, sender) ∷ []
      → TakesLast sender old.sends.calls.items new.sends.calls.items returning
      → HandsOver old new returning
  hands-last id sender returning old new empty none is takes = record {
    id = id;
    number =
        subst (λ (all : List (CallNumber J naming × ℕ)).
        IsPermutation all (numbered id returning.sending.value
        ∷ rest_numbers new)) (sym all_numbers)
        (subst (λ (rest : List (CallNumber J naming × ℕ)).
        IsPermutation (numbers after ++ number takes.call ∷ [])
        (numbered id returning.sending.value ∷ rest)) (sym rest_sent)
        (subst (λ (one : CallNumber J naming × ℕ).
        IsPermutation (numbers after ++ number takes.call ∷ []) (one ∷ numbers after)) same
        (IsPermutation-append_comm (numbers after) (number takes.call ∷ []))));
    call =
        subst (λ (all : List (ℕ × List OutItem)).
        IsPermutation all ((id, got_of returning.sending.value.sender) ∷ rest_calls new))
        (sym all_calls)
        (subst (λ (rest : List (ℕ × List OutItem)).
        IsPermutation (gave ++ (id, got sender.rx) ∷ [])
        ((id, got_of returning.sending.value.sender) ∷ rest)) (sym rest_gave)
        (subst (λ (one : Option OutSender).
        IsPermutation (gave ++ (id, got sender.rx) ∷ []) ((id, got_of one) ∷ gave))
        (sym takes.sender_is)
        (IsPermutation-append_comm gave ((id, got sender.rx) ∷ []))));
  }
    where
      after : List (SendingCall J naming)
      after = new.sends.calls.items

      gave : List (ℕ × List OutItem)
      gave = calls got new.core.items

      same_id : takes.call.id ≡ id
      same_id =
          ap (λ (one : ℕ × Option LaneName). one.0)
          (same-last (keys after) (core_keys new.core.items) (key takes.call) (key-of (id, sender))
          (last-keys id sender old.sends.calls.items after takes.call old.core.items new.core.items
          old.aligned is takes.rest))

      same : number takes.call ≡ numbered id returning.sending.value
      same =
          ap (λ (n : ℕ). numbered n takes.call.sending.value) same_id
          ∙ ap (λ (one : CallNumber J naming). (one, id)) (sym takes.number_is)

      all_numbers : rest_numbers old ≡ numbers after ++ number takes.call ∷ []
      all_numbers =
          ap (λ (aside : Option (WriterOrder (OpeningCall J naming))).
          opens (order_in aside) ++ numbers old.sends.calls.items) empty
          ∙ (ap (λ (sent : List (SendingCall J naming)). numbers sent) takes.rest
          ∙ map-append number after (takes.call ∷ []))

      rest_sent : rest_numbers new ≡ numbers after
      rest_sent =
          ap (λ (aside : Option (WriterOrder (OpeningCall J naming))).
          opens (order_in aside) ++ numbers after) none

      all_calls : rest_calls old ≡ gave ++ (id, got sender.rx) ∷ []
      all_calls =
          ap (λ (aside : Option (WriterOrder (OpeningCall J naming))).
          map (λ call. (call.1, [])) (opens (order_in aside)) ++ calls got old.core.items) empty
          ∙ (ap (λ (senders : List (ℕ × OutSender)). calls got senders) is
          ∙ map-append (λ (call : ℕ × OutSender). (call.0, got call.1.rx)) new.core.items
          ((id, sender) ∷ []))

      rest_gave : rest_calls new ≡ gave
      rest_gave =
          ap (λ (aside : Option (WriterOrder (OpeningCall J naming))).
          map (λ call. (call.1, [])) (opens (order_in aside)) ++ gave) none

  -- an order that opens no call is no more among them
  same-numbers : (old mid : Senders J naming) → opens (order_in old.aside) ≡ [] → mid.aside ≡ None
      → mid.sends ≡ old.sends → rest_numbers mid ≡ rest_numbers old
  same-numbers old mid plain none sends =
      ap (λ (aside : Option (WriterOrder (OpeningCall J naming))).
      opens (order_in aside) ++ numbers mid.sends.calls.items) none
      ∙ (ap (λ (all : Sends J naming). numbers all.calls.items) sends
      ∙ sym (ap (λ (opened : List (CallNumber J naming × ℕ)).
      opened ++ numbers old.sends.calls.items) plain))

  same-calls : (old mid : Senders J naming) → opens (order_in old.aside) ≡ [] → mid.aside ≡ None
      → mid.core ≡ old.core → rest_calls mid ≡ rest_calls old
  same-calls old mid plain none core =
      ap (λ (aside : Option (WriterOrder (OpeningCall J naming))).
      map (λ call. (call.1, [])) (opens (order_in aside)) ++ calls got mid.core.items) none
      ∙ (ap (λ senders. calls got senders.items) core
      ∙ sym (ap (λ (opened : List (CallNumber J naming × ℕ)).
      map (λ call. (call.1, [])) opened ++ calls got old.core.items) plain))

  hands-from : (old mid new : Senders J naming) (returning : ReturningCall J naming)
      → opens (order_in old.aside) ≡ [] → mid.aside ≡ None → mid.sends ≡ old.sends
      → mid.core ≡ old.core
      → HandsOver mid new returning → HandsOver old new returning
  hands-from old mid new returning plain none sends core hands = record {
    id = hands.id;
    number =
        subst (λ (all : List (CallNumber J naming × ℕ)).
        IsPermutation all (numbered hands.id returning.sending.value ∷ rest_numbers new))
        (same-numbers old mid plain none sends) hands.number;
    call =
        subst (λ (all : List (ℕ × List OutItem)).
        IsPermutation all ((hands.id, got_of returning.sending.value.sender) ∷ rest_calls new))
        (same-calls old mid plain none core) hands.call;
  }

  pub some-from : (result : Option (ReturningCall J naming)) (old mid new : Senders J naming)
      → opens (order_in old.aside) ≡ [] → mid.aside ≡ None → mid.sends ≡ old.sends
      → mid.core ≡ old.core
      → IfSome result (λ returning. HandsOver mid new returning)
      → IfSome result (λ returning. HandsOver old new returning)
  some-from None old mid new plain none sends core hands = tt
  some-from (Some returning) old mid new plain none sends core hands =
      hands-from old mid new returning plain none sends core hands

  pub none-from : (result : Option (ReturningCall J naming)) (old mid : Senders J naming)
      → opens (order_in old.aside) ≡ [] → mid.aside ≡ None → mid.sends ≡ old.sends
      → mid.core ≡ old.core
      → IfNone result (rest_numbers mid ≡ []) → IfNone result (rest_numbers old ≡ [])
  none-from None old mid plain none sends core is = sym (same-numbers old mid plain none sends) ∙ is
  none-from (Some returning) old mid plain none sends core is = tt

  numbers-none : (sent : List (SendingCall J naming)) (core : List (ℕ × OutSender))
      → keys sent ≡ core_keys core → length core ≡ 0 → numbers sent ≡ []
  numbers-none [] core aligned none = refl
  numbers-none (call ∷ sent) core aligned none =
      absurd (omega (arith, same-length (call ∷ sent) core aligned, none))

  pub nothing-left : (senders : Senders J naming) → senders.aside ≡ None
      → length senders.core.items ≡ 0 → rest_numbers senders ≡ []
  nothing-left senders none empty =
      ap (λ (aside : Option (WriterOrder (OpeningCall J naming))).
      opens (order_in aside) ++ numbers senders.sends.calls.items) none
      ∙ numbers-none senders.sends.calls.items senders.core.items senders.aligned empty
