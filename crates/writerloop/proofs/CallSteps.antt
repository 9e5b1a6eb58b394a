-- Calls beside the senders of a core: in the same order, each with the lane of its number.
use Rattle.std.proofs.Common.{
  ◌≡◌,
  ◌≢◌,
  ◌⊎◌,
  ◌∙◌,
  ◌<◌,
  ◌-◌,
  ℕ,
  zero,
  suc,
  inl,
  inr,
  List,
  [],
  ◌∷◌,
  ◌++◌,
  Option,
  Some,
  map,
  length,
  get_or,
  set,
  take,
  ap,
  sym,
  refl,
  subst,
  arith,
}
use Rattle.std.specs.Prelude.{Contains, option_map}
use Rattle.std.specs.List.{swap_remove}
use Rattle.account.specs.declared.call.OutItem.{OutItem}
use Rattle.std.proofs.lemmas.Bool.{cases_order}
use Rattle.std.proofs.lemmas.List.{get_or-map, length-map, map-append, map-set, take-map}
use Rattle.std.proofs.Math.Seq.{map-set_same}
use Rattle.lane.specs.RingLane.{LaneName, got, out_name}
use Rattle.outwriter.specs.Cores.{calls, lanes}
use Rattle.outwriter.specs.Releases.{HasNoneBelow, Releases}
use Rattle.callparts.specs.declared.order.ReturningCall.{ReturningCall}
use Rattle.callparts.specs.declared.order.SendingEnd.{SendingEnd}
use Rattle.callparts.specs.declared.register.CallNumber.{CallNumber}
use Rattle.callparts.specs.declared.register.Naming.{Ghosts}
use Rattle.callparts.specs.Lanes.{OutSender}
use Rattle.callparts.specs.Numbers.{IsOfLane, out_lane_at}
use Rattle.writerloop.specs.declared.sends.SendingCall.{SendingCall}
use Rattle.writerloop.specs.Sent as places
use Rattle.writerloop.specs.Sent.{
  Adds,
  HandsHome,
  HasNone,
  IsAt,
  IsFirstOf,
  SameCalls,
  core_keys,
  keys,
  lane_of,
  numbered,
  numbers,
}

-- ---- lists

map-removed : {X Y : Type 0} (f : X → Y) (xs : List X) (i : ℕ) (d : X) → 0 < length xs
    → map f (swap_remove xs i d) ≡ swap_remove (map f xs) i (f d)
map-removed {X} {Y} f xs i d some =
    let n = length xs - 1 in
    sym (take-map f n (set xs i (get_or xs n d)))
    ∙ (ap (λ (ys : List Y). take n ys) (map-set f xs i (get_or xs n d))
    ∙ (ap (λ (y : Y). take n (set (map f xs) i y)) (sym (get_or-map f xs n d (f d) (omega arith)))
    ∙ ap (λ m. take (m - 1) (set (map f xs) i (get_or (map f xs) (m - 1) (f d))))
    (sym (length-map xs f))))

-- ---- a core

abbrev pub key-of : ℕ × OutSender → ℕ × Option LaneName
key-of call = (call.0, Some (out_name call.1.rx))

by-lanes : (core : List (ℕ × OutSender))
    → core_keys core ≡ map (λ end. (end.0, Some end.2)) (lanes out_name core)
by-lanes [] = refl
by-lanes (call ∷ core) =
    ap (λ (all : List (ℕ × Option LaneName)). key-of call ∷ all) (by-lanes core)

-- a sender that gave something is one of the core's
pub from-core : (id : ℕ) (items : List OutItem) (core : List (ℕ × OutSender))
    → Contains (calls got core) (id, items)
    → (lane : Option LaneName) × Contains (core_keys core) (id, lane)
from-core id items [] (k, within, at) = absurd (omega (arith, within))
from-core id items (call ∷ core) (zero, within, at) = (
  Some (out_name call.1.rx),
  (zero, omega arith, ap (λ (one : ℕ × List OutItem). (one.0, Some (out_name call.1.rx))) at),
)
from-core id items (call ∷ core) (suc k, within, at) =
    let rest = from-core id items core (k, omega (arith, within), at) in
    (rest.0, (suc rest.1.0, omega (arith, rest.1.1), rest.1.2))

-- the senders are ends of the same lanes
pub keys-lanes : (core cores : List (ℕ × OutSender)) → lanes out_name cores ≡ lanes out_name core
    → core_keys cores ≡ core_keys core
keys-lanes core cores same =
    by-lanes cores
    ∙ (ap (λ (ends : List (ℕ × ℕ × LaneName)). map (λ end. (end.0, Some end.2)) ends) same
    ∙ sym (by-lanes core))

module _ {J : Type 0} {naming : Ghosts J} where
  abbrev pub key : SendingCall J naming → ℕ × Option LaneName
  key call = (call.id, lane_of call.sending.value)

  abbrev pub number : SendingCall J naming → CallNumber J naming × ℕ
  number call = numbered call.id call.sending.value

  -- and one of the calls
  pub from-keys : (id : ℕ) (lane : Option LaneName) (sent : List (SendingCall J naming))
      → Contains (keys sent) (id, lane)
      → (n : CallNumber J naming) × Contains (numbers sent) (n, id)
  from-keys id lane [] (k, within, at) = absurd (omega (arith, within))
  from-keys id lane (call ∷ sent) (zero, within, at) = (
    call.sending.value.number,
    (zero, omega arith, ap (λ (one : ℕ × Option LaneName). (call.sending.value.number, one.0)) at),
  )
  from-keys id lane (call ∷ sent) (suc k, within, at) =
      let rest = from-keys id lane sent (k, omega (arith, within), at) in
      (rest.0, (suc rest.1.0, omega (arith, rest.1.1), rest.1.2))

  pub same-length : (sent : List (SendingCall J naming)) (core : List (ℕ × OutSender))
      → keys sent ≡ core_keys core → length sent ≡ length core
  same-length sent core aligned =
      sym (length-map sent key)
      ∙ (ap (λ (all : List (ℕ × Option LaneName)). length all) aligned ∙ length-map core key-of)

  -- what stands at a place
  same-key : (sent : List (SendingCall J naming)) (core : List (ℕ × OutSender)) (k : ℕ)
      (d : SendingCall J naming)
      (e : ℕ × OutSender)
      → keys sent ≡ core_keys core → k < length core
      → key (get_or sent k d) ≡ key-of (get_or core k e)
  same-key sent core k d e aligned within =
      sym (get_or-map key sent k d (key d) (omega (arith, within, same-length sent core aligned)))
      ∙ (ap (λ (all : List (ℕ × Option LaneName)). get_or all k (key d)) aligned
      ∙ get_or-map key-of core k e (key d) within)

  -- the first call of a stream is that of the sender that a core gives back
  pub first-of : (id : ℕ) (sender : OutSender) (sent : List (SendingCall J naming))
      (core cores : List (ℕ × OutSender))
      → keys sent ≡ core_keys core → Releases id sender core cores → IsFirstOf id sender sent
  first-of id sender sent core cores aligned releases = (
    releases.0,
    (
      omega (arith, releases.1, same-length sent core aligned),
      λ d. ap (λ (one : ℕ × Option LaneName). one.0) (there d),
    ),
    λ d. ap (λ (one : ℕ × Option LaneName). one.1) (there d),
    λ k d before within is.
        releases.4 k (id, sender) before (omega (arith, before, releases.1))
        (sym (ap (λ (one : ℕ × Option LaneName). one.0)
        (same-key sent core k d (id, sender) aligned (omega (arith, before, releases.1))))
        ∙ is),
  )
    where
      there : (d : SendingCall J naming)
          → key (get_or sent releases.0 d) ≡ (id, Some (out_name sender.rx))
      there d =
          same-key sent core releases.0 d (id, sender) aligned releases.1
          ∙ ap key-of (sym releases.2)

  one-place : (id : ℕ) (sent : List (SendingCall J naming)) (a b : ℕ) → IsAt id a sent
      → places.HasNoneBelow a id sent → IsAt id b sent → places.HasNoneBelow b id sent
      → (d : SendingCall J naming) → a ≡ b
  one-place id sent a b at_a below_a at_b below_b d = by (cases_order a b)
    where
      by : (a ≡ b) ⊎ ((a < b) ⊎ (b < a)) → a ≡ b
      by (inl same) = same
      by (inr (inl less)) = absurd (below_b a d less at_a.0 (at_a.1 d))
      by (inr (inr more)) = absurd (below_a b d more at_b.0 (at_b.1 d))

  -- they stand beside one another again once both have lost the first of a stream
  pub aligned-out : (id : ℕ) (sender : OutSender) (sent after : List (SendingCall J naming))
      (core cores : List (ℕ × OutSender)) (from to : List (ReturningCall J naming))
      → keys sent ≡ core_keys core
      → HandsHome id sender sent after from to → Releases id sender core cores
      → keys after ≡ core_keys cores
  unfolding first-of
  aligned-out id sender sent after core cores from to aligned hands releases =
      let first = first-of id sender sent core cores aligned releases in
      let place : hands.place ≡ releases.0 =
      one-place id sent hands.place releases.0 hands.at hands.below first.1 first.3 hands.call in
      let some : 0 < length sent = omega (arith, hands.at.0) in
      let some_core : 0 < length core = omega (arith, releases.1) in
      let one : key hands.call ≡ key-of (id, sender) =
      ap key hands.is
      ∙ (ap (λ n. key (get_or sent n hands.call)) place
      ∙ (same-key sent core releases.0 hands.call (id, sender) aligned releases.1
      ∙ ap key-of (sym releases.2))) in
      ap (λ (all : List (SendingCall J naming)). keys all) hands.rest
      ∙ (map-removed key sent hands.place hands.call some
      ∙ (ap (λ n. swap_remove (keys sent) n (key hands.call)) place
      ∙ (ap (λ (all : List (ℕ × Option LaneName)).
      swap_remove all releases.0 (key hands.call)) aligned
      ∙ (ap (λ (last : ℕ × Option LaneName). swap_remove (core_keys core) releases.0 last) one
      ∙ (sym (map-removed key-of core releases.0 (id, sender) some_core)
      ∙ ap (λ (all : List (ℕ × OutSender)). core_keys all) (sym releases.3))))))

  -- a sender is handed back from there
  pub hands-of : (id : ℕ) (sender : OutSender) (calls sent after : List (SendingCall J naming))
      (put from to : List (ReturningCall J naming))
      → calls ≡ sent → put ≡ from → HandsHome id sender calls after put to
      → HandsHome id sender sent after from to
  hands-of id sender calls sent after put from to same way hands =
      subst (λ (all : List (SendingCall J naming)).
      HandsHome id sender all after from to) same (subst
      (λ (all : List (ReturningCall J naming)). HandsHome id sender calls after all to) way hands)

  -- a call stands behind the others
  pub adds-pushed : (id : ℕ) (sending : SendingEnd J naming) (call : SendingCall J naming)
      (old new : List (SendingCall J naming))
      → call.id ≡ id → call.sending.value ≡ sending → new ≡ old ++ call ∷ []
      → Adds id sending old new
  adds-pushed id sending call old new same_id same_sending is = record {
    keys =
        ap (λ (all : List (SendingCall J naming)). map key all) is
        ∙ (map-append key old (call ∷ [])
        ∙ (ap (λ n. map key old ++ (n, lane_of call.sending.value) ∷ []) same_id
        ∙ ap (λ one. map key old ++ (id, lane_of one) ∷ []) same_sending));
    numbers =
        ap (λ (all : List (SendingCall J naming)). numbers all) is
        ∙ (map-append number old (call ∷ [])
        ∙ (ap (λ n. map number old ++ numbered n call.sending.value ∷ []) same_id
        ∙ ap (λ one. map number old ++ numbered id one ∷ []) same_sending));
  }

  -- without its sender it is the same call
  pub adds-from : (id : ℕ) (sending taken : SendingEnd J naming)
      (old mid new : List (SendingCall J naming))
      → mid ≡ old → taken.number ≡ sending.number → Adds id taken mid new → Adds id sending old new
  adds-from id sending taken old mid new same number adds = record {
    keys =
        adds.keys
        ∙ (ap (λ (all : List (SendingCall J naming)). keys all ++ (id, lane_of taken) ∷ []) same
        ∙ ap (λ (n : CallNumber J naming). keys old ++ (id, out_lane_at n.seen.log n.value) ∷ [])
        number);
    numbers =
        adds.numbers
        ∙ (ap (λ (all : List (SendingCall J naming)). numbers all ++ numbered id taken ∷ []) same
        ∙ ap (λ (n : CallNumber J naming). numbers old ++ (n, id) ∷ []) number);
  }

  -- of a call something is noted
  pub same-noted : (calls : List (SendingCall J naming)) (place : ℕ)
      (call noted : SendingCall J naming)
      → call ≡ get_or calls place call → noted.id ≡ call.id
      → noted.sending.value ≡ call.sending.value → SameCalls calls (set calls place noted)
  same-noted calls place call noted is same_id same_sending = record {
    keys =
        map-set_same key calls place noted call (ap (λ n. (n, lane_of noted.sending.value)) same_id
        ∙ (ap (λ one. (call.id, lane_of one)) same_sending ∙ ap key is));
    numbers =
        map-set_same number calls place noted call (ap (λ n. numbered n noted.sending.value) same_id
        ∙ (ap (λ one. numbered call.id one) same_sending ∙ ap number is));
  }

  -- a call that is there is found
  pub missing-first : (id : ℕ) (sender : OutSender) (calls : List (SendingCall J naming))
      → IsFirstOf id sender calls → HasNone id calls → ⊥
  missing-first id sender [] first none = omega (arith, first.1.0)
  missing-first id sender (call ∷ calls) first none = none first.0 call first.1.0 (first.1.1 call)

  -- the lane of a call whose sender is in its box is the sender's
  pub lane-there : (sending : SendingEnd J naming) (sender : OutSender)
      → sending.sender ≡ Some sender
      → lane_of sending ≡ Some (out_name sender.rx)
  lane-there sending sender is =
      subst (λ (one : Option OutSender).
      IsOfLane (lane_of sending) (option_map (λ s. out_name s.rx) one)) is sending.out_lane

  -- they stand beside one another still, once a call and its sender stand behind the others
  pub aligned-more : (id : ℕ) (sending : SendingEnd J naming) (sender : OutSender)
      (old new : List (SendingCall J naming)) (core cores : List (ℕ × OutSender))
      → keys old ≡ core_keys core → Adds id sending old new
      → cores ≡ core ++ (id, sender) ∷ [] → lane_of sending ≡ Some (out_name sender.rx)
      → keys new ≡ core_keys cores
  aligned-more id sending sender old new core cores aligned adds brings lane =
      adds.keys
      ∙ (ap (λ (all : List (ℕ × Option LaneName)). all ++ (id, lane_of sending) ∷ []) aligned
      ∙ (ap (λ (one : Option LaneName). core_keys core ++ (id, one) ∷ []) lane
      ∙ (sym (map-append key-of core ((id, sender) ∷ []))
      ∙ ap (λ (all : List (ℕ × OutSender)). core_keys all) (sym brings))))
