-- A call that begins: its sender is taken out of its box, and put in again where the order comes
-- back.
use Rattle.std.proofs.Common.{◌≡◌, ◌∙◌, ℕ, List, [], ◌∷◌, Option, None, Some, ap, refl, subst, sym}
use Rattle.std.proofs.Math.Path.{path_j, path_j'}
use Rattle.std.specs.Coded.{Unit-prop}
use Rattle.std.specs.Option.{IsSome, option_map}
use Rattle.account.specs.declared.call.OutItem.{OutItem}
use Rattle.lane.specs.RingLane.{got, out_name}
use Rattle.outwriter.specs.declared.control.WriterOrder.{WriterOrder}
use Rattle.outwriter.specs.declared.control.WriterOrder.TheVariants as control
use Rattle.callparts.specs.declared.order.OpeningCall.{OpeningCall}
use Rattle.callparts.specs.declared.order.SendingEnd.{SendingEnd}
use Rattle.callparts.specs.declared.register.CallNumber.{CallNumber}
use Rattle.callparts.specs.declared.register.Naming.{Ghosts}
use Rattle.callparts.specs.Lanes.{OutSender}
use Rattle.callparts.specs.Numbers.{IsOfLane, IsOfLane-prop, out_lane_at}

-- ---- of a call that begins nothing was got, in one way

-- there is a list, and it is empty
IsEmpty : Option (List OutItem) → Type 0
IsEmpty None = ⊥
IsEmpty (Some []) = Unit {0}
IsEmpty (Some (item ∷ items)) = ⊥

IsEmpty-prop : (all : Option (List OutItem)) → IsProp (IsEmpty all)
unfolding IsEmpty
IsEmpty-prop None = λ p q. absurd p
IsEmpty-prop (Some []) = Unit-prop
IsEmpty-prop (Some (item ∷ items)) = λ p q. absurd p

from-empty : (all : Option (List OutItem)) → IsEmpty all → all ≡ Some []
unfolding IsEmpty
from-empty None empty = absurd empty
from-empty (Some []) empty = refl
from-empty (Some (item ∷ items)) empty = absurd empty

to-empty : (all : Option (List OutItem)) → all ≡ Some [] → IsEmpty all
unfolding IsEmpty
to-empty all is = subst IsEmpty (sym is) tt

there-and-back : (all : Option (List OutItem)) (is : all ≡ Some [])
    → from-empty all (to-empty all is) ≡ is
unfolding from-empty
there-and-back all is =
    path_j' (λ (one : Option (List OutItem)) (p : one ≡ Some []).
    from-empty one (to-empty one p) ≡ p) refl is

fresh-prop : (all : Option (List OutItem)) → IsProp (all ≡ Some [])
fresh-prop all p q =
    sym (there-and-back all p)
    ∙ (ap (from-empty all) (IsEmpty-prop all (to-empty all p) (to-empty all q))
    ∙ there-and-back all q)

abbrev pub got-by : Option OutSender → Option (List OutItem)
got-by sender = option_map (λ s. got s.rx) sender

-- ---- its sender

none-some : {X : Type 0} (x : X) → None ≡ Some x → ⊥
none-some x e = cc

abbrev items-or : Option (List OutItem) → List OutItem
items-or None = []
items-or (Some items) = items

pub there-fresh : (one : Option OutSender) → got-by one ≡ Some [] → one ≡ None → ⊥
there-fresh one fresh none = none-some [] (sym (ap got-by none) ∙ fresh)

pub some-fresh : (one : Option OutSender) → got-by one ≡ Some [] → IsSome one
some-fresh None fresh = absurd (none-some [] fresh)
some-fresh (Some sender) fresh = refl

pub got-none : (one : Option OutSender) (sender : OutSender) → got-by one ≡ Some []
    → one ≡ Some sender → got sender.rx ≡ []
got-none one sender fresh is = ap items-or (sym (ap got-by is) ∙ fresh)

-- the sender of an order that is handed back is that of the order
pub same-sender : {S : Type 0} (id other : ℕ) (sender again : S)
    → control.Open other again ≡ control.Open id sender → again ≡ sender
same-sender id other sender again e = cc

module _ {J : Type 0} {naming : Ghosts J} where
  -- the lane at a call's number is that of its sender, if that is there
  abbrev IsLane : CallNumber J naming → Option OutSender → Type 0
  IsLane number sender =
      IsOfLane (out_lane_at number.seen.log number.value) (option_map (λ s. out_name s.rx) sender)

  abbrev made : (number : CallNumber J naming) (sender : Option OutSender) → IsLane number sender
      → SendingEnd J naming
  made number sender lane = record { number = number; sender = sender; out_lane = lane }

  one-made : (number : CallNumber J naming) (sender : Option OutSender)
      (lane other : IsLane number sender)
      → made number sender lane ≡ made number sender other
  one-made number sender lane other =
      ap (λ (is : IsLane number sender). made number sender is) (IsOfLane-prop
      (out_lane_at number.seen.log number.value)
      (option_map (λ s. out_name s.rx) sender) lane other)

  same-made : (number other : CallNumber J naming) (sender again : Option OutSender)
      (lane : IsLane number sender) (its : IsLane other again)
      → number ≡ other → sender ≡ again
      → made number sender lane ≡ made other again its
  same-made number other sender again lane its numbers senders =
      path_j (λ (n : CallNumber J naming) (p : number ≡ n).
      (found : IsLane n again) → made number sender lane ≡ made n again found)
      (λ found.
      path_j (λ (one : Option OutSender) (p : sender ≡ one).
      (is : IsLane number one) → made number sender lane ≡ made number one is)
      (λ is. one-made number sender lane is) senders found)
      numbers its

  -- of one number and with one sender it is the same
  pub same-sending : (one other : SendingEnd J naming) → one.number ≡ other.number
      → one.sender ≡ other.sender → one ≡ other
  same-sending one other number sender =
      same-made one.number other.number one.sender other.sender one.out_lane
      other.out_lane number sender

  -- an order that is put together again is the same
  pub same-opening : (opening : OpeningCall J naming) (sending : SendingEnd J naming)
      (fresh : got-by sending.sender ≡ Some [])
      → opening.sending.value ≡ sending
      → opening
      ≡ record opening { sending = record opening.sending { value = sending }; fresh = fresh }
  same-opening opening sending fresh same =
      path_j (λ (one : SendingEnd J naming) (p : opening.sending.value ≡ one).
      (its : got-by one.sender ≡ Some [])
      → opening ≡ record opening { sending = record opening.sending { value = one }; fresh = its })
      (λ its.
      ap (λ (proof : got-by opening.sending.value.sender ≡ Some []).
      record opening { fresh = proof })
      (fresh-prop (got-by opening.sending.value.sender) opening.fresh its))
      same fresh

  -- the lane of a call is that of its sender still
  pub lane-again : (sending other : SendingEnd J naming) (sender : OutSender)
      → other.number ≡ sending.number → sending.sender ≡ Some sender
      → IsLane other.number (Some sender)
  lane-again sending other sender number is =
      subst (λ (n : CallNumber J naming). IsLane n (Some sender)) (sym number)
      (subst (λ (one : Option OutSender). IsLane sending.number one) is sending.out_lane)
