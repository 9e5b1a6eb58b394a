-- The senders that a writer has at its end.
use Rattle.std.specs.Prelude.{ℕ, List, [], ◌∷◌, ◌++◌, map}
use Rattle.std.specs.List.Sorted.{IsPermutation}
use Rattle.account.specs.declared.call.OutItem.{OutItem}
use Rattle.lane.specs.RingLane.{got}
use Rattle.outwriter.specs.Cores.{calls}
use Rattle.callparts.specs.declared.order.ReturningCall.{ReturningCall}
use Rattle.callparts.specs.declared.register.CallNumber.{CallNumber}
use Rattle.callparts.specs.declared.register.Naming.{Ghosts}
use Rattle.writerloop.specs.declared.senders.Senders.{Senders}
use Rattle.writerloop.specs.Orders.{order_in}
use Rattle.writerloop.specs.Sent.{got_of, numbered, numbers, opens}

module _ {J : Type 0} {naming : Ghosts J} where
  -- the numbers of their calls: of an order that was set aside, and of those whose senders the core
  -- had
  abbrev pub rest_numbers : Senders J naming → List (CallNumber J naming × ℕ)
  rest_numbers senders = opens (order_in senders.aside) ++ numbers senders.sends.calls.items

  -- the streams of these, with what their senders got
  abbrev pub rest_calls : Senders J naming → List (ℕ × List OutItem)
  rest_calls senders =
      map (λ call. (call.1, [])) (opens (order_in senders.aside)) ++ calls got senders.core.items

  -- one of the senders is handed over
  pub record HandsOver (old new : Senders J naming)
      (returning : ReturningCall J naming) : Type 0 where
    pub id : ℕ
    pub number :
        IsPermutation (rest_numbers old) (numbered id returning.sending.value ∷ rest_numbers new)
    pub call :
        IsPermutation (rest_calls old)
        ((id, got_of returning.sending.value.sender) ∷ rest_calls new)
