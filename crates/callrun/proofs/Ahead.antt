-- What was taken ahead, and is in hand.
use Rattle.std.proofs.Common.{
  ◌≡◌,
  sym,
  subst,
  ℕ,
  Bool,
  true,
  List,
  [],
  ◌++◌,
  Option,
  None,
  Some,
  append-nil,
}
use Rattle.account.specs.declared.call.OutItem.{OutItem}
use Rattle.account.specs.declared.call.RequestEnd.{RequestEnd}
use Rattle.callbox.specs.InSides.{Tells, grown}
use Rattle.callbox.specs.declared.taker.Taken.{Taken}
use Rattle.handlers.specs.declared.state.MethodState.{MethodState}
use Rattle.handlers.specs.declared.step.MethodStep.{MethodStep}
use Rattle.callrun.specs.declared.call.Call.{Call}
use Rattle.callrun.specs.declared.response.Response.{Response}
use Rattle.callrun.specs.Runs.{ComesTo, HasCome, HasRun}
use Rattle.callrun.specs.Sides.{ResponseView, is_open, shown}
use Rattle.callrun.proofs.Steps.{live}
use Rattle.callrun.proofs.Taking.{opened_run}

module _ {answers : List (List ℕ) → Bool → MethodStep → Type 0}
    {stands : MethodState → List (List ℕ) → MethodStep → Type 0} where
  pub with_none : (said : Option RequestEnd) (messages : List (List ℕ)) (call : Call)
      (hand : Option Taken) (after : ResponseView)
      → hand ≡ None
      → HasRun answers stands said messages call after
      → HasCome answers stands said messages call hand after
  with_none said messages call hand after is run = record {
    come =
        subst (λ (h : Option Taken).
        ComesTo answers stands said messages call after h) (sym is) run;
  }

  pub same_hand : (said : Option RequestEnd) (messages : List (List ℕ)) (call : Call)
      (hand other : Option Taken) (after : ResponseView)
      → other ≡ hand
      → HasCome answers stands said messages call hand after
      → HasCome answers stands said messages call other after
  same_hand said messages call hand other after is has =
      subst (λ (h : Option Taken). HasCome answers stands said messages call h after) (sym is) has

  pub kept_come : (Holds : List (List ℕ) → Type 0) (said : Option RequestEnd)
      (messages : List (List ℕ))
      (call : Call) (hand : Option Taken) (after : ResponseView)
      → Holds messages
      → HasCome answers stands said messages call hand after
      → (more : List (List ℕ)) × Holds (messages ++ more)
      × HasCome answers stands said (messages ++ more) call hand after
  kept_come Holds said messages call hand after took has = (
    [],
    subst Holds (sym (append-nil messages)) took,
    subst (λ (ms : List (List ℕ)). HasCome answers stands said ms call hand after)
        (sym (append-nil messages)) has,
  )

  pub then_none : (Holds : List (List ℕ) → Type 0) (said : Option RequestEnd)
      (messages : List (List ℕ))
      (call : Call) (hand : Option Taken) (after : ResponseView)
      → hand ≡ None
      → (more : List (List ℕ)) × Holds (messages ++ more)
      × HasRun answers stands said (messages ++ more) call after
      → (more : List (List ℕ)) × Holds (messages ++ more)
      × HasCome answers stands said (messages ++ more) call hand after
  then_none Holds said messages call hand after is (more, took, run) =
      (more, took, with_none said (messages ++ more) call hand after is run)

  -- what is in hand goes to the method
  at_hand : {G S : Type 0} (of_open : G → List OutItem) (of_shut : S → List OutItem)
      (was_placed : S → Bool) (r : Response G S) (taken : Taken)
      (said : Option RequestEnd) (messages : List (List ℕ)) (old new : Call) → is_open r ≡ true
      → ((before : Option RequestEnd) (handled : List (List ℕ)) (given : List OutItem)
      → Tells taken before said
      → HasRun answers stands before handled old (live given)
      → HasRun answers stands said (grown handled taken) new (live given))
      → ComesTo answers stands said messages old (shown of_open of_shut was_placed r) (Some taken)
      → HasRun answers stands said messages new (shown of_open of_shut was_placed r)
  at_hand of_open of_shut was_placed r taken said messages old new opened step
      (before, handled, tells, same, ready, alive, run) =
      subst (λ (ms : List (List ℕ)).
      HasRun answers stands said ms new (shown of_open of_shut was_placed r)) (sym same)
      (opened_run answers stands of_open of_shut was_placed r before said handled
      (grown handled taken) old new opened (λ given. step before handled given tells) run)

  pub handed : {G S : Type 0} (of_open : G → List OutItem) (of_shut : S → List OutItem)
      (was_placed : S → Bool) (r : Response G S) (taken : Taken)
      (said : Option RequestEnd) (messages : List (List ℕ)) (old new : Call) (hand : Option Taken)
      → is_open r ≡ true → hand ≡ Some taken
      → ((before : Option RequestEnd) (handled : List (List ℕ)) (given : List OutItem)
      → Tells taken before said
      → HasRun answers stands before handled old (live given)
      → HasRun answers stands said (grown handled taken) new (live given))
      → HasCome answers stands said messages old hand (shown of_open of_shut was_placed r)
      → HasRun answers stands said messages new (shown of_open of_shut was_placed r)
  handed of_open of_shut was_placed r taken said messages old new hand opened is step has =
      at_hand of_open of_shut was_placed r taken said messages old new opened step
      (subst (λ (h : Option Taken).
      ComesTo answers stands said messages old (shown of_open of_shut was_placed r) h) is has.come)
