-- What a turn did that did something.
use Rattle.std.proofs.Common.{
  ◌≡◌,
  ◌⊎◌,
  inl,
  inr,
  refl,
  sym,
  ap,
  subst,
  ◌∙◌,
  Bool,
  true,
  false,
  List,
  [],
  ◌∷◌,
  ◌++◌,
  Option,
}
use Rattle.account.specs.declared.call.OutItem.{OutItem}
use Rattle.callrun.specs.declared.call.Call.{Call}
use Rattle.callrun.specs.declared.ending.Ending.{Ending}
use Rattle.callrun.specs.declared.handling.Handling.{Handling}
use Rattle.callrun.specs.declared.response.Response.{Response}
use Rattle.callrun.specs.declared.response.Response.TheVariants as response
use Rattle.callrun.specs.Handlings.{IsReady, lacks_memory}
use Rattle.callrun.specs.Runs.{RunsOut}
use Rattle.callrun.specs.Sides.{shown}
use Rattle.callrun.proofs.Steps.{true_false}

-- an item was given by an open end
pub gave_one : {G S : Type 0} (of_open : G → List OutItem) (of_shut : S → List OutItem)
    (was_placed : S → Bool) (r : Response G S) (giver : G) (given : List OutItem) (item : OutItem)
    → r ≡ response.Open giver → given ≡ of_open giver ++ item ∷ []
    → (i : OutItem) × (given ≡ (shown of_open of_shut was_placed r).given ++ i ∷ [])
gave_one of_open of_shut was_placed r giver given item is gave = (
  item,
  subst (λ r'. given ≡ (shown of_open of_shut was_placed r').given ++ item ∷ []) (sym is) gave,
)

-- a call that goes on doesn't end for want of memory
pub ready_lacks : (handling : Handling) → IsReady handling → lacks_memory handling.ending ≡ true → ⊥
ready_lacks handling ready lacks =
    true_false (lacks_memory handling.ending) lacks
    (ap (λ (way : Option Ending). lacks_memory way) ready.1)

ran_out_by : (was : Bool) (a b c d : Call) → lacks_memory a.handling.ending ≡ was
    → (lacks_memory a.handling.ending ≡ true → b ≡ a) → b.overdue ≡ a.overdue
    → (c ≡ b) ⊎ ((b.overdue ≡ false) × (c.overdue ≡ true)) → d.overdue ≡ c.overdue → RunsOut c d
    → (lacks_memory a.handling.ending ≡ false) ⊎ ((a.overdue ≡ false) × (d.overdue ≡ true))
ran_out_by false a b c d is same kept newly stays runs = inl is
ran_out_by true a b c d is same kept newly stays runs = elim newly [
  | inl unchanged ↦ elim runs.1 [
    | inl not ↦
        absurd (true_false (lacks_memory c.handling.ending)
        (ap (λ (call : Call). lacks_memory call.handling.ending) (unchanged ∙ same is) ∙ is) not)
    | inr later ↦ absurd (true_false d.overdue later.1 (stays ∙ later.0))
  ]
  | inr came ↦ inr (sym kept ∙ came.0, stays ∙ came.1)
]

-- what was in hand was handed over, the deadline was looked at, and then memory was wanting
pub ran_out_so : (a b c d : Call) → (lacks_memory a.handling.ending ≡ true → b ≡ a)
    → b.overdue ≡ a.overdue
    → (c ≡ b) ⊎ ((b.overdue ≡ false) × (c.overdue ≡ true)) → d.overdue ≡ c.overdue
    → RunsOut c d → RunsOut a d
ran_out_so a b c d same kept newly stays runs =
    (runs.0, ran_out_by (lacks_memory a.handling.ending) a b c d refl same kept newly stays runs)
