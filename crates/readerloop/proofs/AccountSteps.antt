-- What one step more leaves of the account of a call.
use Rattle.std.proofs.Common.{
  ◌≡◌,
  ◌∙◌,
  inl,
  inr,
  ℕ,
  ◌<◌,
  Bool,
  true,
  false,
  nat_eq,
  List,
  ◌∷◌,
  ◌++◌,
  Option,
  None,
  Some,
  ap,
  append-nil,
  arith,
  refl,
  subst,
  sym,
}
use Rattle.std.specs.Prelude.{◌||◌}
use Rattle.std.specs.List.{list_any}
use Rattle.std.specs.Option.{is_some}
use Rattle.std.proofs.lemmas.Bool.{ne_eqb}
use Rattle.std.proofs.lemmas.List.Folds.{list_any-append}
use Rattle.account.specs.declared.call.OutItem.{OutItem}
use Rattle.callparts.specs.declared.call_account.CallAccount.{CallAccount}
use Rattle.handlers.specs.declared.step.MethodStep.{MethodStep as Answer}
use Rattle.readerloop.specs.Calls.{Rises, is_admitted}
use Rattle.readerloop.specs.Reports.{IsAccounted, IsSettled, IsUnserved}
use Rattle.readerloop.specs.Steps.{
  Closing,
  IsRising,
  Step,
  admitted,
  admitted_by,
  closing_at,
  closing_by,
  data_at,
  earlier,
  fed_by,
  once,
  shut_by,
  shut_in,
  since,
  unless,
}
use Rattle.readerloop.proofs.CallSteps.{known-step, since-step}
use Rattle.readerloop.proofs.HeadLemmas.{head-below}
use Rattle.readerloop.proofs.KeptLemmas.{known-below}

-- ---- a half that was closed

some-is : (found : Option Closing) → is_some found ≡ true
    → (closing : Closing) × (found ≡ Some closing)
some-is None is = absurd cc
some-is (Some closing) is = (closing, refl)

closing-stays : (id : ℕ) (step : Step) (steps : List Step) → is_some (closing_by id steps) ≡ true
    → closing_by id (step ∷ steps) ≡ closing_by id steps
closing-stays id step steps over =
    let found = some-is (closing_by id steps) over in
    ap (λ (c : Option Closing). earlier c (closing_at id step)) found.1 ∙ sym found.1

fed-stays : (id : ℕ) (step : Step) (steps : List Step) → is_some (closing_by id steps) ≡ true
    → fed_by id (step ∷ steps) ≡ fed_by id steps
fed-stays id step steps over =
    let found = some-is (closing_by id steps) over in
    ap (λ (c : Option Closing). fed_by id steps ++ unless c (data_at id step))
    (closing-stays id step steps over ∙ found.1)
    ∙ append-nil (fed_by id steps)

-- ---- a call that none serves isn't admitted by a step that admits another

not-now : (found : Option ℕ) (id : ℕ) → ((other : ℕ) → found ≡ Some other → id < other)
    → list_any (nat_eq id) (once found) ≡ false
not-now None id above = refl
not-now (Some other) id above =
    ap (λ (b : Bool). b || false)
    (ne_eqb id other (λ same. let low = above other refl in omega (arith, low, same)))

still-apart : (told : List Step) (step : Step) (id : ℕ)
    → ((other : ℕ) → admitted_by step ≡ Some other → id < other) → is_admitted id told ≡ false
    → is_admitted id (step ∷ told) ≡ false
still-apart told step id above apart =
    list_any-append (nat_eq id) (admitted told) (once (admitted_by step))
    ∙ ap (λ (b : Bool). b || list_any (nat_eq id) (once (admitted_by step))) apart
    ∙ not-now (admitted_by step) id above

module _ {names : List ℕ → ℕ → Type 0} where
  unserved-step : (told : List Step) (step : Step) (account : CallAccount)
      → ((other : ℕ) → admitted_by step ≡ Some other → account.id < other)
      → IsUnserved names told account → IsUnserved names (step ∷ told) account
  unserved-step told step account above is = record {
    head = is.head;
    apart = still-apart told step account.id above is.apart;
    opened =
        (let o = is.opened in (o.0, step ∷ o.1, o.2, ap (λ (steps : List Step). step ∷ steps) o.3));
    named = is.named;
    bare = is.bare;
  }

module _ {known : ℕ → List (List ℕ) → Bool → Answer → Type 0} {names : List ℕ → ℕ → Type 0}
    {carries : ℕ → List OutItem → Type 0} where
  pub settled-step : (told : List Step) (step : Step) (account : CallAccount) → IsRising told
      → Rises told step → IsSettled known names carries told account
      → IsSettled known names carries (step ∷ told) account
  settled-step told step account rising rises is =
      let low = known-below told rising account.id is.known in
      let same = since-step told step account.id rises low in
      record {
        head = is.head;
        known = known-step told step account.id is.known;
        opened = head-below account.id step told rises low ∙ is.opened;
        named = is.named;
        over =
            subst (λ (steps : List Step). is_some (closing_by account.id steps) ≡ true) (sym same)
            (ap (λ (c : Option Closing). is_some c)
            (closing-stays account.id step (since account.id told) is.over)
            ∙ is.over);
        whole = is.whole;
        fed =
            is.fed
            ∙ sym (ap (λ (steps : List Step). fed_by account.id steps) same
            ∙ fed-stays account.id step (since account.id told) is.over);
        shut =
            is.shut
            ∙ sym (ap (λ (steps : List Step). shut_by account.id steps) same
            ∙ ap shut_in (closing-stays account.id step (since account.id told) is.over));
        stands = is.stands;
        bare = is.bare;
        carried = is.carried;
      }

  pub accounted-step : (told : List Step) (step : Step) (account : CallAccount) → IsRising told
      → Rises told step → ((other : ℕ) → admitted_by step ≡ Some other → account.id < other)
      → IsAccounted known names carries told account
      → IsAccounted known names carries (step ∷ told) account
  accounted-step told step account rising rises above (inl is) =
      inl (settled-step told step account rising rises is)
  accounted-step told step account rising rises above (inr is) =
      inr (unserved-step told step account above is)
