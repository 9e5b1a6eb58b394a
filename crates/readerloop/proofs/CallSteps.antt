-- What one step more makes of a call of a connection.
use Rattle.std.proofs.Common.{
  ◌≡◌,
  ◌∙◌,
  ℕ,
  ◌<◌,
  ◌≤◌,
  Bool,
  false,
  List,
  [],
  ◌∷◌,
  ◌++◌,
  Option,
  None,
  Some,
  ap,
  arith,
  eq-eqb,
  refl,
  subst,
  sym,
}
use Rattle.std.specs.Prelude.{◌||◌, true, nat_eq, IfSome, MatchOption, unwrap_or}
use Rattle.std.specs.List.{list_any}
use Rattle.std.proofs.lemmas.Bool.Decides.{nat_tests}
use Rattle.std.proofs.lemmas.List.Elements.{All-nil}
use Rattle.std.proofs.lemmas.List.Folds.{list_any-append}
use Rattle.account.specs.declared.call.OutItem.{OutItem}
use Rattle.callhead.specs.declared.head.CallHead.{CallHead}
use Rattle.callparts.specs.declared.job.FinishedJob.{FinishedJob}
use Rattle.callparts.specs.declared.order.ReturningCall.{ReturningCall}
use Rattle.callparts.specs.declared.register.CallNumber.{CallNumber}
use Rattle.callparts.specs.declared.register.Naming.{Ghosts}
use Rattle.connbook.specs.declared.answers.Receipt.TheVariants.{Feed}
use Rattle.handlers.specs.declared.step.MethodStep.{MethodStep as Answer}
use Rattle.session.specs.declared.event.InEvent.TheVariants as events
use Rattle.readerloop.specs.declared.call.Call.{Call}
use Rattle.readerloop.specs.Calls.{
  HasAnswered,
  HasReturned,
  IsCall,
  IsCallOf,
  Passes,
  Rises,
  is_admitted,
}
use Rattle.readerloop.specs.Halves.{HalfView, IsHalf, grown, shown}
use Rattle.readerloop.specs.Kept.{IsFresh}
use Rattle.readerloop.specs.Steps.{
  Admitted,
  Received,
  Step,
  Told,
  admitted,
  admitted_by,
  is_of,
  last_of,
  once,
  since,
}
use Rattle.readerloop.proofs.HalfLemmas.{fed-half, still-half}
use Rattle.readerloop.proofs.HeadLemmas.{head-below, head-opens}

-- ---- an id that was admitted before

or_true : (b : Bool) → (b || true) ≡ true
or_true true = refl
or_true false = refl

pub other-of : (found : Option ℕ) (id last : ℕ) → MatchOption found (Unit {0}) (λ now. last < now)
    → id ≤ last → is_of id found ≡ false
other-of None id last rises low = refl
other-of (Some now) id last rises low = grind (arith, nat_tests)

pub more-than : (found : Option ℕ) (id last : ℕ) → MatchOption found (Unit {0}) (λ now. last < now)
    → id ≤ last → id ≤ unwrap_or found last
more-than None id last rises low = low
more-than (Some now) id last rises low = omega (arith, rises, low)

pub known-step : (told : List Step) (step : Step) (id : ℕ) → is_admitted id told ≡ true
    → is_admitted id (step ∷ told) ≡ true
known-step told step id known =
    list_any-append (nat_eq id) (admitted told) (once (admitted_by step))
    ∙ ap (λ (b : Bool). b || list_any (nat_eq id) (once (admitted_by step))) known

known-last : (ids : List ℕ) (id : ℕ) → list_any (nat_eq id) (ids ++ id ∷ []) ≡ true
known-last ids id =
    list_any-append (nat_eq id) ids (id ∷ [])
    ∙ ap (λ (b : Bool). list_any (nat_eq id) ids || (b || false)) (eq-eqb id id refl)
    ∙ or_true (list_any (nat_eq id) ids)

pub since-step : (told : List Step) (step : Step) (id : ℕ) → Rises told step → id ≤ last_of told
    → since id (step ∷ told) ≡ step ∷ since id told
since-step told step id rises low =
    rw (other-of (admitted_by step) id (last_of told) rises low) refl

-- the step that admits a call
abbrev pub opening : ℕ → CallHead → Step
opening id head = Told (events.Open id head) Admitted

module _ {J : Type 0} {book : Ghosts J} {known : ℕ → List (List ℕ) → Bool → Answer → Type 0}
    {names : List ℕ → ℕ → Type 0} {carries : ℕ → List OutItem → Type 0} where
  -- a call of whose half this step makes something else
  pub call-step : (told : List Step) (step : Step) (id method : ℕ) (number : CallNumber J book)
      (old new : HalfView) (finished : Option (FinishedJob J book))
      (returning : Option (ReturningCall J book))
      → Rises told step
      → (IsHalf id (since id told) old → IsHalf id (step ∷ since id told) new)
      → IsCallOf known names carries told id method number old finished returning
      → IsCallOf known names carries (step ∷ told) id method number new finished returning
  call-step told step id method number old new finished returning rises changes call = record {
    request = call.request;
    asked = call.asked;
    same_id = call.same_id;
    same_method = call.same_method;
    known_id = known-step told step id call.known_id;
    within = more-than (admitted_by step) id (last_of told) rises call.within;
    opened = head-below id step told rises call.within ∙ call.opened;
    named = call.named;
    fed =
        subst (λ (steps : List Step). IsHalf id steps new)
        (sym (since-step told step id rises call.within)) (changes call.fed);
    answered = call.answered;
    returned = call.returned;
  }

  -- one that it passes by
  pub call-passes : (told : List Step) (step : Step) (call : Call J book) → Rises told step
      → Passes call.id step → IsCall known names carries told call
      → IsCall known names carries (step ∷ told) call
  call-passes told step call rises passes is =
      call-step told step call.id call.method call.number (shown call.half) (shown call.half)
      call.finished call.returning rises
      (λ half.
      still-half call.id (since call.id told) step (shown call.half) passes.closes
      passes.feeds half) is

  -- one of which something came back
  pub call-back : (told : List Step) (id method : ℕ) (number : CallNumber J book) (half : HalfView)
      (finished new_finished : Option (FinishedJob J book))
      (returning new_returning : Option (ReturningCall J book))
      → IfSome new_finished (HasAnswered known)
      → IfSome new_returning (λ (r : ReturningCall J book). HasReturned carries r.sending.value)
      → IsCallOf known names carries told id method number half finished returning
      → IsCallOf known names carries told id method number half new_finished new_returning
  call-back told id method number half finished new_finished returning new_returning answered
      returned call = record {
        request = call.request;
        asked = call.asked;
        same_id = call.same_id;
        same_method = call.same_method;
        known_id = call.known_id;
        within = call.within;
        opened = call.opened;
        named = call.named;
        fed = call.fed;
        answered = answered;
        returned = returned;
      }

  -- one that begins
  pub call-opens : (told : List Step) (head : CallHead) (call : Call J book)
      → IsFresh names head call → IsCall known names carries (opening call.id head ∷ told) call
  call-opens told head call fresh = record {
    request = fresh.request;
    asked = fresh.asked;
    same_id = fresh.same_id;
    same_method = fresh.same_method;
    known_id = known-last (admitted told) call.id;
    within = omega arith;
    opened = head-opens call.id head told ∙ ap (λ (h : CallHead). Some h) (sym fresh.same_head);
    named = subst (λ (h : CallHead). names h.path call.method) (sym fresh.same_head) fresh.named;
    fed =
        subst (λ (half : HalfView).
        IsHalf call.id (since call.id (opening call.id head ∷ told)) half) (sym fresh.half)
        (rw (eq-eqb call.id call.id refl)
        (record { there = refl; fed = refl; closing = refl; full = All-nil _ }));
    answered =
        subst (λ (found : Option (FinishedJob J book)). IfSome found (HasAnswered known))
        (sym fresh.answered) tt;
    returned =
        subst (λ (found : Option (ReturningCall J book)).
        IfSome found (λ (r : ReturningCall J book). HasReturned carries r.sending.value))
        (sym fresh.returned) tt;
  }

  -- a piece is fed to it
  pub call-fed : (told : List Step) (counted : ℕ) (piece : List ℕ) (id method : ℕ)
      (number : CallNumber J book) (old new : HalfView) (finished : Option (FinishedJob J book))
      (returning : Option (ReturningCall J book))
      → new.there ≡ old.there → new.closing ≡ old.closing
      → (old.there ≡ true → new.items ≡ grown piece old.closing old.items)
      → IsCallOf known names carries told id method number old finished returning
      → IsCallOf known names carries (Told (events.Data id piece counted) (Received Feed) ∷ told) id
      method number new finished returning
  call-fed told counted piece id method number old new finished returning there closing taken is =
      call-step told (Told (events.Data id piece counted) (Received Feed)) id method number old new
      finished returning tt
      (λ half. fed-half id counted (since id told) piece old new there closing taken half) is

  -- its half is as it was
  pub call-same : (told : List Step) (id method : ℕ) (number : CallNumber J book)
      (old new : HalfView)
      (finished : Option (FinishedJob J book)) (returning : Option (ReturningCall J book))
      → new ≡ old
      → IsCallOf known names carries told id method number old finished returning
      → IsCallOf known names carries told id method number new finished returning
  call-same told id method number old new finished returning same is =
      subst (λ (half : HalfView).
      IsCallOf known names carries told id method number half finished returning) (sym same) is
