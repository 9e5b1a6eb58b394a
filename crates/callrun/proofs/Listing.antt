-- Calls that are run, one after another.
use Rattle.std.proofs.Common.{
  ◌≡◌,
  ◌≤◌,
  ◌⊎◌,
  inl,
  inr,
  arith,
  sym,
  subst,
  ◌∙◌,
  refl,
  ap,
  ℕ,
  Bool,
  true,
  false,
  List,
  [],
  ◌∷◌,
  ◌++◌,
  Option,
  None,
  Some,
  All,
  length,
  drop,
  length-drop,
  append_assoc,
  append-nil,
}
use Rattle.std.specs.Prelude.{IfSome, IsSomeAnd}
use Rattle.std.specs.List.{AllZip}
use Rattle.std.proofs.lemmas.List.{nil_from_length}
use Rattle.std.proofs.lemmas.List.Elements.{All-head, All-rest, All-same}
use Rattle.account.specs.declared.call.OutItem.{OutItem}
use Rattle.account.specs.declared.call.RequestEnd.{RequestEnd}
use Rattle.callbox.specs.InSides.{TakesMessages}
use Rattle.callbox.specs.declared.piece.InPiece.{InPiece}
use Rattle.callbox.specs.declared.taker.Progress.{Progress}
use Rattle.callbox.specs.declared.taker.Taken.{Taken}
use Rattle.callhead.specs.declared.head.CallHead.{CallHead}
use Rattle.handlers.specs.declared.state.MethodState.{MethodState}
use Rattle.handlers.specs.declared.step.MethodStep.{MethodStep}
use Rattle.callrun.specs.declared.call.Call.{Call}
use Rattle.callrun.specs.declared.response.Response.{Response}
use Rattle.callrun.specs.declared.response.Response.TheVariants as response
use Rattle.callrun.specs.Listings.{IsUntouched, WasRun}
use Rattle.callrun.specs.Outcomes.{IsOutcome}
use Rattle.callrun.specs.Runs.{GivesOf, HasCome, HasRun, deadline_of}
use Rattle.callrun.specs.Sides.{is_open, shown}
use Rattle.callrun.proofs.Ahead.{with_none}
use Rattle.callrun.proofs.Steps.{true_false}

-- nothing follows from itself
pub no_more : {A : Type 0} (found : Option A) (T : List (List ℕ) → Type 0)
    (C : A → List (List ℕ) → Type 0)
    → IfSome found (λ m.
    (ms : List (List ℕ)) → T ms → C m ms
    → (more : List (List ℕ)) × T (ms ++ more) × C m (ms ++ more))
no_more None T C = tt
no_more (Some m) T C = λ ms took come.
    ([], subst T (sym (append-nil ms)) took, subst (C m) (sym (append-nil ms)) come)

-- what follows one after another follows
pub then_more : {A : Type 0} (found found_then : Option A)
    (Had Has HasBoth : List (List ℕ) → Type 0)
    (CameBy Comes ComesBoth : A → List (List ℕ) → Type 0)
    → found_then ≡ found
    → IfSome found (λ m.
    (ms : List (List ℕ)) → Had ms → CameBy m ms
    → (more : List (List ℕ)) × Has (ms ++ more) × Comes m (ms ++ more))
    → IfSome found_then (λ m.
    (ms : List (List ℕ)) → Has ms → Comes m ms
    → (more : List (List ℕ)) × HasBoth (ms ++ more) × ComesBoth m (ms ++ more))
    → IfSome found (λ m.
    (ms : List (List ℕ)) → Had ms → CameBy m ms
    → (more : List (List ℕ)) × HasBoth (ms ++ more) × ComesBoth m (ms ++ more))
then_more None found_then Had Has HasBoth CameBy Comes ComesBoth same first second = tt
then_more {A} (Some m) found_then Had Has HasBoth CameBy Comes ComesBoth same first
    second = λ ms took come.
    let one = first ms took come in
    let follows =
    subst (λ (found : Option A).
    IfSome found (λ m.
    (ms : List (List ℕ)) → Has ms → Comes m ms
    → (more : List (List ℕ)) × HasBoth (ms ++ more) × ComesBoth m (ms ++ more))) same second in
    let two = follows (ms ++ one.0) one.1 one.2 in (
      one.0 ++ two.0,
      subst HasBoth (append_assoc ms one.0 two.0) two.1,
      subst (ComesBoth m) (append_assoc ms one.0 two.0) two.2,
    )

live_is_open : {G S : Type 0} (of_open : G → List OutItem) (of_shut : S → List OutItem)
    (was_placed : S → Bool) (r : Response G S)
    → (shown of_open of_shut was_placed r).is_live ≡ is_open r
live_is_open of_open of_shut was_placed (response.Open giver) = refl
live_is_open of_open of_shut was_placed (response.Left giver) = refl
live_is_open of_open of_shut was_placed (response.Shut end code) = refl
live_is_open of_open of_shut was_placed response.Gone = refl

module _ {answers : List (List ℕ) → Bool → MethodStep → Type 0}
    {stands : MethodState → List (List ℕ) → MethodStep → Type 0} where
  -- of a call that gives nothing more nothing is in hand
  pub closed_run : {G S : Type 0} (of_open : G → List OutItem) (of_shut : S → List OutItem)
      (was_placed : S → Bool) (r : Response G S)
      (said : Option RequestEnd) (messages : List (List ℕ)) (call : Call) (hand : Option Taken)
      → is_open r ≡ false
      → HasCome answers stands said messages call hand (shown of_open of_shut was_placed r)
      → HasRun answers stands said messages call (shown of_open of_shut was_placed r)
  closed_run of_open of_shut was_placed r said messages call None closed has = has.come
  closed_run of_open of_shut was_placed r said messages call (Some taken) closed has =
      absurd
      (true_false (is_open r) (sym (live_is_open of_open of_shut was_placed r) ∙ has.come.5) closed)

-- one more at the end of both lists
pub zip_more : {A B : Type 0} (R : A → B → Type 0) (xs : List A) (ys : List B) (x : A) (y : B)
    → AllZip R xs ys → R x y → AllZip R (xs ++ x ∷ []) (ys ++ y ∷ [])
zip_more R [] [] x y all one = (one, tt)
zip_more R [] (b ∷ ys) x y all one = absurd all
zip_more R (a ∷ xs) [] x y all one = absurd all
zip_more R (a ∷ xs) (b ∷ ys) x y all one = (all.0, zip_more R xs ys x y all.1 one)

pub zip_weaken : {A B : Type 0} (R Q : A → B → Type 0) (xs : List A) (ys : List B)
    → ((x : A) (y : B) → R x y → Q x y) → AllZip R xs ys → AllZip Q xs ys
zip_weaken R Q [] [] follows all = all
zip_weaken R Q [] (b ∷ ys) follows all = absurd all
zip_weaken R Q (a ∷ xs) [] follows all = absurd all
zip_weaken R Q (a ∷ xs) (b ∷ ys) follows all =
    (follows a b all.0, zip_weaken R Q xs ys follows all.1)

-- ---- one call

some_later : (deadline : Option ℕ) (latest later : ℕ) → latest ≤ later
    → IsSomeAnd deadline (λ moment. moment ≤ latest) → IsSomeAnd deadline (λ moment. moment ≤ later)
some_later None latest later after come = come
some_later (Some moment) latest later after come = omega arith

-- what was so is so at a later moment
pub still_run : (answers : List (List ℕ) → Bool → MethodStep → Type 0) (head : CallHead)
    (opened latest later : ℕ) (got : List InPiece) (progress : Progress)
    (given : List OutItem) (code : Option ℕ)
    → latest ≤ later → WasRun answers head opened latest got progress given code
    → WasRun answers head opened later got progress given code
still_run answers head opened latest later got progress given code after run = record {
  messages = run.messages;
  overdue = run.overdue;
  took = run.took;
  late = λ is. some_later (deadline_of head.timeout opened) latest later after (run.late is);
  outcome = run.outcome;
}

pub overdue_so : (start before after : Bool) (deadline due : Option ℕ) (now latest later : ℕ)
    → deadline ≡ due → latest ≤ later → now ≤ later
    → (before ≡ true → (start ≡ true) ⊎ IsSomeAnd due (λ moment. moment ≤ latest))
    → (after ≡ true → (before ≡ true) ⊎ IsSomeAnd deadline (λ moment. moment ≤ now))
    → after ≡ true → (start ≡ true) ⊎ IsSomeAnd due (λ moment. moment ≤ later)
overdue_so start before after deadline due now latest later same stays told first second is =
    elim (second is) [
      | inl was ↦ elim (first was)
          [ inl early ↦ inl early | inr come ↦ inr (some_later due latest later stays come) ]
      | inr come ↦
          inr (some_later due now later told
          (subst (λ (d : Option ℕ). IsSomeAnd d (λ moment. moment ≤ now)) same come))
    ]

pub late_so : (before after last : Bool) (deadline due : Option ℕ) (latest : ℕ) → before ≡ false
    → deadline ≡ due → last ≡ after
    → (after ≡ true → (before ≡ true) ⊎ IsSomeAnd deadline (λ moment. moment ≤ latest))
    → last ≡ true → IsSomeAnd due (λ moment. moment ≤ latest)
late_so before after last deadline due latest early same kept late is =
    subst (λ (d : Option ℕ). IsSomeAnd d (λ moment. moment ≤ latest)) same
    (elim (late (sym kept ∙ is))
    [ inl was ↦ absurd (true_false before was early) | inr come ↦ come ])

-- from a call of which nothing was taken yet to its ends
pub run_whole : {A G S : Type 0} (found found_then found_last : Option A)
    (answers : A → List (List ℕ) → Bool → MethodStep → Type 0)
    (stands : A → MethodState → List (List ℕ) → MethodStep → Type 0)
    (of_open : G → List OutItem) (of_shut : S → List OutItem) (was_placed : S → Bool)
    (got got_then got_last : List InPiece) (first then last : Progress) (put : List OutItem)
    (call call_then call_last : Call) (hand hand_then hand_last : Option Taken)
    (r r_then r_last : Response G S)
    (said : Option RequestEnd) (head : CallHead) (opened latest : ℕ)
    (given : List OutItem) (code : Option ℕ)
    → found_then ≡ found → found_last ≡ found → got_last ≡ got_then → last ≡ then
    → IsUntouched got first put → said ≡ None → hand ≡ None → is_open r_last ≡ false
    → call_last.head ≡ head
    → (call_last.overdue ≡ true
    → IsSomeAnd (deadline_of head.timeout opened) (λ deadline. deadline ≤ latest))
    → ((answer : MethodStep)
    → GivesOf last.told answer call_last (shown of_open of_shut was_placed r_last)
    → IsOutcome call_last.head call_last.overdue last.told answer given code)
    → IfSome found (λ m.
    said ≡ None → put ≡ []
    → HasRun (answers m) (stands m) None [] call (shown of_open of_shut was_placed r))
    → IfSome found_then (λ m.
    (ms : List (List ℕ)) → TakesMessages got first ms
    → HasCome (answers m) (stands m) first.told ms call hand (shown of_open of_shut was_placed r)
    → (more : List (List ℕ)) × TakesMessages got_then
    then (ms ++ more)
    × HasCome (answers m) (stands m) then.told (ms ++ more) call_then hand_then
    (shown of_open of_shut was_placed r_then))
    → IfSome found_last (λ m.
    (ms : List (List ℕ))
    → HasCome (answers m) (stands m) then.told ms call_then hand_then
    (shown of_open of_shut was_placed r_then)
    → HasCome (answers m) (stands m) last.told ms call_last hand_last
    (shown of_open of_shut was_placed r_last))
    → IfSome found (λ m. WasRun (answers m) head opened latest got_last last given code)
run_whole None found_then found_last answers stands of_open of_shut was_placed got got_then got_last
    first then last put call call_then call_last hand hand_then hand_last r r_then r_last
    said head opened latest given code same_then same_last same_got same_progress untouched untold
    empty closed same_head late ends fresh turned left = tt
run_whole {A} (Some m) found_then found_last answers stands of_open of_shut was_placed got got_then
    got_last first then last put call call_then call_last hand hand_then hand_last r r_then r_last
    said head opened latest given code same_then same_last same_got same_progress untouched untold
    empty closed same_head late ends fresh turned left =
    let begun =
    subst (λ (t : Option RequestEnd).
    HasRun (answers m) (stands m) t [] call (shown of_open of_shut was_placed r)) (sym untouched.1)
    (fresh untold untouched.2) in
    let came = with_none first.told [] call hand (shown of_open of_shut was_placed r) empty begun in
    let turns =
    subst (λ (found : Option A).
    IfSome found (λ m.
    (ms : List (List ℕ)) → TakesMessages got first ms
    → HasCome (answers m) (stands m) first.told ms call hand (shown of_open of_shut was_placed r)
    → (more : List (List ℕ)) × TakesMessages got_then
    then (ms ++ more)
    × HasCome (answers m) (stands m) then.told (ms ++ more) call_then hand_then
    (shown of_open of_shut was_placed r_then))) same_then turned in
    let leaves =
    subst (λ (found : Option A).
    IfSome found (λ m.
    (ms : List (List ℕ))
    → HasCome (answers m) (stands m) then.told ms call_then hand_then
    (shown of_open of_shut was_placed r_then)
    → HasCome (answers m) (stands m) last.told ms call_last hand_last
    (shown of_open of_shut was_placed r_last))) same_last left in
    let all = turns [] untouched.0 came in
    let run =
    closed_run of_open of_shut was_placed r_last last.told ([] ++ all.0) call_last hand_last closed
    (leaves ([] ++ all.0) all.2) in
    record {
      messages = [] ++ all.0;
      overdue = call_last.overdue;
      took =
          subst (λ (items : List InPiece). TakesMessages items last ([] ++ all.0)) (sym same_got)
          (subst (λ (p : Progress). TakesMessages got_then p ([] ++ all.0))
          (sym same_progress) all.1);
      late = late;
      outcome = λ answer is.
          subst (λ (h : CallHead). IsOutcome h call_last.overdue last.told answer given code)
          same_head (ends answer (run.each answer is));
    }

-- ---- one call after another

-- the first of all calls were run, and the others wait
abbrev pub RunsUpTo : {A B : Type 0} → (A → B → Type 0) → List A → List A → List B → Type 0
RunsUpTo {A} {B} R all waiting ended =
    (done : List A) × (all ≡ done ++ waiting) × AllZip R done ended

pub one_more : {A B : Type 0} (R Q : A → B → Type 0) (all waiting rest : List A)
    (ended later : List B) (x : A) (y : B)
    → ((a : A) (b : B) → R a b → Q a b)
    → waiting ≡ x ∷ rest → later ≡ ended ++ y ∷ [] → RunsUpTo R all waiting ended → Q x y
    → RunsUpTo Q all rest later
one_more {A} {B} R Q all waiting rest ended later x y follows next pushed (done, whole, ran) one = (
  done ++ x ∷ [],
  whole ∙ ap (λ (w : List A). done ++ w) next ∙ sym (append_assoc done (x ∷ []) rest),
  subst (λ (ys : List B). AllZip Q (done ++ x ∷ []) ys) (sym pushed)
      (zip_more Q done ended x y (zip_weaken R Q done ended follows ran) one),
)

pub none_more : {A B : Type 0} (R Q : A → B → Type 0) (all waiting : List A) (ended : List B)
    → ((a : A) (b : B) → R a b → Q a b)
    → waiting ≡ [] → RunsUpTo R all waiting ended → AllZip Q all ended
none_more {A} {B} R Q all waiting ended follows none (done, whole, ran) =
    subst (λ (xs : List A). AllZip Q xs ended)
    (sym (whole ∙ ap (λ (w : List A). done ++ w) none ∙ append-nil done))
    (zip_weaken R Q done ended follows ran)

pub none_yet : {A B : Type 0} (R : A → B → Type 0) (all : List A) (ended : List B) → ended ≡ []
    → RunsUpTo R all all ended
none_yet {A} {B} R all ended none =
    ([], refl, subst (λ (ys : List B). AllZip R [] ys) (sym none) tt)

-- ---- the calls that wait

pub first_of : {X : Type 0} (x : X) (rest waiting : List X) (P : X → Type 0) → waiting ≡ x ∷ rest
    → All P waiting → P x
first_of x rest waiting P next all =
    All-head P x rest (All-same P (x ∷ rest) waiting (sym next) all)

pub rest_of : {X : Type 0} (x : X) (rest waiting : List X) (P : X → Type 0) → waiting ≡ x ∷ rest
    → All P waiting → All P rest
rest_of x rest waiting P next all = All-rest P x rest waiting next all

pub none_left : {X : Type 0} (waiting rest : List X) → waiting ≡ rest
    → rest ≡ drop 1 waiting → waiting ≡ []
none_left waiting rest same less =
    let long = ap length (same ∙ less) in
    nil_from_length waiting (omega (arith, length-drop 1 waiting, long))
