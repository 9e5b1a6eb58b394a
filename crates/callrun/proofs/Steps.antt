-- What each step of a call keeps, in which nothing is given.
use Rattle.std.proofs.Common.{
  ◌≡◌,
  inr,
  refl,
  sym,
  subst,
  ◌∙◌,
  ℕ,
  Bool,
  true,
  false,
  List,
  [],
  Option,
  None,
  Some,
}
use Rattle.account.specs.Accounts.{Begins}
use Rattle.account.specs.declared.call.OutItem.{OutItem}
use Rattle.account.specs.declared.call.RequestEnd.{RequestEnd}
use Rattle.callhead.specs.declared.head.CallHead.{CallHead}
use Rattle.handlers.specs.declared.reply.Reply.{Reply}
use Rattle.handlers.specs.declared.step.MethodStep.{MethodStep}
use Rattle.callrun.specs.declared.call.Call.{Call}
use Rattle.callrun.specs.declared.cause.Cause.{Cause}
use Rattle.callrun.specs.declared.cause.Cause.TheVariants.{
  Cancelled,
  DeadlineExceeded,
  MessageTooLong,
  OutOfMemory,
  UnsupportedEncoding,
  CompressedWithoutEncoding,
  BadFlag,
  CutAtEnd,
}
use Rattle.callrun.specs.declared.ending.Ending.{Ending}
use Rattle.callrun.specs.declared.ending.Ending.TheVariants as ending
use Rattle.callrun.specs.declared.handling.Handling.{Handling}
use Rattle.callrun.specs.Responses.{response}
use Rattle.callrun.specs.Outcomes.{Stood, IsBegun, IsOutcome}
use Rattle.callrun.specs.Handlings.{EndsSo, LastsLong, EndsBy}
use Rattle.callrun.specs.Sides.{IsOpenTo, ResponseView, if_placed, left, shown}
use Rattle.callrun.specs.declared.response.Response.{Response}
use Rattle.callrun.specs.declared.response.Response.TheVariants.{Open, Left, Shut, Gone}
use Rattle.callrun.specs.Runs.{IsGoing, GivesOf, RunsOn, Leaves}

pub true_false : (b : Bool) → b ≡ true → b ≡ false → ⊥
true_false true is not = cc
true_false false is not = cc

some_way : (way : Option Ending) (e : Ending) → way ≡ Some e → way ≡ None → ⊥
some_way way e is none = let both = sym is ∙ none in cc

-- ---- what was given begins the answer

pub front_of : (answer : MethodStep) (head : CallHead) (overdue : Bool) (said : Option RequestEnd)
    (done waiting : List Reply) (way : Option Ending)
    → EndsSo answer head overdue said done waiting way → Begins done answer.replies
front_of answer head overdue said done waiting None at = (waiting, at.0)
front_of answer head overdue said done waiting (Some (ending.Method status)) at = (waiting, at.0)
front_of answer head overdue said done waiting (Some (ending.Cause cause)) at = at.2

-- what a live call shows
abbrev pub live : List OutItem → ResponseView
live given = record { is_live = true; given = given; code = None }

-- as long as more may be given, what was given is an outcome without trailers
pub reached : (said : Option RequestEnd) (answer : MethodStep) (call : Call) (given : List OutItem)
    → IsGoing answer call.head call.overdue said call.handling given
    → GivesOf said answer call (live given)
reached said answer call given going = record {
  going = λ is. going;
  outcome = IsOutcome.Unended going.done
      (front_of answer call.head call.overdue said going.done call.handling.waiting
      call.handling.ending going.at) going.begun refl;
}

-- ---- a cause

-- what stood stands still
still : (cause : Cause) (head : CallHead) (overdue later : Bool) (said : Option RequestEnd)
    → (overdue ≡ true → later ≡ true) → Stood cause head overdue said → Stood cause head later said
still Cancelled head overdue later said stays stood = stood
still DeadlineExceeded head overdue later said stays stood = stays stood
still MessageTooLong head overdue later said stays stood = stood
still OutOfMemory head overdue later said stays stood = stood
still UnsupportedEncoding head overdue later said stays stood = stood
still CompressedWithoutEncoding head overdue later said stays stood = stood
still BadFlag head overdue later said stays stood = stood
still CutAtEnd head overdue later said stays stood = stood

later_outcome : (head : CallHead) (overdue later : Bool) (said : Option RequestEnd)
    (answer : MethodStep)
    (given : List OutItem) (code : Option ℕ)
    → (overdue ≡ true → later ≡ true)
    → IsOutcome head overdue said answer given code → IsOutcome head later said answer given code
later_outcome head overdue later said answer given code stays
    (IsOutcome.Whole status ends is code_is) = IsOutcome.Whole status ends is code_is
later_outcome head overdue later said answer given code stays
    (IsOutcome.CutShort cause replies stood begins is code_is) =
    IsOutcome.CutShort cause replies
    (still cause head overdue later said stays stood) begins is code_is
later_outcome head overdue later said answer given code stays
    (IsOutcome.CutShortBehindHead cause replies stood begins is code_is) =
    IsOutcome.CutShortBehindHead cause replies
    (still cause head overdue later said stays stood) begins is code_is
later_outcome head overdue later said answer given code stays
    (IsOutcome.Unended replies begins begun code_is) =
    IsOutcome.Unended replies begins begun code_is

-- the call ends by a cause: what waits is dropped
pub going_cut : (cause : Cause) (answer : MethodStep) (head : CallHead) (later : Bool)
    (next : Option RequestEnd) (new : Handling) (done : List Reply) (given : List OutItem)
    → Stood cause head later next → Begins done answer.replies → IsBegun head done given
    → new.waiting ≡ [] → new.ending ≡ Some (ending.Cause cause)
    → IsGoing answer head later next new given
going_cut cause answer head later next new done given stood begins begun none ends = record {
  done = done;
  at =
      subst (λ (way : Option Ending). EndsSo answer head later next done new.waiting way) (sym ends)
      (stood, none, begins);
  begun = begun;
  due = λ no_reply some. inr (subst (λ (way : Option Ending). LastsLong head way) (sym ends) tt);
}

cut : (cause : Cause) (said : Option RequestEnd) (answer : MethodStep) (old new : Call)
    (before : ResponseView)
    → old.head ≡ new.head → (old.overdue ≡ true → new.overdue ≡ true)
    → Stood cause new.head new.overdue said → EndsBy cause old.handling new.handling
    → GivesOf said answer old before → GivesOf said answer new before
cut cause said answer old new before same stays stood ends gives = record {
  going = λ is.
      let going = gives.going is in
      going_cut cause answer new.head new.overdue said new.handling going.done before.given stood
      (front_of answer old.head old.overdue said going.done old.handling.waiting
      old.handling.ending going.at)
      (subst (λ (h : CallHead). IsBegun h going.done before.given) same going.begun) ends.1 ends.2;
  outcome =
      later_outcome new.head old.overdue new.overdue said answer before.given before.code stays
      (subst (λ (h : CallHead). IsOutcome h old.overdue said answer before.given before.code)
      same gives.outcome);
}

pub runs_cut : (cause : Cause) (old new : Call) (before : ResponseView)
    → old.head ≡ new.head → (old.overdue ≡ true → new.overdue ≡ true)
    → ((said : Option RequestEnd) → Stood cause new.head new.overdue said)
    → EndsBy cause old.handling new.handling
    → RunsOn old before new before
runs_cut cause old new before same stays stood ends = record {
  gives = λ said answer gives.
      cut cause said answer old new before same stays (stood said) ends gives;
  state = ends.0;
  ends = λ none. absurd (some_way new.handling.ending (ending.Cause cause) ends.2 none);
}

-- ---- nothing changes, or nothing more is given

pub runs_same : (call : Call) (before : ResponseView) → RunsOn call before call before
runs_same call before =
    record { gives = λ said answer gives. gives; state = refl; ends = λ none. none }

leave : (said : Option RequestEnd) (answer : MethodStep) (call : Call) (before after : ResponseView)
    → Leaves before after → GivesOf said answer call before → GivesOf said answer call after
leave said answer call before after leaves gives = record {
  going = λ is. absurd (true_false after.is_live is leaves.0);
  outcome =
      subst (λ (code : Option ℕ).
      IsOutcome call.head call.overdue said answer after.given code) (sym leaves.2)
      (subst
      (λ (items : List OutItem). IsOutcome call.head call.overdue said answer items before.code)
      (sym leaves.1) gives.outcome);
}

pub runs_leave : (call : Call) (before after : ResponseView) → Leaves before after
    → RunsOn call before call after
runs_leave call before after leaves = record {
  gives = λ said answer gives. leave said answer call before after leaves gives;
  state = refl;
  ends = λ none. none;
}

pub runs_on : (a b c : Call) (x y z : ResponseView) → RunsOn a x b y
    → RunsOn b y c z → RunsOn a x c z
runs_on a b c x y z first second = record {
  gives = λ said answer gives. second.gives said answer (first.gives said answer gives);
  state = second.state ∙ first.state;
  ends = λ none. first.ends (second.ends none);
}

module _ {G S : Type 0} where
  -- where nothing more is given, what was given stays
  pub left_leaves : (of_open : G → List OutItem) (of_shut : S → List OutItem)
      (was_placed : S → Bool) (old new : Response G S)
      → new ≡ left old
      → Leaves (shown of_open of_shut was_placed old) (shown of_open of_shut was_placed new)
  left_leaves of_open of_shut was_placed (Open giver) new is =
      subst (λ (r : Response G S).
      Leaves (shown of_open of_shut was_placed (Open giver)) (shown of_open of_shut was_placed r))
      (sym is) (refl, refl, refl)
  left_leaves of_open of_shut was_placed (Left giver) new is =
      subst (λ (r : Response G S).
      Leaves (shown of_open of_shut was_placed (Left giver)) (shown of_open of_shut was_placed r))
      (sym is) (refl, refl, refl)
  left_leaves of_open of_shut was_placed (Shut end code) new is =
      subst (λ (r : Response G S).
      Leaves (shown of_open of_shut was_placed (Shut end code))
      (shown of_open of_shut was_placed r)) (sym is) (refl, refl, refl)
  left_leaves of_open of_shut was_placed Gone new is =
      subst (λ (r : Response G S).
      Leaves (shown of_open of_shut was_placed Gone) (shown of_open of_shut was_placed r)) (sym is)
      (refl, refl, refl)

  pub runs_left : (call : Call) (of_open : G → List OutItem) (of_shut : S → List OutItem)
      (was_placed : S → Bool) (old new : Response G S)
      → new ≡ left old
      → RunsOn call (shown of_open of_shut was_placed old) call
      (shown of_open of_shut was_placed new)
  runs_left call of_open of_shut was_placed old new is =
      runs_leave call _ _ (left_leaves of_open of_shut was_placed old new is)

  -- what an open response shows
  pub open_runs : (of_open : G → List OutItem) (of_shut : S → List OutItem) (was_placed : S → Bool)
      (old new : Call) (response : Response G S) (giver : G) (after : ResponseView)
      → response ≡ Open giver
      → RunsOn old (live (of_open giver)) new after
      → RunsOn old (shown of_open of_shut was_placed response) new after
  open_runs of_open of_shut was_placed old new response giver after is runs =
      subst (λ (r : Response G S).
      RunsOn old (shown of_open of_shut was_placed r) new after) (sym is) runs

  pub opened_to : (P : G → Type 0) (response : Response G S) (giver : G) → response ≡ Open giver
      → IsOpenTo P response → P giver
  opened_to P response giver is holds = subst (λ (r : Response G S). IsOpenTo P r) is holds

  -- what an end shows
  pub gives_at : (of_open : G → List OutItem) (of_shut : S → List OutItem) (was_placed : S → Bool)
      (said : Option RequestEnd) (answer : MethodStep) (call : Call) (response other : Response G S)
      → response ≡ other
      → GivesOf said answer call (shown of_open of_shut was_placed response)
      → GivesOf said answer call (shown of_open of_shut was_placed other)
  gives_at of_open of_shut was_placed said answer call response other same gives =
      subst (λ (r : Response G S).
      GivesOf said answer call (shown of_open of_shut was_placed r)) same gives

-- the status of trailers that were given
pub placed_outcome : (head : CallHead) (overdue : Bool) (said : Option RequestEnd)
    (answer : MethodStep)
    (given : List OutItem) (placed : Bool) (number : ℕ) (code : Option ℕ)
    → code ≡ if_placed placed number
    → IsOutcome head overdue said answer given (if_placed placed number)
    → IsOutcome head overdue said answer given code
placed_outcome head overdue said answer given placed number code same outcome =
    subst (λ (c : Option ℕ). IsOutcome head overdue said answer given c) (sym same) outcome
