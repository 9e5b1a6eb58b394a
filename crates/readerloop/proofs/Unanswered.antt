-- A call to which no trailers were given has no status, whatever its method may answer.
use Rattle.std.proofs.Common.{
  ◌≡◌,
  ◌∙◌,
  inl,
  inr,
  ℕ,
  Bool,
  true,
  false,
  true≢false,
  List,
  [],
  ◌∷◌,
  ◌++◌,
  Option,
  None,
  ap,
  map,
  refl,
  sym,
}
use Rattle.std.specs.Prelude.{if◌then◌else◌}
use Rattle.account.specs.declared.call.OutItem.{OutItem}
use Rattle.account.specs.declared.call.OutItem.TheVariants.{Head, Left, Message, Trailers}
use Rattle.account.specs.declared.call.RequestEnd.{RequestEnd}
use Rattle.callbox.specs.OutSides.{has_trailers}
use Rattle.callhead.specs.declared.head.CallHead.{CallHead}
use Rattle.callparts.specs.Workers.{IsAnswered, IsGivenAs}
use Rattle.callrun.specs.Outcomes.{IsOutcome}
use Rattle.callrun.specs.Responses.{
  full_response,
  is_short,
  reply_item,
  response,
  short_response,
  trailing_fields,
}
use Rattle.handlers.specs.declared.reply.Reply.{Reply}
use Rattle.handlers.specs.declared.status.Status.{Status}
use Rattle.handlers.specs.declared.step.MethodStep.{MethodStep as Answer}

trailers-there : (items more : List OutItem) → has_trailers items ≡ true
    → has_trailers (items ++ more) ≡ true
trailers-there [] more is = absurd cc
trailers-there (Head fields ∷ items) more is = trailers-there items more is
trailers-there (Message bytes ∷ items) more is = trailers-there items more is
trailers-there (Trailers fields ∷ items) more is = refl
trailers-there (Left ∷ items) more is = trailers-there items more is

behind-replies : (replies : List Reply) (items : List OutItem) → has_trailers items ≡ true
    → has_trailers (map reply_item replies ++ items) ≡ true
behind-replies [] items is = is
behind-replies (reply ∷ replies) items is = behind-replies replies items is

full-trailers : (head : CallHead) (replies : List Reply) (status : Status)
    → has_trailers (full_response head replies status) ≡ true
full-trailers head replies status =
    behind-replies replies (Trailers (trailing_fields head status) ∷ []) refl

response-trailers : (head : CallHead) (replies : List Reply) (status : Status)
    → has_trailers (response head replies status) ≡ true
response-trailers head replies status = by (is_short head replies status)
  where
    by : (b : Bool)
        → has_trailers (if b then short_response head status else full_response head replies status)
        ≡ true
    by true = refl
    by false = full-trailers head replies status

-- nor have the items of an outcome, where what was given has none
given-trailers : (items given : List OutItem) → IsGivenAs items given → has_trailers items ≡ true
    → has_trailers given ≡ true
given-trailers items given (inl is) has = ap (λ (found : List OutItem). has_trailers found) is ∙ has
given-trailers items given (inr is) has =
    ap (λ (found : List OutItem). has_trailers found) is ∙ trailers-there items (Left ∷ []) has

not-both : {A : Type 0} (b : Bool) → b ≡ true → b ≡ false → A
not-both b is not = absurd (true≢false (sym is ∙ not))

bare-outcome : (head : CallHead) (overdue : Bool) (said : Option RequestEnd) (answer : Answer)
    (items given : List OutItem) (status : Option ℕ)
    → IsGivenAs items given → has_trailers given ≡ false
    → IsOutcome head overdue said answer items status
    → IsOutcome head overdue said answer items None
bare-outcome head overdue said answer items given status ends bare
    (IsOutcome.Whole told is_last is same) =
    not-both (has_trailers given) (given-trailers items given ends
    (ap (λ (found : List OutItem). has_trailers found) is
    ∙ response-trailers head answer.replies told)) bare
bare-outcome head overdue said answer items given status ends bare
    (IsOutcome.CutShort cause replies stood begins is same) =
    not-both (has_trailers given) (given-trailers items given ends
    (ap (λ (found : List OutItem). has_trailers found) is ∙ response-trailers head replies _)) bare
bare-outcome head overdue said answer items given status ends bare
    (IsOutcome.CutShortBehindHead cause replies stood begins is same) =
    not-both (has_trailers given) (given-trailers items given ends
    (ap (λ (found : List OutItem). has_trailers found) is ∙ full-trailers head replies _)) bare
bare-outcome head overdue said answer items given status ends bare
    (IsOutcome.Unended replies begins begun none) = IsOutcome.Unended replies begins begun refl

-- the status of a call to which this was given
abbrev pub told_status : List OutItem → Option ℕ → Option ℕ
told_status given status = if has_trailers given then status else None

pub answered-told : (answers : List (List ℕ) → Bool → Answer → Type 0) (head : CallHead)
    (messages : List (List ℕ)) (said : Option RequestEnd) (given : List OutItem) (status : Option ℕ)
    → IsAnswered answers head messages said given status
    → IsAnswered answers head messages said given (told_status given status)
answered-told answers head messages said given status is = by (has_trailers given) refl
  where
    by : (b : Bool) → has_trailers given ≡ b
        → IsAnswered answers head messages said given (if b then status else None)
    by true has = is
    by false bare = record {
      overdue = is.overdue;
      timed = is.timed;
      items = is.items;
      outcome = λ answer known.
          bare-outcome head is.overdue said answer is.items given status is.ends bare
          (is.outcome answer known);
      ends = is.ends;
    }

pub told-none : (given : List OutItem) (status : Option ℕ) → has_trailers given ≡ false
    → told_status given status ≡ None
told-none given status bare = ap (λ (b : Bool). if b then status else None) bare
