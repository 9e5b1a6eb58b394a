-- What giving an item keeps.
use Rattle.std.proofs.Common.{
  ◌≡◌,
  ◌≢◌,
  ◌⊎◌,
  inl,
  inr,
  refl,
  sym,
  ap,
  subst,
  ◌∙◌,
  ℕ,
  Bool,
  true,
  false,
  if◌then◌else◌,
  List,
  [],
  ◌∷◌,
  ◌++◌,
  Option,
  None,
  Some,
  append-nil,
  append_assoc,
}
use Rattle.std.specs.Prelude.{map}
use Rattle.std.proofs.lemmas.List.{map-append}
use Rattle.account.specs.declared.call.OutItem.{OutItem}
use Rattle.account.specs.declared.call.OutItem.TheVariants.{Trailers}
use Rattle.account.specs.declared.call.RequestEnd.{RequestEnd}
use Rattle.callbox.specs.OutSides.{has_head}
use Rattle.callhead.specs.declared.head.CallHead.{CallHead}
use Rattle.lists.specs.declared.field.Field.{Field}
use Rattle.handlers.specs.declared.reply.Reply.{Reply}
use Rattle.handlers.specs.declared.status.Status.{Status}
use Rattle.handlers.specs.declared.step.MethodStep.{MethodStep}
use Rattle.callrun.specs.declared.call.Call.{Call}
use Rattle.callrun.specs.declared.ending.Ending.{Ending}
use Rattle.callrun.specs.declared.ending.Ending.TheVariants as ending
use Rattle.callrun.specs.Statuses.{status_of}
use Rattle.callrun.specs.Responses.{
  head_item,
  reply_item,
  trailing_fields,
  full_response,
  short_response,
  is_short,
  response,
}
use Rattle.callrun.specs.Outcomes.{IsBegun, IsOutcome}
use Rattle.callrun.specs.Handlings.{EndsSo, HeadIsDue, LastsLong}
use Rattle.callrun.specs.Sides.{ResponseView}
use Rattle.callrun.specs.declared.giving.GiveRefusal.{GiveRefusal}
use Rattle.callrun.specs.declared.giving.GiveRefusal.TheVariants as refused
use Rattle.callrun.specs.Giving.{Refuses}
use Rattle.callrun.specs.Runs.{
  GivesOf,
  RunsOn,
  EndsWith,
  IsEnding,
  ends_short,
  trailers_of,
  HasTrailers,
}
use Rattle.callrun.proofs.Steps.{live, reached, runs_same, true_false}

some_none : {A : Type 0} (x : A) (xs : List A) → x ∷ xs ≡ [] → ⊥
some_none x xs same = cc

push_none : {A : Type 0} (xs : List A) (x : A) → xs ++ x ∷ [] ≡ [] → ⊥
push_none [] x same = cc
push_none (y ∷ ys) x same = cc

-- behind a head stand the replies that were given
behind_head : (head : CallHead) (done : List Reply) (given : List OutItem) → IsBegun head done given
    → has_head given ≡ true → given ≡ head_item head ∷ map reply_item done
behind_head head done given (inl none) has =
    absurd (true_false (has_head given) has (ap has_head none.1))
behind_head head done given (inr is) has = is

-- before a head stands no reply
before_head : (head : CallHead) (done : List Reply) (given : List OutItem) → IsBegun head done given
    → given ≡ [] → done ≡ []
before_head head done given (inl none) empty = none.0
before_head head done given (inr is) empty =
    absurd (some_none (head_item head) (map reply_item done) (sym is ∙ empty))

one_more : (head : CallHead) (done : List Reply) (given : List OutItem) (reply : Reply)
    → given ≡ head_item head ∷ map reply_item done
    → given ++ reply_item reply ∷ [] ≡ head_item head ∷ map reply_item (done ++ reply ∷ [])
one_more head done given reply is =
    ap (λ (items : List OutItem). items ++ reply_item reply ∷ []) is
    ∙ ap (λ (items : List OutItem). head_item head ∷ items)
    (sym (map-append reply_item done (reply ∷ [])))

passed : (answer : MethodStep) (head : CallHead) (overdue : Bool) (said : Option RequestEnd)
    (done : List Reply)
    (reply : Reply) (rest waiting : List Reply) (way : Option Ending)
    → waiting ≡ reply ∷ rest → EndsSo answer head overdue said done waiting way
    → EndsSo answer head overdue said (done ++ reply ∷ []) rest way
passed answer head overdue said done reply rest waiting None waits at = (
  at.0 ∙ ap (λ (w : List Reply). done ++ w) waits ∙ sym (append_assoc done (reply ∷ []) rest),
  at.1,
)
passed answer head overdue said done reply rest waiting (Some (ending.Method status)) waits at = (
  at.0 ∙ ap (λ (w : List Reply). done ++ w) waits ∙ sym (append_assoc done (reply ∷ []) rest),
  at.1,
)
passed answer head overdue said done reply rest waiting (Some (ending.Cause cause)) waits at =
    absurd (some_none reply rest (sym waits ∙ at.1))

abbrev after_reply : Call → List Reply → Call
after_reply call rest = record call { handling = record call.handling { waiting = rest } }

give_reply : (said : Option RequestEnd) (answer : MethodStep) (call : Call) (given : List OutItem)
    (reply : Reply) (rest : List Reply)
    → has_head given ≡ true → call.handling.waiting ≡ reply ∷ rest
    → GivesOf said answer call (live given)
    → GivesOf said answer (after_reply call rest) (live (given ++ reply_item reply ∷ []))
give_reply said answer call given reply rest has waits gives =
    let going = gives.going refl in
    reached said answer (after_reply call rest) (given ++ reply_item reply ∷ []) (record {
      done = going.done ++ reply ∷ [];
      at =
          passed answer call.head call.overdue said going.done reply rest call.handling.waiting
          call.handling.ending waits going.at;
      begun =
          inr (one_more call.head going.done given reply
          (behind_head call.head going.done given going.begun has));
      due = λ none some. absurd (push_none going.done reply none);
    })

-- a reply was given
pub runs_reply : (old new : Call) (given : List OutItem) (reply : Reply) (rest : List Reply)
    → has_head given ≡ true → old.handling.waiting ≡ reply ∷ rest
    → new ≡ record old { handling = record old.handling { waiting = rest } }
    → RunsOn old (live given) new (live (given ++ reply_item reply ∷ []))
runs_reply old new given reply rest has waits same =
    subst (λ (call : Call).
    RunsOn old (live given) call (live (given ++ reply_item reply ∷ []))) (sym same)
    (record {
      gives = λ said answer gives. give_reply said answer old given reply rest has waits gives;
      state = refl;
      ends = λ none. none;
    })

give_head : (said : Option RequestEnd) (answer : MethodStep) (call : Call) (given : List OutItem)
    → given ≡ []
    → HeadIsDue call.head call.handling
    → GivesOf said answer call (live given)
    → GivesOf said answer call (live (given ++ head_item call.head ∷ []))
give_head said answer call given empty due gives =
    let going = gives.going refl in
    let none = before_head call.head going.done given going.begun empty in
    reached said answer call (given ++ head_item call.head ∷ []) (record {
      done = going.done;
      at = going.at;
      begun =
          inr (ap (λ (items : List OutItem). items ++ head_item call.head ∷ []) empty
          ∙ ap (λ (replies : List Reply). head_item call.head ∷ map reply_item replies) (sym none));
      due = λ no_reply some. due;
    })

-- the head was given
pub runs_head : (call : Call) (given : List OutItem) → given ≡ []
    → HeadIsDue call.head call.handling
    → RunsOn call (live given) call (live (given ++ head_item call.head ∷ []))
runs_head call given empty due = record {
  gives = λ said answer gives. give_head said answer call given empty due gives;
  state = refl;
  ends = λ none. none;
}

-- ---- trailers

full : (head : CallHead) (done : List Reply) (status : Status)
    → (done ≡ [] → is_short head [] status ≡ false)
    → full_response head done status ≡ response head done status
full head [] status long =
    ap (λ (b : Bool). if b then short_response head status else full_response head [] status)
    (sym (long refl))
full head (x ∷ xs) status long = refl

short : (head : CallHead) (status : Status) → is_short head [] status ≡ true
    → short_response head status ≡ response head [] status
short head status is =
    ap (λ (b : Bool). if b then short_response head status else full_response head [] status)
    (sym is)

long_method : (head : CallHead) (waiting : List Reply) (status : Status) → waiting ≡ []
    → (waiting ≢ []) ⊎ LastsLong head (Some (ending.Method status))
    → is_short head [] status ≡ false
long_method head waiting status none (inl some) = absurd (some none)
long_method head waiting status none (inr long) = long

-- the items of a whole response: behind a head or alone
ended : (head : CallHead) (done : List Reply) (given : List OutItem) (flag : Bool) (status : Status)
    (fields : List Field)
    → IsBegun head done given → has_head given ≡ flag → (flag ≡ false → given ≡ [])
    → fields ≡ trailers_of flag head status
    → (flag ≡ false → is_short head [] status ≡ true)
    → (flag ≡ true → done ≡ [] → is_short head [] status ≡ false)
    → given ++ Trailers fields ∷ [] ≡ response head done status
ended head done given true status fields begun has empty is short_is long =
    ap (λ (items : List OutItem). items ++ Trailers fields ∷ [])
    (behind_head head done given begun has)
    ∙ ap (λ (f : List Field). head_item head ∷ (map reply_item done ++ Trailers f ∷ [])) is
    ∙ full head done status (long refl)
ended head done given false status fields begun has empty is short_is long =
    ap (λ (items : List OutItem). items ++ Trailers fields ∷ []) (empty refl)
    ∙ ap (λ (f : List Field). Trailers f ∷ []) is
    ∙ short head status (short_is refl)
    ∙ ap (λ (replies : List Reply). response head replies status)
    (sym (before_head head done given begun (empty refl)))

cut_full : (head : CallHead) (done : List Reply) (given : List OutItem) (status : Status)
    (fields : List Field)
    → IsBegun head done given → has_head given ≡ true
    → fields ≡ trailing_fields head status
    → given ++ Trailers fields ∷ [] ≡ full_response head done status
cut_full head done given status fields begun has is =
    ap (λ (items : List OutItem). items ++ Trailers fields ∷ [])
    (behind_head head done given begun has)
    ∙ ap (λ (f : List Field). head_item head ∷ (map reply_item done ++ Trailers f ∷ [])) is

-- what the whole call comes to, by how it ends
whole : (said : Option RequestEnd) (answer : MethodStep) (head : CallHead) (overdue : Bool)
    (done waiting : List Reply) (way : Option Ending) (given : List OutItem) (flag : Bool)
    (fields : List Field) (code : ℕ)
    → EndsSo answer head overdue said done waiting way → IsBegun head done given
    → (done ≡ [] → given ≢ [] → (waiting ≢ []) ⊎ LastsLong head way)
    → waiting ≡ [] → HasTrailers flag head way fields code → has_head given ≡ flag
    → (flag ≡ false → given ≡ []) → (flag ≡ false → ends_short head way ≡ true)
    → IsOutcome head overdue said answer (given ++ Trailers fields ∷ []) (Some code)
whole said answer head overdue done waiting None given flag fields code at begun due none trailers
    has empty short_is = absurd trailers
whole said answer head overdue done waiting (Some (ending.Method status)) given flag fields code at
    begun due none trailers has empty short_is =
    let replies : answer.replies ≡ done =
    at.0 ∙ ap (λ (w : List Reply). done ++ w) none ∙ append-nil done in
    IsOutcome.Whole status at.1
    (ended head done given flag status fields begun has empty trailers.0 short_is
    (λ flagged no_reply.
    long_method head waiting status none
    (due no_reply (λ no_item. true_false (has_head given) (has ∙ flagged) (ap has_head no_item))))
    ∙ ap (λ (r : List Reply). response head r status) (sym replies))
    (ap (λ (n : ℕ). Some n) trailers.1)
whole said answer head overdue done waiting (Some (ending.Cause cause)) given true fields code at
    begun due none trailers has empty short_is =
    IsOutcome.CutShortBehindHead cause done at.0 at.2
    (cut_full head done given (status_of cause) fields begun has trailers.0)
    (ap (λ (n : ℕ). Some n) trailers.1)
whole said answer head overdue done waiting (Some (ending.Cause cause)) given false fields code at
    begun due none trailers has empty short_is =
    IsOutcome.CutShort cause done at.0 at.2
    (ended head done given false (status_of cause) fields begun has empty trailers.0 short_is
    (λ flagged no_reply. absurd (true_false false flagged refl)))
    (ap (λ (n : ℕ). Some n) trailers.1)

shut : (said : Option RequestEnd) (answer : MethodStep) (call : Call) (given : List OutItem)
    (after : ResponseView)
    (flag : Bool) (fields : List Field) (code : ℕ)
    → EndsWith (live given) (Trailers fields) code after
    → IsEnding call.handling → HasTrailers flag call.head call.handling.ending fields code
    → has_head given ≡ flag → (flag ≡ false → given ≡ [])
    → (flag ≡ false → ends_short call.head call.handling.ending ≡ true)
    → GivesOf said answer call (live given) → GivesOf said answer call after
shut said answer call given after flag fields code (over, inl put) ending trailers has
    empty short_is gives =
    let going = gives.going refl in
    record {
      going = λ is. absurd (true_false after.is_live is over);
      outcome =
          subst (λ (c : Option ℕ).
          IsOutcome call.head call.overdue said answer after.given c) (sym put.1)
          (subst (λ (items : List OutItem).
          IsOutcome call.head call.overdue said answer items (Some code)) (sym put.0)
          (whole said answer call.head call.overdue going.done call.handling.waiting
          call.handling.ending given flag fields code
          going.at going.begun going.due ending.0 trailers has empty short_is));
    }
shut said answer call given after flag fields code (over, inr kept) ending trailers has empty
    short_is gives = record {
      going = λ is. absurd (true_false after.is_live is over);
      outcome =
          subst (λ (c : Option ℕ).
          IsOutcome call.head call.overdue said answer after.given c) (sym kept.1)
          (subst (λ (items : List OutItem). IsOutcome call.head call.overdue said answer items None)
          (sym kept.0) gives.outcome);
    }

-- the trailers were given, or their place was taken
pub runs_shut : (call : Call) (given : List OutItem) (after : ResponseView) (flag : Bool)
    (fields : List Field) (code : ℕ)
    → EndsWith (live given) (Trailers fields) code after
    → IsEnding call.handling → HasTrailers flag call.head call.handling.ending fields code
    → has_head given ≡ flag → (flag ≡ false → given ≡ [])
    → (flag ≡ false → ends_short call.head call.handling.ending ≡ true)
    → RunsOn call (live given) call after
runs_shut call given after flag fields code ends ending trailers has empty short_is = record {
  gives = λ said answer gives.
      shut said answer call given after flag fields code ends ending trailers has
      empty short_is gives;
  state = refl;
  ends = λ none. none;
}

-- nothing was given
kept : (why : GiveRefusal) (MayMiss : Type 0) (room seen : ℕ) (given after : List OutItem)
    → Refuses why MayMiss room seen given after → given ≡ after
kept refused.Full MayMiss room seen given after is = sym is.0
kept refused.OutOfMemory MayMiss room seen given after is = sym is
kept refused.NotTaken MayMiss room seen given after is = sym is.0

pub runs_kept : (call : Call) (why : GiveRefusal) (MayMiss : Type 0) (room seen : ℕ)
    (given after : List OutItem)
    → Refuses why MayMiss room seen given after → RunsOn call (live given) call (live after)
runs_kept call why MayMiss room seen given after is =
    subst (λ (items : List OutItem). RunsOn call (live given) call (live items))
    (kept why MayMiss room seen given after is) (runs_same call (live given))

pub runs_to : (old new : Call) (before : ResponseView) (given after : List OutItem) → after ≡ given
    → RunsOn old before new (live given) → RunsOn old before new (live after)
runs_to old new before given after is runs =
    subst (λ (items : List OutItem). RunsOn old before new (live items)) (sym is) runs
