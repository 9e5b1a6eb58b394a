-- What the steps of a method that takes one message add to its answer.
use Rattle.std.proofs.Common.{
  ◌≡◌,
  ◌≢◌,
  ℕ,
  true,
  false,
  List,
  [],
  ◌∷◌,
  ◌++◌,
  Option,
  Some,
  None,
  IsSome,
  Result,
  Ok,
  Err,
  IfOk,
  OnOk,
  refl,
  sym,
  ap,
  subst,
}
use Rattle.handlers.specs.declared.status.Status.{Status}
use Rattle.handlers.specs.declared.status.Refusal.TheVariants.{WrongNumber}
use Rattle.handlers.specs.declared.reply.Reply.{Reply}
use Rattle.handlers.specs.declared.step.MethodStep.{MethodStep}
use Rattle.handlers.specs.Statuses.{status_of}
use Rattle.handlers.specs.Steps.{nothing, ending, done, joined, first_status}
use Rattle.handlers.specs.Answers.{AnswersSingle, single_answer, StandsEnded}

pub along_both : {A B : Type 0} (P : A → B → Type 0) (a other : A) (b more : B) → a ≡ other
    → b ≡ more → P other more → P a b
along_both P a other b more first second holds =
    subst (λ x. P x b) (sym first) (subst (λ y. P other y) (sym second) holds)

pub pushed : (messages : List (List ℕ)) (message : List ℕ) → messages ++ message ∷ [] ≢ []
pushed [] message = λ e. cc
pushed (first ∷ others) message = λ e. cc

none_is_not : IsSome {T = Status} None → ⊥
none_is_not is = cc

pub some_stays : (status : Option Status) → IsSome status → IsSome (first_status status None)
some_stays None is = absurd (none_is_not is)
some_stays (Some status) is = is

-- what holds of an Ok's value and beside it
pub with_ok : {A E : Type 0} (result : Result A E) (P : A → Type 0) (N : Type 0) (R : A → Type 0)
    → IfOk result P → OnOk result N → ((a : A) → P a → N → R a) → IfOk result R
with_ok (Ok a) P N R holds beside gives = gives a holds beside
with_ok (Err e) P N R holds beside gives = holds

-- ---- the first message

pub first_asks : (judged : List ℕ → Result (List Reply) Status → Type 0) (messages : List (List ℕ))
    (given : MethodStep) (message : List ℕ) (replies : List Reply)
    → (messages ≡ []) × (given ≡ nothing) → judged message (Ok replies)
    → AnswersSingle judged (messages ++ message ∷ []) false (joined given nothing)
first_asks judged messages given message replies fresh is =
    along_both (λ ms g. AnswersSingle judged (ms ++ message ∷ []) false (joined g nothing)) messages
    [] given nothing fresh.0 fresh.1 (Ok replies, is, refl)

pub first_ends : (judged : List ℕ → Result (List Reply) Status → Type 0) (messages : List (List ℕ))
    (given : MethodStep) (message : List ℕ) (status : Status)
    → (messages ≡ []) × (given ≡ nothing) → judged message (Err status)
    → StandsEnded (AnswersSingle judged) (messages ++ message ∷ [])
    (joined given (ending [] status))
first_ends judged messages given message status fresh is =
    along_both
    (λ ms g. StandsEnded (AnswersSingle judged) (ms ++ message ∷ []) (joined g (ending [] status)))
    messages [] given nothing fresh.0 fresh.1 (pushed [] message, (Err status, is, refl), refl)

-- ---- a second one

pub second_ends : (judged : List ℕ → Result (List Reply) Status → Type 0) (messages : List (List ℕ))
    (given : MethodStep) (first : List ℕ) (message : List ℕ) (replies : List Reply)
    → messages ≡ first ∷ [] → given ≡ nothing → judged first (Ok replies)
    → StandsEnded (AnswersSingle judged) (messages ++ message ∷ [])
    (joined given (ending [] (status_of WrongNumber)))
second_ends judged messages given first message replies one none is =
    along_both (λ ms g.
    StandsEnded (AnswersSingle judged) (ms ++ message ∷ [])
    (joined g (ending [] (status_of WrongNumber)))) messages (first ∷ []) given nothing one none
    (pushed (first ∷ []) message, (Ok replies, is, refl), refl)

-- ---- the end

pub end_after_none : (judged : List ℕ → Result (List Reply) Status → Type 0)
    (messages : List (List ℕ)) (given : MethodStep)
    → (messages ≡ []) × (given ≡ nothing)
    → AnswersSingle judged messages true (joined given (ending [] (status_of WrongNumber)))
end_after_none judged messages given fresh =
    along_both (λ ms g. AnswersSingle judged ms true (joined g (ending [] (status_of WrongNumber))))
    messages [] given nothing fresh.0 fresh.1 refl

pub end_after_one : (judged : List ℕ → Result (List Reply) Status → Type 0)
    (messages : List (List ℕ)) (given : MethodStep) (first : List ℕ) (replies : List Reply)
    → messages ≡ first ∷ [] → given ≡ nothing → judged first (Ok replies)
    → AnswersSingle judged messages true (joined given (done replies))
end_after_one judged messages given first replies one none is =
    along_both (λ ms g. AnswersSingle judged ms true (joined g (done replies))) messages
    (first ∷ []) given nothing one none (Ok replies, is, refl)

-- an end that judges the one message again, and finds that it ends the call
pub end_refused : (judged : List ℕ → Result (List Reply) Status → Type 0) (messages : List (List ℕ))
    (given : MethodStep) (first : List ℕ) (status : Status)
    → messages ≡ first ∷ [] → given ≡ nothing → judged first (Err status)
    → AnswersSingle judged messages true (joined given (ending [] status))
end_refused judged messages given first status one none is =
    along_both (λ ms g. AnswersSingle judged ms true (joined g (ending [] status))) messages
    (first ∷ []) given nothing one none (Err status, is, refl)

-- ---- behind a status

stays_by : (verdict : Result (List Reply) Status) (others : List (List ℕ)) (given : MethodStep)
    (message : List ℕ)
    → given ≡ single_answer verdict others false → IsSome given.ends
    → (joined given nothing ≡ single_answer verdict (others ++ message ∷ []) false)
    × (joined given nothing ≡ single_answer verdict others true)
stays_by (Err status) others given message is has =
    let e = ap (λ (g : MethodStep). joined g nothing) is in
    (e, e)
stays_by (Ok replies) (second ∷ others) given message is has =
    let e = ap (λ (g : MethodStep). joined g nothing) is in
    (e, e)
stays_by (Ok replies) [] given message is has =
    absurd (none_is_not (subst (λ (g : MethodStep). IsSome g.ends) is has))

pub stays_ended : (judged : List ℕ → Result (List Reply) Status → Type 0) (messages : List (List ℕ))
    (given : MethodStep) (message : List ℕ)
    → StandsEnded (AnswersSingle judged) messages given
    → StandsEnded (AnswersSingle judged) (messages ++ message ∷ []) (joined given nothing)
stays_ended judged [] given message ended = absurd (ended.0 refl)
stays_ended judged (first ∷ others) given message ended = (
  pushed (first ∷ others) message,
  (ended.1.0, ended.1.1, (stays_by ended.1.0 others given message ended.1.2 ended.2).0),
  some_stays given.ends ended.2,
)

pub end_when_ended : (judged : List ℕ → Result (List Reply) Status → Type 0)
    (messages : List (List ℕ)) (given : MethodStep)
    → StandsEnded (AnswersSingle judged) messages given
    → AnswersSingle judged messages true (joined given nothing)
end_when_ended judged [] given ended = absurd (ended.0 refl)
end_when_ended judged (first ∷ others) given ended =
    (ended.1.0, ended.1.1, (stays_by ended.1.0 others given first ended.1.2 ended.2).1)
