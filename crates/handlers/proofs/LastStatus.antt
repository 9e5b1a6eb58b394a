-- An answer to a call whose end was told has a status.
use Rattle.std.proofs.Common.{
  ◌≡◌,
  ℕ,
  true,
  List,
  [],
  ◌∷◌,
  IsSome,
  Result,
  Ok,
  Err,
  refl,
  sym,
  subst,
  inl,
  inr,
}
use Rattle.handlers.specs.declared.status.Status.{Status}
use Rattle.handlers.specs.declared.reply.Reply.{Reply}
use Rattle.handlers.specs.declared.step.MethodStep.{MethodStep}
use Rattle.handlers.specs.Answers.{
  single_answer,
  AnswersSingle,
  AnswersFull,
  AnswersHalf,
  AnswersSum,
  HasStatusAtEnd,
}

same_status : (answer other : MethodStep) → answer ≡ other → IsSome other.ends → IsSome answer.ends
same_status answer other same has = subst (λ (step : MethodStep). IsSome step.ends) (sym same) has

single : (verdict : Result (List Reply) Status) (others : List (List ℕ))
    → IsSome (single_answer verdict others true).ends
single (Err status) others = refl
single (Ok replies) [] = refl
single (Ok replies) (second ∷ others) = refl

pub single_status : (judged : List ℕ → Result (List Reply) Status → Type 0)
    → HasStatusAtEnd (AnswersSingle judged)
single_status judged [] answer is = same_status answer _ is refl
single_status judged (message ∷ others) answer is = same_status answer _ is.2 (single is.0 others)

pub full_status : (judged : List ℕ → Result (List Reply) Status → Type 0)
    → HasStatusAtEnd (AnswersFull judged)
full_status judged messages answer (inl all) = same_status answer _ all.2 refl
full_status judged messages answer (inr by) = same_status answer _ by.8 refl

pub half_status : (judged : List ℕ → Result (List Reply) Status → Type 0)
    → HasStatusAtEnd (AnswersHalf judged)
half_status judged messages answer is = full_status judged messages answer is

pub sum_status : (judged : List ℕ → Result ℕ Status → Type 0) → HasStatusAtEnd (AnswersSum judged)
sum_status judged messages answer (inl all) = same_status answer _ all.2 refl
sum_status judged messages answer (inr by) = same_status answer _ by.8 refl
