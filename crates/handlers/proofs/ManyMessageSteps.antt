-- What the steps of a method that takes any number of messages add to its answer.
use Rattle.std.proofs.Common.{
  ◌≡◌,
  ℕ,
  Bool,
  true,
  false,
  List,
  [],
  ◌∷◌,
  ◌++◌,
  Option,
  Some,
  None,
  Result,
  Ok,
  Err,
  refl,
  sym,
  ap,
  subst,
  sum,
  ◌+◌,
  ◌<◌,
  ◌≤◌,
  arith,
  ◌∙◌,
  inl,
  inr,
  append-nil,
  append_assoc,
}
use Rattle.std.specs.Prelude.{is_some}
use Rattle.std.proofs.lemmas.List.Sums.{fold-append}
use Rattle.handlers.specs.declared.status.Status.{Status}
use Rattle.handlers.specs.declared.reply.Reply.{Reply}
use Rattle.handlers.specs.declared.step.MethodStep.{MethodStep}
use Rattle.handlers.specs.declared.status.Refusal.TheVariants.{SumOutOfRange}
use Rattle.handlers.specs.Statuses.{status_of}
use Rattle.handlers.specs.Steps.{nothing, replying, ending, finished, joined}
use Rattle.handlers.specs.Answers.{
  AreTaken,
  AllAnswered,
  EndedByOne,
  AnswersFull,
  AnswersHalf,
  AllAdded,
  EndedBySum,
  flatten,
}

pub taken_push : {A : Type 0} (judged : List ℕ → Result A Status → Type 0)
    (messages : List (List ℕ)) (asked : List A) (message : List ℕ) (a : A)
    → AreTaken judged messages asked → judged message (Ok a)
    → AreTaken judged (messages ++ message ∷ []) (asked ++ a ∷ [])
taken_push judged [] [] message a taken is = (is, tt)
taken_push judged [] (b ∷ others) message a taken is = absurd taken
taken_push judged (first ∷ messages) [] message a taken is = absurd taken
taken_push judged (first ∷ messages) (b ∷ others) message a taken is =
    (taken.0, taken_push judged messages others message a taken.1 is)

pub flatten_push : (lists : List (List Reply)) (last : List Reply)
    → flatten (lists ++ last ∷ []) ≡ flatten lists ++ last
flatten_push [] last = append-nil last
flatten_push (first ∷ lists) last =
    ap (λ (t : List Reply). first ++ t) (flatten_push lists last)
    ∙ sym (append_assoc first (flatten lists) last)

-- one more request is answered
pub one_more : (judged : List ℕ → Result (List Reply) Status → Type 0) (messages : List (List ℕ))
    (given : MethodStep) (message : List ℕ) (replies : List Reply)
    → AllAnswered judged messages false given → judged message (Ok replies)
    → AllAnswered judged (messages ++ message ∷ []) false (joined given (replying replies))
one_more judged messages given message replies all is = (
  all.0 ++ replies ∷ [],
  taken_push judged messages all.0 message replies all.1 is,
  ap (λ (g : MethodStep). joined g (replying replies)) all.2
      ∙ ap (λ (t : List Reply). replying t) (sym (flatten_push all.0 replies)),
)

-- behind a status nothing is added
pub stays_by_one : (judged : List ℕ → Result (List Reply) Status → Type 0)
    (messages : List (List ℕ)) (given : MethodStep) (message : List ℕ)
    → EndedByOne judged messages given
    → EndedByOne judged (messages ++ message ∷ []) (joined given nothing)
stays_by_one judged messages given message ended = (
  ended.0,
  ended.1,
  ended.2 ++ message ∷ [],
  ap (λ (t : List (List ℕ)). t ++ message ∷ []) ended.3
      ∙ append_assoc ended.0 (ended.1 ∷ ended.2) (message ∷ []),
  ended.4,
  ended.5,
  ended.6,
  ended.7,
  ap (λ (g : MethodStep). joined g nothing) ended.8
      ∙ ap (λ (t : List Reply). ending t ended.6) (append-nil (flatten ended.4)),
)

-- ---- a sum

sum_push : (amounts : List ℕ) (n : ℕ) → sum (amounts ++ n ∷ []) ≡ sum amounts + n
sum_push amounts n = fold-append (λ (a b : ℕ). a + b) 0 amounts (n ∷ [])

pub sum_more : (judged : List ℕ → Result ℕ Status → Type 0) (messages : List (List ℕ))
    (given : MethodStep) (message : List ℕ) (before n total : ℕ)
    → AllAdded judged messages before × (given ≡ nothing) → judged message (Ok n)
    → (before + n ≤ 2147483647) × (total ≡ before + n)
    → AllAdded judged (messages ++ message ∷ []) total × (joined given nothing ≡ nothing)
sum_more judged messages given message before n total added is fits = (
  (
    added.0.0 ++ n ∷ [],
    taken_push judged messages added.0.0 message n added.0.1 is,
    fits.1 ∙ ap (λ t. t + n) added.0.2 ∙ sym (sum_push added.0.0 n),
    let same = fits.1 in let bound = fits.0 in omega (arith, same, bound),
  ),
  ap (λ (g : MethodStep). joined g nothing) added.1,
)

pub sum_over : (judged : List ℕ → Result ℕ Status → Type 0) (messages : List (List ℕ))
    (given : MethodStep) (message : List ℕ) (before n : ℕ)
    → AllAdded judged messages before × (given ≡ nothing) → judged message (Ok n)
    → ¬ (before + n ≤ 2147483647)
    → EndedBySum judged (messages ++ message ∷ [])
    (joined given (ending [] (status_of SumOutOfRange)))
sum_over judged messages given message before n added is over = (
  messages,
  message,
  [],
  refl,
  before,
  added.0,
  status_of SumOutOfRange,
  inr (n, is, omega (arith, over), refl),
  ap (λ (g : MethodStep). joined g (ending [] (status_of SumOutOfRange))) added.1,
)

pub stays_by_sum : (judged : List ℕ → Result ℕ Status → Type 0) (messages : List (List ℕ))
    (given : MethodStep) (message : List ℕ)
    → EndedBySum judged messages given
    → EndedBySum judged (messages ++ message ∷ []) (joined given nothing)
stays_by_sum judged messages given message ended = (
  ended.0,
  ended.1,
  ended.2 ++ message ∷ [],
  ap (λ (t : List (List ℕ)). t ++ message ∷ []) ended.3
      ∙ append_assoc ended.0 (ended.1 ∷ ended.2) (message ∷ []),
  ended.4,
  ended.5,
  ended.6,
  ended.7,
  ap (λ (g : MethodStep). joined g nothing) ended.8,
)

-- ---- all at the end

step_is : (step : MethodStep) (replies : List Reply) → step.replies ≡ replies → step.ends ≡ None
    → step ≡ replying replies
step_is step replies same none =
    ap (λ (r : List Reply). let s : MethodStep = record { replies = r; ends = step.ends } in s) same
    ∙ ap (λ (e : Option Status). let s : MethodStep = record { replies = replies; ends = e } in s)
    none

ended_is : (step : MethodStep) (replies : List Reply) (status : Status) → step.replies ≡ replies
    → step.ends ≡ Some status → step ≡ ending replies status
ended_is step replies status same ends =
    ap (λ (r : List Reply). let s : MethodStep = record { replies = r; ends = step.ends } in s) same
    ∙ ap (λ (e : Option Status). let s : MethodStep = record { replies = replies; ends = e } in s)
    ends

-- what one request is answered
pub one_asks : (judged : List ℕ → Result (List Reply) Status → Type 0) (message : List ℕ)
    (replies : List Reply)
    → judged message (Ok replies) → AnswersFull judged (message ∷ []) false (replying replies)
one_asks judged message replies is =
    inl (replies ∷ [], (is, tt), ap (λ (t : List Reply). replying t) (sym (append-nil replies)))

pub one_ends : (judged : List ℕ → Result (List Reply) Status → Type 0) (message : List ℕ)
    (status : Status)
    → judged message (Err status) → AnswersFull judged (message ∷ []) false (ending [] status)
one_ends judged message status is = inr ([], message, [], refl, [], tt, status, is, refl)

some_is_not : (status : Status) → ◌≡◌ {A = Option Status} (Some status) None → ⊥
some_is_not status same = cc

true_is_not : ◌≡◌ {A = Bool} true false → ⊥
true_is_not same = cc

none_is : (ends : Option Status) → is_some ends ≡ false → ends ≡ None
none_is None is = refl
none_is (Some status) is = cc

-- nothing ended the call yet
goes_on : (judged : List ℕ → Result (List Reply) Status → Type 0)
    (messages : List (List ℕ)) (held : MethodStep)
    → held.ends ≡ None → AnswersFull judged messages false held
    → AllAnswered judged messages false held
goes_on judged messages held none (inl all) = all
goes_on judged messages held none (inr by) =
    let wrong : ◌≡◌ {A = Option Status} (Some by.6) None =
    sym (ap (λ (s : MethodStep). s.ends) by.8) ∙ none in
    absurd (some_is_not by.6 wrong)

pub hold_asked : (judged : List ℕ → Result (List Reply) Status → Type 0) (messages : List (List ℕ))
    (held new : MethodStep) (message : List ℕ) (more : List Reply)
    → is_some held.ends ≡ false → new.replies ≡ held.replies ++ more → new.ends ≡ held.ends
    → judged message (Ok more)
    → AnswersFull judged messages false held
    → AnswersFull judged (messages ++ message ∷ []) false new
hold_asked judged messages held new message more none replies ends is answer =
    let all = goes_on judged messages held (none_is held.ends none) answer in
    let same : new ≡ replying (flatten all.0 ++ more) =
    step_is new (flatten all.0 ++ more) (replies ∙ ap (λ (s : MethodStep). s.replies ++ more) all.2)
    (ends ∙ none_is held.ends none) in
    inl (
      all.0 ++ more ∷ [],
      taken_push judged messages all.0 message more all.1 is,
      same ∙ ap (λ (t : List Reply). replying t) (sym (flatten_push all.0 more)),
    )

pub hold_ended : (judged : List ℕ → Result (List Reply) Status → Type 0) (messages : List (List ℕ))
    (held new : MethodStep) (message : List ℕ) (status : Status)
    → is_some held.ends ≡ false → new.replies ≡ held.replies → new.ends ≡ Some status
    → judged message (Err status)
    → AnswersFull judged messages false held
    → AnswersFull judged (messages ++ message ∷ []) false new
hold_ended judged messages held new message status none replies ends is answer =
    let all = goes_on judged messages held (none_is held.ends none) answer in
    inr (
      messages,
      message,
      [],
      refl,
      all.0,
      all.1,
      status,
      is,
      ended_is new (flatten all.0) status (replies ∙ ap (λ (s : MethodStep). s.replies) all.2) ends,
    )

pub hold_same : (judged : List ℕ → Result (List Reply) Status → Type 0) (messages : List (List ℕ))
    (held : MethodStep) (message : List ℕ)
    → is_some held.ends ≡ true → AnswersFull judged messages false held
    → AnswersFull judged (messages ++ message ∷ []) false held
hold_same judged messages held message ended (inl all) =
    absurd (true_is_not (sym ended ∙ ap (λ (s : MethodStep). is_some s.ends) all.2))
hold_same judged messages held message ended (inr by) = inr (
  by.0,
  by.1,
  by.2 ++ message ∷ [],
  ap (λ (t : List (List ℕ)). t ++ message ∷ []) by.3
      ∙ append_assoc by.0 (by.1 ∷ by.2) (message ∷ []),
  by.4,
  by.5,
  by.6,
  by.7,
  by.8,
)

pub all_finished : (judged : List ℕ → Result (List Reply) Status → Type 0)
    (messages : List (List ℕ)) (held : MethodStep)
    → AnswersFull judged messages false held → AnswersFull judged messages true (finished held)
all_finished judged messages held (inl all) =
    inl (all.0, all.1, ap (λ (s : MethodStep). finished s) all.2)
all_finished judged messages held (inr by) =
    inr (by.0, by.1, by.2, by.3, by.4, by.5, by.6, by.7, ap (λ (s : MethodStep). finished s) by.8)

pub half_end : (judged : List ℕ → Result (List Reply) Status → Type 0) (messages : List (List ℕ))
    (given held : MethodStep)
    → AnswersFull judged messages false held × (given ≡ nothing)
    → AnswersHalf judged messages true (joined given (finished held))
half_end judged messages given held stands =
    subst (λ (s : MethodStep).
    AnswersFull judged messages true (joined s (finished held))) (sym stands.1)
    (all_finished judged messages held stands.0)
