-- The replies to some messages begin those to more of them.
use Rattle.std.proofs.Common.{
  ◌≡◌,
  ℕ,
  Bool,
  true,
  false,
  if◌then◌else◌,
  List,
  [],
  ◌∷◌,
  ◌++◌,
  Result,
  Ok,
  Err,
  refl,
  sym,
  ap,
  subst,
  ◌∙◌,
  inl,
  inr,
  append-nil,
  append_assoc,
}
use Rattle.handlers.specs.declared.status.Status.{Status}
use Rattle.handlers.specs.declared.reply.Reply.{Reply}
use Rattle.handlers.specs.declared.step.MethodStep.{MethodStep}
use Rattle.handlers.specs.Steps.{done, replying}
use Rattle.handlers.specs.Requests.{OutputVerdict}
use Rattle.handlers.specs.Answers.{
  AreTaken,
  AnswersSingle,
  single_answer,
  AnswersFull,
  AnswersHalf,
  AnswersSum,
  HasGrowingReplies,
  flatten,
}
use Rattle.handlers.proofs.OneAnswer.{
  IsOneVerdict,
  one_output,
  ok_same,
  not_both,
  head_same,
  tail_same,
  one_taken,
  all_taken,
  one_place,
}

-- the second list of replies goes on where the first ends
abbrev GoesOn : List Reply → List Reply → Type 0
GoesOn replies all = (rest : List Reply) × (all ≡ replies ++ rest)

-- ---- methods that reply at the end alone

silent : (judged : List (List ℕ) → Bool → MethodStep → Type 0)
    → ((messages : List (List ℕ)) (answer : MethodStep) → judged messages false answer
    → answer.replies ≡ [])
    → HasGrowingReplies judged
silent judged none messages more ended answer later is also =
    (later.replies, ap (λ (r : List Reply). r ++ later.replies) (sym (none messages answer is)))

no_single : (verdict : Result (List Reply) Status) (others : List (List ℕ))
    → (single_answer verdict others false).replies ≡ []
no_single (Err status) others = refl
no_single (Ok replies) [] = refl
no_single (Ok replies) (second ∷ others) = refl

none_of_single : (judged : List ℕ → Result (List Reply) Status → Type 0)
    (messages : List (List ℕ)) (answer : MethodStep)
    → AnswersSingle judged messages false answer → answer.replies ≡ []
none_of_single judged [] answer is = ap (λ (s : MethodStep). s.replies) is
none_of_single judged (message ∷ others) answer is =
    ap (λ (s : MethodStep). s.replies) is.2 ∙ no_single is.0 others

pub single_grows : (judged : List ℕ → Result (List Reply) Status → Type 0)
    → HasGrowingReplies (AnswersSingle judged)
single_grows judged = silent (AnswersSingle judged) (none_of_single judged)

pub half_grows : (judged : List ℕ → Result (List Reply) Status → Type 0)
    → HasGrowingReplies (AnswersHalf judged)
half_grows judged =
    silent (AnswersHalf judged) (λ messages answer is. ap (λ (s : MethodStep). s.replies) is)

none_of_sum : (judged : List ℕ → Result ℕ Status → Type 0)
    (messages : List (List ℕ)) (answer : MethodStep)
    → AnswersSum judged messages false answer → answer.replies ≡ []
none_of_sum judged messages answer (inl all) = ap (λ (s : MethodStep). s.replies) all.2
none_of_sum judged messages answer (inr by) = ap (λ (s : MethodStep). s.replies) by.8

pub sum_grows : (judged : List ℕ → Result ℕ Status → Type 0) → HasGrowingReplies (AnswersSum judged)
sum_grows judged = silent (AnswersSum judged) (none_of_sum judged)

-- ---- a method that replies as it takes

flatten_append : (asked more : List (List Reply))
    → flatten (asked ++ more) ≡ flatten asked ++ flatten more
flatten_append [] more = refl
flatten_append (replies ∷ asked) more =
    ap (λ (t : List Reply). replies ++ t) (flatten_append asked more)
    ∙ sym (append_assoc replies (flatten asked) (flatten more))

more_asked : (asked all : List (List Reply)) → (rest : List (List Reply)) × (all ≡ asked ++ rest)
    → GoesOn (flatten asked) (flatten all)
more_asked asked all (rest, is) = (flatten rest, ap flatten is ∙ flatten_append asked rest)

abbrev HasBegun : {A : Type 0} → List A → List A → Type 0
HasBegun {A} asked all = (rest : List A) × (all ≡ asked ++ rest)

begun_push : {A : Type 0} (a b : A) (xs ys : List A) → a ≡ b → HasBegun xs ys
    → HasBegun (a ∷ xs) (b ∷ ys)
begun_push a b xs ys same (rest, is) = (rest, cc)

-- what was asked for by messages begins what they and more ask for
taken_begin : {A : Type 0} (judged : List ℕ → Result A Status → Type 0) → IsOneVerdict judged
    → (messages more : List (List ℕ)) (asked all : List A)
    → AreTaken judged messages asked → AreTaken judged (messages ++ more) all → HasBegun asked all
taken_begin judged one [] more [] all taken also = (all, refl)
taken_begin judged one [] more (a ∷ xs) all taken also = absurd taken
taken_begin judged one (m ∷ ms) more [] all taken also = absurd taken
taken_begin judged one (m ∷ ms) more (a ∷ xs) [] taken also = absurd also
taken_begin judged one (m ∷ ms) more (a ∷ xs) (b ∷ ys) taken also =
    begun_push a b xs ys (ok_same a b (one m (Ok a) (Ok b) taken.0 also.0))
    (taken_begin judged one ms more xs ys taken.1 also.1)

-- and what those before the first that ends the call ask for
before_begins : {A : Type 0} (judged : List ℕ → Result A Status → Type 0) → IsOneVerdict judged
    → (messages more before : List (List ℕ)) (last : List ℕ) (after : List (List ℕ))
    (asked all : List A) (status : Status)
    → AreTaken judged messages asked → AreTaken judged before all → judged last (Err status)
    → messages ++ more ≡ before ++ last ∷ after → HasBegun asked all
before_begins judged one [] more before last after [] all status taken also ends same = (all, refl)
before_begins judged one [] more before last after (a ∷ xs) all status taken also ends
    same = absurd taken
before_begins judged one (m ∷ ms) more before last after [] all status taken also ends
    same = absurd taken
before_begins judged one (m ∷ ms) more [] last after (a ∷ xs) all status taken also ends same =
    absurd (not_both judged one m a status taken.0
    (subst (λ t. judged t (Err status)) (sym (head_same m last (ms ++ more) after same)) ends))
before_begins judged one (m ∷ ms) more (b ∷ bs) last after (a ∷ xs) [] status taken also ends
    same = absurd also
before_begins {A} judged one (m ∷ ms) more (b ∷ bs) last after (a ∷ xs) (y ∷ ys) status
    taken also ends same =
    let head = head_same m b (ms ++ more) (bs ++ last ∷ after) same in
    let first : a ≡ y =
    ok_same a y (one b (Ok a) (Ok y) (subst (λ t. judged t (Ok a)) head taken.0) also.0) in
    begun_push a y xs ys first (before_begins judged one ms more bs last after xs ys status taken.1
    also.1 ends (tail_same m b (ms ++ more) (bs ++ last ∷ after) same))

replies_of_all : (asked : List (List Reply)) (ended : Bool) (answer : MethodStep)
    → answer ≡ (if ended then done (flatten asked) else replying (flatten asked))
    → answer.replies ≡ flatten asked
replies_of_all asked true answer is = ap (λ (s : MethodStep). s.replies) is
replies_of_all asked false answer is = ap (λ (s : MethodStep). s.replies) is

as_replies : (asked all : List Reply) (answer later : MethodStep) → answer.replies ≡ asked
    → later.replies ≡ all → GoesOn asked all → GoesOn answer.replies later.replies
as_replies asked all answer later is also (rest, begins) =
    (rest, also ∙ begins ∙ ap (λ (r : List Reply). r ++ rest) (sym is))

full : (judged : List ℕ → Result (List Reply) Status → Type 0) → IsOneVerdict judged
    → HasGrowingReplies (AnswersFull judged)
full judged one messages more ended answer later (inl all) (inl also) =
    as_replies (flatten all.0) (flatten also.0) answer later
    (replies_of_all all.0 false answer all.2) (replies_of_all also.0 ended later also.2)
    (more_asked all.0 also.0 (taken_begin judged one messages more all.0 also.0 all.1 also.1))
full judged one messages more ended answer later (inl all) (inr by) =
    as_replies (flatten all.0) (flatten by.4) answer later (replies_of_all all.0 false answer all.2)
    (ap (λ (s : MethodStep). s.replies) by.8)
    (more_asked all.0 by.4
    (before_begins judged one messages more by.0 by.1 by.2 all.0 by.4 by.6 all.1 by.5 by.7 by.3))
full judged one messages more ended answer later (inr by) (inl all) =
    absurd (all_taken judged one by.0 by.1 (by.2 ++ more) all.0 by.6
    (subst (λ ms. AreTaken judged ms all.0)
    (ap (λ (t : List (List ℕ)). t ++ more) by.3 ∙ append_assoc by.0 (by.1 ∷ by.2) more) all.1) by.7)
full judged one messages more ended answer later (inr by) (inr also) =
    let same =
    sym (ap (λ (t : List (List ℕ)). t ++ more) by.3 ∙ append_assoc by.0 (by.1 ∷ by.2) more)
    ∙ also.3 in
    let place =
    one_place judged one by.0 also.0 by.1 also.1 (by.2 ++ more) also.2 by.4 also.4 by.6 also.6 by.5
    also.5 by.7 also.7 same in
    let asked =
    one_taken judged one also.0 by.4 also.4
    (subst (λ ms. AreTaken judged ms by.4) place.0 by.5) also.5 in
    as_replies (flatten by.4) (flatten also.4) answer later
    (ap (λ (s : MethodStep). s.replies) by.8)
    (ap (λ (s : MethodStep). s.replies) also.8)
    ([], ap flatten (sym asked) ∙ sym (append-nil (flatten by.4)))

pub full_grows : HasGrowingReplies (AnswersFull OutputVerdict)
full_grows = full OutputVerdict one_output
