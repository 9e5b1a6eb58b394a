-- A list of messages whose lengths are added up has one answer.
use Rattle.std.proofs.Common.{
  ◌≡◌,
  ℕ,
  pos,
  ◌+◌,
  ◌≤◌,
  if◌then◌else◌,
  List,
  [],
  ◌∷◌,
  ◌++◌,
  sum,
  Result,
  Ok,
  Err,
  sym,
  ap,
  subst,
  ◌∙◌,
  inl,
  inr,
  arith,
}
use Rattle.std.specs.List.{fold}
use Rattle.testproto.specs.Laws.{one_streaming_input_call_request}
use Rattle.testproto.specs.Messages.{AcceptsStreamingInputCallRequest, IsStreamingInputCallRequest}
use Rattle.handlers.specs.declared.status.Status.{Status}
use Rattle.handlers.specs.declared.reply.Reply.TheVariants.{Sum as SumReply}
use Rattle.handlers.specs.declared.step.MethodStep.{MethodStep}
use Rattle.handlers.specs.Steps.{nothing, ending, done}
use Rattle.handlers.specs.Requests.{judge_input, InputVerdict}
use Rattle.handlers.specs.Answers.{
  AreTaken,
  MAX_SUM,
  EndsSum,
  AllAdded,
  EndedBySum,
  AnswersSum,
  HasOneAnswer,
}
use Rattle.handlers.proofs.OneAnswer.{
  IsOneVerdict,
  one_verdict,
  ok_same,
  err_same,
  not_both,
  head_same,
  tail_same,
  one_taken,
}

-- the sum of the numbers, and of what there was before
abbrev sum_from : ℕ → List ℕ → ℕ
sum_from start numbers = fold ◌+◌ start numbers

at_least : (start : ℕ) (numbers : List ℕ) → start ≤ sum_from start numbers
at_least start [] = omega arith
at_least start (n ∷ ns) =
    let rest : start + n ≤ sum_from (start + n) ns = at_least (start + n) ns in
    omega (arith, rest)

-- a message that fits behind this sum doesn't end the call there
fits_or_ends : (judged : List ℕ → Result ℕ Status → Type 0) → IsOneVerdict judged
    → (before amount : ℕ) (message : List ℕ) (status : Status)
    → judged message (Ok amount) → before + amount ≤ MAX_SUM
    → EndsSum judged before message status → ⊥
fits_or_ends judged one before amount message status is fits (inl refused) =
    not_both judged one message amount status is refused
fits_or_ends judged one before amount message status is fits (inr over) =
    let same : amount ≡ over.0 =
    ok_same amount over.0 (one message (Ok amount) (Ok over.0) is over.1) in
    let above = over.2 in
    omega (arith, same, fits, above)

-- a message that ends the call has one status
one_end : (judged : List ℕ → Result ℕ Status → Type 0) → IsOneVerdict judged
    → (before : ℕ) (message : List ℕ) (status other : Status)
    → EndsSum judged before message status → EndsSum judged before message other → status ≡ other
one_end judged one before message status other (inl is) (inl also) =
    err_same status other (one message (Err status) (Err other) is also)
one_end judged one before message status other (inl is) (inr over) =
    absurd (not_both judged one message over.0 status over.1 is)
one_end judged one before message status other (inr over) (inl is) =
    absurd (not_both judged one message over.0 other over.1 is)
one_end judged one before message status other (inr over) (inr also) = over.3 ∙ sym also.3

-- messages that are all added up have none among them that ends the call
all_added : (judged : List ℕ → Result ℕ Status → Type 0) → IsOneVerdict judged
    → (start : ℕ) (before : List (List ℕ)) (last : List ℕ) (after : List (List ℕ))
    (amounts lengths : List ℕ) (status : Status)
    → AreTaken judged before amounts → AreTaken judged (before ++ last ∷ after) lengths
    → sum_from start lengths ≤ MAX_SUM → EndsSum judged (sum_from start amounts) last status → ⊥
all_added judged one start [] last after [] [] status taken also fits ends = also
all_added judged one start [] last after (a ∷ xs) lengths status taken also fits ends = taken
all_added judged one start [] last after [] (n ∷ ns) status taken also fits ends =
    fits_or_ends judged one start n last status also.0
    (let low = at_least (start + n) ns in omega (arith, low, fits)) ends
all_added judged one start (m ∷ ms) last after [] lengths status taken also fits ends = taken
all_added judged one start (m ∷ ms) last after (a ∷ xs) [] status taken also fits ends = also
all_added judged one start (m ∷ ms) last after (a ∷ xs) (n ∷ ns) status taken also fits ends =
    let same : n ≡ a = ok_same n a (one m (Ok n) (Ok a) also.0 taken.0) in
    all_added judged one (start + a) ms last after xs ns status taken.1 also.1
    (subst (λ t. sum_from (start + t) ns ≤ MAX_SUM) same fits) ends

-- The first message that ends the call is one place, and gives one status.
one_sum_end : (judged : List ℕ → Result ℕ Status → Type 0) → IsOneVerdict judged
    → (start : ℕ) (before others : List (List ℕ)) (last other : List ℕ) (after more : List (List ℕ))
    (amounts lengths : List ℕ) (status also_status : Status)
    → AreTaken judged before amounts → AreTaken judged others lengths
    → sum_from start amounts ≤ MAX_SUM → sum_from start lengths ≤ MAX_SUM
    → EndsSum judged (sum_from start amounts) last status
    → EndsSum judged (sum_from start lengths) other also_status
    → before ++ last ∷ after ≡ others ++ other ∷ more → status ≡ also_status
one_sum_end judged one start [] [] last other after more (a ∷ xs) lengths status also_status taken
    also fits also_fits ends also_ends same = absurd taken
one_sum_end judged one start [] [] last other after more [] (n ∷ ns) status also_status taken also
    fits also_fits ends also_ends same = absurd also
one_sum_end judged one start [] [] last other after more [] [] status also_status taken also fits
    also_fits ends also_ends same =
    one_end judged one start other status also_status (subst
    (λ m. EndsSum judged start m status)
    (head_same last other after more same) ends) also_ends
one_sum_end judged one start [] (o ∷ os) last other after more (a ∷ xs) lengths status also_status
    taken also fits also_fits ends also_ends same = absurd taken
one_sum_end judged one start [] (o ∷ os) last other after more [] [] status also_status taken also
    fits also_fits ends also_ends same = absurd also
one_sum_end judged one start [] (o ∷ os) last other after more [] (n ∷ ns) status also_status taken
    also fits also_fits ends also_ends same =
    absurd (fits_or_ends judged one start n o status also.0
    (let low = at_least (start + n) ns in omega (arith, low, also_fits)) (subst
    (λ m. EndsSum judged start m status) (head_same last o after (os ++ other ∷ more) same) ends))
one_sum_end judged one start (m ∷ ms) [] last other after more [] lengths status also_status taken
    also fits also_fits ends also_ends same = absurd taken
one_sum_end judged one start (m ∷ ms) [] last other after more (a ∷ xs) (n ∷ ns) status also_status
    taken also fits also_fits ends also_ends same = absurd also
one_sum_end judged one start (m ∷ ms) [] last other after more (a ∷ xs) [] status also_status taken
    also fits also_fits ends also_ends same =
    absurd (fits_or_ends judged one start a m also_status taken.0
    (let low = at_least (start + a) xs in omega (arith, low, fits)) (subst
    (λ x. EndsSum judged start x also_status)
    (sym (head_same m other (ms ++ last ∷ after) more same)) also_ends))
one_sum_end judged one start (m ∷ ms) (o ∷ os) last other after more [] lengths status also_status
    taken also fits also_fits ends also_ends same = absurd taken
one_sum_end judged one start (m ∷ ms) (o ∷ os) last other after more (a ∷ xs) [] status also_status
    taken also fits also_fits ends also_ends same = absurd also
one_sum_end judged one start (m ∷ ms) (o ∷ os) last other after more (a ∷ xs) (n ∷ ns) status
    also_status taken also fits also_fits ends also_ends same =
    let first = head_same m o (ms ++ last ∷ after) (os ++ other ∷ more) same in
    let equal : n ≡ a =
    ok_same n a (one o (Ok n) (Ok a) also.0 (subst (λ x. judged x (Ok a)) first taken.0)) in
    one_sum_end judged one (start + a) ms os last other after more xs ns status also_status taken.1
    also.1 fits (subst (λ t. sum_from (start + t) ns ≤ MAX_SUM) equal also_fits)
    ends (subst (λ t. EndsSum judged (sum_from (start + t) ns) other also_status) equal also_ends)
    (tail_same m o (ms ++ last ∷ after) (os ++ other ∷ more) same)

-- an end behind messages, against all of them added up
added_or_ended : (judged : List ℕ → Result ℕ Status → Type 0) → IsOneVerdict judged
    → (messages : List (List ℕ)) (total : ℕ) (answer : MethodStep) → AllAdded judged messages total
    → EndedBySum judged messages answer → ⊥
added_or_ended judged one messages total answer all by =
    let whole = all.2 in
    let bound = all.3 in
    all_added judged one 0 by.0 by.1 by.2 by.5.0 all.0 by.6 by.5.1
    (subst (λ ms. AreTaken judged ms all.0) by.3 all.1) (subst (λ t. t ≤ MAX_SUM) whole bound)
    (subst (λ t. EndsSum judged t by.1 by.6) by.5.2 by.7)

one_sum : (judged : List ℕ → Result ℕ Status → Type 0) → IsOneVerdict judged
    → HasOneAnswer (AnswersSum judged)
one_sum judged one messages ended answer other (inl all) (inl also) =
    let same : all.0 ≡ also.0 =
    all.1.2
    ∙ ap (λ (ns : List ℕ). sum ns) (one_taken judged one messages all.1.0 also.1.0 all.1.1 also.1.1)
    ∙ sym also.1.2 in
    all.2 ∙ ap (λ (total : ℕ). if ended then done (SumReply (pos total) ∷ []) else nothing) same
    ∙ sym also.2
one_sum judged one messages ended answer other (inl all) (inr by) =
    absurd (added_or_ended judged one messages all.0 other all.1 by)
one_sum judged one messages ended answer other (inr by) (inl all) =
    absurd (added_or_ended judged one messages all.0 answer all.1 by)
one_sum judged one messages ended answer other (inr by) (inr also) =
    let before = by.5.2 in
    let bound = by.5.3 in
    let also_before = also.5.2 in
    let also_bound = also.5.3 in
    let status : by.6 ≡ also.6 =
    one_sum_end judged one 0 by.0 also.0 by.1 also.1 by.2 also.2 by.5.0 also.5.0 by.6 also.6 by.5.1
    also.5.1 (subst (λ t. t ≤ MAX_SUM) before bound)
    (subst (λ t. t ≤ MAX_SUM) also_before also_bound)
    (subst (λ t. EndsSum judged t by.1 by.6) before by.7)
    (subst (λ t. EndsSum judged t also.1 also.6) also_before also.7) (sym by.3 ∙ also.3) in
    by.8 ∙ ap (λ (s : Status). ending [] s) status ∙ sym also.8

pub one_input_call : HasOneAnswer (AnswersSum InputVerdict)
one_input_call =
    one_sum InputVerdict (one_verdict AcceptsStreamingInputCallRequest IsStreamingInputCallRequest
    judge_input one_streaming_input_call_request)
