-- Every list of messages has an answer.
use Rattle.std.proofs.Common.{
  ◌≡◌,
  ℕ,
  pos,
  ◌+◌,
  ◌⊎◌,
  true,
  false,
  if◌then◌else◌,
  List,
  [],
  ◌∷◌,
  ◌++◌,
  Some,
  None,
  Result,
  Ok,
  Err,
  refl,
  sym,
  ap,
  subst,
  inl,
  inr,
  append-nil,
  append_assoc,
  lit≤,
}
use Rattle.std.proofs.lemmas.Bool.{cases_lt}
use Rattle.pbwire.specs.Fields.{Field}
use Rattle.testproto.specs.declared.fault.ProtoFault.{ProtoFault}
use Rattle.testproto.specs.Unique.{AreApart, no_fault}
use Rattle.testproto.specs.Total.{HasValueOrFault}
use Rattle.testproto.specs.Totals.{
  total_empty,
  total_simple_request,
  total_streaming_input_call_request,
  total_streaming_output_call_request,
}
use Rattle.testproto.specs.Laws.{
  apart_none,
  apart_simple_request,
  apart_streaming_input_call_request,
  apart_streaming_output_call_request,
}
use Rattle.testproto.specs.Messages.{
  AcceptsAll,
  RefusesNone,
  IsEmpty,
  AcceptsSimpleRequest,
  RefusesSimpleRequest,
  IsSimpleRequest,
  AcceptsStreamingInputCallRequest,
  RefusesStreamingInputCallRequest,
  IsStreamingInputCallRequest,
  AcceptsStreamingOutputCallRequest,
  RefusesStreamingOutputCallRequest,
  IsStreamingOutputCallRequest,
}
use Rattle.handlers.specs.declared.status.Status.{Status}
use Rattle.handlers.specs.declared.status.Refusal.TheVariants.{SumOutOfRange, WrongNumber}
use Rattle.handlers.specs.declared.reply.Reply.{Reply}
use Rattle.handlers.specs.declared.reply.Reply.TheVariants.{Sum as SumReply}
use Rattle.handlers.specs.Statuses.{status_of}
use Rattle.handlers.specs.Steps.{nothing, ending, done, replying}
use Rattle.handlers.specs.Requests.{
  IsVerdict,
  verdict,
  judge_empty,
  judge_simple,
  judge_input,
  judge_output,
  EmptyVerdict,
  SimpleVerdict,
  InputVerdict,
  OutputVerdict,
}
use Rattle.handlers.specs.Answers.{
  MAX_SUM,
  AnswersSingle,
  single_answer,
  AreTaken,
  AnswersFull,
  AnswersHalf,
  AllAdded,
  EndsSum,
  AnswersSum,
  HasAnswer,
  flatten,
}
use Rattle.handlers.proofs.ManyMessageSteps.{sum_more}

-- ---- every request has a verdict

abbrev pub HasVerdict : {A : Type 0} → (List ℕ → Result A Status → Type 0) → Type 0
HasVerdict {A} judged = (message : List ℕ) → (answer : Result A Status) × judged message answer

some_verdict : {M A : Type 0} (accepts : Field → Type 0) (refuses : Field → ProtoFault → Type 0)
    (is_value : List Field → M → Type 0) (judge : M → Result A Status)
    → AreApart accepts refuses → HasValueOrFault accepts refuses is_value
    → HasVerdict (IsVerdict accepts is_value judge)
some_verdict accepts refuses is_value judge apart total message =
    elim (total message) [
      | inl read ↦ (verdict judge (Some read.0), (Some read.0, read.1, refl))
      | inr bad ↦ (
        verdict judge None,
        (
          None,
          (λ value is. no_fault accepts refuses apart message bad.0 (is.0, is.1, is.2) bad.1),
          refl,
        ),
      )
    ]

some_empty : HasVerdict EmptyVerdict
some_empty = some_verdict AcceptsAll RefusesNone IsEmpty judge_empty apart_none total_empty

some_simple : HasVerdict SimpleVerdict
some_simple =
    some_verdict AcceptsSimpleRequest RefusesSimpleRequest IsSimpleRequest judge_simple
    apart_simple_request total_simple_request

some_input : HasVerdict InputVerdict
some_input =
    some_verdict AcceptsStreamingInputCallRequest RefusesStreamingInputCallRequest
    IsStreamingInputCallRequest judge_input apart_streaming_input_call_request
    total_streaming_input_call_request

some_output : HasVerdict OutputVerdict
some_output =
    some_verdict AcceptsStreamingOutputCallRequest RefusesStreamingOutputCallRequest
    IsStreamingOutputCallRequest judge_output apart_streaming_output_call_request
    total_streaming_output_call_request

-- ---- one message

single : (judged : List ℕ → Result (List Reply) Status → Type 0) → HasVerdict judged
    → HasAnswer (AnswersSingle judged)
single judged some [] ended = ((if ended then ending [] (status_of WrongNumber) else nothing), refl)
single judged some (message ∷ others) ended =
    let found = some message in
    (single_answer found.0 others ended, (found.0, found.1, refl))

-- ---- any number of messages

-- the messages are all taken, or one of them ends the call
abbrev Ends : {A : Type 0} → (List ℕ → Result A Status → Type 0) → List (List ℕ) → Type 0
Ends {A} judged messages =
    (before : List (List ℕ)) × (last : List ℕ) × (after : List (List ℕ))
    × (messages ≡ before ++ last ∷ after)
    × (asked : List A) × AreTaken judged before asked × (status : Status) × judged last (Err status)

abbrev Judged : {A : Type 0} → (List ℕ → Result A Status → Type 0) → List (List ℕ) → Type 0
Judged {A} judged messages =
    ((asked : List A) × AreTaken judged messages asked) ⊎ Ends judged messages

judge_first : {A : Type 0} (judged : List ℕ → Result A Status → Type 0) (message : List ℕ)
    (others : List (List ℕ)) (answer : Result A Status)
    → judged message answer → Judged judged others
    → Judged judged (message ∷ others)
judge_first judged message others (Err status) is rest =
    inr ([], message, others, refl, [], tt, status, is)
judge_first judged message others (Ok amount) is (inl all) = inl (amount ∷ all.0, (is, all.1))
judge_first judged message others (Ok amount) is (inr by) =
    inr (
      message ∷ by.0,
      by.1,
      by.2,
      ap (λ (t : List (List ℕ)). message ∷ t) by.3,
      amount ∷ by.4,
      (is, by.5),
      by.6,
      by.7,
    )

judge_all : {A : Type 0} (judged : List ℕ → Result A Status → Type 0) → HasVerdict judged
    → (messages : List (List ℕ)) → Judged judged messages
judge_all judged some [] = inl ([], tt)
judge_all judged some (message ∷ others) =
    let found = some message in
    judge_first judged message others found.0 found.1 (judge_all judged some others)

full : (judged : List ℕ → Result (List Reply) Status → Type 0) → HasVerdict judged
    → HasAnswer (AnswersFull judged)
full judged some messages ended =
    elim (judge_all judged some messages) [
      | inl all ↦ (
        (if ended then done (flatten all.0) else replying (flatten all.0)),
        inl (all.0, all.1, refl),
      )
      | inr by ↦
          (ending (flatten by.4) by.6, inr (by.0, by.1, by.2, by.3, by.4, by.5, by.6, by.7, refl))
    ]

half : (judged : List ℕ → Result (List Reply) Status → Type 0) → HasVerdict judged
    → HasAnswer (AnswersHalf judged)
half judged some messages false = (nothing, refl)
half judged some messages true = full judged some messages true

-- ---- a sum

-- the lengths are all added up, or one of the messages ends the call
abbrev Summed : (List ℕ → Result ℕ Status → Type 0) → List (List ℕ) → Type 0
Summed judged messages =
    ((total : ℕ) × AllAdded judged messages total)
    ⊎ ((before : List (List ℕ)) × (last : List ℕ) × (after : List (List ℕ))
    × (messages ≡ before ++ last ∷ after)
    × (total : ℕ) × AllAdded judged before total × (status : Status)
    × EndsSum judged total last status)

add_next : (judged : List ℕ → Result ℕ Status → Type 0) (before : List (List ℕ)) (total : ℕ)
    (message : List ℕ) (after : List (List ℕ))
    → AllAdded judged before total
    → (answer : Result ℕ Status) → judged message answer
    → ((sum : ℕ) → AllAdded judged (before ++ message ∷ []) sum
    → Summed judged ((before ++ message ∷ []) ++ after))
    → Summed judged (before ++ message ∷ after)
add_next judged before total message after added (Err status) is next =
    inr (before, message, after, refl, total, added, status, inl is)
add_next judged before total message after added (Ok amount) is next =
    elim (cases_lt MAX_SUM (total + amount)) [
      | inl over ↦ inr (
        before,
        message,
        after,
        refl,
        total,
        added,
        status_of SumOutOfRange,
        inr (amount, is, over, refl),
      )
      | inr fits ↦
          (let more =
          sum_more judged before nothing message total amount (total + amount) (added, refl)
          is (fits, refl) in
          subst (λ (t : List (List ℕ)). Summed judged t) (append_assoc before (message ∷ []) after)
          (next (total + amount) more.0))
    ]

add_all : (judged : List ℕ → Result ℕ Status → Type 0) → HasVerdict judged
    → (before : List (List ℕ)) (total : ℕ) → AllAdded judged before total → (after : List (List ℕ))
    → Summed judged (before ++ after)
add_all judged some before total added [] =
    subst (λ (t : List (List ℕ)). Summed judged t) (sym (append-nil before)) (inl (total, added))
add_all judged some before total added (message ∷ after) =
    let found = some message in
    add_next judged before total message after added found.0 found.1
    (λ sum more. add_all judged some (before ++ message ∷ []) sum more after)

sum : (judged : List ℕ → Result ℕ Status → Type 0) → HasVerdict judged
    → HasAnswer (AnswersSum judged)
sum judged some messages ended =
    elim (add_all judged some [] 0 ([], tt, refl, lit≤ tt) messages) [
      | inl all ↦
          ((if ended then done (SumReply (pos all.0) ∷ []) else nothing), inl (all.0, all.1, refl))
      | inr by ↦ (ending [] by.6, inr (by.0, by.1, by.2, by.3, by.4, by.5, by.6, by.7, refl))
    ]

-- ---- the methods

pub some_empty_call : HasAnswer (AnswersSingle EmptyVerdict)
some_empty_call = single EmptyVerdict some_empty

pub some_unary_call : HasAnswer (AnswersSingle SimpleVerdict)
some_unary_call = single SimpleVerdict some_simple

pub some_output_call : HasAnswer (AnswersSingle OutputVerdict)
some_output_call = single OutputVerdict some_output

pub some_input_call : HasAnswer (AnswersSum InputVerdict)
some_input_call = sum InputVerdict some_input

pub some_full_duplex_call : HasAnswer (AnswersFull OutputVerdict)
some_full_duplex_call = full OutputVerdict some_output

pub some_half_duplex_call : HasAnswer (AnswersHalf OutputVerdict)
some_half_duplex_call = half OutputVerdict some_output
