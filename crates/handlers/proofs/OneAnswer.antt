-- A list of messages has one answer.
use Rattle.std.proofs.Common.{
  ◌≡◌,
  ℕ,
  true,
  false,
  if◌then◌else◌,
  List,
  [],
  ◌∷◌,
  ◌++◌,
  Option,
  Some,
  None,
  Result,
  Ok,
  Err,
  refl,
  sym,
  ap,
  subst,
  ◌∙◌,
  inl,
  inr,
}
use Rattle.pbwire.specs.Fields.{Field}
use Rattle.testproto.specs.Unique.{IsSingle, one_value_of}
use Rattle.testproto.specs.Laws.{
  one_empty as one_empty_message,
  one_simple_request,
  one_streaming_output_call_request,
}
use Rattle.testproto.specs.Messages.{
  AcceptsAll,
  IsEmpty,
  AcceptsSimpleRequest,
  IsSimpleRequest,
  AcceptsStreamingOutputCallRequest,
  IsStreamingOutputCallRequest,
}
use Rattle.handlers.specs.declared.status.Status.{Status}
use Rattle.handlers.specs.declared.reply.Reply.{Reply}
use Rattle.handlers.specs.Steps.{ending, done, replying}
use Rattle.handlers.specs.Requests.{
  IsRead,
  IsVerdict,
  verdict,
  judge_empty,
  judge_simple,
  judge_output,
  EmptyVerdict,
  SimpleVerdict,
  OutputVerdict,
}
use Rattle.handlers.specs.Answers.{
  AnswersSingle,
  single_answer,
  AreTaken,
  AnswersFull,
  AnswersHalf,
  HasOneAnswer,
  flatten,
}

-- ---- a request has one verdict

abbrev pub IsOneVerdict : {A : Type 0} → (List ℕ → Result A Status → Type 0) → Type 0
IsOneVerdict {A} judged =
    (message : List ℕ) (verdict other : Result A Status) → judged message verdict
    → judged message other → verdict ≡ other

one_read : {M : Type 0} (accepts : Field → Type 0) (is_value : List Field → M → Type 0)
    (single : IsSingle is_value) (bytes : List ℕ) (read other : Option M)
    → IsRead accepts is_value bytes read → IsRead accepts is_value bytes other → read ≡ other
one_read accepts is_value single bytes None None is also = refl
one_read accepts is_value single bytes None (Some value) is also = absurd (is value also)
one_read accepts is_value single bytes (Some value) None is also = absurd (also value is)
one_read {M} accepts is_value single bytes (Some value) (Some other) is also =
    ap (λ (m : M). Some m) (one_value_of accepts is_value single bytes value other is also)

pub one_verdict : {M A : Type 0} (accepts : Field → Type 0) (is_value : List Field → M → Type 0)
    (judge : M → Result A Status) (single : IsSingle is_value)
    → IsOneVerdict (IsVerdict accepts is_value judge)
one_verdict {M} accepts is_value judge single = λ message first other is also.
    is.2
    ∙ ap (λ (read : Option M). verdict judge read)
    (one_read accepts is_value single message is.0 also.0 is.1 also.1)
    ∙ sym also.2

pub one_output : IsOneVerdict OutputVerdict
one_output =
    one_verdict AcceptsStreamingOutputCallRequest IsStreamingOutputCallRequest judge_output
    one_streaming_output_call_request

-- ---- one message

one_single : (judged : List ℕ → Result (List Reply) Status → Type 0) → IsOneVerdict judged
    → HasOneAnswer (AnswersSingle judged)
one_single judged one [] ended answer other is also = is ∙ sym also
one_single judged one (message ∷ others) ended answer other is also =
    is.2
    ∙ ap (λ (v : Result (List Reply) Status). single_answer v others ended)
    (one message is.0 also.0 is.1 also.1)
    ∙ sym also.2

-- ---- any number of messages

pub ok_same : {A : Type 0} (a b : A) → Path (Result A Status) (Ok a) (Ok b) → a ≡ b
ok_same a b same = cc

pub err_same : {A : Type 0} (a b : Status) → Path (Result A Status) (Err a) (Err b) → a ≡ b
err_same a b same = cc

pub not_both : {A : Type 0} (judged : List ℕ → Result A Status → Type 0) → IsOneVerdict judged
    → (message : List ℕ) (a : A) (status : Status) → judged message (Ok a)
    → judged message (Err status) → ⊥
not_both judged one message a status is also =
    let same = one message (Ok a) (Err status) is also in
    cc

pub head_same : (a b : List ℕ) (xs ys : List (List ℕ)) → a ∷ xs ≡ b ∷ ys → a ≡ b
head_same a b xs ys same = cc

pub tail_same : (a b : List ℕ) (xs ys : List (List ℕ)) → a ∷ xs ≡ b ∷ ys → xs ≡ ys
tail_same a b xs ys same = cc

pub one_taken : {A : Type 0} (judged : List ℕ → Result A Status → Type 0) → IsOneVerdict judged
    → (messages : List (List ℕ)) (asked others : List A)
    → AreTaken judged messages asked → AreTaken judged messages others → asked ≡ others
one_taken judged one [] [] [] is also = refl
one_taken judged one [] [] (b ∷ ys) is also = absurd also
one_taken judged one [] (a ∷ xs) others is also = absurd is
one_taken judged one (message ∷ messages) [] others is also = absurd is
one_taken judged one (message ∷ messages) (a ∷ xs) [] is also = absurd also
one_taken {A} judged one (message ∷ messages) (a ∷ xs) (b ∷ ys) is also =
    let first : a ≡ b = ok_same a b (one message (Ok a) (Ok b) is.0 also.0) in
    ap (λ (x : A). x ∷ xs) first
    ∙ ap (λ (l : List A). b ∷ l) (one_taken judged one messages xs ys is.1 also.1)

-- messages that are all taken have none among them that ends the call
pub all_taken : {A : Type 0} (judged : List ℕ → Result A Status → Type 0) → IsOneVerdict judged
    → (before : List (List ℕ)) (last : List ℕ) (after : List (List ℕ)) (asked : List A)
    (status : Status)
    → AreTaken judged (before ++ last ∷ after) asked → judged last (Err status) → ⊥
all_taken judged one [] last after [] status taken ends = taken
all_taken judged one [] last after (a ∷ xs) status taken ends =
    not_both judged one last a status taken.0 ends
all_taken judged one (message ∷ before) last after [] status taken ends = taken
all_taken judged one (message ∷ before) last after (a ∷ xs) status taken ends =
    all_taken judged one before last after xs status taken.1 ends

-- the first message that ends the call is one place
pub one_place : {A : Type 0} (judged : List ℕ → Result A Status → Type 0) → IsOneVerdict judged
    → (before others : List (List ℕ)) (last other : List ℕ) (after more : List (List ℕ))
    (asked also_asked : List A) (status also_status : Status)
    → AreTaken judged before asked → AreTaken judged others also_asked → judged last (Err status)
    → judged other (Err also_status)
    → before ++ last ∷ after ≡ others ++ other ∷ more → (before ≡ others) × (last ≡ other)
one_place judged one [] [] last other after more asked also_asked status also_status taken also ends
    also_ends same = (refl, head_same last other after more same)
one_place judged one [] (o ∷ os) last other after more asked [] status also_status taken also ends
    also_ends same = absurd also
one_place judged one [] (o ∷ os) last other after more asked (a ∷ xs) status also_status taken also
    ends also_ends same =
    absurd (not_both judged one o a status also.0
    (subst (λ m. judged m (Err status)) (head_same last o after (os ++ other ∷ more) same) ends))
one_place judged one (m ∷ ms) [] last other after more [] also_asked status also_status taken also
    ends also_ends same = absurd taken
one_place judged one (m ∷ ms) [] last other after more (a ∷ xs) also_asked status also_status taken
    also ends also_ends same =
    absurd (not_both judged one m a also_status taken.0 (subst (λ m. judged m (Err also_status))
    (sym (head_same m other (ms ++ last ∷ after) more same)) also_ends))
one_place judged one (m ∷ ms) (o ∷ os) last other after more [] also_asked status also_status taken
    also ends also_ends same = absurd taken
one_place judged one (m ∷ ms) (o ∷ os) last other after more (a ∷ xs) [] status also_status taken
    also ends also_ends same = absurd also
one_place judged one (m ∷ ms) (o ∷ os) last other after more (a ∷ xs) (b ∷ ys) status also_status
    taken also ends also_ends same =
    let rest =
    one_place judged one ms os last other after more xs ys status also_status taken.1 also.1 ends
    also_ends (tail_same m o (ms ++ last ∷ after) (os ++ other ∷ more) same) in
    let first = head_same m o (ms ++ last ∷ after) (os ++ other ∷ more) same in
    (ap (λ (x : List ℕ). x ∷ ms) first ∙ ap (λ (l : List (List ℕ)). o ∷ l) rest.0, rest.1)

one_full : (judged : List ℕ → Result (List Reply) Status → Type 0) → IsOneVerdict judged
    → HasOneAnswer (AnswersFull judged)
one_full judged one messages ended answer other (inl all) (inl also) =
    all.2
    ∙ ap (λ (asked : List (List Reply)).
    if ended then done (flatten asked) else replying (flatten asked))
    (one_taken judged one messages all.0 also.0 all.1 also.1)
    ∙ sym also.2
one_full judged one messages ended answer other (inl all) (inr by) =
    absurd (all_taken judged one by.0 by.1 by.2 all.0 by.6
    (subst (λ ms. AreTaken judged ms all.0) by.3 all.1) by.7)
one_full judged one messages ended answer other (inr by) (inl all) =
    absurd (all_taken judged one by.0 by.1 by.2 all.0 by.6
    (subst (λ ms. AreTaken judged ms all.0) by.3 all.1) by.7)
one_full judged one messages ended answer other (inr by) (inr also) =
    let place =
    one_place judged one by.0 also.0 by.1 also.1 by.2 also.2 by.4 also.4 by.6 also.6 by.5 also.5
    by.7 also.7 (sym by.3 ∙ also.3) in
    let asked =
    one_taken judged one also.0 by.4 also.4
    (subst (λ ms. AreTaken judged ms by.4) place.0 by.5) also.5 in
    let status =
    err_same by.6 also.6
    (one also.1 (Err by.6) (Err also.6) (subst (λ m. judged m (Err by.6)) place.1 by.7) also.7) in
    by.8 ∙ ap (λ (a : List (List Reply)). ending (flatten a) by.6) asked
    ∙ ap (λ (s : Status). ending (flatten also.4) s) status ∙ sym also.8

one_half : (judged : List ℕ → Result (List Reply) Status → Type 0) → IsOneVerdict judged
    → HasOneAnswer (AnswersHalf judged)
one_half judged one messages false answer other is also = is ∙ sym also
one_half judged one messages true answer other is also =
    one_full judged one messages true answer other is also

-- ---- by the method

pub one_empty_call : HasOneAnswer (AnswersSingle EmptyVerdict)
one_empty_call =
    one_single EmptyVerdict (one_verdict AcceptsAll IsEmpty judge_empty one_empty_message)

pub one_unary_call : HasOneAnswer (AnswersSingle SimpleVerdict)
one_unary_call =
    one_single SimpleVerdict
    (one_verdict AcceptsSimpleRequest IsSimpleRequest judge_simple one_simple_request)

pub one_output_call : HasOneAnswer (AnswersSingle OutputVerdict)
one_output_call = one_single OutputVerdict one_output

pub one_full_duplex_call : HasOneAnswer (AnswersFull OutputVerdict)
one_full_duplex_call = one_full OutputVerdict one_output

pub one_half_duplex_call : HasOneAnswer (AnswersHalf OutputVerdict)
one_half_duplex_call = one_half OutputVerdict one_output
