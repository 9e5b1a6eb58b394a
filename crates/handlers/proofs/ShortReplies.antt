-- Each reply fits into a message of a call.
use Rattle.std.proofs.Common.{
  ◌≡◌,
  ℕ,
  zero,
  suc,
  ◌+◌,
  ◌≤◌,
  ℤ,
  pos,
  negsuc,
  Bool,
  true,
  false,
  if◌then◌else◌,
  List,
  [],
  ◌∷◌,
  ◌++◌,
  length,
  map,
  Option,
  Some,
  None,
  Result,
  Ok,
  Err,
  refl,
  sym,
  subst,
  inl,
  inr,
  append-nil,
  arith,
  lit≤,
}
use Rattle.std.specs.Prelude.{◌/◌, ◌%◌, replicate, IfOk, nat_lt}
use Rattle.std.specs.Int.{w64, cast_unsigned}
use Rattle.std.specs.List.{AllByRecursion}
use Rattle.std.proofs.lemmas.Bool.{leb-true}
use Rattle.std.proofs.lemmas.List.{length-append}
use Rattle.pbwire.specs.Fields.{Field}
use Rattle.pbwire.specs.Spelling.{varint_spelling, spelling_of_all, varint_within}
use Rattle.testproto.specs.Parts.{all_append}
use Rattle.testproto.specs.Messages.{
  AcceptsAll,
  IsEmpty,
  AcceptsSimpleRequest,
  IsSimpleRequest,
  AcceptsStreamingOutputCallRequest,
  IsStreamingOutputCallRequest,
}
use Rattle.testproto.specs.Canonical.{payload_fields}
use Rattle.testproto.specs.declared.messages.BoolValue.{BoolValue}
use Rattle.testproto.specs.declared.messages.SimpleRequest.{SimpleRequest}
use Rattle.testproto.specs.declared.messages.ResponseParameters.{ResponseParameters}
use Rattle.testproto.specs.declared.messages.StreamingOutputCallRequest.{StreamingOutputCallRequest}
use Rattle.handlers.specs.declared.status.Status.{Status}
use Rattle.handlers.specs.declared.reply.Reply.{Reply}
use Rattle.handlers.specs.declared.reply.Reply.TheVariants.{Zeros, Sum as SumReply}
use Rattle.handlers.specs.declared.step.MethodStep.{MethodStep}
use Rattle.handlers.specs.declared.status.Refusal.TheVariants.{NotCompressed, WrongNumber}
use Rattle.handlers.specs.Statuses.{status_of}
use Rattle.handlers.specs.Steps.{nothing, ending, done, replying}
use Rattle.handlers.specs.Replies.{reply_bytes, zero_payload, IsShort}
use Rattle.handlers.specs.Requests.{
  IsVerdict,
  verdict,
  is_true,
  is_size,
  zeros,
  zeros_of,
  all_sizes,
  asked_status,
  unless_compressed,
  unless_asked,
  unless_typed,
  judge_empty,
  judge_simple,
  judge_output,
  EmptyVerdict,
  SimpleVerdict,
  InputVerdict,
  OutputVerdict,
}
use Rattle.handlers.specs.Answers.{
  AreTaken,
  AnswersSingle,
  single_answer,
  AnswersFull,
  AnswersHalf,
  AnswersSum,
  HasShortReplies,
  flatten,
}

-- ---- lengths

within : (more n : ℕ) → length (varint_within more n) ≤ suc more
within zero n = lit≤ tt
within (suc more) n =
    elim (nat_lt n 128) as (λ low.
    length (if low then n ∷ [] else (n % 128 + 128) ∷ varint_within more (n / 128))
    ≤ suc (suc more)) [
      | true ↦ omega arith
      | false ↦
          (let behind : length (varint_within more (n / 128)) ≤ suc more = within more (n / 128) in
          omega arith)
    ]

varint_short : (n : ℕ) → length (varint_spelling n) ≤ 10
unfolding varint_spelling
varint_short n = within 9 n

-- a tag, a length and a content
field_short : (tag len content : List ℕ) (n : ℕ) → length tag ≤ 10 → length len ≤ 10
    → length content ≤ n → length ((tag ++ (len ++ content)) ++ []) ≤ n + 20
field_short tag len content n short_tag short_len short_content =
    omega (
      arith,
      length-append (tag ++ (len ++ content)) [],
      length-append tag (len ++ content),
      length-append len content,
    )

abbrev zero_body : ℕ → List ℕ
zero_body size = replicate size 0

zeros_len : (size : ℕ) → length (zero_body size) ≤ size
zeros_len zero = lit≤ tt
zeros_len (suc size) = let rest : length (zero_body size) ≤ size = zeros_len size in omega arith

-- a body of this many bytes, as a field
body_short : (size : ℕ) → length (spelling_of_all (payload_fields (zero_payload size))) ≤ size + 20
body_short zero = omega arith
body_short (suc size) =
    field_short (varint_spelling 18) (varint_spelling (length (zero_body (suc size))))
    (zero_body (suc size)) (suc size)
    (varint_short 18) (varint_short (length (zero_body (suc size)))) (zeros_len (suc size))

zeros_short : (size : ℕ) → size ≤ 4000000 → IsShort (Zeros size)
zeros_short size small =
    let body = spelling_of_all (payload_fields (zero_payload size)) in
    let whole : length (reply_bytes (Zeros size)) ≤ (size + 20) + 20 =
    field_short (varint_spelling 10) (varint_spelling (length body)) body (size + 20)
    (varint_short 10) (varint_short (length body)) (body_short size) in
    omega arith

sum_short : (value : ℤ) → IsShort (SumReply value)
sum_short (pos zero) = omega arith
sum_short (pos (suc n)) =
    let tag = varint_short 8 in
    let number = varint_short (suc n) in
    simp (length-append, append-nil) (omega arith)
sum_short (negsuc n) =
    let tag = varint_short 8 in
    let number = varint_short (cast_unsigned w64 (negsuc n)) in
    simp (length-append, append-nil) (omega arith)

-- ---- what a request asks for

abbrev AreShort : List Reply → Type 0
AreShort replies = AllByRecursion IsShort replies

size_short : (size : ℤ) → is_size size ≡ true → IsShort (zeros size)
size_short (pos size) is = zeros_short size (leb-true size 4000000 is)
size_short (negsuc size) is = zeros_short 0 (lit≤ tt)

-- what is Ok has short replies
abbrev Asks : Result (List Reply) Status → Type 0
Asks verdict = IfOk verdict AreShort

unless : (flag : Bool) (status : Status) (others : Result (List Reply) Status) → Asks others
    → Asks (if flag then Err status else others)
unless true status others short = tt
unless false status others short = short

unless_compressed_short : (expected : Option BoolValue) (others : Result (List Reply) Status)
    → Asks others → Asks (unless_compressed expected others)
unless_compressed_short expected others short =
    unless (is_true expected) (status_of NotCompressed) others short

unless_asked_short : (asked : Option Status) (others : Result (List Reply) Status) → Asks others
    → Asks (unless_asked asked others)
unless_asked_short None others short = short
unless_asked_short (Some status) others short = tt

unless_typed_short : (kind : ℤ) (others : Result (List Reply) Status) → Asks others
    → Asks (unless_typed kind others)
unless_typed_short (pos zero) others short = short
unless_typed_short (pos (suc n)) others short = tt
unless_typed_short (negsuc n) others short = tt

one_size : (size : ℤ) (fits : Bool) (status : Status) → is_size size ≡ fits
    → Asks (if fits then Ok (zeros size ∷ []) else Err status)
one_size size true status is = (size_short size is, tt)
one_size size false status is = tt

simple_short : (request : SimpleRequest) → Asks (judge_simple request)
simple_short request =
    unless_compressed_short request.expect_compressed _
    (unless_asked_short (asked_status request.response_status) _
    (unless_typed_short request.response_type _
    (one_size request.response_size (is_size request.response_size) _ refl)))

size_and_more : (p : ResponseParameters) (ps : List ResponseParameters) (fits : Bool)
    → is_size p.size ≡ fits → (if fits then all_sizes ps else false) ≡ true
    → (all_sizes ps ≡ true → AreShort (map zeros_of ps)) → AreShort (map zeros_of (p ∷ ps))
size_and_more p ps true is rest others = (size_short p.size is, others rest)
size_and_more p ps false is rest others = cc

sizes_short : (parameters : List ResponseParameters) → all_sizes parameters ≡ true
    → AreShort (map zeros_of parameters)
sizes_short [] all = tt
sizes_short (p ∷ ps) all = size_and_more p ps (is_size p.size) refl all (sizes_short ps)

all_of_them : (parameters : List ResponseParameters) (fits : Bool) (status : Status)
    → all_sizes parameters ≡ fits → Asks (if fits then Ok (map zeros_of parameters) else Err status)
all_of_them parameters true status is = sizes_short parameters is
all_of_them parameters false status is = tt

output_short : (request : StreamingOutputCallRequest) → Asks (judge_output request)
output_short request =
    unless_asked_short (asked_status request.response_status) _
    (unless_typed_short request.response_type _
    (all_of_them request.response_parameters (all_sizes request.response_parameters) _ refl))

-- ---- what a request is answered

abbrev AsksShort : (List ℕ → Result (List Reply) Status → Type 0) → Type 0
AsksShort judged =
    (message : List ℕ) (answer : Result (List Reply) Status) → judged message answer → Asks answer

of_read : {M : Type 0} (judge : M → Result (List Reply) Status)
    → ((request : M) → Asks (judge request)) → (read : Option M) → Asks (verdict judge read)
of_read judge short None = tt
of_read judge short (Some request) = short request

asks_short : {M : Type 0} (accepts : Field → Type 0) (is_value : List Field → M → Type 0)
    (judge : M → Result (List Reply) Status)
    → ((request : M) → Asks (judge request))
    → AsksShort (IsVerdict accepts is_value judge)
asks_short accepts is_value judge short message answer is =
    subst (λ (v : Result (List Reply) Status). Asks v) (sym is.2) (of_read judge short is.0)

empty_asks : AsksShort EmptyVerdict
empty_asks = asks_short AcceptsAll IsEmpty judge_empty (λ request. (lit≤ tt, tt))

simple_asks : AsksShort SimpleVerdict
simple_asks = asks_short AcceptsSimpleRequest IsSimpleRequest judge_simple simple_short

output_asks : AsksShort OutputVerdict
output_asks =
    asks_short AcceptsStreamingOutputCallRequest IsStreamingOutputCallRequest
    judge_output output_short

-- ---- answers

of_same : (answer other : MethodStep) → answer ≡ other → AreShort other.replies
    → AreShort answer.replies
of_same answer other same short =
    subst (λ (step : MethodStep). AreShort step.replies) (sym same) short

none_short : (ended : Bool)
    → AreShort (if ended then ending [] (status_of WrongNumber) else nothing).replies
none_short true = tt
none_short false = tt

after_short : (found : Result (List Reply) Status) (others : List (List ℕ)) (ended : Bool)
    → Asks found → AreShort (single_answer found others ended).replies
after_short (Err status) others ended short = tt
after_short (Ok replies) (second ∷ others) ended short = tt
after_short (Ok replies) [] true short = short
after_short (Ok replies) [] false short = tt

single : (judged : List ℕ → Result (List Reply) Status → Type 0) → AsksShort judged
    → HasShortReplies (AnswersSingle judged)
single judged short [] ended answer is = of_same answer _ is (none_short ended)
single judged short (message ∷ others) ended answer is =
    of_same answer _ is.2 (after_short is.0 others ended (short message is.0 is.1))

taken_short : (judged : List ℕ → Result (List Reply) Status → Type 0) → AsksShort judged
    → (messages : List (List ℕ)) (asked : List (List Reply)) → AreTaken judged messages asked
    → AreShort (flatten asked)
taken_short judged short [] [] taken = tt
taken_short judged short [] (replies ∷ asked) taken = absurd taken
taken_short judged short (message ∷ messages) [] taken = absurd taken
taken_short judged short (message ∷ messages) (replies ∷ asked) taken =
    all_append IsShort replies (flatten asked) (short message (Ok replies) taken.0)
    (taken_short judged short messages asked taken.1)

all_short : (replies : List Reply) (ended : Bool) → AreShort replies
    → AreShort (if ended then done replies else replying replies).replies
all_short replies true short = short
all_short replies false short = short

full : (judged : List ℕ → Result (List Reply) Status → Type 0) → AsksShort judged
    → HasShortReplies (AnswersFull judged)
full judged short messages ended answer (inl all) =
    of_same answer _ all.2
    (all_short (flatten all.0) ended (taken_short judged short messages all.0 all.1))
full judged short messages ended answer (inr by) =
    of_same answer _ by.8 (taken_short judged short by.0 by.4 by.5)

half : (judged : List ℕ → Result (List Reply) Status → Type 0) → AsksShort judged
    → HasShortReplies (AnswersHalf judged)
half judged short messages false answer is = of_same answer _ is tt
half judged short messages true answer is = full judged short messages true answer is

total_short : (total : ℕ) (ended : Bool)
    → AreShort (if ended then done (SumReply (pos total) ∷ []) else nothing).replies
total_short total true = (sum_short (pos total), tt)
total_short total false = tt

sum : (judged : List ℕ → Result ℕ Status → Type 0) → HasShortReplies (AnswersSum judged)
sum judged messages ended answer (inl all) = of_same answer _ all.2 (total_short all.0 ended)
sum judged messages ended answer (inr by) = of_same answer _ by.8 tt

-- ---- the methods

pub short_empty_call : HasShortReplies (AnswersSingle EmptyVerdict)
short_empty_call = single EmptyVerdict empty_asks

pub short_unary_call : HasShortReplies (AnswersSingle SimpleVerdict)
short_unary_call = single SimpleVerdict simple_asks

pub short_output_call : HasShortReplies (AnswersSingle OutputVerdict)
short_output_call = single OutputVerdict output_asks

pub short_input_call : HasShortReplies (AnswersSum InputVerdict)
short_input_call = sum InputVerdict

pub short_full_duplex_call : HasShortReplies (AnswersFull OutputVerdict)
short_full_duplex_call = full OutputVerdict output_asks

pub short_half_duplex_call : HasShortReplies (AnswersHalf OutputVerdict)
short_half_duplex_call = half OutputVerdict output_asks
