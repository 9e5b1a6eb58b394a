-- Worked judgements, answers and replies, computed.
use Rattle.std.specs.Prelude.{
  ◌≡◌,
  refl,
  ℕ,
  ℤ,
  pos,
  negsuc,
  true,
  false,
  List,
  [],
  ◌∷◌,
  Option,
  Some,
  None,
  Result,
  Ok,
  Err,
  codes,
}
use Rattle.std.proofs.Common.{inr, lit<, lit≤}
use Rattle.pbwire.specs.Spelling.{varint_spelling}
use Rattle.testproto.specs.declared.messages.BoolValue.{BoolValue}
use Rattle.testproto.specs.declared.messages.EchoStatus.{EchoStatus}
use Rattle.testproto.specs.declared.messages.SimpleRequest.{SimpleRequest}
use Rattle.grpc_status.specs.declared.StatusCode.TheVariants.{NotFound, Unauthenticated, Unknown}
use Rattle.handlers.specs.declared.status.Status.{Status}
use Rattle.handlers.specs.declared.status.Refusal.TheVariants.{
  NotCompressed,
  BadResponseType,
  BadResponseSize,
  SumOutOfRange,
  WrongNumber,
}
use Rattle.handlers.specs.declared.reply.Reply.{Reply}
use Rattle.handlers.specs.declared.reply.Reply.TheVariants.{Empty, Zeros, Sum}
use Rattle.handlers.specs.Statuses.{status, status_of}
use Rattle.handlers.specs.Steps.{nothing, ending, done, joined}
use Rattle.handlers.specs.Requests.{known_code, is_size, judge_simple}
use Rattle.handlers.specs.Answers.{AnswersSingle, AnswersFull, AnswersHalf, AnswersSum}
use Rattle.handlers.specs.Replies.{reply_bytes}

-- ---- the causes, in order

-- a request in which all is wrong but what is given here
abbrev pub wrong_request : Option BoolValue → Option EchoStatus → ℤ → SimpleRequest
wrong_request expected asked kind = record {
  response_type = kind;
  response_size = negsuc 0;
  payload = None;
  fill_username = false;
  fill_oauth_scope = false;
  response_compressed = None;
  response_status = asked;
  expect_compressed = expected;
}

abbrev pub echo : EchoStatus
echo = record { code = pos 17; message = codes "x" }

pub compression_first :
    judge_simple (wrong_request (Some (record { value = true })) (Some echo) (pos 1))
    ≡ Err (status_of NotCompressed)
compression_first = refl

pub then_the_asked_status : judge_simple (wrong_request None (Some echo) (pos 1))
    ≡ Err (status Unknown (codes "x"))
then_the_asked_status = refl

pub then_the_type : judge_simple (wrong_request None None (pos 1)) ≡ Err (status_of BadResponseType)
then_the_type = refl

pub then_the_size : judge_simple (wrong_request None None (pos 0)) ≡ Err (status_of BadResponseSize)
then_the_size = refl

pub greatest_code : known_code (pos 16) ≡ Unauthenticated
greatest_code = refl

pub unknown_code : known_code (negsuc 0) ≡ Unknown
unknown_code = refl

pub largest_size : is_size (pos 4000000) ≡ true
largest_size = refl

pub too_large_a_size : is_size (pos 4000001) ≡ false
too_large_a_size = refl

pub below_zero : is_size (negsuc 0) ≡ false
below_zero = refl

-- ---- answers: a message here is the size that it asks for, and an empty one asks for status 5

abbrev pub FirstNumber : List ℕ → Result (List Reply) Status → Type 0
FirstNumber [] verdict = verdict ≡ Err (status NotFound [])
FirstNumber (size ∷ others) verdict = verdict ≡ Ok (Zeros size ∷ [])

pub no_message : AnswersSingle FirstNumber [] true (ending [] (status_of WrongNumber))
no_message = refl

pub two_messages :
    AnswersSingle FirstNumber ((1 ∷ []) ∷ [] ∷ []) false (ending [] (status_of WrongNumber))
two_messages = (Ok (Zeros 1 ∷ []), refl, refl)

-- the third message isn't answered
pub ended_by_the_second :
    AnswersFull FirstNumber ((1 ∷ []) ∷ [] ∷ (3 ∷ []) ∷ []) true
    (ending (Zeros 1 ∷ []) (status NotFound []))
ended_by_the_second = inr (
  (1 ∷ []) ∷ [],
  [],
  (3 ∷ []) ∷ [],
  refl,
  (Zeros 1 ∷ []) ∷ [],
  (refl, tt),
  status NotFound [],
  refl,
  refl,
)

pub nothing_before_the_end : AnswersHalf FirstNumber ((1 ∷ []) ∷ [] ∷ []) false nothing
nothing_before_the_end = refl

-- a message here is the length that it adds
abbrev pub FirstLength : List ℕ → Result ℕ Status → Type 0
FirstLength [] verdict = verdict ≡ Ok 0
FirstLength (length ∷ others) verdict = verdict ≡ Ok length

pub sum_passed :
    AnswersSum FirstLength ((2147483647 ∷ []) ∷ (1 ∷ []) ∷ []) false
    (ending [] (status_of SumOutOfRange))
sum_passed = inr (
  (2147483647 ∷ []) ∷ [],
  1 ∷ [],
  [],
  refl,
  2147483647,
  (2147483647 ∷ [], (refl, tt), refl, lit≤ tt),
  status_of SumOutOfRange,
  inr (1, refl, lit< tt, refl),
  refl,
)

-- what follows a status changes nothing
pub first_status_stays : joined (ending (Zeros 1 ∷ []) (status NotFound [])) (done [])
    ≡ ending (Zeros 1 ∷ []) (status NotFound [])
first_status_stays = refl

-- ---- the bytes of replies

pub no_bytes : reply_bytes Empty ≡ []
no_bytes = refl

pub payload_of_none : reply_bytes (Zeros 0) ≡ 10 ∷ 0 ∷ []
unfolding varint_spelling
payload_of_none = refl

pub payload_of_one : reply_bytes (Zeros 1) ≡ 10 ∷ 3 ∷ 18 ∷ 1 ∷ 0 ∷ []
unfolding varint_spelling
payload_of_one = refl

pub sum_of_four : reply_bytes (Sum (pos 74922)) ≡ 8 ∷ 170 ∷ 201 ∷ 4 ∷ []
unfolding varint_spelling
sum_of_four = refl
