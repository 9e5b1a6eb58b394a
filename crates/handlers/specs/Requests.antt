-- How one request is judged (gRPC's interop-test-descriptions.md; where it is silent, our own
-- rules). A verdict on bytes follows from the message that they are, or from their being none. A
-- second message to a method that takes one, and what follows a request that ends the call, need no
-- verdict.
use Rattle.std.specs.Prelude.{
  ◌≡◌,
  ℕ,
  ℤ,
  pos,
  negsuc,
  zero,
  suc,
  Bool,
  true,
  false,
  if◌then◌else◌,
  List,
  [],
  ◌∷◌,
  map,
  length,
  Option,
  Some,
  None,
  Result,
  Ok,
  Err,
  nat_le,
  unwrap_or,
}
use Rattle.grpc_status.specs.declared.StatusCode.{StatusCode}
use Rattle.grpc_status.specs.declared.StatusCode.TheVariants.{Unknown}
use Rattle.grpc_status.specs.StatusCode.{code_with}
use Rattle.pbwire.specs.Fields.{Field}
use Rattle.testproto.specs.Values.{IsValueOf}
use Rattle.testproto.specs.Messages.{
  AcceptsAll,
  IsEmpty,
  AcceptsSimpleRequest,
  IsSimpleRequest,
  AcceptsStreamingInputCallRequest,
  IsStreamingInputCallRequest,
  AcceptsStreamingOutputCallRequest,
  IsStreamingOutputCallRequest,
}
use Rattle.testproto.specs.declared.messages.Empty.{Empty as EmptyMessage}
use Rattle.testproto.specs.declared.messages.Payload.{Payload}
use Rattle.testproto.specs.declared.messages.BoolValue.{BoolValue}
use Rattle.testproto.specs.declared.messages.EchoStatus.{EchoStatus}
use Rattle.testproto.specs.declared.messages.SimpleRequest.{SimpleRequest}
use Rattle.testproto.specs.declared.messages.StreamingInputCallRequest.{StreamingInputCallRequest}
use Rattle.testproto.specs.declared.messages.ResponseParameters.{ResponseParameters}
use Rattle.testproto.specs.declared.messages.StreamingOutputCallRequest.{StreamingOutputCallRequest}
use Rattle.handlers.specs.declared.status.Status.{Status}
use Rattle.handlers.specs.declared.status.Refusal.TheVariants.{
  MalformedMessage,
  NotCompressed,
  BadResponseType,
  BadResponseSize,
}
use Rattle.handlers.specs.declared.reply.Reply.{Reply}
use Rattle.handlers.specs.declared.reply.Reply.TheVariants.{Empty, Zeros}
use Rattle.handlers.specs.Statuses.{status, status_of}

-- ---- reading

-- the message that the bytes are, or none if they are no message
abbrev pub IsRead : {M : Type 0} → (Field → Type 0) → (List Field → M → Type 0) → List ℕ
    → Option M → Type 0
IsRead accepts is_value bytes (Some message) = IsValueOf accepts is_value bytes message
IsRead {M} accepts is_value bytes None =
    (message : M) → IsValueOf accepts is_value bytes message → ⊥

-- The verdict on a request: a status that ends the call, or what the request asks for. A malformed
-- request ends the call.
abbrev pub verdict : {M A : Type 0} → (M → Result A Status) → Option M → Result A Status
verdict judge None = Err (status_of MalformedMessage)
verdict judge (Some message) = judge message

abbrev pub IsVerdict : {M A : Type 0} → (Field → Type 0) → (List Field → M → Type 0)
    → (M → Result A Status) → List ℕ → Result A Status → Type 0
IsVerdict {M} accepts is_value judge bytes answer =
    (read : Option M) × IsRead accepts is_value bytes read × (answer ≡ verdict judge read)

-- ---- the parts of a request

abbrev pub is_true : Option BoolValue → Bool
is_true None = false
is_true (Some flag) = flag.value

abbrev pub is_zero : ℤ → Bool
is_zero (pos zero) = true
is_zero (pos (suc n)) = false
is_zero (negsuc n) = false

-- the code with this number; where none has it, UNKNOWN
abbrev pub known_code : ℤ → StatusCode
known_code (pos number) = unwrap_or (code_with number) Unknown
known_code (negsuc number) = Unknown

-- the status that the request asks the call to end with, if its code isn't 0
abbrev pub asked_status : Option EchoStatus → Option Status
asked_status None = None
asked_status (Some echo) =
    if is_zero echo.code then None else Some (status (known_code echo.code) echo.message)

-- at most 4,000,000 bytes are answered
abbrev pub is_size : ℤ → Bool
is_size (pos size) = nat_le size 4000000
is_size (negsuc size) = false

abbrev pub zeros : ℤ → Reply
zeros (pos size) = Zeros size
zeros (negsuc size) = Zeros 0

-- ---- the causes, in order

abbrev pub unless_compressed : {A : Type 0} → Option BoolValue → Result A Status → Result A Status
unless_compressed expected others =
    if is_true expected then Err (status_of NotCompressed) else others

abbrev pub unless_asked : {A : Type 0} → Option Status → Result A Status → Result A Status
unless_asked None others = others
unless_asked (Some asked) others = Err asked

abbrev pub unless_typed : {A : Type 0} → ℤ → Result A Status → Result A Status
unless_typed kind others = if is_zero kind then others else Err (status_of BadResponseType)

abbrev pub all_sizes : List ResponseParameters → Bool
all_sizes [] = true
all_sizes (p ∷ ps) = if is_size p.size then all_sizes ps else false

abbrev pub zeros_of : ResponseParameters → Reply
zeros_of parameters = zeros parameters.size

abbrev pub judge_empty : EmptyMessage → Result (List Reply) Status
judge_empty message = Ok (Empty ∷ [])

abbrev pub judge_simple : SimpleRequest → Result (List Reply) Status
judge_simple request =
    unless_compressed request.expect_compressed
    (unless_asked (asked_status request.response_status)
    (unless_typed request.response_type
    (if is_size request.response_size then Ok (zeros request.response_size ∷ [])
    else Err (status_of BadResponseSize))))

abbrev pub judge_output : StreamingOutputCallRequest → Result (List Reply) Status
judge_output request =
    unless_asked (asked_status request.response_status)
    (unless_typed request.response_type
    (if all_sizes request.response_parameters then Ok (map zeros_of request.response_parameters)
    else Err (status_of BadResponseSize)))

-- an absent payload has no byte
abbrev pub body_length : Option Payload → ℕ
body_length None = 0
body_length (Some payload) = length payload.body

abbrev pub judge_input : StreamingInputCallRequest → Result ℕ Status
judge_input request = unless_compressed request.expect_compressed (Ok (body_length request.payload))

-- ---- by the method's type of request

abbrev pub EmptyVerdict : List ℕ → Result (List Reply) Status → Type 0
EmptyVerdict = IsVerdict AcceptsAll IsEmpty judge_empty

abbrev pub SimpleVerdict : List ℕ → Result (List Reply) Status → Type 0
SimpleVerdict = IsVerdict AcceptsSimpleRequest IsSimpleRequest judge_simple

abbrev pub InputVerdict : List ℕ → Result ℕ Status → Type 0
InputVerdict = IsVerdict AcceptsStreamingInputCallRequest IsStreamingInputCallRequest judge_input

abbrev pub OutputVerdict : List ℕ → Result (List Reply) Status → Type 0
OutputVerdict =
    IsVerdict AcceptsStreamingOutputCallRequest IsStreamingOutputCallRequest judge_output
