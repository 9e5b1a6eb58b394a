-- The bytes of a reply: the canonical spelling of the response message (messages.proto and
-- empty.proto of grpc.testing).
use Rattle.std.specs.Prelude.{
  ◌≡◌,
  ◌≤◌,
  length,
  ℕ,
  zero,
  suc,
  ℤ,
  pos,
  List,
  [],
  ◌++◌,
  replicate,
  Some,
  refl,
}
use Rattle.pbwire.specs.Spelling.{varint_spelling, spelling_of_all}
use Rattle.testproto.specs.declared.messages.Payload.{Payload}
use Rattle.testproto.specs.declared.messages.SimpleResponse.{SimpleResponse}
use Rattle.testproto.specs.declared.messages.StreamingInputCallResponse.{StreamingInputCallResponse}
use Rattle.testproto.specs.declared.messages.StreamingOutputCallResponse.{
  StreamingOutputCallResponse,
}
use Rattle.testproto.specs.Canonical.{
  payload_fields,
  simple_response_fields,
  streaming_input_call_response_fields,
  streaming_output_call_response_fields,
}
use Rattle.handlers.specs.declared.reply.Reply.{Reply}
use Rattle.handlers.specs.declared.reply.Reply.TheVariants.{Empty, Zeros, Sum}

-- zero bytes, of no declared type
abbrev pub zero_payload : ℕ → Payload
zero_payload size = record { kind = pos 0; body = replicate size 0 }

abbrev pub output_response : ℕ → StreamingOutputCallResponse
output_response size = record { payload = Some (zero_payload size) }

abbrev pub input_response : ℤ → StreamingInputCallResponse
input_response value = record { aggregated_payload_size = value }

abbrev pub reply_bytes : Reply → List ℕ
reply_bytes Empty = []
reply_bytes (Zeros size) =
    spelling_of_all (streaming_output_call_response_fields (output_response size))
reply_bytes (Sum value) =
    spelling_of_all (streaming_input_call_response_fields (input_response value))

-- with how many zeros of a payload the message ends
abbrev pub zero_count : Reply → ℕ
zero_count Empty = 0
zero_count (Zeros size) = size
zero_count (Sum value) = 0

-- the tag and the length of a body that has bytes
abbrev pub body_head : ℕ → List ℕ
body_head zero = []
body_head (suc n) = varint_spelling 18 ++ varint_spelling (suc n)

-- the bytes of the message before those zeros
abbrev pub front_bytes : Reply → List ℕ
front_bytes Empty = []
front_bytes (Zeros size) =
    varint_spelling 10
    ++ (varint_spelling (length (spelling_of_all (payload_fields (zero_payload size))))
    ++ body_head size)
front_bytes (Sum value) = reply_bytes (Sum value)

-- a reply that fits into a message of a call, which has at most 4 MiB (the default limit of gRPC)
abbrev pub IsShort : Reply → Type 0
IsShort reply = length (reply_bytes reply) ≤ 4194304

-- a SimpleResponse with that payload and neither name nor scope has the same spelling
abbrev pub simple_response : ℕ → SimpleResponse
simple_response size =
    record { payload = Some (zero_payload size); username = []; oauth_scope = [] }

pub both_responses : (size : ℕ)
    → spelling_of_all (simple_response_fields (simple_response size)) ≡ reply_bytes (Zeros size)
both_responses size = refl
