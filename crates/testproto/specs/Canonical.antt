-- The fields that are written of each message: by ascending number, defaults left out.
use Rattle.std.specs.Prelude.{
  ℕ,
  zero,
  suc,
  ◌^◌,
  ◌<◌,
  ℤ,
  pos,
  negsuc,
  Bool,
  true,
  false,
  List,
  [],
  ◌∷◌,
  ◌++◌,
  map,
  length,
  Option,
  Some,
  None,
}
use Rattle.std.specs.Int.{w64, cast_unsigned}
use Rattle.pbwire.specs.Fields.{Field, field_with, varint, bytes}
use Rattle.pbwire.specs.Spelling.{spelling_of_all}
use Rattle.testproto.specs.Values.{IsValueOf}
use Rattle.testproto.specs.declared.messages.Empty.{Empty}
use Rattle.testproto.specs.declared.messages.Payload.{Payload}
use Rattle.testproto.specs.declared.messages.BoolValue.{BoolValue}
use Rattle.testproto.specs.declared.messages.EchoStatus.{EchoStatus}
use Rattle.testproto.specs.declared.messages.SimpleRequest.{SimpleRequest}
use Rattle.testproto.specs.declared.messages.SimpleResponse.{SimpleResponse}
use Rattle.testproto.specs.declared.messages.StreamingInputCallRequest.{StreamingInputCallRequest}
use Rattle.testproto.specs.declared.messages.StreamingInputCallResponse.{StreamingInputCallResponse}
use Rattle.testproto.specs.declared.messages.ResponseParameters.{ResponseParameters}
use Rattle.testproto.specs.declared.messages.StreamingOutputCallRequest.{StreamingOutputCallRequest}
use Rattle.testproto.specs.declared.messages.StreamingOutputCallResponse.{
  StreamingOutputCallResponse,
}

-- a negative number is written as the 64 bits that have the same low 32
abbrev pub int32_fields : ℕ → ℤ → List Field
int32_fields number (pos zero) = []
int32_fields number (pos (suc n)) = field_with number (varint (suc n)) ∷ []
int32_fields number (negsuc n) = field_with number (varint (cast_unsigned w64 (negsuc n))) ∷ []

abbrev pub bool_fields : ℕ → Bool → List Field
bool_fields number false = []
bool_fields number true = field_with number (varint 1) ∷ []

-- bytes, or a string
abbrev pub bytes_fields : ℕ → List ℕ → List Field
bytes_fields number [] = []
bytes_fields number (b ∷ bs) = field_with number (bytes (b ∷ bs)) ∷ []

abbrev pub message_field : {M : Type 0} → (M → List Field) → ℕ → M → Field
message_field fields_of number message =
    field_with number (bytes (spelling_of_all (fields_of message)))

-- a message that is present is written, also when it has no fields
abbrev pub message_fields : {M : Type 0} → (M → List Field) → ℕ → Option M → List Field
message_fields fields_of number None = []
message_fields fields_of number (Some message) = message_field fields_of number message ∷ []

abbrev pub repeated_fields : {M : Type 0} → (M → List Field) → ℕ → List M → List Field
repeated_fields fields_of number messages = map (message_field fields_of number) messages

abbrev pub empty_fields : Empty → List Field
empty_fields message = []

abbrev pub payload_fields : Payload → List Field
payload_fields m = int32_fields 1 m.kind ++ bytes_fields 2 m.body

abbrev pub bool_value_fields : BoolValue → List Field
bool_value_fields m = bool_fields 1 m.value

abbrev pub echo_status_fields : EchoStatus → List Field
echo_status_fields m = int32_fields 1 m.code ++ bytes_fields 2 m.message

abbrev pub simple_request_fields : SimpleRequest → List Field
simple_request_fields m =
    int32_fields 1 m.response_type
    ++ int32_fields 2 m.response_size
    ++ message_fields payload_fields 3 m.payload
    ++ bool_fields 4 m.fill_username
    ++ bool_fields 5 m.fill_oauth_scope
    ++ message_fields bool_value_fields 6 m.response_compressed
    ++ message_fields echo_status_fields 7 m.response_status
    ++ message_fields bool_value_fields 8 m.expect_compressed

abbrev pub simple_response_fields : SimpleResponse → List Field
simple_response_fields m =
    message_fields payload_fields 1 m.payload ++ bytes_fields 2 m.username
    ++ bytes_fields 3 m.oauth_scope

abbrev pub streaming_input_call_request_fields : StreamingInputCallRequest → List Field
streaming_input_call_request_fields m =
    message_fields payload_fields 1 m.payload
    ++ message_fields bool_value_fields 2 m.expect_compressed

abbrev pub streaming_input_call_response_fields : StreamingInputCallResponse → List Field
streaming_input_call_response_fields m = int32_fields 1 m.aggregated_payload_size

abbrev pub response_parameters_fields : ResponseParameters → List Field
response_parameters_fields m =
    int32_fields 1 m.size ++ int32_fields 2 m.interval_us
    ++ message_fields bool_value_fields 3 m.compressed

abbrev pub streaming_output_call_request_fields : StreamingOutputCallRequest → List Field
streaming_output_call_request_fields m =
    int32_fields 1 m.response_type
    ++ repeated_fields response_parameters_fields 2 m.response_parameters
    ++ message_fields payload_fields 3 m.payload
    ++ message_fields echo_status_fields 7 m.response_status

abbrev pub streaming_output_call_response_fields : StreamingOutputCallResponse → List Field
streaming_output_call_response_fields m = message_fields payload_fields 1 m.payload

-- ---- the law of the canonical spelling

-- What is written of a message that can be, where it fits into memory, has that message as its
-- value.
abbrev pub IsReadBack : {M : Type 0} → (M → Type 0) → (M → List Field) → (Field → Type 0)
    → (List Field → M → Type 0) → Type 0
IsReadBack {M} fits fields_of accepts is_value =
    (message : M) → fits message → length (spelling_of_all (fields_of message)) < 2 ^ 64
    → IsValueOf accepts is_value (spelling_of_all (fields_of message)) message
