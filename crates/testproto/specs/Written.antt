-- What is written of a message has that message as its value: the law of each message.
use Rattle.std.specs.Prelude.{List, [], ◌∷◌, Option, Some, None, IfSome, refl}
use Rattle.std.proofs.Common.{lit≤}
use Rattle.testproto.specs.Values.{AcceptsText, AcceptsMessage}
use Rattle.testproto.specs.Messages.{
  AcceptsAll,
  IsEmpty,
  IsPayload,
  IsBoolValue,
  IsEchoStatus,
  IsSimpleRequest,
  IsSimpleResponse,
  IsStreamingInputCallRequest,
  IsStreamingInputCallResponse,
  IsResponseParameters,
  IsStreamingOutputCallRequest,
  IsStreamingOutputCallResponse,
  AcceptsEchoStatus,
  AcceptsSimpleRequest,
  AcceptsSimpleResponse,
  AcceptsStreamingInputCallRequest,
  AcceptsResponseParameters,
  AcceptsStreamingOutputCallRequest,
  AcceptsStreamingOutputCallResponse,
}
use Rattle.testproto.specs.Canonical.{
  empty_fields,
  payload_fields,
  bool_value_fields,
  echo_status_fields,
  simple_request_fields,
  simple_response_fields,
  streaming_input_call_request_fields,
  streaming_input_call_response_fields,
  response_parameters_fields,
  streaming_output_call_request_fields,
  streaming_output_call_response_fields,
  IsReadBack,
}
use Rattle.testproto.specs.Fits.{
  FitsAlways,
  FitsPayload,
  FitsEchoStatus,
  FitsSimpleRequest,
  FitsSimpleResponse,
  FitsStreamingInputCallRequest,
  FitsStreamingInputCallResponse,
  FitsResponseParameters,
  FitsStreamingOutputCallRequest,
  FitsStreamingOutputCallResponse,
}
use Rattle.testproto.specs.Parts.{
  All,
  Part,
  int32_part,
  bool_part,
  bytes_part,
  message_part,
  repeated_part,
  int32_read,
  bool_read,
  bytes_read,
  text_accepted,
  message_read,
  repeated_read,
  parts_fit,
  whole_message,
  all_true,
  all_both,
}

always : {M : Type 0} (held : Option M) → IfSome held FitsAlways
always None = tt
always (Some m) = tt

pub read_empty : IsReadBack FitsAlways empty_fields AcceptsAll IsEmpty
read_empty m fits short = whole_message AcceptsAll IsEmpty [] m tt tt (record {})

pub read_payload : IsReadBack FitsPayload payload_fields AcceptsAll IsPayload
read_payload m fits short =
    let ps : List Part =
    int32_part 1 m.kind (lit≤ tt, lit≤ tt) fits.kind
    ∷ bytes_part 2 m.body (lit≤ tt, lit≤ tt) ∷ [] in
    whole_message AcceptsAll IsPayload (payload_fields m) m (parts_fit ps short)
    (all_true (payload_fields m)) (record {
      kind = int32_read 1 ps m.kind refl fits.kind;
      body = bytes_read 2 ps m.body refl;
    })

pub read_bool_value : IsReadBack FitsAlways bool_value_fields AcceptsAll IsBoolValue
read_bool_value m fits short =
    let ps : List Part = bool_part 1 m.value (lit≤ tt, lit≤ tt) ∷ [] in
    whole_message AcceptsAll IsBoolValue (bool_value_fields m) m (parts_fit ps short)
    (all_true (bool_value_fields m)) (record {
      value = bool_read 1 ps m.value refl;
    })

pub read_echo_status : IsReadBack FitsEchoStatus echo_status_fields AcceptsEchoStatus IsEchoStatus
read_echo_status m fits short =
    let ps : List Part =
    int32_part 1 m.code (lit≤ tt, lit≤ tt) fits.code
    ∷ bytes_part 2 m.message (lit≤ tt, lit≤ tt) ∷ [] in
    whole_message AcceptsEchoStatus IsEchoStatus (echo_status_fields m) m (parts_fit ps short)
    (text_accepted 2 ps m.message refl fits.message) (record {
      code = int32_read 1 ps m.code refl fits.code;
      message = bytes_read 2 ps m.message refl;
    })

pub read_simple_request :
    IsReadBack FitsSimpleRequest simple_request_fields AcceptsSimpleRequest IsSimpleRequest
read_simple_request m fits short =
    let ps : List Part =
    int32_part 1 m.response_type (lit≤ tt, lit≤ tt) fits.response_type
    ∷ int32_part 2 m.response_size (lit≤ tt, lit≤ tt) fits.response_size
    ∷ message_part payload_fields 3 m.payload (lit≤ tt, lit≤ tt)
    ∷ bool_part 4 m.fill_username (lit≤ tt, lit≤ tt)
    ∷ bool_part 5 m.fill_oauth_scope (lit≤ tt, lit≤ tt)
    ∷ message_part bool_value_fields 6 m.response_compressed (lit≤ tt, lit≤ tt)
    ∷ message_part echo_status_fields 7 m.response_status (lit≤ tt, lit≤ tt)
    ∷ message_part bool_value_fields 8 m.expect_compressed (lit≤ tt, lit≤ tt)
    ∷ [] in
    let fit = parts_fit ps short in
    let payload =
    message_read FitsPayload payload_fields AcceptsAll IsPayload read_payload 3 ps m.payload refl
    fits.payload fit in
    let response_compressed =
    message_read FitsAlways bool_value_fields AcceptsAll IsBoolValue read_bool_value 6 ps
    m.response_compressed refl (always m.response_compressed) fit in
    let response_status =
    message_read FitsEchoStatus echo_status_fields AcceptsEchoStatus IsEchoStatus read_echo_status 7
    ps m.response_status refl fits.response_status fit in
    let expect_compressed =
    message_read FitsAlways bool_value_fields AcceptsAll IsBoolValue read_bool_value 8 ps
    m.expect_compressed refl (always m.expect_compressed) fit in
    let fields = simple_request_fields m in
    let accepted : All AcceptsSimpleRequest fields =
    all_both (λ f. AcceptsMessage AcceptsAll 3 f × AcceptsMessage AcceptsAll 6 f)
    (λ f. AcceptsMessage AcceptsEchoStatus 7 f × AcceptsMessage AcceptsAll 8 f) AcceptsSimpleRequest
    (λ f p q. record {
      payload = p.0;
      response_compressed = p.1;
      response_status = q.0;
      expect_compressed = q.1;
    }) fields
    (all_both (AcceptsMessage AcceptsAll 3) (AcceptsMessage AcceptsAll 6)
    (λ f. AcceptsMessage AcceptsAll 3 f × AcceptsMessage AcceptsAll 6 f) (λ f p q. (p, q)) fields
    payload.accepted response_compressed.accepted)
    (all_both (AcceptsMessage AcceptsEchoStatus 7) (AcceptsMessage AcceptsAll 8)
    (λ f. AcceptsMessage AcceptsEchoStatus 7 f × AcceptsMessage AcceptsAll 8 f) (λ f p q. (p, q))
    fields response_status.accepted expect_compressed.accepted) in
    whole_message AcceptsSimpleRequest IsSimpleRequest fields m fit accepted (record {
      response_type = int32_read 1 ps m.response_type refl fits.response_type;
      response_size = int32_read 2 ps m.response_size refl fits.response_size;
      payload = payload.value;
      fill_username = bool_read 4 ps m.fill_username refl;
      fill_oauth_scope = bool_read 5 ps m.fill_oauth_scope refl;
      response_compressed = response_compressed.value;
      response_status = response_status.value;
      expect_compressed = expect_compressed.value;
    })

pub read_simple_response :
    IsReadBack FitsSimpleResponse simple_response_fields AcceptsSimpleResponse IsSimpleResponse
read_simple_response m fits short =
    let ps : List Part =
    message_part payload_fields 1 m.payload (lit≤ tt, lit≤ tt)
    ∷ bytes_part 2 m.username (lit≤ tt, lit≤ tt)
    ∷ bytes_part 3 m.oauth_scope (lit≤ tt, lit≤ tt)
    ∷ [] in
    let fit = parts_fit ps short in
    let payload =
    message_read FitsPayload payload_fields AcceptsAll IsPayload read_payload 1 ps m.payload refl
    fits.payload fit in
    let fields = simple_response_fields m in
    let accepted : All AcceptsSimpleResponse fields =
    all_both (AcceptsMessage AcceptsAll 1) (λ f. AcceptsText 2 f × AcceptsText 3 f)
    AcceptsSimpleResponse
    (λ f p q. record { payload = p; username = q.0; oauth_scope = q.1 }) fields payload.accepted
    (all_both (AcceptsText 2) (AcceptsText 3) (λ f. AcceptsText 2 f × AcceptsText 3 f)
    (λ f p q. (p, q)) fields (text_accepted 2 ps m.username refl fits.username)
    (text_accepted 3 ps m.oauth_scope refl fits.oauth_scope)) in
    whole_message AcceptsSimpleResponse IsSimpleResponse fields m fit accepted (record {
      payload = payload.value;
      username = bytes_read 2 ps m.username refl;
      oauth_scope = bytes_read 3 ps m.oauth_scope refl;
    })

pub read_streaming_input_call_request :
    IsReadBack FitsStreamingInputCallRequest streaming_input_call_request_fields
    AcceptsStreamingInputCallRequest IsStreamingInputCallRequest
read_streaming_input_call_request m fits short =
    let ps : List Part =
    message_part payload_fields 1 m.payload (lit≤ tt, lit≤ tt)
    ∷ message_part bool_value_fields 2 m.expect_compressed (lit≤ tt, lit≤ tt) ∷ [] in
    let fit = parts_fit ps short in
    let payload =
    message_read FitsPayload payload_fields AcceptsAll IsPayload read_payload 1 ps m.payload refl
    fits.payload fit in
    let expect_compressed =
    message_read FitsAlways bool_value_fields AcceptsAll IsBoolValue read_bool_value 2 ps
    m.expect_compressed refl (always m.expect_compressed) fit in
    let fields = streaming_input_call_request_fields m in
    let accepted : All AcceptsStreamingInputCallRequest fields =
    all_both (AcceptsMessage AcceptsAll 1) (AcceptsMessage AcceptsAll 2)
    AcceptsStreamingInputCallRequest
    (λ f p q. record { payload = p; expect_compressed = q }) fields payload.accepted
    expect_compressed.accepted in
    whole_message AcceptsStreamingInputCallRequest IsStreamingInputCallRequest fields m fit
    accepted (record {
      payload = payload.value;
      expect_compressed = expect_compressed.value;
    })

pub read_streaming_input_call_response :
    IsReadBack FitsStreamingInputCallResponse streaming_input_call_response_fields AcceptsAll
    IsStreamingInputCallResponse
read_streaming_input_call_response m fits short =
    let ps : List Part =
    int32_part 1 m.aggregated_payload_size (lit≤ tt, lit≤ tt) fits.aggregated_payload_size ∷ [] in
    let fields = streaming_input_call_response_fields m in
    whole_message AcceptsAll IsStreamingInputCallResponse fields m (parts_fit ps short)
    (all_true fields) (record {
      aggregated_payload_size =
          int32_read 1 ps m.aggregated_payload_size refl fits.aggregated_payload_size;
    })

pub read_response_parameters :
    IsReadBack FitsResponseParameters response_parameters_fields AcceptsResponseParameters
    IsResponseParameters
read_response_parameters m fits short =
    let ps : List Part =
    int32_part 1 m.size (lit≤ tt, lit≤ tt) fits.size
    ∷ int32_part 2 m.interval_us (lit≤ tt, lit≤ tt) fits.interval_us
    ∷ message_part bool_value_fields 3 m.compressed (lit≤ tt, lit≤ tt)
    ∷ [] in
    let fit = parts_fit ps short in
    let compressed =
    message_read FitsAlways bool_value_fields AcceptsAll IsBoolValue read_bool_value 3 ps
    m.compressed refl (always m.compressed) fit in
    whole_message AcceptsResponseParameters IsResponseParameters (response_parameters_fields m) m
    fit compressed.accepted (record {
      size = int32_read 1 ps m.size refl fits.size;
      interval_us = int32_read 2 ps m.interval_us refl fits.interval_us;
      compressed = compressed.value;
    })

pub read_streaming_output_call_request :
    IsReadBack FitsStreamingOutputCallRequest streaming_output_call_request_fields
    AcceptsStreamingOutputCallRequest IsStreamingOutputCallRequest
read_streaming_output_call_request m fits short =
    let ps : List Part =
    int32_part 1 m.response_type (lit≤ tt, lit≤ tt) fits.response_type
    ∷ repeated_part response_parameters_fields 2 m.response_parameters (lit≤ tt, lit≤ tt)
    ∷ message_part payload_fields 3 m.payload (lit≤ tt, lit≤ tt)
    ∷ message_part echo_status_fields 7 m.response_status (lit≤ tt, lit≤ tt)
    ∷ [] in
    let fit = parts_fit ps short in
    let response_parameters =
    repeated_read FitsResponseParameters response_parameters_fields AcceptsResponseParameters
    IsResponseParameters read_response_parameters 2 ps m.response_parameters refl
    fits.response_parameters fit in
    let payload =
    message_read FitsPayload payload_fields AcceptsAll IsPayload read_payload 3 ps m.payload refl
    fits.payload fit in
    let response_status =
    message_read FitsEchoStatus echo_status_fields AcceptsEchoStatus IsEchoStatus read_echo_status 7
    ps m.response_status refl fits.response_status fit in
    let fields = streaming_output_call_request_fields m in
    let accepted : All AcceptsStreamingOutputCallRequest fields =
    all_both (AcceptsMessage AcceptsResponseParameters 2)
    (λ f. AcceptsMessage AcceptsAll 3 f × AcceptsMessage AcceptsEchoStatus 7 f)
    AcceptsStreamingOutputCallRequest
    (λ f p q. record { response_parameters = p; payload = q.0; response_status = q.1 }) fields
    response_parameters.accepted
    (all_both (AcceptsMessage AcceptsAll 3) (AcceptsMessage AcceptsEchoStatus 7)
    (λ f. AcceptsMessage AcceptsAll 3 f × AcceptsMessage AcceptsEchoStatus 7 f) (λ f p q. (p, q))
    fields payload.accepted response_status.accepted) in
    whole_message AcceptsStreamingOutputCallRequest IsStreamingOutputCallRequest fields m fit
    accepted (record {
      response_type = int32_read 1 ps m.response_type refl fits.response_type;
      response_parameters = response_parameters.value;
      payload = payload.value;
      response_status = response_status.value;
    })

pub read_streaming_output_call_response :
    IsReadBack FitsStreamingOutputCallResponse streaming_output_call_response_fields
    AcceptsStreamingOutputCallResponse IsStreamingOutputCallResponse
read_streaming_output_call_response m fits short =
    let ps : List Part = message_part payload_fields 1 m.payload (lit≤ tt, lit≤ tt) ∷ [] in
    let fit = parts_fit ps short in
    let payload =
    message_read FitsPayload payload_fields AcceptsAll IsPayload read_payload 1 ps m.payload refl
    fits.payload fit in
    whole_message AcceptsStreamingOutputCallResponse IsStreamingOutputCallResponse
    (streaming_output_call_response_fields m) m fit payload.accepted (record {
      payload = payload.value;
    })
