-- The laws of each message: fields have one value, and no field is both accepted and refused.
use Rattle.std.specs.Prelude.{ℕ, ℤ, Bool, List, Option, refl}
use Rattle.std.proofs.Common.{sym, ap, ◌∙◌, inl, inr}
use Rattle.testproto.specs.declared.messages.Payload.{Payload}
use Rattle.testproto.specs.declared.messages.BoolValue.{BoolValue}
use Rattle.testproto.specs.declared.messages.EchoStatus.{EchoStatus}
use Rattle.testproto.specs.declared.messages.SimpleRequest.{SimpleRequest}
use Rattle.testproto.specs.declared.messages.SimpleResponse.{SimpleResponse}
use Rattle.testproto.specs.declared.messages.StreamingInputCallRequest.{StreamingInputCallRequest}
use Rattle.testproto.specs.declared.messages.StreamingInputCallResponse.{StreamingInputCallResponse}
use Rattle.testproto.specs.declared.messages.ResponseParameters.{ResponseParameters}
use Rattle.testproto.specs.declared.messages.StreamingOutputCallRequest.{StreamingOutputCallRequest}
use Rattle.testproto.specs.declared.messages.StreamingOutputCallResponse.{
  StreamingOutputCallResponse,
}
use Rattle.testproto.specs.Values.{contents}
use Rattle.testproto.specs.Messages.{
  AcceptsAll,
  RefusesNone,
  IsEmpty,
  IsPayload,
  IsBoolValue,
  IsEchoStatus,
  IsSimpleRequest,
  IsSimpleResponse,
  IsStreamingInputCallRequest,
  IsStreamingInputCallResponse,
  IsResponseParameters,
  IsStreamingOutputCallRequest,
  IsStreamingOutputCallResponse,
  AcceptsEchoStatus,
  RefusesEchoStatus,
  AcceptsSimpleRequest,
  RefusesSimpleRequest,
  AcceptsSimpleResponse,
  RefusesSimpleResponse,
  AcceptsStreamingInputCallRequest,
  RefusesStreamingInputCallRequest,
  AcceptsResponseParameters,
  RefusesResponseParameters,
  AcceptsStreamingOutputCallRequest,
  RefusesStreamingOutputCallRequest,
  AcceptsStreamingOutputCallResponse,
  RefusesStreamingOutputCallResponse,
}
use Rattle.testproto.specs.Unique.{
  IsSingle,
  AreApart,
  one_embedded,
  one_repeated,
  apart_text,
  apart_message,
}

pub apart_none : AreApart AcceptsAll RefusesNone
apart_none field fault good bad = bad

pub one_empty : IsSingle IsEmpty
one_empty fields v w is also = refl

pub one_payload : IsSingle IsPayload
one_payload fields v w is also =
    ap (λ (x : ℤ). let m : Payload = record { kind = x; body = v.body } in m)
    (is.kind ∙ sym also.kind)
    ∙ ap (λ (x : List ℕ). let m : Payload = record { kind = w.kind; body = x } in m)
    (is.body ∙ sym also.body)

pub one_bool_value : IsSingle IsBoolValue
one_bool_value fields v w is also =
    ap (λ (x : Bool). let m : BoolValue = record { value = x } in m) (is.value ∙ sym also.value)

pub one_echo_status : IsSingle IsEchoStatus
one_echo_status fields v w is also =
    ap (λ (x : ℤ). let m : EchoStatus = record { code = x; message = v.message } in m)
    (is.code ∙ sym also.code)
    ∙ ap (λ (x : List ℕ). let m : EchoStatus = record { code = w.code; message = x } in m)
    (is.message ∙ sym also.message)

pub apart_echo_status : AreApart AcceptsEchoStatus RefusesEchoStatus
apart_echo_status = apart_text 2

pub one_simple_request : IsSingle IsSimpleRequest
one_simple_request fields v w is also =
    ap (λ (x : ℤ).
    let m : SimpleRequest = record {
      response_type = x;
      response_size = v.response_size;
      payload = v.payload;
      fill_username = v.fill_username;
      fill_oauth_scope = v.fill_oauth_scope;
      response_compressed = v.response_compressed;
      response_status = v.response_status;
      expect_compressed = v.expect_compressed;
    } in m) (is.response_type ∙ sym also.response_type)
    ∙ ap (λ (x : ℤ).
    let m : SimpleRequest = record {
      response_type = w.response_type;
      response_size = x;
      payload = v.payload;
      fill_username = v.fill_username;
      fill_oauth_scope = v.fill_oauth_scope;
      response_compressed = v.response_compressed;
      response_status = v.response_status;
      expect_compressed = v.expect_compressed;
    } in m) (is.response_size ∙ sym also.response_size)
    ∙ ap (λ (x : Option Payload).
    let m : SimpleRequest = record {
      response_type = w.response_type;
      response_size = w.response_size;
      payload = x;
      fill_username = v.fill_username;
      fill_oauth_scope = v.fill_oauth_scope;
      response_compressed = v.response_compressed;
      response_status = v.response_status;
      expect_compressed = v.expect_compressed;
    } in m) (one_embedded IsPayload one_payload (contents 3 fields) v.payload w.payload
    is.payload also.payload)
    ∙ ap (λ (x : Bool).
    let m : SimpleRequest = record {
      response_type = w.response_type;
      response_size = w.response_size;
      payload = w.payload;
      fill_username = x;
      fill_oauth_scope = v.fill_oauth_scope;
      response_compressed = v.response_compressed;
      response_status = v.response_status;
      expect_compressed = v.expect_compressed;
    } in m) (is.fill_username ∙ sym also.fill_username)
    ∙ ap (λ (x : Bool).
    let m : SimpleRequest = record {
      response_type = w.response_type;
      response_size = w.response_size;
      payload = w.payload;
      fill_username = w.fill_username;
      fill_oauth_scope = x;
      response_compressed = v.response_compressed;
      response_status = v.response_status;
      expect_compressed = v.expect_compressed;
    } in m) (is.fill_oauth_scope ∙ sym also.fill_oauth_scope)
    ∙ ap (λ (x : Option BoolValue).
    let m : SimpleRequest = record {
      response_type = w.response_type;
      response_size = w.response_size;
      payload = w.payload;
      fill_username = w.fill_username;
      fill_oauth_scope = w.fill_oauth_scope;
      response_compressed = x;
      response_status = v.response_status;
      expect_compressed = v.expect_compressed;
    } in m) (one_embedded IsBoolValue one_bool_value (contents 6 fields) v.response_compressed
    w.response_compressed is.response_compressed also.response_compressed)
    ∙ ap (λ (x : Option EchoStatus).
    let m : SimpleRequest = record {
      response_type = w.response_type;
      response_size = w.response_size;
      payload = w.payload;
      fill_username = w.fill_username;
      fill_oauth_scope = w.fill_oauth_scope;
      response_compressed = w.response_compressed;
      response_status = x;
      expect_compressed = v.expect_compressed;
    } in m) (one_embedded IsEchoStatus one_echo_status (contents 7 fields) v.response_status
    w.response_status is.response_status also.response_status)
    ∙ ap (λ (x : Option BoolValue).
    let m : SimpleRequest = record {
      response_type = w.response_type;
      response_size = w.response_size;
      payload = w.payload;
      fill_username = w.fill_username;
      fill_oauth_scope = w.fill_oauth_scope;
      response_compressed = w.response_compressed;
      response_status = w.response_status;
      expect_compressed = x;
    } in m) (one_embedded IsBoolValue one_bool_value (contents 8 fields) v.expect_compressed
    w.expect_compressed is.expect_compressed also.expect_compressed)

pub apart_simple_request : AreApart AcceptsSimpleRequest RefusesSimpleRequest
apart_simple_request field fault good (inl bad) =
    apart_message AcceptsAll RefusesNone apart_none 3 field fault good.payload bad
apart_simple_request field fault good (inr (inl bad)) =
    apart_message AcceptsAll RefusesNone apart_none 6 field fault good.response_compressed bad
apart_simple_request field fault good (inr (inr (inl bad))) =
    apart_message AcceptsEchoStatus RefusesEchoStatus apart_echo_status 7 field fault
    good.response_status bad
apart_simple_request field fault good (inr (inr (inr bad))) =
    apart_message AcceptsAll RefusesNone apart_none 8 field fault good.expect_compressed bad

pub one_simple_response : IsSingle IsSimpleResponse
one_simple_response fields v w is also =
    ap (λ (x : Option Payload).
    let m : SimpleResponse = record {
      payload = x;
      username = v.username;
      oauth_scope = v.oauth_scope;
    } in m) (one_embedded IsPayload one_payload (contents 1 fields) v.payload w.payload
    is.payload also.payload)
    ∙ ap (λ (x : List ℕ).
    let m : SimpleResponse = record {
      payload = w.payload;
      username = x;
      oauth_scope = v.oauth_scope;
    } in m) (is.username ∙ sym also.username)
    ∙ ap (λ (x : List ℕ).
    let m : SimpleResponse = record {
      payload = w.payload;
      username = w.username;
      oauth_scope = x;
    } in m) (is.oauth_scope ∙ sym also.oauth_scope)

pub apart_simple_response : AreApart AcceptsSimpleResponse RefusesSimpleResponse
apart_simple_response field fault good (inl bad) =
    apart_message AcceptsAll RefusesNone apart_none 1 field fault good.payload bad
apart_simple_response field fault good (inr (inl bad)) = apart_text 2 field fault good.username bad
apart_simple_response field fault good (inr (inr bad)) =
    apart_text 3 field fault good.oauth_scope bad

pub one_streaming_input_call_request : IsSingle IsStreamingInputCallRequest
one_streaming_input_call_request fields v w is also =
    ap (λ (x : Option Payload).
    let m : StreamingInputCallRequest = record {
      payload = x;
      expect_compressed = v.expect_compressed;
    } in m) (one_embedded IsPayload one_payload (contents 1 fields) v.payload w.payload
    is.payload also.payload)
    ∙ ap (λ (x : Option BoolValue).
    let m : StreamingInputCallRequest = record { payload = w.payload; expect_compressed = x } in
    m) (one_embedded IsBoolValue one_bool_value (contents 2 fields) v.expect_compressed
    w.expect_compressed is.expect_compressed also.expect_compressed)

pub apart_streaming_input_call_request :
    AreApart AcceptsStreamingInputCallRequest RefusesStreamingInputCallRequest
apart_streaming_input_call_request field fault good (inl bad) =
    apart_message AcceptsAll RefusesNone apart_none 1 field fault good.payload bad
apart_streaming_input_call_request field fault good (inr bad) =
    apart_message AcceptsAll RefusesNone apart_none 2 field fault good.expect_compressed bad

pub one_streaming_input_call_response : IsSingle IsStreamingInputCallResponse
one_streaming_input_call_response fields v w is also =
    ap (λ (x : ℤ). let m : StreamingInputCallResponse = record { aggregated_payload_size = x } in m)
    (is.aggregated_payload_size ∙ sym also.aggregated_payload_size)

pub one_response_parameters : IsSingle IsResponseParameters
one_response_parameters fields v w is also =
    ap (λ (x : ℤ).
    let m : ResponseParameters = record {
      size = x;
      interval_us = v.interval_us;
      compressed = v.compressed;
    } in m) (is.size ∙ sym also.size)
    ∙ ap (λ (x : ℤ).
    let m : ResponseParameters = record {
      size = w.size;
      interval_us = x;
      compressed = v.compressed;
    } in m) (is.interval_us ∙ sym also.interval_us)
    ∙ ap (λ (x : Option BoolValue).
    let m : ResponseParameters = record {
      size = w.size;
      interval_us = w.interval_us;
      compressed = x;
    } in m) (one_embedded IsBoolValue one_bool_value (contents 3 fields) v.compressed w.compressed
    is.compressed also.compressed)

pub apart_response_parameters : AreApart AcceptsResponseParameters RefusesResponseParameters
apart_response_parameters = apart_message AcceptsAll RefusesNone apart_none 3

pub one_streaming_output_call_request : IsSingle IsStreamingOutputCallRequest
one_streaming_output_call_request fields v w is also =
    ap (λ (x : ℤ).
    let m : StreamingOutputCallRequest = record {
      response_type = x;
      response_parameters = v.response_parameters;
      payload = v.payload;
      response_status = v.response_status;
    } in m) (is.response_type ∙ sym also.response_type)
    ∙ ap (λ (x : List ResponseParameters).
    let m : StreamingOutputCallRequest = record {
      response_type = w.response_type;
      response_parameters = x;
      payload = v.payload;
      response_status = v.response_status;
    } in m) (one_repeated IsResponseParameters one_response_parameters (contents 2 fields)
    v.response_parameters w.response_parameters is.response_parameters also.response_parameters)
    ∙ ap (λ (x : Option Payload).
    let m : StreamingOutputCallRequest = record {
      response_type = w.response_type;
      response_parameters = w.response_parameters;
      payload = x;
      response_status = v.response_status;
    } in m) (one_embedded IsPayload one_payload (contents 3 fields) v.payload w.payload
    is.payload also.payload)
    ∙ ap (λ (x : Option EchoStatus).
    let m : StreamingOutputCallRequest = record {
      response_type = w.response_type;
      response_parameters = w.response_parameters;
      payload = w.payload;
      response_status = x;
    } in m) (one_embedded IsEchoStatus one_echo_status (contents 7 fields) v.response_status
    w.response_status is.response_status also.response_status)

pub apart_streaming_output_call_request :
    AreApart AcceptsStreamingOutputCallRequest RefusesStreamingOutputCallRequest
apart_streaming_output_call_request field fault good (inl bad) =
    apart_message AcceptsResponseParameters RefusesResponseParameters apart_response_parameters 2
    field fault good.response_parameters bad
apart_streaming_output_call_request field fault good (inr (inl bad)) =
    apart_message AcceptsAll RefusesNone apart_none 3 field fault good.payload bad
apart_streaming_output_call_request field fault good (inr (inr bad)) =
    apart_message AcceptsEchoStatus RefusesEchoStatus apart_echo_status 7 field fault
    good.response_status bad

pub one_streaming_output_call_response : IsSingle IsStreamingOutputCallResponse
one_streaming_output_call_response fields v w is also =
    ap (λ (x : Option Payload). let m : StreamingOutputCallResponse = record { payload = x } in m)
    (one_embedded IsPayload one_payload (contents 1 fields) v.payload w.payload is.payload
    also.payload)

pub apart_streaming_output_call_response :
    AreApart AcceptsStreamingOutputCallResponse RefusesStreamingOutputCallResponse
apart_streaming_output_call_response = apart_message AcceptsAll RefusesNone apart_none 1
