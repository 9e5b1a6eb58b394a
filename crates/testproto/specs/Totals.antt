-- Of each message: every byte list has a value, or a fault stands in it.
use Rattle.std.specs.Prelude.{refl}
use Rattle.std.proofs.Common.{inl, inr}
use Rattle.testproto.specs.Values.{int32, boolean, byte_string, AcceptsMessage}
use Rattle.testproto.specs.Messages.{
  AcceptsAll,
  RefusesNone,
  IsEmpty,
  IsPayload,
  IsBoolValue,
  IsEchoStatus,
  IsSimpleRequest,
  IsSimpleResponse,
  IsStreamingInputCallRequest,
  IsStreamingInputCallResponse,
  IsResponseParameters,
  IsStreamingOutputCallRequest,
  IsStreamingOutputCallResponse,
  AcceptsEchoStatus,
  RefusesEchoStatus,
  AcceptsSimpleRequest,
  RefusesSimpleRequest,
  AcceptsSimpleResponse,
  RefusesSimpleResponse,
  AcceptsStreamingInputCallRequest,
  RefusesStreamingInputCallRequest,
  AcceptsResponseParameters,
  RefusesResponseParameters,
  AcceptsStreamingOutputCallRequest,
  RefusesStreamingOutputCallRequest,
  AcceptsStreamingOutputCallResponse,
  RefusesStreamingOutputCallResponse,
}
use Rattle.testproto.specs.Total.{
  AreDecided,
  HaveValues,
  HasValueOrFault,
  all_map,
  decided_text,
  decided_message,
  held,
  all_held,
  value_or_fault,
}

decided_all : AreDecided AcceptsAll RefusesNone
decided_all field = inl tt

has_empty : HaveValues AcceptsAll IsEmpty
has_empty fields all = (record {}, record {})

pub total_empty : HasValueOrFault AcceptsAll RefusesNone IsEmpty
total_empty = value_or_fault AcceptsAll RefusesNone IsEmpty decided_all has_empty

has_payload : HaveValues AcceptsAll IsPayload
has_payload fields all = (
  record { kind = int32 1 fields; body = byte_string 2 fields },
  record { kind = refl; body = refl },
)

pub total_payload : HasValueOrFault AcceptsAll RefusesNone IsPayload
total_payload = value_or_fault AcceptsAll RefusesNone IsPayload decided_all has_payload

has_bool_value : HaveValues AcceptsAll IsBoolValue
has_bool_value fields all = (
  record { value = boolean 1 fields },
  record { value = refl },
)

pub total_bool_value : HasValueOrFault AcceptsAll RefusesNone IsBoolValue
total_bool_value = value_or_fault AcceptsAll RefusesNone IsBoolValue decided_all has_bool_value

decided_echo_status : AreDecided AcceptsEchoStatus RefusesEchoStatus
decided_echo_status = decided_text 2

has_echo_status : HaveValues AcceptsEchoStatus IsEchoStatus
has_echo_status fields all = (
  record { code = int32 1 fields; message = byte_string 2 fields },
  record { code = refl; message = refl },
)

pub total_echo_status : HasValueOrFault AcceptsEchoStatus RefusesEchoStatus IsEchoStatus
total_echo_status =
    value_or_fault AcceptsEchoStatus RefusesEchoStatus IsEchoStatus
    decided_echo_status has_echo_status

decided_simple_request : AreDecided AcceptsSimpleRequest RefusesSimpleRequest
decided_simple_request field =
    elim (decided_message AcceptsAll RefusesNone decided_all 3 field) [
      | inr bad ↦ inr (bad.0, inl bad.1)
      | inl payload ↦
          elim (decided_message AcceptsAll RefusesNone decided_all 6 field) [
            | inr bad ↦ inr (bad.0, inr (inl bad.1))
            | inl response_compressed ↦
                elim (decided_message AcceptsEchoStatus RefusesEchoStatus
                decided_echo_status 7 field) [
                  | inr bad ↦ inr (bad.0, inr (inr (inl bad.1)))
                  | inl response_status ↦
                      elim (decided_message AcceptsAll RefusesNone decided_all 8 field) [
                        | inr bad ↦ inr (bad.0, inr (inr (inr bad.1)))
                        | inl expect_compressed ↦
                            inl (record {
                              payload = payload;
                              response_compressed = response_compressed;
                              response_status = response_status;
                              expect_compressed = expect_compressed;
                            })
                      ]
                ]
          ]
    ]

has_simple_request : HaveValues AcceptsSimpleRequest IsSimpleRequest
has_simple_request fields all =
    let payload =
    held AcceptsAll IsPayload has_payload 3 fields (all_map AcceptsSimpleRequest
    (AcceptsMessage AcceptsAll 3) (λ field good. good.payload) fields all) in
    let response_compressed =
    held AcceptsAll IsBoolValue has_bool_value 6 fields (all_map AcceptsSimpleRequest
    (AcceptsMessage AcceptsAll 6) (λ field good. good.response_compressed) fields all) in
    let response_status =
    held AcceptsEchoStatus IsEchoStatus has_echo_status 7 fields (all_map AcceptsSimpleRequest
    (AcceptsMessage AcceptsEchoStatus 7) (λ field good. good.response_status) fields all) in
    let expect_compressed =
    held AcceptsAll IsBoolValue has_bool_value 8 fields (all_map AcceptsSimpleRequest
    (AcceptsMessage AcceptsAll 8) (λ field good. good.expect_compressed) fields all) in (
      record {
        response_type = int32 1 fields;
        response_size = int32 2 fields;
        payload = payload.0;
        fill_username = boolean 4 fields;
        fill_oauth_scope = boolean 5 fields;
        response_compressed = response_compressed.0;
        response_status = response_status.0;
        expect_compressed = expect_compressed.0;
      },
      record {
        response_type = refl;
        response_size = refl;
        payload = payload.1;
        fill_username = refl;
        fill_oauth_scope = refl;
        response_compressed = response_compressed.1;
        response_status = response_status.1;
        expect_compressed = expect_compressed.1;
      },
    )

pub total_simple_request : HasValueOrFault AcceptsSimpleRequest RefusesSimpleRequest IsSimpleRequest
total_simple_request =
    value_or_fault AcceptsSimpleRequest RefusesSimpleRequest IsSimpleRequest decided_simple_request
    has_simple_request

decided_simple_response : AreDecided AcceptsSimpleResponse RefusesSimpleResponse
decided_simple_response field =
    elim (decided_message AcceptsAll RefusesNone decided_all 1 field) [
      | inr bad ↦ inr (bad.0, inl bad.1)
      | inl payload ↦
          elim (decided_text 2 field) [
            | inr bad ↦ inr (bad.0, inr (inl bad.1))
            | inl username ↦
                elim (decided_text 3 field) [
                  | inr bad ↦ inr (bad.0, inr (inr bad.1))
                  | inl oauth_scope ↦
                      inl
                      (record { payload = payload; username = username; oauth_scope = oauth_scope })
                ]
          ]
    ]

has_simple_response : HaveValues AcceptsSimpleResponse IsSimpleResponse
has_simple_response fields all =
    let payload =
    held AcceptsAll IsPayload has_payload 1 fields (all_map AcceptsSimpleResponse
    (AcceptsMessage AcceptsAll 1) (λ field good. good.payload) fields all) in (
      record {
        payload = payload.0;
        username = byte_string 2 fields;
        oauth_scope = byte_string 3 fields;
      },
      record { payload = payload.1; username = refl; oauth_scope = refl },
    )

pub total_simple_response :
    HasValueOrFault AcceptsSimpleResponse RefusesSimpleResponse IsSimpleResponse
total_simple_response =
    value_or_fault AcceptsSimpleResponse RefusesSimpleResponse IsSimpleResponse
    decided_simple_response has_simple_response

decided_streaming_input_call_request :
    AreDecided AcceptsStreamingInputCallRequest RefusesStreamingInputCallRequest
decided_streaming_input_call_request field =
    elim (decided_message AcceptsAll RefusesNone decided_all 1 field) [
      | inr bad ↦ inr (bad.0, inl bad.1)
      | inl payload ↦
          elim (decided_message AcceptsAll RefusesNone decided_all 2 field) [
            | inr bad ↦ inr (bad.0, inr bad.1)
            | inl expect_compressed ↦
                inl (record { payload = payload; expect_compressed = expect_compressed })
          ]
    ]

has_streaming_input_call_request :
    HaveValues AcceptsStreamingInputCallRequest IsStreamingInputCallRequest
has_streaming_input_call_request fields all =
    let payload =
    held AcceptsAll IsPayload has_payload 1 fields (all_map AcceptsStreamingInputCallRequest
    (AcceptsMessage AcceptsAll 1) (λ field good. good.payload) fields all) in
    let expect_compressed =
    held AcceptsAll IsBoolValue has_bool_value 2 fields (all_map AcceptsStreamingInputCallRequest
    (AcceptsMessage AcceptsAll 2) (λ field good. good.expect_compressed) fields all) in (
      record { payload = payload.0; expect_compressed = expect_compressed.0 },
      record { payload = payload.1; expect_compressed = expect_compressed.1 },
    )

pub total_streaming_input_call_request :
    HasValueOrFault AcceptsStreamingInputCallRequest RefusesStreamingInputCallRequest
    IsStreamingInputCallRequest
total_streaming_input_call_request =
    value_or_fault AcceptsStreamingInputCallRequest RefusesStreamingInputCallRequest
    IsStreamingInputCallRequest decided_streaming_input_call_request
    has_streaming_input_call_request

has_streaming_input_call_response : HaveValues AcceptsAll IsStreamingInputCallResponse
has_streaming_input_call_response fields all = (
  record { aggregated_payload_size = int32 1 fields },
  record { aggregated_payload_size = refl },
)

pub total_streaming_input_call_response :
    HasValueOrFault AcceptsAll RefusesNone IsStreamingInputCallResponse
total_streaming_input_call_response =
    value_or_fault AcceptsAll RefusesNone IsStreamingInputCallResponse decided_all
    has_streaming_input_call_response

decided_response_parameters : AreDecided AcceptsResponseParameters RefusesResponseParameters
decided_response_parameters = decided_message AcceptsAll RefusesNone decided_all 3

has_response_parameters : HaveValues AcceptsResponseParameters IsResponseParameters
has_response_parameters fields all =
    let compressed = held AcceptsAll IsBoolValue has_bool_value 3 fields all in (
      record { size = int32 1 fields; interval_us = int32 2 fields; compressed = compressed.0 },
      record { size = refl; interval_us = refl; compressed = compressed.1 },
    )

pub total_response_parameters :
    HasValueOrFault AcceptsResponseParameters RefusesResponseParameters IsResponseParameters
total_response_parameters =
    value_or_fault AcceptsResponseParameters RefusesResponseParameters IsResponseParameters
    decided_response_parameters has_response_parameters

decided_streaming_output_call_request :
    AreDecided AcceptsStreamingOutputCallRequest RefusesStreamingOutputCallRequest
decided_streaming_output_call_request field =
    elim (decided_message AcceptsResponseParameters RefusesResponseParameters
    decided_response_parameters 2 field) [
      | inr bad ↦ inr (bad.0, inl bad.1)
      | inl response_parameters ↦
          elim (decided_message AcceptsAll RefusesNone decided_all 3 field) [
            | inr bad ↦ inr (bad.0, inr (inl bad.1))
            | inl payload ↦
                elim (decided_message AcceptsEchoStatus RefusesEchoStatus
                decided_echo_status 7 field) [
                  | inr bad ↦ inr (bad.0, inr (inr bad.1))
                  | inl response_status ↦
                      inl (record {
                        response_parameters = response_parameters;
                        payload = payload;
                        response_status = response_status;
                      })
                ]
          ]
    ]

has_streaming_output_call_request :
    HaveValues AcceptsStreamingOutputCallRequest IsStreamingOutputCallRequest
has_streaming_output_call_request fields all =
    let response_parameters =
    all_held AcceptsResponseParameters IsResponseParameters has_response_parameters 2 fields
    (all_map AcceptsStreamingOutputCallRequest (AcceptsMessage AcceptsResponseParameters 2)
    (λ field good. good.response_parameters) fields all) in
    let payload =
    held AcceptsAll IsPayload has_payload 3 fields (all_map AcceptsStreamingOutputCallRequest
    (AcceptsMessage AcceptsAll 3) (λ field good. good.payload) fields all) in
    let response_status =
    held AcceptsEchoStatus IsEchoStatus has_echo_status 7 fields (all_map
    AcceptsStreamingOutputCallRequest (AcceptsMessage AcceptsEchoStatus 7)
    (λ field good. good.response_status) fields all) in (
      record {
        response_type = int32 1 fields;
        response_parameters = response_parameters.0;
        payload = payload.0;
        response_status = response_status.0;
      },
      record {
        response_type = refl;
        response_parameters = response_parameters.1;
        payload = payload.1;
        response_status = response_status.1;
      },
    )

pub total_streaming_output_call_request :
    HasValueOrFault AcceptsStreamingOutputCallRequest RefusesStreamingOutputCallRequest
    IsStreamingOutputCallRequest
total_streaming_output_call_request =
    value_or_fault AcceptsStreamingOutputCallRequest RefusesStreamingOutputCallRequest
    IsStreamingOutputCallRequest decided_streaming_output_call_request
    has_streaming_output_call_request

decided_streaming_output_call_response :
    AreDecided AcceptsStreamingOutputCallResponse RefusesStreamingOutputCallResponse
decided_streaming_output_call_response = decided_message AcceptsAll RefusesNone decided_all 1

has_streaming_output_call_response :
    HaveValues AcceptsStreamingOutputCallResponse IsStreamingOutputCallResponse
has_streaming_output_call_response fields all =
    let payload = held AcceptsAll IsPayload has_payload 1 fields all in (
      record { payload = payload.0 },
      record { payload = payload.1 },
    )

pub total_streaming_output_call_response :
    HasValueOrFault AcceptsStreamingOutputCallResponse RefusesStreamingOutputCallResponse
    IsStreamingOutputCallResponse
total_streaming_output_call_response =
    value_or_fault AcceptsStreamingOutputCallResponse RefusesStreamingOutputCallResponse
    IsStreamingOutputCallResponse decided_streaming_output_call_response
    has_streaming_output_call_response
