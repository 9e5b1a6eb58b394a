-- The messages of grpc.testing (messages.proto and empty.proto): the value of a list of fields, and
-- which fields are accepted.
use Rattle.std.specs.Prelude.{◌≡◌, ◌⊎◌, List}
use Rattle.pbwire.specs.Fields.{Field}
use Rattle.testproto.specs.declared.fault.ProtoFault.{ProtoFault}
use Rattle.testproto.specs.declared.messages.Empty.{Empty}
use Rattle.testproto.specs.declared.messages.Payload.{Payload}
use Rattle.testproto.specs.declared.messages.BoolValue.{BoolValue}
use Rattle.testproto.specs.declared.messages.EchoStatus.{EchoStatus}
use Rattle.testproto.specs.declared.messages.SimpleRequest.{SimpleRequest}
use Rattle.testproto.specs.declared.messages.SimpleResponse.{SimpleResponse}
use Rattle.testproto.specs.declared.messages.StreamingInputCallRequest.{StreamingInputCallRequest}
use Rattle.testproto.specs.declared.messages.StreamingInputCallResponse.{StreamingInputCallResponse}
use Rattle.testproto.specs.declared.messages.ResponseParameters.{ResponseParameters}
use Rattle.testproto.specs.declared.messages.StreamingOutputCallRequest.{StreamingOutputCallRequest}
use Rattle.testproto.specs.declared.messages.StreamingOutputCallResponse.{
  StreamingOutputCallResponse,
}
use Rattle.testproto.specs.Values.{
  int32,
  boolean,
  byte_string,
  contents,
  IsEmbedded,
  AreRepeated,
  AcceptsText,
  AcceptsMessage,
  HasFault,
  RefusesText,
  RefusesMessage,
}

-- every field is accepted where there is no text and no message
abbrev pub AcceptsAll : Field → Type 0
AcceptsAll field = Unit {0}

abbrev pub RefusesNone : Field → ProtoFault → Type 0
RefusesNone field fault = ⊥

pub record IsEmpty (fields : List Field) (message : Empty) : Type 0 where

pub record IsPayload (fields : List Field) (payload : Payload) : Type 0 where
  pub kind : payload.kind ≡ int32 1 fields
  pub body : payload.body ≡ byte_string 2 fields

pub record IsBoolValue (fields : List Field) (message : BoolValue) : Type 0 where
  pub value : message.value ≡ boolean 1 fields

pub record IsEchoStatus (fields : List Field) (status : EchoStatus) : Type 0 where
  pub code : status.code ≡ int32 1 fields
  pub message : status.message ≡ byte_string 2 fields

abbrev pub AcceptsEchoStatus : Field → Type 0
AcceptsEchoStatus = AcceptsText 2

abbrev pub RefusesEchoStatus : Field → ProtoFault → Type 0
RefusesEchoStatus = RefusesText 2

pub record IsSimpleRequest (fields : List Field) (request : SimpleRequest) : Type 0 where
  pub response_type : request.response_type ≡ int32 1 fields
  pub response_size : request.response_size ≡ int32 2 fields
  pub payload : IsEmbedded IsPayload (contents 3 fields) request.payload
  pub fill_username : request.fill_username ≡ boolean 4 fields
  pub fill_oauth_scope : request.fill_oauth_scope ≡ boolean 5 fields
  pub response_compressed : IsEmbedded IsBoolValue (contents 6 fields) request.response_compressed
  pub response_status : IsEmbedded IsEchoStatus (contents 7 fields) request.response_status
  pub expect_compressed : IsEmbedded IsBoolValue (contents 8 fields) request.expect_compressed

pub record AcceptsSimpleRequest (field : Field) : Type 0 where
  pub payload : AcceptsMessage AcceptsAll 3 field
  pub response_compressed : AcceptsMessage AcceptsAll 6 field
  pub response_status : AcceptsMessage AcceptsEchoStatus 7 field
  pub expect_compressed : AcceptsMessage AcceptsAll 8 field

abbrev pub RefusesSimpleRequest : Field → ProtoFault → Type 0
RefusesSimpleRequest field fault =
    RefusesMessage (HasFault AcceptsAll RefusesNone) 3 field fault
    ⊎ (RefusesMessage (HasFault AcceptsAll RefusesNone) 6 field fault
    ⊎ (RefusesMessage (HasFault AcceptsEchoStatus RefusesEchoStatus) 7 field fault
    ⊎ RefusesMessage (HasFault AcceptsAll RefusesNone) 8 field fault))

-- ---- answers, and the streaming calls

pub record IsSimpleResponse (fields : List Field) (response : SimpleResponse) : Type 0 where
  pub payload : IsEmbedded IsPayload (contents 1 fields) response.payload
  pub username : response.username ≡ byte_string 2 fields
  pub oauth_scope : response.oauth_scope ≡ byte_string 3 fields

pub record AcceptsSimpleResponse (field : Field) : Type 0 where
  pub payload : AcceptsMessage AcceptsAll 1 field
  pub username : AcceptsText 2 field
  pub oauth_scope : AcceptsText 3 field

abbrev pub RefusesSimpleResponse : Field → ProtoFault → Type 0
RefusesSimpleResponse field fault =
    RefusesMessage (HasFault AcceptsAll RefusesNone) 1 field fault
    ⊎ (RefusesText 2 field fault ⊎ RefusesText 3 field fault)

pub record IsStreamingInputCallRequest (fields : List Field)
    (request : StreamingInputCallRequest) : Type 0 where
  pub payload : IsEmbedded IsPayload (contents 1 fields) request.payload
  pub expect_compressed : IsEmbedded IsBoolValue (contents 2 fields) request.expect_compressed

pub record AcceptsStreamingInputCallRequest (field : Field) : Type 0 where
  pub payload : AcceptsMessage AcceptsAll 1 field
  pub expect_compressed : AcceptsMessage AcceptsAll 2 field

abbrev pub RefusesStreamingInputCallRequest : Field → ProtoFault → Type 0
RefusesStreamingInputCallRequest field fault =
    RefusesMessage (HasFault AcceptsAll RefusesNone) 1 field fault
    ⊎ RefusesMessage (HasFault AcceptsAll RefusesNone) 2 field fault

pub record IsStreamingInputCallResponse (fields : List Field)
    (response : StreamingInputCallResponse) : Type 0 where
  pub aggregated_payload_size : response.aggregated_payload_size ≡ int32 1 fields

pub record IsResponseParameters (fields : List Field)
    (parameters : ResponseParameters) : Type 0 where
  pub size : parameters.size ≡ int32 1 fields
  pub interval_us : parameters.interval_us ≡ int32 2 fields
  pub compressed : IsEmbedded IsBoolValue (contents 3 fields) parameters.compressed

abbrev pub AcceptsResponseParameters : Field → Type 0
AcceptsResponseParameters = AcceptsMessage AcceptsAll 3

abbrev pub RefusesResponseParameters : Field → ProtoFault → Type 0
RefusesResponseParameters = RefusesMessage (HasFault AcceptsAll RefusesNone) 3

pub record IsStreamingOutputCallRequest (fields : List Field)
    (request : StreamingOutputCallRequest) : Type 0 where
  pub response_type : request.response_type ≡ int32 1 fields
  pub response_parameters :
      AreRepeated IsResponseParameters (contents 2 fields) request.response_parameters
  pub payload : IsEmbedded IsPayload (contents 3 fields) request.payload
  pub response_status : IsEmbedded IsEchoStatus (contents 7 fields) request.response_status

pub record AcceptsStreamingOutputCallRequest (field : Field) : Type 0 where
  pub response_parameters : AcceptsMessage AcceptsResponseParameters 2 field
  pub payload : AcceptsMessage AcceptsAll 3 field
  pub response_status : AcceptsMessage AcceptsEchoStatus 7 field

abbrev pub RefusesStreamingOutputCallRequest : Field → ProtoFault → Type 0
RefusesStreamingOutputCallRequest field fault =
    RefusesMessage (HasFault AcceptsResponseParameters RefusesResponseParameters) 2 field fault
    ⊎ (RefusesMessage (HasFault AcceptsAll RefusesNone) 3 field fault
    ⊎ RefusesMessage (HasFault AcceptsEchoStatus RefusesEchoStatus) 7 field fault)

pub record IsStreamingOutputCallResponse (fields : List Field)
    (response : StreamingOutputCallResponse) : Type 0 where
  pub payload : IsEmbedded IsPayload (contents 1 fields) response.payload

abbrev pub AcceptsStreamingOutputCallResponse : Field → Type 0
AcceptsStreamingOutputCallResponse = AcceptsMessage AcceptsAll 1

abbrev pub RefusesStreamingOutputCallResponse : Field → ProtoFault → Type 0
RefusesStreamingOutputCallResponse = RefusesMessage (HasFault AcceptsAll RefusesNone) 1
