-- What every value of a message's type is: its numbers have 32 bits, its strings are UTF-8.
use Rattle.std.specs.Prelude.{IfSome, FitsSigned, IsUtf8}
use Rattle.std.specs.List.{AllByRecursion}
use Rattle.std.specs.Int.{w32}
use Rattle.testproto.specs.declared.messages.Payload.{Payload}
use Rattle.testproto.specs.declared.messages.EchoStatus.{EchoStatus}
use Rattle.testproto.specs.declared.messages.SimpleRequest.{SimpleRequest}
use Rattle.testproto.specs.declared.messages.SimpleResponse.{SimpleResponse}
use Rattle.testproto.specs.declared.messages.StreamingInputCallRequest.{StreamingInputCallRequest}
use Rattle.testproto.specs.declared.messages.StreamingInputCallResponse.{StreamingInputCallResponse}
use Rattle.testproto.specs.declared.messages.ResponseParameters.{ResponseParameters}
use Rattle.testproto.specs.declared.messages.StreamingOutputCallRequest.{StreamingOutputCallRequest}
use Rattle.testproto.specs.declared.messages.StreamingOutputCallResponse.{
  StreamingOutputCallResponse,
}

-- a message with neither a number nor a string
abbrev pub FitsAlways : {M : Type 0} → M → Type 0
FitsAlways message = Unit {0}

pub record FitsPayload (payload : Payload) : Type 0 where
  pub kind : FitsSigned w32 payload.kind

pub record FitsEchoStatus (status : EchoStatus) : Type 0 where
  pub code : FitsSigned w32 status.code
  pub message : IsUtf8 status.message

pub record FitsSimpleRequest (request : SimpleRequest) : Type 0 where
  pub response_type : FitsSigned w32 request.response_type
  pub response_size : FitsSigned w32 request.response_size
  pub payload : IfSome request.payload FitsPayload
  pub response_status : IfSome request.response_status FitsEchoStatus

pub record FitsSimpleResponse (response : SimpleResponse) : Type 0 where
  pub payload : IfSome response.payload FitsPayload
  pub username : IsUtf8 response.username
  pub oauth_scope : IsUtf8 response.oauth_scope

pub record FitsStreamingInputCallRequest (request : StreamingInputCallRequest) : Type 0 where
  pub payload : IfSome request.payload FitsPayload

pub record FitsStreamingInputCallResponse (response : StreamingInputCallResponse) : Type 0 where
  pub aggregated_payload_size : FitsSigned w32 response.aggregated_payload_size

pub record FitsResponseParameters (parameters : ResponseParameters) : Type 0 where
  pub size : FitsSigned w32 parameters.size
  pub interval_us : FitsSigned w32 parameters.interval_us

pub record FitsStreamingOutputCallRequest (request : StreamingOutputCallRequest) : Type 0 where
  pub response_type : FitsSigned w32 request.response_type
  pub response_parameters : AllByRecursion FitsResponseParameters request.response_parameters
  pub payload : IfSome request.payload FitsPayload
  pub response_status : IfSome request.response_status FitsEchoStatus

pub record FitsStreamingOutputCallResponse (response : StreamingOutputCallResponse) : Type 0 where
  pub payload : IfSome response.payload FitsPayload
