-- The names of the cases and of the soaks: gRPC, "Interoperability Test Case Descriptions".
use Rattle.std.specs.Prelude.{◌≢◌, ℕ, List, codes}
use Rattle.cases.specs.declared.case.Case.{Case}
use Rattle.cases.specs.declared.case.Case.TheVariants.{
  EmptyUnary,
  LargeUnary,
  ClientStreaming,
  ServerStreaming,
  PingPong,
  EmptyStream,
  CustomMetadata,
  StatusCodeAndMessage,
  SpecialStatusMessage,
  UnimplementedMethod,
  UnimplementedService,
  CancelAfterBegin,
  CancelAfterFirstResponse,
  TimeoutOnSleepingServer,
  CacheableUnary,
}
use Rattle.cases.specs.declared.soak.Soak.{Soak}
use Rattle.cases.specs.declared.soak.Soak.TheVariants.{Rpc, Channel}

abbrev pub name_of : Case → List ℕ
name_of EmptyUnary = codes "empty_unary"
name_of LargeUnary = codes "large_unary"
name_of ClientStreaming = codes "client_streaming"
name_of ServerStreaming = codes "server_streaming"
name_of PingPong = codes "ping_pong"
name_of EmptyStream = codes "empty_stream"
name_of CustomMetadata = codes "custom_metadata"
name_of StatusCodeAndMessage = codes "status_code_and_message"
name_of SpecialStatusMessage = codes "special_status_message"
name_of UnimplementedMethod = codes "unimplemented_method"
name_of UnimplementedService = codes "unimplemented_service"
name_of CancelAfterBegin = codes "cancel_after_begin"
name_of CancelAfterFirstResponse = codes "cancel_after_first_response"
name_of TimeoutOnSleepingServer = codes "timeout_on_sleeping_server"
name_of CacheableUnary = codes "cacheable_unary"

abbrev pub soak_name_of : Soak → List ℕ
soak_name_of Rpc = codes "rpc_soak"
soak_name_of Channel = codes "channel_soak"

-- no case has this name
abbrev pub IsNoName : List ℕ → Type 0
IsNoName name = (case : Case) → name_of case ≢ name

-- no soak has this name
abbrev pub IsNoSoak : List ℕ → Type 0
IsNoSoak name = (soak : Soak) → soak_name_of soak ≢ name
