-- The statuses that the methods give (gRPC's status codes; the texts are our own).
use Rattle.std.specs.Prelude.{ℕ, List, [], codes}
use Rattle.grpc_status.specs.declared.StatusCode.{StatusCode}
use Rattle.grpc_status.specs.declared.StatusCode.TheVariants.{
  Ok,
  InvalidArgument,
  OutOfRange,
  Internal,
}
use Rattle.handlers.specs.declared.status.Status.{Status}
use Rattle.handlers.specs.declared.status.Refusal.{Refusal}
use Rattle.handlers.specs.declared.status.Refusal.TheVariants.{
  MalformedMessage,
  NotCompressed,
  BadResponseType,
  BadResponseSize,
  SumOutOfRange,
  WrongNumber,
}

abbrev pub status : StatusCode → List ℕ → Status
status code text = record { code = code; text = text }

abbrev pub ok_status : Status
ok_status = status Ok []

abbrev pub status_of : Refusal → Status
status_of MalformedMessage = status Internal (codes "malformed message")
status_of NotCompressed = status InvalidArgument (codes "message is not compressed")
status_of BadResponseType = status InvalidArgument (codes "bad response type")
status_of BadResponseSize = status InvalidArgument (codes "bad response size")
status_of SumOutOfRange = status OutOfRange (codes "sum out of range")
status_of WrongNumber = status Internal (codes "wrong number of messages")
