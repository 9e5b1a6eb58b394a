-- The statuses with which the server itself ends a call (gRPC's status codes; the texts are our
-- own).
use Rattle.std.specs.Prelude.{codes}
use Rattle.lpm.specs.declared.fault.LpmFault.{LpmFault}
use Rattle.lpm.specs.declared.fault.LpmFault.TheVariants as fault
use Rattle.callhead.specs.declared.head.Encoding.{Encoding}
use Rattle.callhead.specs.declared.head.Encoding.TheVariants.{Identity, Other}
use Rattle.grpc_status.specs.declared.StatusCode.TheVariants as code
use Rattle.handlers.specs.declared.status.Status.{Status}
use Rattle.handlers.specs.Statuses.{status}
use Rattle.callrun.specs.declared.cause.Cause.{Cause}
use Rattle.callrun.specs.declared.cause.Cause.TheVariants.{
  Cancelled,
  DeadlineExceeded,
  MessageTooLong,
  OutOfMemory,
  UnsupportedEncoding,
  CompressedWithoutEncoding,
  BadFlag,
  CutAtEnd,
}

abbrev pub status_of : Cause → Status
status_of Cancelled = status code.Cancelled (codes "cancelled")
status_of DeadlineExceeded = status code.DeadlineExceeded (codes "deadline exceeded")
status_of MessageTooLong = status code.ResourceExhausted (codes "message too long")
status_of OutOfMemory = status code.ResourceExhausted (codes "out of memory")
status_of UnsupportedEncoding = status code.Unimplemented (codes "unsupported encoding")
status_of CompressedWithoutEncoding = status code.Internal (codes "compressed without encoding")
status_of BadFlag = status code.Internal (codes "bad flag")
status_of CutAtEnd = status code.Internal (codes "message cut at end")

-- a compressed message without a named encoding is the client's fault; an encoding that was named
-- the server doesn't have
abbrev pub compressed_by : Encoding → Cause
compressed_by Other = UnsupportedEncoding
compressed_by Identity = CompressedWithoutEncoding

abbrev pub cause_of : LpmFault → Encoding → Cause
cause_of fault.Compressed encoding = compressed_by encoding
cause_of fault.BadFlag encoding = BadFlag
cause_of fault.TooLong encoding = MessageTooLong
cause_of fault.CutAtEnd encoding = CutAtEnd
cause_of fault.OutOfMemory encoding = OutOfMemory
