-- The codes of gRPC statuses and their numbers (gRPC, "Status codes and their use in gRPC").
use Rattle.std.specs.Prelude.{◌≡◌, ℕ, ◌==◌, List, [], ◌∷◌, Option, Some, None, find, refl}
use Rattle.grpc_status.specs.declared.StatusCode.{StatusCode}
use Rattle.grpc_status.specs.declared.StatusCode.TheVariants.{
  Ok,
  Cancelled,
  Unknown,
  InvalidArgument,
  DeadlineExceeded,
  NotFound,
  AlreadyExists,
  PermissionDenied,
  ResourceExhausted,
  FailedPrecondition,
  Aborted,
  OutOfRange,
  Unimplemented,
  Internal,
  Unavailable,
  DataLoss,
  Unauthenticated,
}

-- the number of a code
abbrev pub status_number : StatusCode → ℕ
status_number Ok = 0
status_number Cancelled = 1
status_number Unknown = 2
status_number InvalidArgument = 3
status_number DeadlineExceeded = 4
status_number NotFound = 5
status_number AlreadyExists = 6
status_number PermissionDenied = 7
status_number ResourceExhausted = 8
status_number FailedPrecondition = 9
status_number Aborted = 10
status_number OutOfRange = 11
status_number Unimplemented = 12
status_number Internal = 13
status_number Unavailable = 14
status_number DataLoss = 15
status_number Unauthenticated = 16

abbrev pub all_codes : List StatusCode
all_codes =
    Ok ∷ Cancelled ∷ Unknown ∷ InvalidArgument ∷ DeadlineExceeded ∷ NotFound ∷ AlreadyExists
    ∷ PermissionDenied ∷ ResourceExhausted ∷ FailedPrecondition ∷ Aborted ∷ OutOfRange
    ∷ Unimplemented ∷ Internal ∷ Unavailable ∷ DataLoss ∷ Unauthenticated ∷ []

-- the code that has this number
abbrev pub code_with : ℕ → Option StatusCode
code_with number = find (λ (code : StatusCode). status_number code == number) all_codes

pub not_found : code_with 5 ≡ Some NotFound
not_found = refl

pub no_code : code_with 17 ≡ None
no_code = refl
