-- The fields that answer a call: gRPC over HTTP/2, "Responses"; RFC 9110, sections 15.5.6 and
-- 15.5.16.
use Rattle.std.specs.Prelude.{ℕ, List, [], ◌∷◌, ◌++◌, map, Option, Some, None, decimal, codes}
use Rattle.grpc_status.specs.StatusCode.{status_number}
use Rattle.grpc_status.specs.declared.StatusCode.TheVariants.{Unimplemented, Internal}
use Rattle.lists.specs.declared.field.Field.{Field}
use Rattle.callhead.specs.declared.fault.HeadFault.{HeadFault}
use Rattle.callhead.specs.declared.fault.HeadFault.TheVariants.{
  Malformed,
  NotPost,
  NotGrpc,
  BadTimeout,
  OutOfMemory,
}
use Rattle.callhead.specs.Fields.{field_of}
use Rattle.callhead.specs.StatusTexts.{percent_text}
use Rattle.callhead.specs.BinValues.{unpadded}

-- Response-Headers, with a field for each echo
abbrev pub response_fields : List (List ℕ) → List Field
response_fields echoes =
    field_of (codes ":status") (codes "200")
    ∷ field_of (codes "content-type") (codes "application/grpc")
    ∷ map (field_of (codes "x-grpc-test-echo-initial")) echoes

-- A status without a text has no field for it.
abbrev pub message_fields : List ℕ → List Field
message_fields [] = []
message_fields (byte ∷ bytes) = field_of (codes "grpc-message") (percent_text (byte ∷ bytes)) ∷ []

-- Trailers, with a field for each echo
abbrev pub status_fields : ℕ → List ℕ → List (List ℕ) → List Field
status_fields code text echoes =
    field_of (codes "grpc-status") (decimal code)
    ∷ (message_fields text
    ++ map (λ echo. field_of (codes "x-grpc-test-echo-trailing-bin") (unpadded echo)) echoes)

-- Trailers-Only, without echoes: a head and trailers in one block
abbrev pub trailers_only : ℕ → List ℕ → List Field
trailers_only code text = response_fields [] ++ status_fields code text []

-- the answer to a call of no method: UNIMPLEMENTED, with a text
abbrev pub unknown_method : List Field
unknown_method = trailers_only (status_number Unimplemented) (codes "unknown method")

-- a response of HTTP alone
abbrev pub status_alone : List ℕ → List Field
status_alone status = field_of (codes ":status") status ∷ []

-- The block that answers fields which aren't a head; there is none for a malformed request or for
-- want of memory.
abbrev pub refusal_of : HeadFault → Option (List Field)
refusal_of Malformed = None
refusal_of NotPost = Some (status_alone (codes "405"))
refusal_of NotGrpc = Some (status_alone (codes "415"))
refusal_of BadTimeout = Some (trailers_only (status_number Internal) (codes "bad timeout"))
refusal_of OutOfMemory = None
