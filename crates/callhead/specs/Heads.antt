-- The head of a call: gRPC over HTTP/2, "Requests"; the echoes are those of the interop test cases'
-- custom metadata.
use Rattle.std.specs.Prelude.{
  ◌≡◌,
  ℕ,
  ◌<◌,
  nat_le,
  ◌⊎◌,
  Bool,
  true,
  false,
  ◌&&◌,
  List,
  [],
  ◌∷◌,
  ◌++◌,
  filter,
  Option,
  Some,
  None,
  MatchOption,
  if◌then◌else◌,
  bytes_eq,
  codes,
}
use Rattle.std.specs.List.{list_all}
use Rattle.lists.specs.declared.field.Field.{Field}
use Rattle.callhead.specs.declared.head.Encoding.{Encoding}
use Rattle.callhead.specs.declared.head.Encoding.TheVariants.{Identity, Other}
use Rattle.callhead.specs.declared.head.CallHead.{CallHead}
use Rattle.callhead.specs.declared.fault.HeadFault.{HeadFault}
use Rattle.callhead.specs.declared.fault.HeadFault.TheVariants.{
  Malformed,
  NotPost,
  NotGrpc,
  BadTimeout,
  OutOfMemory,
}
use Rattle.callhead.specs.Faults.{code_of}
use Rattle.callhead.specs.Fields.{first_of, values_of}
use Rattle.callhead.specs.MalformedHeads.{is_malformed}
use Rattle.callhead.specs.Timeouts.{IsTimeout}
use Rattle.callhead.specs.BinValues.{IsBinValues}

-- ---- what is asked of a head

abbrev pub IsPost : List Field → Type 0
IsPost fields = first_of (codes ":method") fields ≡ Some (codes "POST")

-- There is a content type, and it begins with `application/grpc`.
abbrev pub IsGrpc : List Field → Type 0
IsGrpc fields =
    MatchOption (first_of (codes "content-type") fields) ⊥
    (λ value. (rest : List ℕ) × (value ≡ codes "application/grpc" ++ rest))

-- the nanoseconds that `grpc-timeout` names, or none where there is no such field
abbrev pub HasTimeout : List Field → Option ℕ → Type 0
HasTimeout fields timeout =
    MatchOption (first_of (codes "grpc-timeout") fields) (timeout ≡ None)
    (λ text. (nanoseconds : ℕ) × IsTimeout text nanoseconds × (timeout ≡ Some nanoseconds))

-- ---- what a head says

abbrev pub encoding_of : Option (List ℕ) → Encoding
encoding_of None = Identity
encoding_of (Some name) = if bytes_eq name (codes "identity") then Identity else Other

-- bytes 20 to 7E
abbrev pub is_printable : List ℕ → Bool
is_printable value = list_all (λ byte. nat_le 0x20 byte && nat_le byte 0x7E) value

-- The values that go back in the response's head: each field's value.
abbrev pub initial_echoes : List Field → List (List ℕ)
initial_echoes fields = filter is_printable (values_of (codes "x-grpc-test-echo-initial") fields)

-- The values that go back for one field: those that it carries, and none where it carries none.
abbrev pub AreEchoesOf : List ℕ → List (List ℕ) → Type 0
AreEchoesOf text echoes =
    IsBinValues text echoes
    ⊎ (((values : List (List ℕ)) → IsBinValues text values → ⊥) × (echoes ≡ []))

-- the values that go back for several fields, one after another
abbrev pub AreEchoes : List (List ℕ) → List (List ℕ) → Type 0
AreEchoes [] echoes = echoes ≡ []
AreEchoes (text ∷ texts) echoes =
    (here : List (List ℕ)) × (behind : List (List ℕ)) × (echoes ≡ here ++ behind)
    × AreEchoesOf text here × AreEchoes texts behind

-- the values that go back in the trailers
abbrev pub AreTrailingEchoes : List Field → List (List ℕ) → Type 0
AreTrailingEchoes fields echoes =
    AreEchoes (values_of (codes "x-grpc-test-echo-trailing-bin") fields) echoes

-- The fields are the head of a call.
pub record IsHead (fields : List Field) (head : CallHead) : Type 0 where
  pub well_formed : is_malformed fields ≡ false
  pub post : IsPost fields
  pub grpc : IsGrpc fields
  pub path : first_of (codes ":path") fields ≡ Some head.path
  pub timeout : HasTimeout fields head.timeout
  pub encoding : head.encoding ≡ encoding_of (first_of (codes "grpc-encoding") fields)
  pub initial : head.echo_initial ≡ initial_echoes fields
  pub trailing : AreTrailingEchoes fields head.echo_trailing

-- ---- why fields aren't a head

abbrev pub Stands : HeadFault → List Field → Type 0
Stands Malformed fields = is_malformed fields ≡ true
Stands NotPost fields = IsPost fields → ⊥
Stands NotGrpc fields = IsGrpc fields → ⊥
Stands BadTimeout fields = (timeout : Option ℕ) → HasTimeout fields timeout → ⊥
Stands OutOfMemory fields = ⊥

-- The fields have the fault, and none with a lesser number.
pub record IsFirstFault (fields : List Field) (fault : HeadFault) : Type 0 where
  pub stands : Stands fault fields
  pub first : (other : HeadFault) → code_of other < code_of fault → Stands other fields → ⊥
