-- The fields that open a call: gRPC over HTTP/2, "Requests"; RFC 9113, section 8.3.1.
use Rattle.std.specs.Prelude.{
  ◌≡◌,
  ◌≢◌,
  ℕ,
  ◌-◌,
  nat_le,
  Bool,
  not,
  ◌&&◌,
  List,
  [],
  ◌∷◌,
  ◌++◌,
  length,
  map,
  slice_get,
  Option,
  Some,
  None,
  MatchOption,
  IfSome,
  IsTrue,
  codes,
}
use Rattle.std.specs.List.{list_all}
use Rattle.lists.specs.declared.field.Field.{Field}
use Rattle.callhead.specs.declared.head.Encoding.TheVariants.{Identity}
use Rattle.callhead.specs.declared.head.CallHead.{CallHead}
use Rattle.callhead.specs.Fields.{field_of}
use Rattle.callhead.specs.MalformedHeads.{is_blank}
use Rattle.callhead.specs.Heads.{is_printable}
use Rattle.callhead.specs.Timeouts.{IsTimeout}
use Rattle.callhead.specs.BinValues.{unpadded}

-- ---- what may be asked for

-- bytes 21 to 7E: printable, and no blank
abbrev pub is_visible : List ℕ → Bool
is_visible text = list_all (λ byte. nat_le 0x21 byte && nat_le byte 0x7E) text

-- a path of visible bytes, of at least one
abbrev pub IsPathText : List ℕ → Type 0
IsPathText path = (path ≢ []) × IsTrue (is_visible path)

-- printable bytes, without a blank at an end
abbrev pub is_text_value : List ℕ → Bool
is_text_value value =
    is_printable value && not (is_blank (slice_get value 0))
    && not (is_blank (slice_get value (length value - 1)))

-- no text, or one that names a timeout
abbrev pub IsTimeoutText : Option (List ℕ) → Type 0
IsTimeoutText timeout = IfSome timeout (λ text. (nanoseconds : ℕ) × IsTimeout text nanoseconds)

-- ---- the fields

abbrev pub timeout_fields : Option (List ℕ) → List Field
timeout_fields None = []
timeout_fields (Some text) = field_of (codes "grpc-timeout") text ∷ []

-- values that are to come back in the head of the response, and bytes that are to come back in the
-- trailers
abbrev pub echo_fields : List (List ℕ) → List (List ℕ) → List Field
echo_fields initial trailing =
    map (field_of (codes "x-grpc-test-echo-initial")) initial
    ++ map (λ value. field_of (codes "x-grpc-test-echo-trailing-bin") (unpadded value)) trailing

abbrev pub opening_fields : List ℕ → List Field
opening_fields path =
    field_of (codes ":method") (codes "POST") ∷ field_of (codes ":scheme") (codes "http")
    ∷ field_of (codes ":path") path
    ∷ field_of (codes ":authority") (codes "localhost") ∷ field_of (codes "te") (codes "trailers")
    ∷ field_of (codes "content-type") (codes "application/grpc") ∷ []

abbrev pub request_fields : List ℕ → Option (List ℕ) → List (List ℕ) → List (List ℕ) → List Field
request_fields path timeout initial trailing =
    opening_fields path ++ (timeout_fields timeout ++ echo_fields initial trailing)

-- ---- the head that the fields are

-- a head asks for this path, the timeout that the text names, and these echoes
pub record AsksFor (path : List ℕ) (timeout : Option (List ℕ)) (initial trailing : List (List ℕ))
    (head : CallHead) : Type 0 where
  pub path_is : head.path ≡ path
  pub timeout_is :
      MatchOption timeout (head.timeout ≡ None)
      (λ text. (nanoseconds : ℕ) × IsTimeout text nanoseconds × (head.timeout ≡ Some nanoseconds))
  pub uncompressed : head.encoding ≡ Identity
  pub initial_is : head.echo_initial ≡ initial
  pub trailing_is : head.echo_trailing ≡ trailing
