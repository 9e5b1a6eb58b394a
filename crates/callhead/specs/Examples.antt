-- Worked examples of the definitions.
use Rattle.std.specs.Prelude.{◌≡◌, ◌<◌, true, false, Some, List, [], ◌∷◌, ◌++◌, codes, refl}
use Rattle.std.specs.Fmt.{digits}
use Rattle.std.proofs.Common.{arith}
use Rattle.base64.specs.Rfc4648.{encode_symbols}
use Rattle.callhead.specs.Timeouts.{IsTimeout}
use Rattle.callhead.specs.StatusTexts.{percent_text}
use Rattle.callhead.specs.BinValues.{unpadded, padded}
use Rattle.lists.specs.declared.field.Field.{Field}
use Rattle.callhead.specs.declared.head.CallHead.{CallHead}
use Rattle.callhead.specs.declared.head.Encoding.TheVariants.{Identity}
use Rattle.callhead.specs.Fields.{field_of}
use Rattle.callhead.specs.MalformedHeads.{is_malformed, are_malformed_trailers}
use Rattle.callhead.specs.declared.fault.HeadFault.{HeadFault}
use Rattle.callhead.specs.declared.fault.HeadFault.TheVariants.{
  Malformed,
  NotPost,
  NotGrpc,
  BadTimeout,
  OutOfMemory,
}
use Rattle.callhead.specs.Faults.{code_of}
use Rattle.callhead.specs.Heads.{IsHead, IsFirstFault}
use Rattle.callhead.specs.StatusFields.{unknown_method}

-- five milliseconds
pub five_milliseconds : IsTimeout (codes "5m") 5000000
five_milliseconds = record {
  digits = codes "5";
  letter = 0x6D;
  unit = 1000000;
  whole = refl;
  amount = ((omega arith, (omega arith, tt)), omega arith);
  named = refl;
  product = refl;
}

-- a tab, a percent sign, a letter and U+263A
pub percent_text-escapes : percent_text (0x09 ∷ 0x25 ∷ 0x41 ∷ 0xE2 ∷ 0x98 ∷ 0xBA ∷ [])
    ≡ codes "%09%25A%E2%98%BA"
unfolding percent_text
percent_text-escapes = refl

-- two bytes, without padding and with it
pub unpadded-two : unpadded (0xAB ∷ 0xAB ∷ []) ≡ codes "q6s"
unfolding unpadded encode_symbols
unpadded-two = refl

pub padded-two : padded (0xAB ∷ 0xAB ∷ []) ≡ codes "q6s="
unfolding padded unpadded encode_symbols
padded-two = refl

-- a call of EmptyCall, with a timeout and an echo
abbrev request : List Field
request =
    field_of (codes ":method") (codes "POST")
    ∷ field_of (codes ":scheme") (codes "http")
    ∷ field_of (codes ":path") (codes "/grpc.testing.TestService/EmptyCall")
    ∷ field_of (codes "te") (codes "trailers")
    ∷ field_of (codes "content-type") (codes "application/grpc+proto")
    ∷ field_of (codes "grpc-timeout") (codes "5m")
    ∷ field_of (codes "x-grpc-test-echo-initial") (codes "a b")
    ∷ []

abbrev head_of_request : CallHead
head_of_request = record {
  path = codes "/grpc.testing.TestService/EmptyCall";
  timeout = Some 5000000;
  encoding = Identity;
  echo_initial = codes "a b" ∷ [];
  echo_trailing = [];
}

pub request-head : IsHead request head_of_request
unfolding is_malformed
request-head = record {
  well_formed = refl;
  post = refl;
  grpc = (codes "+proto", refl);
  path = refl;
  timeout = (5000000, five_milliseconds, refl);
  encoding = refl;
  initial = refl;
  trailing = refl;
}

-- a pseudo-header after another field, and an upper-case letter
pub is_malformed-late :
    is_malformed (request ++ field_of (codes ":authority") (codes "localhost") ∷ [])
    ≡ true
unfolding is_malformed
is_malformed-late = refl

pub is_malformed-upper_case : is_malformed (request ++ field_of (codes "X-a") (codes "1") ∷ [])
    ≡ true
unfolding is_malformed
is_malformed-upper_case = refl

-- trailers: none, a field of the caller's own, a pseudo-header, an upper-case letter, a line feed,
-- and a field of the connection
pub are_malformed_trailers-none : are_malformed_trailers [] ≡ false
unfolding are_malformed_trailers
are_malformed_trailers-none = refl

pub are_malformed_trailers-own :
    are_malformed_trailers
    (field_of (codes "x-sum") (codes "5") ∷ field_of (codes "te") (codes "trailers") ∷ [])
    ≡ false
unfolding are_malformed_trailers
are_malformed_trailers-own = refl

pub are_malformed_trailers-pseudo_header :
    are_malformed_trailers (field_of (codes ":path") (codes "/a") ∷ [])
    ≡ true
unfolding are_malformed_trailers
are_malformed_trailers-pseudo_header = refl

pub are_malformed_trailers-upper_case :
    are_malformed_trailers
    (field_of (codes "x-sum") (codes "5") ∷ field_of (codes "X-a") (codes "1") ∷ [])
    ≡ true
unfolding are_malformed_trailers
are_malformed_trailers-upper_case = refl

pub are_malformed_trailers-line_feed :
    are_malformed_trailers (field_of (codes "x-sum") (codes "5\n6") ∷ [])
    ≡ true
unfolding are_malformed_trailers
are_malformed_trailers-line_feed = refl

pub are_malformed_trailers-connection :
    are_malformed_trailers (field_of (codes "connection") (codes "close") ∷ [])
    ≡ true
unfolding are_malformed_trailers
are_malformed_trailers-connection = refl

pub are_malformed_trailers-te : are_malformed_trailers (field_of (codes "te") (codes "gzip") ∷ [])
    ≡ true
unfolding are_malformed_trailers
are_malformed_trailers-te = refl

-- the answer to a call of no method
pub unknown_method-fields : unknown_method
    ≡ field_of (codes ":status") (codes "200")
    ∷ field_of (codes "content-type") (codes "application/grpc")
    ∷ field_of (codes "grpc-status") (codes "12")
    ∷ field_of (codes "grpc-message") (codes "unknown method") ∷ []
unfolding percent_text digits
unknown_method-fields = refl

-- no fields at all: the first fault is that they aren't a request's
pub no-fields : IsFirstFault [] Malformed
unfolding is_malformed
no-fields = record { stands = refl; first = λ other less stands. absurd (least other less) }
  where
    least : (other : HeadFault) → code_of other < 1 → ⊥
    least Malformed less = omega arith
    least NotPost less = omega arith
    least NotGrpc less = omega arith
    least BadTimeout less = omega arith
    least OutOfMemory less = omega arith
