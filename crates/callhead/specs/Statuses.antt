-- The status that ends a call: gRPC over HTTP/2, "Responses", with "Status" and "Status-Message".
use Rattle.std.specs.Prelude.{◌≡◌, ℕ, ◌≤◌, List, [], Some, unwrap_or, codes}
use Rattle.std.specs.Str.Parse.{IsNumeral, digits_value}
use Rattle.lists.specs.declared.field.Field.{Field}
use Rattle.callhead.specs.Fields.{first_of}
use Rattle.callhead.specs.StatusTexts.{text_of}

-- a decimal number of 0 to 16
pub record IsStatusCode (text : List ℕ) (code : ℕ) : Type 0 where
  pub decimal : IsNumeral 10 text
  pub value : code ≡ digits_value 10 text
  pub known : code ≤ 16

-- The fields have this status: its number in the first `grpc-status`, and its text in the first
-- `grpc-message`, which is empty if there is none.
pub record TellsStatus (fields : List Field) (code : ℕ) (text : List ℕ) : Type 0 where
  pub number : List ℕ
  pub found : first_of (codes "grpc-status") fields ≡ Some number
  pub code_is : IsStatusCode number code
  pub text_is : text ≡ text_of (unwrap_or (first_of (codes "grpc-message") fields) [])
