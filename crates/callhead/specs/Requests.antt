-- Fields without a fault of a head. Only the crate's own functions use this word.
use Rattle.std.specs.Prelude.{◌≡◌, ℕ, false, List, Option}
use Rattle.lists.specs.declared.field.Field.{Field}
use Rattle.callhead.specs.MalformedHeads.{is_malformed}
use Rattle.callhead.specs.Heads.{IsPost, IsGrpc, HasTimeout}

pub record IsRequest (fields : List Field) (timeout : Option ℕ) : Type 0 where
  pub well_formed : is_malformed fields ≡ false
  pub post : IsPost fields
  pub grpc : IsGrpc fields
  pub timeout_is : HasTimeout fields timeout
  pub one_timeout : (other : Option ℕ) → HasTimeout fields other → timeout ≡ other
