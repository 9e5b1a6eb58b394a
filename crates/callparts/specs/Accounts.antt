-- What the account of a call rests on.
use Rattle.std.specs.Prelude.{◌≡◌, ℕ, Bool, false, List, [], Option, None}
use Rattle.std.specs.List.{concat}
use Rattle.account.specs.declared.call.Account.{Account}
use Rattle.account.specs.Accounts.{IsLawful}
use Rattle.callbox.specs.InAccounts.{CountsIn}
use Rattle.callbox.specs.OutAccounts.{CountsOut}
use Rattle.callhead.specs.declared.head.CallHead.{CallHead}
use Rattle.handlers.specs.declared.step.MethodStep.{MethodStep}
use Rattle.callparts.specs.declared.call_account.CallAccount.{CallAccount}
use Rattle.callparts.specs.Workers.{IsAnswered}

-- The account of a call with this head has the counts of a lawful account: both sides are as that
-- has them, and what was given is an answer of the call's method.
pub record StandsOn (answers : ℕ → List (List ℕ) → Bool → MethodStep → Type 0) (head : CallHead)
    (account : Account) (call : CallAccount) : Type 0 where
  pub lawful : IsLawful account
  pub pieces : List (List ℕ)
  pub fed : account.fed ≡ concat pieces
  pub in_side : CountsIn pieces account.shut account.taken account.told call.input
  pub out_side : CountsOut account.given account.sent call.output
  pub answered :
      IsAnswered (answers call.method) head account.taken account.told account.given call.status

-- the account of a call that was fed nothing and given nothing
abbrev pub unserved : ℕ → ℕ → CallAccount
unserved id method =
    record {
      id = id;
      method = method;
      input = record { fed = 0; shut = None; taken = 0; told = None };
      output = record { given = 0; sent = 0; trailers_given = false; trailers_sent = false };
      status = None;
      traffic = record { bytes = 0; replies = 0; reply_bytes = 0 };
    }
