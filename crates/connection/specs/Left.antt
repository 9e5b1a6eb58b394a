-- Calls that were left without trailers: their streams are reset with INTERNAL_ERROR (RFC 9113,
-- section 7), and their accounts have no status.
use Rattle.std.specs.Prelude.{◌≡◌, ℕ, All, Contains, List, None}
use Rattle.callparts.specs.declared.call_account.CallAccount.{CallAccount}

-- no call on one of these streams has a status
abbrev pub AreLeft : List ℕ → List CallAccount → Type 0
AreLeft streams accounts =
    All (λ account. Contains streams account.id → account.status ≡ None) accounts

-- The stream's call has an account, without a status.
pub record WasLeft (id : ℕ) (accounts : List CallAccount) : Type 0 where
  pub account : CallAccount
  pub among : Contains accounts account
  pub whose : account.id ≡ id
  pub unanswered : account.status ≡ None
