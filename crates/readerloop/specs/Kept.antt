-- What the steps that the reading side heard make of the calls of a connection.
use Rattle.std.specs.Prelude.{
  ◌≡◌,
  ◌⊎◌,
  ◌≤◌,
  ℕ,
  Bool,
  false,
  nat_eq,
  List,
  ◌∷◌,
  map,
  All,
  Contains,
  Option,
  None,
  Some,
  if◌then◌else◌,
  slice_get,
}
use Rattle.std.specs.List.{IsDistinct}
use Rattle.account.specs.declared.call.OutItem.{OutItem}
use Rattle.callparts.specs.declared.call_account.CallAccount.{CallAccount}
use Rattle.callparts.specs.declared.register.Naming.{Ghosts}
use Rattle.callhead.specs.declared.head.CallHead.{CallHead}
use Rattle.callparts.specs.declared.work.Request.{Request}
use Rattle.callparts.specs.Numbers.{request_at}
use Rattle.callparts.specs.Blocks.{items_of}
use Rattle.handlers.specs.declared.step.MethodStep.{MethodStep as Answer}
use Rattle.readerloop.specs.declared.call.Call.{Call}
use Rattle.readerloop.specs.declared.calls.Calls.{Calls}
use Rattle.readerloop.specs.Calls.{IsCall}
use Rattle.lane.specs.declared.fault.PutFault.{PutFault}
use Rattle.readerloop.specs.Halves.{MayRefuse, is_open, shown, unfed}
use Rattle.readerloop.specs.Orders.{greatest}
use Rattle.readerloop.specs.Reports.{IsAccounted}
use Rattle.readerloop.specs.Steps.{AdmitsNoMore, IsRising, Step, last_of, reported}

-- the stream to which more may be fed, unless it is this one
abbrev pub fed_but : ℕ → Option ℕ → Option ℕ
fed_but id None = None
fed_but id (Some other) = if nat_eq other id then None else Some other

module _ {J : Type 0} {book : Ghosts J} where
  abbrev pub unsettled : Calls J book → List (Call J book)
  unsettled calls = calls.calls.items

  abbrev pub accounts_of : Calls J book → List CallAccount
  accounts_of calls = items_of calls.accounts.full calls.accounts.last

  -- the streams of these calls
  abbrev pub ids_of : List (Call J book) → List ℕ
  ids_of calls = map (λ call. call.id) calls

  -- the stream of the call at a place, where more may be fed to it
  abbrev pub fed_in : Option (Call J book) → Option ℕ
  fed_in None = None
  fed_in (Some call) = if is_open call.half then Some call.id else None

  abbrev pub fed_at : ℕ → Calls J book → Option ℕ
  fed_at place calls = fed_in (slice_get (unsettled calls) place)

  -- a call of this stream may refuse a piece so
  abbrev pub MayRefuseOn : {T : Type 0} → ℕ → Calls J book → PutFault T → Type 0
  MayRefuseOn id calls fault =
      (place : ℕ) × (call : Call J book) × (slice_get (unsettled calls) place ≡ Some call)
      × (call.id ≡ id) × MayRefuse call.half fault

  -- no more may be fed to any of them
  abbrev pub AreCut : List (Call J book) → Type 0
  AreCut calls = All (λ call. is_open call.half ≡ false) calls

  -- A call that begins: it is in the register with this head, whose path names its method, and
  -- nothing of it was fed or came back.
  pub record IsFresh (names : List ℕ → ℕ → Type 0) (head : CallHead)
      (call : Call J book) : Type 0 where
    pub request : Request
    pub asked : request_at call.number.seen.log call.number.value ≡ Some request
    pub same_id : request.id ≡ call.id
    pub same_method : request.index ≡ call.method
    pub same_head : request.head ≡ head
    pub named : names head.path call.method
    pub half : shown call.half ≡ unfed
    pub answered : call.finished ≡ None
    pub returned : call.returning ≡ None

  module _ (known : ℕ → List (List ℕ) → Bool → Answer → Type 0) (names : List ℕ → ℕ → Type 0)
      (carries : ℕ → List OutItem → Type 0) where
    -- an account is final, or its call is one of those that aren't settled
    abbrev pub IsSoFar : List Step → List (Call J book) → CallAccount → Type 0
    IsSoFar told calls account =
        IsAccounted known names carries told account ⊎ Contains (ids_of calls) account.id

    -- These steps led to these calls that aren't settled, and to these accounts: there is one for
    -- each call that was admitted, in their order. Each call is what the steps make of it, and has
    -- the place of its account.
    pub record AreKept (told : List Step) (calls : List (Call J book)) (accounts : List CallAccount)
        (last : ℕ) : Type 0 where
      pub rising : IsRising told
      pub last_is : last_of told ≤ last
      pub top : last ≡ greatest (reported told)
      pub closed : AdmitsNoMore told
      pub once : IsDistinct nat_eq (reported told)
      pub streams : map (λ account. account.id) accounts ≡ reported told
      pub so_far : All (IsSoFar told calls) accounts
      pub each : All (IsCall known names carries told) calls
      pub placed : All (λ call. slice_get (reported told) call.place ≡ Some call.id) calls
      pub apart : IsDistinct nat_eq (ids_of calls)

    abbrev pub Kept : List Step → Calls J book → Type 0
    Kept told calls = AreKept told (unsettled calls) (accounts_of calls) calls.last

    -- Whatever steps led to the calls before lead to those after: the steps alone; or with this
    -- step.
    abbrev pub Keeps : Calls J book → Calls J book → Type 0
    Keeps old new = (told : List Step) → Kept told old → Kept told new

    abbrev pub Hears : Step → Calls J book → Calls J book → Type 0
    Hears step old new = (told : List Step) → Kept told old → Kept (step ∷ told) new
