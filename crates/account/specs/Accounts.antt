-- Which accounts of a call are lawful.
use Rattle.std.specs.Prelude.{◌≡◌, ◌≢◌, ℕ, List, [], ◌∷◌, ◌++◌, Option, Some, None}
use Rattle.lpm.specs.declared.fault.LpmFault.{LpmFault}
use Rattle.lpm.specs.declared.fault.LpmFault.TheVariants.{
  Compressed,
  BadFlag,
  TooLong,
  CutAtEnd,
  OutOfMemory,
}
use Rattle.lpm.specs.Messages.{frames, IsFrame, Spells, IsFaultyAfter}
use Rattle.lpm.specs.Reading.{messages_of}
use Rattle.account.specs.declared.call.Account.{Account}
use Rattle.account.specs.declared.call.OutItem.{OutItem}
use Rattle.account.specs.declared.call.OutItem.TheVariants.{Head, Message, Trailers, Left}
use Rattle.account.specs.declared.call.Shut.{Shut}
use Rattle.account.specs.declared.call.Shut.TheVariants as shut
use Rattle.account.specs.declared.call.RequestEnd.{RequestEnd}
use Rattle.account.specs.declared.call.RequestEnd.TheVariants as told

-- the first list begins the second
abbrev pub Begins : {A : Type 0} → List A → List A → Type 0
Begins {A} front all = (rest : List A) × (all ≡ front ++ rest)

-- messages, and maybe at the end trailers, or that the call was left
abbrev pub IsBody : List OutItem → Type 0
IsBody [] = Unit {0}
IsBody (Head fields ∷ items) = ⊥
IsBody (Message bytes ∷ items) = IsFrame bytes × IsBody items
IsBody (Trailers fields ∷ items) = items ≡ []
IsBody (Left ∷ items) = items ≡ []

-- What a handler may give: nothing, trailers alone, or a head, messages, and maybe trailers at the
-- end (gRPC over HTTP/2, "Responses"); and in place of the trailers, that it left the call without
-- them.
abbrev pub IsResponse : List OutItem → Type 0
IsResponse [] = Unit {0}
IsResponse (Head fields ∷ items) = IsBody items
IsResponse (Message bytes ∷ items) = ⊥
IsResponse (Trailers fields ∷ items) = items ≡ []
IsResponse (Left ∷ items) = items ≡ []

-- A fault may be told only if it comes right after the messages that were taken: a fault of the
-- bytes, or their end inside a message. Want of memory is never told.
abbrev pub MayTellFault : LpmFault → List ℕ → Option Shut → List (List ℕ) → Type 0
MayTellFault Compressed fed closed taken = IsFaultyAfter fed taken Compressed
MayTellFault BadFlag fed closed taken = IsFaultyAfter fed taken BadFlag
MayTellFault TooLong fed closed taken = IsFaultyAfter fed taken TooLong
MayTellFault CutAtEnd fed closed taken =
    (closed ≡ Some shut.End) × ((rest : List ℕ) × Spells fed taken rest × (rest ≢ []))
MayTellFault OutOfMemory fed closed taken = ⊥

-- The end may be told only where the half was ended and all its bytes were taken; a reset only
-- where the half was reset and each message that came whole before it was taken.
abbrev pub MayTell : Option RequestEnd → List ℕ → Option Shut → List (List ℕ) → Type 0
MayTell None fed closed taken = Unit {0}
MayTell (Some told.End) fed closed taken = (closed ≡ Some shut.End) × (fed ≡ frames taken)
MayTell (Some (told.Reset code)) fed closed taken =
    (closed ≡ Some (shut.Reset code)) × ((rest : List ℕ) × Spells fed taken rest)
MayTell (Some (told.Fault fault)) fed closed taken = MayTellFault fault fed closed taken

pub record IsLawful (account : Account) : Type 0 where
  -- each message once and in order, and none that wasn't fed
  pub taken : Begins account.taken (messages_of account.fed)
  pub told : MayTell account.told account.fed account.shut account.taken
  -- each item once and in order, and none that wasn't given
  pub sent : Begins account.sent account.given
  -- a head first; trailers, or that the call was left, last
  pub given : IsResponse account.given
