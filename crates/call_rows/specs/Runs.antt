-- What becomes of a call whose ends are in four threads.
use Rattle.std.specs.Prelude.{◌≡◌, ℕ, List, [], ◌∷◌, ◌++◌, map, Option, None, Some}
use Rattle.std.specs.List.{concat}
use mathlib.Core.List.{IsPrefix}
use Rattle.lists.specs.declared.field.Field.{Field}
use Rattle.lpm.specs.Messages.{frame, frames}
use Rattle.account.specs.declared.call.OutItem.{OutItem}
use Rattle.account.specs.declared.call.OutItem.TheVariants.{Head, Message, Trailers}
use Rattle.account.specs.declared.call.Shut.{Shut}
use Rattle.account.specs.declared.call.Shut.TheVariants as shut
use Rattle.account.specs.declared.call.RequestEnd.TheVariants as told
use Rattle.callbox.specs.declared.in_side.InAccount.{InAccount}
use Rattle.callbox.specs.InAccounts.{CountsIn}

-- of these pieces the half was fed a beginning where it stayed open, and all where it was shut, in
-- this way
abbrev pub IsFed : List (List ℕ) → Shut → List (List ℕ) → Option Shut → Type 0
IsFed pieces kind fed None = IsPrefix fed pieces
IsFed pieces kind fed (Some closed) = (fed ≡ pieces) × (closed ≡ kind)

-- what became of the in side of a call whose client sends these pieces and shuts the half in this
-- way
pub record RunsIn (pieces : List (List ℕ)) (kind : Shut) (messages : List (List ℕ))
    (r : InAccount) : Type 0 where
  pub fed : List (List ℕ)
  pub as_asked : IsFed pieces kind fed r.shut
  pub counts : CountsIn fed r.shut messages r.told r
  -- the end was told only where all pieces were fed and all their messages were taken
  pub whole : r.told ≡ Some told.End → (kind ≡ shut.End) × (concat pieces ≡ frames messages)

-- messages with their prefixes
abbrev pub message_items : List (List ℕ) → List OutItem
message_items messages = map (λ message. Message (frame message)) messages

-- a head, messages with their prefixes, and trailers
abbrev pub answer_items : List Field → List (List ℕ) → List Field → List OutItem
answer_items head messages trailers = Head head ∷ (message_items messages ++ Trailers trailers ∷ [])
