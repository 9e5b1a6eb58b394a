-- What went through the out side of a call: the items of a response.
use Rattle.std.specs.Prelude.{
  ◌≡◌,
  ℕ,
  ◌+◌,
  ◌≤◌,
  Bool,
  true,
  false,
  List,
  [],
  ◌∷◌,
  ◌++◌,
  map,
  Option,
  None,
  Some,
  refl,
}
use Rattle.std.specs.Coded.{le_prop, coded_list, coded_ℕ, Coded-set, ×_prop, Unit-prop}
use Rattle.std.proofs.Common.{sym, ap, subst, ◌∙◌}
use Rattle.std.proofs.Math.Path.{path_j, path_j'}
use Rattle.lane.specs.PutFault.{item_of, MayRefuse}
use Rattle.lane.specs.declared.fault.PutFault.{PutFault}
use Rattle.lane.specs.declared.fault.PutFault.TheVariants.{Full, OutOfMemory, NotTaken}
use Rattle.lpm.specs.Messages.{frame, IsMessage, IsFrame}
use Rattle.lpm.specs.Reading.{front_of}
use Rattle.lpm.proofs.Fronts.{front_of-frame}
use Rattle.account.specs.declared.call.Account.{Account}
use Rattle.account.specs.declared.call.CallEvent.{CallEvent}
use Rattle.account.specs.declared.call.CallEvent.TheVariants as event
use Rattle.account.specs.declared.call.OutItem.{OutItem}
use Rattle.account.specs.declared.call.OutItem.TheVariants.{Head, Message, Trailers, Left}
use Rattle.account.specs.Accounts.{IsBody, IsResponse}
use Rattle.callbox.specs.declared.giver.FramedFault.{FramedFault}
use Rattle.callbox.specs.declared.giver.FramedFault.TheVariants.{NotAFrame, Refused}

-- whether the first item is a head
abbrev pub has_head : List OutItem → Bool
has_head [] = false
has_head (Head fields ∷ items) = true
has_head (Message bytes ∷ items) = false
has_head (Trailers fields ∷ items) = false
has_head (Left ∷ items) = false

-- whether trailers are among the items
abbrev pub has_trailers : List OutItem → Bool
has_trailers [] = false
has_trailers (Head fields ∷ items) = has_trailers items
has_trailers (Message bytes ∷ items) = has_trailers items
has_trailers (Trailers fields ∷ items) = true
has_trailers (Left ∷ items) = has_trailers items

-- whether the last item that a call gives is among the items: trailers, or that it was left
abbrev pub has_end : List OutItem → Bool
has_end [] = false
has_end (Head fields ∷ items) = has_end items
has_end (Message bytes ∷ items) = has_end items
has_end (Trailers fields ∷ items) = true
has_end (Left ∷ items) = true

-- whether an item says that its call was left without trailers
abbrev pub is_left : Option OutItem → Bool
is_left None = false
is_left (Some (Head fields)) = false
is_left (Some (Message bytes)) = false
is_left (Some (Trailers fields)) = false
is_left (Some Left) = true

abbrev pub is_head : OutItem → Bool
is_head (Head fields) = true
is_head (Message bytes) = false
is_head (Trailers fields) = false
is_head Left = false

abbrev pub is_message : OutItem → Bool
is_message (Head fields) = false
is_message (Message bytes) = true
is_message (Trailers fields) = false
is_message Left = false

-- Why a message is handed back: the lane refuses its item, or there is no memory for the message
-- with its prefix.
abbrev pub MayRefuseMessage : Type 0 → ℕ → ℕ → ℕ → PutFault (List ℕ) → Type 0
MayRefuseMessage MayMiss room put seen_taken (Full message waiting) =
    (waiting + seen_taken ≡ put) × (room ≤ waiting)
MayRefuseMessage MayMiss room put seen_taken (OutOfMemory message) = Unit {0}
MayRefuseMessage MayMiss room put seen_taken (NotTaken message) = MayMiss

-- Why bytes with their prefix are handed back: they aren't one message, or they are, and the lane
-- refuses them.
abbrev pub RefusesFramed : (ℕ → Type 0) → Type 0 → ℕ → ℕ → ℕ → List ℕ → FramedFault → Type 0
RefusesFramed WantsMemory MayMiss room put seen_taken framed (NotAFrame bytes) =
    (bytes ≡ framed) × (IsFrame framed → ⊥)
RefusesFramed WantsMemory MayMiss room put seen_taken framed (Refused fault) =
    (item_of fault ≡ framed) × IsFrame framed
    × MayRefuse WantsMemory MayMiss room put seen_taken fault

-- the out side of an account
abbrev pub out_account : List OutItem → List OutItem → Account
out_account given sent =
    record { fed = []; shut = None; taken = []; told = None; given = given; sent = sent }

-- the items that were given, and a Send for each that was sent
abbrev pub out_events : List OutItem → List OutItem → List CallEvent
out_events given sent = map event.Give given ++ map (λ _. event.Send) sent

-- ---- a response is one in at most one way, so a struct may say of its items that they are one

same_message : (bytes message other : List ℕ) → IsMessage message → IsMessage other
    → bytes ≡ frame message → bytes ≡ frame other → message ≡ other
same_message bytes message other fits other_fits is other_is =
    let one = front_of-frame message [] fits in
    let two = front_of-frame other [] other_fits in
    let same = ap (λ (b : List ℕ). front_of (b ++ [])) (sym is ∙ other_is) in
    cc

-- the whole of what makes bytes a frame
abbrev as_frame : (bytes message : List ℕ) → IsMessage message
    → bytes ≡ frame message → IsFrame bytes
as_frame bytes message fits is = (message, fits, is)

pub IsFrame-prop : (bytes : List ℕ) → IsProp (IsFrame bytes)
IsFrame-prop bytes (message, fits, is) (other, other_fits, other_is) =
    path_j (λ (y : List ℕ) (q : message ≡ y).
    (y_fits : IsMessage y) (y_is : bytes ≡ frame y)
    → as_frame bytes message fits is ≡ as_frame bytes y y_fits y_is)
    (λ y_fits y_is.
    ap (λ (f : IsMessage message). as_frame bytes message f is) (le_prop fits y_fits)
    ∙ ap (λ (e : bytes ≡ frame message). as_frame bytes message y_fits e)
    (Coded-set (coded_list coded_ℕ) bytes (frame message) is y_is))
    (same_message bytes message other fits other_fits is other_is) other_fits other_is

-- a list is empty in one way only
IsNone : List OutItem → Type 0
IsNone [] = Unit {0}
IsNone (item ∷ items) = ⊥

IsNone-prop : (items : List OutItem) → IsProp (IsNone items)
unfolding IsNone
IsNone-prop [] = Unit-prop
IsNone-prop (item ∷ items) = λ p q. absurd p

from_none : (items : List OutItem) → IsNone items → items ≡ []
unfolding IsNone
from_none [] none = refl
from_none (item ∷ items) none = absurd none

to_none : (items : List OutItem) → items ≡ [] → IsNone items
unfolding IsNone
to_none items e = subst IsNone (sym e) tt

there_and_back : (items : List OutItem) (e : items ≡ []) → from_none items (to_none items e) ≡ e
unfolding from_none
there_and_back items e =
    path_j' (λ (xs : List OutItem) (p : xs ≡ []). from_none xs (to_none xs p) ≡ p) refl e

IsEmpty-prop : (items : List OutItem) → IsProp (items ≡ [])
IsEmpty-prop items p q =
    sym (there_and_back items p)
    ∙ ap (from_none items) (IsNone-prop items (to_none items p) (to_none items q))
    ∙ there_and_back items q

IsBody-prop : (items : List OutItem) → IsProp (IsBody items)
IsBody-prop [] = Unit-prop
IsBody-prop (Head fields ∷ items) = λ p q. absurd p
IsBody-prop (Message bytes ∷ items) = ×_prop (IsFrame-prop bytes) (IsBody-prop items)
IsBody-prop (Trailers fields ∷ items) = IsEmpty-prop items
IsBody-prop (Left ∷ items) = IsEmpty-prop items

pub IsResponse-prop : (items : List OutItem) → IsProp (IsResponse items)
IsResponse-prop [] = Unit-prop
IsResponse-prop (Head fields ∷ items) = IsBody-prop items
IsResponse-prop (Message bytes ∷ items) = λ p q. absurd p
IsResponse-prop (Trailers fields ∷ items) = IsEmpty-prop items
IsResponse-prop (Left ∷ items) = IsEmpty-prop items
