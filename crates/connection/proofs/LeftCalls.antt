-- A response with the word that its call was left has no trailers: so the account of the call has
-- no status.
use Rattle.std.proofs.Common.{
  ◌≡◌,
  ◌⊎◌,
  inl,
  inr,
  zero,
  suc,
  false,
  List,
  [],
  ◌∷◌,
  ap,
  arith,
  refl,
  subst,
}
use Rattle.std.specs.Prelude.{Contains}
use Rattle.account.specs.Accounts.{IsBody, IsResponse}
use Rattle.account.specs.declared.call.OutItem.{OutItem}
use Rattle.account.specs.declared.call.OutItem.TheVariants.{Head, Left, Message, Trailers}
use Rattle.callbox.specs.OutSides.{has_trailers}

none-there : (item : OutItem) → Contains [] item → ⊥
none-there item (k, within, at) = omega (arith, within)

there-behind : (first item : OutItem) (items : List OutItem) → Contains (first ∷ items) item
    → (first ≡ item) ⊎ Contains items item
there-behind first item items (zero, within, at) = inl at
there-behind first item items (suc k, within, at) = inr (k, omega (arith, within), at)

bare-body : (items : List OutItem) → IsBody items → Contains items Left → has_trailers items ≡ false
bare-body [] is there = refl
bare-body (Head fields ∷ items) is there = absurd is
bare-body (Message bytes ∷ items) is there = elim (there-behind (Message bytes) Left items there) [
  | inl same ↦ absurd cc
  | inr rest ↦ bare-body items is.1 rest
]
bare-body (Trailers fields ∷ items) is there =
    elim (there-behind (Trailers fields) Left items there) [
      | inl same ↦ absurd cc
      | inr rest ↦
          absurd (none-there Left (subst (λ (more : List OutItem). Contains more Left) is rest))
    ]
bare-body (Left ∷ items) is there = ap (λ (more : List OutItem). has_trailers more) is

-- a response with the word that its call was left has no trailers
pub bare-response : (items : List OutItem) → IsResponse items → Contains items Left
    → has_trailers items ≡ false
bare-response [] is there = refl
bare-response (Head fields ∷ items) is there = elim (there-behind (Head fields) Left items there) [
  | inl same ↦ absurd cc
  | inr rest ↦ bare-body items is rest
]
bare-response (Message bytes ∷ items) is there = absurd is
bare-response (Trailers fields ∷ items) is there =
    elim (there-behind (Trailers fields) Left items there) [
      | inl same ↦ absurd cc
      | inr rest ↦
          absurd (none-there Left (subst (λ (more : List OutItem). Contains more Left) is rest))
    ]
bare-response (Left ∷ items) is there = ap (λ (more : List OutItem). has_trailers more) is
