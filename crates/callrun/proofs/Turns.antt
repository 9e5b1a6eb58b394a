-- How many turns calls had.
use Rattle.std.proofs.Common.{
  ◌≡◌,
  ◌+◌,
  ◌⊎◌,
  inl,
  inr,
  arith,
  refl,
  sym,
  ◌∙◌,
  subst,
  ap,
  ℕ,
  Bool,
  true,
  false,
  List,
  [],
  ◌∷◌,
  ◌++◌,
  All,
}
use Rattle.std.specs.List.{sum_by}
use Rattle.std.proofs.lemmas.List.Sums.{sum_by_push}
use Rattle.std.proofs.lemmas.List.Elements.{All-push}
use Rattle.callrun.specs.declared.response.Response.{Response}
use Rattle.callrun.specs.declared.response.Response.TheVariants as response
use Rattle.callrun.specs.Listings.{CountsOn}
use Rattle.callrun.specs.Sides.{is_gone, is_left, is_open, is_shut}
use Rattle.callrun.proofs.Steps.{true_false}

pub counts_on : (a b c m n : ℕ) → CountsOn a b m → CountsOn b c n → CountsOn a c (m + n)
counts_on a b c m n (grows, exact) (grows_then, exact_then) = (
  omega (arith, grows, grows_then),
  λ below.
      let then_is = exact_then below in
      let first_is = exact (omega (arith, below, grows_then)) in
      omega (arith, then_is, first_is),
)

-- and of all of a list
pub counts_push : {X : Type 0} (f : X → ℕ) (a b c : ℕ) (xs all : List X) (x : X)
    → all ≡ xs ++ x ∷ [] → CountsOn a b (sum_by f xs) → CountsOn b c (f x)
    → CountsOn a c (sum_by f all)
counts_push f a b c xs all x pushed first next =
    subst (λ (n : ℕ). CountsOn a c n) (sym (ap (sum_by f) pushed ∙ sum_by_push f xs x))
    (counts_on a b c (sum_by f xs) (f x) first next)

pub counts_none : {X : Type 0} (f : X → ℕ) (a : ℕ) (xs : List X) → xs ≡ []
    → CountsOn a a (sum_by f xs)
counts_none f a xs none =
    subst (λ (n : ℕ). CountsOn a a n) (sym (ap (sum_by f) none)) (omega arith, λ below. omega arith)

pub all_push : {X : Type 0} (P : X → Type 0) (xs all : List X) (x : X) → all ≡ xs ++ x ∷ []
    → All P xs → P x → All P all
all_push {X} P xs all x pushed holds one =
    subst (λ (ys : List X). All P ys) (sym pushed) (All-push P xs x holds one)

module _ {G S : Type 0} where
  pub left_closed : (r : Response G S) → is_left r ≡ true → is_open r ≡ false
  left_closed (response.Open giver) left = absurd (cc)
  left_closed (response.Left giver) left = refl
  left_closed (response.Shut end code) left = refl
  left_closed response.Gone left = refl

  -- a call that is over was given its trailers, or was left
  pub over_so : (first last : Response G S) (memory other : Type 0) → is_open first ≡ true
      → is_gone last ≡ false → is_open last ≡ false
      → (is_left last ≡ true → (is_left first ≡ true) ⊎ memory ⊎ other)
      → (is_shut last ≡ true) ⊎ memory ⊎ other
  over_so first (response.Open giver) memory other fresh there closed left = absurd (cc)
  over_so first (response.Left giver) memory other fresh there closed left =
      elim (left refl) [
        | inl was ↦ absurd (true_false (is_open first) fresh (left_closed first was))
        | inr reason ↦ inr reason
      ]
  over_so first (response.Shut end code) memory other fresh there closed left = inl refl
  over_so first response.Gone memory other fresh there closed left = absurd (cc)

-- a call that was left stays so
pub left_on : (start other : Type 0) (mid_left mid_open new_left mid_lacks new_lacks : Bool)
    → (mid_left ≡ true → mid_open ≡ false) → (mid_open ≡ false → new_lacks ≡ mid_lacks)
    → (mid_left ≡ true → start ⊎ (mid_lacks ≡ true) ⊎ other)
    → (new_left ≡ true → (mid_left ≡ true) ⊎ (new_lacks ≡ true) ⊎ other)
    → new_left ≡ true → start ⊎ (new_lacks ≡ true) ⊎ other
left_on start other mid_left mid_open new_left mid_lacks new_lacks closed same first second is =
    elim (second is) [
      | inl was ↦ elim (first was) [
        | inl a ↦ inl a
        | inr reason ↦
            elim reason
            [ inl lacked ↦ inr (inl (same (closed was) ∙ lacked)) | inr b ↦ inr (inr b) ]
      ]
      | inr reason ↦ inr reason
    ]
