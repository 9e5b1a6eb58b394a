-- That a call was left stays among what its sender gave.
use Rattle.std.proofs.Common.{
  ◌≡◌,
  ◌==◌,
  ◌<◌,
  ◌∙◌,
  ℕ,
  inl,
  inr,
  refl,
  sym,
  ap,
  subst,
  Bool,
  true,
  false,
  List,
  [],
  ◌∷◌,
  ◌++◌,
  length,
  arith,
  true≢false,
}
use Rattle.std.specs.Prelude.{Contains, get_or}
use Rattle.std.proofs.lemmas.Bool.{eqb-true, eq-eqb}
use Rattle.std.proofs.lemmas.List.{get_or_default}
use Rattle.std.proofs.lemmas.List.Elements.{Contains-append_left}
use Rattle.account.specs.declared.call.OutItem.{OutItem}
use Rattle.account.specs.declared.call.OutItem.TheVariants.{Left}
use Rattle.outwriter.specs.LeftCalls.{GaveLeft}
use Rattle.outwriter.specs.NextOn.{GetsOne}
use Rattle.outwriter.proofs.ServeStepsOpen.{Grows, grows-one}

gave-more : (id place : ℕ) (one : OutItem) (old new : List (ℕ × List OutItem))
    → Grows place (one ∷ []) old new → GaveLeft id old → GaveLeft id new
gave-more id place one old new g (items, (k, within, at), left) = by (k == place) refl
  where
    there : k < length new
    there = omega (arith, within, g.same_length)

    by : (b : Bool) → (k == place) ≡ b → GaveLeft id new
    by true p =
        let here : k ≡ place = eqb-true k place p in
        let longer : List OutItem = items ++ one ∷ [] in
        let was : get_or old place (id, longer) ≡ (id, items) =
        get_or_default old place (id, longer) (id, items) (subst (λ n. n < length old) here within)
        ∙ subst (λ n. get_or old n (id, items) ≡ (id, items)) here at in
        let now : get_or new place (id, longer) ≡ (id, longer) =
        g.here (id, longer) (subst (λ n. n < length old) here within)
        ∙ ap (λ (c : ℕ × List OutItem). (c.0, c.1 ++ one ∷ [])) was in (
          longer,
          (k, there, subst (λ n. get_or new n (id, longer) ≡ (id, longer)) (sym here) now),
          Contains-append_left items (one ∷ []) Left left,
        )
    by false p = (
      items,
      (k, there, g.elsewhere k (id, items) (λ e. true≢false (sym (eq-eqb k place e) ∙ p)) ∙ at),
      left,
    )

pub gave-one : (old new : List (ℕ × List OutItem)) → GetsOne old new → (id : ℕ)
    → GaveLeft id old → GaveLeft id new
gave-one old new (inl e) id gave =
    subst (λ (all : List (ℕ × List OutItem)). GaveLeft id all) (sym e) gave
gave-one old new (inr (place, one, e)) id gave =
    gave-more id place one old new (grows-one place one old new e) gave
