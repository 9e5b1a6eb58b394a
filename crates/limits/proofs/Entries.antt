-- Look-ups in a list of entries by number, after a further entry and after another value.
use Rattle.std.proofs.Common.{
  ◌≡◌,
  ℕ,
  Bool,
  true,
  false,
  refl,
  sym,
  ap,
  subst,
  ◌∙◌,
  List,
  [],
  ◌∷◌,
  ◌++◌,
  Some,
  None,
  nat_eq,
  cond,
  is_some,
  Option,
  ◌<◌,
  zero,
  suc,
  true≢false,
  arith,
}
use Rattle.std.specs.Prelude.{if◌then◌else◌}
use Rattle.std.specs.Map.{lookup, set_value}
use Rattle.std.proofs.lemmas.Bool.{eqb-true, eq-eqb, ne_eqb}
use Rattle.std.proofs.lemmas.Map.Steps.{set_value_same}

pub same_number : (k : ℕ) → nat_eq k k ≡ true
same_number k = eq-eqb k k refl

pub lookup-push : {X : Type 0} (id k : ℕ) (w : X) (es : List (ℕ × X)) → nat_eq id k ≡ false
    → lookup (nat_eq id) (es ++ (k, w) ∷ []) ≡ lookup (nat_eq id) es
lookup-push {X} id k w [] other = ap (λ b. cond b (Some w) None) other
lookup-push {X} id k w (e ∷ es) other =
    ap (λ o. cond (nat_eq id e.0) (Some e.1) o) (lookup-push id k w es other)

pub lookup-pushed : {X : Type 0} (k : ℕ) (w : X) (es : List (ℕ × X)) → lookup (nat_eq k) es ≡ None
    → lookup (nat_eq k) (es ++ (k, w) ∷ []) ≡ Some w
lookup-pushed {X} k w [] none = ap (λ b. cond b (Some w) None) (same_number k)
lookup-pushed {X} k w (e ∷ es) none = by (lookup-pushed k w es) (nat_eq k e.0) none
  where
    by : (lookup (nat_eq k) es ≡ None → lookup (nat_eq k) (es ++ (k, w) ∷ []) ≡ Some w) → (b : Bool)
        → cond b (Some e.1) (lookup (nat_eq k) es) ≡ None
        → cond b (Some e.1) (lookup (nat_eq k) (es ++ (k, w) ∷ [])) ≡ Some w
    by rest true n = cc
    by rest false n = rest n

pub lookup-set_other : {X : Type 0} (id k : ℕ) (w : X) (es : List (ℕ × X)) → nat_eq id k ≡ false
    → lookup (nat_eq id) (set_value (nat_eq k) es w) ≡ lookup (nat_eq id) es
lookup-set_other {X} id k w [] other = refl
lookup-set_other {X} id k w (e ∷ es) other =
    by (lookup-set_other id k w es other) (nat_eq k e.0) refl
  where
    at : nat_eq k e.0 ≡ true → nat_eq id e.0 ≡ false
    at p = subst (λ n. nat_eq id n ≡ false) (eqb-true k e.0 p) other

    by : lookup (nat_eq id) (set_value (nat_eq k) es w) ≡ lookup (nat_eq id) es → (b : Bool)
        → nat_eq k e.0 ≡ b
        → lookup (nat_eq id) (cond b ((e.0, w) ∷ es) (e ∷ set_value (nat_eq k) es w))
        ≡ cond (nat_eq id e.0) (Some e.1) (lookup (nat_eq id) es)
    by rest true p =
        ap (λ b. cond b (Some w) (lookup (nat_eq id) es)) (at p)
        ∙ sym (ap (λ b. cond b (Some e.1) (lookup (nat_eq id) es)) (at p))
    by rest false p = ap (λ o. cond (nat_eq id e.0) (Some e.1) o) rest

pub lookup-set : {X : Type 0} (k : ℕ) (v w : X) (es : List (ℕ × X)) → lookup (nat_eq k) es ≡ Some v
    → lookup (nat_eq k) (set_value (nat_eq k) es w) ≡ Some w
lookup-set {X} k v w [] found = cc
lookup-set {X} k v w (e ∷ es) found = by (lookup-set k v w es) (nat_eq k e.0) refl found
  where
    by : (lookup (nat_eq k) es ≡ Some v → lookup (nat_eq k) (set_value (nat_eq k) es w) ≡ Some w)
        → (b : Bool) → nat_eq k e.0 ≡ b → cond b (Some e.1) (lookup (nat_eq k) es) ≡ Some v
        → lookup (nat_eq k) (cond b ((e.0, w) ∷ es) (e ∷ set_value (nat_eq k) es w)) ≡ Some w
    by rest true p f = ap (λ b. cond b (Some w) (lookup (nat_eq k) es)) p
    by rest false p f =
        ap (λ b. cond b (Some e.1) (lookup (nat_eq k) (set_value (nat_eq k) es w))) p ∙ rest f

-- and of each number above 0
pub lookup-each_set : {X : Type 0} (id : ℕ) (v w : X) (es new : List (ℕ × X))
    → lookup (nat_eq id) es ≡ Some v → new ≡ set_value (nat_eq id) es w
    → (other : ℕ) → 0 < other
    → lookup (nat_eq other) new ≡ (if nat_eq other id then Some w else lookup (nat_eq other) es)
lookup-each_set {X} id v w es new found is other there =
    ap (λ (l : List (ℕ × X)). lookup (nat_eq other) l) is ∙ by (nat_eq other id) refl
  where
    by : (b : Bool) → nat_eq other id ≡ b
        → lookup (nat_eq other) (set_value (nat_eq id) es w)
        ≡ (if b then Some w else lookup (nat_eq other) es)
    by true p =
        subst (λ k. lookup (nat_eq k) (set_value (nat_eq id) es w) ≡ Some w)
        (sym (eqb-true other id p)) (lookup-set id v w es found)
    by false p = lookup-set_other other id w es p

-- the value that was there
pub set-same : {X : Type 0} (id : ℕ) (v w : X) (es new : List (ℕ × X))
    → lookup (nat_eq id) es ≡ Some v → new ≡ set_value (nat_eq id) es w → w ≡ v → new ≡ es
set-same {X} id v w es new found is same =
    is ∙ ap (set_value (nat_eq id) es) same ∙ set_value_same (nat_eq id) es v found

-- ---- no entry of 0

pub apart-push : {X : Type 0} (id : ℕ) (w : X) (es : List (ℕ × X)) → 0 < id
    → is_some (lookup (nat_eq 0) es) ≡ false
    → is_some (lookup (nat_eq 0) (es ++ (id, w) ∷ [])) ≡ false
apart-push {X} id w es positive apart =
    ap is_some (lookup-push 0 id w es (ne_eqb 0 id (λ e. omega (arith, e, positive)))) ∙ apart

pub apart-set : {X : Type 0} (id : ℕ) (v w : X) (es new : List (ℕ × X))
    → lookup (nat_eq id) es ≡ Some v → new ≡ set_value (nat_eq id) es w
    → is_some (lookup (nat_eq 0) es) ≡ false → is_some (lookup (nat_eq 0) new) ≡ false
apart-set {X} zero v w es new found is apart = absurd (true≢false (sym (ap is_some found) ∙ apart))
apart-set {X} (suc id) v w es new found is apart =
    ap (λ (l : List (ℕ × X)). is_some (lookup (nat_eq 0) l)) is
    ∙ ap is_some (lookup-set_other 0 (suc id) w es (ne_eqb 0 (suc id) (λ e. omega (arith, e))))
    ∙ apart

pub apart-taken : {X : Type 0} (b : Bool) (old new : Option X) → new ≡ cond b None old
    → is_some old ≡ false → is_some new ≡ false
apart-taken {X} true old new e apart = ap is_some e
apart-taken {X} false old new e apart = ap is_some e ∙ apart
