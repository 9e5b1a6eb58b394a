-- The two ends of a second ring.
use Rattle.std.specs.Prelude.{◌≡◌, ℕ, List, [], Option, None, Some}
use Rattle.std.specs.Coded.{Unit-prop}

-- what an end of the second ring shows, or nothing
abbrev pub of_second : {I T : Type 0} → (I → List T) → Option I → List T
of_second show None = []
of_second show (Some second) = show second

abbrev pub count_second : {I : Type 0} → (I → ℕ) → Option I → ℕ
count_second show None = 0
count_second show (Some second) = show second

abbrev pub count_or : {I : Type 0} → (I → ℕ) → ℕ → Option I → ℕ
count_or show none None = none
count_or show none (Some second) = show second

-- one place is kept until the writer went on
abbrev pub kept : {I : Type 0} → Option I → ℕ
kept None = 1
kept (Some second) = 0

-- The writer handed over the reading end of the ring at which it is.
abbrev pub Linked : {I O N : Type 0} → (I → N) → (O → N) → Option O → Option I → Type 0
Linked in_name out_name None None = Unit {0}
Linked in_name out_name None (Some tx) = ⊥
Linked in_name out_name (Some rx) None = ⊥
Linked in_name out_name (Some rx) (Some tx) = in_name tx ≡ out_name rx

pub Linked-prop : {I O N : Type 0} → (in_name : I → N) (out_name : O → N)
    → ((a b : N) → IsProp (a ≡ b)) → (rx : Option O) (tx : Option I)
    → IsProp (Linked in_name out_name rx tx)
Linked-prop in_name out_name set None None = Unit-prop
Linked-prop in_name out_name set None (Some tx) = λ p q. absurd p
Linked-prop in_name out_name set (Some rx) None = λ p q. absurd p
Linked-prop in_name out_name set (Some rx) (Some tx) = set (in_name tx) (out_name rx)
