-- A text that was made, told in another way.
use Rattle.std.proofs.Common.{◌≡◌, ◌∙◌, IfOk, Ok, Err, List, ℕ, Result}

pub text_equal : {X E : Type 0} (r : Result X E) (text : X → List ℕ) (one other : List ℕ)
    → IfOk r (λ x. text x ≡ one) → one ≡ other → IfOk r (λ x. text x ≡ other)
text_equal (Ok x) text one other told same = told ∙ same
text_equal (Err e) text one other told same = told
