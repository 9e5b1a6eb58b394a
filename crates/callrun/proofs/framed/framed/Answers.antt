use Rattle.std.proofs.Common.{◌≡◌, ◌++◌, ◌∙◌, ap, sym, append_assoc, ℕ, List, [], length}
use Rattle.lpm.specs.Messages.{frame, prefix_of}
use Rattle.callrun.proofs.framed.framed.Goals as goal

-- a prefix, the front of the message after it, and the rest
whole_frame : (message front rest : List ℕ) (len : ℕ) (none before after bytes tail : List ℕ)
    → message ≡ front ++ rest → len ≡ length message → none ≡ [] → before ≡ none ++ prefix_of len
    → after ≡ before ++ front → bytes ≡ after → tail ≡ bytes ++ rest → tail ≡ frame message
unfolding frame
whole_frame message front rest len none before after bytes tail parts long empty
    first second all last =
    last
    ∙ ap (λ (start : List ℕ). start ++ rest) (all ∙ second
    ∙ ap (λ (start : List ℕ). start ++ front)
    (first ∙ ap (λ (start : List ℕ). start ++ prefix_of len) empty))
    ∙ append_assoc (prefix_of len) front rest
    ∙ ap (λ (behind : List ℕ). prefix_of len ++ behind) (sym parts)
    ∙ ap (λ (n : ℕ). prefix_of n ++ message) long

pub returns : goal.returns
returns c =
    whole_frame _ _ _ _ _ _ _ _ _ c.zeros.ensures.last c.len-len.ensures c.in_ok-front.ensures.items
    c.in_default.ensures.ok c.in_ok-write_front.ensures.ok c.in_ok-from_vec.ensures.ok c.new.ensures
