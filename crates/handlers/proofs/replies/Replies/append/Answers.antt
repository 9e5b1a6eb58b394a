use Rattle.std.proofs.Common.{◌++◌, ap, ◌∙◌, drop, List, ℕ}
use Rattle.std.proofs.lemmas.List.{take_rest}
use Rattle.handlers.proofs.RepliesHeld.{more_held, StillHeld}
use Rattle.handlers.proofs.replies.Replies.append.Goals as goal

still : (c : goal.In_ok-extend_from_slice)
    → StillHeld c.self.inside.passed c.self.inside.spelled.items c.extend_from_slice.new.self.items
    (drop c.more.inside.passed c.more.inside.spelled.items)
still c =
    more_held _ _ _ _ (
    c.in_ok-extend_from_slice.ensures.items
    ∙ ap (λ (l : List ℕ). c.self.inside.spelled.items ++ l)
    (take_rest c.deref.result.now c.more.inside.passed
    ∙ ap (drop c.more.inside.passed) c.deref.ensures.value)
    ) c.self.invariant c.more.invariant.1

pub invariant_of-self-2 : goal.invariant_of-self-2
invariant_of-self-2 c = ((still c).within, (still c).held)

pub returns-clause-ok : goal.returns-clause-ok
returns-clause-ok c = rw (← c.self.view_is, ← c.more.view_is) (still c).replies
