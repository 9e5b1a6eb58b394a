use Rattle.std.proofs.Common.{sym, ◌∙◌}
use Rattle.std.proofs.lemmas.Bool.{not-false, not-true, true≢false}
use Rattle.std.proofs.lemmas.Slice.Eq.{bytes_eq-Decides}
use Rattle.session.proofs.PrefaceSteps.{departs_at, brings_front}
use Rattle.session.proofs.preface.Preface.take.Goals as goal

pub returns-then-ne-clause-err : goal.returns-then-ne-clause-err
returns-then-ne-clause-err c =
    rw (← c.self.view_is)
    (departs_at _ _ _ _ _ c.min-len.ensures c.split_at.ensures.front c.split_at-2.ensures.front
    (λ same.
    true≢false (sym ((bytes_eq-Decides _ _).1 same)
    ∙ not-true _ (sym c.ne.ensures ∙ c.if-ne.true))))

pub returns-clause-ok : goal.returns-clause-ok
returns-clause-ok c =
    rw (← c.self.view_is) (brings_front _ _ _ _ _ _ _ c.min-len.ensures c.split_at.ensures.front
    c.split_at.ensures.back c.split_at-2.ensures.front c.split_at-2.ensures.back
    ((bytes_eq-Decides _ _).0 (not-false _ (sym c.ne.ensures ∙ c.if-ne.false))))
