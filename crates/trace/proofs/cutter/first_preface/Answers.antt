use Rattle.std.proofs.Common.{◌≡◌, ◌++◌, List, false, rules, subst, ℕ}
use Rattle.trace.specs.Cuts.{preface}
use Rattle.trace.proofs.Cutting.{no_preface}
use Rattle.trace.proofs.cutter.first_preface.Goals as goal

pub returns-then-not-begins_with_preface-clause-none :
    goal.returns-then-not-begins_with_preface-clause-none
returns-then-not-begins_with_preface-clause-none c =
    let not : c.begins_with_preface.result ≡ false = search rules in
    no_preface c.args.kept.now.items
    (subst (λ (b : List ℕ). (rest : List ℕ) → b ≡ preface ++ rest → ⊥) c.as_slice.ensures
    (c.begins_with_preface.ensures.no not))
