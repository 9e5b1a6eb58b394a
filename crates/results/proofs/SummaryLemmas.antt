-- Each case is counted once, and each failure at one level at most.
use Rattle.std.proofs.Common.{
  ◌≡◌,
  ◌+◌,
  ◌≤◌,
  ◌&&◌,
  refl,
  arith,
  Bool,
  true,
  false,
  cond,
  List,
  ℕ,
  [],
  ◌∷◌,
  Option,
  Some,
  None,
  count_by,
  length,
}
use Rattle.std.proofs.lemmas.List.Sums.{sum_by-cons}
use Rattle.results.specs.Standings.{standing_of}
use Rattle.results.specs.Summaries.{
  fails_at,
  has_level,
  is_found,
  same_standing,
  same_verdict,
  stands,
}
use Rattle.results.specs.declared.outcome.Outcome.{Outcome}
use Rattle.results.specs.declared.standing.Standing.{Standing}
use Rattle.results.specs.declared.words.Level.{Level}
use Rattle.results.specs.declared.words.Verdict.{Verdict}

-- how many pass a test, of one more
count_more : (p : Outcome → Bool) (outcome : Outcome) (outcomes : List Outcome)
    → count_by p (outcome ∷ outcomes) ≡ cond (p outcome) 1 0 + count_by p outcomes
count_more p outcome outcomes = sum_by-cons (λ x. cond (p x) 1 0) outcome outcomes

abbrev found : Standing → Verdict → Verdict → ℕ
found standing verdict wanted =
    cond (same_standing standing Standing.AsFound && same_verdict verdict wanted) 1 0

abbrev stood : Standing → Standing → ℕ
stood standing wanted = cond (same_standing standing wanted) 1 0

each_once : (standing : Standing) (verdict : Verdict)
    → found standing verdict Verdict.Ok + found standing verdict Verdict.Failed
    + found standing verdict Verdict.Unsteady
    + found standing verdict Verdict.NotTested + found standing verdict Verdict.NotApplicable
    + stood standing Standing.Known + stood standing Standing.Mended ≡ 1
each_once Standing.AsFound Verdict.Ok = refl
each_once Standing.AsFound Verdict.Failed = refl
each_once Standing.AsFound Verdict.Unsteady = refl
each_once Standing.AsFound Verdict.NotTested = refl
each_once Standing.AsFound Verdict.NotApplicable = refl
each_once Standing.Known verdict = refl
each_once Standing.Mended verdict = refl

pub all_once : (outcomes : List Outcome)
    → count_by (is_found Verdict.Ok) outcomes + count_by (is_found Verdict.Failed) outcomes
    + count_by (is_found Verdict.Unsteady) outcomes + count_by (is_found Verdict.NotTested) outcomes
    + count_by (is_found Verdict.NotApplicable) outcomes + count_by (stands Standing.Known) outcomes
    + count_by (stands Standing.Mended) outcomes ≡ length outcomes
all_once [] = refl
all_once (outcome ∷ outcomes) =
    rw (
      count_more (is_found Verdict.Ok) outcome outcomes,
      count_more (is_found Verdict.Failed) outcome outcomes,
      count_more (is_found Verdict.Unsteady) outcome outcomes,
      count_more (is_found Verdict.NotTested) outcome outcomes,
      count_more (is_found Verdict.NotApplicable) outcome outcomes,
      count_more (stands Standing.Known) outcome outcomes,
      count_more (stands Standing.Mended) outcome outcomes,
    )
    (omega (arith, each_once (standing_of outcome) outcome.verdict, all_once outcomes))

abbrev leveled : Bool → Option Level → Level → ℕ
leveled is_failed level wanted = cond (is_failed && has_level wanted level) 1 0

level_once : (is_failed : Bool) (level : Option Level)
    → leveled is_failed level Level.Must + leveled is_failed level Level.Should
    + leveled is_failed level Level.Ours
    ≤ cond is_failed 1 0
level_once false level = omega arith
level_once true None = omega arith
level_once true (Some Level.Must) = omega arith
level_once true (Some Level.Should) = omega arith
level_once true (Some Level.Ours) = omega arith

pub levels_once : (outcomes : List Outcome)
    → count_by (fails_at Level.Must) outcomes + count_by (fails_at Level.Should) outcomes
    + count_by (fails_at Level.Ours) outcomes
    ≤ count_by (is_found Verdict.Failed) outcomes
levels_once [] = omega arith
levels_once (outcome ∷ outcomes) =
    rw (
      count_more (fails_at Level.Must) outcome outcomes,
      count_more (fails_at Level.Should) outcome outcomes,
      count_more (fails_at Level.Ours) outcome outcomes,
      count_more (is_found Verdict.Failed) outcome outcomes,
    )
    (omega
    (arith, level_once (is_found Verdict.Failed outcome) outcome.level, levels_once outcomes))
