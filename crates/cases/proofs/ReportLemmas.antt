-- One more case, behind those that were run.
use Rattle.std.proofs.Common.{
  ◌≡◌,
  ◌∙◌,
  ◌++◌,
  ◌+◌,
  ◌<◌,
  ap,
  sym,
  List,
  Option,
  ℕ,
  [],
  ◌∷◌,
  length,
  map,
  take,
  slice_index_or,
}
use Rattle.std.specs.Io.KnownBytes.{Appends}
use Rattle.std.specs.List.{FoldsTo}
use Rattle.std.proofs.lemmas.Fn.{FoldsTo-push}
use Rattle.std.proofs.lemmas.List.{append_assoc, append-nil, map_push, take_more}
use Rattle.device.proofs.BytesLemmas.{Appends-twice}
use Rattle.cases.specs.Names.{name_of}
use Rattle.cases.specs.Report.{line_of, lines_of}
use Rattle.cases.specs.declared.case.Case.{Case}
use Rattle.cases.specs.declared.report.Outcome.{Outcome}

lines_push : (outcomes : List Outcome) (outcome : Outcome)
    → lines_of (outcomes ++ outcome ∷ [])
    ≡ lines_of outcomes ++ line_of (name_of outcome.case) outcome.answer
lines_push [] outcome = append-nil (line_of (name_of outcome.case) outcome.answer)
lines_push (first ∷ outcomes) outcome =
    ap (λ (lines : List ℕ). line_of (name_of first.case) first.answer ++ lines)
    (lines_push outcomes outcome)
    ∙ sym (append_assoc (line_of (name_of first.case) first.answer) (lines_of outcomes)
    (line_of (name_of outcome.case) outcome.answer))

-- its line
pub printed_one_more : (old mid new : Option (List ℕ)) (outcomes more : List Outcome)
    (outcome : Outcome)
    → more ≡ outcomes ++ outcome ∷ []
    → Appends old mid (lines_of outcomes)
    → Appends mid new (line_of (name_of outcome.case) outcome.answer)
    → Appends old new (lines_of more)
printed_one_more old mid new outcomes more outcome same before line =
    rw (same, lines_push outcomes outcome) (Appends-twice old mid new (lines_of outcomes)
    (line_of (name_of outcome.case) outcome.answer) before line)

-- the call that ran it
pub ran_one_more : {P A : Type 0} (R : P → A → P → Type 0) (p q u : P) (xs more : List A) (x : A)
    → more ≡ xs ++ x ∷ [] → FoldsTo R p xs q → R q x u → FoldsTo R p more u
ran_one_more R p q u xs more x same before call = rw same (FoldsTo-push R p xs q x u before call)

-- the next of all cases
pub one_more_case : (all : List Case) (i : ℕ) (d : Case) (outcomes more : List Outcome)
    (outcome : Outcome)
    → i < length all → more ≡ outcomes ++ outcome ∷ []
    → outcome.case ≡ slice_index_or all i d → map (λ (o : Outcome). o.case) outcomes ≡ take i all
    → map (λ (o : Outcome). o.case) more ≡ take (i + 1) all
one_more_case all i d outcomes more outcome below same next before =
    ap (map (λ (o : Outcome). o.case)) same
    ∙ (map_push (λ (o : Outcome). o.case) outcomes outcome
    ∙ (ap (λ (cases : List Case). cases ++ outcome.case ∷ []) before
    ∙ (ap (λ (case : Case). take i all ++ case ∷ []) next
    ∙ sym (take_more all i d below))))
