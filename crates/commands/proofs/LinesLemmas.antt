-- What is told of the batches of a log, step by step.
use Rattle.std.proofs.Common.{◌≡◌, ◌∙◌, ℕ, List, [], ◌∷◌, ◌++◌, refl, sym, ap, append_assoc}
use Rattle.std.proofs.lemmas.List.{append-nil}
use Rattle.std.proofs.lemmas.List.Folds.{concat-append}
use Rattle.std.proofs.lemmas.Slice.Zip.{all_zipped_more}
use Rattle.std.specs.List.{concat}
use Rattle.commands.specs.Lines.{IsTextOf, TellsUpTo}
use Rattle.commands.specs.declared.waiting.Batch.{Batch}

pub told-none : (batches : List Batch) (text : List ℕ) → text ≡ [] → TellsUpTo batches batches text
told-none batches text none = ([], [], refl, tt, none)

pub told-more : (batches behind rest : List Batch) (batch : Batch) (before more after : List ℕ)
    → rest ≡ batch ∷ behind → IsTextOf batch.told more → after ≡ before ++ more
    → TellsUpTo batches rest before
    → TellsUpTo batches behind after
told-more batches behind rest batch before more after first tells added told = (
  told.0 ++ batch ∷ [],
  told.1 ++ more ∷ [],
  told.2
      ∙ (ap (λ (r : List Batch). told.0 ++ r) first
      ∙ sym (append_assoc told.0 (batch ∷ []) behind)),
  all_zipped_more (λ (b : Batch). IsTextOf b.told) told.0 told.1 batch more told.3 tells,
  added
      ∙ (ap (λ (t : List ℕ). t ++ more) told.4
      ∙ (ap (λ (t : List ℕ). concat told.1 ++ t) (sym (append-nil more))
      ∙ sym (concat-append told.1 (more ∷ [])))),
)
