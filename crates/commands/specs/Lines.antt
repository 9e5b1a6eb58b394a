-- The lines of a log, and what is printed of them.
use Rattle.std.specs.Prelude.{◌≡◌, ℕ, List, ◌++◌, string_bytes, vec_len}
use Rattle.std.specs.List.{AllZip, concat, sum_by}
use Rattle.commands.specs.declared.waiting.Batch.{Batch}
use Rattle.commands.specs.declared.waiting.BatchContent.{BatchContent}
use Rattle.commands.specs.declared.waiting.BatchContent.TheVariants.{Lines, Report}

-- how many lines these are: those of the log, or one of the report
abbrev pub count_of : BatchContent → ℕ
count_of (Lines lines) = vec_len lines
count_of (Report line) = 1

abbrev pub lines_of : List Batch → ℕ
lines_of batches = sum_by (λ batch. count_of batch.told) batches

-- the text of lines: a line of the report as it is; of lines of the log nothing is said
abbrev pub IsTextOf : BatchContent → List ℕ → Type 0
IsTextOf (Lines lines) text = Unit {0}
IsTextOf (Report line) text = text ≡ string_bytes line

-- the text has the first of these batches, without the others, each once and whole, in order
abbrev pub TellsUpTo : List Batch → List Batch → List ℕ → Type 0
TellsUpTo batches behind text =
    (told : List Batch) × (texts : List (List ℕ)) × (batches ≡ told ++ behind)
    × AllZip (λ batch. IsTextOf batch.told) told texts × (text ≡ concat texts)

-- the text has the first of the batches, and the others have this many lines
abbrev pub TellsFirst : List Batch → List ℕ → ℕ → Type 0
TellsFirst batches text lost =
    (behind : List Batch) × TellsUpTo batches behind text × (lost ≡ lines_of behind)
