-- When a call may be left without trailers.
use Rattle.std.specs.Prelude.{◌≡◌, ◌⊎◌, true, Option, None, Some, IsSome}
use Rattle.callrun.specs.Handlings.{lacks_memory}
use Rattle.callrun.specs.Sides.{is_left}
use Rattle.callworker.specs.declared.worker.AfterTurn.{AfterTurn}
use Rattle.callworker.specs.declared.worker.AfterTurn.TheVariants.{GoesOn, Over, NotLive}
use Rattle.callworker.specs.Runs.{LaneRun}
use Rattle.connbook.specs.declared.words.NotLive.{NotLive as Word}

-- A call is left without trailers only for want of memory, or where there is the book's word that
-- it is no longer live.
abbrev pub MayBeLeft : LaneRun → Option Word → Type 0
MayBeLeft run word =
    is_left run.response ≡ true
    → (lacks_memory run.call.handling.ending ≡ true) ⊎ IsSome word

-- the book's word that a turn came to, if it did
abbrev pub word_in : AfterTurn → Option Word
word_in GoesOn = None
word_in Over = None
word_in (NotLive word) = Some word
