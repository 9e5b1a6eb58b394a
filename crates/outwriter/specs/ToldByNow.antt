-- What a run has written by now, with the rest of a header block that is begun.
use Rattle.std.specs.Prelude.{
  ◌≡◌,
  ◌≤◌,
  ℕ,
  Bool,
  true,
  false,
  List,
  [],
  ◌∷◌,
  ◌++◌,
  Option,
  None,
  Some,
  IfSome,
}
use Rattle.h2frame.specs.declared.frame.Frame.{Frame}
use Rattle.lists.specs.declared.field.Field.{Field}
use Rattle.hpack_codec.specs.Block.{IsBlock}
use Rattle.hpack_codec.specs.Codec.{Encoding, Writes}
use Rattle.hpack_codec.specs.Table.{Table}
use Rattle.outwriter.specs.declared.blocks.HeaderBlock.{HeaderBlock}
use Rattle.outwriter.specs.declared.due.Due.{Due}
use Rattle.outwriter.specs.declared.due.Due.TheVariants as due_kind
use Rattle.outwriter.specs.declared.outbound.Outbound.{Outbound}
use Rattle.outwriter.specs.States.{SameEnds, SameOpen, SetsEnd, is_heard, is_reset, knows, over_on}
use Rattle.outwriter.specs.Parts.{Mark, Fields, Reset, end_mark, on_stream, Tells}
use Rattle.outwriter.specs.Runs.{Fragments, unfinished}
use Rattle.outwriter.specs.Steps.{Step, Written}
use Rattle.outwriter.specs.TableLimits.{HasLeast, least_begun}

-- the marks of a header block, on its stream
abbrev pub block_marks : ℕ → List Field → Bool → List (ℕ × Mark)
block_marks id fields ends_it = on_stream id (Fields fields ∷ end_mark ends_it)

-- the table is the one that an encoder keeps, as long as it lives
abbrev pub IsTableOf : Option Encoding → Table → Type 0
IsTableOf kept table = IfSome kept (λ encoding. encoding.table ≡ table)

-- What a run has still to write of a header block that is begun. Over the table that all blocks
-- before left, what was written of it and the rest spell fields, and leave the encoder's table.
-- That table's limit is the least that was set when the block was begun.
abbrev pub Owes : List Step → Option HeaderBlock → Option Encoding → Table
    → List (ℕ × Mark) → Type 0
Owes run None kept table rest = IsTableOf kept table × (rest ≡ [])
Owes run (Some block) kept table rest =
    (begun : Fragments) × (fields : List Field) × (next : Table)
    × (block.begun ≡ true) × (unfinished run ≡ Some begun) × (begun.stream ≡ block.id)
    × (begun.ends_it ≡ block.ends)
    × IsBlock table (begun.bytes ++ block.rest) fields next × (next.limit ≤ least_begun run)
    × IsTableOf kept next × (rest ≡ block_marks block.id fields block.ends)

-- the run's frames have these marks, once the header block that is begun is whole; and the
-- encoder's next block sets the least limit by the run
abbrev pub Spells : List Step → Option HeaderBlock → Option Encoding → List (ℕ × Mark) → Type 0
Spells run block kept marks =
    (table : Table) × (told : List (ℕ × Mark)) × (rest : List (ℕ × Mark))
    × Tells run table told × Owes run block kept table rest × (marks ≡ told ++ rest)
    × HasLeast run kept

-- a run spells these marks with what a writer keeps, which begins no header block before its first
-- frame
abbrev pub SpellsOf : List Step → Outbound → List (ℕ × Mark) → Type 0
SpellsOf run o marks = (o.begun ≡ false → o.block ≡ None) × Spells run o.block o.encoder marks

-- a step adds no mark
abbrev pub TellsNothing : Step → Outbound → Outbound → Type 0
TellsNothing step old new =
    (run : List Step) (marks : List (ℕ × Mark)) → SpellsOf run old marks
    → SpellsOf (step ∷ run) new marks

-- no mark is added without a step
abbrev pub KeepsTelling : Outbound → Outbound → Type 0
KeepsTelling old new =
    (run : List Step) (marks : List (ℕ × Mark)) → SpellsOf run old marks → SpellsOf run new marks

-- a frame adds these marks
abbrev pub TellsMore : Frame → List (ℕ × Mark) → Outbound → Outbound → Type 0
TellsMore frame more old new =
    (run : List Step) (marks : List (ℕ × Mark)) → SpellsOf run old marks
    → SpellsOf (Written frame ∷ run) new (marks ++ more)

-- a frame begins a header block that the encoder wrote before: these bytes, on a stream, which the
-- block may end
abbrev pub TellsBlock : ℕ → Bool → List ℕ → Frame → Outbound → Outbound → Type 0
TellsBlock id ends_it bytes frame old new =
    (run : List Step) (marks : List (ℕ × Mark)) (fields : List Field) (before : Option Encoding)
    → Spells run old.block before marks → Writes before fields bytes old.encoder
    → SpellsOf (Written frame ∷ run) new (marks ++ block_marks id fields ends_it)

-- a reset of a stream
abbrev pub TellsReset : ℕ → Frame → Outbound → Outbound → Type 0
TellsReset id frame old new = (code : ℕ) × TellsMore frame ((id, Reset code) ∷ []) old new

-- ---- frames that were due

-- which streams are a call's and which were reset doesn't change, and those that were heard of
-- still are
abbrev pub SameStanding : Outbound → Outbound → Type 0
SameStanding old new =
    (id : ℕ)
    → (knows new.states id ≡ knows old.states id)
    × (is_reset new.states id ≡ is_reset old.states id)
    × (is_heard old.states id ≡ true → is_heard new.states id ≡ true)

-- what else is due, the streams' states, and what is kept of the open ones don't change
abbrev pub KeepsDue : Outbound → Outbound → Type 0
KeepsDue old new = (new.due ≡ old.due) × SameStanding old new × SameOpen old.states new.states

-- a stream is over that wasn't before
abbrev pub EndsOne : ℕ → Bool → Outbound → Outbound → Type 0
EndsOne id is_reset old new =
    (over_on old.states id ≡ None) × SetsEnd old.states id is_reset new.states

-- the frame for what was due, which isn't due any more: one for a stream ends it, and adds that
-- mark; others add none
abbrev pub TellsDue : Due → Frame → Outbound → Outbound → Type 0
TellsDue (due_kind.Reset id code) frame old new =
    TellsReset id frame old new × EndsOne id true old new
TellsDue (due_kind.Refuse id fields) frame old new =
    TellsMore frame (block_marks id fields true) old new × EndsOne id false old new
TellsDue _ frame old new = TellsMore frame [] old new × SameEnds old.states new.states

abbrev pub OwnByDue : Due → Frame → Outbound → Outbound → Type 0
OwnByDue one frame old new = KeepsDue old new × TellsDue one frame old new

-- the frame for what was due; or there is none any more, and nothing changes
abbrev pub OwnOfDue : Due → Option Frame → Outbound → Outbound → Type 0
OwnOfDue one (Some frame) old new = OwnByDue one frame old new
OwnOfDue one None old new = new ≡ old
