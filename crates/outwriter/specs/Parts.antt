-- What the frames of one stream carry, and what the items of a response spell (RFC 9113, section
-- 8.1). The part of a stream is a list of marks: a mark is a byte of DATA, a whole header block,
-- END_STREAM or RST_STREAM. So plain lists say that DATA are joined, and that one part is a prefix
-- of another.
use Rattle.std.specs.Prelude.{
  ◌≡◌,
  ◌≤◌,
  ℕ,
  ◌==◌,
  ◌⊎◌,
  Bool,
  true,
  false,
  List,
  [],
  ◌∷◌,
  ◌++◌,
  map,
  filter,
  flat_map,
  Option,
  None,
  Some,
  if◌then◌else◌,
}
use Rattle.std.specs.Int.{from_be_bytes, w32}
use Rattle.account.specs.Accounts.{Begins}
use Rattle.account.specs.declared.call.OutItem.{OutItem}
use Rattle.account.specs.declared.call.OutItem.TheVariants.{Head, Message, Trailers, Left}
use Rattle.h2frame.specs.declared.frame.Frame.{Frame}
use Rattle.h2frame.specs.declared.kind.FrameKind.{FrameKind}
use Rattle.h2frame.specs.declared.kind.FrameKind.TheVariants.{Data, RstStream}
use Rattle.lists.specs.declared.field.Field.{Field}
use Rattle.hpack_codec.specs.Block.{IsBlock}
use Rattle.hpack_codec.specs.Table.{Table, empty_table}
use Rattle.outwriter.specs.Frames.{ends_stream, ends_block}
use Rattle.outwriter.specs.Runs.{Fragments, fragments, unfinished}
use Rattle.outwriter.specs.Steps.{Step, Taken, Granted, Written, Returned}
use Rattle.outwriter.specs.TableLimits.{least_begun}

-- a byte of DATA; a whole header block, as the fields that it stands for; the end of the stream;
-- its reset, with the error's number
pub data Mark : Type 0 where
  Byte : ℕ → Mark
  Fields : List Field → Mark
  End : Mark
  Reset : ℕ → Mark

abbrev pub end_mark : Bool → List Mark
end_mark true = End ∷ []
end_mark false = []

-- ---- items

abbrev pub marks_of_item : OutItem → List Mark
marks_of_item (Head fields) = Fields fields ∷ []
marks_of_item (Message bytes) = map Byte bytes
marks_of_item (Trailers fields) = Fields fields ∷ End ∷ []
marks_of_item Left = []

abbrev pub spelled : List OutItem → List Mark
spelled items = flat_map marks_of_item items

-- ---- frames

-- the marks of a frame outside a header block. Credit has none, nor have the frames that a control
-- asks for, which are compared whole
abbrev pub plain_kind : FrameKind → Frame → List Mark
plain_kind Data frame = map Byte frame.content ++ end_mark (ends_stream frame)
plain_kind RstStream frame = Reset (from_be_bytes w32 frame.content) ∷ []
plain_kind _ frame = []

abbrev pub plain_marks : Frame → List Mark
plain_marks frame = plain_kind frame.head.kind frame

-- the header block that a frame makes whole
abbrev pub completed : List Step → Frame → Option Fragments
completed before frame = if ends_block frame then fragments frame (unfinished before) else None

abbrev pub on_stream : ℕ → List Mark → List (ℕ × Mark)
on_stream id marks = map (λ mark. (id, mark)) marks

-- A frame adds to the marks of all streams. If it makes a header block whole, it adds the fields
-- that the block stands for over the table that all blocks before left. The table that the block
-- leaves has at most this limit.
abbrev pub Adds : Option Fragments → ℕ → Frame → Table → List (ℕ × Mark) → Table
    → List (ℕ × Mark) → Type 0
Adds (Some block) limit frame table marks next more =
    (fields : List Field) × IsBlock table block.bytes fields next × (next.limit ≤ limit)
    × (more ≡ marks ++ on_stream block.stream (Fields fields ∷ end_mark block.ends_it))
Adds None limit frame table marks next more =
    (next ≡ table) × (more ≡ marks ++ on_stream frame.head.stream (plain_marks frame))

-- The run's frames leave this table, and have these marks, each on its stream. After a header block
-- the table's limit is at most the least that SETTINGS had set when the block was begun (RFC 7541,
-- section 4.2).
abbrev pub Tells : List Step → Table → List (ℕ × Mark) → Type 0
Tells [] table marks = (table ≡ empty_table) × (marks ≡ [])
Tells (Taken order ∷ before) table marks = Tells before table marks
Tells (Granted id n ∷ before) table marks = Tells before table marks
Tells (Returned id items ∷ before) table marks = Tells before table marks
Tells (Written frame ∷ before) table marks =
    (earlier : Table) × (fewer : List (ℕ × Mark)) × Tells before earlier fewer
    × Adds (completed before frame) (least_begun (Written frame ∷ before)) frame
    earlier fewer table marks

-- the marks of one stream
abbrev pub marks_on : ℕ → List (ℕ × Mark) → List Mark
marks_on id marks = map (λ m. m.1) (filter (λ m. id == m.0) marks)

-- the marks of a stream's frames in a run
abbrev pub IsPart : ℕ → List Step → List Mark → Type 0
IsPart id run part =
    (table : Table) × (marks : List (ℕ × Mark)) × Tells run table marks × (part ≡ marks_on id marks)

-- a part begins what items spell, or is a front of that and then a reset
abbrev pub IsFrontOf : List Mark → List Mark → Type 0
IsFrontOf part all =
    Begins part all
    ⊎ ((front : List Mark) × (code : ℕ) × Begins front all × (part ≡ front ++ Reset code ∷ []))
