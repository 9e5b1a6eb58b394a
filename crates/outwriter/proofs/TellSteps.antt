-- What a run tells, with what is kept of a header block that is begun, after one more step.
use Rattle.std.proofs.Common.{
  ◌≡◌,
  ◌≤◌,
  ℕ,
  refl,
  sym,
  ap,
  subst,
  ◌∙◌,
  Bool,
  true,
  false,
  List,
  [],
  ◌∷◌,
  ◌++◌,
  Option,
  Some,
  None,
  append-nil,
  append_assoc,
  length,
  min,
  take,
  drop,
  arith,
}
use Rattle.std.specs.Prelude.{nat_le, if◌then◌else◌}
use Rattle.std.proofs.Math.Seq.{take-length}
use Rattle.std.proofs.lemmas.Bool.{leb-true}
use Rattle.std.proofs.lemmas.List.{take_min, take-append-drop}
use Rattle.h2frame.specs.declared.frame.Frame.{Frame}
use Rattle.lists.specs.declared.field.Field.{Field}
use Rattle.hpack_codec.specs.Block.{IsBlock}
use Rattle.hpack_codec.specs.Codec.{Encoding, Writes}
use Rattle.hpack_codec.specs.Table.{Table}
use Rattle.outwriter.specs.declared.blocks.HeaderBlock.{HeaderBlock}
use Rattle.outwriter.specs.declared.due.Due.{Due}
use Rattle.outwriter.specs.declared.outbound.Outbound.{Outbound}
use Rattle.outwriter.specs.Blocks.{is_short, frame_of, rest_of}
use Rattle.outwriter.specs.Frames.{ends_block, headers_frame, continuation_frame}
use Rattle.outwriter.specs.Parts.{Mark, Tells, Adds, completed, on_stream, plain_marks}
use Rattle.outwriter.specs.Runs.{Fragments, fragments, unfinished}
use Rattle.outwriter.specs.CallState.{Takes, Rests}
use Rattle.outwriter.specs.Steps.{Step, Order, Taken, Granted, Written}
use Rattle.outwriter.specs.TableLimits.{HasLeast, least_begun, least_table, limits_of}
use Rattle.outwriter.specs.ToldByNow.{
  Owes,
  Spells,
  IsTableOf,
  block_marks,
  TellsNothing,
  KeepsTelling,
}
use Rattle.outwriter.proofs.TableLemmas.{KeepsTable, keeps-limits, tells-least}

-- ---- steps that write nothing

-- what is owed stays, where no frame was written and the encoder's table is the same
pub owes-same : (run after : List Step) (block : Option HeaderBlock) (old new : Option Encoding)
    (table : Table) (rest : List (ℕ × Mark))
    → unfinished after ≡ unfinished run → least_begun after ≡ least_begun run → KeepsTable old new
    → Owes run block old table rest → Owes after block new table rest
owes-same run after None old new table rest e f keeps owes = (keeps table owes.0, owes.1)
owes-same run after (Some block) old new table rest e f keeps
    (begun, fields, next, started, there, stream, ends, is_block, limited, is_table, is) = (
      begun,
      fields,
      next,
      started,
      e ∙ there,
      stream,
      ends,
      is_block,
      subst (λ n. next.limit ≤ n) (sym f) limited,
      keeps next is_table,
      is,
    )

pub spells-same : (run after : List Step) (block left : Option HeaderBlock)
    (old new : Option Encoding) (marks : List (ℕ × Mark))
    → ((table : Table) (told : List (ℕ × Mark)) → Tells run table told → Tells after table told)
    → unfinished after ≡ unfinished run → least_begun after ≡ least_begun run
    → left ≡ block → KeepsTable old new → (HasLeast run old → HasLeast after new)
    → Spells run block old marks → Spells after left new marks
spells-same run after block left old new marks tells e f is keeps lasts
    (table, told, rest, so_far, owes, all, least) = (
      table,
      told,
      rest,
      tells table told so_far,
      subst (λ (b : Option HeaderBlock). Owes after b new table rest) (sym is)
          (owes-same run after block old new table rest e f keeps owes),
      all,
      lasts least,
    )

-- a control that is taken tells nothing, and neither does credit that is granted
pub taken-tells : (more : List Due) (is_new : ℕ → Bool) (old new : Outbound) (order : Order)
    → Takes more is_new (limits_of order) old new → TellsNothing (Taken order) old new
taken-tells more is_new old new order takes run marks spells = (
  λ none. takes.block ∙ spells.0 (sym takes.begun ∙ none),
  spells-same run (Taken order ∷ run) old.block new.block old.encoder new.encoder marks
      (λ table told t. t) refl refl takes.block
      (keeps-limits old.encoder new.encoder (limits_of order) takes.encoder)
      (tells-least run order old.encoder new.encoder takes.encoder) spells.1,
)

pub granted-tells : (more : List Due) (is_new : ℕ → Bool) (old new : Outbound) (id n : ℕ)
    → Takes more is_new [] old new → TellsNothing (Granted id n) old new
granted-tells more is_new old new id n takes run marks spells = (
  λ none. takes.block ∙ spells.0 (sym takes.begun ∙ none),
  spells-same run (Granted id n ∷ run) old.block new.block old.encoder new.encoder marks
      (λ table told t. t) refl refl takes.block
      (keeps-limits old.encoder new.encoder [] takes.encoder)
      (λ least. subst (HasLeast run) (sym takes.encoder) least) spells.1,
)

-- without a step the same is told
pub takes-tells : (more : List Due) (is_new : ℕ → Bool) (old new : Outbound)
    → Takes more is_new [] old new → KeepsTelling old new
takes-tells more is_new old new takes run marks spells = (
  λ none. takes.block ∙ spells.0 (sym takes.begun ∙ none),
  spells-same run run old.block new.block old.encoder new.encoder marks (λ table told t. t) refl
      refl takes.block (keeps-limits old.encoder new.encoder [] takes.encoder)
      (λ least. subst (HasLeast run) (sym takes.encoder) least) spells.1,
)

pub rests-tells : (old new : Outbound) → Rests old new → KeepsTelling old new
rests-tells old new rests run marks spells = (
  λ none. rests.block ∙ spells.0 (sym rests.begun ∙ none),
  spells-same run run old.block new.block old.encoder new.encoder marks (λ table told t. t) refl
      refl rests.block (keeps-limits old.encoder new.encoder [] rests.encoder)
      (λ least. subst (HasLeast run) (sym rests.encoder) least) spells.1,
)

-- ---- frames that are of no header block

completed-none : (run : List Step) (frame : Frame) → fragments frame (unfinished run) ≡ None
    → completed run frame ≡ None
completed-none run frame e = by (ends_block frame)
  where
    by : (b : Bool) → (if b then fragments frame (unfinished run) else None) ≡ None
    by true = e
    by false = refl

-- such a frame tells its marks
pub plain-tells : (run : List Step) (frame made : Frame) (block left : Option HeaderBlock)
    (kept : Option Encoding) (marks : List (ℕ × Mark))
    → made ≡ frame → ((begun : Option Fragments) → fragments frame begun ≡ None) → block ≡ None
    → left ≡ None → Spells run block kept marks
    → Spells (Written made ∷ run) left kept
    (marks ++ on_stream frame.head.stream (plain_marks frame))
plain-tells run frame made block left kept marks is none no_block no_left
    (table, told, rest, so_far, owes, all, least) =
    let more : List (ℕ × Mark) = on_stream frame.head.stream (plain_marks frame) in
    let nothing : IsTableOf kept table × (rest ≡ []) =
    subst (λ (b : Option HeaderBlock). Owes run b kept table rest) no_block owes in
    let marks_are : marks ≡ told =
    all ∙ ap (λ (xs : List (ℕ × Mark)). told ++ xs) nothing.1 ∙ append-nil told in
    subst (λ (f : Frame). Spells (Written f ∷ run) left kept (marks ++ more)) (sym is)
    (subst (λ (b : Option HeaderBlock).
    Spells (Written frame ∷ run) b kept (marks ++ more)) (sym no_left) (
      table,
      told ++ more,
      [],
      (
        table,
        told,
        so_far,
        subst (λ (o : Option Fragments).
            Adds o (least_begun (Written frame ∷ run)) frame table told table (told ++ more))
            (sym (completed-none run frame (none (unfinished run)))) (refl, refl),
      ),
      (nothing.0, refl),
      ap (λ (xs : List (ℕ × Mark)). xs ++ more) marks_are ∙ sym (append-nil (told ++ more)),
      least,
    ))

-- ---- HEADERS

-- an encoder's block over the table that it kept
written-block : (run : List Step) (before after : Option Encoding) (fields : List Field)
    (bytes : List ℕ) (table : Table)
    → Writes before fields bytes after → IsTableOf before table → HasLeast run before
    → (next : Table) × IsBlock table bytes fields next × (next.limit ≤ least_table run)
    × IsTableOf after next × HasLeast run after
written-block run None after fields bytes table writes is least = absurd writes
written-block run (Some before) None fields bytes table writes is least = absurd writes
written-block run (Some before) (Some after) fields bytes table writes is least =
    let limit : after.table.limit ≡ least_table run = writes.1 ∙ least in (
      after.table,
      subst (λ (t : Table). IsBlock t bytes fields after.table) is writes.0,
      omega (arith, limit),
      refl,
      writes.2 ∙ least,
    )

headers-completed : (run : List Step) (id : ℕ) (ends_it : Bool) (fragment : List ℕ)
    → completed run (headers_frame id ends_it true fragment)
    ≡ Some (record { stream = id; bytes = fragment; ends_it = ends_it })
headers-completed run id true fragment = refl
headers-completed run id false fragment = refl

headers-incomplete : (run : List Step) (id : ℕ) (ends_it : Bool) (fragment : List ℕ)
    → completed run (headers_frame id ends_it false fragment) ≡ None
headers-incomplete run id true fragment = refl
headers-incomplete run id false fragment = refl

headers-unfinished : (run : List Step) (id : ℕ) (ends_it : Bool) (fragment : List ℕ)
    → unfinished (Written (headers_frame id ends_it false fragment) ∷ run)
    ≡ Some (record { stream = id; bytes = fragment; ends_it = ends_it })
headers-unfinished run id true fragment = refl
headers-unfinished run id false fragment = refl

-- HEADERS with a whole block, or with its first bytes
pub headers-tells : (run : List Step) (id : ℕ) (ends_it whole : Bool) (fragment rest bytes : List ℕ)
    (made : Frame) (old left : Option HeaderBlock)
    (before kept : Option Encoding) (fields : List Field) (marks : List (ℕ × Mark))
    → made ≡ headers_frame id ends_it whole fragment → fragment ++ rest ≡ bytes
    → (whole ≡ true → fragment ≡ bytes)
    → left
    ≡ (if whole then None else Some (record { id = id; ends = ends_it; begun = true; rest = rest }))
    → old ≡ None
    → Spells run old before marks → Writes before fields bytes kept
    → Spells (Written made ∷ run) left kept (marks ++ block_marks id fields ends_it)
headers-tells run id ends_it whole fragment rest bytes made old left before kept fields marks is
    joined all_of_it is_left no_block (table, told, owed, so_far, owes, all, least) writes =
    let nothing : IsTableOf before table × (owed ≡ []) =
    subst (λ (b : Option HeaderBlock). Owes run b before table owed) no_block owes in
    let marks_are : marks ≡ told =
    all ∙ ap (λ (xs : List (ℕ × Mark)). told ++ xs) nothing.1 ∙ append-nil told in
    let block = written-block run before kept fields bytes table writes nothing.0 least in
    subst (λ (f : Frame).
    Spells (Written f ∷ run) left kept (marks ++ block_marks id fields ends_it)) (sym is)
    (subst (λ (b : Option HeaderBlock).
    Spells (Written (headers_frame id ends_it whole fragment) ∷ run) b kept
    (marks ++ block_marks id fields ends_it)) (sym is_left)
    (by whole all_of_it block.0 block.1 block.2 block.3 block.4 marks_are))
  where
    by : (w : Bool) → (w ≡ true → fragment ≡ bytes) → (next : Table)
        → IsBlock table bytes fields next → next.limit ≤ least_table run → IsTableOf kept next
        → HasLeast run kept → marks ≡ told
        → Spells (Written (headers_frame id ends_it w fragment) ∷ run)
        (if w then None else Some (record { id = id; ends = ends_it; begun = true; rest = rest }))
        kept (marks ++ block_marks id fields ends_it)
    by true same next is_block limited is_table lasts marks_are = (
      next,
      told ++ block_marks id fields ends_it,
      [],
      (
        table,
        told,
        so_far,
        subst (λ (o : Option Fragments).
            Adds o (least_table run) (headers_frame id ends_it true fragment) table told next
            (told ++ block_marks id fields ends_it))
            (sym (headers-completed run id ends_it fragment)) (
              fields,
              subst (λ (b : List ℕ). IsBlock table b fields next) (sym (same refl)) is_block,
              limited,
              refl,
            ),
      ),
      (is_table, refl),
      ap (λ (xs : List (ℕ × Mark)). xs ++ block_marks id fields ends_it) marks_are
          ∙ sym (append-nil (told ++ block_marks id fields ends_it)),
      lasts,
    )
    by false same next is_block limited is_table lasts marks_are = (
      table,
      told,
      block_marks id fields ends_it,
      (
        table,
        told,
        so_far,
        subst (λ (o : Option Fragments).
            Adds o (least_table run) (headers_frame id ends_it false fragment)
            table told table told)
            (sym (headers-incomplete run id ends_it fragment)) (refl, sym (append-nil told)),
      ),
      (
        record { stream = id; bytes = fragment; ends_it = ends_it },
        fields,
        next,
        refl,
        headers-unfinished run id ends_it fragment,
        refl,
        refl,
        subst (λ (b : List ℕ). IsBlock table b fields next) (sym joined) is_block,
        limited,
        is_table,
        refl,
      ),
      ap (λ (xs : List (ℕ × Mark)). xs ++ block_marks id fields ends_it) marks_are,
      lasts,
    )

-- ---- CONTINUATION

continuation-completed : (run : List Step) (id : ℕ) (fragment : List ℕ) (begun : Fragments)
    → unfinished run ≡ Some begun
    → completed run (continuation_frame id true fragment)
    ≡ Some
    (record { stream = begun.stream; bytes = begun.bytes ++ fragment; ends_it = begun.ends_it })
continuation-completed run id fragment begun e =
    ap (λ (o : Option Fragments). fragments (continuation_frame id true fragment) o) e

continuation-unfinished : (run : List Step) (id : ℕ) (fragment : List ℕ) (begun : Fragments)
    → unfinished run ≡ Some begun
    → unfinished (Written (continuation_frame id false fragment) ∷ run)
    ≡ Some
    (record { stream = begun.stream; bytes = begun.bytes ++ fragment; ends_it = begun.ends_it })
continuation-unfinished run id fragment begun e =
    ap (λ (o : Option Fragments). fragments (continuation_frame id false fragment) o) e

-- CONTINUATION with the rest of a block, or with more of it
pub continuation-tells : (run : List Step) (block : HeaderBlock) (whole : Bool)
    (fragment rest : List ℕ) (made : Frame) (left : Option HeaderBlock)
    (kept : Option Encoding) (marks : List (ℕ × Mark))
    → (block.begun ≡ true → made ≡ continuation_frame block.id whole fragment)
    → fragment ++ rest ≡ block.rest → (whole ≡ true → fragment ≡ block.rest)
    → left
    ≡ (if whole then None
    else Some (record { id = block.id; ends = block.ends; begun = true; rest = rest }))
    → Spells run (Some block) kept marks → Spells (Written made ∷ run) left kept marks
continuation-tells run block whole fragment rest made left kept marks is joined all_of_it is_left (
  table,
  told,
  owed,
  so_far,
  (begun, fields, next, started, there, stream, ends, is_block, limited, is_table, owed_is),
  all,
  least,
) =
    subst (λ (f : Frame). Spells (Written f ∷ run) left kept marks) (sym (is started))
    (subst (λ (b : Option HeaderBlock).
    Spells (Written (continuation_frame block.id whole fragment) ∷ run) b kept marks) (sym is_left)
    (by whole all_of_it))
  where
    by : (w : Bool) → (w ≡ true → fragment ≡ block.rest)
        → Spells (Written (continuation_frame block.id w fragment) ∷ run) (if w then None
        else Some (record { id = block.id; ends = block.ends; begun = true; rest = rest })) kept
        marks
    by true same = (
      next,
      told ++ owed,
      [],
      (
        table,
        told,
        so_far,
        subst (λ (o : Option Fragments).
            Adds o (least_begun run) (continuation_frame block.id true fragment) table told
            next (told ++ owed))
            (sym (continuation-completed run block.id fragment begun there)) (
              fields,
              subst (λ (b : List ℕ). IsBlock table (begun.bytes ++ b) fields next)
                  (sym (same refl)) is_block,
              limited,
              ap (λ (xs : List (ℕ × Mark)). told ++ xs) (owed_is
                  ∙ ap (λ (id : ℕ). block_marks id fields block.ends) (sym stream)
                  ∙ ap (λ (b : Bool). block_marks begun.stream fields b) (sym ends)),
            ),
      ),
      (is_table, refl),
      all ∙ sym (append-nil (told ++ owed)),
      least,
    )
    by false same = (
      table,
      told,
      owed,
      (table, told, so_far, (refl, sym (append-nil told))),
      (
        record { stream = begun.stream; bytes = begun.bytes ++ fragment; ends_it = begun.ends_it },
        fields,
        next,
        refl,
        continuation-unfinished run block.id fragment begun there,
        stream,
        ends,
        subst (λ (b : List ℕ). IsBlock table b fields next) (sym
            (append_assoc begun.bytes fragment rest
            ∙ ap (λ (b : List ℕ). begun.bytes ++ b) joined)) is_block,
        limited,
        is_table,
        owed_is,
      ),
      all,
      least,
    )

-- ---- a header block's next frame, cut off at 16,384 bytes

short-take : (bytes : List ℕ) → nat_le (length bytes) 16384 ≡ true → take 16384 bytes ≡ bytes
short-take bytes e =
    let short : length bytes ≤ 16384 = leb-true (length bytes) 16384 e in
    let all : min 16384 (length bytes) ≡ length bytes = omega (arith, short) in
    sym (take_min 16384 bytes) ∙ ap (λ n. take n bytes) all ∙ take-length bytes

-- the first
pub first-tells : (run : List Step) (id : ℕ) (ends_it : Bool) (bytes : List ℕ) (made : Frame)
    (old left : Option HeaderBlock)
    (before kept : Option Encoding) (fields : List Field) (marks : List (ℕ × Mark))
    → made ≡ frame_of (record { id = id; ends = ends_it; begun = false; rest = bytes })
    → left ≡ rest_of (record { id = id; ends = ends_it; begun = false; rest = bytes }) → old ≡ None
    → Spells run old before marks → Writes before fields bytes kept
    → Spells (Written made ∷ run) left kept (marks ++ block_marks id fields ends_it)
first-tells run id ends_it bytes made old left before kept fields marks is is_left
    no_block spells writes =
    headers-tells run id ends_it (nat_le (length bytes) 16384) (take 16384 bytes) (drop 16384 bytes)
    bytes made old left before kept fields marks
    is (take-append-drop 16384 bytes) (short-take bytes) is_left no_block spells writes

-- a further one
pub next-tells : (run : List Step) (block : HeaderBlock) (made : Frame) (left : Option HeaderBlock)
    (kept : Option Encoding) (marks : List (ℕ × Mark))
    → made ≡ frame_of block → left ≡ rest_of block → Spells run (Some block) kept marks
    → Spells (Written made ∷ run) left kept marks
next-tells run block made left kept marks is is_left spells =
    continuation-tells run block (is_short block) (take 16384 block.rest) (drop 16384 block.rest)
    made left kept marks
    (λ started.
    is ∙ ap (λ b. if b then continuation_frame block.id (is_short block) (take 16384 block.rest)
    else headers_frame block.id block.ends (is_short block) (take 16384 block.rest)) started)
    (take-append-drop 16384 block.rest) (short-take block.rest) is_left spells
