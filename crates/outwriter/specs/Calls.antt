-- The calls that a writer serves: what their senders gave, and what was written of it; and what was
-- written on other streams. The frames of a call are compared with what its sender gave only where
-- the stream was opened once and not refused before, and where the sender gave nothing before its
-- Open: otherwise the frames may be another's. A header block counts once its last frame is
-- written.
use Rattle.std.specs.Prelude.{
  ◌≡◌,
  ◌⊎◌,
  ◌||◌,
  ◌&&◌,
  not,
  ℕ,
  ◌==◌,
  Bool,
  true,
  false,
  All,
  List,
  [],
  ◌∷◌,
  if◌then◌else◌,
}
use Rattle.account.specs.declared.call.OutItem.{OutItem}
use Rattle.lists.specs.declared.field.Field.{Field}
use Rattle.outwriter.specs.declared.control.WriterOrder.TheVariants.{Refuse}
use Rattle.outwriter.specs.declared.control.WriterOrder.TheVariants as order
use Rattle.outwriter.specs.Histories.{is_stream, is_over}
use Rattle.outwriter.specs.Parts.{Mark, Fields, End, Reset, spelled, IsPart, IsFrontOf}
use Rattle.outwriter.specs.Runs.{is_opened, opens_stream}
use Rattle.outwriter.specs.Steps.{Step, Order, Taken, Granted, Written, Returned}

abbrev pub refuses_stream : ℕ → Order → Bool
refuses_stream id (Refuse stream fields) = id == stream
refuses_stream id _ = false

-- no Open and no Refuse of the stream was taken
abbrev pub is_fresh : ℕ → List Step → Bool
is_fresh id [] = true
is_fresh id (Taken order ∷ before) =
    if opens_stream id order then false
    else (if refuses_stream id order then false else is_fresh id before)
is_fresh id (Granted stream n ∷ before) = is_fresh id before
is_fresh id (Returned stream items ∷ before) = is_fresh id before
is_fresh id (Written frame ∷ before) = is_fresh id before

-- the stream is a call's: it was opened once, and not refused before
abbrev pub is_served : ℕ → List Step → Bool
is_served id [] = false
is_served id (Taken order ∷ before) =
    if opens_stream id order then is_fresh id before else is_served id before
is_served id (Granted stream n ∷ before) = is_served id before
is_served id (Returned stream items ∷ before) = is_served id before
is_served id (Written frame ∷ before) = is_served id before

-- For each call, by its stream and the items that its sender gave: the stream's frames begin what
-- the items spell, or are a front of that and then a reset.
abbrev pub TellFronts : List Step → List (ℕ × List OutItem) → Type 0
TellFronts run calls =
    All (λ call.
    is_served call.0 run ≡ true
    → (part : List Mark) × IsPart call.0 run part × IsFrontOf part (spelled call.1)) calls

-- the sender of this stream, which had given these items, was given back
abbrev pub IsReturned : ℕ → List OutItem → List Step → Type 0
IsReturned id items [] = ⊥
IsReturned id items (Taken order ∷ before) = IsReturned id items before
IsReturned id items (Granted stream n ∷ before) = IsReturned id items before
IsReturned id items (Written frame ∷ before) = IsReturned id items before
IsReturned id items (Returned stream found ∷ before) =
    ((id ≡ stream) × (items ≡ found)) ⊎ IsReturned id items before

-- the frames of each call whose sender was given back begin what its items spell, or are a front of
-- that and then a reset
abbrev pub TellReturned : List Step → Type 0
TellReturned run =
    (id : ℕ) (items : List OutItem) → IsReturned id items run → is_served id run ≡ true
    → (part : List Mark) × IsPart id run part × IsFrontOf part (spelled items)

-- ---- streams that are no call's

abbrev pub Refuses : ℕ → List Field → Order → Type 0
Refuses id fields (Refuse stream found) = (id ≡ stream) × (fields ≡ found)
Refuses id fields _ = ⊥

-- a Refuse of the stream with these fields was taken
abbrev pub IsRefused : ℕ → List Field → List Step → Type 0
IsRefused id fields [] = ⊥
IsRefused id fields (Taken order ∷ before) = Refuses id fields order ⊎ IsRefused id fields before
IsRefused id fields (Granted stream n ∷ before) = IsRefused id fields before
IsRefused id fields (Returned stream items ∷ before) = IsRefused id fields before
IsRefused id fields (Written frame ∷ before) = IsRefused id fields before

-- the frames are none, a reset, or the fields of a Refuse and the end of the stream
abbrev pub IsOther : ℕ → List Step → List Mark → Type 0
IsOther id run part = (part ≡ [])
    ⊎ (((code : ℕ) × (part ≡ Reset code ∷ []))
    ⊎ ((fields : List Field) × IsRefused id fields run × (part ≡ Fields fields ∷ End ∷ [])))

-- the frames of each stream that no Open opened are such
abbrev pub TellOthers : List Step → Type 0
TellOthers run =
    (id : ℕ) → is_opened id run ≡ false
    → (part : List Mark) × IsPart id run part × IsOther id run part

-- ---- the end of the controls

abbrev pub closes : Order → Bool
closes order.Close = true
closes _ = false

-- a Close was taken
abbrev pub is_closed : List Step → Bool
is_closed [] = false
is_closed (Taken order ∷ before) = closes order || is_closed before
is_closed (Granted stream n ∷ before) = is_closed before
is_closed (Returned stream items ∷ before) = is_closed before
is_closed (Written frame ∷ before) = is_closed before

-- ---- streams that are called off

-- a control that calls a stream off: a Reset of it that is to be written, or a Refuse of it while
-- no Open of it was taken
abbrev pub calls_off : ℕ → Bool → Order → Bool
calls_off id opened (order.Reset stream code written) = (id == stream) && written
calls_off id opened (Refuse stream fields) = (id == stream) && not opened
calls_off id opened _ = false

-- such a control was taken
abbrev pub is_called_off : ℕ → List Step → Bool
is_called_off id [] = false
is_called_off id (Taken order ∷ before) =
    calls_off id (is_opened id before) order || is_called_off id before
is_called_off id (Granted stream n ∷ before) = is_called_off id before
is_called_off id (Returned stream items ∷ before) = is_called_off id before
is_called_off id (Written frame ∷ before) = is_called_off id before

-- a Reset of it that isn't to be written
abbrev pub drops : ℕ → Order → Bool
drops id (order.Reset stream code written) = (id == stream) && not written
drops id _ = false

-- such a control was taken
abbrev pub is_dropped : ℕ → List Step → Bool
is_dropped id [] = false
is_dropped id (Taken order ∷ before) = drops id order || is_dropped id before
is_dropped id (Granted stream n ∷ before) = is_dropped id before
is_dropped id (Returned stream items ∷ before) = is_dropped id before
is_dropped id (Written frame ∷ before) = is_dropped id before

-- the end of each stream that was called off was written, by END_STREAM or RST_STREAM, unless the
-- stream was dropped
abbrev pub TellEnds : List Step → Type 0
TellEnds run =
    (id : ℕ) → is_stream id ≡ true → is_called_off id run ≡ true
    → (is_over id run ≡ true) ⊎ (is_dropped id run ≡ true)
