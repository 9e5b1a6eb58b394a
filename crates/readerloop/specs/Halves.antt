-- The client's half of a call, as the reading side has it, and what the steps that were heard make
-- of it.
use Rattle.std.specs.Prelude.{
  ◌≡◌,
  ◌≢◌,
  ℕ,
  Bool,
  true,
  false,
  List,
  [],
  ◌∷◌,
  ◌++◌,
  Option,
  Some,
  None,
  All,
  ◌≤◌,
  length,
}
use Rattle.callbox.specs.declared.piece.InPiece.{InPiece}
use Rattle.callbox.specs.declared.piece.InPiece.TheVariants as in_piece
use Rattle.callbox.specs.InSides.{bytes_of, pieces_of}
use Rattle.lane.specs.RingLane.{LaneName, in_name, put_in, put_shut, room_of, shut_name}
use Rattle.lane.specs.declared.fault.PutFault.{PutFault}
use Rattle.lane.specs.declared.fault.PutFault.TheVariants.{Full, NotTaken, OutOfMemory}
use Rattle.readerloop.specs.declared.feeder_half.FeederHalf.{FeederHalf}
use Rattle.readerloop.specs.declared.feeder_half.FeederHalf.TheVariants.{
  Open,
  Shut as ShutHalf,
  Missed,
  Moving,
}
use Rattle.readerloop.specs.Steps.{Closing, Misses, ShutAs, Step, closing_by, fed_by}

-- ---- what a half shows

-- whether it is there, what went through its lane, and how it was closed
pub record HalfView : Type 0 where
  pub there : Bool
  pub items : List InPiece
  pub closing : Option Closing

abbrev pub shown : FeederHalf → HalfView
shown (Open feeder) = record { there = true; items = put_in feeder.tx; closing = None }
shown (ShutHalf end) =
    record { there = true; items = put_shut end.shut; closing = Some (ShutAs end.kind) }
shown (Missed feeder) = record { there = true; items = put_in feeder.tx; closing = Some Misses }
shown Moving = record { there = false; items = []; closing = None }

-- which lane it feeds
abbrev pub lane_of : FeederHalf → Option LaneName
lane_of (Open feeder) = Some (in_name feeder.tx)
lane_of (ShutHalf end) = Some (shut_name end.shut)
lane_of (Missed feeder) = Some (in_name feeder.tx)
lane_of Moving = None

-- A piece is refused only for want of memory, or where as many pieces were put as the lane has room
-- for.
abbrev pub MayRefuse : {T : Type 0} → FeederHalf → PutFault T → Type 0
MayRefuse half (OutOfMemory item) = Unit {0}
MayRefuse half (NotTaken item) = ⊥
MayRefuse (Open feeder) (Full item waiting) =
    room_of (in_name feeder.tx) ≤ length (put_in feeder.tx)
MayRefuse (ShutHalf end) (Full item waiting) = ⊥
MayRefuse (Missed feeder) (Full item waiting) = ⊥
MayRefuse Moving (Full item waiting) = ⊥

-- whether more may be fed
abbrev pub is_open : FeederHalf → Bool
is_open (Open feeder) = true
is_open (ShutHalf end) = false
is_open (Missed feeder) = false
is_open Moving = false

-- whether it was closed
abbrev pub is_closed : FeederHalf → Bool
is_closed (Open feeder) = false
is_closed (ShutHalf end) = true
is_closed (Missed feeder) = true
is_closed Moving = false

-- a call of which nothing came yet
abbrev pub unfed : HalfView
unfed = record { there = true; items = []; closing = None }

-- the items with a piece after them, unless it is empty or the half was closed
abbrev pub grown : List ℕ → Option Closing → List InPiece → List InPiece
grown [] closing items = items
grown (byte ∷ bytes) None items = items ++ in_piece.Bytes (byte ∷ bytes) ∷ []
grown (byte ∷ bytes) (Some closing) items = items

-- ---- by what was heard

-- The half of this call is what these steps make of it: the bytes that were fed, joined; how it was
-- closed; and no piece is empty.
pub record IsHalf (id : ℕ) (steps : List Step) (shown : HalfView) : Type 0 where
  pub there : shown.there ≡ true
  pub fed : bytes_of shown.items ≡ fed_by id steps
  pub closing : shown.closing ≡ closing_by id steps
  pub full : All (λ piece. piece ≢ []) (pieces_of shown.items)
