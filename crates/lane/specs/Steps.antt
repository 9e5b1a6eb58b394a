-- What went through the first ring of a `RingLane`.
use Rattle.std.specs.Prelude.{Bool, true, false, List, [], ◌∷◌, Option, None, Some}
use Rattle.lane.specs.declared.ring_lane.step.FreshRing.{FreshRing}
use Rattle.lane.specs.declared.ring_lane.step.RingStep.{RingStep}
use Rattle.lane.specs.declared.ring_lane.step.RingStep.TheVariants.{Piece, Next}

abbrev pub later : {N : Type 0} → Option N → N → Option N
later None first = Some first
later (Some last) first = Some last

module _ {T : Type 0} where
  -- the items
  abbrev pub pieces : List (RingStep T) → List T
  pieces [] = []
  pieces (Piece item ∷ steps) = item ∷ pieces steps
  pieces (Next next ∷ steps) = pieces steps

  -- the way on, if there is one
  abbrev pub link : List (RingStep T) → Option (FreshRing T)
  link [] = None
  link (Piece item ∷ steps) = link steps
  link (Next next ∷ steps) = later (link steps) next

  -- nothing comes after a way on
  abbrev pub closed : List (RingStep T) → Bool
  closed [] = true
  closed (Piece item ∷ steps) = closed steps
  closed (Next next ∷ []) = true
  closed (Next next ∷ step ∷ steps) = false

  -- what the next polls are sure to give, if these steps are known to be in the ring: the items
  -- before the way on
  abbrev pub ahead_of : List (RingStep T) → List T
  ahead_of [] = []
  ahead_of (Piece item ∷ steps) = item ∷ ahead_of steps
  ahead_of (Next next ∷ steps) = []

-- the way on, where one was found or this step is one
abbrev pub after : {T O : Type 0} → (FreshRing T → O) → RingStep T → Option O → Option O
after out_of (Piece item) found = found
after out_of (Next next) found = Some (out_of next)
