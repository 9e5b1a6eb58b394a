-- The writing end of a queue, open or shut.
use Rattle.std.specs.Prelude.{Bool, false}
use Rattle.lane.specs.declared.lane.End.{End}
use Rattle.lane.specs.declared.lane.End.TheVariants.{Open, Shut}

module _ {I S : Type 0} where
  -- what an end shows, such as its name or what it put
  abbrev pub of_end : {X : Type 0} → (I → X) → (S → X) → End I S → X
  of_end of_open of_shut (Open tx) = of_open tx
  of_end of_open of_shut (Shut shut) = of_shut shut

  -- whether the last item that was put is one that `last` placed
  abbrev pub has_last : (S → Bool) → End I S → Bool
  has_last was_placed (Open tx) = false
  has_last was_placed (Shut shut) = was_placed shut
