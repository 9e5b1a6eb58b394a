-- Streams that are reset with INTERNAL_ERROR because their calls were left without trailers (RFC
-- 9113, section 7). A run has the latest first.
use Rattle.std.specs.Prelude.{ℕ, true, List, [], ◌∷◌, ◌++◌}
use Rattle.h2frame.specs.declared.error_code.ErrorCode.TheVariants.{InternalError}
use Rattle.outwriter.specs.declared.control.WriterOrder.TheVariants.{Reset}
use Rattle.outwriter.specs.Steps.{Order, Step, Taken, Granted, Written, Returned}

-- the stream that the order resets for that, if it does
abbrev pub left_by : Order → List ℕ
left_by (Reset id InternalError true) = id ∷ []
left_by _ = []

-- those that the orders of a run reset for that
abbrev pub left_in : List Step → List ℕ
left_in [] = []
left_in (Taken order ∷ before) = left_by order ++ left_in before
left_in (Granted id n ∷ before) = left_in before
left_in (Written frame ∷ before) = left_in before
left_in (Returned id items ∷ before) = left_in before
