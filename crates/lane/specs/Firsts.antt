-- What the writing end of a first ring knows.
use Rattle.std.specs.Prelude.{ℕ, min, length}
use Rattle.std.specs.declared.alloc.Global.{Global}
use Rattle.rtrb.specs.declared.producer.Producer.{Producer}
use Rattle.rtrb.specs.Ring.{sent}
use Rattle.lane.specs.RingEnds.{popped_count}
use Rattle.lane.specs.Steps.{pieces}
use Rattle.lane.specs.declared.ring_lane.step.RingStep.{RingStep}

-- how many items of the ring the writer has seen taken
abbrev pub seen_first : {T P : Type 0} → Producer (RingStep T) Global P → ℕ
seen_first first = min (popped_count first) (length (pieces (sent first)))
