-- The bytes that flow control counts (RFC 9113, sections 6.1 and 6.9): the whole payload of DATA,
-- padding too.
use Rattle.std.specs.Prelude.{ℕ, List, if◌then◌else◌, Bool, true, false}
use Rattle.std.specs.List.{sum_by}
use Rattle.h2frame.specs.declared.kind.FrameKind.{FrameKind}
use Rattle.h2frame.specs.declared.kind.FrameKind.TheVariants.{Data}
use Rattle.h2frame.specs.FrameList.{Entry, Whole, NoIncrement}
use Rattle.session.specs.declared.event.InEvent.{InEvent}
use Rattle.session.specs.declared.event.InEvent.TheVariants as events

-- those that events have, on a stream or on the connection alone
abbrev pub counted_by : InEvent → ℕ
counted_by (events.Data id piece counted) = counted
counted_by (events.Loose counted) = counted
counted_by _ = 0

abbrev pub counted_told : List InEvent → ℕ
counted_told given = sum_by counted_by given

-- those of the payloads of DATA
abbrev pub is_data : FrameKind → Bool
is_data Data = true
is_data _ = false

abbrev pub payload_of : Entry → ℕ
payload_of (Whole frame) = if is_data frame.head.kind then frame.head.length else 0
payload_of (NoIncrement id) = 0

abbrev pub payloads : List Entry → ℕ
payloads entries = sum_by payload_of entries
