-- Malformed trailers of a request (RFC 9113, sections 8.1 and 8.1.1), by the frames of a
-- connection. Their fields decide it, and the table of the blocks before decides the fields.
use Rattle.std.specs.Prelude.{◌≡◌, ◌⊎◌, ℕ, Bool, true, false, nat_eq, List, ◌++◌, map, Option}
use Rattle.std.specs.List.{list_any}
use Rattle.h2frame.specs.declared.frame.Frame.{Frame}
use Rattle.h2frame.specs.FrameList.{Entry, Whole}
use Rattle.lists.specs.declared.field.Field.{Field}
use Rattle.hpack_codec.specs.Table.{Table}
use Rattle.hpack_codec.specs.Codec.{Reads}
use Rattle.callhead.specs.MalformedHeads.{are_malformed_trailers}
use Rattle.streamstates.specs.declared.halves.FrameAction.TheVariants.{Accept}
use Rattle.streamstates.specs.Halves.{verdict}
use Rattle.session.specs.declared.event.InEvent.{InEvent}
use Rattle.session.specs.declared.event.InEvent.TheVariants as events
use Rattle.session.specs.HeaderBlocks.{PendingBlock, Collects}
use Rattle.session.specs.Events.{Situation, Passes}
use Rattle.session.specs.StreamData.{Finished, Aborted, ending_of, ending_told}

-- After whole groups of these entries a whole header block of the stream came, by lawful HEADERS on
-- the open stream, and its fields are no trailers.
pub record HasMalformedTrailers (id : ℕ) (entries : List Entry) : Type 0 where
  pub frames : List Frame
  pub block : PendingBlock
  pub behind : List Entry
  pub given : List InEvent
  pub now : Situation
  pub fields : List Field
  pub next : Option Table
  pub passes : Passes entries (map Whole frames ++ behind) given now
  pub collects : Collects frames block
  pub whole : block.whole ≡ true
  pub on : nat_eq id block.head.stream ≡ true
  pub accepted : verdict now.history block.head ≡ Accept
  pub reads : Reads now.kept block.block fields next
  pub malformed : are_malformed_trailers fields ≡ true

-- whether an event is an error of the stream
abbrev pub is_stream_error : ℕ → InEvent → Bool
is_stream_error id (events.StreamError other error) = nat_eq id other
is_stream_error id _ = false

-- END_STREAM came with malformed trailers: the events have an error of the stream in place of its
-- end
pub record RefusesTrailers (id : ℕ) (entries : List Entry) (given : List InEvent) : Type 0 where
  pub trailers : HasMalformedTrailers id entries
  pub ended : ending_of id entries ≡ Finished
  pub aborted : ending_told id given ≡ Aborted
  pub error : list_any (is_stream_error id) given ≡ true

-- A stream's end in the events is the one by its frames, but for malformed trailers.
abbrev pub EndsAs : ℕ → List Entry → List InEvent → Type 0
EndsAs id entries given =
    (ending_told id given ≡ ending_of id entries) ⊎ RefusesTrailers id entries given
