-- The data of a stream (RFC 9113, sections 5.1, 6.1 and 8.1), on the whole list of frames. Data and
-- end are defined on the frame list alone, without verdicts: on an open stream DATA are lawful, and
-- HEADERS, RST_STREAM and a WINDOW_UPDATE without an increment each end it.
use Rattle.std.specs.Prelude.{
  ℕ,
  Bool,
  true,
  false,
  nat_eq,
  ◌&&◌,
  if◌then◌else◌,
  List,
  [],
  ◌∷◌,
  ◌++◌,
  flat_map,
}
use Rattle.h2frame.specs.declared.frame.Frame.{Frame}
use Rattle.h2frame.specs.declared.kind.FrameKind.{FrameKind}
use Rattle.h2frame.specs.declared.kind.FrameKind.TheVariants.{Data, Headers, RstStream}
use Rattle.h2frame.specs.Flags.{has, end_stream}
use Rattle.h2frame.specs.FrameList.{Entry, Whole, NoIncrement}
use Rattle.callhead.specs.declared.fault.HeadFault.{HeadFault}
use Rattle.callhead.specs.declared.fault.HeadFault.TheVariants.{Malformed}
use Rattle.streamstates.specs.Halves.{is_headers}
use Rattle.session.specs.declared.event.InEvent.{InEvent}
use Rattle.session.specs.declared.event.InEvent.TheVariants as events

-- The data of an open stream from a frame on, given the data of the frames after it: DATA are part
-- of it, up to END_STREAM; RST_STREAM ends it, and so do HEADERS, which are trailers or an error of
-- the stream.
abbrev pub data_with : FrameKind → Frame → List ℕ → List ℕ
data_with Data frame behind =
    frame.content ++ (if has end_stream frame.head.flags then [] else behind)
data_with RstStream frame behind = []
data_with Headers frame behind = []
data_with _ frame behind = behind

-- the data after the HEADERS that open the stream. A WINDOW_UPDATE without an increment is an error
-- of the stream.
abbrev pub data_behind : ℕ → List Entry → List ℕ
data_behind id [] = []
data_behind id (Whole frame ∷ entries) =
    if nat_eq id frame.head.stream then data_with frame.head.kind frame (data_behind id entries)
    else data_behind id entries
data_behind id (NoIncrement other ∷ entries) =
    if nat_eq id other then [] else data_behind id entries

-- The data of the stream: those after its first HEADERS, if these don't end it.
abbrev pub data_of : ℕ → List Entry → List ℕ
data_of id [] = []
data_of id (Whole frame ∷ entries) =
    if nat_eq id frame.head.stream && is_headers frame.head.kind
    then (if has end_stream frame.head.flags then [] else data_behind id entries)
    else data_of id entries
data_of id (NoIncrement other ∷ entries) = data_of id entries

-- the pieces of a stream's data in events
abbrev pub piece_of : ℕ → InEvent → List ℕ
piece_of id (events.Data other piece counted) = if nat_eq id other then piece else []
piece_of id _ = []

abbrev pub pieces : ℕ → List InEvent → List ℕ
pieces id given = flat_map (λ (event : InEvent). piece_of id event) given

-- whether by an event a stream begins whose head isn't malformed
abbrev pub is_well_formed : HeadFault → Bool
is_well_formed Malformed = false
is_well_formed _ = true

abbrev pub is_opening : ℕ → InEvent → Bool
is_opening id (events.Open other call) = nat_eq id other
is_opening id (events.BadHead other fault) = nat_eq id other && is_well_formed fault
is_opening id _ = false

-- How the client's half of a stream ends: not yet, by END_STREAM, or by RST_STREAM or an error of
-- the stream. The fields of trailers aren't looked at here: malformed ones are an error, for which
-- see `EndsAs`.
pub data Ending : Type 0 where
  Unended : Ending
  Finished : Ending
  Aborted : Ending

-- The end of an open stream from a frame on, given the end by the frames after it. HEADERS without
-- END_STREAM are an error of the stream.
abbrev pub ending_with : FrameKind → Frame → Ending → Ending
ending_with Data frame behind = if has end_stream frame.head.flags then Finished else behind
ending_with RstStream frame behind = Aborted
ending_with Headers frame behind = if has end_stream frame.head.flags then Finished else Aborted
ending_with _ frame behind = behind

abbrev pub ending_behind : ℕ → List Entry → Ending
ending_behind id [] = Unended
ending_behind id (Whole frame ∷ entries) =
    if nat_eq id frame.head.stream then ending_with frame.head.kind frame (ending_behind id entries)
    else ending_behind id entries
ending_behind id (NoIncrement other ∷ entries) =
    if nat_eq id other then Aborted else ending_behind id entries

-- The end of the stream, by its first HEADERS or by what follows them.
abbrev pub ending_of : ℕ → List Entry → Ending
ending_of id [] = Unended
ending_of id (Whole frame ∷ entries) =
    if nat_eq id frame.head.stream && is_headers frame.head.kind
    then (if has end_stream frame.head.flags then Finished else ending_behind id entries)
    else ending_of id entries
ending_of id (NoIncrement other ∷ entries) = ending_of id entries

-- a stream's end in an event, and the first in events
abbrev pub end_told : ℕ → InEvent → Ending
end_told id (events.End other) = if nat_eq id other then Finished else Unended
end_told id (events.Reset other error) = if nat_eq id other then Aborted else Unended
end_told id (events.StreamError other error) = if nat_eq id other then Aborted else Unended
end_told id _ = Unended

abbrev pub first_end : Ending → Ending → Ending
first_end Unended behind = behind
first_end Finished behind = Finished
first_end Aborted behind = Aborted

abbrev pub ending_told : ℕ → List InEvent → Ending
ending_told id [] = Unended
ending_told id (event ∷ given) = first_end (end_told id event) (ending_told id given)
