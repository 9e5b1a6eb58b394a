-- The peer's frames for the side that writes, in their order: SETTINGS, PING and WINDOW_UPDATE; and
-- what acknowledges them (RFC 9113, sections 6.5.3, 6.7 and 6.9).
use Rattle.std.specs.Prelude.{Bool, true, false, not, ◌&&◌, List, [], ◌∷◌, ◌++◌, filter, flat_map}
use Rattle.h2frame.specs.declared.frame.Frame.{Frame}
use Rattle.h2frame.specs.declared.kind.FrameKind.{FrameKind}
use Rattle.h2frame.specs.declared.kind.FrameKind.TheVariants as kind
use Rattle.h2frame.specs.Flags.{has, ack}
use Rattle.outwriter.specs.declared.control.WriterOrder.TheVariants.{Settings, Ping, Window}
use Rattle.outwriter.specs.Frames.{settings_ack, ping_ack}
use Rattle.outwriter.specs.Runs.{without_goaway}
use Rattle.outwriter.specs.Steps.{Order, Taken, Granted, Written, Returned}
use Rattle.outwriter.specs.Steps.{Step as RunStep}
use Rattle.session.specs.declared.event.InEvent.{InEvent}
use Rattle.session.specs.declared.event.InEvent.TheVariants as events
use Rattle.readerloop.specs.Orders.{news_of}

abbrev pub is_news : Order → Bool
is_news (Settings settings) = true
is_news (Ping bytes) = true
is_news (Window id increment) = true
is_news _ = false

abbrev pub news_in : List Order → List Order
news_in orders = filter is_news orders

-- those of an event, as orders
abbrev pub news_at : InEvent → List Order
news_at (events.Control control) = news_of control ∷ []
news_at _ = []

abbrev pub news_told : List InEvent → List Order
news_told given = flat_map news_at given

-- the orders that a run took, the earliest first
abbrev pub taken_by : List RunStep → List Order
taken_by [] = []
taken_by (Taken order ∷ before) = taken_by before ++ order ∷ []
taken_by (Granted id n ∷ before) = taken_by before
taken_by (Written frame ∷ before) = taken_by before
taken_by (Returned id items ∷ before) = taken_by before

-- each SETTINGS has its acknowledgement, and each PING one with its bytes
abbrev pub answer_to : Order → List Frame
answer_to (Settings settings) = settings_ack ∷ []
answer_to (Ping bytes) = ping_ack bytes ∷ []
answer_to _ = []

abbrev pub answers_to : List Order → List Frame
answers_to orders = flat_map answer_to orders

-- a PING of the server's own, which acknowledges nothing
abbrev pub is_ping : FrameKind → Bool
is_ping kind.Ping = true
is_ping _ = false

abbrev pub is_probe : Frame → Bool
is_probe frame = is_ping frame.head.kind && not (has ack frame.head.flags)

-- of frames that orders oblige to, all but GOAWAY and that PING
abbrev pub acknowledgements : List Frame → List Frame
acknowledgements frames = filter (λ frame. not (is_probe frame)) (without_goaway frames)
