-- Worked verdicts, computed.
use Rattle.std.specs.Prelude.{◌≡◌, refl, ℕ, List, [], ◌∷◌}
use Rattle.h2frame.specs.declared.error_code.ErrorCode.TheVariants.{ProtocolError, StreamClosed}
use Rattle.h2frame.specs.declared.frame.FrameHead.{FrameHead}
use Rattle.h2frame.specs.declared.kind.FrameKind.{FrameKind}
use Rattle.h2frame.specs.declared.kind.FrameKind.TheVariants.{Data, Headers, WindowUpdate}
use Rattle.streamstates.specs.declared.halves.HalfState.TheVariants.{Opened, Ended, Reset}
use Rattle.streamstates.specs.declared.halves.FrameAction.TheVariants.{
  Open,
  Accept,
  Discard,
  StreamError,
  ConnectionError,
}
use Rattle.streamstates.specs.Halves.{
  Event,
  Received,
  Cut,
  begun,
  Idle,
  Skipped,
  Begun,
  state,
  verdict,
}

-- a frame without flags, and one with END_STREAM
abbrev pub plain : FrameKind → ℕ → FrameHead
plain kind stream = record { kind = kind; flags = record { bits = 0 }; stream = stream; length = 4 }

abbrev pub last : FrameKind → ℕ → FrameHead
last kind stream = record { kind = kind; flags = record { bits = 1 }; stream = stream; length = 4 }

-- streams 1 and 5 are begun, 1 has ended, and the server has reset 5; 3 is skipped, and HEADERS on
-- it began nothing
abbrev pub two_streams : List Event
two_streams =
    Cut 5 ∷ Received (plain Headers 3) ∷ Received (last Data 1) ∷ Received (plain Headers 5)
    ∷ Received (plain Headers 1) ∷ []

pub begun_streams : begun two_streams ≡ 5 ∷ 1 ∷ []
begun_streams = refl

pub first_has_ended : state 1 two_streams ≡ Begun Ended
first_has_ended = refl

pub third_is_skipped : state 3 two_streams ≡ Skipped
third_is_skipped = refl

pub fifth_is_reset : state 5 two_streams ≡ Begun Reset
fifth_is_reset = refl

pub seventh_is_idle : state 7 two_streams ≡ Idle
seventh_is_idle = refl

pub seventh_opens : verdict two_streams (plain Headers 7) ≡ Open
seventh_opens = refl

pub even_is_unlawful : verdict two_streams (plain Headers 8) ≡ ConnectionError ProtocolError
even_is_unlawful = refl

pub skipped_stays_closed : verdict two_streams (plain Headers 3) ≡ ConnectionError ProtocolError
skipped_stays_closed = refl

pub nothing_on_idle : verdict two_streams (plain WindowUpdate 7) ≡ ConnectionError ProtocolError
nothing_on_idle = refl

pub no_data_after_the_end : verdict two_streams (plain Data 1) ≡ StreamError StreamClosed
no_data_after_the_end = refl

pub credit_after_the_end : verdict two_streams (plain WindowUpdate 1) ≡ Accept
credit_after_the_end = refl

pub dropped_after_reset : verdict two_streams (plain Data 5) ≡ Discard
dropped_after_reset = refl

pub trailers_end : verdict (Received (plain Headers 1) ∷ []) (last Headers 1) ≡ Accept
trailers_end = refl

pub trailers_must_end : verdict (Received (plain Headers 1) ∷ []) (plain Headers 1)
    ≡ StreamError ProtocolError
trailers_must_end = refl

-- frames on a stream before it was begun are no part of it
pub early_end_counts_not : state 1 (Received (plain Headers 1) ∷ Received (last Data 1) ∷ [])
    ≡ Begun Opened
early_end_counts_not = refl
