-- How a server stops while its calls go on (RFC 9113, section 6.8). It warns its peer by a GOAWAY
-- without an error that names stream 2^31 - 1, so that no stream comes after it, and by a PING,
-- whose acknowledgement shows that the warning was read. Then a GOAWAY names the greatest stream
-- whose call was admitted, 0 for none; streams after that are refused. Runs have the latest step
-- first.
use Rattle.std.specs.Prelude.{
  ◌≡◌,
  ℕ,
  ◌^◌,
  ◌-◌,
  ◌||◌,
  Bool,
  true,
  false,
  List,
  [],
  ◌∷◌,
  Option,
  None,
  Some,
}
use Rattle.std.specs.List.{find}
use Rattle.std.specs.Option.{is_some, option_or}
use Rattle.h2frame.specs.declared.error_code.ErrorCode.TheVariants.{NoError}
use Rattle.h2frame.specs.declared.frame.Frame.{Frame}
use Rattle.reasons.specs.declared.Reason.TheVariants.{Code}
use Rattle.outwriter.specs.declared.control.WriterOrder.TheVariants.{Probe, Goaway}
use Rattle.outwriter.specs.Frames.{goaway_frame, is_last}
use Rattle.outwriter.specs.Runs.{is_goaway}
use Rattle.outwriter.specs.Steps.{Order, Step, Taken, Granted, Written, Returned, frames_of}

-- the greatest number of a stream (section 5.1.1)
abbrev pub greatest_stream : ℕ
greatest_stream = 2 ^ 31 - 1

-- the eight bytes of the PING: "draining"
abbrev pub draining : List ℕ
draining = 100 ∷ 114 ∷ 97 ∷ 105 ∷ 110 ∷ 105 ∷ 110 ∷ 103 ∷ []

-- the GOAWAY by which it warns
abbrev pub warning : Order
warning = Goaway greatest_stream (Code NoError)

-- ---- which GOAWAY is the last

-- the GOAWAY that an order asks for
abbrev pub goaway_by : Order → Option Frame
goaway_by (Goaway last reason) = Some (goaway_frame last reason)
goaway_by _ = None

-- the GOAWAY of the Goaway that was taken last, if one was
abbrev pub ordered_goaway : List Step → Option Frame
ordered_goaway [] = None
ordered_goaway (Taken order ∷ before) = option_or (goaway_by order) (ordered_goaway before)
ordered_goaway (Granted id n ∷ before) = ordered_goaway before
ordered_goaway (Written frame ∷ before) = ordered_goaway before
ordered_goaway (Returned id items ∷ before) = ordered_goaway before

-- a Goaway was taken
abbrev pub is_going_away : List Step → Bool
is_going_away run = is_some (ordered_goaway run)

-- a PING of the server's own was ordered
abbrev pub probes : Order → Bool
probes (Probe bytes) = true
probes _ = false

abbrev pub was_probed : List Step → Bool
was_probed [] = false
was_probed (Taken order ∷ before) = probes order || was_probed before
was_probed (Granted id n ∷ before) = was_probed before
was_probed (Written frame ∷ before) = was_probed before
was_probed (Returned id items ∷ before) = was_probed before

-- a GOAWAY with an error was ordered
abbrev pub fails : Order → Bool
fails (Goaway last reason) = is_last (goaway_frame last reason)
fails _ = false

abbrev pub has_failed : List Step → Bool
has_failed [] = false
has_failed (Taken order ∷ before) = fails order || has_failed before
has_failed (Granted id n ∷ before) = has_failed before
has_failed (Written frame ∷ before) = has_failed before
has_failed (Returned id items ∷ before) = has_failed before

-- what is noted of a Goaway, a PING of the server's own, and a Goaway with an error: what isn't
-- noted wasn't taken
pub record IsUnsaid (run : List Step) (leaving probed failed : Bool) : Type 0 where
  pub goaway : leaving ≡ false → is_going_away run ≡ false
  pub probe : probed ≡ false → was_probed run ≡ false
  pub error : failed ≡ false → has_failed run ≡ false

-- the GOAWAY that was written last, if one was
abbrev pub last_goaway : List Step → Option Frame
last_goaway run = find (λ frame. is_goaway frame.head.kind) (frames_of run)

-- The server has drained: the last GOAWAY that it wrote has no error, and names this stream.
abbrev pub HasDrained : ℕ → List Step → Type 0
HasDrained last run = last_goaway run ≡ Some (goaway_frame last (Code NoError))
