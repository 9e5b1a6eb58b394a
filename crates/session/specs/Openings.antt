-- The streams that begin by events: their numbers rise (RFC 9113, section 5.1.1).
use Rattle.std.specs.Prelude.{ℕ, ◌<◌, List, [], ◌∷◌, flat_map}
use Rattle.session.specs.declared.event.InEvent.{InEvent}
use Rattle.session.specs.declared.event.InEvent.TheVariants as events

-- the stream that begins by an event, with the head of a call or without
abbrev pub opening_of : InEvent → List ℕ
opening_of (events.Open id call) = id ∷ []
opening_of (events.BadHead id fault) = id ∷ []
opening_of _ = []

abbrev pub openings : List InEvent → List ℕ
openings given = flat_map opening_of given

-- each number is above those before it
abbrev pub RiseFrom : ℕ → List ℕ → Type 0
RiseFrom last [] = Unit {0}
RiseFrom last (id ∷ ids) = (last < id) × RiseFrom id ids

abbrev pub AreRising : List ℕ → Type 0
AreRising [] = Unit {0}
AreRising (id ∷ ids) = RiseFrom id ids
