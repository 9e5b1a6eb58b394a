-- The frames of a connection that count for its streams (RFC 9113, sections 3.4, 4.1 and 4.3):
-- those of the whole groups after the preface, one list for all streams.
use Rattle.std.specs.Prelude.{◌≡◌, ◌⊎◌, ℕ, List, [], ◌++◌}
use Rattle.h2frame.specs.FrameList.{Entry, Joined}
use Rattle.reasons.specs.declared.Reason.TheVariants as reason
use Rattle.session.specs.declared.event.InEvent.{InEvent}
use Rattle.session.specs.Prefaces.{preface, Departs}
use Rattle.session.specs.Frames.{fatal}
use Rattle.session.specs.Events.{Situation, Passes, Close, Closes, IsUnsettled}

-- no frame counts: the preface is unfinished, the bytes depart from it, or the first frame isn't
-- SETTINGS
abbrev pub IsUnread : List ℕ → List InEvent → Type 0
IsUnread bytes given =
    ((due : List ℕ) × (preface ≡ bytes ++ due) × (given ≡ []))
    ⊎ (Departs preface bytes × (given ≡ fatal reason.Preface))
    ⊎ ((text : List ℕ) × (entries : List Entry) × (rest : List ℕ) × (bytes ≡ preface ++ text)
    × Joined text entries rest × IsUnsettled entries × (given ≡ fatal reason.First))

-- After the preface the bytes are these entries, which are whole groups with the first events, and
-- then what closes them, with the last events: a header block that isn't whole, a fault, or what is
-- fatal.
pub record IsRead (bytes : List ℕ) (given : List InEvent) (entries : List Entry) : Type 0 where
  pub text : List ℕ
  pub behind : List Entry
  pub rest : List ℕ
  pub before : List InEvent
  pub last : List InEvent
  pub now : Situation
  pub close : Close
  pub greeted : bytes ≡ preface ++ text
  pub joined : Joined text (entries ++ behind) rest
  pub passes : Passes (entries ++ behind) behind before now
  pub closes : Closes close now behind rest last
  pub all : given ≡ before ++ last

-- These entries are the frames that count of a connection's bytes, which have these events.
abbrev pub Framed : List ℕ → List InEvent → List Entry → Type 0
Framed bytes given entries = (IsUnread bytes given × (entries ≡ [])) ⊎ IsRead bytes given entries
