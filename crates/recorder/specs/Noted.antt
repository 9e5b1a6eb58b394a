-- What is written of what passes.
use Rattle.std.specs.Prelude.{◌≡◌, ℕ, List, [], Option, Some, None, IsNone}
use Rattle.capture.specs.Conversations.{AreSent, closing}
use Rattle.capture.specs.Format.{AreRecords}
use Rattle.capture.specs.declared.conversation.Conversation.{Conversation}
use Rattle.capture.specs.declared.conversation.Side.{Side}
use Rattle.capture.specs.declared.packet.Packet.{Packet}
use Rattle.capture.specs.declared.packet.Time.{Time}
use Rattle.recorder.specs.declared.notes.Notes.{Notes}
use Rattle.words.specs.declared.tracing.Tracing.{Tracing}

-- the segments of a connection, where there is a capture
abbrev pub talk_of : Notes → Option Conversation
talk_of notes = notes.talk

-- Where there is a capture, the records are of segments with these bytes.
abbrev pub IsCaptured : Option Conversation → Time → Side → List ℕ → List ℕ
    → Option Conversation → Type 0
IsCaptured None time side bytes text next = (text ≡ []) × (next ≡ None)
IsCaptured (Some talk) time side bytes text None = ⊥
IsCaptured (Some talk) time side bytes text (Some next) =
    (packets : List Packet) × AreRecords text packets × AreSent talk time side bytes packets next

-- Where there is one, the records close the connection.
abbrev pub IsClosed : Option Conversation → Time → List ℕ → Type 0
IsClosed None time text = text ≡ []
IsClosed (Some talk) time text = AreRecords text (closing talk time)

-- Nothing is to be written: neither lines nor a capture, nor bytes into a folder.
abbrev pub IsQuiet : {T : Type 0} → Tracing → Option T → Type 0
IsQuiet words folder = IsNone words.form × IsNone words.capture × IsNone folder
