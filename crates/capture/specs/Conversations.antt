-- The segments of a connection of TCP whose sides sent these bytes (RFC 9293, sections 3.4 to 3.6).
use Rattle.std.specs.Prelude.{◌≡◌, ℕ, ◌+◌, ◌^◌, ◌%◌, ◌<◌, List, [], ◌∷◌, length, take, drop}
use Rattle.capture.specs.declared.conversation.Conversation.{Conversation}
use Rattle.capture.specs.declared.conversation.Side.{Side}
use Rattle.capture.specs.declared.conversation.Side.TheVariants.{Client, Server}
use Rattle.capture.specs.declared.packet.Hosts.{Hosts}
use Rattle.capture.specs.declared.packet.Hosts.TheVariants.{V4, V6}
use Rattle.capture.specs.declared.packet.Packet.{Packet}
use Rattle.capture.specs.declared.packet.Path.{Path}
use Rattle.capture.specs.declared.packet.Time.{Time}

abbrev pub other_side : Side → Side
other_side Client = Server
other_side Server = Client

abbrev pub hosts_back : Hosts → Hosts
hosts_back (V4 from to) = V4 to from
hosts_back (V6 from to) = V6 to from

-- the way back
abbrev pub back : Path → Path
back path =
    record { hosts = hosts_back path.hosts; from_port = path.to_port; to_port = path.from_port }

-- flags of a segment (section 3.1)
abbrev pub fin_ack : ℕ
fin_ack = 0x11

abbrev pub syn : ℕ
syn = 0x02

abbrev pub syn_ack : ℕ
syn_ack = 0x12

abbrev pub ack : ℕ
ack = 0x10

abbrev pub psh_ack : ℕ
psh_ack = 0x18

-- a segment of a side, which says what came of the other
abbrev pub segment_of : Conversation → Time → Side → ℕ → List ℕ → Packet
segment_of talk time Client flags payload = record {
  time = time;
  head = record {
    path = talk.path;
    sequence = talk.client_next;
    acknowledged = talk.server_next;
    flags = record { bits = flags };
  };
  payload = payload;
}
segment_of talk time Server flags payload = record {
  time = time;
  head = record {
    path = back talk.path;
    sequence = talk.server_next;
    acknowledged = talk.client_next;
    flags = record { bits = flags };
  };
  payload = payload;
}

-- A side has used more sequence numbers: one for each byte, for its SYN and for its FIN (section
-- 3.4).
abbrev pub advanced : Conversation → Side → ℕ → Conversation
advanced talk Client count = record talk { client_next = (talk.client_next + count) % 2 ^ 32 }
advanced talk Server count = record talk { server_next = (talk.server_next + count) % 2 ^ 32 }

-- before anything was sent: the client's numbers begin with this one
abbrev pub started : Path → ℕ → Conversation
started path number = record { path = path; client_next = number; server_next = 0 }

-- the three segments that open it (section 3.5, figure 6)
abbrev pub opening : Path → Time → ℕ → List Packet
opening path time number =
    segment_of (started path number) time Client syn [] ∷
    segment_of (advanced (started path number) Client 1) time Server syn_ack [] ∷
    segment_of (advanced (advanced (started path number) Client 1) Server 1) time Client ack [] ∷ []

abbrev pub opened : Path → ℕ → Conversation
opened path number = advanced (advanced (started path number) Client 1) Server 1

-- The packets carry what a side sends, 65,000 bytes each, and the last what is left.
abbrev pub AreSent : Conversation → Time → Side → List ℕ → List Packet → Conversation → Type 0
AreSent talk time side bytes [] next = (bytes ≡ []) × (next ≡ talk)
AreSent talk time side bytes (packet ∷ packets) next =
    (0 < length bytes) × (packet ≡ segment_of talk time side psh_ack (take 65000 bytes))
    × AreSent (advanced talk side (length (take 65000 bytes))) time side
    (drop 65000 bytes) packets next

-- The client closes it, and then the server (section 3.6, figure 12).
abbrev pub closing : Conversation → Time → List Packet
closing talk time =
    segment_of talk time Client fin_ack [] ∷
    segment_of (advanced talk Client 1) time Server fin_ack [] ∷
    segment_of (advanced (advanced talk Client 1) Server 1) time Client ack [] ∷ []
