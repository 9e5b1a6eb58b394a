-- A capture file as libpcap writes it (pcap-savefile), whose packets are IPv4 (RFC 791) or IPv6
-- (RFC 8200) with a segment of TCP (RFC 9293).
use Rattle.std.specs.Prelude.{
  ◌≡◌,
  ℕ,
  ◌+◌,
  ◌/◌,
  ◌%◌,
  ◌^◌,
  ◌≤◌,
  List,
  [],
  ◌∷◌,
  ◌++◌,
  length,
  take,
  drop,
  slice_index,
}
use Rattle.capture.specs.declared.packet.Hosts.{Hosts}
use Rattle.capture.specs.declared.packet.Hosts.TheVariants.{V4, V6}
use Rattle.capture.specs.declared.packet.Packet.{Packet}
use Rattle.capture.specs.declared.packet.SegmentHead.{SegmentHead}
use Rattle.capture.specs.Checksum.{word_sum, pseudo_sum, IsAllOnes}
use Rattle.capture.specs.Fields.{be16_at, be32_at, le32_at}

-- the head of a file
pub record IsFileHead (head : List ℕ) : Type 0 where
  pub size : length head ≡ 24
  -- times are in microseconds, and numbers have their lowest byte first
  pub magic : le32_at head 0 ≡ 0xa1b2c3d4
  -- 2.4
  pub version : le32_at head 4 ≡ 0x00040002
  -- LINKTYPE_RAW: a packet begins with the head of IP
  pub link : le32_at head 20 ≡ 101

-- RFC 9293, section 3.1
pub record IsSegment (text : List ℕ) (head : SegmentHead) (payload : List ℕ) : Type 0 where
  pub size : 20 ≤ length text
  pub from_port : be16_at text 0 ≡ head.path.from_port
  pub to_port : be16_at text 2 ≡ head.path.to_port
  pub sequence : be32_at text 4 ≡ head.sequence
  pub acknowledged : be32_at text 8 ≡ head.acknowledged
  -- five words of four bytes come before the payload: there are no options
  pub offset : slice_index text 12 ≡ 0x50
  pub flags : slice_index text 13 ≡ head.flags.bits
  pub content : drop 20 text ≡ payload

-- RFC 791, section 3.1
pub record IsV4 (packet from to segment : List ℕ) : Type 0 where
  -- version 4, and five words of four bytes before the segment: there are no options
  pub version : slice_index packet 0 ≡ 0x45
  pub size : 20 ≤ length packet
  pub total : be16_at packet 2 ≡ length packet
  -- no fragment follows, and none was before
  pub whole : be16_at packet 6 % 2 ^ 14 ≡ 0
  pub protocol : slice_index packet 9 ≡ 6
  pub checksum : IsAllOnes (word_sum (take 20 packet))
  pub source : take 4 (drop 12 packet) ≡ from
  pub destination : take 4 (drop 16 packet) ≡ to
  pub content : drop 20 packet ≡ segment

-- RFC 8200, section 3
pub record IsV6 (packet from to segment : List ℕ) : Type 0 where
  pub version : slice_index packet 0 / 16 ≡ 6
  pub size : 40 ≤ length packet
  pub payload_length : be16_at packet 4 + 40 ≡ length packet
  -- no extension
  pub next_header : slice_index packet 6 ≡ 6
  pub source : take 16 (drop 8 packet) ≡ from
  pub destination : take 16 (drop 24 packet) ≡ to
  pub content : drop 40 packet ≡ segment

-- a packet between these hosts, with this segment
abbrev pub IsPacket : List ℕ → Hosts → List ℕ → Type 0
IsPacket packet (V4 from to) segment = IsV4 packet from to segment
IsPacket packet (V6 from to) segment = IsV6 packet from to segment

-- the segment's checksum is right, over a pseudo-header too
abbrev pub IsChecked : Hosts → List ℕ → Type 0
IsChecked hosts segment = IsAllOnes (pseudo_sum hosts (length segment) + word_sum segment)

-- the packet has this segment, whose checksum is right
pub record Carries (packet : List ℕ) (head : SegmentHead) (payload : List ℕ) : Type 0 where
  pub segment : List ℕ
  pub is_packet : IsPacket packet head.path.hosts segment
  pub is_checked : IsChecked head.path.hosts segment
  pub is_segment : IsSegment segment head payload

-- a record of a file: when a packet was seen, its length, the packet, which is whole
pub record IsRecord (text : List ℕ) (packet : Packet) : Type 0 where
  pub size : 16 ≤ length text
  pub seconds : le32_at text 0 ≡ packet.time.seconds
  pub micros : le32_at text 4 ≡ packet.time.micros
  pub kept : le32_at text 8 + 16 ≡ length text
  pub whole : le32_at text 12 + 16 ≡ length text
  pub carries : Carries (drop 16 text) packet.head packet.payload

-- records of these packets follow one another
abbrev pub AreRecords : List ℕ → List Packet → Type 0
AreRecords text [] = text ≡ []
AreRecords text (packet ∷ packets) =
    (first rest : List ℕ) × (text ≡ first ++ rest) × IsRecord first packet × AreRecords rest packets

-- a file with these packets
abbrev pub IsCapture : List ℕ → List Packet → Type 0
IsCapture bytes packets =
    (head rest : List ℕ) × (bytes ≡ head ++ rest) × IsFileHead head × AreRecords rest packets
