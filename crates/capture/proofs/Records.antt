-- A text has one list of records and no other.
use Rattle.std.proofs.Common.{
  ◌≡◌,
  ℕ,
  ◌+◌,
  ◌≤◌,
  List,
  [],
  ◌∷◌,
  ◌++◌,
  length,
  take,
  drop,
  refl,
  sym,
  ap,
  subst,
  ◌∙◌,
  append_assoc,
  arith,
}
use Rattle.std.proofs.Math.ListN.{get_or-append}
use Rattle.std.proofs.lemmas.List.{length-append, length-take-le, take-append-drop}
use Rattle.capture.specs.declared.packet.Hosts.{Hosts}
use Rattle.capture.specs.declared.packet.Hosts.TheVariants.{V4, V6}
use Rattle.capture.specs.declared.packet.Packet.{Packet}
use Rattle.capture.specs.declared.packet.Path.{Path}
use Rattle.capture.specs.declared.packet.SegmentHead.{SegmentHead}
use Rattle.capture.specs.declared.packet.Time.{Time}
use Rattle.capture.specs.Fields.{le32_at}
use Rattle.capture.specs.Format.{
  IsPacket,
  IsV4,
  IsV6,
  IsChecked,
  IsSegment,
  Carries,
  IsRecord,
  IsFileHead,
  IsCapture,
  AreRecords,
}
use Rattle.capture.specs.Reading.{HasItsSize, StartsNone, StartsWith}

-- ---- how long a record is

-- fronts of one length of one list are one
fronts_one : (xs ys rest more : List ℕ) → length xs ≡ length ys → xs ++ rest ≡ ys ++ more
    → (xs ≡ ys) × (rest ≡ more)
fronts_one [] [] rest more l e = (refl, e)
fronts_one [] (y ∷ ys) rest more l e = absurd (omega (arith, l))
fronts_one (x ∷ xs) [] rest more l e = absurd (omega (arith, l))
fronts_one (x ∷ xs) (y ∷ ys) rest more l e =
    let tails : xs ++ rest ≡ ys ++ more = cc in
    let heads : x ≡ y = cc in
    let same = fronts_one xs ys rest more (omega (arith, l)) tails in
    (cc (heads, same.0), same.1)

-- a number in the front of a list
pub le32_front : (first rest : List ℕ) (at : ℕ) → at + 4 ≤ length first
    → le32_at (first ++ rest) at ≡ le32_at first at
unfolding le32_at
le32_front first rest at fits =
    let a = get_or-append first rest 0 at (omega (arith, fits)) in
    let b = get_or-append first rest 0 (at + 1) (omega (arith, fits)) in
    let c = get_or-append first rest 0 (at + 2) (omega (arith, fits)) in
    let d = get_or-append first rest 0 (at + 3) (omega (arith, fits)) in
    rw (a, b, c, d) refl

pub sized : (text : List ℕ) (packet : Packet) → IsRecord text packet → HasItsSize text
sized text packet is = (is.size, is.kept)

-- what is first is as long as the bytes say
pub size_of_first : (bytes first rest : List ℕ) → bytes ≡ first ++ rest → HasItsSize first
    → (16 ≤ length bytes) × (length first ≡ 16 + le32_at bytes 8)
    × (16 + le32_at bytes 8 ≤ length bytes)
size_of_first bytes first rest parts (size, kept) =
    let whole : length bytes ≡ length first + length rest =
    ap length parts ∙ length-append first rest in
    let same : le32_at bytes 8 ≡ le32_at first 8 =
    ap (λ (b : List ℕ). le32_at b 8) parts ∙ le32_front first rest 8 (omega (arith, size)) in
    (omega (arith, whole, size), omega (arith, same, kept), omega (arith, whole, same, kept))

-- so many bytes are a first record by their size
pub first_of_size : (bytes : List ℕ) → 16 ≤ length bytes → 16 + le32_at bytes 8 ≤ length bytes
    → HasItsSize (take (16 + le32_at bytes 8) bytes)
first_of_size bytes enough fits =
    let n = 16 + le32_at bytes 8 in
    let long : length (take n bytes) ≡ n = length-take-le n bytes fits in
    let same : le32_at bytes 8 ≡ le32_at (take n bytes) 8 =
    ap (λ (b : List ℕ). le32_at b 8) (sym (take-append-drop n bytes))
    ∙ le32_front (take n bytes) (drop n bytes) 8 (omega (arith, long)) in
    (omega (arith, long), omega (arith, long, same))

pub one_first : (bytes first rest other more : List ℕ) → bytes ≡ first ++ rest
    → bytes ≡ other ++ more → HasItsSize first → HasItsSize other → (first ≡ other) × (rest ≡ more)
one_first bytes first rest other more e f h k =
    let a = size_of_first bytes first rest e h in
    let b = size_of_first bytes other more f k in
    fronts_one first other rest more (a.1 ∙ sym b.1) (sym e ∙ f)

-- ---- what a record says

one_hosts : (packet : List ℕ) (hosts others : Hosts) (segment other : List ℕ)
    → IsPacket packet hosts segment → IsPacket packet others other
    → (hosts ≡ others) × (segment ≡ other)
one_hosts packet (V4 a b) (V4 c d) segment other x y =
    let source : a ≡ c = sym x.source ∙ y.source in
    let destination : b ≡ d = sym x.destination ∙ y.destination in
    (cc (source, destination), sym x.content ∙ y.content)
one_hosts packet (V6 a b) (V6 c d) segment other x y =
    let source : a ≡ c = sym x.source ∙ y.source in
    let destination : b ≡ d = sym x.destination ∙ y.destination in
    (cc (source, destination), sym x.content ∙ y.content)
one_hosts packet (V4 a b) (V6 c d) segment other x y = absurd (omega (arith, x.version, y.version))
one_hosts packet (V6 a b) (V4 c d) segment other x y = absurd (omega (arith, x.version, y.version))

same_path : (a b : Path) → a.hosts ≡ b.hosts → a.from_port ≡ b.from_port
    → a.to_port ≡ b.to_port → a ≡ b
same_path a b hosts from to =
    let left : Path = record { hosts = a.hosts; from_port = a.from_port; to_port = a.to_port } in
    let right : Path = record { hosts = b.hosts; from_port = b.from_port; to_port = b.to_port } in
    let e : left ≡ right = cc (hosts, from, to) in e

one_head : (text : List ℕ) (head other : SegmentHead) (payload more : List ℕ)
    → head.path.hosts ≡ other.path.hosts → IsSegment text head payload → IsSegment text other more
    → (head ≡ other) × (payload ≡ more)
one_head text head other payload more hosts x y =
    let path =
    same_path head.path other.path hosts (sym x.from_port ∙ y.from_port)
    (sym x.to_port ∙ y.to_port) in
    let sequence : head.sequence ≡ other.sequence = sym x.sequence ∙ y.sequence in
    let acknowledged : head.acknowledged ≡ other.acknowledged =
    sym x.acknowledged ∙ y.acknowledged in
    let bits : head.flags.bits ≡ other.flags.bits = sym x.flags ∙ y.flags in
    let left : SegmentHead = record {
      path = head.path;
      sequence = head.sequence;
      acknowledged = head.acknowledged;
      flags = record { bits = head.flags.bits };
    } in
    let right : SegmentHead = record {
      path = other.path;
      sequence = other.sequence;
      acknowledged = other.acknowledged;
      flags = record { bits = other.flags.bits };
    } in
    let e : left ≡ right = cc (path, sequence, acknowledged, bits) in
    (e, sym x.content ∙ y.content)

-- a packet has one segment alone
one_carried : (text : List ℕ) (head other : SegmentHead) (payload more : List ℕ)
    → Carries text head payload → Carries text other more → (head ≡ other) × (payload ≡ more)
one_carried text head other payload more x y =
    let hosts =
    one_hosts text head.path.hosts other.path.hosts x.segment y.segment x.is_packet y.is_packet in
    one_head y.segment head other payload more hosts.0
    (subst (λ (s : List ℕ). IsSegment s head payload) hosts.1 x.is_segment) y.is_segment

same_time : (a b : Time) → a.seconds ≡ b.seconds → a.micros ≡ b.micros → a ≡ b
same_time a b seconds micros =
    let left : Time = record { seconds = a.seconds; micros = a.micros } in
    let right : Time = record { seconds = b.seconds; micros = b.micros } in
    let e : left ≡ right = cc (seconds, micros) in e

-- a record is one packet's alone
pub one_record : (text : List ℕ) (packet other : Packet) → IsRecord text packet
    → IsRecord text other → packet ≡ other
one_record text packet other x y =
    let parts =
    one_carried (drop 16 text) packet.head other.head packet.payload other.payload
    x.carries y.carries in
    let time =
    same_time packet.time other.time (sym x.seconds ∙ y.seconds) (sym x.micros ∙ y.micros) in
    let heads = parts.0 in
    let payloads = parts.1 in
    let left : Packet =
    record { time = packet.time; head = packet.head; payload = packet.payload } in
    let right : Packet = record { time = other.time; head = other.head; payload = other.payload } in
    let e : left ≡ right = cc (time, heads, payloads) in e

-- ---- what no record is

pub no_packet : (packet : List ℕ) → ((from to segment : List ℕ) → IsV4 packet from to segment → ⊥)
    → ((from to segment : List ℕ) → IsV6 packet from to segment → ⊥)
    → (hosts : Hosts) (segment : List ℕ) → IsPacket packet hosts segment → ⊥
no_packet packet four six (V4 from to) segment is = four from to segment is
no_packet packet four six (V6 from to) segment is = six from to segment is

pub none_carried : (packet : List ℕ)
    → ((hosts : Hosts) (segment : List ℕ) → IsPacket packet hosts segment → ⊥)
    → (head : SegmentHead) (payload : List ℕ) → Carries packet head payload → ⊥
none_carried packet none head payload is = none head.path.hosts is.segment is.is_packet

pub wrong_sum : (packet : List ℕ) (hosts : Hosts) (segment : List ℕ) → IsPacket packet hosts segment
    → (IsChecked hosts segment → ⊥) → (head : SegmentHead) (payload : List ℕ)
    → Carries packet head payload → ⊥
wrong_sum packet hosts segment is wrong head payload has =
    let same = one_hosts packet head.path.hosts hosts has.segment segment has.is_packet is in
    wrong (subst (λ (s : List ℕ). IsChecked hosts s) same.1
    (subst (λ (h : Hosts). IsChecked h has.segment) same.0 has.is_checked))

pub no_segment : (packet : List ℕ) (hosts : Hosts) (segment : List ℕ)
    → IsPacket packet hosts segment
    → ((head : SegmentHead) (payload : List ℕ) → IsSegment segment head payload → ⊥)
    → (head : SegmentHead) (payload : List ℕ) → Carries packet head payload → ⊥
no_segment packet hosts segment is none head payload has =
    let same = one_hosts packet head.path.hosts hosts has.segment segment has.is_packet is in
    none head payload (subst (λ (s : List ℕ). IsSegment s head payload) same.1 has.is_segment)

pub carries : (packet : List ℕ) (hosts : Hosts) (segment : List ℕ) (head : SegmentHead)
    (payload : List ℕ)
    → IsPacket packet hosts segment → IsChecked hosts segment → IsSegment segment head payload
    → head.path.hosts ≡ hosts → Carries packet head payload
carries packet hosts segment head payload is checked has same = record {
  segment = segment;
  is_packet = subst (λ (h : Hosts). IsPacket packet h segment) (sym same) is;
  is_checked = subst (λ (h : Hosts). IsChecked h segment) (sym same) checked;
  is_segment = has;
}

pub not_carried : (text : List ℕ)
    → ((head : SegmentHead) (payload : List ℕ) → Carries (drop 16 text) head payload → ⊥)
    → (packet : Packet) → IsRecord text packet → ⊥
not_carried text none packet is = none packet.head packet.payload is.carries

-- ---- lists of records

pub starts_one : (bytes : List ℕ) (packet other : Packet) (rest more : List ℕ)
    → StartsWith bytes packet rest → StartsWith bytes other more → (packet ≡ other) × (rest ≡ more)
starts_one bytes packet other rest more (first, e, is) (front, f, has) =
    let same =
    one_first bytes first rest front more e f (sized first packet is) (sized front other has) in (
      one_record front packet other (subst (λ (t : List ℕ). IsRecord t packet) same.0 is) has,
      same.1,
    )

pub no_first : (bytes : List ℕ)
    → ((first rest : List ℕ) → bytes ≡ first ++ rest → HasItsSize first → ⊥) → StartsNone bytes
no_first bytes none = λ packet rest starts.
    none starts.0 rest starts.1 (sized starts.0 packet starts.2)

pub no_parts : (bytes text behind : List ℕ) → bytes ≡ text ++ behind → HasItsSize text
    → ((packet : Packet) → IsRecord text packet → ⊥) → StartsNone bytes
no_parts bytes text behind e size none = λ packet rest starts.
    let same =
    one_first bytes starts.0 rest text behind starts.1 e (sized starts.0 packet starts.2) size in
    none packet (subst (λ (t : List ℕ). IsRecord t packet) same.0 starts.2)

pub nothing_starts : (bytes : List ℕ) (packet : Packet) (rest : List ℕ) → bytes ≡ []
    → StartsWith bytes packet rest → ⊥
nothing_starts bytes packet rest none (first, e, is) =
    omega (arith, ap length none, (size_of_first bytes first rest e (sized first packet is)).0)

pub one_list : (bytes : List ℕ) (packets others : List Packet) → AreRecords bytes packets
    → AreRecords bytes others → packets ≡ others
one_list bytes [] [] e f = refl
one_list bytes [] (q ∷ qs) e (first, rest, parts, is, others) =
    absurd (nothing_starts bytes q rest e (first, parts, is))
one_list bytes (p ∷ ps) [] (first, rest, parts, is, others) e =
    absurd (nothing_starts bytes p rest e (first, parts, is))
one_list bytes (p ∷ ps) (q ∷ qs) (first, rest, e, is, others) (front, more, f, has, further) =
    let same = starts_one bytes p q rest more (first, e, is) (front, f, has) in
    let tails =
    one_list more ps qs (subst (λ (t : List ℕ). AreRecords t ps) same.1 others) further in
    let heads = same.0 in
    cc (heads, tails)

pub joined_append : (text more : List ℕ) (packets others : List Packet) → AreRecords text packets
    → AreRecords more others → AreRecords (text ++ more) (packets ++ others)
joined_append text more [] others e are =
    subst (λ (t : List ℕ). AreRecords t others) (ap (λ (t : List ℕ). t ++ more) (sym e)) are
joined_append text more (p ∷ ps) others (first, rest, e, is, behind) are = (
  first,
  rest ++ more,
  ap (λ (t : List ℕ). t ++ more) e ∙ append_assoc first rest more,
  is,
  joined_append rest more ps others behind are,
)

pub one_file : (bytes : List ℕ) (packets others : List Packet) → IsCapture bytes packets
    → IsCapture bytes others → packets ≡ others
one_file bytes packets others (head, rest, e, is, are) (front, more, f, has, further) =
    let same = fronts_one head front rest more (is.size ∙ sym has.size) (sym e ∙ f) in
    one_list more packets others (subst (λ (t : List ℕ). AreRecords t packets) same.1 are) further

-- where a file's head ends
pub behind_head : (bytes head rest : List ℕ) → bytes ≡ head ++ rest → length head ≡ 24
    → (24 ≤ length bytes) × (take 24 bytes ≡ head) × (drop 24 bytes ≡ rest)
behind_head bytes head rest e size =
    let whole : length bytes ≡ length head + length rest = ap length e ∙ length-append head rest in
    let long : length (take 24 bytes) ≡ 24 = length-take-le 24 bytes (omega (arith, whole, size)) in
    let same =
    fronts_one (take 24 bytes) head (drop 24 bytes) rest (long ∙ sym size)
    (take-append-drop 24 bytes ∙ e) in
    (omega (arith, whole, size), same.0, same.1)

-- what follows a file's head is its records
pub behind_file_head : (bytes head rest : List ℕ) (packets : List Packet) → bytes ≡ head ++ rest
    → length head ≡ 24 → IsCapture bytes packets → IsFileHead head × AreRecords rest packets
behind_file_head bytes head rest packets e size (front, more, f, has, are) =
    let same = fronts_one head front rest more (size ∙ sym has.size) (sym e ∙ f) in (
      subst IsFileHead (sym same.0) has,
      subst (λ (t : List ℕ). AreRecords t packets) (sym same.1) are,
    )
