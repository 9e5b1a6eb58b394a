-- What loops over records and over bytes that are sent keep.
use Rattle.std.proofs.Common.{
  ◌≡◌,
  ℕ,
  ◌<◌,
  ◌⊎◌,
  inl,
  inr,
  List,
  [],
  ◌∷◌,
  ◌++◌,
  length,
  take,
  drop,
  refl,
  sym,
  ap,
  subst,
  ◌∙◌,
  append_assoc,
  arith,
}
use Rattle.std.proofs.lemmas.List.{append-nil}
use Rattle.capture.specs.declared.conversation.Conversation.{Conversation}
use Rattle.capture.specs.declared.conversation.Side.{Side}
use Rattle.capture.specs.declared.packet.Packet.{Packet}
use Rattle.capture.specs.declared.packet.Time.{Time}
use Rattle.capture.specs.Conversations.{AreSent, advanced, psh_ack, segment_of}
use Rattle.capture.specs.Format.{IsRecord, AreRecords}
use Rattle.capture.specs.declared.reading.CaptureFault.{CaptureFault}
use Rattle.capture.specs.declared.reading.CaptureFault.TheVariants.{OutOfMemory}
use Rattle.capture.specs.Reading.{StartsNone, StartsWith}
use Rattle.capture.proofs.Records.{joined_append, nothing_starts, starts_one}

-- ---- reading

-- the packets so far and those of the rest are those of all
pub record IsRead (records rest : List ℕ) (packets : List Packet) : Type 0 where
  pub read : (more : List Packet) → AreRecords rest more → AreRecords records (packets ++ more)
  pub only : (all : List Packet) → AreRecords records all
      → (more : List Packet) × (all ≡ packets ++ more) × AreRecords rest more

pub read_init : (records : List ℕ) → IsRead records records []
read_init records = record { read = λ more are. are; only = λ all are. (all, refl, are) }

only_next : (rest behind : List ℕ) (packets all more : List Packet) (packet : Packet)
    → StartsWith rest packet behind → all ≡ packets ++ more → AreRecords rest more
    → (further : List Packet) × (all ≡ (packets ++ packet ∷ []) ++ further)
    × AreRecords behind further
only_next rest behind packets all [] packet starts same e =
    absurd (nothing_starts rest packet behind e starts)
only_next rest behind packets all (q ∷ qs) packet starts same (front, further, f, has, others) =
    let one = starts_one rest packet q behind further starts (front, f, has) in (
      qs,
      same ∙ ap (λ (p : Packet). packets ++ p ∷ qs) (sym one.0)
          ∙ sym (append_assoc packets (packet ∷ []) qs),
      subst (λ (b : List ℕ). AreRecords b qs) (sym one.1) others,
    )

pub read_next : (records rest behind : List ℕ) (packets : List Packet) (packet : Packet)
    → IsRead records rest packets → StartsWith rest packet behind
    → IsRead records behind (packets ++ packet ∷ [])
read_next records rest behind packets packet was starts = record {
  read = λ more are.
      subst (λ (ps : List Packet). AreRecords records ps)
      (sym (append_assoc packets (packet ∷ []) more))
      (was.read (packet ∷ more) (starts.0, behind, starts.1, starts.2, are));
  only = λ all are.
      let old = was.only all are in
      only_next rest behind packets all old.0 packet starts old.1 old.2;
}

nothing : (xs : List ℕ) → length xs ≡ 0 → xs ≡ []
nothing [] e = refl
nothing (x ∷ xs) e = absurd (omega (arith, e))

pub read_end : (records rest : List ℕ) (packets : List Packet) → IsRead records rest packets
    → length rest ≡ 0 → AreRecords records packets
read_end records rest packets was empty =
    let none = nothing rest empty in
    subst (λ (ps : List Packet). AreRecords records ps) (append-nil packets) (was.read [] none)

all_read : (rest : List ℕ) (packets all more : List Packet) → rest ≡ [] → all ≡ packets ++ more
    → AreRecords rest more → packets ≡ all
all_read rest packets all [] none same e = sym (same ∙ append-nil packets)
all_read rest packets all (q ∷ qs) none same (front, further, f, has, others) =
    absurd (nothing_starts rest q further none (front, f, has))

pub only_end : (records rest : List ℕ) (packets : List Packet) → IsRead records rest packets
    → length rest ≡ 0 → (all : List Packet) → AreRecords records all → packets ≡ all
only_end records rest packets was empty all are =
    let old = was.only all are in
    all_read rest packets all old.0 (nothing rest empty) old.1 old.2

none_left : (rest : List ℕ) (more : List Packet) → 0 < length rest
    → ((packet : Packet) (behind : List ℕ) → StartsWith rest packet behind → ⊥)
    → AreRecords rest more → ⊥
none_left rest [] some none e = omega (arith, some, ap length e)
none_left rest (q ∷ qs) some none (front, further, f, has, others) = none q further (front, f, has)

pub stuck : (records rest : List ℕ) (packets : List Packet) → IsRead records rest packets
    → 0 < length rest → ((packet : Packet) (behind : List ℕ) → StartsWith rest packet behind → ⊥)
    → (all : List Packet) → AreRecords records all → ⊥
stuck records rest packets was some none all are =
    let old = was.only all are in
    none_left rest old.0 some none old.2

pub only_stuck : (records rest : List ℕ) (packets : List Packet) (fault : CaptureFault)
    → IsRead records rest packets → 0 < length rest → (fault ≡ OutOfMemory) ⊎ StartsNone rest
    → (all : List Packet) → AreRecords records all → fault ≡ OutOfMemory
only_stuck records rest packets fault was some (inl e) all are = e
only_stuck records rest packets fault was some (inr none) all are =
    absurd (stuck records rest packets was some none all are)

-- ---- sending

-- the text has the records of what came before the rest
abbrev pub IsSoFar : Conversation → Conversation → Time → Side → List ℕ → List ℕ → List ℕ → Type 0
IsSoFar from now time side bytes rest text =
    (packets : List Packet) × AreRecords text packets
    × ((more : List Packet) (last : Conversation) → AreSent now time side rest more last
    → AreSent from time side bytes (packets ++ more) last)

pub so_far_init : (from : Conversation) (time : Time) (side : Side) (bytes : List ℕ)
    → IsSoFar from from time side bytes bytes []
so_far_init from time side bytes = ([], refl, λ more last sent. sent)

pub so_far_next : (from now : Conversation) (time : Time) (side : Side)
    (bytes rest text first : List ℕ)
    → IsSoFar from now time side bytes rest text → 0 < length rest
    → IsRecord first (segment_of now time side psh_ack (take 65000 rest))
    → IsSoFar from (advanced now side (length (take 65000 rest))) time side bytes
    (drop 65000 rest) (text ++ first)
so_far_next from now time side bytes rest text first (packets, are, goes) some is =
    let packet = segment_of now time side psh_ack (take 65000 rest) in (
      packets ++ packet ∷ [],
      joined_append text first packets (packet ∷ []) are
          (first, [], sym (append-nil first), is, refl),
      λ more last sent.
          subst (λ (ps : List Packet). AreSent from time side bytes ps last)
          (sym (append_assoc packets (packet ∷ []) more))
          (goes (packet ∷ more) last (some, refl, sent)),
    )

pub so_far_end : (from now : Conversation) (time : Time) (side : Side) (bytes rest text : List ℕ)
    → IsSoFar from now time side bytes rest text → length rest ≡ 0
    → (packets : List Packet) × AreRecords text packets × AreSent from time side bytes packets now
so_far_end from now time side bytes rest text (packets, are, goes) none = (
  packets,
  are,
  subst (λ (ps : List Packet). AreSent from time side bytes ps now) (append-nil packets)
      (goes [] now (nothing rest none, refl)),
)

-- three records after one another
pub three_records : (a b c : List ℕ) (p q r : Packet) → IsRecord a p → IsRecord b q → IsRecord c r
    → AreRecords ((a ++ b) ++ c) (p ∷ q ∷ r ∷ [])
three_records a b c p q r x y z =
    (a, b ++ c, append_assoc a b c, x, (b, c, refl, y, (c, [], sym (append-nil c), z, refl)))
