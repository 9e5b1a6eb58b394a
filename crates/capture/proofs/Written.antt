-- What is written has the format.
use Rattle.std.proofs.Common.{
  ◌≡◌,
  ℕ,
  ◌+◌,
  ◌*◌,
  ◌%◌,
  ◌<◌,
  ◌^◌,
  List,
  [],
  ◌∷◌,
  ◌++◌,
  length,
  take,
  drop,
  slice_index,
  refl,
  sym,
  ap,
  subst,
  ◌∙◌,
  arith,
}
use Rattle.std.specs.Int.{w16, w32, to_be_bytes}
use Rattle.std.proofs.Math.Seq.{take-append_seam, drop-append_seam, drop-append-add}
use Rattle.std.proofs.lemmas.List.{length-append}
use Rattle.std.proofs.lemmas.Nat.{
  from_be_bytes-to_be_bytes_2,
  from_be_bytes-to_be_bytes_4,
  from_le_bytes-to_le_bytes_4,
}
use Rattle.capture.specs.declared.packet.Hosts.{Hosts}
use Rattle.capture.specs.declared.packet.SegmentHead.{SegmentHead}
use Rattle.capture.specs.declared.packet.Time.{Time}
use Rattle.capture.specs.Checksum.{word_sum, pseudo_sum, IsAllOnes}
use Rattle.capture.specs.Fields.{be16_at, be32_at, le32_at}
use Rattle.capture.specs.Format.{IsSegment, IsChecked, IsV4, IsV6, IsPacket, IsRecord}
use Rattle.capture.specs.Writing.{segment_head, v4_head, v6_head, record_head}

-- ---- a segment

pub is_segment : (head : SegmentHead) (checksum : ℕ) (payload : List ℕ)
    → head.path.from_port < 2 ^ 16 → head.path.to_port < 2 ^ 16 → head.sequence < 2 ^ 32
    → head.acknowledged < 2 ^ 32
    → IsSegment (segment_head head checksum ++ payload) head payload
unfolding segment_head be16_at be32_at
is_segment head checksum payload from to sequence acknowledged = record {
  size = omega arith;
  from_port = from_be_bytes-to_be_bytes_2 head.path.from_port from;
  to_port = from_be_bytes-to_be_bytes_2 head.path.to_port to;
  sequence = from_be_bytes-to_be_bytes_4 head.sequence sequence;
  acknowledged = from_be_bytes-to_be_bytes_4 head.acknowledged acknowledged;
  offset = refl;
  flags = refl;
  content = refl;
}

even_append : (xs ys : List ℕ) → length xs % 2 ≡ 0 → word_sum (xs ++ ys) ≡ word_sum xs + word_sum ys
even_append [] ys even = omega arith
even_append (x ∷ []) ys even = absurd (omega (arith, even))
even_append (x ∷ (y ∷ xs)) ys even = omega (arith, even_append xs ys (omega (arith, even)))

-- a word among words that are zero
word_among : (front payload : List ℕ) (high low : ℕ) → length front % 2 ≡ 0
    → word_sum (front ++ (high ∷ (low ∷ (0 ∷ (0 ∷ payload)))))
    ≡ word_sum (front ++ (0 ∷ (0 ∷ (0 ∷ (0 ∷ []))))) + (high * 256 + low) + word_sum payload
word_among front payload high low even =
    omega (
      arith,
      even_append front (high ∷ (low ∷ (0 ∷ (0 ∷ payload)))) even,
      even_append front (0 ∷ (0 ∷ (0 ∷ (0 ∷ [])))) even,
    )

-- a word of two bytes
word_of : (n : ℕ) → n < 2 ^ 16
    → slice_index (to_be_bytes w16 n) 0 * 256 + slice_index (to_be_bytes w16 n) 1 ≡ n
word_of n small = omega (arith, small)

-- what comes before the checksum
abbrev segment_front : SegmentHead → List ℕ
segment_front head =
    to_be_bytes w16 head.path.from_port
    ++ (to_be_bytes w16 head.path.to_port ++ (to_be_bytes w32 head.sequence
    ++ (to_be_bytes w32 head.acknowledged ++ (0x50 ∷ head.flags.bits ∷ 0xff ∷ 0xff ∷ []))))

segment_words : (head : SegmentHead) (checksum : ℕ) (payload : List ℕ) → checksum < 2 ^ 16
    → word_sum (segment_head head checksum ++ payload)
    ≡ word_sum (segment_head head 0) + checksum + word_sum payload
unfolding segment_head
segment_words head checksum payload small =
    let sum = to_be_bytes w16 checksum in
    word_among (segment_front head) payload (slice_index sum 0) (slice_index sum 1) refl
    ∙ ap (λ (n : ℕ). word_sum (segment_head head 0) + n + word_sum payload) (word_of checksum small)

head_length : (head : SegmentHead) (checksum : ℕ) (payload : List ℕ)
    → length (segment_head head checksum ++ payload) ≡ 20 + length payload
unfolding segment_head
head_length head checksum payload = omega arith

pub is_checked : (hosts : Hosts) (head : SegmentHead) (checksum : ℕ) (payload : List ℕ)
    → checksum < 2 ^ 16
    → IsAllOnes (pseudo_sum hosts (20 + length payload) + word_sum (segment_head head 0)
    + word_sum payload + checksum)
    → IsChecked hosts (segment_head head checksum ++ payload)
is_checked hosts head checksum payload small ones =
    let words = segment_words head checksum payload small in
    let size = head_length head checksum payload in
    let same : pseudo_sum hosts (20 + length payload) + word_sum (segment_head head 0) + word_sum
    payload + checksum
    ≡ pseudo_sum hosts (length (segment_head head checksum ++ payload))
    + word_sum (segment_head head checksum ++ payload) = omega (arith, words, size) in
    subst IsAllOnes same ones

-- ---- a packet of IPv4

four : (xs : List ℕ) → length xs ≡ 4
    → xs ≡ slice_index xs 0 ∷ slice_index xs 1 ∷ slice_index xs 2 ∷ slice_index xs 3 ∷ []
four [] l = absurd (omega (arith, l))
four (a ∷ []) l = absurd (omega (arith, l))
four (a ∷ b ∷ []) l = absurd (omega (arith, l))
four (a ∷ b ∷ c ∷ []) l = absurd (omega (arith, l))
four (a ∷ b ∷ c ∷ d ∷ []) l = refl
four (a ∷ b ∷ c ∷ d ∷ e ∷ xs) l = absurd (omega (arith, l))

v4_words : (s t high low a b c d e f g h : ℕ)
    → word_sum
    (0x45 ∷ 0 ∷ s ∷ t ∷ 0 ∷ 0 ∷ 0x40 ∷ 0 ∷ 64 ∷ 6 ∷ high ∷ low ∷ a ∷ b ∷ c ∷ d ∷ e ∷ f ∷ g ∷ h ∷ [])
    ≡ word_sum (0x45 ∷ 0 ∷ s ∷ t ∷ 0 ∷ 0 ∷ 0x40 ∷ 0 ∷ 64 ∷ 6 ∷ 0 ∷ 0 ∷ [])
    + word_sum (a ∷ b ∷ c ∷ d ∷ []) + word_sum (e ∷ f ∷ g ∷ h ∷ []) + (high * 256 + low)
v4_words s t high low a b c d e f g h = omega arith

plain_v4 : (size checksum a b c d e f g h : ℕ) (segment : List ℕ) → size < 2 ^ 16
    → size ≡ 20 + length segment → checksum < 2 ^ 16
    → IsAllOnes (word_sum (v4_head size 0) + word_sum (a ∷ b ∷ c ∷ d ∷ [])
    + word_sum (e ∷ f ∷ g ∷ h ∷ []) + checksum)
    → IsV4 (v4_head size checksum ++ ((a ∷ b ∷ c ∷ d ∷ []) ++ ((e ∷ f ∷ g ∷ h ∷ []) ++ segment)))
    (a ∷ b ∷ c ∷ d ∷ []) (e ∷ f ∷ g ∷ h ∷ []) segment
unfolding v4_head be16_at
plain_v4 size checksum a b c d e f g h segment small long fits ones =
    let words =
    v4_words (slice_index (to_be_bytes w16 size) 0)
    (slice_index (to_be_bytes w16 size) 1) (slice_index (to_be_bytes w16 checksum) 0)
    (slice_index (to_be_bytes w16 checksum) 1) a b c d e f g h
    ∙ ap (λ (n : ℕ).
    word_sum (v4_head size 0) + word_sum (a ∷ b ∷ c ∷ d ∷ []) + word_sum (e ∷ f ∷ g ∷ h ∷ []) + n)
    (word_of checksum fits) in
    let total = from_be_bytes-to_be_bytes_2 size small in
    record {
      version = refl;
      size = omega arith;
      total =
          total
          ∙ (let e : size ≡ length
          (v4_head size checksum ++ ((a ∷ b ∷ c ∷ d ∷ []) ++ ((e ∷ f ∷ g ∷ h ∷ []) ++ segment))) =
          omega (arith, long) in
          e);
      whole = refl;
      protocol = refl;
      checksum = subst IsAllOnes (sym words) ones;
      source = refl;
      destination = refl;
      content = refl;
    }

pub is_v4 : (size checksum : ℕ) (from to segment : List ℕ) → size < 2 ^ 16
    → size ≡ 20 + length segment → checksum < 2 ^ 16 → length from ≡ 4 → length to ≡ 4
    → IsAllOnes (word_sum (v4_head size 0) + word_sum from + word_sum to + checksum)
    → IsV4 (v4_head size checksum ++ (from ++ (to ++ segment))) from to segment
is_v4 size checksum from to segment small long fits source destination ones =
    let f = four from source in
    let t = four to destination in
    let fs : List ℕ =
    slice_index from 0 ∷ slice_index from 1 ∷ slice_index from 2 ∷ slice_index from 3 ∷ [] in
    let ts : List ℕ =
    slice_index to 0 ∷ slice_index to 1 ∷ slice_index to 2 ∷ slice_index to 3 ∷ [] in
    let front = v4_head size checksum in
    let blank = word_sum (v4_head size 0) in
    let half =
    subst (λ (x : List ℕ). IsAllOnes (blank + word_sum x + word_sum to + checksum)) f ones in
    let whole =
    subst (λ (y : List ℕ). IsAllOnes (blank + word_sum fs + word_sum y + checksum)) t half in
    let plain =
    plain_v4 size checksum (slice_index from 0) (slice_index from 1) (slice_index from 2)
    (slice_index from 3)
    (slice_index to 0) (slice_index to 1) (slice_index to 2) (slice_index to 3) segment small
    long fits whole in
    let one =
    subst (λ (y : List ℕ). IsV4 (front ++ (fs ++ (y ++ segment))) fs y segment) (sym t) plain in
    subst (λ (x : List ℕ). IsV4 (front ++ (x ++ (to ++ segment))) x to segment) (sym f) one

-- ---- a packet of IPv6

sixteen_first : (xs ys : List ℕ) → length xs ≡ 16 → take 16 (xs ++ ys) ≡ xs
sixteen_first xs ys l = ap (λ (n : ℕ). take n (xs ++ ys)) (sym l) ∙ take-append_seam xs ys

behind_sixteen : (xs ys : List ℕ) → length xs ≡ 16 → drop 16 (xs ++ ys) ≡ ys
behind_sixteen xs ys l = ap (λ (n : ℕ). drop n (xs ++ ys)) (sym l) ∙ drop-append_seam xs ys

behind_both : (xs ys zs : List ℕ) → length xs ≡ 16 → length ys ≡ 16
    → drop 32 (xs ++ (ys ++ zs)) ≡ zs
behind_both xs ys zs l m =
    ap (λ (n : ℕ). drop n (xs ++ (ys ++ zs))) (let e : 32 ≡ length xs + 16 = omega (arith, l) in e)
    ∙ drop-append-add xs (ys ++ zs) 16 ∙ behind_sixteen ys zs m

pub is_v6 : (size : ℕ) (from to segment : List ℕ) → size < 2 ^ 16 → size ≡ length segment
    → length from ≡ 16 → length to ≡ 16
    → IsV6 (v6_head size ++ (from ++ (to ++ segment))) from to segment
unfolding v6_head be16_at
is_v6 size from to segment small long source destination =
    let whole : length (from ++ (to ++ segment)) ≡ 32 + length segment = omega
    (arith, length-append from (to ++ segment), length-append to segment, source, destination) in
    let number = from_be_bytes-to_be_bytes_2 size small in
    record {
      version = refl;
      size = omega (arith, whole);
      payload_length =
          ap (λ (n : ℕ). n + 40) number
          ∙ (let e : size + 40 ≡ length (v6_head size ++ (from ++ (to ++ segment))) =
          omega (arith, whole, long) in
          e);
      next_header = refl;
      source = sixteen_first from (to ++ segment) source;
      destination =
          ap (λ (xs : List ℕ). take 16 xs) (behind_sixteen from (to ++ segment) source)
          ∙ sixteen_first to segment destination;
      content = behind_both from to segment source destination;
    }

-- ---- a record

pub is_record : (time : Time) (size : ℕ) (packet_text segment : List ℕ) (head : SegmentHead)
    (payload : List ℕ)
    → time.seconds < 2 ^ 32 → time.micros < 2 ^ 32 → size < 2 ^ 32 → size ≡ length packet_text
    → IsPacket packet_text head.path.hosts segment → IsChecked head.path.hosts segment
    → IsSegment segment head payload
    → IsRecord (record_head time size ++ packet_text)
    (record { time = time; head = head; payload = payload })
unfolding record_head le32_at
is_record time size packet_text segment head payload seconds micros small long is_packet
    is_checked is_segment =
    let number = from_le_bytes-to_le_bytes_4 size small in
    let whole : size + 16 ≡ length (record_head time size ++ packet_text) = omega (arith, long) in
    record {
      size = omega arith;
      seconds = from_le_bytes-to_le_bytes_4 time.seconds seconds;
      micros = from_le_bytes-to_le_bytes_4 time.micros micros;
      kept = ap (λ (n : ℕ). n + 16) number ∙ whole;
      whole = ap (λ (n : ℕ). n + 16) number ∙ whole;
      carries = record {
        segment = segment;
        is_packet = is_packet;
        is_checked = is_checked;
        is_segment = is_segment;
      };
    }
