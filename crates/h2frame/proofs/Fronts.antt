-- What is read at the front of bytes stands there.
use Rattle.std.proofs.Common.{
  ◌≡◌,
  ℕ,
  ◌+◌,
  ◌-◌,
  ◌<◌,
  ◌≤◌,
  Bool,
  true,
  false,
  cond,
  ltb,
  List,
  ◌∷◌,
  ◌++◌,
  length,
  get_or,
  take,
  drop,
  refl,
  sym,
  ap,
  subst,
  ◌∙◌,
  append_assoc,
  arith,
  inl,
  inr,
}
use Rattle.std.specs.Prelude.{Option, Some, None, Result, Ok, Err}
use Rattle.std.proofs.lemmas.Bool.{cond_both, ltb-true, ltb-false}
use Rattle.std.proofs.lemmas.List.{
  take-append-drop,
  drop-drop,
  length-take,
  length-drop,
  get_or-take,
  get_or-drop,
  drop_more,
}
use Rattle.h2frame.specs.declared.fault.FrameFault.{FrameFault}
use Rattle.h2frame.specs.declared.fault.FrameFault.TheVariants.{
  TooLong,
  BadLength,
  BadPadding,
  WrongStream,
}
use Rattle.h2frame.specs.declared.frame.FrameHead.{FrameHead}
use Rattle.h2frame.specs.declared.span.Span.{Span}
use Rattle.h2frame.specs.Flags.{is_padded, has_priority}
use Rattle.h2frame.specs.Faults.{max_payload, may_be_on, may_have_length, overhead, head_fault}
use Rattle.h2frame.specs.Spelling.{SkippedParts, IsHead, Fits, head_text, spelling}
use Rattle.h2frame.specs.FrameList.{BeginsWith, HasFaultyHead, IsOverpadded, IsFaulty}
use Rattle.h2frame.specs.Reading.{
  head_at,
  padding_at,
  content_at,
  unless_faulty,
  frame_at,
  span_at,
  IsFront,
}
use Rattle.h2frame.proofs.Heads.{AreBytes, begins}
use Rattle.h2frame.proofs.Payloads.{room, Parts, parts, within}

-- ---- a fault of the head

pub head_faults : (long placed sized : Bool) (P : FrameFault → Type 0) (fault : FrameFault)
    → cond long (Some TooLong) (cond placed (cond sized None (Some BadLength)) (Some WrongStream))
    ≡ Some fault
    → (fault ≡ TooLong → P TooLong) → (fault ≡ BadLength → P BadLength)
    → (fault ≡ WrongStream → P WrongStream) → P fault
head_faults true placed sized P fault e t l w =
    let same : fault ≡ TooLong = cc in
    subst P (sym same) (t same)
head_faults false true true P fault e t l w = absurd cc
head_faults false true false P fault e t l w =
    let same : fault ≡ BadLength = cc in
    subst P (sym same) (l same)
head_faults false false sized P fault e t l w =
    let same : fault ≡ WrongStream = cc in
    subst P (sym same) (w same)

pub faulty_head : (fault : FrameFault) (bytes : List ℕ) → HasFaultyHead fault bytes
    → IsFaulty fault bytes
faulty_head fault bytes h =
    let stands = λ (f : FrameFault). λ (e : fault ≡ f).
    subst (λ (g : FrameFault). HasFaultyHead g bytes) e h in
    head_faults (ltb max_payload h.0.length) (may_be_on h.0.kind h.0.stream)
    (may_have_length h.0.kind h.0) (λ (f : FrameFault). IsFaulty f bytes) fault h.3 (stands TooLong)
    (stands BadLength) (stands WrongStream)

-- ---- a head without a fault

one_since : (p q : Bool) (l : ℕ) → cond p 1 0 + cond q 5 0 ≤ l → p ≡ true → 0 < l
one_since true q l le e = omega arith
one_since false q l le e = absurd cc

padding_within : (p : Bool) (bytes : List ℕ) (l : ℕ) → (p ≡ true → 0 < l)
    → cond p (get_or bytes 9 0) 0 ≡ cond p (get_or (take l (drop 9 bytes)) 0 0) 0
padding_within true bytes l one =
    sym (get_or-take l (drop 9 bytes) 0 0 (one refl) ∙ get_or-drop 9 bytes 0 0)
padding_within false bytes l one = refl

padded_since : (p : Bool) (o l x : ℕ) → o ≤ l → l < o + cond p x 0 → (p ≡ true) × (l < o + x)
padded_since true o l x le lt = (refl, lt)
padded_since false o l x le lt = absurd (omega arith)

overpadded : (head : FrameHead) (bytes : List ℕ) → BeginsWith bytes head (drop 9 bytes)
    → head_fault head ≡ None → 9 + head.length ≤ length bytes
    → head.length < overhead head + padding_at head bytes → IsOverpadded bytes
overpadded head bytes begun fine whole less =
    let padded =
    padded_since (is_padded head) (overhead head) head.length (get_or bytes 9 0)
    (room head fine) less in
    let one : 0 < head.length =
    one_since (is_padded head) (has_priority head) head.length (room head fine) padded.0 in
    let cells : drop 9 bytes ≡ get_or bytes 9 0 ∷ drop 10 bytes =
    drop_more bytes 9 0 (omega arith) in (
      head,
      get_or bytes 9 0,
      drop 10 bytes,
      subst (λ (after : List ℕ). BeginsWith bytes head after) cells begun,
      fine,
      padded.0,
      omega (arith, length-drop 10 bytes),
      padded.1,
    )

fits_parts : (head : FrameHead) (payload content : List ℕ) (reserved : ℕ)
    (q : Parts (is_padded head) (has_priority head) payload content)
    → IsHead head → reserved < 2 → length payload ≡ head.length
    → Fits (record { head = head; content = content })
    (record { reserved = reserved; priority = q.priority; padding = q.padding })
fits_parts head payload content reserved q fine low size =
    record {
      head = fine;
      reserved = low;
      priority = q.priority_length;
      padding = q.no_padding;
      payload = ap length (sym q.text) ∙ size;
    }

text_parts : (head : FrameHead) (payload content rest bytes : List ℕ) (reserved : ℕ)
    (q : Parts (is_padded head) (has_priority head) payload content)
    → bytes ≡ (head_text reserved head ++ payload) ++ rest
    → bytes
    ≡ spelling (record { head = head; content = content }) (record {
      reserved = reserved;
      priority = q.priority;
      padding = q.padding;
    }) ++ rest
text_parts head payload content rest bytes reserved q e =
    e ∙ ap (λ (ys : List ℕ). (head_text reserved head ++ ys) ++ rest) q.text

-- bytes that were cut behind so many
cut_text : (first after rest : List ℕ) (n : ℕ) → drop n after ≡ rest
    → first ++ after ≡ (first ++ take n after) ++ rest
cut_text first after rest n e =
    ap (λ (ys : List ℕ). first ++ ys)
    (sym (take-append-drop n after) ∙ ap (λ (ys : List ℕ). take n after ++ ys) e)
    ∙ sym (append_assoc first (take n after) rest)

spelled_at : (head : FrameHead) (bytes : List ℕ) → BeginsWith bytes head (drop 9 bytes)
    → head_fault head ≡ None → 9 + head.length ≤ length bytes
    → overhead head + padding_at head bytes ≤ head.length
    → IsFront bytes (Some (Ok (record {
      head = head;
      start = 9 + overhead head;
      len = head.length - (overhead head + padding_at head bytes);
    })))
spelled_at head bytes begun fine whole le =
    let o = overhead head in
    let n = padding_at head bytes in
    let m = head.length - (o + n) in
    let after = drop 9 bytes in
    let payload = take head.length after in
    let size : length payload ≡ head.length =
    omega (arith, length-take head.length after, length-drop 9 bytes) in
    let p : Parts (is_padded head) (has_priority head) payload (take m (drop o payload)) =
    parts (is_padded head) (has_priority head) payload n o m (padding_within (is_padded head) bytes
    head.length (one_since (is_padded head) (has_priority head) head.length (room head fine))) refl
    (omega (arith, size)) in
    let content : take m (drop o payload) ≡ take m (drop (9 + o) bytes) =
    within after o m head.length (omega arith)
    ∙ ap (λ (ys : List ℕ). take m ys) (drop-drop o 9 bytes) in
    let q : Parts (is_padded head) (has_priority head) payload (take m (drop (9 + o) bytes)) =
    subst (λ (c : List ℕ). Parts (is_padded head) (has_priority head) payload c) content p in
    let skipped : SkippedParts =
    record { reserved = begun.0; priority = q.priority; padding = q.padding } in
    let rest = drop (9 + head.length) bytes in
    let text : bytes ≡ (head_text begun.0 head ++ payload) ++ rest =
    begun.3
    ∙ cut_text (head_text begun.0 head) after rest head.length (drop-drop head.length 9 bytes) in (
      skipped,
      fits_parts head payload (take m (drop (9 + o) bytes)) begun.0 q begun.2 begun.1 size,
      fine,
      text_parts head payload (take m (drop (9 + o) bytes)) rest bytes begun.0 q text,
    )

content_front : (head : FrameHead) (bytes : List ℕ) → BeginsWith bytes head (drop 9 bytes)
    → head_fault head ≡ None → 9 + head.length ≤ length bytes
    → IsFront bytes (Some (content_at head bytes))
unfolding content_at
content_front head bytes begun fine whole =
    cond_both (ltb head.length (overhead head + padding_at head bytes))
    (Err BadPadding) (Ok (record {
      head = head;
      start = 9 + overhead head;
      len = head.length - (overhead head + padding_at head bytes);
    }))
    (λ (r : Result Span FrameFault). IsFront bytes (Some r))
    (λ less. overpadded head bytes begun fine whole (ltb-true _ _ less))
    (λ enough. spelled_at head bytes begun fine whole (ltb-false _ _ enough))

head_front : (head : FrameHead) (bytes : List ℕ) → 9 ≤ length bytes
    → BeginsWith bytes head (drop 9 bytes) → (fault : Option FrameFault) → head_fault head ≡ fault
    → IsFront bytes (unless_faulty fault
    (cond (ltb (length bytes) (9 + head.length)) None (Some (content_at head bytes))))
head_front head bytes nine begun (Some fault) e =
    faulty_head fault bytes (head, drop 9 bytes, begun, e)
head_front head bytes nine begun None e =
    cond_both (ltb (length bytes) (9 + head.length)) None
    (Some (content_at head bytes)) (IsFront bytes)
    (λ short.
    inr (head, drop 9 bytes, begun, e, omega (arith, ltb-true _ _ short, length-drop 9 bytes)))
    (λ whole. content_front head bytes begun e (ltb-false _ _ whole))

-- the same of bytes that have a head
pub front_long : (bytes : List ℕ) → 9 ≤ length bytes → AreBytes bytes
    → IsFront bytes (frame_at (head_at bytes) bytes)
unfolding frame_at
front_long bytes long fits =
    head_front (head_at bytes) bytes long (begins bytes long fits) (head_fault (head_at bytes)) refl

pub front : (bytes : List ℕ) → AreBytes bytes → IsFront bytes (span_at bytes)
unfolding span_at
front bytes fits =
    cond_both (ltb (length bytes) 9) None (frame_at (head_at bytes) bytes) (IsFront bytes)
    (λ short. inl (ltb-true _ _ short))
    (λ long. front_long bytes (ltb-false _ _ long) fits)
