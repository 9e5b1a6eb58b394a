-- Bytes of a buffer of which all but marked ones are zeros.
use Rattle.std.proofs.Common.{
  ℕ,
  Some,
  ◌≡◌,
  ◌+◌,
  ◌-◌,
  ◌<◌,
  ◌≤◌,
  List,
  [],
  ◌∷◌,
  ◌++◌,
  length,
  take,
  drop,
  get_or,
  replicate,
  refl,
  sym,
  ap,
  ◌∙◌,
  ⊎_elim,
  arith,
  length-append,
}
use Rattle.std.proofs.lemmas.Bool.{cases_lt}
use Rattle.std.proofs.lemmas.List.{
  append-nil,
  append_assoc,
  drop_all,
  drop-drop,
  length-take,
  length-take-le,
  length-replicate,
  get_or_append_left,
  get_or-append_right,
  get_or-take,
  get_or-drop,
  get_or-replicate,
  get_or_default,
  get_or_past,
  same_lists,
}
use Rattle.std.proofs.lemmas.List.Elements.{
  All-nil,
  All-cons,
  All-head,
  All-tail,
  All-push,
  All-pop,
  All-weaker,
}
use Rattle.std.specs.List.{All}
use Rattle.zeros.specs.Marks.{IsOutside, EndsBy, AreZerosOutside}
use Rattle.zeros.specs.declared.marks.Span.{Span}

-- what a write leaves at a place that it doesn't touch
get_or-written : (xs ys zs : List ℕ) (at i : ℕ) → at ≤ length xs → zs ≡ drop (at + length ys) xs
    → (at ≤ i → at + length ys ≤ i) → get_or (take at xs ++ (ys ++ zs)) i 0 ≡ get_or xs i 0
get_or-written xs ys zs at i h ez out =
    let front : length (take at xs) ≡ at = length-take-le at xs h in
    ⊎_elim
    (λ (before : i < at).
    get_or_append_left (take at xs) (ys ++ zs) 0 i (omega (arith, front))
    ∙ get_or-take at xs i 0 before)
    (λ (after : at ≤ i).
    let past : at + length ys ≤ i = out after in
    let back : at + length ys + (i - at - length ys) ≡ i = omega arith in
    get_or-append_right (take at xs) (ys ++ zs) at i 0 front after
    ∙ get_or-append_right ys zs (length ys) (i - at) 0 refl (omega arith)
    ∙ ap (λ (l : List ℕ). get_or l (i - at - length ys) 0) ez
    ∙ get_or-drop (at + length ys) xs (i - at - length ys) 0
    ∙ ap (λ (n : ℕ). get_or xs n 0) back)
    (cases_lt i at)

-- a read of zeros
read_zeros : (n i : ℕ) → get_or {A = ℕ} (replicate n 0) i 0 ≡ 0
read_zeros n i =
    let long : length {A = ℕ} (replicate n 0) ≡ n = length-replicate {A = ℕ} n 0 in
    ⊎_elim
    (λ (within : i < n). get_or-replicate {A = ℕ} n i 0 0 within)
    (λ (past : n ≤ i). get_or_past {X = ℕ} (replicate n 0) i 0 (omega (arith, long)))
    (cases_lt i n)

-- a read of bytes and zeros after them
read_appended : (bytes : List ℕ) (n i : ℕ) → get_or (bytes ++ replicate n 0) i 0 ≡ get_or bytes i 0
read_appended bytes n i =
    ⊎_elim
    (λ (within : i < length bytes). get_or_append_left bytes (replicate n 0) 0 i within)
    (λ (past : length bytes ≤ i).
    get_or-append_right bytes (replicate n 0) (length bytes) i 0 refl past
    ∙ read_zeros n (i - length bytes) ∙ sym (get_or_past bytes i 0 past))
    (cases_lt i (length bytes))

pub ends_later : (marked : List Span) (n m : ℕ) → n ≤ m → All (EndsBy n) marked
    → All (EndsBy m) marked
ends_later marked n m h ends =
    All-weaker (EndsBy n) (EndsBy m) (λ s e. (e.0, omega (arith, e.1))) marked ends

pub outside_after : (marked : List Span) (end i : ℕ) → end ≤ i → All (EndsBy end) marked
    → All (IsOutside i) marked
outside_after marked end i h ends =
    All-weaker (EndsBy end) (IsOutside i) (λ s e _. omega (arith, e.1)) marked ends

-- the places of a span are filled with zeros: xs before, ys in the span after, and zs what follows
-- it
pub wiped_more : (marked : List Span) (span : Span) (xs ys zs : List ℕ) → span.from ≤ span.to
    → span.to ≤ length xs → ys ≡ replicate (span.to - span.from) 0
    → zs ≡ drop (span.to - span.from) (drop span.from xs) → AreZerosOutside (span ∷ marked) xs
    → AreZerosOutside marked (take span.from xs ++ (ys ++ zs))
wiped_more marked span xs ys zs order h ey ez zeros i outside =
    let long : length ys ≡ span.to - span.from =
    ap length ey ∙ length-replicate {A = ℕ} (span.to - span.from) 0 in
    let front : length (take span.from xs) ≡ span.from =
    length-take-le span.from xs (omega arith) in
    let joined : span.from + (span.to - span.from) ≡ span.from + length ys = omega (arith, long) in
    let rest : zs ≡ drop (span.from + length ys) xs =
    ez ∙ drop-drop (span.to - span.from) span.from xs ∙ ap (λ (n : ℕ). drop n xs) joined in
    let kept : IsOutside i span → get_or (take span.from xs ++ (ys ++ zs)) i 0 ≡ 0 =
    λ (out : span.from ≤ i → span.to ≤ i).
    get_or-written xs ys zs span.from i (omega arith) rest
    (λ (le : span.from ≤ i). omega (arith, out le, long))
    ∙ zeros i (All-cons (IsOutside i) span marked out outside) in
    ⊎_elim
    (λ (before : i < span.from). kept (λ (le : span.from ≤ i). omega arith))
    (λ (after : span.from ≤ i).
    ⊎_elim
    (λ (within : i < span.to).
    get_or-append_right (take span.from xs) (ys ++ zs) span.from i 0 front after
    ∙ get_or_append_left ys zs 0 (i - span.from) (omega (arith, long))
    ∙ ap (λ (l : List ℕ). get_or l (i - span.from) 0) ey
    ∙ read_zeros (span.to - span.from) (i - span.from))
    (λ (past : span.to ≤ i). kept (λ (le : span.from ≤ i). past))
    (cases_lt i span.to))
    (cases_lt i span.from)

-- all bytes are zeros
pub all_zeros : (bytes : List ℕ) → AreZerosOutside [] bytes → bytes ≡ replicate (length bytes) 0
all_zeros bytes zeros =
    let long : length {A = ℕ} (replicate (length bytes) 0) ≡ length bytes =
    length-replicate {A = ℕ} (length bytes) 0 in
    same_lists bytes (replicate (length bytes) 0) (sym long)
    (λ (k d : ℕ) (lt : k < length bytes).
    get_or_default bytes k d 0 lt ∙ zeros k (All-nil (IsOutside k))
    ∙ sym (get_or-replicate {A = ℕ} (length bytes) k 0 d lt))

read_take : (len n i : ℕ) → get_or {A = ℕ} (take len (replicate n 0)) i 0 ≡ 0
read_take len n i =
    ⊎_elim
    (λ (within : i < len). get_or-take {A = ℕ} len (replicate n 0) i 0 within ∙ read_zeros n i)
    (λ (past : len ≤ i).
    get_or_past {X = ℕ} (take len (replicate n 0)) i 0
    (omega (arith, length-take {A = ℕ} len (replicate n 0))))
    (cases_lt i len)

-- wiped bytes are written back over all of a list
pub wiped_back : (marked : List Span) (bytes wiped : List ℕ) (len n : ℕ) → wiped ≡ replicate n 0
    → n ≡ length bytes → AreZerosOutside marked (take len (wiped ++ drop (length wiped) bytes))
wiped_back marked bytes wiped len n e h i outside =
    let long : length wiped ≡ n = ap length e ∙ length-replicate {A = ℕ} n 0 in
    let none : drop (length wiped) bytes ≡ [] =
    drop_all (length wiped) bytes (omega (arith, long, h)) in
    let same : take len (wiped ++ drop (length wiped) bytes) ≡ take len (replicate n 0) =
    ap (λ (l : List ℕ). take len (wiped ++ l)) none ∙ ap (take len) (append-nil wiped)
    ∙ ap (take len) e in
    ap (λ (l : List ℕ). get_or l i 0) same ∙ read_take len n i

-- zeros are appended after `end`, from where on all bytes are zeros
pub take_zeros : (bytes : List ℕ) (end n : ℕ) → end ≤ length bytes
    → ((i : ℕ) → end ≤ i → get_or bytes i 0 ≡ 0)
    → take (end + n) (bytes ++ replicate ((end + n) - length bytes) 0)
    ≡ take end bytes ++ replicate n 0
take_zeros bytes end n h zeros =
    let m = (end + n) - length bytes in
    let all = bytes ++ replicate m 0 in
    let tail : length {A = ℕ} (replicate m 0) ≡ m = length-replicate {A = ℕ} m 0 in
    let last : length {A = ℕ} (replicate n 0) ≡ n = length-replicate {A = ℕ} n 0 in
    let long : length all ≡ length bytes + m =
    length-append bytes (replicate m 0) ∙ ap (λ (k : ℕ). length bytes + k) tail in
    let left : length (take (end + n) all) ≡ end + n =
    length-take-le (end + n) all (omega (arith, long)) in
    let front : length (take end bytes) ≡ end = length-take-le end bytes h in
    let right : length (take end bytes ++ replicate n 0) ≡ end + n =
    omega (arith, length-append (take end bytes) (replicate n 0), front, last) in
    same_lists (take (end + n) all) (take end bytes ++ replicate n 0) (left ∙ sym right)
    (λ (k d : ℕ) (lt : k < length (take (end + n) all)).
    let within : k < end + n = omega (arith, left) in
    ⊎_elim
    (λ (before : k < end).
    get_or-take (end + n) all k d within
    ∙ get_or_append_left bytes (replicate m 0) d k (omega arith)
    ∙ sym (get_or_append_left (take end bytes) (replicate n 0) d k (omega (arith, front))
    ∙ get_or-take end bytes k d before))
    (λ (after : end ≤ k).
    get_or-take (end + n) all k d within
    ∙ get_or_default all k d 0 (omega (arith, long))
    ∙ read_appended bytes m k
    ∙ zeros k after
    ∙ sym (get_or-append_right (take end bytes) (replicate n 0) end k d front after
    ∙ get_or-replicate {A = ℕ} n (k - end) 0 d (omega arith)))
    (cases_lt k end))

-- bytes are written from `at` on
pub written_outside : (marked both : List Span) (xs ys : List ℕ) (at : ℕ) → at ≤ length xs
    → ((i : ℕ) → All (IsOutside i) both → at ≤ i → at + length ys ≤ i)
    → ((i : ℕ) → All (IsOutside i) both → All (IsOutside i) marked) → AreZerosOutside marked xs
    → AreZerosOutside both (take at xs ++ ys ++ drop (at + length ys) xs)
written_outside marked both xs ys at h past kept zeros i outside =
    ap (λ (l : List ℕ). get_or l i 0) (append_assoc (take at xs) ys (drop (at + length ys) xs))
    ∙ get_or-written xs ys (drop (at + length ys) xs) at i h refl (past i outside)
    ∙ zeros i (kept i outside)

-- the bytes reach past those that are written
pub long_written : (xs ys : List ℕ) (at : ℕ) → at ≤ length xs
    → at + length ys ≤ length (take at xs ++ ys ++ drop (at + length ys) xs)
long_written xs ys at h =
    omega (
      arith,
      length-append (take at xs ++ ys) (drop (at + length ys) xs),
      length-append (take at xs) ys,
      length-take-le at xs h,
    )

-- the last span is made longer
pub longer_ends : (last span : Span) (earlier : List Span) (from to : ℕ) → from ≤ to
    → span.from ≡ last.from → span.to ≡ to → All (EndsBy from) (last ∷ earlier)
    → All (EndsBy to) (span ∷ earlier)
longer_ends last span earlier from to h ef et ends =
    let head : EndsBy from last = All-head (EndsBy from) last earlier ends in
    All-cons (EndsBy to) span earlier (omega (arith, head.0, head.1), omega arith)
    (ends_later earlier from to h (All-tail (EndsBy from) last earlier ends))

pub longer_kept : (last span : Span) (earlier : List Span) (from to i : ℕ) → from ≤ to
    → span.from ≡ last.from → span.to ≡ to → All (EndsBy from) (last ∷ earlier)
    → All (IsOutside i) (span ∷ earlier) → All (IsOutside i) (last ∷ earlier)
longer_kept last span earlier from to i h ef et ends outside =
    let head : EndsBy from last = All-head (EndsBy from) last earlier ends in
    let out : IsOutside i span = All-head (IsOutside i) span earlier outside in
    All-cons (IsOutside i) last earlier
    (λ (le : last.from ≤ i). let past : span.to ≤ i = out (omega arith) in omega (arith, head.1))
    (All-tail (IsOutside i) span earlier outside)

-- a span is added
pub added_ends : (last span : Span) (earlier now : List Span) (from to : ℕ) → from ≤ to
    → span.from ≡ from → span.to ≡ to → now ≡ earlier ++ last ∷ []
    → All (EndsBy from) (last ∷ earlier) → All (EndsBy to) (span ∷ now)
added_ends last span earlier now from to h ef et e ends =
    let all : All (EndsBy to) (last ∷ earlier) = ends_later (last ∷ earlier) from to h ends in
    rw e (All-cons (EndsBy to) span (earlier ++ last ∷ []) (omega arith, omega arith) (All-push
    (EndsBy to) earlier last (All-tail (EndsBy to) last earlier all)
    (All-head (EndsBy to) last earlier all)))

pub added_kept : (last span : Span) (earlier now : List Span) (i : ℕ) → now ≡ earlier ++ last ∷ []
    → All (IsOutside i) (span ∷ now) → All (IsOutside i) (last ∷ earlier)
added_kept last span earlier now i e outside =
    let parts =
    All-pop (IsOutside i) now earlier (Some last) e (All-tail (IsOutside i) span now outside) in
    All-cons (IsOutside i) last earlier parts.1 parts.0
