-- On the writer of Huffman texts: the bits of what is written and of the register are the codes of
-- the octets so far.
use Rattle.std.proofs.Common.{
  ◌≡◌,
  ℕ,
  zero,
  suc,
  ◌+◌,
  ◌-◌,
  ◌*◌,
  ◌/◌,
  ◌%◌,
  ◌^◌,
  ◌<◌,
  ◌≤◌,
  List,
  [],
  ◌∷◌,
  ◌++◌,
  length,
  take,
  get_or,
  refl,
  sym,
  subst,
  ◌∙◌,
  ap,
  arith,
  append_assoc,
  length-append,
  replicate,
  lit<,
}
use Rattle.std.specs.List.{flat_map}
use Rattle.std.proofs.lemmas.List.{append-nil, length-replicate, take_more, take_all}
use Rattle.std.proofs.lemmas.Grind.{flat_map-append}
use Rattle.std.proofs.lemmas.Nat.{pow_pos, shr_high, mod_below, mul-add-lt, pow-add, div_below}
use Rattle.std.proofs.Math.Nat.{pow-le-pow_right}
use Rattle.hpack_codec.specs.Huffman.{bits, code, code_length, code_number, IsPadding, AreOctets}
use Rattle.hpack_codec.specs.Reading.{Appends, Flushes, IsTextOf, text_length}
use Rattle.hpack_codec.proofs.Bits.{length-bits, bits-add, bits_low, bits-mod}
use Rattle.hpack_codec.proofs.HuffmanTable.{code_facts}
use Rattle.hpack_codec.proofs.Huffmans.{length-code, AreOctets-push, ones_bits}

-- the bits of two numbers, one behind the other
joined : (count len register number : ℕ) → number < 2 ^ len
    → bits (count + len) (register * 2 ^ len + number) ≡ bits count register ++ bits len number
joined count len register number fits =
    bits-add count len (register * 2 ^ len + number)
    ∙ ap (λ n. bits count n ++ bits len (register * 2 ^ len + number))
    (shr_high register len number fits)
    ∙ ap (λ tail. bits count register ++ tail) (bits_low len register number)

flat_map-push : (h : ℕ → List ℕ) (xs : List ℕ) (x : ℕ)
    → flat_map h (xs ++ x ∷ []) ≡ flat_map h xs ++ h x
flat_map-push h xs x =
    flat_map-append h xs (x ∷ []) ∙ ap (λ (tail : List ℕ). flat_map h xs ++ tail) (append-nil (h x))

-- Bytes were moved from a register to a list; more may stand in it.
pub record IsFlushing (old new : List ℕ) (count register left_count left : ℕ) : Type 0 where
  pub moved : List ℕ
  pub new_is : new ≡ old ++ moved
  pub register_is : bits count register ≡ flat_map (bits 8) moved ++ bits left_count left
  pub bound : left < 2 ^ left_count
  pub shorter : left_count ≤ count

pub flushes_none : (old : List ℕ) (count register : ℕ) → register < 2 ^ count
    → IsFlushing old old count register count register
flushes_none old count register small = record {
  moved = [];
  new_is = sym (append-nil old);
  register_is = refl;
  bound = small;
  shorter = omega arith;
}

-- the first byte of a register fits
pub byte_fits : (count register : ℕ) → 8 ≤ count → register < 2 ^ count
    → register / 2 ^ (count - 8) < 256
byte_fits count register long small = div_below register (2 ^ (count - 8)) 256 (pow_pos (count - 8))
    (subst (λ (n : ℕ). register < n)
    (ap (λ n. 2 ^ n) (let e : count ≡ 8 + (count - 8) = omega (arith, long) in e)
    ∙ pow-add 2 8 (count - 8)) small)

-- one byte more
pub flushes_more : (old new : List ℕ) (n r count register byte span : ℕ)
    → IsFlushing old new n r count register → 8 ≤ count → byte ≡ register / 2 ^ (count - 8)
    → span ≡ 2 ^ (count - 8) → IsFlushing old (new ++ byte ∷ []) n r (count - 8) (register % span)
flushes_more old new n r count register byte span f long byte_is span_is =
    let k : ℕ = count - 8 in
    let low : bits k (register % span) ≡ bits k register =
    ap (λ m. bits k (register % m)) span_is ∙ bits-mod k register in
    let front : bits count register ≡ bits 8 byte ++ bits k (register % span) =
    ap (λ n. bits n register) (let e : count ≡ 8 + (count - 8) = omega (arith, long) in e)
    ∙ bits-add 8 k register
    ∙ ap (λ m. bits 8 m ++ bits k register) (sym byte_is)
    ∙ ap (λ (tail : List ℕ). bits 8 byte ++ tail) (sym low) in
    record {
      moved = f.moved ++ byte ∷ [];
      new_is =
          ap (λ (front : List ℕ). front ++ byte ∷ []) f.new_is
          ∙ append_assoc old f.moved (byte ∷ []);
      register_is = f.register_is ∙ ap (λ (tail : List ℕ). flat_map (bits 8) f.moved ++ tail) front
          ∙ sym (append_assoc (flat_map (bits 8) f.moved) (bits 8 byte) (bits k (register % span)))
          ∙ ap (λ (front : List ℕ). front ++ bits k (register % span))
          (sym (flat_map-push (bits 8) f.moved byte));
      bound =
          subst (λ (m : ℕ). register % m < 2 ^ k) (sym span_is)
          (mod_below register (2 ^ k) (pow_pos k));
      shorter = omega (arith, f.shorter);
    }

pub flushed : (old new : List ℕ) (n r count register : ℕ) → IsFlushing old new n r count register
    → count < 8 → Flushes old new n r count register
flushed old new n r count register f short = record {
  moved = f.moved;
  new_is = f.new_is;
  register_is = f.register_is;
  bound = f.bound;
  short = short;
}

-- What is written and what is left in the register are the codes of these octets.
pub record IsSpelling (old new octets : List ℕ) (count register : ℕ) : Type 0 where
  pub text : List ℕ
  pub new_is : new ≡ old ++ text
  pub spelled : flat_map code octets ≡ flat_map (bits 8) text ++ bits count register
  pub bound : register < 2 ^ count
  pub short : count < 8
  pub are_octets : AreOctets octets

pub spells_none : (old : List ℕ) → IsSpelling old old [] 0 0
unfolding bits AreOctets
spells_none old = record {
  text = [];
  new_is = sym (append-nil old);
  spelled = refl;
  bound = lit< tt;
  short = lit< tt;
  are_octets = tt;
}

-- a register with one code more
register_fits : (count len register span number : ℕ) → register < 2 ^ count → number < 2 ^ len
    → span ≡ 2 ^ len → register * span + number < 2 ^ (count + len)
register_fits count len register span number small fits span_is =
    let place : register * 2 ^ len + number < 2 ^ len * 2 ^ count =
    mul-add-lt register (2 ^ len) number (2 ^ count) small fits in
    let here : register * span + number < 2 ^ len * 2 ^ count =
    subst (λ (n : ℕ). register * n + number < 2 ^ len * 2 ^ count) (sym span_is) place in
    omega (arith, here, pow-add 2 count len)

pub code_short : (octet len : ℕ) → octet < 256 → len ≡ code_length octet → len ≤ 30
code_short octet len octet_is len_is = omega (arith, len_is, (code_facts octet octet_is).high)

pub record HasRoom (count len register span number : ℕ) : Type 0 where
  pub sum : register * span + number < 2 ^ 64
  pub fits : register * span + number < 2 ^ (count + len)

pub has_room : (octet count len register span number : ℕ) → octet < 256 → number ≡ code_number octet
    → len ≡ code_length octet → span ≡ 2 ^ len
    → register < 2 ^ count → count < 8 → HasRoom count len register span number
has_room octet count len register span number octet_is number_is len_is span_is small short =
    let below : number < 2 ^ len =
    subst (λ (n : ℕ). n < 2 ^ len) (sym number_is)
    (subst (λ (n : ℕ). code_number octet < 2 ^ n) (sym len_is) (code_facts octet octet_is).fits) in
    let fits : register * span + number < 2 ^ (count + len) =
    register_fits count len register span number small below span_is in
    record {
      sum = omega (
        arith,
        fits,
        pow-le-pow_right {n = 2} (lit< tt)
            (let h : count + len ≤ 63 = omega (
              arith,
              short,
              code_short octet len octet_is len_is,
            ) in h),
      );
      fits = fits;
    }

spelled_more : (octets all moved text : List ℕ)
    (octet count register span number len left_count left : ℕ)
    → octet < 256 → number ≡ code_number octet → len ≡ code_length octet
    → span ≡ 2 ^ len → flat_map code octets ≡ flat_map (bits 8) text ++ bits count register
    → bits (count + len) (register * span + number)
    ≡ flat_map (bits 8) moved ++ bits left_count left
    → flat_map code (octets ++ octet ∷ [])
    ≡ flat_map (bits 8) (text ++ moved) ++ bits left_count left
unfolding code
spelled_more octets all moved text octet count register span number len left_count left octet_is
    number_is len_is span_is spelled flushes =
    let coded : bits (code_length octet) (code_number octet) ≡ bits len number =
    ap (λ n. bits n (code_number octet)) (sym len_is) ∙ ap (bits len) (sym number_is) in
    let fits : number < 2 ^ len =
    subst (λ (n : ℕ). n < 2 ^ len) (sym number_is)
    (subst (λ (n : ℕ). code_number octet < 2 ^ n) (sym len_is) (code_facts octet octet_is).fits) in
    let whole : bits count register ++ bits len number ≡ flat_map (bits 8) moved
    ++ bits left_count left =
    sym (joined count len register number fits)
    ∙ ap (λ n. bits (count + len) (register * n + number)) (sym span_is) ∙ flushes in
    flat_map-push code octets octet
    ∙ ap (λ (front : List ℕ). front ++ bits (code_length octet) (code_number octet)) spelled
    ∙ append_assoc (flat_map (bits 8) text) (bits count register)
    (bits (code_length octet) (code_number octet))
    ∙ ap (λ (tail : List ℕ). flat_map (bits 8) text ++ (bits count register ++ tail)) coded
    ∙ ap (λ (tail : List ℕ). flat_map (bits 8) text ++ tail) whole
    ∙ sym (append_assoc (flat_map (bits 8) text) (flat_map (bits 8) moved) (bits left_count left))
    ∙ ap (λ (front : List ℕ). front ++ bits left_count left)
    (sym (flat_map-append (bits 8) text moved))

-- one octet more
pub spells_more : (old mid new all : List ℕ)
    (i octet count register span number len left_count left : ℕ)
    → i < length all → octet ≡ get_or all i 0 → octet < 256
    → number ≡ code_number octet → len ≡ code_length octet → span ≡ 2 ^ len
    → IsSpelling old mid (take i all) count register
    → Flushes mid new (count + len) (register * span + number) left_count left
    → IsSpelling old new (take (i + 1) all) left_count left
spells_more old mid new all i octet count register span number len left_count left h is octet_is
    number_is len_is span_is s f =
    let next : take (i + 1) all ≡ take i all ++ octet ∷ [] =
    take_more all i 0 h ∙ ap (λ n. take i all ++ n ∷ []) (sym is) in
    record {
      text = s.text ++ f.moved;
      new_is =
          f.new_is ∙ ap (λ (front : List ℕ). front ++ f.moved) s.new_is
          ∙ append_assoc old s.text f.moved;
      spelled = ap (flat_map code) next
          ∙ spelled_more (take i all) all f.moved s.text octet count register span number len
          left_count left octet_is number_is len_is span_is s.spelled f.register_is;
      bound = f.bound;
      short = f.short;
      are_octets =
          subst AreOctets (sym next) (AreOctets-push (take i all) octet s.are_octets octet_is);
    }

length-bytes : (text : List ℕ) → length (flat_map (bits 8) text) ≡ 8 * length text
length-bytes [] = refl
length-bytes (byte ∷ text) =
    length-append (bits 8 byte) (flat_map (bits 8) text)
    ∙ ap (λ n. n + length (flat_map (bits 8) text)) (length-bits 8 byte)
    ∙ ap (λ n. 8 + n) (length-bytes text) ∙ eight_more (length text)
  where
    eight_more : (n : ℕ) → 8 + 8 * n ≡ 8 * suc n
    eight_more n = omega arith

length_is : (text octets padding : List ℕ)
    → flat_map (bits 8) text ≡ flat_map code octets ++ padding → length padding < 8
    → length text ≡ text_length octets
unfolding text_length
length_is text octets padding e short =
    rounded (length text) (length (flat_map code octets)) (length padding)
    (sym (length-bytes text) ∙ ap length e ∙ length-append (flat_map code octets) padding) short
  where
    rounded : (t l p : ℕ) → 8 * t ≡ l + p → p < 8 → t ≡ (l + 7) / 8
    rounded t l p e h = omega arith

text_of : (text octets padding : List ℕ) → flat_map (bits 8) text ≡ flat_map code octets ++ padding
    → IsPadding padding → AreOctets octets → IsTextOf text octets
text_of text octets padding e p a = (
  record {
    padding = padding;
    spelling = e;
    is_padding = p;
    are_octets = a;
  },
  length_is text octets padding e p.short,
)

-- at the end nothing is left
pub spells_all : (old new all : List ℕ) (i count register : ℕ) → length all ≤ i
    → IsSpelling old new (take i all) count register → count ≡ 0
    → Appends old new (λ text. IsTextOf text all)
unfolding bits
spells_all old new all i zero register h s none = (
  s.text,
  s.new_is,
  text_of s.text all []
      (sym (append-nil (flat_map (bits 8) s.text)) ∙ sym s.spelled
      ∙ ap (flat_map code) (take_all i all h) ∙ sym (append-nil (flat_map code all)))
      (record { short = lit< tt; ones = refl }) (subst AreOctets (take_all i all h) s.are_octets),
)
spells_all old new all i (suc count) register h s none = absurd (omega (arith, none))

ones_padding : (n : ℕ) → n < 8 → IsPadding (replicate n 1)
ones_padding n h = record {
  short = subst (λ (k : ℕ). k < 8) (sym (length-replicate n 1)) h;
  ones = ap (λ k. replicate k 1) (sym (length-replicate n 1));
}

-- or the last byte is filled up with ones
pub spells_padded : (old new all : List ℕ) (i count register span byte : ℕ) → length all ≤ i
    → IsSpelling old new (take i all) count register → 0 < count
    → span ≡ 2 ^ (8 - count) → byte ≡ register * span + (span - 1)
    → Appends old (new ++ byte ∷ []) (λ text. IsTextOf text all)
spells_padded old new all i count register span byte h s some span_is byte_is =
    let k : ℕ = 8 - count in
    let value : byte ≡ register * 2 ^ k + (2 ^ k - 1) =
    byte_is ∙ ap (λ n. register * n + (n - 1)) span_is in
    let last : bits 8 byte ≡ bits count register ++ replicate k 1 =
    ap (λ n. bits n byte) (let e : 8 ≡ count + (8 - count) = omega (arith, s.short) in e)
    ∙ ap (bits (count + k)) value
    ∙ joined count k register (2 ^ k - 1) (omega (arith, pow_pos k))
    ∙ ap (λ (tail : List ℕ). bits count register ++ tail) (ones_bits k) in (
      s.text ++ byte ∷ [],
      ap (λ (front : List ℕ). front ++ byte ∷ []) s.new_is ∙ append_assoc old s.text (byte ∷ []),
      text_of (s.text ++ byte ∷ []) all (replicate k 1)
          (flat_map-push (bits 8) s.text byte
          ∙ ap (λ (tail : List ℕ). flat_map (bits 8) s.text ++ tail) last
          ∙ sym (append_assoc (flat_map (bits 8) s.text) (bits count register) (replicate k 1))
          ∙ ap (λ (front : List ℕ). front ++ replicate k 1)
          (sym s.spelled ∙ ap (flat_map code) (take_all i all h)))
          (ones_padding k (omega (arith, some))) (subst AreOctets (take_all i all h) s.are_octets),
    )

-- the last byte fits
pub last_fits : (count register span : ℕ) → register < 2 ^ count → count < 8 → 0 < count
    → span ≡ 2 ^ (8 - count) → register * span + (span - 1) < 256
last_fits count register span small short some span_is =
    let place : register * 2 ^ (8 - count) + (2 ^ (8 - count) - 1) < 2 ^ (8 - count) * 2 ^ count =
    mul-add-lt register (2 ^ (8 - count)) (2 ^ (8 - count) - 1) (2 ^ count) small
    (omega (arith, pow_pos (8 - count))) in
    let whole : 2 ^ (8 - count) * 2 ^ count ≡ 2 ^ 8 =
    sym (pow-add 2 (8 - count) count)
    ∙ ap (λ n. 2 ^ n) (let e : 8 - count + count ≡ 8 = omega (arith, short) in e) in
    let here : register * span + (span - 1) < 2 ^ (8 - count) * 2 ^ count =
    subst (λ (n : ℕ). register * n + (n - 1) < 2 ^ (8 - count) * 2 ^ count) (sym span_is) place in
    omega (arith, here, whole)

-- on the length: the bits of one octet more
pub counts_more : (all : List ℕ) (i octet len sum : ℕ) → i < length all → octet ≡ get_or all i 0
    → octet < 256 → len ≡ code_length octet
    → sum ≡ length (flat_map code (take i all))
    → (sum + len ≡ length (flat_map code (take (i + 1) all))) × (len ≤ 30)
counts_more all i octet len sum h is octet_is len_is sum_is = (
  ap (λ n. n + len) sum_is
      ∙ ap (λ n. length (flat_map code (take i all)) + n) (len_is ∙ sym (length-code octet))
      ∙ sym (length-append (flat_map code (take i all)) (code octet))
      ∙ ap length (sym (flat_map-push code (take i all) octet))
      ∙ ap (λ (front : List ℕ). length (flat_map code front))
      (sym (take_more all i 0 h ∙ ap (λ n. take i all ++ n ∷ []) (sym is))),
  omega (arith, len_is, (code_facts octet octet_is).high),
)

pub counted : (all : List ℕ) (i sum : ℕ) → length all ≤ i
    → sum ≡ length (flat_map code (take i all)) → (sum + 7) / 8 ≡ text_length all
unfolding text_length
counted all i sum h is =
    ap (λ n. (n + 7) / 8)
    (is ∙ ap (λ (front : List ℕ). length (flat_map code front)) (take_all i all h))
