-- On Huffman texts: bits are the codes of one list of octets at most.
use Rattle.std.proofs.Common.{
  ◌≡◌,
  ℕ,
  zero,
  suc,
  ◌+◌,
  ◌-◌,
  ◌*◌,
  ◌/◌,
  ◌%◌,
  ◌^◌,
  ◌<◌,
  ◌≤◌,
  List,
  [],
  ◌∷◌,
  ◌++◌,
  length,
  take,
  drop,
  get_or,
  refl,
  sym,
  subst,
  ◌∙◌,
  ap,
  inl,
  inr,
  arith,
  append_assoc,
  length-append,
  replicate,
  lit<,
}
use Rattle.std.specs.List.{flat_map}
use Rattle.std.proofs.lemmas.Bool.{cases_lt, cases_order}
use Rattle.std.proofs.lemmas.List.{
  append-nil,
  replicate-append-replicate,
  length-replicate,
  take_more,
  take_all,
  take-append-drop,
}
use Rattle.std.proofs.lemmas.Grind.{flat_map-append}
use Rattle.std.proofs.lemmas.Nat.{pow_pos, shr_high, mod_below, mul-add-lt, pow-add}
use Rattle.std.proofs.Math.Nat.{pow-suc}
use Rattle.hpack_codec.specs.Huffman.{
  bits,
  code,
  code_length,
  code_number,
  IsPadding,
  AreOctets,
  IsHuffman,
}
use Rattle.hpack_codec.specs.Reading.{BeginsNoCode, Drains}
use Rattle.hpack_codec.proofs.Bits.{
  length-bits,
  bits-add,
  bits_low,
  bits-mod,
  bits_byte,
  number_of,
  number_of-bits,
  small_mod,
  high_bits,
  fronts_one,
}
use Rattle.hpack_codec.proofs.HuffmanTable.{code_facts, codes_of_two}

pub length-code : (symbol : ℕ) → length (code symbol) ≡ code_length symbol
unfolding code
length-code symbol = length-bits (code_length symbol) (code_number symbol)

-- the code of a symbol and the bits behind it, where the number of its first bits is the code's
pub front_code : (count register symbol : ℕ) → code_length symbol ≤ count
    → register / 2 ^ (count - code_length symbol) ≡ code_number symbol
    → bits count register ≡ code symbol ++ bits (count - code_length symbol) register
unfolding code
front_code count register symbol le is =
    ap (λ n. bits n register)
    (let e : count ≡ code_length symbol + (count - code_length symbol) = omega arith in e)
    ∙ bits-add (code_length symbol) (count - code_length symbol) register
    ∙ ap (λ n. bits (code_length symbol) n ++ bits (count - code_length symbol) register) is

-- and the other way round
pub code_front : (count register symbol : ℕ) (rest more : List ℕ) → symbol < 256
    → register < 2 ^ count → code_length symbol ≤ count
    → bits count register ++ rest ≡ code symbol ++ more
    → register / 2 ^ (count - code_length symbol) ≡ code_number symbol
unfolding code
code_front count register symbol rest more octet small le e =
    high_bits (code_length symbol) count register (code_number symbol) rest more le small
    (code_facts symbol octet).fits e

-- no two codes begin one list
clash : (s t : ℕ) (x y : List ℕ) → s < t → t < 256 → code s ++ x ≡ code t ++ y → ⊥
unfolding code
clash s t x y less octet e =
    let apart = codes_of_two s t less (omega arith) in
    elim (cases_lt (code_length s) (code_length t)) [
      | inl shorter ↦ apart.1 (omega arith)
          (high_bits (code_length s) (code_length t) (code_number t)
          (code_number s) y x (omega arith)
          (code_facts t octet).fits (code_facts s (omega arith)).fits (sym e))
      | inr longer ↦ apart.0 longer
          (high_bits (code_length t) (code_length s) (code_number s) (code_number t) x y longer
          (code_facts s (omega arith)).fits (code_facts t octet).fits e)
    ]

one_symbol : (s t : ℕ) (x y : List ℕ) → s < 256 → t < 256 → code s ++ x ≡ code t ++ y → s ≡ t
one_symbol s t x y h k e =
    elim (cases_order s t) [
      | inl same ↦ same
      | inr (inl less) ↦ absurd (clash s t x y less k e)
      | inr (inr more) ↦ absurd (clash t s y x more h (sym e))
    ]

-- Codes of octets, and then bits that no code begins: there is one reading.
pub same_symbols : (a b x y : List ℕ) → AreOctets a → AreOctets b → BeginsNoCode x → BeginsNoCode y
    → flat_map code a ++ x ≡ flat_map code b ++ y → (a ≡ b) × (x ≡ y)
unfolding AreOctets
same_symbols [] [] x y oa ob nx ny e = (refl, e)
same_symbols [] (t ∷ b) x y oa ob nx ny e =
    absurd (nx t (flat_map code b ++ y) ob.0 (e ∙ append_assoc (code t) (flat_map code b) y))
same_symbols (s ∷ a) [] x y oa ob nx ny e =
    absurd (ny s (flat_map code a ++ x) oa.0 (sym e ∙ append_assoc (code s) (flat_map code a) x))
same_symbols (s ∷ a) (t ∷ b) x y oa ob nx ny e =
    let whole : code s ++ (flat_map code a ++ x) ≡ code t ++ (flat_map code b ++ y) =
    sym (append_assoc (code s) (flat_map code a) x) ∙ e
    ∙ append_assoc (code t) (flat_map code b) y in
    let same : s ≡ t = one_symbol s t _ _ oa.0 ob.0 whole in
    let tails : flat_map code a ++ x ≡ flat_map code b ++ y =
    (fronts_one (code s) (code t) _ _ (ap (λ n. length (code n)) same) whole).1 in
    let rest = same_symbols a b x y oa.1 ob.1 nx ny tails in
    (ap (λ n. n ∷ a) same ∙ ap (λ (octets : List ℕ). t ∷ octets) rest.0, rest.1)

number_of-ones : (n : ℕ) → number_of (replicate n 1) ≡ 2 ^ n - 1
number_of-ones zero = refl
number_of-ones (suc n) =
    ap (λ len. 1 * 2 ^ len + number_of (replicate n 1)) (length-replicate n 1)
    ∙ ap (λ low. 1 * 2 ^ n + low) (number_of-ones n) ∙ omega (arith, pow-suc 2 n, pow_pos n)

number_code : (symbol : ℕ) → code_number symbol < 2 ^ code_length symbol
    → number_of (code symbol) ≡ code_number symbol
unfolding code
number_code symbol fits =
    number_of-bits (code_length symbol) (code_number symbol)
    ∙ small_mod (code_number symbol) (2 ^ code_length symbol) fits

-- ones begin no code
pub padding_begins_none : (padding : List ℕ) → IsPadding padding → BeginsNoCode padding
padding_begins_none padding p = λ symbol more octet e.
    let n : ℕ = code_length symbol in
    let len : length padding ≡ n + length more =
    ap length e ∙ length-append (code symbol) more
    ∙ ap (λ k. k + length more) (length-code symbol) in
    let ones : replicate n 1 ++ replicate (length more) 1 ≡ code symbol ++ more =
    replicate-append-replicate n (length more) 1 ∙ ap (λ k. replicate k 1) (sym len)
    ∙ sym p.ones ∙ e in
    let front =
    (fronts_one (replicate n 1) (code symbol) _ _
    (length-replicate n 1 ∙ sym (length-code symbol)) ones).0 in
    let facts = code_facts symbol octet in
    facts.not_ones
    (sym (number_code symbol facts.fits) ∙ ap number_of (sym front) ∙ number_of-ones n)

-- one reading of a text
pub huffman_one : (text a b : List ℕ) → IsHuffman text a → IsHuffman text b → a ≡ b
huffman_one text a b h k =
    (same_symbols a b h.padding k.padding h.are_octets k.are_octets
    (padding_begins_none h.padding h.is_padding) (padding_begins_none k.padding k.is_padding)
    (sym h.spelling ∙ k.spelling)).0

-- Octets, and then bits that no code begins and that are no padding: the text is none.
pub no_text : (text out rest : List ℕ) → AreOctets out
    → flat_map (bits 8) text ≡ flat_map code out ++ rest → BeginsNoCode rest → (IsPadding rest → ⊥)
    → (octets : List ℕ) → IsHuffman text octets → ⊥
no_text text out rest o is none other octets h =
    let same =
    same_symbols out octets rest h.padding o h.are_octets none
    (padding_begins_none h.padding h.is_padding) (sym is ∙ h.spelling) in
    other (subst IsPadding (sym same.1) h.is_padding)

-- a register of ones
pub ones_bits : (n : ℕ) → bits n (2 ^ n - 1) ≡ replicate n 1
unfolding bits
ones_bits zero = refl
ones_bits (suc n) =
    let is : 2 ^ suc n - 1 ≡ 1 * 2 ^ n + (2 ^ n - 1) = omega (arith, pow-suc 2 n, pow_pos n) in
    let head : (2 ^ suc n - 1) / 2 ^ n % 2 ≡ 1 =
    ap (λ k. k / 2 ^ n % 2) is
    ∙ ap (λ k. k % 2) (shr_high 1 n (2 ^ n - 1) (omega (arith, pow_pos n))) in
    ap (λ bit. bit ∷ bits n (2 ^ suc n - 1)) head
    ∙ ap (λ tail. 1 ∷ tail) (ap (bits n) is ∙ bits_low n 1 (2 ^ n - 1) ∙ ones_bits n)

pub register_padding : (count register : ℕ) → count < 8 → register ≡ 2 ^ count - 1
    → IsPadding (bits count register)
register_padding count register short ones = record {
  short = subst (λ (n : ℕ). n < 8) (sym (length-bits count register)) short;
  ones =
      ap (bits count) ones ∙ ones_bits count
      ∙ ap (λ n. replicate n 1) (sym (length-bits count register));
}

pub padding_register : (count register : ℕ) → register < 2 ^ count → IsPadding (bits count register)
    → (count < 8) × (register ≡ 2 ^ count - 1)
padding_register count register small p =
    let len = length-bits count register in (
      subst (λ (n : ℕ). n < 8) len p.short,
      sym (small_mod register (2 ^ count) small) ∙ sym (number_of-bits count register)
          ∙ ap number_of p.ones
          ∙ number_of-ones (length (bits count register)) ∙ ap (λ n. 2 ^ n - 1) len,
    )

-- Octets were moved from a register to a list; more may stand in it.
pub record IsDraining (old new : List ℕ) (count register left_count left : ℕ) : Type 0 where
  pub moved : List ℕ
  pub octets : AreOctets moved
  pub new_is : new ≡ old ++ moved
  pub register_is : bits count register ≡ flat_map code moved ++ bits left_count left
  pub bound : left < 2 ^ left_count
  pub shorter : left_count ≤ count

pub drains_none : (old : List ℕ) (count register : ℕ) → register < 2 ^ count
    → IsDraining old old count register count register
unfolding AreOctets
drains_none old count register small = record {
  moved = [];
  octets = tt;
  new_is = sym (append-nil old);
  register_is = refl;
  bound = small;
  shorter = omega arith;
}

pub AreOctets-push : (octets : List ℕ) (octet : ℕ) → AreOctets octets → octet < 256
    → AreOctets (octets ++ octet ∷ [])
unfolding AreOctets
AreOctets-push [] octet a h = (h, tt)
AreOctets-push (x ∷ octets) octet a h = (a.0, AreOctets-push octets octet a.1 h)

AreOctets-append : (xs ys : List ℕ) → AreOctets xs → AreOctets ys → AreOctets (xs ++ ys)
unfolding AreOctets
AreOctets-append [] ys a b = b
AreOctets-append (x ∷ xs) ys a b = (a.0, AreOctets-append xs ys a.1 b)

-- one symbol more
pub drains_more : (old new : List ℕ) (n r count register symbol len span : ℕ)
    → IsDraining old new n r count register → symbol < 256 → len ≤ count → code_length symbol ≡ len
    → register / 2 ^ (count - len) ≡ code_number symbol → span ≡ 2 ^ (count - len)
    → IsDraining old (new ++ symbol ∷ []) n r (count - len) (register % span)
drains_more old new n r count register symbol len span d octet le len_is number_is span_is =
    let k : ℕ = count - len in
    let at_len : register / 2 ^ (count - code_length symbol) ≡ code_number symbol =
    ap (λ m. register / 2 ^ (count - m)) len_is ∙ number_is in
    let front : bits count register ≡ code symbol ++ bits k register =
    front_code count register symbol (omega (arith, len_is, le)) at_len
    ∙ ap (λ m. code symbol ++ bits (count - m) register) len_is in
    let low : bits k (register % span) ≡ bits k register =
    ap (λ m. bits k (register % m)) span_is ∙ bits-mod k register in
    record {
      moved = d.moved ++ symbol ∷ [];
      octets = AreOctets-push d.moved symbol d.octets octet;
      new_is =
          ap (λ (front : List ℕ). front ++ symbol ∷ []) d.new_is
          ∙ append_assoc old d.moved (symbol ∷ []);
      register_is =
          d.register_is
          ∙ ap (λ (tail : List ℕ). flat_map code d.moved ++ tail)
          (front ∙ ap (λ (tail : List ℕ). code symbol ++ tail) (sym low))
          ∙ sym (append_assoc (flat_map code d.moved) (code symbol) (bits k (register % span)))
          ∙ ap (λ (front : List ℕ). front ++ bits k (register % span)) (sym
          (flat_map-append code d.moved (symbol ∷ [])
          ∙ ap (λ (tail : List ℕ). flat_map code d.moved ++ tail) (append-nil (code symbol))));
      bound =
          subst (λ (m : ℕ). register % m < 2 ^ k) (sym span_is)
          (mod_below register (2 ^ k) (pow_pos k));
      shorter = omega (arith, d.shorter);
    }

-- no code begins the register where none of its first bits are a code
pub begins_none : (count register : ℕ) → register < 2 ^ count
    → ((symbol : ℕ) → symbol < 256 → code_length symbol ≤ count
    → register / 2 ^ (count - code_length symbol) ≡ code_number symbol → ⊥)
    → BeginsNoCode (bits count register)
begins_none count register small none = λ symbol more octet e.
    elim (cases_lt count (code_length symbol)) [
      | inl longer ↦ omega (
        arith,
        longer,
        ap length e,
        length-bits count register,
        length-append (code symbol) more,
        length-code symbol,
      )
      | inr le ↦
          none symbol octet le (code_front count register symbol [] more octet small le
          (append-nil (bits count register) ∙ e))
    ]

pub drained : (old new : List ℕ) (n r count register : ℕ) → IsDraining old new n r count register
    → ((symbol : ℕ) → symbol < 256 → code_length symbol ≤ count
    → register / 2 ^ (count - code_length symbol) ≡ code_number symbol → ⊥)
    → Drains old new n r count register
drained old new n r count register d none = record {
  moved = d.moved;
  octets = d.octets;
  new_is = d.new_is;
  register_is = d.register_is;
  none = begins_none count register d.bound none;
  bound = d.bound;
  shorter = d.shorter;
}

-- Reading a text: octets so far, and a register that no code begins.
pub record IsReading (front octets : List ℕ) (count register : ℕ) : Type 0 where
  pub are_octets : AreOctets octets
  pub spelling : flat_map (bits 8) front ≡ flat_map code octets ++ bits count register
  pub none : BeginsNoCode (bits count register)
  pub bound : register < 2 ^ count

pub reads_none : IsReading [] [] 0 0
unfolding AreOctets bits
reads_none = record {
  are_octets = tt;
  spelling = refl;
  none = λ symbol more octet e. omega (
    arith,
    (code_facts symbol octet).low,
    length-code symbol,
    ap length e,
    length-append (code symbol) more,
  );
  bound = lit< tt;
}

-- one byte more
pub reads_more : (text octets new : List ℕ) (i count register byte left_count left : ℕ)
    → i < length text → byte ≡ get_or text i 0 → byte < 256
    → IsReading (take i text) octets count register
    → Drains octets new (count + 8) (register * 256 + byte) left_count left
    → IsReading (take (i + 1) text) new left_count left
reads_more text octets new i count register byte left_count left h is octet a d = record {
  are_octets =
      subst AreOctets (sym d.new_is) (AreOctets-append octets d.moved a.are_octets d.octets);
  spelling =
      ap (flat_map (bits 8)) (take_more text i 0 h ∙ ap (λ n. take i text ++ n ∷ []) (sym is))
      ∙ flat_map-append (bits 8) (take i text) (byte ∷ [])
      ∙ ap (λ (tail : List ℕ). flat_map (bits 8) (take i text) ++ tail) (append-nil (bits 8 byte))
      ∙ ap (λ (front : List ℕ). front ++ bits 8 byte) a.spelling
      ∙ append_assoc (flat_map code octets) (bits count register) (bits 8 byte)
      ∙ ap (λ (tail : List ℕ). flat_map code octets ++ tail)
      (sym (bits_byte count register byte octet) ∙ d.register_is)
      ∙ sym (append_assoc (flat_map code octets) (flat_map code d.moved) (bits left_count left))
      ∙ ap (λ (front : List ℕ). front ++ bits left_count left)
      (sym (ap (flat_map code) d.new_is ∙ flat_map-append code octets d.moved));
  none = d.none;
  bound = d.bound;
}

-- A register of thirty bits that no code begins: no octets have the text.
pub no_text_long : (text octets : List ℕ) (i count register : ℕ)
    → IsReading (take i text) octets count register → 30 ≤ count
    → (others : List ℕ) → IsHuffman text others → ⊥
no_text_long text octets i count register a long =
    let rest : List ℕ = bits count register ++ flat_map (bits 8) (drop i text) in
    no_text text octets rest a.are_octets
    (ap (flat_map (bits 8)) (sym (take-append-drop i text))
    ∙ flat_map-append (bits 8) (take i text) (drop i text)
    ∙ ap (λ (front : List ℕ). front ++ flat_map (bits 8) (drop i text)) a.spelling
    ∙ append_assoc (flat_map code octets) (bits count register) (flat_map (bits 8) (drop i text)))
    (λ symbol more octet e.
    let facts = code_facts symbol octet in
    let le : code_length symbol ≤ count = omega (arith, facts.high, long) in
    a.none symbol (bits (count - code_length symbol) register) octet
    (front_code count register symbol le
    (code_front count register symbol (flat_map (bits 8) (drop i text)) more octet a.bound le e)))
    (λ p. omega (
      arith,
      p.short,
      long,
      length-bits count register,
      length-append (bits count register) (flat_map (bits 8) (drop i text)),
    ))

-- at the end of the text
pub whole_text : (text octets : List ℕ) (i count register : ℕ) → length text ≤ i
    → IsReading (take i text) octets count register → count < 8 → register ≡ 2 ^ count - 1
    → IsHuffman text octets
whole_text text octets i count register h a short ones = record {
  padding = bits count register;
  spelling = ap (flat_map (bits 8)) (sym (take_all i text h)) ∙ a.spelling;
  is_padding = register_padding count register short ones;
  are_octets = a.are_octets;
}

pub no_padding : (text octets : List ℕ) (i count register : ℕ) → length text ≤ i
    → IsReading (take i text) octets count register
    → ((count < 8) → register ≡ 2 ^ count - 1 → ⊥) → (others : List ℕ) → IsHuffman text others → ⊥
no_padding text octets i count register h a other =
    no_text text octets (bits count register) a.are_octets
    (ap (flat_map (bits 8)) (sym (take_all i text h)) ∙ a.spelling) a.none
    (λ p. let both = padding_register count register a.bound p in other both.0 both.1)

pub register_fits : (count register byte : ℕ) → register < 2 ^ count → byte < 256
    → register * 256 + byte < 2 ^ (count + 8)
register_fits count register byte small octet =
    let place : register * 256 + byte < 256 * 2 ^ count =
    mul-add-lt register 256 byte (2 ^ count) small octet in
    omega (arith, place, pow-add 2 count 8)
