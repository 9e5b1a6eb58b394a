-- On string literals: how they are taken from the front, and that there is one way.
use Rattle.std.proofs.Common.{
  ◌≡◌,
  ℕ,
  ◌*◌,
  ◌/◌,
  ◌^◌,
  ◌<◌,
  ◌≤◌,
  ◌⊎◌,
  List,
  [],
  ◌∷◌,
  ◌++◌,
  length,
  get_or,
  refl,
  sym,
  subst,
  ◌∙◌,
  ap,
  inl,
  inr,
  arith,
  append_assoc,
}
use Rattle.std.proofs.lemmas.Bool.{cases_lt}
use Rattle.hpack_codec.specs.declared.fault.HpackFault.{HpackFault}
use Rattle.hpack_codec.specs.declared.fault.HpackFault.TheVariants.{
  Integer,
  Index,
  Huffman,
  SizeUpdate,
  Truncated,
  OutOfMemory,
  Dead,
  TooLarge,
}
use Rattle.hpack_codec.specs.Integer.{IsInteger}
use Rattle.hpack_codec.specs.StringLiteral.{IsString}
use Rattle.hpack_codec.specs.Huffman.{IsHuffman}
use Rattle.hpack_codec.specs.Faults.{IsStringFault, IsNoHuffman, IsCutString}
use Rattle.hpack_codec.specs.Reading.{
  TakesInteger,
  TakesString,
  OrMemory,
  IsTextFault,
  Appends,
  IsTextOf,
  text_length,
  flags_of,
}

-- the flags of a first byte in a range
pub flags_from : (prefix_bits : ℕ) (flags : ℕ) (bytes : List ℕ) → 1 ≤ length bytes
    → get_or bytes 0 0 / 2 ^ prefix_bits * 2 ^ prefix_bits ≡ flags
    → flags_of prefix_bits bytes ≡ flags
unfolding flags_of
flags_from prefix_bits flags [] some e = absurd (omega arith)
flags_from prefix_bits flags (first ∷ rest) some e = e

pub flags_7_high : (bytes : List ℕ) → 1 ≤ length bytes → 128 ≤ get_or bytes 0 0
    → get_or bytes 0 0 < 256 → flags_of 7 bytes ≡ 128
flags_7_high bytes some high octet =
    flags_from 7 128 bytes some (at_128 (get_or bytes 0 0) high octet)
  where
    at_128 : (n : ℕ) → 128 ≤ n → n < 256 → n / 2 ^ 7 * 2 ^ 7 ≡ 128
    at_128 n h k = omega arith

pub flags_7_low : (bytes : List ℕ) → 1 ≤ length bytes → get_or bytes 0 0 < 128
    → flags_of 7 bytes ≡ 0
flags_7_low bytes some low = flags_from 7 0 bytes some (at_0 (get_or bytes 0 0) low)
  where
    at_0 : (n : ℕ) → n < 128 → n / 2 ^ 7 * 2 ^ 7 ≡ 0
    at_0 n h = omega arith

pub takes_string : (bytes rest front back octets : List ℕ) (len flags : ℕ)
    → TakesInteger 7 bytes len rest → flags_of 7 bytes ≡ flags → rest ≡ front ++ back
    → length front ≡ len
    → ((size : List ℕ) → IsInteger 7 flags size (length front)
    → (IsInteger 7 0 size (length front) × (front ≡ octets))
    ⊎ (IsInteger 7 128 size (length front) × IsHuffman front octets))
    → TakesString bytes octets back
takes_string bytes rest front back octets len flags t f parts l meaning = (
  t.0 ++ front,
  t.1 ∙ ap (λ (tail : List ℕ). t.0 ++ tail) parts ∙ sym (append_assoc t.0 front back),
  record {
    size = t.0;
    content = front;
    spelling = refl;
    meaning =
        meaning t.0 (subst (λ (n : ℕ). IsInteger 7 flags t.0 n) (sym l)
        (subst (λ (n : ℕ). IsInteger 7 n t.0 len) f t.2));
  },
)

pub takes_plain : (bytes rest front back octets : List ℕ) (len : ℕ) → TakesInteger 7 bytes len rest
    → flags_of 7 bytes ≡ 0 → rest ≡ front ++ back → length front ≡ len
    → octets ≡ front → TakesString bytes octets back
takes_plain bytes rest front back octets len t f parts l same =
    takes_string bytes rest front back octets len 0 t f parts l (λ size i. inl (i, sym same))

pub takes_huffman : (bytes rest front back octets : List ℕ) (len : ℕ)
    → TakesInteger 7 bytes len rest → flags_of 7 bytes ≡ 128 → rest ≡ front ++ back
    → length front ≡ len
    → IsHuffman front octets → TakesString bytes octets back
takes_huffman bytes rest front back octets len t f parts l h =
    takes_string bytes rest front back octets len 128 t f parts l (λ size i. inr (i, h))

no_huffman : (bytes rest front back : List ℕ) (len : ℕ) → TakesInteger 7 bytes len rest
    → flags_of 7 bytes ≡ 128 → rest ≡ front ++ back → length front ≡ len
    → ((octets : List ℕ) → IsHuffman front octets → ⊥) → IsNoHuffman bytes
no_huffman bytes rest front back len t f parts l none = record {
  size = t.0;
  content = front;
  rest = back;
  spelling = t.1 ∙ ap (λ (tail : List ℕ). t.0 ++ tail) parts;
  is_size =
      subst (λ (n : ℕ). IsInteger 7 128 t.0 n) (sym l)
      (subst (λ (n : ℕ). IsInteger 7 n t.0 len) f t.2);
  none = none;
}

pub text_fault : (fault : HpackFault) (bytes rest front back : List ℕ) (len : ℕ)
    → TakesInteger 7 bytes len rest → flags_of 7 bytes ≡ 128 → rest ≡ front ++ back
    → length front ≡ len
    → IsTextFault fault front → OrMemory fault (IsStringFault fault bytes)
text_fault Huffman bytes rest front back len t f parts l h =
    no_huffman bytes rest front back len t f parts l h
text_fault OutOfMemory bytes rest front back len t f parts l h = tt
text_fault Integer bytes rest front back len t f parts l h = absurd h
text_fault Index bytes rest front back len t f parts l h = h
text_fault SizeUpdate bytes rest front back len t f parts l h = h
text_fault Truncated bytes rest front back len t f parts l h = absurd h
text_fault Dead bytes rest front back len t f parts l h = h
text_fault TooLarge bytes rest front back len t f parts l h = h

pub cut_string : (bytes rest : List ℕ) (len : ℕ) → 1 ≤ length bytes → get_or bytes 0 0 < 256
    → TakesInteger 7 bytes len rest → length rest < len → IsCutString bytes
cut_string bytes rest len some octet t short = record {
  size = t.0;
  content = rest;
  len = len;
  spelling = t.1;
  short = short;
  is_size = elim (cases_lt (get_or bytes 0 0) 128) [
    | inl low ↦
        inl (subst (λ (flags : ℕ). IsInteger 7 flags t.0 len) (flags_7_low bytes some low) t.2)
    | inr high ↦
        inr (subst (λ (flags : ℕ). IsInteger 7 flags t.0 len)
        (flags_7_high bytes some high octet) t.2)
  ];
}

-- a Huffman text behind its length
pub wrote_huffman : (old mid new octets : List ℕ) (len : ℕ) → len ≡ text_length octets
    → Appends old mid (λ text. IsInteger 7 128 text len)
    → Appends mid new (λ text. IsTextOf text octets)
    → Appends old new (λ text. IsString text octets)
wrote_huffman old mid new octets len len_is size text = (
  size.0 ++ text.0,
  text.1 ∙ ap (λ (front : List ℕ). front ++ text.0) size.1 ∙ append_assoc old size.0 text.0,
  record {
    size = size.0;
    content = text.0;
    spelling = refl;
    meaning =
        inr (subst (λ (n : ℕ). IsInteger 7 128 size.0 n) (len_is ∙ sym text.2.1) size.2, text.2.0);
  },
)
