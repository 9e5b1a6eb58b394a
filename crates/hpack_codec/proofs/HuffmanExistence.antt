-- Whether a text is a Huffman text is known.
use Rattle.std.proofs.Common.{
  ◌≡◌,
  ℕ,
  zero,
  suc,
  ◌<◌,
  ◌≤◌,
  ◌⊎◌,
  List,
  [],
  ◌∷◌,
  ◌++◌,
  length,
  refl,
  sym,
  subst,
  ◌∙◌,
  ap,
  inl,
  inr,
  arith,
  append_assoc,
  length-append,
  replicate,
}
use Rattle.std.specs.List.{flat_map}
use Rattle.std.proofs.lemmas.Bool.{cases_lt, cases_eq}
use Rattle.hpack_codec.specs.Huffman.{bits, code, IsPadding, AreOctets, IsHuffman}
use Rattle.hpack_codec.specs.Reading.{BeginsNoCode}
use Rattle.hpack_codec.proofs.Huffmans.{length-code, no_text}
use Rattle.hpack_codec.proofs.HuffmanTable.{code_facts}

abbrev Known : Type 0 → Type 0
Known P = P ⊎ (P → ⊥)

-- ---- one symbol

-- the bits begin with these
abbrev BeginsWith : List ℕ → List ℕ → Type 0
BeginsWith front all = (rest : List ℕ) × (all ≡ front ++ rest)

begins_known : (front all : List ℕ) → Known (BeginsWith front all)
begins_known [] all = inl (all, refl)
begins_known (bit ∷ front) [] = inr (λ begins. absurd (omega (arith, ap length begins.1)))
begins_known (bit ∷ front) (other ∷ all) =
    elim (cases_eq other bit) [
      | inr apart ↦
          inr (λ begins.
          let e : other ∷ all ≡ bit ∷ (front ++ begins.0) = begins.1 in
          let same : other ≡ bit = cc in
          apart same)
      | inl same ↦ elim (begins_known front all) [
        | inl begins ↦
            inl (begins.0, ap (λ (x : ℕ). x ∷ all) same ∙ ap (λ (xs : List ℕ). bit ∷ xs) begins.1)
        | inr none ↦
            inr (λ begins.
            let e : other ∷ all ≡ bit ∷ (front ++ begins.0) = begins.1 in
            let tail : all ≡ front ++ begins.0 = cc in
            none (begins.0, tail))
      ]
    ]

-- one of the symbols below n begins the bits
abbrev BeginsBelow : ℕ → List ℕ → Type 0
BeginsBelow n all = (symbol : ℕ) × (symbol < n) × BeginsWith (code symbol) all

symbol_known : (n : ℕ) (all : List ℕ) → Known (BeginsBelow n all)
symbol_known zero all = inr (λ found. let less = found.1 in omega arith)
symbol_known (suc n) all =
    elim (begins_known (code n) all) [
      | inl begins ↦ inl (n, omega arith, begins)
      | inr none ↦ elim (symbol_known n all) [
        | inl found ↦ inl (found.0, (let less = found.1 in omega arith), found.2)
        | inr others ↦ inr (λ found. elim (cases_lt found.0 n) [
          | inl less ↦ others (found.0, less, found.2)
          | inr most ↦
              none (subst (λ (symbol : ℕ). BeginsWith (code symbol) all)
              (let less = found.1 in let same : found.0 ≡ n = omega arith in same) found.2)
        ])
      ]
    ]

-- ---- the symbols of a text

-- octets, and then bits that no code begins
pub record IsSpelled (all octets rest : List ℕ) : Type 0 where
  pub are_octets : AreOctets octets
  pub spelling : all ≡ flat_map code octets ++ rest
  pub none : BeginsNoCode rest

some_code : (symbol : ℕ) → symbol < 256 → 0 < length (code symbol)
some_code symbol octet = omega (arith, (code_facts symbol octet).low, length-code symbol)

spelled : (n : ℕ) (all : List ℕ) → length all ≤ n
    → (octets rest : List ℕ) × IsSpelled all octets rest
unfolding AreOctets
spelled zero [] le = (
  [],
  [],
  record {
    are_octets = tt;
    spelling = refl;
    none = λ symbol more octet e.
        omega (arith, some_code symbol octet, ap length e, length-append (code symbol) more);
  },
)
spelled zero (bit ∷ all) le = absurd (omega arith)
spelled (suc n) all le =
    elim (symbol_known 256 all) [
      | inr none ↦ (
        [],
        all,
        record {
          are_octets = tt;
          spelling = refl;
          none = λ symbol more octet e. none (symbol, octet, (more, e));
        },
      )
      | inl found ↦
          (let symbol = found.0 in
          let behind = found.2.0 in
          let again =
          spelled n behind (omega (
            arith,
            le,
            ap length found.2.1,
            length-append (code symbol) behind,
            some_code symbol found.1,
          )) in (
            symbol ∷ again.0,
            again.1,
            record {
              are_octets = (found.1, again.2.are_octets);
              spelling =
                  found.2.1 ∙ ap (λ (tail : List ℕ). code symbol ++ tail) again.2.spelling
                  ∙ sym (append_assoc (code symbol) (flat_map code again.0) again.1);
              none = again.2.none;
            },
          ))
    ]

-- ---- the padding

ones_known : (xs : List ℕ) → Known (xs ≡ replicate (length xs) 1)
ones_known [] = inl refl
ones_known (x ∷ xs) =
    elim (cases_eq x 1) [
      | inr other ↦ inr (λ e. let same : x ≡ 1 = cc in other same)
      | inl one ↦ elim (ones_known xs) [
        | inl ones ↦ inl (ap (λ (y : ℕ). y ∷ xs) one ∙ ap (λ (ys : List ℕ). 1 ∷ ys) ones)
        | inr none ↦ inr (λ e. let tail : xs ≡ replicate (length xs) 1 = cc in none tail)
      ]
    ]

padding_known : (xs : List ℕ) → Known (IsPadding xs)
padding_known xs =
    elim (cases_lt (length xs) 8) [
      | inr long ↦ inr (λ p. let short = p.short in omega arith)
      | inl short ↦ elim (ones_known xs) [
        | inl ones ↦ inl (record { short = short; ones = ones })
        | inr none ↦ inr (λ p. none p.ones)
      ]
    ]

pub huffman_known : (text : List ℕ)
    → ((octets : List ℕ) × IsHuffman text octets) ⊎ ((octets : List ℕ) → IsHuffman text octets → ⊥)
huffman_known text =
    let s = spelled (length (flat_map (bits 8) text)) (flat_map (bits 8) text) (omega arith) in
    elim (padding_known s.1) [
      | inl padding ↦ inl (
        s.0,
        record {
          padding = s.1;
          spelling = s.2.spelling;
          is_padding = padding;
          are_octets = s.2.are_octets;
        },
      )
      | inr other ↦ inr (no_text text s.0 s.1 s.2.are_octets s.2.spelling s.2.none other)
    ]
