-- On the tables that the code is read by: what their test tells, and the codes that a walk through
-- the rows passed.
use Rattle.std.proofs.Common.{
  ◌≡◌,
  ℕ,
  zero,
  suc,
  ◌+◌,
  ◌-◌,
  ◌/◌,
  ◌^◌,
  ◌<◌,
  ◌≤◌,
  ◌⊎◌,
  Bool,
  true,
  false,
  ◌&&◌,
  ◌||◌,
  nat_lt,
  nat_le,
  ◌==◌,
  List,
  [],
  ◌∷◌,
  ◌++◌,
  length,
  take,
  drop,
  get_or,
  refl,
  sym,
  subst,
  ◌∙◌,
  ap,
  inl,
  inr,
  arith,
}
use Rattle.std.proofs.lemmas.Bool.{cases_lt, ltb-true, leb-true}
use Rattle.std.proofs.lemmas.Bool.Decides.{eqb_tells}
use Rattle.std.proofs.lemmas.List.{take_more, take_all, take-append-drop, drop_more}
use Rattle.hpack_codec.specs.declared.huffman.Codes.{Codes}
use Rattle.hpack_codec.specs.Huffman.{code_length, code_number}
use Rattle.hpack_codec.specs.CodeTable.{
  each_below,
  is_in_row,
  is_row,
  are_rows,
  is_least,
  are_ascending,
  is_covered,
  is_code_table,
  is_listed,
  is_code_list,
}
use Rattle.hpack_codec.proofs.HuffmanTable.{and_true}

pub eqb-true : (a b : ℕ) → (a == b) ≡ true → a ≡ b
eqb-true a b e =
    elim (eqb_tells a b) [
      | inl same ↦ same.1
      | inr other ↦ let t : false ≡ true = sym other.0 ∙ e in cc
    ]

each_below_at : (n : ℕ) (p : ℕ → Bool) (i : ℕ) → each_below n p ≡ true → i < n → p i ≡ true
unfolding each_below
each_below_at zero p i e h = absurd (omega arith)
each_below_at (suc n) p i e h =
    let both = and_true (p n) (each_below n p) e in
    elim (cases_lt i n) [
      | inl less ↦ each_below_at n p i both.1 less
      | inr last ↦
          subst (λ (k : ℕ). p k ≡ true) (let same : n ≡ i = omega (arith, h, last) in same) both.0
    ]

row_at : (symbols : List ℕ) (rows : List Codes) (i : ℕ) (d : Codes) → are_rows symbols rows ≡ true
    → i < length rows → is_row symbols (get_or rows i d) ≡ true
row_at symbols [] i d e h = absurd (omega arith)
row_at symbols (row ∷ rows) zero d e h = (and_true (is_row symbols row) (are_rows symbols rows) e).0
row_at symbols (row ∷ rows) (suc i) d e h =
    row_at symbols rows i d (and_true (is_row symbols row) (are_rows symbols rows) e).1
    (omega (arith, h))

-- a number in a row is the code of the symbol at its place
pub record HasSymbol (symbols : List ℕ) (row : Codes) (number : ℕ) : Type 0 where
  pub within : row.place + (number - row.first) < length symbols
  pub len : code_length (get_or symbols (row.place + (number - row.first)) 0) ≡ row.len
  pub number_is : code_number (get_or symbols (row.place + (number - row.first)) 0) ≡ number

pub symbol_in : (symbols : List ℕ) (rows : List Codes) (i number : ℕ) (row d : Codes)
    → is_code_table rows symbols ≡ true → i < length rows → row ≡ get_or rows i d
    → row.first ≤ number → number < row.above → HasSymbol symbols row number
unfolding is_code_table
symbol_in symbols rows i number row d e h is low high =
    let whole =
    and_true (are_rows symbols rows) (are_ascending rows && each_below 256 (is_covered rows)) e in
    let right : is_row symbols row ≡ true =
    subst (λ (r : Codes). is_row symbols r ≡ true) (sym is) (row_at symbols rows i d whole.0 h) in
    let parts =
    and_true (nat_le (row.place + (row.above - row.first)) (length symbols))
    (each_below (row.above - row.first) (is_in_row symbols row)) right in
    let room : row.place + (row.above - row.first) ≤ length symbols = leb-true _ _ parts.0 in
    let here =
    each_below_at (row.above - row.first) (is_in_row symbols row) (number - row.first) parts.1
    (omega (arith, low, high)) in
    let two =
    and_true (code_length (get_or symbols (row.place + (number - row.first)) 0) == row.len)
    (code_number (get_or symbols (row.place + (number - row.first)) 0)
    == row.first + (number - row.first)) here in
    record {
      within = omega (arith, room, low, high);
      len = eqb-true _ _ two.0;
      number_is =
          eqb-true _ _ two.1
          ∙ (let e2 : row.first + (number - row.first) ≡ number = omega (arith, low) in e2);
    }

-- The register doesn't begin with a code of the row.
abbrev pub Misses : ℕ → ℕ → Codes → Type 0
Misses register count row =
    row.len ≤ count → row.first ≤ register / 2 ^ (count - row.len)
    → register / 2 ^ (count - row.len) < row.above → ⊥

unfoldable pub MissesAll : ℕ → ℕ → List Codes → Type 0
MissesAll register count [] = Unit {0}
MissesAll register count (row ∷ rows) = Misses register count row × MissesAll register count rows

misses_append : (register count : ℕ) (xs ys : List Codes) → MissesAll register count xs
    → MissesAll register count ys → MissesAll register count (xs ++ ys)
unfolding MissesAll
misses_append register count [] ys a b = b
misses_append register count (x ∷ xs) ys a b = (a.0, misses_append register count xs ys a.1 b)

pub misses_none : (register count : ℕ) → MissesAll register count []
unfolding MissesAll
misses_none register count = tt

pub misses_more : (register count : ℕ) (rows : List Codes) (i : ℕ) (row d : Codes) → i < length rows
    → row ≡ get_or rows i d
    → MissesAll register count (take i rows) → Misses register count row
    → MissesAll register count (take (i + 1) rows)
unfolding MissesAll
misses_more register count rows i row d h is a m =
    subst (MissesAll register count)
    (sym (take_more rows i d h ∙ ap (λ (r : Codes). take i rows ++ r ∷ []) (sym is)))
    (misses_append register count (take i rows) (row ∷ []) a (m, tt))

-- no row behind a longer one is short
longer_behind : (register count len : ℕ) (row : Codes) (rows : List Codes)
    → is_least row rows ≡ true → count < row.len → MissesAll register count rows
unfolding MissesAll
longer_behind register count len row [] e h = tt
longer_behind register count len row (next ∷ rows) e h =
    let both = and_true (nat_le row.len next.len) (is_least row rows) e in (
      λ le low high. omega (arith, leb-true row.len next.len both.0, h, le),
      longer_behind register count len row rows both.1 h,
    )

ascending_behind : (xs : List Codes) (row : Codes) (ys : List Codes)
    → are_ascending (xs ++ row ∷ ys) ≡ true → is_least row ys ≡ true
ascending_behind [] row ys e = (and_true (is_least row ys) (are_ascending ys) e).0
ascending_behind (x ∷ xs) row ys e =
    ascending_behind xs row ys
    (and_true (is_least x (xs ++ row ∷ ys)) (are_ascending (xs ++ row ∷ ys)) e).1

pub misses_rest : (register count : ℕ) (rows : List Codes) (symbols : List ℕ)
    (i : ℕ) (row d : Codes)
    → is_code_table rows symbols ≡ true → i < length rows → row ≡ get_or rows i d
    → MissesAll register count (take i rows) → count < row.len → MissesAll register count rows
unfolding is_code_table MissesAll
misses_rest register count rows symbols i row d e h is a long =
    let whole =
    and_true (are_rows symbols rows) (are_ascending rows && each_below 256 (is_covered rows)) e in
    let order = (and_true (are_ascending rows) (each_below 256 (is_covered rows)) whole.1).0 in
    let split : rows ≡ take i rows ++ row ∷ drop (i + 1) rows =
    sym (take-append-drop i rows)
    ∙ ap (λ (tail : List Codes). take i rows ++ tail)
    (drop_more rows i d h ∙ ap (λ (r : Codes). r ∷ drop (i + 1) rows) (sym is)) in
    let least =
    ascending_behind (take i rows) row (drop (i + 1) rows)
    (subst (λ (all : List Codes). are_ascending all ≡ true) split order) in
    subst (MissesAll register count) (sym split)
    (misses_append register count (take i rows) (row ∷ drop (i + 1) rows) a (
      λ le low high. omega (arith, long, le),
      longer_behind register count 0 row (drop (i + 1) rows) least long,
    ))

or_true : (a b : Bool) → (a || b) ≡ true → (a ≡ true) ⊎ (b ≡ true)
or_true true b e = inl refl
or_true false b e = inr e

missed : (register count symbol : ℕ) (rows : List Codes) → MissesAll register count rows
    → is_covered rows symbol ≡ true
    → code_length symbol ≤ count
    → register / 2 ^ (count - code_length symbol) ≡ code_number symbol → ⊥
unfolding MissesAll
missed register count symbol [] m e le is = let t : false ≡ true = e in cc
missed register count symbol (row ∷ rows) m e le is =
    elim (or_true ((row.len == code_length symbol)
    && (nat_le row.first (code_number symbol) && nat_lt (code_number symbol) row.above))
    (is_covered rows symbol) e) [
      | inl here ↦
          (let a =
          and_true (row.len == code_length symbol)
          (nat_le row.first (code_number symbol) && nat_lt (code_number symbol) row.above) here in
          let b =
          and_true (nat_le row.first (code_number symbol))
          (nat_lt (code_number symbol) row.above) a.1 in
          let len : row.len ≡ code_length symbol = eqb-true row.len (code_length symbol) a.0 in
          let at_row : register / 2 ^ (count - row.len) ≡ code_number symbol =
          ap (λ n. register / 2 ^ (count - n)) len ∙ is in
          m.0 (omega (arith, len, le)) (omega (
            arith,
            at_row,
            leb-true row.first (code_number symbol) b.0,
          )) (omega (arith, at_row, ltb-true (code_number symbol) row.above b.1)))
      | inr behind ↦ missed register count symbol rows m.1 behind le is
    ]

pub missed_all : (register count symbol : ℕ) (rows : List Codes) (symbols : List ℕ)
    → is_code_table rows symbols ≡ true → MissesAll register count rows → symbol < 256
    → code_length symbol ≤ count
    → register / 2 ^ (count - code_length symbol) ≡ code_number symbol → ⊥
unfolding is_code_table
missed_all register count symbol rows symbols e m octet le is =
    let whole =
    and_true (are_rows symbols rows) (are_ascending rows && each_below 256 (is_covered rows)) e in
    let covered = (and_true (are_ascending rows) (each_below 256 (is_covered rows)) whole.1).1 in
    missed register count symbol rows m
    (each_below_at 256 (is_covered rows) symbol covered octet) le is

pub misses_whole : (register count i : ℕ) (rows : List Codes) → length rows ≤ i
    → MissesAll register count (take i rows) → MissesAll register count rows
misses_whole register count i rows h m = subst (MissesAll register count) (take_all i rows h) m

-- what the lists of numbers and lengths say of a byte
pub record HasCode (numbers lengths : List ℕ) (octet : ℕ) : Type 0 where
  pub in_numbers : octet < length numbers
  pub in_lengths : octet < length lengths
  pub number : get_or numbers octet 0 ≡ code_number octet
  pub len : get_or lengths octet 0 ≡ code_length octet

pub code_listed : (numbers lengths : List ℕ) (octet : ℕ) → is_code_list numbers lengths ≡ true
    → octet < 256 → HasCode numbers lengths octet
unfolding is_code_list
code_listed numbers lengths octet e h =
    let whole =
    and_true ((length numbers == 256) && (length lengths == 256))
    (each_below 256 (is_listed numbers lengths)) e in
    let sizes = and_true (length numbers == 256) (length lengths == 256) whole.0 in
    let here = each_below_at 256 (is_listed numbers lengths) octet whole.1 h in
    let two =
    and_true (code_number octet == get_or numbers octet 0)
    (code_length octet == get_or lengths octet 0) here in
    record {
      in_numbers = omega (arith, eqb-true _ _ sizes.0, h);
      in_lengths = omega (arith, eqb-true _ _ sizes.1, h);
      number = sym (eqb-true _ _ two.0);
      len = sym (eqb-true _ _ two.1);
    }
