-- A block has one reading over a table: where it is one, no fault stands in it.
use Rattle.std.proofs.Common.{
  ◌≡◌,
  ℕ,
  zero,
  suc,
  ◌+◌,
  ◌-◌,
  ◌^◌,
  ◌<◌,
  ◌≤◌,
  ◌⊎◌,
  List,
  [],
  ◌∷◌,
  ◌++◌,
  length,
  sym,
  subst,
  ◌∙◌,
  ap,
  inl,
  inr,
  lit≤,
  arith,
  append_assoc,
  Some,
}
use Rattle.std.proofs.lemmas.Nat.{pow_pos}
use Rattle.lists.specs.declared.field.Field.{Field}
use Rattle.hpack_codec.specs.Integer.{base_128, IsInteger}
use Rattle.hpack_codec.specs.Huffman.{IsHuffman}
use Rattle.hpack_codec.specs.StringLiteral.{IsString}
use Rattle.hpack_codec.specs.StaticTable.{entry}
use Rattle.hpack_codec.specs.Table.{Table, entry_at, insert_entry}
use Rattle.hpack_codec.specs.Block.{
  IsName,
  IsLiteral,
  Form,
  Indexed,
  Incremental,
  WithoutIndexing,
  NeverIndexed,
  IsFormOf,
  Represents,
}
use Rattle.hpack_codec.proofs.Integers.{one_end}
use Rattle.hpack_codec.proofs.Huffmans.{huffman_one}
use Rattle.hpack_codec.proofs.Bits.{fronts_one}

-- a list whose head and tail are known
pub heads : (x y : ℕ) (xs ys : List ℕ) → x ∷ xs ≡ y ∷ ys → x ≡ y
heads x y xs ys e = cc

pub tails : (x y : ℕ) (xs ys : List ℕ) → x ∷ xs ≡ y ∷ ys → xs ≡ ys
tails x y xs ys e = cc

-- one reading of an integer at the front, with the same flags
pub integer_one : (bits flags : ℕ) (a b x y : List ℕ) (m n : ℕ) → IsInteger bits flags a m
    → IsInteger bits flags b n → a ++ x ≡ b ++ y → (m ≡ n) × (x ≡ y)
integer_one bits flags a b x y m n (inl s) (inl t) e =
    let whole : (flags + m) ∷ x ≡ (flags + n) ∷ y =
    sym (ap (λ (f : List ℕ). f ++ x) s.spelling) ∙ e ∙ ap (λ (f : List ℕ). f ++ y) t.spelling in
    (omega (arith, heads _ _ _ _ whole), tails _ _ _ _ whole)
integer_one bits flags a b x y m n (inl s) (inr t) e =
    let whole : (flags + m) ∷ x ≡ (flags + (2 ^ bits - 1)) ∷ (t.front ++ t.last ∷ []) ++ y =
    sym (ap (λ (f : List ℕ). f ++ x) s.spelling) ∙ e ∙ ap (λ (f : List ℕ). f ++ y) t.spelling in
    absurd (omega (arith, heads _ _ _ _ whole, s.small))
integer_one bits flags a b x y m n (inr s) (inl t) e =
    let whole : (flags + (2 ^ bits - 1)) ∷ (s.front ++ s.last ∷ []) ++ x ≡ (flags + n) ∷ y =
    sym (ap (λ (f : List ℕ). f ++ x) s.spelling) ∙ e ∙ ap (λ (f : List ℕ). f ++ y) t.spelling in
    absurd (omega (arith, heads _ _ _ _ whole, t.small))
integer_one bits flags a b x y m n (inr s) (inr t) e =
    let whole : (flags + (2 ^ bits - 1)) ∷ (s.front ++ s.last ∷ []) ++ x ≡ (flags + (2 ^ bits - 1))
    ∷ (t.front ++ t.last ∷ []) ++ y =
    sym (ap (λ (f : List ℕ). f ++ x) s.spelling) ∙ e ∙ ap (λ (f : List ℕ). f ++ y) t.spelling in
    let behind : s.front ++ s.last ∷ x ≡ t.front ++ t.last ∷ y =
    sym (append_assoc s.front (s.last ∷ []) x) ∙ tails _ _ _ _ whole
    ∙ append_assoc t.front (t.last ∷ []) y in
    let same =
    one_end s.front t.front s.last t.last x y s.unfinished s.finished t.unfinished
    t.finished behind in (
      s.sum ∙ ap (λ (f : List ℕ). 2 ^ bits - 1 + base_128 (f ++ s.last ∷ [])) same.0
          ∙ ap (λ k. 2 ^ bits - 1 + base_128 (t.front ++ k ∷ [])) same.1 ∙ sym t.sum,
      same.2,
    )

-- the first byte of an integer
pub first_of_integer : (bits flags n : ℕ) (a : List ℕ) → IsInteger bits flags a n
    → (first : ℕ) × (more : List ℕ) × (a ≡ first ∷ more) × (flags ≤ first)
    × (first < flags + 2 ^ bits)
first_of_integer bits flags n a (inl s) =
    (flags + n, [], s.spelling, omega arith, omega (arith, s.small))
first_of_integer bits flags n a (inr s) = (
  flags + (2 ^ bits - 1),
  s.front ++ s.last ∷ [],
  s.spelling,
  omega arith,
  omega (arith, pow_pos bits),
)

-- integers whose flags are apart don't begin one list
pub flags_apart : (bits flags bits' flags' m n : ℕ) (a b x y : List ℕ) → IsInteger bits flags a m
    → IsInteger bits' flags' b n → a ++ x ≡ b ++ y → flags + 2 ^ bits ≤ flags' → ⊥
flags_apart bits flags bits' flags' m n a b x y i j e apart =
    let s = first_of_integer bits flags m a i in
    let t = first_of_integer bits' flags' n b j in
    let whole : s.0 ∷ (s.1 ++ x) ≡ t.0 ∷ (t.1 ++ y) =
    sym (ap (λ (f : List ℕ). f ++ x) s.2) ∙ e ∙ ap (λ (f : List ℕ). f ++ y) t.2 in
    omega (arith, heads _ _ _ _ whole, s.4, t.3, apart)

-- a string
pub string_one : (a b x y o p : List ℕ) → IsString a o → IsString b p → a ++ x ≡ b ++ y
    → (o ≡ p) × (x ≡ y)
string_one a b x y o p s t e = go s.meaning t.meaning
  where
    whole : s.size ++ (s.content ++ x) ≡ t.size ++ (t.content ++ y)
    whole =
        sym (append_assoc s.size s.content x) ∙ sym (ap (λ (f : List ℕ). f ++ x) s.spelling) ∙ e
        ∙ ap (λ (f : List ℕ). f ++ y) t.spelling ∙ append_assoc t.size t.content y

    go : (IsInteger 7 0 s.size (length s.content) × (s.content ≡ o))
        ⊎ (IsInteger 7 128 s.size (length s.content) × IsHuffman s.content o)
        → (IsInteger 7 0 t.size (length t.content) × (t.content ≡ p))
        ⊎ (IsInteger 7 128 t.size (length t.content) × IsHuffman t.content p)
        → (o ≡ p) × (x ≡ y)
    go (inl m) (inl n) =
        let i = integer_one 7 0 s.size t.size _ _ _ _ m.0 n.0 whole in
        let c = fronts_one s.content t.content x y i.0 i.1 in
        (sym m.1 ∙ c.0 ∙ n.1, c.1)
    go (inl m) (inr n) =
        absurd (flags_apart 7 0 7 128 _ _ s.size t.size _ _ m.0 n.0 whole (lit≤ tt))
    go (inr m) (inl n) =
        absurd (flags_apart 7 0 7 128 _ _ t.size s.size _ _ n.0 m.0 (sym whole) (lit≤ tt))
    go (inr m) (inr n) =
        let i = integer_one 7 128 s.size t.size _ _ _ _ m.0 n.0 whole in
        let c = fronts_one s.content t.content x y i.0 i.1 in (
          huffman_one t.content o p (subst (λ (content : List ℕ). IsHuffman content o) c.0 m.1) n.1,
          c.1,
        )

some_one : (f g : Field) → Some f ≡ Some g → f ≡ g
some_one f g e = cc

pub name_one : (table : Table) (index : ℕ) (a b x y o p : List ℕ) → IsName table index a o
    → IsName table index b p → a ++ x ≡ b ++ y → (o ≡ p) × (x ≡ y)
name_one table zero a b x y o p s t e = string_one a b x y o p s t e
name_one table (suc place) a b x y o p s t e = (
  s.1.2 ∙ ap (λ (f : Field). f.name) (some_one _ _ (sym s.1.1 ∙ t.1.1)) ∙ sym t.1.2,
  sym (ap (λ (f : List ℕ). f ++ x) s.0) ∙ e ∙ ap (λ (f : List ℕ). f ++ y) t.0,
)

field_of_two : (f g : Field) → f.name ≡ g.name → f.value ≡ g.value → f ≡ g
field_of_two f g n v =
    ap (λ (octets : List ℕ). entry octets f.value) n
    ∙ ap (λ (octets : List ℕ). entry g.name octets) v

pub literal_one : (bits flags : ℕ) (table : Table) (a b x y : List ℕ) (f g : Field)
    → IsLiteral bits flags table a f → IsLiteral bits flags table b g → a ++ x ≡ b ++ y
    → (f ≡ g) × (x ≡ y)
literal_one bits flags table a b x y f g s t e =
    let whole : s.index_text ++ (s.name_text ++ (s.value_text ++ x)) ≡ t.index_text
    ++ (t.name_text ++ (t.value_text ++ y)) =
    ap (λ (z : List ℕ). s.index_text ++ z) (sym (append_assoc s.name_text s.value_text x))
    ∙ sym (append_assoc s.index_text (s.name_text ++ s.value_text) x)
    ∙ sym (ap (λ (z : List ℕ). z ++ x) s.spelling) ∙ e ∙ ap (λ (z : List ℕ). z ++ y) t.spelling
    ∙ append_assoc t.index_text (t.name_text ++ t.value_text) y
    ∙ ap (λ (z : List ℕ). t.index_text ++ z) (append_assoc t.name_text t.value_text y) in
    let i = integer_one bits flags s.index_text t.index_text _ _ _ _ s.is_index t.is_index whole in
    let n =
    name_one table t.index s.name_text t.name_text _ _ f.name g.name
    (subst (λ (k : ℕ). IsName table k s.name_text f.name) i.0 s.is_name) t.is_name i.1 in
    let v = string_one s.value_text t.value_text x y f.value g.value s.is_value t.is_value n.1 in
    (field_of_two f g n.0 v.0, v.1)

-- a representation of a field
index_one : (table : Table) (a b x y : List ℕ) (f g : Field)
    → ((index : ℕ) × IsInteger 7 128 a index × (entry_at table index ≡ Some f))
    → ((index : ℕ) × IsInteger 7 128 b index × (entry_at table index ≡ Some g))
    → a ++ x ≡ b ++ y → (f ≡ g) × (x ≡ y)
index_one table a b x y f g s t e =
    let i = integer_one 7 128 a b x y s.0 t.0 s.1 t.1 e in
    (some_one f g (sym s.2 ∙ ap (entry_at table) i.0 ∙ t.2), i.1)

-- the flags, the prefix and the index of a form
form_flags : Form → ℕ
form_flags Indexed = 128
form_flags Incremental = 64
form_flags WithoutIndexing = 0
form_flags NeverIndexed = 16

literal_apart : (bits flags bits' flags' : ℕ) (table : Table) (a b x y : List ℕ) (f g : Field)
    → IsLiteral bits flags table a f → IsLiteral bits' flags' table b g → a ++ x ≡ b ++ y
    → flags + 2 ^ bits ≤ flags' → ⊥
literal_apart bits flags bits' flags' table a b x y f g s t e apart =
    flags_apart bits flags bits' flags' s.index t.index s.index_text t.index_text _ _
    s.is_index t.is_index
    (sym (append_assoc s.index_text (s.name_text ++ s.value_text) x)
    ∙ sym (ap (λ (z : List ℕ). z ++ x) s.spelling) ∙ e
    ∙ ap (λ (z : List ℕ). z ++ y) t.spelling
    ∙ append_assoc t.index_text (t.name_text ++ t.value_text) y) apart

indexed_apart : (bits flags : ℕ) (table : Table) (a b x y : List ℕ) (f : Field) (index : ℕ)
    → IsLiteral bits flags table a f → IsInteger 7 128 b index → a ++ x ≡ b ++ y
    → flags + 2 ^ bits ≤ 128 → ⊥
indexed_apart bits flags table a b x y f index s i e apart =
    flags_apart bits flags 7 128 s.index index s.index_text b _ y s.is_index i
    (sym (append_assoc s.index_text (s.name_text ++ s.value_text) x)
    ∙ sym (ap (λ (z : List ℕ). z ++ x) s.spelling) ∙ e) apart

same_form : (form : Form) (table next other : Table) (a b x y : List ℕ) (f g : Field)
    → IsFormOf form table a f next → IsFormOf form table b g other → a ++ x ≡ b ++ y
    → (f ≡ g) × ((next ≡ other) × (x ≡ y))
same_form Indexed table next other a b x y f g s t e =
    let i = index_one table a b x y f g s.0 t.0 e in (i.0, (s.1 ∙ sym t.1, i.1))
same_form Incremental table next other a b x y f g s t e =
    let i = literal_one 6 64 table a b x y f g s.0 t.0 e in
    (i.0, (s.1 ∙ ap (insert_entry table) i.0 ∙ sym t.1, i.1))
same_form WithoutIndexing table next other a b x y f g s t e =
    let i = literal_one 4 0 table a b x y f g s.0 t.0 e in (i.0, (s.1 ∙ sym t.1, i.1))
same_form NeverIndexed table next other a b x y f g s t e =
    let i = literal_one 4 16 table a b x y f g s.0 t.0 e in (i.0, (s.1 ∙ sym t.1, i.1))

pub field_one : (table next other : Table) (a b x y : List ℕ) (f g : Field)
    → Represents table a f next → Represents table b g other → a ++ x ≡ b ++ y
    → (f ≡ g) × ((next ≡ other) × (x ≡ y))
field_one table next other a b x y f g (Indexed, s) (Indexed, t) e =
    same_form Indexed table next other a b x y f g s t e
field_one table next other a b x y f g (Incremental, s) (Incremental, t) e =
    same_form Incremental table next other a b x y f g s t e
field_one table next other a b x y f g (WithoutIndexing, s) (WithoutIndexing, t) e =
    same_form WithoutIndexing table next other a b x y f g s t e
field_one table next other a b x y f g (NeverIndexed, s) (NeverIndexed, t) e =
    same_form NeverIndexed table next other a b x y f g s t e
field_one table next other a b x y f g (Indexed, s) (Incremental, t) e =
    absurd (indexed_apart 6 64 table b a y x g s.0.0 t.0 s.0.1 (sym e) (lit≤ tt))
field_one table next other a b x y f g (Indexed, s) (WithoutIndexing, t) e =
    absurd (indexed_apart 4 0 table b a y x g s.0.0 t.0 s.0.1 (sym e) (lit≤ tt))
field_one table next other a b x y f g (Indexed, s) (NeverIndexed, t) e =
    absurd (indexed_apart 4 16 table b a y x g s.0.0 t.0 s.0.1 (sym e) (lit≤ tt))
field_one table next other a b x y f g (Incremental, s) (Indexed, t) e =
    absurd (indexed_apart 6 64 table a b x y f t.0.0 s.0 t.0.1 e (lit≤ tt))
field_one table next other a b x y f g (WithoutIndexing, s) (Indexed, t) e =
    absurd (indexed_apart 4 0 table a b x y f t.0.0 s.0 t.0.1 e (lit≤ tt))
field_one table next other a b x y f g (NeverIndexed, s) (Indexed, t) e =
    absurd (indexed_apart 4 16 table a b x y f t.0.0 s.0 t.0.1 e (lit≤ tt))
field_one table next other a b x y f g (Incremental, s) (WithoutIndexing, t) e =
    absurd (literal_apart 4 0 6 64 table b a y x g f t.0 s.0 (sym e) (lit≤ tt))
field_one table next other a b x y f g (Incremental, s) (NeverIndexed, t) e =
    absurd (literal_apart 4 16 6 64 table b a y x g f t.0 s.0 (sym e) (lit≤ tt))
field_one table next other a b x y f g (WithoutIndexing, s) (Incremental, t) e =
    absurd (literal_apart 4 0 6 64 table a b x y f g s.0 t.0 e (lit≤ tt))
field_one table next other a b x y f g (NeverIndexed, s) (Incremental, t) e =
    absurd (literal_apart 4 16 6 64 table a b x y f g s.0 t.0 e (lit≤ tt))
field_one table next other a b x y f g (WithoutIndexing, s) (NeverIndexed, t) e =
    absurd (literal_apart 4 0 4 16 table a b x y f g s.0 t.0 e (lit≤ tt))
field_one table next other a b x y f g (NeverIndexed, s) (WithoutIndexing, t) e =
    absurd (literal_apart 4 0 4 16 table b a y x g f t.0 s.0 (sym e) (lit≤ tt))
