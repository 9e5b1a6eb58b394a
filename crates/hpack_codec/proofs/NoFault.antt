-- Where a field stands at the front of a block, no fault does.
use Rattle.std.proofs.Common.{
  ◌≡◌,
  ℕ,
  zero,
  suc,
  ◌+◌,
  ◌-◌,
  ◌%◌,
  ◌^◌,
  ◌<◌,
  ◌≤◌,
  ◌⊎◌,
  List,
  [],
  ◌∷◌,
  ◌++◌,
  length,
  refl,
  sym,
  subst,
  ◌∙◌,
  ap,
  inl,
  inr,
  lit≤,
  arith,
  append_assoc,
  length-append,
  Option,
  Some,
  None,
}
use Rattle.std.proofs.lemmas.List.{append-nil}
use Rattle.hpack_codec.specs.declared.fault.HpackFault.{HpackFault}
use Rattle.hpack_codec.specs.declared.fault.HpackFault.TheVariants.{
  Integer,
  Index,
  Huffman,
  SizeUpdate,
  Truncated,
  OutOfMemory,
  Dead,
  TooLarge,
}
use Rattle.lists.specs.declared.field.Field.{Field}
use Rattle.hpack_codec.specs.Integer.{base_128, IsInteger}
use Rattle.hpack_codec.specs.Huffman.{IsHuffman}
use Rattle.hpack_codec.specs.StringLiteral.{IsString}
use Rattle.hpack_codec.specs.Table.{Table, entry_at, resize, sizes_of}
use Rattle.hpack_codec.specs.Block.{
  IsName,
  IsLiteral,
  Form,
  Indexed,
  Incremental,
  WithoutIndexing,
  NeverIndexed,
  IsFormOf,
  AreFields,
  AreUpdates,
  IsBlock,
}
use Rattle.hpack_codec.specs.Faults.{
  IsIntegerFault,
  IsCutString,
  IsStringFault,
  IsNameFault,
  IsLiteralFault,
  IsIndexedFault,
  Begins,
  IsFaultBehind,
  StandsBehind,
  IsTooLarge,
}
use Rattle.hpack_codec.proofs.Integers.{one_end, end_behind}
use Rattle.hpack_codec.proofs.Bits.{fronts_one}
use Rattle.hpack_codec.proofs.Tables.{sizes_of-append, sizes_of-nil}
use Rattle.hpack_codec.specs.Codec.{Reads, IsFirstFault}
use Rattle.hpack_codec.proofs.Unique.{
  heads,
  tails,
  integer_one,
  first_of_integer,
  flags_apart,
  name_one,
  field_one,
}

-- an integer fault leaves no integer
pub no_integer : (fault : HpackFault) (bits flags n : ℕ) (bytes a x : List ℕ)
    → IsIntegerFault fault bits bytes
    → (flags_fit : (flags + (2 ^ bits - 1)) % 2 ^ bits ≡ 2 ^ bits - 1)
    → ((m : ℕ) → m + 1 < 2 ^ bits → (flags + m) % 2 ^ bits ≡ m)
    → IsInteger bits flags a n → bytes ≡ a ++ x → ⊥
no_integer Integer bits flags n bytes a x (inl f) fit low (inl s) e =
    let whole : f.begins.0 ∷ (f.front ++ f.more) ≡ (flags + n) ∷ x =
    sym f.begins.1 ∙ e ∙ ap (λ (z : List ℕ). z ++ x) s.spelling in
    omega
    (arith, sym (ap (λ k. k % 2 ^ bits) (heads _ _ _ _ whole)) ∙ f.begins.2, low n s.small, s.small)
no_integer Integer bits flags n bytes a x (inl f) fit low (inr s) e =
    let whole : f.begins.0 ∷ (f.front ++ f.more) ≡ (flags + (2 ^ bits - 1))
    ∷ (s.front ++ s.last ∷ []) ++ x = sym f.begins.1 ∙ e ∙ ap (λ (z : List ℕ). z ++ x) s.spelling in
    omega (
      arith,
      end_behind f.front s.front s.last f.more x f.unfinished s.finished
          (tails _ _ _ _ whole ∙ append_assoc s.front (s.last ∷ []) x),
      f.five,
      s.at_most_six,
    )
no_integer Integer bits flags n bytes a x (inr f) fit low (inl s) e =
    let whole : f.begins.0 ∷ (f.front ++ f.last ∷ f.more) ≡ (flags + n) ∷ x =
    sym f.begins.1 ∙ e ∙ ap (λ (z : List ℕ). z ++ x) s.spelling in
    omega
    (arith, sym (ap (λ k. k % 2 ^ bits) (heads _ _ _ _ whole)) ∙ f.begins.2, low n s.small, s.small)
no_integer Integer bits flags n bytes a x (inr f) fit low (inr s) e =
    let whole : f.begins.0 ∷ (f.front ++ f.last ∷ f.more) ≡ (flags + (2 ^ bits - 1))
    ∷ (s.front ++ s.last ∷ []) ++ x = sym f.begins.1 ∙ e ∙ ap (λ (z : List ℕ). z ++ x) s.spelling in
    let same =
    one_end f.front s.front f.last s.last f.more x f.unfinished f.finished s.unfinished s.finished
    (tails _ _ _ _ whole ∙ append_assoc s.front (s.last ∷ []) x) in
    omega (
      arith,
      f.over,
      s.below,
      s.sum,
      ap base_128
          (ap (λ (z : List ℕ). z ++ f.last ∷ []) same.0 ∙ ap (λ k. s.front ++ k ∷ []) same.1),
    )
no_integer Truncated bits flags n bytes a x (inl f) fit low i e =
    let some = first_of_integer bits flags n a i in
    omega (arith, ap length (sym f ∙ e ∙ ap (λ (z : List ℕ). z ++ x) some.2))
no_integer Truncated bits flags n bytes a x (inr f) fit low (inl s) e =
    let whole : f.1.0 ∷ f.0 ≡ (flags + n) ∷ x =
    sym f.1.1 ∙ e ∙ ap (λ (z : List ℕ). z ++ x) s.spelling in
    omega
    (arith, sym (ap (λ k. k % 2 ^ bits) (heads _ _ _ _ whole)) ∙ f.1.2, low n s.small, s.small)
no_integer Truncated bits flags n bytes a x (inr f) fit low (inr s) e =
    let whole : f.1.0 ∷ f.0 ≡ (flags + (2 ^ bits - 1)) ∷ (s.front ++ s.last ∷ []) ++ x =
    sym f.1.1 ∙ e ∙ ap (λ (z : List ℕ). z ++ x) s.spelling in
    let behind : f.0 ≡ s.front ++ s.last ∷ x =
    tails _ _ _ _ whole ∙ append_assoc s.front (s.last ∷ []) x in
    omega (
      arith,
      end_behind f.0 s.front s.last [] x f.2 s.finished (append-nil f.0 ∙ behind),
      ap length behind,
      length-append s.front (s.last ∷ x),
    )
no_integer Index bits flags n bytes a x f fit low i e = f
no_integer Huffman bits flags n bytes a x f fit low i e = f
no_integer SizeUpdate bits flags n bytes a x f fit low i e = f
no_integer OutOfMemory bits flags n bytes a x f fit low i e = f
no_integer Dead bits flags n bytes a x f fit low i e = f
no_integer TooLarge bits flags n bytes a x f fit low i e = f

-- the flags that stand above a prefix
fit_7_0 : (0 + (2 ^ 7 - 1)) % 2 ^ 7 ≡ 2 ^ 7 - 1
fit_7_0 = refl

low_7 : (flags m : ℕ) → (flags ≡ 0) ⊎ (flags ≡ 128) → m + 1 < 2 ^ 7 → (flags + m) % 2 ^ 7 ≡ m
low_7 flags m (inl e) h = omega (arith, e, h)
low_7 flags m (inr e) h = omega (arith, e, h)

pub no_integer_7 : (fault : HpackFault) (flags n : ℕ) (bytes a x : List ℕ)
    → (flags ≡ 0) ⊎ (flags ≡ 128) → IsIntegerFault fault 7 bytes → IsInteger 7 flags a n
    → bytes ≡ a ++ x → ⊥
no_integer_7 fault flags n bytes a x (inl z) f i e =
    no_integer fault 7 flags n bytes a x f (ap (λ k. (k + (2 ^ 7 - 1)) % 2 ^ 7) z)
    (λ m h. low_7 flags m (inl z) h) i e
no_integer_7 fault flags n bytes a x (inr z) f i e =
    no_integer fault 7 flags n bytes a x f (ap (λ k. (k + (2 ^ 7 - 1)) % 2 ^ 7) z)
    (λ m h. low_7 flags m (inr z) h) i e

-- the length of a string, whichever flag it has
string_size : (a o : List ℕ) (s : IsString a o)
    → (flags : ℕ) × ((flags ≡ 0) ⊎ (flags ≡ 128)) × IsInteger 7 flags s.size (length s.content)
string_size a o s = elim (s.meaning) [ inl m ↦ (0, inl refl, m.0) | inr m ↦ (128, inr refl, m.0) ]

pub cut_size : (bytes : List ℕ) (f : IsCutString bytes)
    → (flags : ℕ) × ((flags ≡ 0) ⊎ (flags ≡ 128)) × IsInteger 7 flags f.size f.len
cut_size bytes f = elim (f.is_size) [ inl i ↦ (0, inl refl, i) | inr i ↦ (128, inr refl, i) ]

string_spelled : (bytes a x o : List ℕ) (s : IsString a o) → bytes ≡ a ++ x
    → bytes ≡ s.size ++ (s.content ++ x)
string_spelled bytes a x o s e =
    e ∙ ap (λ (z : List ℕ). z ++ x) s.spelling ∙ append_assoc s.size s.content x

-- lengths of strings whose flags may differ
pub size_one : (flags flags' : ℕ) (a b x y : List ℕ) (m n : ℕ) → (flags ≡ 0) ⊎ (flags ≡ 128)
    → (flags' ≡ 0) ⊎ (flags' ≡ 128) → IsInteger 7 flags a m → IsInteger 7 flags' b n
    → a ++ x ≡ b ++ y → (m ≡ n) × (x ≡ y)
size_one flags flags' a b x y m n (inl z) (inl w) i j e =
    integer_one 7 0 a b x y m n (subst (λ (k : ℕ). IsInteger 7 k a m) z i)
    (subst (λ (k : ℕ). IsInteger 7 k b n) w j) e
size_one flags flags' a b x y m n (inr z) (inr w) i j e =
    integer_one 7 128 a b x y m n (subst (λ (k : ℕ). IsInteger 7 k a m) z i)
    (subst (λ (k : ℕ). IsInteger 7 k b n) w j) e
size_one flags flags' a b x y m n (inl z) (inr w) i j e =
    absurd (flags_apart 7 flags 7 flags' m n a b x y i j e (omega (arith, z, w)))
size_one flags flags' a b x y m n (inr z) (inl w) i j e =
    absurd (flags_apart 7 flags' 7 flags n m b a y x j i (sym e) (omega (arith, z, w)))

-- where a string is, no string fault stands
pub no_string : (fault : HpackFault) (bytes a x o : List ℕ) → IsStringFault fault bytes
    → IsString a o → bytes ≡ a ++ x → ⊥
no_string Integer bytes a x o f s e =
    let i = string_size a o s in
    no_integer_7 Integer i.0 _ bytes s.size _ i.1 f i.2 (string_spelled bytes a x o s e)
no_string Truncated bytes a x o (inl f) s e =
    let i = string_size a o s in
    no_integer_7 Truncated i.0 _ bytes s.size _ i.1 f i.2 (string_spelled bytes a x o s e)
no_string Truncated bytes a x o (inr f) s e =
    let i = string_size a o s in
    let j = cut_size bytes f in
    let same =
    size_one j.0 i.0 f.size s.size f.content (s.content ++ x) f.len (length s.content) j.1 i.1 j.2
    i.2 (sym f.spelling ∙ string_spelled bytes a x o s e) in
    omega (arith, f.short, same.0, ap length same.1, length-append s.content x)
no_string Huffman bytes a x o f s e =
    elim (s.meaning) [
      | inl m ↦
          flags_apart 7 0 7 128 _ _ s.size f.size _ _ m.0 f.is_size
          (sym (string_spelled bytes a x o s e) ∙ f.spelling) (lit≤ tt)
      | inr m ↦
          (let same =
          integer_one 7 128 f.size s.size _ _ _ _ f.is_size m.0
          (sym f.spelling ∙ string_spelled bytes a x o s e) in
          let c = fronts_one f.content s.content f.rest x same.0 same.1 in
          f.none o (subst (λ (content : List ℕ). IsHuffman content o) (sym c.0) m.1))
    ]
no_string Index bytes a x o f s e = f
no_string SizeUpdate bytes a x o f s e = f
no_string OutOfMemory bytes a x o f s e = f
no_string Dead bytes a x o f s e = f
no_string TooLarge bytes a x o f s e = f

-- behind a literal's index
no_none : (table : Table) (index : ℕ) (f : Field) → entry_at table index ≡ None
    → entry_at table index ≡ Some f → ⊥
no_none table index f n s = let e : None ≡ Some f = sym n ∙ s in cc

pub no_name_fault : (fault : HpackFault) (table : Table) (index : ℕ) (bytes a x o : List ℕ)
    → IsNameFault fault table index bytes → IsName table index a o → bytes ≡ a ++ x → ⊥
no_name_fault fault table zero bytes a x o f s e = no_string fault bytes a x o f s e
no_name_fault fault table (suc place) bytes a x o f s e = no_none table (suc place) s.1.0 f.1 s.1.1

pub no_literal : (fault : HpackFault) (bits flags : ℕ) (table : Table)
    (bytes a x : List ℕ) (g : Field)
    → (flags + (2 ^ bits - 1)) % 2 ^ bits ≡ 2 ^ bits - 1
    → ((m : ℕ) → m + 1 < 2 ^ bits → (flags + m) % 2 ^ bits ≡ m)
    → IsLiteralFault fault bits flags table bytes → IsLiteral bits flags table a g
    → bytes ≡ a ++ x → ⊥
no_literal fault bits flags table bytes a x g fit low (inl f) s e =
    no_integer fault bits flags s.index bytes s.index_text ((s.name_text ++ s.value_text) ++ x) f
    fit low s.is_index
    (e ∙ ap (λ (z : List ℕ). z ++ x) s.spelling
    ∙ append_assoc s.index_text (s.name_text ++ s.value_text) x)
no_literal fault bits flags table bytes a x g fit low (inr f) s e =
    let whole : f.1 ++ f.2 ≡ s.index_text ++ (s.name_text ++ (s.value_text ++ x)) =
    sym f.3 ∙ e ∙ ap (λ (z : List ℕ). z ++ x) s.spelling
    ∙ append_assoc s.index_text (s.name_text ++ s.value_text) x
    ∙ ap (λ (z : List ℕ). s.index_text ++ z) (append_assoc s.name_text s.value_text x) in
    let i = integer_one bits flags f.1 s.index_text _ _ _ _ f.4 s.is_index whole in
    let named : IsName table f.0 s.name_text g.name =
    subst (λ (k : ℕ). IsName table k s.name_text g.name) (sym i.0) s.is_name in
    elim (f.5) [
      | inl name ↦
          no_name_fault fault table f.0 f.2 s.name_text (s.value_text ++ x) g.name name named i.1
      | inr value ↦
          (let n =
          name_one table f.0 value.0 s.name_text value.2 (s.value_text ++ x) value.1 g.name value.4
          named (sym value.3 ∙ i.1) in
          no_string fault value.2 s.value_text x g.value value.5 s.is_value n.1)
    ]

pub no_indexed : (fault : HpackFault) (table : Table) (bytes a x : List ℕ) (index : ℕ) (g : Field)
    → IsIndexedFault fault table bytes → IsInteger 7 128 a index → entry_at table index ≡ Some g
    → bytes ≡ a ++ x → ⊥
no_indexed fault table bytes a x index g (inl f) i s e =
    no_integer_7 fault 128 index bytes a x (inr refl) f i e
no_indexed fault table bytes a x index g (inr f) i s e =
    let same = integer_one 7 128 f.1 a f.2 x f.0 index f.4 i (sym f.3 ∙ e) in
    no_none table index g (ap (entry_at table) (sym same.0) ∙ f.6) s

-- the first byte of a representation, in its form's range
abbrev low_of : Form → ℕ
low_of Indexed = 128
low_of Incremental = 64
low_of WithoutIndexing = 0
low_of NeverIndexed = 16

abbrev high_of : Form → ℕ
high_of Indexed = 256
high_of Incremental = 128
high_of WithoutIndexing = 16
high_of NeverIndexed = 32

FirstIn : ℕ → ℕ → List ℕ → Type 0
FirstIn low high a =
    (first : ℕ) × (more : List ℕ) × (a ≡ first ∷ more) × (low ≤ first) × (first < high)

first_of_literal : (bits flags : ℕ) (table : Table) (a : List ℕ) (f : Field)
    → IsLiteral bits flags table a f
    → (first : ℕ) × (more : List ℕ) × (a ≡ first ∷ more) × (flags ≤ first)
    × (first < flags + 2 ^ bits)
first_of_literal bits flags table a f s =
    let i = first_of_integer bits flags s.index s.index_text s.is_index in (
      i.0,
      i.1 ++ (s.name_text ++ s.value_text),
      s.spelling ∙ ap (λ (z : List ℕ). z ++ (s.name_text ++ s.value_text)) i.2,
      i.3,
      i.4,
    )

first_of_field : (form : Form) (table next : Table) (a : List ℕ) (f : Field)
    → IsFormOf form table a f next
    → (first : ℕ) × (more : List ℕ) × (a ≡ first ∷ more) × (low_of form ≤ first)
    × (first < high_of form)
first_of_field Indexed table next a f s = first_of_integer 7 128 s.0.0 a s.0.1
first_of_field Incremental table next a f s = first_of_literal 6 64 table a f s.0
first_of_field WithoutIndexing table next a f s = first_of_literal 4 0 table a f s.0
first_of_field NeverIndexed table next a f s = first_of_literal 4 16 table a f s.0

-- a range that the form's first byte isn't in
not_in : (form : Form) (table next : Table) (low high : ℕ) (bytes a x : List ℕ) (f : Field)
    → Begins low high bytes → IsFormOf form table a f next → bytes ≡ a ++ x
    → (high ≤ low_of form) ⊎ (high_of form ≤ low) → ⊥
not_in form table next low high bytes a x f b s e apart =
    let first = first_of_field form table next a f s in
    let same : b.0 ≡ first.0 =
    heads b.0 first.0 b.1 (first.1 ++ x) (sym b.2 ∙ e ∙ ap (λ (z : List ℕ). z ++ x) first.2) in
    elim apart [
      | inl below ↦ omega (arith, below, same, first.3, b.4)
      | inr above ↦ omega (arith, above, same, first.4, b.3)
    ]

pub fit_64 : (m : ℕ) → m + 1 < 2 ^ 6 → (64 + m) % 2 ^ 6 ≡ m
fit_64 m h = omega arith

pub fit_16 : (m : ℕ) → m + 1 < 2 ^ 4 → (16 + m) % 2 ^ 4 ≡ m
fit_16 m h = omega arith

pub fit_0 : (m : ℕ) → m + 1 < 2 ^ 4 → (0 + m) % 2 ^ 4 ≡ m
fit_0 m h = omega arith

-- where a field is, no fault stands, whatever stood before it
pub no_field : (form : Form) (fault : HpackFault) (fields : List Field) (table next : Table)
    (bytes a x : List ℕ) (f : Field)
    → IsFaultBehind fault fields table bytes → IsFormOf form table a f next → bytes ≡ a ++ x → ⊥
no_field Indexed fault fields table next bytes a x f (inl d) s e =
    no_indexed fault table bytes a x s.0.0 f d.1 s.0.1 s.0.2 e
no_field Incremental fault fields table next bytes a x f (inl d) s e =
    not_in Incremental table next 128 256 bytes a x f d.0 s e (inr (lit≤ tt))
no_field WithoutIndexing fault fields table next bytes a x f (inl d) s e =
    not_in WithoutIndexing table next 128 256 bytes a x f d.0 s e (inr (lit≤ tt))
no_field NeverIndexed fault fields table next bytes a x f (inl d) s e =
    not_in NeverIndexed table next 128 256 bytes a x f d.0 s e (inr (lit≤ tt))
no_field Indexed fault fields table next bytes a x f (inr (inl d)) s e =
    not_in Indexed table next 64 128 bytes a x f d.0 s e (inl (lit≤ tt))
no_field Incremental fault fields table next bytes a x f (inr (inl d)) s e =
    no_literal fault 6 64 table bytes a x f refl fit_64 d.1 s.0 e
no_field WithoutIndexing fault fields table next bytes a x f (inr (inl d)) s e =
    not_in WithoutIndexing table next 64 128 bytes a x f d.0 s e (inr (lit≤ tt))
no_field NeverIndexed fault fields table next bytes a x f (inr (inl d)) s e =
    not_in NeverIndexed table next 64 128 bytes a x f d.0 s e (inr (lit≤ tt))
no_field Indexed fault fields table next bytes a x f (inr (inr (inl d))) s e =
    not_in Indexed table next 16 32 bytes a x f d.0 s e (inl (lit≤ tt))
no_field Incremental fault fields table next bytes a x f (inr (inr (inl d))) s e =
    not_in Incremental table next 16 32 bytes a x f d.0 s e (inl (lit≤ tt))
no_field WithoutIndexing fault fields table next bytes a x f (inr (inr (inl d))) s e =
    not_in WithoutIndexing table next 16 32 bytes a x f d.0 s e (inr (lit≤ tt))
no_field NeverIndexed fault fields table next bytes a x f (inr (inr (inl d))) s e =
    no_literal fault 4 16 table bytes a x f refl fit_16 d.1 s.0 e
no_field Indexed fault fields table next bytes a x f (inr (inr (inr (inl d)))) s e =
    not_in Indexed table next 0 16 bytes a x f d.0 s e (inl (lit≤ tt))
no_field Incremental fault fields table next bytes a x f (inr (inr (inr (inl d)))) s e =
    not_in Incremental table next 0 16 bytes a x f d.0 s e (inl (lit≤ tt))
no_field WithoutIndexing fault fields table next bytes a x f (inr (inr (inr (inl d)))) s e =
    no_literal fault 4 0 table bytes a x f refl fit_0 d.1 s.0 e
no_field NeverIndexed fault fields table next bytes a x f (inr (inr (inr (inl d)))) s e =
    not_in NeverIndexed table next 0 16 bytes a x f d.0 s e (inl (lit≤ tt))
no_field Indexed fault fields table next bytes a x f (inr (inr (inr (inr (inl d))))) s e =
    not_in Indexed table next 32 64 bytes a x f d.0 s e (inl (lit≤ tt))
no_field Incremental fault fields table next bytes a x f (inr (inr (inr (inr (inl d))))) s e =
    not_in Incremental table next 32 64 bytes a x f d.0 s e (inl (lit≤ tt))
no_field WithoutIndexing fault fields table next bytes a x f (inr (inr (inr (inr (inl d))))) s e =
    not_in WithoutIndexing table next 32 64 bytes a x f d.0 s e (inr (lit≤ tt))
no_field NeverIndexed fault fields table next bytes a x f (inr (inr (inr (inr (inl d))))) s e =
    not_in NeverIndexed table next 32 64 bytes a x f d.0 s e (inr (lit≤ tt))
no_field Indexed fault fields table next bytes a x f (inr (inr (inr (inr (inr d))))) s e =
    not_in Indexed table next 32 64 bytes a x f d.0 s e (inl (lit≤ tt))
no_field Incremental fault fields table next bytes a x f (inr (inr (inr (inr (inr d))))) s e =
    not_in Incremental table next 32 64 bytes a x f d.0 s e (inl (lit≤ tt))
no_field WithoutIndexing fault fields table next bytes a x f (inr (inr (inr (inr (inr d))))) s e =
    not_in WithoutIndexing table next 32 64 bytes a x f d.0 s e (inr (lit≤ tt))
no_field NeverIndexed fault fields table next bytes a x f (inr (inr (inr (inr (inr d))))) s e =
    not_in NeverIndexed table next 32 64 bytes a x f d.0 s e (inr (lit≤ tt))

-- fields that begin a list are the first of its fields
pub fields_front : (table mid next : Table) (text front rest : List ℕ) (fields firsts : List Field)
    → AreFields table text fields next → AreFields table front firsts mid → text ≡ front ++ rest
    → (more : List Field) × (fields ≡ firsts ++ more) × AreFields mid rest more next
unfolding AreFields
fields_front table mid next text front rest fields [] a b e = (
  fields,
  refl,
  subst (λ (t : Table). AreFields t rest fields next) (sym b.1) (subst
      (λ (z : List ℕ). AreFields table z fields next) (e ∙ ap (λ (z : List ℕ). z ++ rest) b.0) a),
)
fields_front table mid next text front rest [] (g ∷ firsts) a b e =
    let first = first_of_field b.4.0 table b.2 b.0 g b.4.1 in
    absurd (omega (
      arith,
      ap length (sym a.0 ∙ e ∙ ap (λ (z : List ℕ). z ++ rest) b.3),
      length-append (b.0 ++ b.1) rest,
      length-append b.0 b.1,
      ap length first.2,
    ))
fields_front table mid next text front rest (f ∷ fields) (g ∷ firsts) a b e =
    let whole : a.0 ++ a.1 ≡ b.0 ++ (b.1 ++ rest) =
    sym a.3 ∙ e ∙ ap (λ (z : List ℕ). z ++ rest) b.3 ∙ append_assoc b.0 b.1 rest in
    let same = field_one table a.2 b.2 a.0 b.0 a.1 (b.1 ++ rest) f g a.4 b.4 whole in
    let again =
    fields_front b.2 mid next a.1 b.1 rest fields firsts
    (subst (λ (t : Table). AreFields t a.1 fields next) same.1.0 a.5) b.5 same.1.1 in (
      again.0,
      ap (λ (h : Field). h ∷ fields) same.0 ∙ ap (λ (z : List Field). g ∷ z) again.1,
      again.2,
    )

-- a list of fields begins with no change of size
no_update : (table next : Table) (text : List ℕ) (fields : List Field)
    → AreFields table text fields next → Begins 32 64 text → ⊥
unfolding AreFields
no_update table next text [] a b = omega (arith, ap length (sym a.0 ∙ b.2))
no_update table next text (f ∷ fields) a b =
    elim (ranged a.4.0) [
      | inl below ↦ not_in a.4.0 table a.2 32 64 text a.0 a.1 f b a.4.1 a.3 (inl below)
      | inr above ↦ not_in a.4.0 table a.2 32 64 text a.0 a.1 f b a.4.1 a.3 (inr above)
    ]
  where
    ranged : (form : Form) → (64 ≤ low_of form) ⊎ (high_of form ≤ 32)
    ranged Indexed = inl (lit≤ tt)
    ranged Incremental = inl (lit≤ tt)
    ranged WithoutIndexing = inr (lit≤ tt)
    ranged NeverIndexed = inr (lit≤ tt)

pub update_begins : (text rest : List ℕ) (limit : ℕ) → IsInteger 5 32 text limit
    → Begins 32 64 (text ++ rest)
update_begins text rest limit i =
    let first = first_of_integer 5 32 limit text i in
    (first.0, first.1 ++ rest, ap (λ (z : List ℕ). z ++ rest) first.2, first.3, first.4)

-- changes of size that begin a block are the first of its changes
pub updates_front : (table now mid : Table) (a b x y : List ℕ) (limits firsts : List ℕ)
    → AreUpdates table a limits mid → AreUpdates table b firsts now → a ++ x ≡ b ++ y
    → (Begins 32 64 x → ⊥)
    → (more others : List ℕ) × AreUpdates now more others mid × (y ≡ more ++ x)
unfolding AreUpdates
updates_front table now mid a b x y limits [] s t e none = (
  a,
  limits,
  subst (λ (z : Table). AreUpdates z a limits mid) (sym t.1) s,
  sym (e ∙ ap (λ (z : List ℕ). z ++ y) t.0),
)
updates_front table now mid a b x y [] (l ∷ firsts) s t e none =
    absurd (none (subst (Begins 32 64)
    (sym (ap (λ (z : List ℕ). z ++ y) t.2) ∙ sym e ∙ ap (λ (z : List ℕ). z ++ x) s.0)
    (subst (Begins 32 64) (sym (append_assoc t.0 t.1 y)) (update_begins t.0 (t.1 ++ y) l t.3))))
updates_front table now mid a b x y (k ∷ limits) (l ∷ firsts) s t e none =
    let whole : s.0 ++ (s.1 ++ x) ≡ t.0 ++ (t.1 ++ y) =
    sym (append_assoc s.0 s.1 x) ∙ sym (ap (λ (z : List ℕ). z ++ x) s.2) ∙ e
    ∙ ap (λ (z : List ℕ). z ++ y) t.2 ∙ append_assoc t.0 t.1 y in
    let same = integer_one 5 32 s.0 t.0 _ _ k l s.3 t.3 whole in
    updates_front (resize table l) now mid s.1 t.1 x y limits firsts
    (subst (λ (n : ℕ). AreUpdates (resize table n) s.1 limits mid) same.0 s.5) t.5 same.1 none

-- nothing is left behind all bytes
none_left : (table next : Table) (fields : List Field) → AreFields table [] fields next
    → (fields ≡ []) × (next ≡ table)
unfolding AreFields
none_left table next [] a = (refl, a.1)
none_left table next (f ∷ fields) a =
    let first = first_of_field a.4.0 table a.2 a.0 f a.4.1 in
    absurd (omega (arith, ap length a.3, length-append a.0 a.1, ap length first.2))

-- no change is left where none begins the rest
settled : (table mid : Table) (text rest others : List ℕ) → AreUpdates table text others mid
    → (Begins 32 64 (text ++ rest) → ⊥) → (text ≡ []) × (mid ≡ table)
unfolding AreUpdates
settled table mid text rest [] a none = (a.0, a.1)
settled table mid text rest (l ∷ others) a none =
    absurd (none (subst (Begins 32 64)
    (sym (ap (λ (z : List ℕ). z ++ rest) a.2 ∙ append_assoc a.0 a.1 rest))
    (update_begins a.0 (a.1 ++ rest) l a.3)))

-- fields, and then anything, begin with no change
pub no_update_behind : (table next : Table) (text rest : List ℕ) (field : Field)
    (fields : List Field)
    → AreFields table text (field ∷ fields) next → Begins 32 64 (text ++ rest) → ⊥
unfolding AreFields
no_update_behind table next text rest f fields a b =
    elim (ranged a.4.0) [
      | inl below ↦
          not_in a.4.0 table a.2 32 64 (text ++ rest) a.0 (a.1 ++ rest) f b a.4.1
          (ap (λ (z : List ℕ). z ++ rest) a.3 ∙ append_assoc a.0 a.1 rest) (inl below)
      | inr above ↦
          not_in a.4.0 table a.2 32 64 (text ++ rest) a.0 (a.1 ++ rest) f b a.4.1
          (ap (λ (z : List ℕ). z ++ rest) a.3 ∙ append_assoc a.0 a.1 rest) (inr above)
    ]
  where
    ranged : (form : Form) → (64 ≤ low_of form) ⊎ (high_of form ≤ 32)
    ranged Indexed = inl (lit≤ tt)
    ranged Incremental = inl (lit≤ tt)
    ranged WithoutIndexing = inr (lit≤ tt)
    ranged NeverIndexed = inr (lit≤ tt)

-- a block has one reading
pub block_one : (table next other : Table) (block : List ℕ) (fields gs : List Field)
    → IsBlock table block fields next → IsBlock table block gs other
    → (fields ≡ gs) × (next ≡ other)
block_one table next other block fields gs a b =
    let u =
    updates_front table b.mid a.mid a.updates b.updates a.rest b.rest a.limits b.limits
    a.are_updates b.are_updates (sym a.spelling ∙ b.spelling)
    (no_update a.mid next a.rest fields a.are_fields) in
    let s =
    settled b.mid a.mid u.0 a.rest u.1 u.2 (λ begins.
    no_update b.mid other b.rest gs b.are_fields (subst (Begins 32 64) (sym u.3) begins)) in
    let same : a.rest ≡ b.rest ++ [] =
    sym (u.3 ∙ ap (λ (z : List ℕ). z ++ a.rest) s.0) ∙ sym (append-nil b.rest) in
    let f =
    fields_front b.mid other next a.rest b.rest [] fields gs
    (subst (λ (t : Table). AreFields t a.rest fields next) s.1 a.are_fields) b.are_fields same in
    let end = none_left other next f.0 f.2 in
    (f.1 ∙ ap (λ (z : List Field). gs ++ z) end.0 ∙ append-nil gs, end.1)

pub apart_begins : (low high low' high' : ℕ) (bytes : List ℕ) → Begins low high bytes
    → Begins low' high' bytes → (high ≤ low') ⊎ (high' ≤ low) → ⊥
apart_begins low high low' high' bytes a b (inl h) =
    omega (arith, heads a.0 b.0 a.1 b.1 (sym a.2 ∙ b.2), a.3, a.4, b.3, b.4, h)
apart_begins low high low' high' bytes a b (inr h) =
    omega (arith, heads a.0 b.0 a.1 b.1 (sym a.2 ∙ b.2), a.3, a.4, b.3, b.4, h)

pub fit_32 : (m : ℕ) → m + 1 < 2 ^ 5 → (32 + m) % 2 ^ 5 ≡ m
fit_32 m h = omega arith

-- where a change of size is, no fault stands before the first field
pub no_change : (fault : HpackFault) (table : Table) (bytes text rest : List ℕ) (limit : ℕ)
    → IsFaultBehind fault [] table bytes → IsInteger 5 32 text limit → limit ≤ 4096
    → bytes ≡ text ++ rest → ⊥
no_change fault table bytes text rest limit (inl d) i h e =
    apart_begins 128 256 32 64 bytes d.0
    (subst (Begins 32 64) (sym e) (update_begins text rest limit i)) (inr (lit≤ tt))
no_change fault table bytes text rest limit (inr (inl d)) i h e =
    apart_begins 64 128 32 64 bytes d.0
    (subst (Begins 32 64) (sym e) (update_begins text rest limit i)) (inr (lit≤ tt))
no_change fault table bytes text rest limit (inr (inr (inl d))) i h e =
    apart_begins 16 32 32 64 bytes d.0
    (subst (Begins 32 64) (sym e) (update_begins text rest limit i)) (inl (lit≤ tt))
no_change fault table bytes text rest limit (inr (inr (inr (inl d)))) i h e =
    apart_begins 0 16 32 64 bytes d.0
    (subst (Begins 32 64) (sym e) (update_begins text rest limit i)) (inl (lit≤ tt))
no_change fault table bytes text rest limit (inr (inr (inr (inr (inr d))))) i h e = d.1 refl
no_change fault table bytes text rest limit (inr (inr (inr (inr (inl d))))) i h e =
    elim (d.2) [
      | inl f ↦ no_integer fault 5 32 limit bytes text rest f refl fit_32 i e
      | inr f ↦ omega
          (arith, f.6, h, (integer_one 5 32 f.1 text f.2 rest f.0 limit f.4 i (sym f.3 ∙ e)).0)
    ]

fault_some : (fault : HpackFault) (fields : List Field) (table : Table) (bytes : List ℕ)
    → IsFaultBehind fault fields table bytes → 0 < length bytes
fault_some fault fields table bytes (inl d) = omega (arith, ap length d.0.2)
fault_some fault fields table bytes (inr (inl d)) = omega (arith, ap length d.0.2)
fault_some fault fields table bytes (inr (inr (inl d))) = omega (arith, ap length d.0.2)
fault_some fault fields table bytes (inr (inr (inr (inl d)))) = omega (arith, ap length d.0.2)
fault_some fault fields table bytes (inr (inr (inr (inr (inl d))))) = omega (arith, ap length d.0.2)
fault_some fault fields table bytes (inr (inr (inr (inr (inr d))))) = omega (arith, ap length d.0.2)

-- fields go on where the front of them ends: no fault stands there
no_fault_between : (fault : HpackFault) (gs more : List Field) (table next : Table) (rest : List ℕ)
    → IsFaultBehind fault gs table rest → AreFields table rest more next → ⊥
unfolding AreFields
no_fault_between fault gs [] table next rest f a =
    omega (arith, fault_some fault gs table rest f, ap length a.0)
no_fault_between fault gs (m ∷ more) table next rest f a =
    no_field a.4.0 fault gs table a.2 rest a.0 a.1 m f a.4.1 a.3

nothing : (table next : Table) (text : List ℕ) → AreFields table text [] next → text ≡ []
unfolding AreFields
nothing table next text a = a.0

-- The parts of a block and of a front of it: the front's fields are the first of the block's, or it
-- has none yet.
no_stand_parts : (fault : HpackFault) (table next now mid other : Table) (rest front end : List ℕ)
    (others : List ℕ) (more : List ℕ) (fields gs : List Field)
    → AreUpdates now more others mid → AreFields mid rest fields next → AreFields now front gs other
    → front ++ end ≡ more ++ rest → IsFaultBehind fault gs other end → ⊥
unfolding AreUpdates
no_stand_parts fault table next now mid other rest front end [] more fields gs u a b e f =
    let same : rest ≡ front ++ end = sym (e ∙ ap (λ (z : List ℕ). z ++ rest) u.0) in
    let first =
    fields_front now other next rest front end fields gs
    (subst (λ (t : Table). AreFields t rest fields next) u.1 a) b same in
    no_fault_between fault gs first.0 other next end f first.2
no_stand_parts fault table next now mid other rest front end (l ∷ others) more fields
    (g ∷ gs) u a b e f =
    no_update_behind now other front end g gs b
    (subst (Begins 32 64) (sym (e ∙ ap (λ (z : List ℕ). z ++ rest) u.2 ∙ append_assoc u.0 u.1 rest))
    (update_begins u.0 (u.1 ++ rest) l u.3))
no_stand_parts fault table next now mid other rest front end (l ∷ others) more fields [] u a b e f =
    no_change fault other end u.0 (u.1 ++ rest) l f u.3 u.4
    (ap (λ (z : List ℕ). z ++ end) (sym (nothing now other front b)) ∙ e
    ∙ ap (λ (z : List ℕ). z ++ rest) u.2 ∙ append_assoc u.0 u.1 rest)

front_spelled : (table next other : Table) (block front end : List ℕ) (fields gs : List Field)
    (a : IsBlock table block fields next) (b : IsBlock table front gs other)
    → block ≡ front ++ end
    → a.updates ++ a.rest ≡ b.updates ++ (b.rest ++ end)
front_spelled table next other block front end fields gs a b e =
    sym a.spelling ∙ e ∙ ap (λ (z : List ℕ). z ++ end) b.spelling
    ∙ append_assoc b.updates b.rest end

no_stand : (fault : HpackFault) (table next : Table) (block : List ℕ) (fields : List Field)
    → IsBlock table block fields next → StandsBehind fault table block → ⊥
no_stand fault table next block fields a s =
    let b = s.is_block in
    let u =
    updates_front table b.mid a.mid a.updates b.updates a.rest (b.rest ++ s.rest) a.limits b.limits
    a.are_updates b.are_updates
    (front_spelled table next s.mid block s.front s.rest fields s.fields a b s.spelling)
    (no_update a.mid next a.rest fields a.are_fields) in
    no_stand_parts fault table next b.mid a.mid s.mid a.rest b.rest s.rest u.1 u.0 fields s.fields
    u.2 a.are_fields b.are_fields u.3 s.is_fault

large_parts : (next now mid other : Table) (rest front end : List ℕ) (others : List ℕ)
    (more : List ℕ) (fields gs : List Field)
    → AreUpdates now more others mid → AreFields mid rest fields next → AreFields now front gs other
    → front ++ end ≡ more ++ rest → sizes_of gs ≤ sizes_of fields
unfolding AreUpdates
large_parts next now mid other rest front end [] more fields gs u a b e =
    let same : rest ≡ front ++ end = sym (e ∙ ap (λ (z : List ℕ). z ++ rest) u.0) in
    let first =
    fields_front now other next rest front end fields gs
    (subst (λ (t : Table). AreFields t rest fields next) u.1 a) b same in
    omega (arith, ap sizes_of first.1, sizes_of-append gs first.0)
large_parts next now mid other rest front end (l ∷ others) more fields (g ∷ gs) u a b e =
    absurd (no_update_behind now other front end g gs b
    (subst (Begins 32 64) (sym (e ∙ ap (λ (z : List ℕ). z ++ rest) u.2 ∙ append_assoc u.0 u.1 rest))
    (update_begins u.0 (u.1 ++ rest) l u.3)))
large_parts next now mid other rest front end (l ∷ others) more fields [] u a b e =
    omega (arith, sizes_of-nil)

no_large : (table next : Table) (block : List ℕ) (fields : List Field)
    → IsBlock table block fields next → sizes_of fields ≤ 65536 → IsTooLarge table block → ⊥
no_large table next block fields a lawful s =
    let b = s.is_block in
    let u =
    updates_front table b.mid a.mid a.updates b.updates a.rest (b.rest ++ s.rest) a.limits b.limits
    a.are_updates b.are_updates
    (front_spelled table next s.mid block s.front s.rest fields s.fields a b s.spelling)
    (no_update a.mid next a.rest fields a.are_fields) in
    omega (
      arith,
      lawful,
      s.large,
      large_parts next b.mid a.mid s.mid a.rest b.rest s.rest u.1 u.0 fields s.fields u.2
          a.are_fields b.are_fields u.3,
    )

-- what is read is what is in the block
pub only_fields : (kept now other : Option Table) (block : List ℕ) (fields gs : List Field)
    → Reads kept block gs other → Reads kept block fields now → (fields ≡ gs) × (now ≡ other)
only_fields (Some table) (Some next) (Some other) block fields gs a b =
    let one = block_one table next other block fields gs b.0 a.0 in (one.0, ap Some one.1)
only_fields (Some table) None other block fields gs a b = absurd b
only_fields (Some table) (Some next) None block fields gs a b = absurd a
only_fields None now other block fields gs a b = absurd b

-- no other fault stands in it than want of memory
pub only_memory : (fault : HpackFault) (kept now : Option Table) (block : List ℕ)
    (fields : List Field)
    → Reads kept block fields now → IsFirstFault fault kept block → fault ≡ OutOfMemory
only_memory fault None now block fields a f = absurd a
only_memory fault (Some table) None block fields a f = absurd a
only_memory Integer (Some table) (Some next) block fields a f =
    absurd (no_stand Integer table next block fields a.0 f)
only_memory Index (Some table) (Some next) block fields a f =
    absurd (no_stand Index table next block fields a.0 f)
only_memory Huffman (Some table) (Some next) block fields a f =
    absurd (no_stand Huffman table next block fields a.0 f)
only_memory SizeUpdate (Some table) (Some next) block fields a f =
    absurd (no_stand SizeUpdate table next block fields a.0 f)
only_memory Truncated (Some table) (Some next) block fields a f =
    absurd (no_stand Truncated table next block fields a.0 f)
only_memory OutOfMemory (Some table) (Some next) block fields a f = refl
only_memory Dead (Some table) (Some next) block fields a f = absurd f
only_memory TooLarge (Some table) (Some next) block fields a f =
    absurd (no_large table next block fields a.0 a.1 f)
