-- A block has one first fault over a table.
use Rattle.std.proofs.Common.{
  ◌≡◌,
  ◌≢◌,
  ◌⊎◌,
  ℕ,
  zero,
  suc,
  ◌+◌,
  ◌-◌,
  ◌^◌,
  ◌%◌,
  ◌<◌,
  ◌≤◌,
  List,
  [],
  ◌∷◌,
  ◌++◌,
  length,
  refl,
  sym,
  ap,
  subst,
  ◌∙◌,
  append_assoc,
  length-append,
  arith,
  inl,
  inr,
  lit≤,
}
use Rattle.std.specs.Prelude.{Option, Some, None, Result, Ok, Err, IfOk, IfErr}
use Rattle.std.proofs.lemmas.List.{append-nil}
use Rattle.hpack_codec.specs.declared.fault.HpackFault.{HpackFault}
use Rattle.hpack_codec.specs.declared.fault.HpackFault.TheVariants.{
  Integer,
  Index,
  Huffman,
  SizeUpdate,
  Truncated,
  OutOfMemory,
  Dead,
  TooLarge,
}
use Rattle.lists.specs.declared.field.Field.{Field}
use Rattle.hpack_codec.specs.Integer.{IsInteger, IsCut, IsEndless, IsOver}
use Rattle.hpack_codec.specs.Table.{Table, resize, sizes_of}
use Rattle.hpack_codec.specs.Block.{AreFields, AreUpdates}
use Rattle.hpack_codec.specs.Faults.{
  IsIntegerFault,
  IsCutString,
  IsNoHuffman,
  IsStringFault,
  IsNameFault,
  IsPairFault,
  IsLiteralFault,
  IsIndexedFault,
  Begins,
  IsUpdateFault,
  IsFaultBehind,
  StandsBehind,
  IsTooLarge,
  Stands,
}
use Rattle.hpack_codec.specs.Codec.{Reads, IsFirstFault}
use Rattle.hpack_codec.proofs.Integers.{end_behind}
use Rattle.hpack_codec.proofs.Tables.{sizes_of-append, sizes_of-nil}
use Rattle.hpack_codec.proofs.Unique.{tails, integer_one, name_one, field_one}
use Rattle.hpack_codec.proofs.NoFault.{
  no_integer,
  no_integer_7,
  cut_size,
  size_one,
  no_name_fault,
  no_field,
  fit_64,
  fit_16,
  fit_0,
  fit_32,
  update_begins,
  updates_front,
  no_update_behind,
  no_change,
  apart_begins,
  only_memory,
}

-- ---- integers and strings

-- an integer that is too large isn't cut
not_cut : (bits : ℕ) (bytes : List ℕ) → IsEndless bits bytes ⊎ IsOver bits bytes
    → IsCut bits bytes → ⊥
not_cut bits bytes (inl f) (inl none) = omega (arith, ap length (sym none ∙ f.begins.1))
not_cut bits bytes (inr f) (inl none) = omega (arith, ap length (sym none ∙ f.begins.1))
not_cut bits bytes (inl f) (inr cut) =
    let behind : f.front ++ f.more ≡ cut.0 = tails _ _ _ _ (sym f.begins.1 ∙ cut.1.1) in
    omega (arith, ap length behind, length-append f.front f.more, f.five, cut.3)
not_cut bits bytes (inr f) (inr cut) =
    let behind : cut.0 ≡ f.front ++ f.last ∷ f.more = tails _ _ _ _ (sym cut.1.1 ∙ f.begins.1) in
    omega (
      arith,
      end_behind cut.0 f.front f.last [] f.more cut.2 f.finished (append-nil cut.0 ∙ behind),
      ap length behind,
      length-append f.front (f.last ∷ f.more),
    )

abbrev IntegerKind : HpackFault → ℕ → List ℕ → Type 0
IntegerKind fault bits bytes =
    ((fault ≡ Integer) × (IsEndless bits bytes ⊎ IsOver bits bytes))
    ⊎ ((fault ≡ Truncated) × IsCut bits bytes)

integer_kind : (fault : HpackFault) (bits : ℕ) (bytes : List ℕ) → IsIntegerFault fault bits bytes
    → IntegerKind fault bits bytes
integer_kind Integer bits bytes f = inl (refl, f)
integer_kind Truncated bits bytes f = inr (refl, f)
integer_kind Index bits bytes f = absurd f
integer_kind Huffman bits bytes f = absurd f
integer_kind SizeUpdate bits bytes f = absurd f
integer_kind OutOfMemory bits bytes f = absurd f
integer_kind Dead bits bytes f = absurd f
integer_kind TooLarge bits bytes f = absurd f

same_integer_kind : (fault other : HpackFault) (bits : ℕ) (bytes : List ℕ)
    → IntegerKind fault bits bytes → IntegerKind other bits bytes → fault ≡ other
same_integer_kind fault other bits bytes (inl f) (inl g) = f.0 ∙ sym g.0
same_integer_kind fault other bits bytes (inr f) (inr g) = f.0 ∙ sym g.0
same_integer_kind fault other bits bytes (inl f) (inr g) = absurd (not_cut bits bytes f.1 g.1)
same_integer_kind fault other bits bytes (inr f) (inl g) = absurd (not_cut bits bytes g.1 f.1)

integer_fault_one : (fault other : HpackFault) (bits : ℕ) (bytes : List ℕ)
    → IsIntegerFault fault bits bytes → IsIntegerFault other bits bytes → fault ≡ other
integer_fault_one fault other bits bytes f g =
    same_integer_kind fault other bits bytes (integer_kind fault bits bytes f)
    (integer_kind other bits bytes g)

abbrev StringKind : HpackFault → List ℕ → Type 0
StringKind fault bytes =
    IsIntegerFault fault 7 bytes
    ⊎ (((fault ≡ Truncated) × IsCutString bytes) ⊎ ((fault ≡ Huffman) × IsNoHuffman bytes))

string_kind : (fault : HpackFault) (bytes : List ℕ) → IsStringFault fault bytes
    → StringKind fault bytes
string_kind Integer bytes f = inl f
string_kind Truncated bytes (inl f) = inl f
string_kind Truncated bytes (inr f) = inr (inl (refl, f))
string_kind Huffman bytes f = inr (inr (refl, f))
string_kind Index bytes f = absurd f
string_kind SizeUpdate bytes f = absurd f
string_kind OutOfMemory bytes f = absurd f
string_kind Dead bytes f = absurd f
string_kind TooLarge bytes f = absurd f

-- where the length of a string is, no integer fault stands
no_cut : (fault : HpackFault) (bytes : List ℕ) → IsIntegerFault fault 7 bytes
    → IsCutString bytes → ⊥
no_cut fault bytes f cut =
    let size = cut_size bytes cut in
    no_integer_7 fault size.0 cut.len bytes cut.size cut.content size.1 f size.2 cut.spelling

no_text : (fault : HpackFault) (bytes : List ℕ) → IsIntegerFault fault 7 bytes
    → IsNoHuffman bytes → ⊥
no_text fault bytes f text =
    no_integer_7 fault 128 (length text.content) bytes text.size (text.content ++ text.rest)
    (inr refl) f text.is_size text.spelling

-- what is cut has no text
cut_or_text : (bytes : List ℕ) → IsCutString bytes → IsNoHuffman bytes → ⊥
cut_or_text bytes cut text =
    let size = cut_size bytes cut in
    let same =
    size_one size.0 128 cut.size text.size cut.content (text.content ++ text.rest) cut.len
    (length text.content) size.1 (inr refl) size.2 text.is_size
    (sym cut.spelling ∙ text.spelling) in
    omega (arith, cut.short, same.0, ap length same.1, length-append text.content text.rest)

same_string_kind : (fault other : HpackFault) (bytes : List ℕ) → StringKind fault bytes
    → StringKind other bytes → fault ≡ other
same_string_kind fault other bytes (inl f) (inl g) = integer_fault_one fault other 7 bytes f g
same_string_kind fault other bytes (inl f) (inr (inl g)) = absurd (no_cut fault bytes f g.1)
same_string_kind fault other bytes (inl f) (inr (inr g)) = absurd (no_text fault bytes f g.1)
same_string_kind fault other bytes (inr (inl f)) (inl g) = absurd (no_cut other bytes g f.1)
same_string_kind fault other bytes (inr (inl f)) (inr (inl g)) = f.0 ∙ sym g.0
same_string_kind fault other bytes (inr (inl f)) (inr (inr g)) = absurd (cut_or_text bytes f.1 g.1)
same_string_kind fault other bytes (inr (inr f)) (inl g) = absurd (no_text other bytes g f.1)
same_string_kind fault other bytes (inr (inr f)) (inr (inl g)) = absurd (cut_or_text bytes g.1 f.1)
same_string_kind fault other bytes (inr (inr f)) (inr (inr g)) = f.0 ∙ sym g.0

string_fault_one : (fault other : HpackFault) (bytes : List ℕ) → IsStringFault fault bytes
    → IsStringFault other bytes → fault ≡ other
string_fault_one fault other bytes f g =
    same_string_kind fault other bytes (string_kind fault bytes f) (string_kind other bytes g)

-- ---- representations

name_fault_one : (fault other : HpackFault) (table : Table) (index : ℕ) (bytes : List ℕ)
    → IsNameFault fault table index bytes → IsNameFault other table index bytes → fault ≡ other
name_fault_one fault other table zero bytes f g = string_fault_one fault other bytes f g
name_fault_one fault other table (suc place) bytes f g = f.0 ∙ sym g.0

pair_fault_one : (fault other : HpackFault) (table : Table) (index : ℕ) (bytes : List ℕ)
    → IsPairFault fault table index bytes → IsPairFault other table index bytes → fault ≡ other
pair_fault_one fault other table index bytes (inl f) (inl g) =
    name_fault_one fault other table index bytes f g
pair_fault_one fault other table index bytes (inl f) (inr (text, octets, rest, e, named, g)) =
    absurd (no_name_fault fault table index bytes text rest octets f named e)
pair_fault_one fault other table index bytes (inr (text, octets, rest, e, named, f)) (inl g) =
    absurd (no_name_fault other table index bytes text rest octets g named e)
pair_fault_one fault other table index bytes (inr (text, octets, rest, e, named, f))
    (inr (text', octets', rest', e', named', g)) =
    let same =
    name_one table index text text' rest rest' octets octets' named named' (sym e ∙ e') in
    string_fault_one fault other rest' (subst (IsStringFault fault) same.1 f) g

literal_fault_one : (fault other : HpackFault) (bits flags : ℕ) (table : Table) (bytes : List ℕ)
    → (flags + (2 ^ bits - 1)) % 2 ^ bits ≡ 2 ^ bits - 1
    → ((m : ℕ) → m + 1 < 2 ^ bits → (flags + m) % 2 ^ bits ≡ m)
    → IsLiteralFault fault bits flags table bytes
    → IsLiteralFault other bits flags table bytes → fault ≡ other
literal_fault_one fault other bits flags table bytes fit low (inl f) (inl g) =
    integer_fault_one fault other bits bytes f g
literal_fault_one fault other bits flags table bytes fit low (inl f)
    (inr (index, text, rest, e, i, g)) =
    absurd (no_integer fault bits flags index bytes text rest f fit low i e)
literal_fault_one fault other bits flags table bytes fit low (inr (index, text, rest, e, i, f))
    (inl g) = absurd (no_integer other bits flags index bytes text rest g fit low i e)
literal_fault_one fault other bits flags table bytes fit low (inr (index, text, rest, e, i, f))
    (inr (index', text', rest', e', i', g)) =
    let same = integer_one bits flags text text' rest rest' index index' i i' (sym e ∙ e') in
    pair_fault_one fault other table index' rest'
    (subst (IsPairFault fault table index') same.1
    (subst (λ (k : ℕ). IsPairFault fault table k rest) same.0 f)) g

indexed_fault_one : (fault other : HpackFault) (table : Table) (bytes : List ℕ)
    → IsIndexedFault fault table bytes → IsIndexedFault other table bytes → fault ≡ other
indexed_fault_one fault other table bytes (inl f) (inl g) =
    integer_fault_one fault other 7 bytes f g
indexed_fault_one fault other table bytes (inl f) (inr g) =
    absurd (no_integer_7 fault 128 g.0 bytes g.1 g.2 (inr refl) f g.4 g.3)
indexed_fault_one fault other table bytes (inr f) (inl g) =
    absurd (no_integer_7 other 128 f.0 bytes f.1 f.2 (inr refl) g f.4 f.3)
indexed_fault_one fault other table bytes (inr f) (inr g) = f.5 ∙ sym g.5

update_fault_one : (fault other : HpackFault) (bytes : List ℕ) → IsUpdateFault fault bytes
    → IsUpdateFault other bytes → fault ≡ other
update_fault_one fault other bytes (inl f) (inl g) = integer_fault_one fault other 5 bytes f g
update_fault_one fault other bytes (inl f) (inr g) =
    absurd (no_integer fault 5 32 g.0 bytes g.1 g.2 f refl fit_32 g.4 g.3)
update_fault_one fault other bytes (inr f) (inl g) =
    absurd (no_integer other 5 32 f.0 bytes f.1 f.2 g refl fit_32 f.4 f.3)
update_fault_one fault other bytes (inr f) (inr g) = f.5 ∙ sym g.5

-- ---- one place

-- the faults of a change of size, before the first field and behind one
abbrev IsChangeFault : HpackFault → List Field → List ℕ → Type 0
IsChangeFault fault fields bytes =
    (Begins 32 64 bytes × (fields ≡ []) × IsUpdateFault fault bytes)
    ⊎ (Begins 32 64 bytes × (fields ≢ []) × (fault ≡ SizeUpdate))

abbrev Below16 : HpackFault → List Field → Table → List ℕ → Type 0
Below16 fault fields table bytes =
    (Begins 0 16 bytes × IsLiteralFault fault 4 0 table bytes) ⊎ IsChangeFault fault fields bytes

abbrev Below32 : HpackFault → List Field → Table → List ℕ → Type 0
Below32 fault fields table bytes =
    (Begins 16 32 bytes × IsLiteralFault fault 4 16 table bytes) ⊎ Below16 fault fields table bytes

abbrev Below128 : HpackFault → List Field → Table → List ℕ → Type 0
Below128 fault fields table bytes =
    (Begins 64 128 bytes × IsLiteralFault fault 6 64 table bytes) ⊎ Below32 fault fields table bytes

change_begins : (fault : HpackFault) (fields : List Field) (bytes : List ℕ)
    → IsChangeFault fault fields bytes → Begins 32 64 bytes
change_begins fault fields bytes (inl f) = f.0
change_begins fault fields bytes (inr f) = f.0

not_16 : (fault : HpackFault) (fields : List Field) (table : Table) (bytes : List ℕ)
    → Below16 fault fields table bytes → Begins 16 32 bytes → ⊥
not_16 fault fields table bytes (inl f) begins =
    apart_begins 0 16 16 32 bytes f.0 begins (inl (lit≤ tt))
not_16 fault fields table bytes (inr f) begins =
    apart_begins 32 64 16 32 bytes (change_begins fault fields bytes f) begins (inr (lit≤ tt))

not_64 : (fault : HpackFault) (fields : List Field) (table : Table) (bytes : List ℕ)
    → Below32 fault fields table bytes → Begins 64 128 bytes → ⊥
not_64 fault fields table bytes (inl f) begins =
    apart_begins 16 32 64 128 bytes f.0 begins (inl (lit≤ tt))
not_64 fault fields table bytes (inr (inl f)) begins =
    apart_begins 0 16 64 128 bytes f.0 begins (inl (lit≤ tt))
not_64 fault fields table bytes (inr (inr f)) begins =
    apart_begins 32 64 64 128 bytes (change_begins fault fields bytes f) begins (inl (lit≤ tt))

not_128 : (fault : HpackFault) (fields : List Field) (table : Table) (bytes : List ℕ)
    → Below128 fault fields table bytes → Begins 128 256 bytes → ⊥
not_128 fault fields table bytes (inl f) begins =
    apart_begins 64 128 128 256 bytes f.0 begins (inl (lit≤ tt))
not_128 fault fields table bytes (inr (inl f)) begins =
    apart_begins 16 32 128 256 bytes f.0 begins (inl (lit≤ tt))
not_128 fault fields table bytes (inr (inr (inl f))) begins =
    apart_begins 0 16 128 256 bytes f.0 begins (inl (lit≤ tt))
not_128 fault fields table bytes (inr (inr (inr f))) begins =
    apart_begins 32 64 128 256 bytes (change_begins fault fields bytes f) begins (inl (lit≤ tt))

change_fault_one : (fault other : HpackFault) (fields : List Field) (bytes : List ℕ)
    → IsChangeFault fault fields bytes → IsChangeFault other fields bytes → fault ≡ other
change_fault_one fault other fields bytes (inl f) (inl g) =
    update_fault_one fault other bytes f.2 g.2
change_fault_one fault other fields bytes (inl f) (inr g) = absurd (g.1 f.1)
change_fault_one fault other fields bytes (inr f) (inl g) = absurd (f.1 g.1)
change_fault_one fault other fields bytes (inr f) (inr g) = f.2 ∙ sym g.2

below_16_one : (fault other : HpackFault) (fields : List Field) (table : Table) (bytes : List ℕ)
    → Below16 fault fields table bytes → Below16 other fields table bytes → fault ≡ other
below_16_one fault other fields table bytes (inl f) (inl g) =
    literal_fault_one fault other 4 0 table bytes refl fit_0 f.1 g.1
below_16_one fault other fields table bytes (inl f) (inr g) =
    absurd (apart_begins 0 16 32 64 bytes f.0 (change_begins other fields bytes g) (inl (lit≤ tt)))
below_16_one fault other fields table bytes (inr f) (inl g) =
    absurd (apart_begins 0 16 32 64 bytes g.0 (change_begins fault fields bytes f) (inl (lit≤ tt)))
below_16_one fault other fields table bytes (inr f) (inr g) =
    change_fault_one fault other fields bytes f g

below_32_one : (fault other : HpackFault) (fields : List Field) (table : Table) (bytes : List ℕ)
    → Below32 fault fields table bytes → Below32 other fields table bytes → fault ≡ other
below_32_one fault other fields table bytes (inl f) (inl g) =
    literal_fault_one fault other 4 16 table bytes refl fit_16 f.1 g.1
below_32_one fault other fields table bytes (inl f) (inr g) =
    absurd (not_16 other fields table bytes g f.0)
below_32_one fault other fields table bytes (inr f) (inl g) =
    absurd (not_16 fault fields table bytes f g.0)
below_32_one fault other fields table bytes (inr f) (inr g) =
    below_16_one fault other fields table bytes f g

below_128_one : (fault other : HpackFault) (fields : List Field) (table : Table) (bytes : List ℕ)
    → Below128 fault fields table bytes → Below128 other fields table bytes → fault ≡ other
below_128_one fault other fields table bytes (inl f) (inl g) =
    literal_fault_one fault other 6 64 table bytes refl fit_64 f.1 g.1
below_128_one fault other fields table bytes (inl f) (inr g) =
    absurd (not_64 other fields table bytes g f.0)
below_128_one fault other fields table bytes (inr f) (inl g) =
    absurd (not_64 fault fields table bytes f g.0)
below_128_one fault other fields table bytes (inr f) (inr g) =
    below_32_one fault other fields table bytes f g

-- behind the same fields one fault stands
behind_one : (fault other : HpackFault) (fields : List Field) (table : Table) (bytes : List ℕ)
    → IsFaultBehind fault fields table bytes → IsFaultBehind other fields table bytes
    → fault ≡ other
behind_one fault other fields table bytes (inl f) (inl g) =
    indexed_fault_one fault other table bytes f.1 g.1
behind_one fault other fields table bytes (inl f) (inr g) =
    absurd (not_128 other fields table bytes g f.0)
behind_one fault other fields table bytes (inr f) (inl g) =
    absurd (not_128 fault fields table bytes f g.0)
behind_one fault other fields table bytes (inr f) (inr g) =
    below_128_one fault other fields table bytes f g

-- ---- the places of two faults

abbrev Meets : List Field → List Field → Table → Table → List ℕ → List ℕ → Type 0
Meets gs fs last other x y = (gs ≡ fs) × ((last ≡ other) × (x ≡ y))

no_front : (a x : List ℕ) → a ≡ [] → a ++ x ≡ x
no_front a x e = ap (λ (z : List ℕ). z ++ x) e

-- the fields up to a fault are those up to any other
fields_meet : (fault fault' : HpackFault) (any any' : List Field) (table last other : Table)
    (a b x y : List ℕ) (gs fs : List Field)
    → AreFields table a gs last → AreFields table b fs other → a ++ x ≡ b ++ y
    → IsFaultBehind fault any last x → IsFaultBehind fault' any' other y
    → Meets gs fs last other x y
unfolding AreFields
fields_meet fault fault' any any' table last other a b x y [] [] s t e f g =
    (refl, (s.1 ∙ sym t.1, sym (no_front a x s.0) ∙ e ∙ no_front b y t.0))
fields_meet fault fault' any any' table last other a b x y [] (h ∷ fs) s
    (first, others, mid, spells, (form, is), are) e f g =
    absurd (no_field form fault any table mid x first (others ++ y) h
    (subst (λ (t : Table). IsFaultBehind fault any t x) s.1 f) is
    (sym (no_front a x s.0) ∙ e ∙ ap (λ (z : List ℕ). z ++ y) spells ∙ append_assoc first others y))
fields_meet fault fault' any any' table last other a b x y (h ∷ gs) []
    (first, others, mid, spells, (form, is), are) t e f g =
    absurd (no_field form fault' any' table mid y first (others ++ x) h
    (subst (λ (u : Table). IsFaultBehind fault' any' u y) t.1 g) is
    (sym (no_front b y t.0) ∙ sym e ∙ ap (λ (z : List ℕ). z ++ x) spells
    ∙ append_assoc first others x))
fields_meet fault fault' any any' table last other a b x y (g₁ ∷ gs) (h ∷ fs) s t e f g =
    let whole : s.0 ++ (s.1 ++ x) ≡ t.0 ++ (t.1 ++ y) =
    sym (append_assoc s.0 s.1 x) ∙ sym (ap (λ (z : List ℕ). z ++ x) s.3) ∙ e
    ∙ ap (λ (z : List ℕ). z ++ y) t.3 ∙ append_assoc t.0 t.1 y in
    let same = field_one table s.2 t.2 s.0 t.0 (s.1 ++ x) (t.1 ++ y) g₁ h s.4 t.4 whole in
    let again =
    fields_meet fault fault' any any' t.2 last other s.1 t.1 x y gs fs
    (subst (λ (u : Table). AreFields u s.1 gs last) same.1.0 s.5) t.5 same.1.1 f g in
    (ap (λ (k : Field). k ∷ gs) same.0 ∙ ap (λ (z : List Field). h ∷ z) again.0, again.1)

no_bytes : (table next : Table) (text : List ℕ) → AreFields table text [] next → text ≡ []
unfolding AreFields
no_bytes table next text a = a.0

-- where a change of size is, neither a field nor a fault stands
no_place : (fault : HpackFault) (table last : Table) (text rest change behind : List ℕ) (limit : ℕ)
    (fields : List Field)
    → AreFields table text fields last → IsFaultBehind fault fields last rest
    → IsInteger 5 32 change limit → limit ≤ 4096 → text ++ rest ≡ change ++ behind → ⊥
no_place fault table last text rest change behind limit [] are f i small e =
    no_change fault last rest change behind limit f i small
    (sym (no_front text rest (no_bytes table last text are)) ∙ e)
no_place fault table last text rest change behind limit (field ∷ fields) are f i small e =
    no_update_behind table last text rest field fields are
    (subst (Begins 32 64) (sym e) (update_begins change behind limit i))

-- the changes of size before them are the same too
places_meet : (fault fault' : HpackFault) (table mid now last other : Table) (a b c d x y : List ℕ)
    (ks ls : List ℕ) (gs fs : List Field)
    → AreUpdates table a ks mid → AreUpdates table b ls now → AreFields mid c gs last
    → AreFields now d fs other → a ++ (c ++ x) ≡ b ++ (d ++ y)
    → IsFaultBehind fault gs last x → IsFaultBehind fault' fs other y → Meets gs fs last other x y
unfolding AreUpdates
places_meet fault fault' table mid now last other a b c d x y [] [] gs fs u v s t e f g =
    fields_meet fault fault' gs fs table last other c d x y gs fs
    (subst (λ (z : Table). AreFields z c gs last) u.1 s)
    (subst (λ (z : Table). AreFields z d fs other) v.1 t)
    (sym (no_front a (c ++ x) u.0) ∙ e ∙ no_front b (d ++ y) v.0) f g
places_meet fault fault' table mid now last other a b c d x y [] (l ∷ ls) gs fs u v s t e f g =
    absurd (no_place fault mid last c x v.0 (v.1 ++ (d ++ y)) l gs s f v.3 v.4
    (sym (no_front a (c ++ x) u.0) ∙ e ∙ ap (λ (z : List ℕ). z ++ (d ++ y)) v.2
    ∙ append_assoc v.0 v.1 (d ++ y)))
places_meet fault fault' table mid now last other a b c d x y (k ∷ ks) [] gs fs u v s t e f g =
    absurd (no_place fault' now other d y u.0 (u.1 ++ (c ++ x)) k fs t g u.3 u.4
    (sym (no_front b (d ++ y) v.0) ∙ sym e ∙ ap (λ (z : List ℕ). z ++ (c ++ x)) u.2
    ∙ append_assoc u.0 u.1 (c ++ x)))
places_meet fault fault' table mid now last other a b c d x y (k ∷ ks) (l ∷ ls) gs
    fs u v s t e f g =
    let whole : u.0 ++ (u.1 ++ (c ++ x)) ≡ v.0 ++ (v.1 ++ (d ++ y)) =
    sym (append_assoc u.0 u.1 (c ++ x)) ∙ sym (ap (λ (z : List ℕ). z ++ (c ++ x)) u.2) ∙ e
    ∙ ap (λ (z : List ℕ). z ++ (d ++ y)) v.2 ∙ append_assoc v.0 v.1 (d ++ y) in
    let same = integer_one 5 32 u.0 v.0 _ _ k l u.3 v.3 whole in
    places_meet fault fault' (resize table l) mid now last other u.1 v.1 c d x y ks ls gs fs
    (subst (λ (n : ℕ). AreUpdates (resize table n) u.1 ks mid) same.0 u.5) v.5 s t same.1 f g

spelled : (block updates rest end front : List ℕ) → block ≡ front ++ end → front ≡ updates ++ rest
    → block ≡ updates ++ (rest ++ end)
spelled block updates rest end front e f =
    e ∙ ap (λ (z : List ℕ). z ++ end) f ∙ append_assoc updates rest end

stands_behind_one : (fault other : HpackFault) (table : Table) (block : List ℕ)
    → StandsBehind fault table block → StandsBehind other table block → fault ≡ other
stands_behind_one fault other table block s t =
    let a = s.is_block in
    let b = t.is_block in
    let whole : a.updates ++ (a.rest ++ s.rest) ≡ b.updates ++ (b.rest ++ t.rest) =
    sym (spelled block a.updates a.rest s.rest s.front s.spelling a.spelling)
    ∙ spelled block b.updates b.rest t.rest t.front t.spelling b.spelling in
    let same =
    places_meet fault other table a.mid b.mid s.mid t.mid a.updates b.updates a.rest b.rest s.rest
    t.rest a.limits b.limits s.fields t.fields
    a.are_updates b.are_updates a.are_fields b.are_fields whole s.is_fault t.is_fault in
    behind_one fault other t.fields t.mid t.rest
    (subst (IsFaultBehind fault t.fields t.mid) same.1.1
    (subst (λ (z : Table). IsFaultBehind fault t.fields z s.rest) same.1.0
    (subst (λ (z : List Field). IsFaultBehind fault z s.mid s.rest) same.0 s.is_fault))) t.is_fault

-- ---- fields that are too large, and fields behind which a fault stands

both_more : (g h : Field) (gs fs more : List Field) → g ≡ h → gs ≡ fs ++ more
    → g ∷ gs ≡ h ∷ (fs ++ more)
both_more g h gs fs more e f = ap (λ (k : Field). k ∷ gs) e ∙ ap (λ (z : List Field). h ∷ z) f

-- the fields up to a fault have all others that begin the same bytes among them
fields_among : (fault : HpackFault) (any : List Field) (table last other : Table) (a b x y : List ℕ)
    (gs fs : List Field)
    → AreFields table a gs last → AreFields table b fs other → a ++ x ≡ b ++ y
    → IsFaultBehind fault any last x
    → (more : List Field) × (gs ≡ fs ++ more)
unfolding AreFields
fields_among fault any table last other a b x y gs [] s t e f = (gs, refl)
fields_among fault any table last other a b x y [] (h ∷ fs) s
    (first, others, mid, spells, (form, is), are) e f =
    let at : x ≡ first ++ (others ++ y) =
    sym (no_front a x s.0) ∙ e ∙ ap (λ (z : List ℕ). z ++ y) spells ∙ append_assoc first others y in
    absurd (no_field form fault any table mid x first (others ++ y) h
    (subst (λ (t : Table). IsFaultBehind fault any t x) s.1 f) is at)
fields_among fault any table last other a b x y (g ∷ gs) (h ∷ fs) s t e f =
    let whole : s.0 ++ (s.1 ++ x) ≡ t.0 ++ (t.1 ++ y) =
    sym (append_assoc s.0 s.1 x) ∙ sym (ap (λ (z : List ℕ). z ++ x) s.3) ∙ e
    ∙ ap (λ (z : List ℕ). z ++ y) t.3 ∙ append_assoc t.0 t.1 y in
    let same = field_one table s.2 t.2 s.0 t.0 (s.1 ++ x) (t.1 ++ y) g h s.4 t.4 whole in
    let again =
    fields_among fault any t.2 last other s.1 t.1 x y gs fs
    (subst (λ (u : Table). AreFields u s.1 gs last) same.1.0 s.5) t.5 same.1.1 f in
    (again.0, both_more g h gs fs again.0 same.0 again.1)

-- the changes of size of both are the same, up to the first field of one of them
among : (fault : HpackFault) (now mid last other : Table) (a b x y more : List ℕ) (others : List ℕ)
    (gs fs : List Field)
    → AreUpdates now more others mid → AreFields now a gs last → AreFields mid b fs other
    → a ++ x ≡ more ++ (b ++ y) → IsFaultBehind fault gs last x
    → (rest : List Field) × (gs ≡ fs ++ rest)
unfolding AreUpdates
among fault now mid last other a b x y more [] gs fs u s t e f =
    fields_among fault gs now last other a b x y gs fs s
    (subst (λ (z : Table). AreFields z b fs other) u.1 t) (e ∙ no_front more (b ++ y) u.0) f
among fault now mid last other a b x y more (l ∷ others) gs fs u s t e f =
    absurd (no_place fault now last a x u.0 (u.1 ++ (b ++ y)) l gs s f u.3 u.4
    (e ∙ ap (λ (z : List ℕ). z ++ (b ++ y)) u.2 ∙ append_assoc u.0 u.1 (b ++ y)))

some_field : (fields : List Field) → 65536 < sizes_of fields
    → (first : Field) × (others : List Field) × (fields ≡ first ∷ others)
some_field [] large = absurd (omega (arith, sizes_of-nil, large))
some_field (first ∷ others) large = (first, others, refl)

too_few : (gs fs more : List Field) → gs ≡ fs ++ more → sizes_of gs ≤ 65536
    → 65536 < sizes_of fs → ⊥
too_few gs fs more e lawful large =
    omega (arith, lawful, large, ap sizes_of e, sizes_of-append fs more)

not_both : (fault : HpackFault) (table : Table) (block : List ℕ) → StandsBehind fault table block
    → IsTooLarge table block → ⊥
not_both fault table block s t =
    let a = s.is_block in
    let b = t.is_block in
    let whole : b.updates ++ (b.rest ++ t.rest) ≡ a.updates ++ (a.rest ++ s.rest) =
    sym (spelled block b.updates b.rest t.rest t.front t.spelling b.spelling)
    ∙ spelled block a.updates a.rest s.rest s.front s.spelling a.spelling in
    let some = some_field t.fields t.large in
    let none : Begins 32 64 (b.rest ++ t.rest) → ⊥ =
    no_update_behind b.mid t.mid b.rest t.rest some.0 some.1
    (subst (λ (z : List Field). AreFields b.mid b.rest z t.mid) some.2 b.are_fields) in
    let u =
    updates_front table a.mid b.mid b.updates a.updates (b.rest ++ t.rest) (a.rest ++ s.rest)
    b.limits a.limits b.are_updates a.are_updates whole none in
    let w =
    among fault a.mid b.mid s.mid t.mid a.rest b.rest s.rest t.rest u.0 u.1 s.fields t.fields u.2
    a.are_fields b.are_fields u.3 s.is_fault in
    too_few s.fields t.fields w.0 w.1 s.lawful t.large

-- ---- the first fault

abbrev IsEither : HpackFault → Table → List ℕ → Type 0
IsEither fault table block =
    ((fault ≡ TooLarge) × IsTooLarge table block) ⊎ StandsBehind fault table block

either : (fault : HpackFault) (table : Table) (block : List ℕ) → Stands fault table block
    → fault ≢ OutOfMemory → IsEither fault table block
either Integer table block s other = inr s
either Index table block s other = inr s
either Huffman table block s other = inr s
either SizeUpdate table block s other = inr s
either Truncated table block s other = inr s
either OutOfMemory table block s other = absurd (other refl)
either Dead table block s other = absurd s
either TooLarge table block s other = inl (refl, s)

either_one : (fault other : HpackFault) (table : Table) (block : List ℕ)
    → IsEither fault table block → IsEither other table block → fault ≡ other
either_one fault other table block (inl s) (inl t) = s.0 ∙ sym t.0
either_one fault other table block (inl s) (inr t) = absurd (not_both other table block t s.1)
either_one fault other table block (inr s) (inl t) = absurd (not_both fault table block s t.1)
either_one fault other table block (inr s) (inr t) = stands_behind_one fault other table block s t

-- of the first fault there is one, memory aside
pub fault_one : (fault other : HpackFault) (kept : Option Table) (block : List ℕ)
    → IsFirstFault fault kept block → IsFirstFault other kept block → fault ≢ OutOfMemory
    → other ≢ OutOfMemory → fault ≡ other
fault_one fault other None block e f live also = e ∙ sym f
fault_one fault other (Some table) block s t live also =
    either_one fault other table block (either fault table block s live)
    (either other table block t also)

memory_or : (fault : HpackFault) → (fault ≡ OutOfMemory) ⊎ (fault ≢ OutOfMemory)
memory_or OutOfMemory = inl refl
memory_or Integer = inr (λ e. cc)
memory_or Index = inr (λ e. cc)
memory_or Huffman = inr (λ e. cc)
memory_or SizeUpdate = inr (λ e. cc)
memory_or Truncated = inr (λ e. cc)
memory_or Dead = inr (λ e. cc)
memory_or TooLarge = inr (λ e. cc)

-- a call that answers what is in the block or a fault of it answers the first fault, or out of
-- memory
pub first_answer : {A : Type 0} (items : A → List Field) (result : Result A HpackFault)
    (kept now : Option Table) (block : List ℕ)
    → IfOk result (λ fields. Reads kept block (items fields) now)
    → IfErr result (λ fault. IsFirstFault fault kept block) → (fault : HpackFault)
    → fault ≢ OutOfMemory → IsFirstFault fault kept block
    → (result ≡ Err fault) ⊎ (result ≡ Err OutOfMemory)
first_answer items (Ok fields) kept now block ok err fault live is =
    absurd (live (only_memory fault kept now block (items fields) ok is))
first_answer items (Err other) kept now block ok err fault live is =
    elim (memory_or other) [
      | inl memory ↦ inr (ap Err memory)
      | inr also ↦ inl (ap Err (fault_one other fault kept block err is also live))
    ]
