-- Each block has a reading over a table, or a first fault: part by part, from the left.
use Rattle.std.proofs.Common.{
  ◌≡◌,
  ◌≢◌,
  ℕ,
  zero,
  suc,
  ◌+◌,
  ◌-◌,
  ◌%◌,
  ◌^◌,
  ◌<◌,
  ◌≤◌,
  ◌⊎◌,
  Bool,
  true,
  false,
  List,
  [],
  ◌∷◌,
  ◌++◌,
  length,
  take,
  drop,
  get_or,
  min,
  refl,
  sym,
  subst,
  ◌∙◌,
  ap,
  inl,
  inr,
  arith,
  lit<,
  take-append-drop,
  All,
  Option,
  Some,
  None,
}
use Rattle.std.proofs.lemmas.Bool.{cases_lt}
use Rattle.std.proofs.lemmas.List.{append-nil, length-take-le}
use Rattle.std.proofs.lemmas.List.Elements.{All-get_or}
use Rattle.hpack_codec.specs.declared.fault.HpackFault.{HpackFault}
use Rattle.hpack_codec.specs.declared.fault.HpackFault.TheVariants.{
  Integer,
  Index,
  Huffman,
  SizeUpdate,
  Truncated,
  OutOfMemory,
  Dead,
  TooLarge,
}
use Rattle.lists.specs.declared.field.Field.{Field}
use Rattle.hpack_codec.specs.Integer.{IsUnfinished, IsInteger}
use Rattle.hpack_codec.specs.Huffman.{AreOctets}
use Rattle.hpack_codec.specs.Integer.{base_128}
use Rattle.hpack_codec.specs.StaticTable.{entry}
use Rattle.hpack_codec.specs.Table.{Table, entry_at, size_of, sizes_of, resize}
use Rattle.hpack_codec.specs.Block.{AreFields, IsBlock}
use Rattle.hpack_codec.specs.Faults.{
  IsIntegerFault,
  IsStringFault,
  IsNameFault,
  IsLiteralFault,
  IsIndexedFault,
  Begins,
  Stands,
}
use Rattle.hpack_codec.specs.Reading.{
  TakesMore,
  TakesInteger,
  TakesString,
  TakesName,
  TakesLiteral,
  TakesIndexed,
  TakesField,
  TakesUpdates,
  IsFieldFault,
  IsFieldsFault,
  IsUpdatesFault,
  OrMemory,
  next_table,
  flags_of,
}
use Rattle.hpack_codec.specs.Codec.{Reads, IsFirstFault}
use Rattle.hpack_codec.proofs.Integers.{
  takes_short,
  takes_long,
  greatest_prefix,
  behind_greatest,
  over,
}
use Rattle.hpack_codec.proofs.Strings.{
  flags_7_high,
  flags_7_low,
  takes_plain,
  takes_huffman,
  text_fault,
  cut_string,
}
use Rattle.hpack_codec.proofs.Literals.{
  literal_taken,
  begins,
  field_incremental,
  field_literal,
  field_indexed,
  fault_incremental,
  fault_literal,
}
use Rattle.hpack_codec.proofs.Decoding.{
  IsUpdating,
  updating_none,
  updating_more,
  integer_shorter,
  updates_taken,
  updates_integer,
  updates_over,
  IsTaking,
  taking_none,
  taking_more,
  too_large,
  fields_fault,
  reads_block,
  updates_fault,
  block_fault,
}
use Rattle.hpack_codec.proofs.HuffmanExistence.{huffman_known}

-- it is taken, or a fault stands that isn't want of memory
abbrev Either : Type 0 → (HpackFault → Type 0) → Type 0
Either Taken Fault = Taken ⊎ ((fault : HpackFault) × (fault ≢ OutOfMemory) × Fault fault)

memory_in : (fault : HpackFault) (P : Type 0) → P → OrMemory fault P
memory_in Integer P p = p
memory_in Index P p = p
memory_in Huffman P p = p
memory_in SizeUpdate P p = p
memory_in Truncated P p = p
memory_in OutOfMemory P p = tt
memory_in Dead P p = p
memory_in TooLarge P p = p

memory_out : (fault : HpackFault) (P : Type 0) → fault ≢ OutOfMemory → OrMemory fault P → P
memory_out Integer P live p = p
memory_out Index P live p = p
memory_out Huffman P live p = p
memory_out SizeUpdate P live p = p
memory_out Truncated P live p = p
memory_out OutOfMemory P live p = absurd (live refl)
memory_out Dead P live p = p
memory_out TooLarge P live p = p

-- ---- bytes

octets_by_place : (bytes : List ℕ)
    → ((i : ℕ) → i < length bytes → get_or bytes i 0 < 256) → AreOctets bytes
unfolding AreOctets
octets_by_place [] small = tt
octets_by_place (byte ∷ bytes) small =
    (small 0 (omega arith), octets_by_place bytes (λ i less. small (suc i) (omega (arith, less))))

octets_of : (bytes : List ℕ) → All (λ byte. byte < 256) bytes → AreOctets bytes
octets_of bytes all =
    octets_by_place bytes (λ i less. All-get_or (λ byte. byte < 256) bytes i 0 less all)

octets_behind : (front rest : List ℕ) → AreOctets (front ++ rest) → AreOctets rest
unfolding AreOctets
octets_behind [] rest octets = octets
octets_behind (byte ∷ front) rest octets = octets_behind front rest octets.1

behind : (bytes front rest : List ℕ) → bytes ≡ front ++ rest → AreOctets bytes → AreOctets rest
behind bytes front rest e octets = octets_behind front rest (subst AreOctets e octets)

first_octet : (bytes : List ℕ) → AreOctets bytes → get_or bytes 0 0 < 256
unfolding AreOctets
first_octet [] octets = lit< tt
first_octet (byte ∷ bytes) octets = octets.0

-- ---- integers

-- bytes up to the first without the top bit, among so many; or they end before it; or there is none
-- among so many
abbrev Ending : ℕ → List ℕ → Type 0
Ending room bytes =
    ((front : List ℕ) × (last : ℕ) × (rest : List ℕ) × (bytes ≡ front ++ last ∷ rest)
    × IsUnfinished front × (last < 128) × (length front < room))
    ⊎ (IsUnfinished bytes × (length bytes < room))
    ⊎ ((front rest : List ℕ) × (bytes ≡ front ++ rest) × IsUnfinished front × (length front ≡ room))

ending : (room : ℕ) (bytes : List ℕ) → Ending room bytes
unfolding IsUnfinished
ending zero bytes = inr (inr ([], bytes, refl, tt, refl))
ending (suc room) [] = inr (inl (tt, omega arith))
ending (suc room) (byte ∷ bytes) =
    elim (cases_lt byte 128) [
      | inl low ↦ inl ([], byte, bytes, refl, tt, low, omega arith)
      | inr high ↦ elim (ending room bytes) [
        | inl e ↦ inl (
          byte ∷ e.0,
          e.1,
          e.2,
          ap (λ (xs : List ℕ). byte ∷ xs) e.3,
          (high, e.4),
          e.5,
          (let less = e.6 in omega arith),
        )
        | inr (inl e) ↦ inr (inl ((high, e.0), (let less = e.1 in omega arith)))
        | inr (inr e) ↦
            inr (inr (
              byte ∷ e.0,
              e.1,
              ap (λ (xs : List ℕ). byte ∷ xs) e.2,
              (high, e.3),
              ap (λ (n : ℕ). suc n) e.4,
            ))
      ]
    ]

-- behind the greatest prefix
long_or : (bits first : ℕ) (rest : List ℕ) → first % 2 ^ bits ≡ 2 ^ bits - 1
    → Either ((number : ℕ) × (behind : List ℕ) × TakesInteger bits (first ∷ rest) number behind)
    (λ fault. IsIntegerFault fault bits (first ∷ rest))
long_or bits first rest greatest =
    elim (ending 5 rest) [
      | inr (inl e) ↦
          inr (Truncated, (λ same. cc), behind_greatest Truncated bits first rest greatest e)
      | inr (inr e) ↦
          inr (Integer, (λ same. cc), behind_greatest Integer bits first rest greatest e)
      | inl e ↦
          (let high : ℕ = base_128 (e.0 ++ e.1 ∷ []) in
          let more : TakesMore rest high e.2 = record {
            front = e.0;
            last = e.1;
            spelling = e.3;
            unfinished = e.4;
            finished = e.5;
            at_most_five = e.6;
            sum = refl;
          } in
          elim (cases_lt (2 ^ bits - 1 + high) (2 ^ 32)) [
            | inl below ↦ inl (
              2 ^ bits - 1 + high,
              e.2,
              takes_long bits first high (2 ^ bits - 1 + high) rest e.2 greatest more refl below,
            )
            | inr large ↦
                inr (Integer, (λ same. cc), inr (over bits first high rest e.2 greatest more large))
          ])
    ]

integer_or : (bits : ℕ) (bytes : List ℕ)
    → Either ((number : ℕ) × (rest : List ℕ) × TakesInteger bits bytes number rest)
    (λ fault. IsIntegerFault fault bits bytes)
integer_or bits [] = inr (Truncated, (λ same. cc), inl refl)
integer_or bits (first ∷ rest) =
    elim (cases_lt (first % 2 ^ bits + 1) (2 ^ bits)) [
      | inl small ↦
          inl (first % 2 ^ bits, rest, takes_short bits first (first % 2 ^ bits) rest refl small)
      | inr large ↦ long_or bits first rest (greatest_prefix bits first (omega (arith, large)))
    ]

-- a list from which an integer is taken isn't empty
integer_bytes : (bits number : ℕ) (bytes rest : List ℕ) → TakesInteger bits bytes number rest
    → 1 ≤ length bytes
integer_bytes bits number bytes rest t = omega (arith, integer_shorter bits number bytes rest t)

-- ---- strings

string_integer : (fault : HpackFault) (bytes : List ℕ) → IsIntegerFault fault 7 bytes
    → IsStringFault fault bytes
string_integer Integer bytes f = f
string_integer Index bytes f = f
string_integer Huffman bytes f = absurd f
string_integer SizeUpdate bytes f = f
string_integer Truncated bytes f = inl f
string_integer OutOfMemory bytes f = f
string_integer Dead bytes f = f
string_integer TooLarge bytes f = f

-- the bytes behind a length that are as many
content_or : (bytes rest : List ℕ) (len : ℕ) → AreOctets bytes → TakesInteger 7 bytes len rest
    → len ≤ length rest
    → Either ((octets back : List ℕ) × TakesString bytes octets back)
    (λ fault. IsStringFault fault bytes)
content_or bytes rest len octets t enough =
    let front : List ℕ = take len rest in
    let back : List ℕ = drop len rest in
    let parts : rest ≡ front ++ back = sym (take-append-drop len rest) in
    let size : length front ≡ len = length-take-le len rest enough in
    let some = integer_bytes 7 len bytes rest t in
    elim (cases_lt (get_or bytes 0 0) 128) [
      | inl low ↦ inl (
        front,
        back,
        takes_plain bytes rest front back front len t (flags_7_low bytes some low) parts size refl,
      )
      | inr high ↦ elim (huffman_known front) [
        | inl read ↦ inl (
          read.0,
          back,
          takes_huffman bytes rest front back read.0 len t
              (flags_7_high bytes some high (first_octet bytes octets)) parts size read.1,
        )
        | inr none ↦ inr (
          Huffman,
          (λ same. cc),
          text_fault Huffman bytes rest front back len t
              (flags_7_high bytes some high (first_octet bytes octets)) parts size none,
        )
      ]
    ]

string_or : (bytes : List ℕ) → AreOctets bytes
    → Either ((octets rest : List ℕ) × TakesString bytes octets rest)
    (λ fault. IsStringFault fault bytes)
string_or bytes octets =
    elim (integer_or 7 bytes) [
      | inr f ↦ inr (f.0, f.1, string_integer f.0 bytes f.2)
      | inl (len, rest, t) ↦ elim (cases_lt (length rest) len) [
        | inl short ↦ inr (
          Truncated,
          (λ same. cc),
          inr (cut_string bytes rest len (integer_bytes 7 len bytes rest t)
              (first_octet bytes octets) t short),
        )
        | inr enough ↦ content_or bytes rest len octets t enough
      ]
    ]

-- ---- representations

found_or : (found : Option Field) → ((field : Field) × (found ≡ Some field)) ⊎ (found ≡ None)
found_or (Some field) = inl (field, refl)
found_or None = inr refl

name_or : (table : Table) (index : ℕ) (bytes : List ℕ) → AreOctets bytes
    → Either ((octets rest : List ℕ) × TakesName table index bytes octets rest)
    (λ fault. IsNameFault fault table index bytes)
name_or table zero bytes octets = string_or bytes octets
name_or table (suc place) bytes octets =
    elim (found_or (entry_at table (suc place))) [
      | inl found ↦ inl (found.0.name, bytes, ([], refl, (refl, (found.0, found.1, refl))))
      | inr none ↦ inr (Index, (λ same. cc), (refl, none))
    ]

literal_or : (bits : ℕ) (table : Table) (bytes : List ℕ) → AreOctets bytes
    → Either ((field : Field) × (rest : List ℕ) × TakesLiteral bits table bytes field rest)
    (λ fault. IsLiteralFault fault bits (flags_of bits bytes) table bytes)
literal_or bits table bytes octets =
    elim (integer_or bits bytes) [
      | inr f ↦ inr (f.0, f.1, inl f.2)
      | inl (index, second, i) ↦
          (let octets_2 = behind bytes i.0 second i.1 octets in
          elim (name_or table index second octets_2) [
            | inr f ↦ inr (f.0, f.1, inr (index, i.0, second, i.1, i.2, inl f.2))
            | inl (name, third, n) ↦ elim (string_or third (behind second n.0 third n.1 octets_2)) [
              | inr f ↦ inr (
                f.0,
                f.1,
                inr (index, i.0, second, i.1, i.2, inr (n.0, name, third, n.1, n.2, f.2)),
              )
              | inl (value, rest, v) ↦ inl (
                entry name value,
                rest,
                literal_taken table bits index bytes second third rest name value i n v,
              )
            ]
          ])
    ]

indexed_or : (table : Table) (bytes : List ℕ) → flags_of 7 bytes ≡ 128
    → Either ((field : Field) × (rest : List ℕ) × TakesIndexed table bytes field rest)
    (λ fault. IsIndexedFault fault table bytes)
indexed_or table bytes flags =
    elim (integer_or 7 bytes) [
      | inr f ↦ inr (f.0, f.1, inl f.2)
      | inl (index, rest, i) ↦
          (let is : IsInteger 7 128 i.0 index =
          subst (λ (flags : ℕ). IsInteger 7 flags i.0 index) flags i.2 in
          elim (found_or (entry_at table index)) [
            | inl found ↦ inl (found.0, rest, (i.0, i.1, (index, is, found.1)))
            | inr none ↦ inr (Index, (λ same. cc), inr (index, i.0, rest, i.1, is, refl, none))
          ])
    ]

abbrev FieldOr : Table → List ℕ → Type 0
FieldOr table bytes =
    Either ((field : Field) × (is_entry : Bool) × (rest : List ℕ)
    × TakesField table bytes field is_entry rest) (λ fault. IsFieldFault fault table bytes)

-- the first byte tells the form
high_or : (table : Table) (bytes : List ℕ) → AreOctets bytes → 1 ≤ length bytes
    → 128 ≤ get_or bytes 0 0 → FieldOr table bytes
high_or table bytes octets some high =
    elim (indexed_or table bytes (flags_7_high bytes some high (first_octet bytes octets))) [
      | inl (field, rest, t) ↦ inl (field, false, rest, field_indexed table bytes rest field t)
      | inr f ↦ inr (f.0, f.1, inl (begins 128 256 bytes some high (first_octet bytes octets), f.2))
    ]

incremental_or : (table : Table) (bytes : List ℕ) → AreOctets bytes → 1 ≤ length bytes
    → 64 ≤ get_or bytes 0 0 → get_or bytes 0 0 < 128 → FieldOr table bytes
incremental_or table bytes octets some low high =
    elim (literal_or 6 table bytes octets) [
      | inl (field, rest, t) ↦
          inl (field, true, rest, field_incremental table bytes rest field some low high t)
      | inr f ↦ inr (
        f.0,
        f.1,
        memory_out f.0 (IsFieldFault f.0 table bytes) f.1 (fault_incremental f.0 table bytes some
            low high (memory_in f.0 (IsLiteralFault f.0 6 (flags_of 6 bytes) table bytes) f.2)),
      )
    ]

plain_or : (table : Table) (bytes : List ℕ) → AreOctets bytes → 1 ≤ length bytes
    → get_or bytes 0 0 < 32 → FieldOr table bytes
plain_or table bytes octets some low =
    elim (literal_or 4 table bytes octets) [
      | inl (field, rest, t) ↦
          inl (field, false, rest, field_literal table bytes rest field some low t)
      | inr f ↦ inr (
        f.0,
        f.1,
        memory_out f.0 (IsFieldFault f.0 table bytes) f.1 (fault_literal f.0 table bytes some low
            (memory_in f.0 (IsLiteralFault f.0 4 (flags_of 4 bytes) table bytes) f.2)),
      )
    ]

field_or : (table : Table) (bytes : List ℕ) → AreOctets bytes → 1 ≤ length bytes
    → FieldOr table bytes
field_or table bytes octets some =
    elim (cases_lt (get_or bytes 0 0) 128) [
      | inr high ↦ high_or table bytes octets some high
      | inl below_128 ↦ elim (cases_lt (get_or bytes 0 0) 64) [
        | inr high ↦ incremental_or table bytes octets some high below_128
        | inl below_64 ↦ elim (cases_lt (get_or bytes 0 0) 32) [
          | inr high ↦ inr (
            SizeUpdate,
            (λ same. cc),
            inr (inr (inr (inr (begins 32 64 bytes some high below_64, refl)))),
          )
          | inl below_32 ↦ plain_or table bytes octets some below_32
        ]
      ]
    ]

-- ---- blocks

abbrev FieldsOr : Table → List ℕ → Type 0
FieldsOr table bytes =
    Either ((fields : List Field) × (next : Table) × AreFields table bytes fields next
    × (sizes_of fields ≤ 65536)) (λ fault. IsFieldsFault fault table bytes)

fields_end : (table now : Table) (bytes : List ℕ) (fields : List Field) (room : ℕ)
    → IsTaking table bytes fields now [] room → FieldsOr table bytes
fields_end table now bytes fields room a =
    inl (
      fields,
      now,
      subst (λ (text : List ℕ). AreFields table text fields now)
          (sym (a.spelling ∙ append-nil a.front)) a.are_fields,
      omega (arith, a.lawful),
    )

fields_or : (n : ℕ) (table now : Table) (bytes rest : List ℕ) (fields : List Field) (room : ℕ)
    → length rest ≤ n → AreOctets rest → IsTaking table bytes fields now rest room
    → FieldsOr table bytes
fields_or n table now bytes [] fields room le octets a = fields_end table now bytes fields room a
fields_or zero table now bytes (byte ∷ rest) fields room le octets a = absurd (omega arith)
fields_or (suc n) table now bytes (byte ∷ rest) fields room le octets a =
    elim (field_or now (byte ∷ rest) octets (omega arith)) [
      | inr f ↦ inr (
        f.0,
        f.1,
        fields_fault f.0 table now bytes (byte ∷ rest) fields room a
            (memory_in f.0 (IsFieldFault f.0 now (byte ∷ rest)) f.2),
      )
      | inl (field, is_entry, more, t) ↦ elim (cases_lt room (size_of field)) [
        | inl large ↦ inr (
          TooLarge,
          (λ same. cc),
          too_large table now bytes (byte ∷ rest) more fields field is_entry room
              (min (size_of field) (2 ^ 64 - 1)) a t refl (omega (arith, large, a.lawful)),
        )
        | inr fits ↦
            fields_or n table (next_table is_entry now field) bytes more (fields ++ field ∷ [])
            (room - size_of field)
            (let shorter = t.shorter in omega arith)
            (behind (byte ∷ rest) t.text more t.spelling octets)
            (taking_more table now (next_table is_entry now field) bytes (byte ∷ rest) more fields
            field is_entry room (size_of field) a t refl fits refl)
      ]
    ]

abbrev UpdatesOr : Table → List ℕ → Type 0
UpdatesOr table bytes =
    Either ((next : Table) × (rest : List ℕ) × AreOctets rest × TakesUpdates table bytes next rest)
    (λ fault. IsUpdatesFault fault table bytes)

update_or : (bytes : List ℕ) → Begins 32 64 bytes ⊎ (Begins 32 64 bytes → ⊥)
update_or [] = inr (λ b. absurd (omega (arith, ap length b.2)))
update_or (byte ∷ bytes) =
    elim (cases_lt byte 32) [
      | inl low ↦
          inr (λ b.
          let e : byte ∷ bytes ≡ b.0 ∷ b.1 = b.2 in
          let same : byte ≡ b.0 = cc in
          omega (arith, low, same, b.3))
      | inr least ↦ elim (cases_lt byte 64) [
        | inl less ↦ inl (byte, bytes, refl, least, less)
        | inr high ↦
            inr (λ b.
            let e : byte ∷ bytes ≡ b.0 ∷ b.1 = b.2 in
            let same : byte ≡ b.0 = cc in
            omega (arith, high, same, b.4))
      ]
    ]

updates_or : (n : ℕ) (table now : Table) (bytes rest : List ℕ) → length rest ≤ n → AreOctets rest
    → IsUpdating table bytes now rest → UpdatesOr table bytes
updates_or zero table now bytes rest le octets u = inl (
  now,
  rest,
  octets,
  updates_taken table now bytes rest u (λ b. omega (arith, le, ap length b.2)),
)
updates_or (suc n) table now bytes rest le octets u =
    elim (update_or rest) [
      | inr none ↦ inl (now, rest, octets, updates_taken table now bytes rest u none)
      | inl begun ↦ elim (integer_or 5 rest) [
        | inr f ↦ inr (f.0, f.1, updates_integer f.0 table now bytes rest u begun f.2)
        | inl (limit, more, t) ↦ elim (cases_lt 4096 limit) [
          | inl large ↦ inr (
            SizeUpdate,
            (λ same. cc),
            updates_over table now bytes rest more limit u begun t large,
          )
          | inr small ↦
              updates_or n table (resize now limit) bytes more
              (omega (arith, le, integer_shorter 5 limit rest more t))
              (behind rest t.0 more t.1 octets)
              (updating_more table now bytes rest more limit u begun t small)
        ]
      ]
    ]

block_or : (table : Table) (block : List ℕ) → AreOctets block
    → Either ((fields : List Field) × (next : Table) × IsBlock table block fields next
    × (sizes_of fields ≤ 65536)) (λ fault. Stands fault table block)
block_or table block octets =
    elim (updates_or (length block) table table block block (omega arith) octets
    (updating_none table block)) [
      | inr f ↦ inr (f.0, f.1, updates_fault f.0 table block f.2)
      | inl (mid, rest, octets_2, t) ↦
          elim (fields_or (length rest) mid mid rest rest [] 65536 (omega arith) octets_2
          (taking_none mid rest t.no_more)) [
            | inl (fields, next, are, lawful) ↦
                inl (fields, next, reads_block table mid next block rest fields t are, lawful)
            | inr f ↦ inr (f.0, f.1, block_fault f.0 table mid block rest t f.2)
          ]
    ]

-- a block is read over what a decoder kept, or has a first fault
pub each_has_answer : (kept : Option Table) (block : List ℕ) → All (λ byte. byte < 256) block
    → ((fields : List Field) × (next : Option Table) × Reads kept block fields next)
    ⊎ ((fault : HpackFault) × (fault ≢ OutOfMemory) × IsFirstFault fault kept block)
each_has_answer None block all = inr (Dead, (λ same. cc), refl)
each_has_answer (Some table) block all =
    elim (block_or table block (octets_of block all)) [
      | inl (fields, next, is, lawful) ↦ inl (fields, Some next, (is, lawful))
      | inr f ↦ inr f
    ]
