-- On representations of fields: how they are taken from the front.
use Rattle.std.proofs.Common.{
  ◌≡◌,
  ◌≢◌,
  ℕ,
  zero,
  suc,
  ◌*◌,
  ◌/◌,
  ◌^◌,
  ◌<◌,
  ◌≤◌,
  true,
  false,
  List,
  [],
  ◌++◌,
  length,
  get_or,
  refl,
  sym,
  subst,
  ◌∙◌,
  ap,
  inl,
  inr,
  arith,
  append_assoc,
  length-append,
  Some,
}
use Rattle.std.proofs.lemmas.Bool.{cases_lt}
use Rattle.hpack_codec.specs.declared.fault.HpackFault.{HpackFault}
use Rattle.hpack_codec.specs.declared.fault.HpackFault.TheVariants.{
  Integer,
  Index,
  Huffman,
  SizeUpdate,
  Truncated,
  OutOfMemory,
  Dead,
  TooLarge,
}
use Rattle.lists.specs.declared.field.Field.{Field}
use Rattle.hpack_codec.specs.Integer.{IsInteger}
use Rattle.hpack_codec.specs.StaticTable.{entry}
use Rattle.hpack_codec.specs.Table.{Table, entry_at}
use Rattle.hpack_codec.specs.Block.{IsLiteral, Indexed, Incremental, WithoutIndexing, NeverIndexed}
use Rattle.hpack_codec.specs.Faults.{IsLiteralFault, Begins}
use Rattle.hpack_codec.specs.Reading.{
  OrMemory,
  TakesInteger,
  TakesString,
  TakesName,
  TakesLiteral,
  TakesIndexed,
  TakesField,
  IsFieldFault,
  flags_of,
}
use Rattle.hpack_codec.proofs.Integers.{parted}
use Rattle.hpack_codec.proofs.Strings.{flags_from}

pub name_entry : (table : Table) (index : ℕ) (bytes : List ℕ) (field : Field) → index ≢ 0
    → entry_at table index ≡ Some field → TakesName table index bytes field.name bytes
name_entry table zero bytes field some is = absurd (some refl)
name_entry table (suc place) bytes field some is = ([], refl, (refl, (field, is, refl)))

pub literal_taken : (table : Table) (prefix_bits index : ℕ)
    (bytes behind third rest name_octets value_octets : List ℕ)
    → TakesInteger prefix_bits bytes index behind → TakesName table index behind name_octets third
    → TakesString third value_octets rest
    → TakesLiteral prefix_bits table bytes (entry name_octets value_octets) rest
literal_taken table prefix_bits index bytes behind third rest name_octets value_octets i n v = (
  i.0 ++ (n.0 ++ v.0),
  i.1
      ∙ ap (λ (tail : List ℕ). i.0 ++ tail)
      (n.1 ∙ ap (λ (tail : List ℕ). n.0 ++ tail) v.1 ∙ sym (append_assoc n.0 v.0 rest))
      ∙ sym (append_assoc i.0 (n.0 ++ v.0) rest),
  record {
    index = index;
    index_text = i.0;
    name_text = n.0;
    value_text = v.0;
    spelling = refl;
    is_index = i.2;
    is_name = n.2;
    is_value = v.2;
  },
)

-- the first byte tells the flags
pub begins : (least above : ℕ) (bytes : List ℕ) → 1 ≤ length bytes → least ≤ get_or bytes 0 0
    → get_or bytes 0 0 < above → Begins least above bytes
begins least above bytes some low high = (get_or bytes 0 0, _, parted bytes some, low, high)

pub flags_6 : (bytes : List ℕ) → 1 ≤ length bytes → 64 ≤ get_or bytes 0 0 → get_or bytes 0 0 < 128
    → flags_of 6 bytes ≡ 64
flags_6 bytes some low high = flags_from 6 64 bytes some (at_64 (get_or bytes 0 0) low high)
  where
    at_64 : (n : ℕ) → 64 ≤ n → n < 128 → n / 2 ^ 6 * 2 ^ 6 ≡ 64
    at_64 n h k = omega arith

pub flags_4_high : (bytes : List ℕ) → 1 ≤ length bytes → 16 ≤ get_or bytes 0 0
    → get_or bytes 0 0 < 32 → flags_of 4 bytes ≡ 16
flags_4_high bytes some low high = flags_from 4 16 bytes some (at_16 (get_or bytes 0 0) low high)
  where
    at_16 : (n : ℕ) → 16 ≤ n → n < 32 → n / 2 ^ 4 * 2 ^ 4 ≡ 16
    at_16 n h k = omega arith

pub flags_4_low : (bytes : List ℕ) → 1 ≤ length bytes → get_or bytes 0 0 < 16 → flags_of 4 bytes ≡ 0
flags_4_low bytes some high = flags_from 4 0 bytes some (at_0 (get_or bytes 0 0) high)
  where
    at_0 : (n : ℕ) → n < 16 → n / 2 ^ 4 * 2 ^ 4 ≡ 0
    at_0 n h = omega arith

pub flags_5 : (bytes : List ℕ) → Begins 32 64 bytes → flags_of 5 bytes ≡ 32
unfolding flags_of
flags_5 bytes b = ap (flags_of 5) b.2 ∙ at_32 b.0 b.3 b.4
  where
    at_32 : (n : ℕ) → 32 ≤ n → n < 64 → n / 2 ^ 5 * 2 ^ 5 ≡ 32
    at_32 n h k = omega arith

-- an integer has a byte at least
pub integer_some : (prefix_bits flags : ℕ) (text : List ℕ) (number : ℕ)
    → IsInteger prefix_bits flags text number → 0 < length text
integer_some prefix_bits flags text number (inl short) = omega (arith, ap length short.spelling)
integer_some prefix_bits flags text number (inr long) = omega (arith, ap length long.spelling)

pub literal_some : (prefix_bits flags : ℕ) (table : Table) (text : List ℕ) (field : Field)
    → IsLiteral prefix_bits flags table text field → 0 < length text
literal_some prefix_bits flags table text field l =
    omega (
      arith,
      ap length l.spelling,
      length-append l.index_text (l.name_text ++ l.value_text),
      integer_some prefix_bits flags l.index_text l.index l.is_index,
    )

pub field_incremental : (table : Table) (bytes rest : List ℕ) (field : Field) → 1 ≤ length bytes
    → 64 ≤ get_or bytes 0 0 → get_or bytes 0 0 < 128
    → TakesLiteral 6 table bytes field rest → TakesField table bytes field true rest
field_incremental table bytes rest field some low high t =
    let l : IsLiteral 6 64 table t.0 field =
    subst (λ (flags : ℕ). IsLiteral 6 flags table t.0 field) (flags_6 bytes some low high) t.2 in
    record {
      text = t.0;
      spelling = t.1;
      represents = (Incremental, (l, refl));
      shorter =
          omega (arith, ap length t.1, length-append t.0 rest, literal_some 6 64 table t.0 field l);
    }

pub field_literal : (table : Table) (bytes rest : List ℕ) (field : Field) → 1 ≤ length bytes
    → get_or bytes 0 0 < 32
    → TakesLiteral 4 table bytes field rest → TakesField table bytes field false rest
field_literal table bytes rest field some low t =
    elim (cases_lt (get_or bytes 0 0) 16) [
      | inl plain ↦
          (let l : IsLiteral 4 0 table t.0 field =
          subst (λ (flags : ℕ). IsLiteral 4 flags table t.0 field)
          (flags_4_low bytes some plain) t.2 in
          record {
            text = t.0;
            spelling = t.1;
            represents = (WithoutIndexing, (l, refl));
            shorter = omega
                (arith, ap length t.1, length-append t.0 rest, literal_some 4 0 table t.0 field l);
          })
      | inr never ↦
          (let l : IsLiteral 4 16 table t.0 field =
          subst (λ (flags : ℕ). IsLiteral 4 flags table t.0 field)
          (flags_4_high bytes some never low) t.2 in
          record {
            text = t.0;
            spelling = t.1;
            represents = (NeverIndexed, (l, refl));
            shorter = omega
                (arith, ap length t.1, length-append t.0 rest, literal_some 4 16 table t.0 field l);
          })
    ]

pub field_indexed : (table : Table) (bytes rest : List ℕ) (field : Field)
    → TakesIndexed table bytes field rest → TakesField table bytes field false rest
field_indexed table bytes rest field t = record {
  text = t.0;
  spelling = t.1;
  represents = (Indexed, (t.2, refl));
  shorter =
      omega (arith, ap length t.1, length-append t.0 rest, integer_some 7 128 t.0 t.2.0 t.2.1);
}

or_memory : (fault : HpackFault) (P Q : Type 0) → (P → Q) → OrMemory fault P → OrMemory fault Q
or_memory Integer P Q f p = f p
or_memory Index P Q f p = f p
or_memory Huffman P Q f p = f p
or_memory SizeUpdate P Q f p = f p
or_memory Truncated P Q f p = f p
or_memory OutOfMemory P Q f p = tt
or_memory Dead P Q f p = f p
or_memory TooLarge P Q f p = f p

pub fault_incremental : (fault : HpackFault) (table : Table) (bytes : List ℕ) → 1 ≤ length bytes
    → 64 ≤ get_or bytes 0 0 → get_or bytes 0 0 < 128
    → OrMemory fault (IsLiteralFault fault 6 (flags_of 6 bytes) table bytes)
    → OrMemory fault (IsFieldFault fault table bytes)
fault_incremental fault table bytes some low high =
    or_memory fault _ _ (λ f.
    inr (inl (
      begins 64 128 bytes some low high,
      subst (λ (flags : ℕ). IsLiteralFault fault 6 flags table bytes)
          (flags_6 bytes some low high) f,
    )))

pub fault_literal : (fault : HpackFault) (table : Table) (bytes : List ℕ) → 1 ≤ length bytes
    → get_or bytes 0 0 < 32
    → OrMemory fault (IsLiteralFault fault 4 (flags_of 4 bytes) table bytes)
    → OrMemory fault (IsFieldFault fault table bytes)
fault_literal fault table bytes some low =
    or_memory fault _ _ (λ f. elim (cases_lt (get_or bytes 0 0) 16) [
      | inl plain ↦
          inr (inr (inr (inl (
            begins 0 16 bytes some (omega arith) plain,
            subst (λ (flags : ℕ). IsLiteralFault fault 4 flags table bytes)
                (flags_4_low bytes some plain) f,
          ))))
      | inr never ↦
          inr (inr (inl (
            begins 16 32 bytes some never low,
            subst (λ (flags : ℕ). IsLiteralFault fault 4 flags table bytes)
                (flags_4_high bytes some never low) f,
          )))
    ])
