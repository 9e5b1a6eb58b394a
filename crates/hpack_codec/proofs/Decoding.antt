-- On the loops of the decoder: what was read so far, and where a fault stands.
use Rattle.std.proofs.Common.{
  ◌≡◌,
  ℕ,
  zero,
  suc,
  ◌+◌,
  ◌-◌,
  ◌^◌,
  ◌<◌,
  ◌≤◌,
  Bool,
  List,
  [],
  ◌∷◌,
  ◌++◌,
  length,
  refl,
  sym,
  subst,
  ◌∙◌,
  ap,
  inl,
  inr,
  arith,
  append_assoc,
  length-append,
  min,
  Option,
  Some,
}
use Rattle.hpack_codec.specs.Codec.{IsFirstFault}
use Rattle.std.proofs.lemmas.List.{append-nil}
use Rattle.hpack_codec.specs.declared.fault.HpackFault.{HpackFault}
use Rattle.hpack_codec.specs.declared.fault.HpackFault.TheVariants.{
  Integer,
  Index,
  Huffman,
  SizeUpdate,
  Truncated,
  OutOfMemory,
  Dead,
  TooLarge,
}
use Rattle.lists.specs.declared.field.Field.{Field}
use Rattle.hpack_codec.specs.Integer.{IsInteger}
use Rattle.hpack_codec.specs.Table.{Table, resize, sizes_of, size_of}
use Rattle.hpack_codec.specs.Block.{AreUpdates, AreFields, Represents, IsBlock}
use Rattle.hpack_codec.specs.Faults.{
  IsUpdateFault,
  IsIntegerFault,
  IsStringFault,
  IsNameFault,
  IsLiteralFault,
  IsIndexedFault,
  IsFaultBehind,
  StandsBehind,
  Stands,
  Begins,
}
use Rattle.hpack_codec.specs.Reading.{
  OrMemory,
  TakesInteger,
  TakesField,
  TakesUpdates,
  IsUpdatesFault,
  IsFieldFault,
  IsFieldsFault,
  FaultBehind,
  LargeFront,
  next_table,
  flags_of,
}
use Rattle.hpack_codec.proofs.Tables.{sizes_of-nil, sizes_of-push}
use Rattle.hpack_codec.proofs.Blocks.{AreFields-push}
use Rattle.hpack_codec.proofs.Literals.{flags_5, integer_some}

-- changes of size were taken, and more may follow
pub record IsUpdating (table : Table) (bytes : List ℕ) (now : Table) (rest : List ℕ) : Type 0 where
  pub text : List ℕ
  pub limits : List ℕ
  pub spelling : bytes ≡ text ++ rest
  pub are_updates : AreUpdates table text limits now

pub updating_none : (table : Table) (bytes : List ℕ) → IsUpdating table bytes table bytes
unfolding AreUpdates
updating_none table bytes =
    record { text = []; limits = []; spelling = refl; are_updates = (refl, refl) }

AreUpdates-push : (table mid : Table) (text last limits : List ℕ) (limit : ℕ)
    → AreUpdates table text limits mid → IsInteger 5 32 last limit → limit ≤ 4096
    → AreUpdates table (text ++ last) (limits ++ limit ∷ []) (resize mid limit)
unfolding AreUpdates
AreUpdates-push table mid text last [] limit a i h = (
  last,
  [],
  ap (λ (front : List ℕ). front ++ last) a.0 ∙ sym (append-nil last),
  i,
  h,
  (refl, ap (λ (here : Table). resize here limit) a.1),
)
AreUpdates-push table mid text last (l ∷ limits) limit a i h = (
  a.0,
  a.1 ++ last,
  ap (λ (front : List ℕ). front ++ last) a.2 ∙ append_assoc a.0 a.1 last,
  a.3,
  a.4,
  AreUpdates-push (resize table l) mid a.1 last limits limit a.5 i h,
)

pub updating_more : (table now : Table) (bytes rest behind : List ℕ) (limit : ℕ)
    → IsUpdating table bytes now rest → Begins 32 64 rest
    → TakesInteger 5 rest limit behind → limit ≤ 4096
    → IsUpdating table bytes (resize now limit) behind
updating_more table now bytes rest behind limit u b t h = record {
  text = u.text ++ t.0;
  limits = u.limits ++ limit ∷ [];
  spelling =
      u.spelling ∙ ap (λ (tail : List ℕ). u.text ++ tail) t.1
      ∙ sym (append_assoc u.text t.0 behind);
  are_updates =
      AreUpdates-push table now u.text t.0 u.limits limit u.are_updates
      (subst (λ (flags : ℕ). IsInteger 5 flags t.0 limit) (flags_5 rest b) t.2) h;
}

pub integer_shorter : (prefix_bits number : ℕ) (bytes rest : List ℕ)
    → TakesInteger prefix_bits bytes number rest → length rest < length bytes
integer_shorter prefix_bits number bytes rest t =
    omega (
      arith,
      ap length t.1,
      length-append t.0 rest,
      integer_some prefix_bits (flags_of prefix_bits bytes) t.0 number t.2,
    )

pub updates_taken : (table now : Table) (bytes rest : List ℕ) → IsUpdating table bytes now rest
    → (Begins 32 64 rest → ⊥) → TakesUpdates table bytes now rest
updates_taken table now bytes rest u none = record {
  text = u.text;
  limits = u.limits;
  spelling = u.spelling;
  are_updates = u.are_updates;
  no_more = none;
}

pub updates_integer : (fault : HpackFault) (table now : Table) (bytes rest : List ℕ)
    → IsUpdating table bytes now rest → Begins 32 64 rest → IsIntegerFault fault 5 rest
    → IsUpdatesFault fault table bytes
updates_integer fault table now bytes rest u b f = record {
  text = u.text;
  rest = rest;
  limits = u.limits;
  mid = now;
  spelling = u.spelling;
  are_updates = u.are_updates;
  begins = b;
  is_fault = inl f;
}

pub updates_over : (table now : Table) (bytes rest behind : List ℕ) (limit : ℕ)
    → IsUpdating table bytes now rest → Begins 32 64 rest
    → TakesInteger 5 rest limit behind → 4096 < limit
    → IsUpdatesFault SizeUpdate table bytes
updates_over table now bytes rest behind limit u b t h = record {
  text = u.text;
  rest = rest;
  limits = u.limits;
  mid = now;
  spelling = u.spelling;
  are_updates = u.are_updates;
  begins = b;
  is_fault = inr (
    limit,
    t.0,
    behind,
    t.1,
    subst (λ (flags : ℕ). IsInteger 5 flags t.0 limit) (flags_5 rest b) t.2,
    refl,
    h,
  );
}

-- fields were taken, and more may follow
pub record IsTaking (table : Table) (bytes : List ℕ) (fields : List Field) (now : Table)
    (rest : List ℕ) (room : ℕ) : Type 0 where
  pub front : List ℕ
  pub spelling : bytes ≡ front ++ rest
  pub are_fields : AreFields table front fields now
  pub lawful : sizes_of fields + room ≡ 65536
  pub no_update : fields ≡ [] → Begins 32 64 rest → ⊥

pub taking_none : (table : Table) (bytes : List ℕ) → (Begins 32 64 bytes → ⊥)
    → IsTaking table bytes [] table bytes 65536
unfolding AreFields
taking_none table bytes none = record {
  front = [];
  spelling = refl;
  are_fields = (refl, refl);
  lawful = omega (arith, sizes_of-nil);
  no_update = λ e. none;
}

pushed : (fields : List Field) (field : Field) → fields ++ field ∷ [] ≡ [] → ⊥
pushed [] field e = cc
pushed (f ∷ fields) field e = cc

pub taking_more : (table now next : Table) (bytes rest behind : List ℕ) (fields : List Field)
    (field : Field) (is_entry : Bool) (room size : ℕ)
    → IsTaking table bytes fields now rest room → TakesField now rest field is_entry behind
    → size ≡ size_of field → size ≤ room
    → next ≡ next_table is_entry now field
    → IsTaking table bytes (fields ++ field ∷ []) next behind (room - size)
taking_more table now next bytes rest behind fields field is_entry room size a t size_is fits
    next_is = record {
      front = a.front ++ t.text;
      spelling =
          a.spelling ∙ ap (λ (tail : List ℕ). a.front ++ tail) t.spelling
          ∙ sym (append_assoc a.front t.text behind);
      are_fields =
          AreFields-push table now next a.front t.text fields field a.are_fields
          (subst (Represents now t.text field) (sym next_is) t.represents);
      lawful = omega (arith, a.lawful, sizes_of-push fields field, size_is, fits);
      no_update = λ e b. pushed fields field e;
    }

pub too_large : (table now : Table) (bytes rest behind : List ℕ) (fields : List Field)
    (field : Field) (is_entry : Bool) (room size : ℕ)
    → IsTaking table bytes fields now rest room → TakesField now rest field is_entry behind
    → size ≡ min (size_of field) (2 ^ 64 - 1) → room < size → LargeFront table bytes
too_large table now bytes rest behind fields field is_entry room size a t size_is large = record {
  front = a.front ++ t.text;
  rest = behind;
  fields = fields ++ field ∷ [];
  mid = next_table is_entry now field;
  spelling =
      a.spelling ∙ ap (λ (tail : List ℕ). a.front ++ tail) t.spelling
      ∙ sym (append_assoc a.front t.text behind);
  are_fields =
      AreFields-push table now (next_table is_entry now field) a.front t.text fields field
      a.are_fields t.represents;
  large = omega (arith, a.lawful, sizes_of-push fields field, size_is, large);
}

-- a size that has room is the size
pub whole_size : (table now : Table) (bytes rest : List ℕ) (fields : List Field)
    (field : Field) (room size : ℕ)
    → IsTaking table bytes fields now rest room
    → size ≡ min (size_of field) (2 ^ 64 - 1) → size ≤ room → size ≡ size_of field
whole_size table now bytes rest fields field room size a size_is fits =
    omega (arith, a.lawful, size_is, fits)

behind_fields : (fault : HpackFault) (table now : Table) (bytes rest : List ℕ)
    (fields : List Field) (room : ℕ)
    → IsTaking table bytes fields now rest room
    → IsFieldFault fault now rest → IsFaultBehind fault fields now rest
behind_fields fault table now bytes rest fields room a (inl f) = inl f
behind_fields fault table now bytes rest fields room a (inr (inl f)) = inr (inl f)
behind_fields fault table now bytes rest fields room a (inr (inr (inl f))) = inr (inr (inl f))
behind_fields fault table now bytes rest fields room a (inr (inr (inr (inl f)))) =
    inr (inr (inr (inl f)))
behind_fields fault table now bytes rest fields room a (inr (inr (inr (inr f)))) =
    inr (inr (inr (inr (inr (f.0, (λ e. a.no_update e f.0), f.1)))))

fault_behind : (fault : HpackFault) (table now : Table) (bytes rest : List ℕ)
    (fields : List Field) (room : ℕ)
    → IsTaking table bytes fields now rest room
    → IsFieldFault fault now rest → FaultBehind fault table bytes
fault_behind fault table now bytes rest fields room a f = record {
  front = a.front;
  rest = rest;
  fields = fields;
  mid = now;
  spelling = a.spelling;
  are_fields = a.are_fields;
  lawful = omega (arith, a.lawful);
  is_fault = behind_fields fault table now bytes rest fields room a f;
}

-- a fault that stands nowhere
pub record IsNowhere (fault : HpackFault) : Type 0 where
  pub integer : (prefix_bits : ℕ) (bytes : List ℕ) → IsIntegerFault fault prefix_bits bytes → ⊥
  pub string : (bytes : List ℕ) → IsStringFault fault bytes → ⊥
  pub index : fault ≡ Index → ⊥
  pub update : fault ≡ SizeUpdate → ⊥

dead_nowhere : IsNowhere Dead
dead_nowhere = record {
  integer = λ prefix_bits bytes f. f;
  string = λ bytes f. f;
  index = λ e. cc;
  update = λ e. cc;
}

large_nowhere : IsNowhere TooLarge
large_nowhere = record {
  integer = λ prefix_bits bytes f. f;
  string = λ bytes f. f;
  index = λ e. cc;
  update = λ e. cc;
}

no_name : (fault : HpackFault) (table : Table) (index : ℕ) (bytes : List ℕ) → IsNowhere fault
    → IsNameFault fault table index bytes → ⊥
no_name fault table zero bytes none f = none.string bytes f
no_name fault table (suc place) bytes none f = none.index f.0

no_literal : (fault : HpackFault) (prefix_bits flags : ℕ) (table : Table) (bytes : List ℕ)
    → IsNowhere fault → IsLiteralFault fault prefix_bits flags table bytes → ⊥
no_literal fault prefix_bits flags table bytes none (inl f) = none.integer prefix_bits bytes f
no_literal fault prefix_bits flags table bytes none (inr f) =
    elim (f.5) [
      | inl name ↦ no_name fault table f.0 f.2 none name
      | inr value ↦ none.string value.2 value.5
    ]

no_indexed : (fault : HpackFault) (table : Table) (bytes : List ℕ) → IsNowhere fault
    → IsIndexedFault fault table bytes → ⊥
no_indexed fault table bytes none (inl f) = none.integer 7 bytes f
no_indexed fault table bytes none (inr f) = none.index f.5

no_field : (fault : HpackFault) (table : Table) (bytes : List ℕ) → IsNowhere fault
    → IsFieldFault fault table bytes → ⊥
no_field fault table bytes none (inl f) = no_indexed fault table bytes none f.1
no_field fault table bytes none (inr (inl f)) = no_literal fault 6 64 table bytes none f.1
no_field fault table bytes none (inr (inr (inl f))) = no_literal fault 4 16 table bytes none f.1
no_field fault table bytes none (inr (inr (inr (inl f)))) =
    no_literal fault 4 0 table bytes none f.1
no_field fault table bytes none (inr (inr (inr (inr f)))) = none.update f.1

pub fields_fault : (fault : HpackFault) (table now : Table) (bytes rest : List ℕ)
    (fields : List Field) (room : ℕ)
    → IsTaking table bytes fields now rest room
    → OrMemory fault (IsFieldFault fault now rest) → IsFieldsFault fault table bytes
fields_fault Integer table now bytes rest fields room a f =
    fault_behind Integer table now bytes rest fields room a f
fields_fault Index table now bytes rest fields room a f =
    fault_behind Index table now bytes rest fields room a f
fields_fault Huffman table now bytes rest fields room a f =
    fault_behind Huffman table now bytes rest fields room a f
fields_fault SizeUpdate table now bytes rest fields room a f =
    fault_behind SizeUpdate table now bytes rest fields room a f
fields_fault Truncated table now bytes rest fields room a f =
    fault_behind Truncated table now bytes rest fields room a f
fields_fault OutOfMemory table now bytes rest fields room a f = tt
fields_fault Dead table now bytes rest fields room a f = no_field Dead now rest dead_nowhere f
fields_fault TooLarge table now bytes rest fields room a f =
    absurd (no_field TooLarge now rest large_nowhere f)

-- a block whose fields stand behind its changes of size
pub block_of : (table mid next : Table) (block front rest : List ℕ) (fields : List Field)
    → TakesUpdates table block mid rest → AreFields mid front fields next
    → (u : TakesUpdates table block mid rest) → IsBlock table (u.text ++ front) fields next
block_of table mid next block front rest fields t a u = record {
  limits = u.limits;
  updates = u.text;
  rest = front;
  mid = mid;
  spelling = refl;
  are_updates = u.are_updates;
  are_fields = a;
}

pub reads_block : (table mid next : Table) (block rest : List ℕ) (fields : List Field)
    → TakesUpdates table block mid rest → AreFields mid rest fields next
    → IsBlock table block fields next
reads_block table mid next block rest fields t a = record {
  limits = t.limits;
  updates = t.text;
  rest = rest;
  mid = mid;
  spelling = t.spelling;
  are_updates = t.are_updates;
  are_fields = a;
}

updates_alone : (table mid : Table) (text limits : List ℕ) → AreUpdates table text limits mid
    → IsBlock table text [] mid
unfolding AreFields
updates_alone table mid text limits a = record {
  limits = limits;
  updates = text;
  rest = [];
  mid = mid;
  spelling = sym (append-nil text);
  are_updates = a;
  are_fields = (refl, refl);
}

updates_stand : (fault : HpackFault) (table : Table) (block : List ℕ)
    → IsUpdatesFault fault table block → StandsBehind fault table block
updates_stand fault table block f = record {
  front = f.text;
  rest = f.rest;
  fields = [];
  mid = f.mid;
  spelling = f.spelling;
  is_block = updates_alone table f.mid f.text f.limits f.are_updates;
  lawful = omega (arith, sizes_of-nil);
  is_fault = inr (inr (inr (inr (inl (f.begins, refl, f.is_fault)))));
}

no_update : (fault : HpackFault) (bytes : List ℕ) → IsNowhere fault → IsUpdateFault fault bytes → ⊥
no_update fault bytes none (inl f) = none.integer 5 bytes f
no_update fault bytes none (inr f) = none.update f.5

pub updates_fault : (fault : HpackFault) (table : Table) (block : List ℕ)
    → IsUpdatesFault fault table block → Stands fault table block
updates_fault Integer table block f = updates_stand Integer table block f
updates_fault Index table block f = updates_stand Index table block f
updates_fault Huffman table block f = updates_stand Huffman table block f
updates_fault SizeUpdate table block f = updates_stand SizeUpdate table block f
updates_fault Truncated table block f = updates_stand Truncated table block f
updates_fault OutOfMemory table block f = tt
updates_fault Dead table block f = no_update Dead f.rest dead_nowhere f.is_fault
updates_fault TooLarge table block f = absurd (no_update TooLarge f.rest large_nowhere f.is_fault)

fields_stand : (fault : HpackFault) (table mid : Table) (block rest : List ℕ)
    → TakesUpdates table block mid rest → FaultBehind fault mid rest
    → StandsBehind fault table block
fields_stand fault table mid block rest t f = record {
  front = t.text ++ f.front;
  rest = f.rest;
  fields = f.fields;
  mid = f.mid;
  spelling =
      t.spelling ∙ ap (λ (tail : List ℕ). t.text ++ tail) f.spelling
      ∙ sym (append_assoc t.text f.front f.rest);
  is_block = block_of table mid f.mid block f.front rest f.fields t f.are_fields t;
  lawful = f.lawful;
  is_fault = f.is_fault;
}

pub block_fault : (fault : HpackFault) (table mid : Table) (block rest : List ℕ)
    → TakesUpdates table block mid rest → IsFieldsFault fault mid rest → Stands fault table block
block_fault Integer table mid block rest t f = fields_stand Integer table mid block rest t f
block_fault Index table mid block rest t f = fields_stand Index table mid block rest t f
block_fault Huffman table mid block rest t f = fields_stand Huffman table mid block rest t f
block_fault SizeUpdate table mid block rest t f = fields_stand SizeUpdate table mid block rest t f
block_fault Truncated table mid block rest t f = fields_stand Truncated table mid block rest t f
block_fault OutOfMemory table mid block rest t f = tt
block_fault Dead table mid block rest t f = f
block_fault TooLarge table mid block rest t f = record {
  front = t.text ++ f.front;
  rest = f.rest;
  fields = f.fields;
  mid = f.mid;
  spelling =
      t.spelling ∙ ap (λ (tail : List ℕ). t.text ++ tail) f.spelling
      ∙ sym (append_assoc t.text f.front f.rest);
  is_block = block_of table mid f.mid block f.front rest f.fields t f.are_fields t;
  large = f.large;
}

pub first_fault : (fault : HpackFault) (kept : Option Table) (table : Table) (block : List ℕ)
    → kept ≡ Some table → Stands fault table block → IsFirstFault fault kept block
first_fault fault kept table block is f =
    subst (λ (k : Option Table). IsFirstFault fault k block) (sym is) f
