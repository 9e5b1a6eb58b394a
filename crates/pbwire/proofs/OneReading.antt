-- A byte list has one reading, and what is written is read.
use Rattle.std.proofs.Common.{
  ◌≡◌,
  ℕ,
  zero,
  suc,
  ◌^◌,
  ◌<◌,
  ◌≤◌,
  List,
  [],
  ◌∷◌,
  ◌++◌,
  length,
  Option,
  Some,
  None,
  Result,
  Ok,
  Err,
  refl,
  sym,
  ap,
  subst,
  ◌∙◌,
  append_assoc,
  arith,
}
use Rattle.std.specs.List.{AllByRecursion}
use Rattle.std.proofs.lemmas.List.Concat.{flat_map-cons}
use Rattle.std.proofs.lemmas.Nat.{from_le_bytes-to_le_bytes_4, from_le_bytes-to_le_bytes_8}
use Rattle.pbwire.specs.declared.fault.WireFault.{WireFault}
use Rattle.pbwire.specs.Fields.{
  Content,
  varint,
  eight_bytes,
  bytes,
  four_bytes,
  Field,
  wire_type,
  tag_of,
  SpellsContent,
  StartsWithField,
  FaultAt,
  StartsWithFields,
  IsReading,
}
use Rattle.pbwire.specs.Reading.{field_at}
use Rattle.pbwire.specs.Spelling.{
  varint_spelling,
  content_spelling,
  spelling_of,
  spelling_of_all,
  FitsContent,
  FitsField,
}
use Rattle.pbwire.proofs.FieldsRead.{
  FieldRead,
  field_read,
  one_field,
  one_fault,
  field_or_fault,
  field_shortens,
  no_field_at_end,
  no_fault_at_end,
}
use Rattle.pbwire.proofs.VarintsWritten.{is_varint}

-- ---- one more field at the end

pub fields-push : (input : List ℕ) (fields : List Field) (middle : List ℕ)
    (field : Field) (rest : List ℕ)
    → StartsWithFields input fields middle → StartsWithField middle field rest
    → StartsWithFields input (fields ++ field ∷ []) rest
fields-push input [] middle field rest before there =
    (rest, subst (λ (t : List ℕ). StartsWithField t field rest) (sym before) there, refl)
fields-push input (f ∷ fs) middle field rest before there =
    (before.0, before.1, fields-push before.0 fs middle field rest before.2 there)

-- ---- one reading

-- what stands after the fields
abbrev Stops : List ℕ → Option WireFault → Type 0
Stops rest None = rest ≡ []
Stops rest (Some fault) = FaultAt rest fault

-- a reading, at its end and at its fault alike
abbrev Stopped : List ℕ → List Field → Option WireFault → Type 0
Stopped input fields stop = (rest : List ℕ) × StartsWithFields input fields rest × Stops rest stop

stopped : (input : List ℕ) (fields : List Field) (stop : Option WireFault)
    → IsReading input fields stop → Stopped input fields stop
stopped input fields None reading = ([], reading, refl)
stopped input fields (Some fault) reading = reading

reading_of : (input : List ℕ) (fields : List Field) (stop : Option WireFault)
    → Stopped input fields stop → IsReading input fields stop
reading_of input fields None reading = subst (StartsWithFields input fields) reading.2 reading.1
reading_of input fields (Some fault) reading = reading

one_stop : (rest : List ℕ) (stop other : Option WireFault) → Stops rest stop
    → Stops rest other → stop ≡ other
one_stop rest None None ends also = refl
one_stop rest None (Some fault) ends also =
    absurd (no_fault_at_end fault (subst (λ (t : List ℕ). FaultAt t fault) ends also))
one_stop rest (Some fault) None ends also =
    absurd (no_fault_at_end fault (subst (λ (t : List ℕ). FaultAt t fault) also ends))
one_stop rest (Some fault) (Some other) ends also =
    ap (λ (d : WireFault). Some d) (one_fault rest fault other ends also)

goes_on : (rest : List ℕ) (field : Field) (more : List ℕ) (stop : Option WireFault)
    → StartsWithField rest field more → Stops rest stop → ⊥
goes_on rest field more None there ends =
    no_field_at_end field more (subst (λ (t : List ℕ). StartsWithField t field more) ends there)
goes_on rest field more (Some fault) there ends = field_or_fault rest field more fault there ends

same_fields : (input : List ℕ) (fields others : List Field) (rest more : List ℕ)
    (stop other : Option WireFault)
    → StartsWithFields input fields rest → Stops rest stop → StartsWithFields input others more
    → Stops more other → (fields ≡ others) × (stop ≡ other)
same_fields input [] [] rest more stop other before ends also_before also_ends =
    let e : rest ≡ more = sym before ∙ also_before in
    (refl, one_stop more stop other (subst (λ (t : List ℕ). Stops t stop) e ends) also_ends)
same_fields input [] (g ∷ gs) rest more stop other before ends also_before also_ends =
    absurd (goes_on input g also_before.0 stop also_before.1
    (subst (λ (t : List ℕ). Stops t stop) (sym before) ends))
same_fields input (f ∷ fs) [] rest more stop other before ends also_before also_ends =
    absurd (goes_on input f before.0 other before.1
    (subst (λ (t : List ℕ). Stops t other) (sym also_before) also_ends))
same_fields input (f ∷ fs) (g ∷ gs) rest more stop other before ends also_before also_ends =
    let one = one_field input f g before.0 also_before.0 before.1 also_before.1 in
    let behind =
    same_fields also_before.0 fs gs rest more stop other
    (subst (λ (t : List ℕ). StartsWithFields t fs rest) one.1 before.2) ends
    also_before.2 also_ends in
    let first : f ≡ g = one.0 in
    let others : fs ≡ gs = behind.0 in
    (cc, behind.1)

pub one_reading : (input : List ℕ) (fields others : List Field) (stop other : Option WireFault)
    → IsReading input fields stop → IsReading input others other
    → (fields ≡ others) × (stop ≡ other)
one_reading input fields others stop other reading also =
    let a = stopped input fields stop reading in
    let b = stopped input others other also in
    same_fields input fields others a.0 b.0 stop other a.1 a.2 b.1 b.2

-- ---- some reading

abbrev HasReading : List ℕ → Type 0
HasReading input = (fields : List Field) × (stop : Option WireFault) × Stopped input fields stop

-- what follows a field is read by shorter
read_on : (input : List ℕ) (r : Result (Field × List ℕ) WireFault) → FieldRead input r
    → ((rest : List ℕ) → length rest < length input → HasReading rest) → HasReading input
read_on input (Ok found) read shorter =
    let behind = shorter found.1 (field_shortens input found.0 found.1 read) in
    (found.0 ∷ behind.0, behind.1, (behind.2.0, (found.1, read, behind.2.1), behind.2.2))
read_on input (Err fault) read shorter = ([], Some fault, (input, refl, read))

has_within : (n : ℕ) (input : List ℕ) → length input ≤ n → HasReading input
has_within n [] le = ([], None, ([], refl, refl))
has_within zero (x ∷ xs) le = absurd (omega arith)
has_within (suc n) (x ∷ xs) le =
    read_on (x ∷ xs) (field_at (x ∷ xs)) (field_read (x ∷ xs) (λ e. cc))
    (λ rest lt. has_within n rest (omega arith))

pub some_reading : (input : List ℕ)
    → (fields : List Field) × (stop : Option WireFault) × IsReading input fields stop
some_reading input =
    let found = has_within (length input) input (omega arith) in
    (found.0, found.1, reading_of input found.0 found.1 found.2)

-- ---- what is written is read

spells_content : (content : Content) → FitsContent content
    → SpellsContent (content_spelling content) content
spells_content (varint n) fits = is_varint n fits
spells_content (eight_bytes n) fits = (refl, sym (from_le_bytes-to_le_bytes_8 n fits))
spells_content (bytes b) fits = record {
  spelling = varint_spelling (length b);
  spelled = is_varint (length b) fits;
  parts = refl;
}
spells_content (four_bytes n) fits = (refl, sym (from_le_bytes-to_le_bytes_4 n fits))

type_below : (content : Content) → wire_type content < 8
type_below (varint n) = omega arith
type_below (eight_bytes n) = omega arith
type_below (bytes b) = omega arith
type_below (four_bytes n) = omega arith

pub written_field : (field : Field) (rest : List ℕ) → FitsField field
    → StartsWithField (spelling_of field ++ rest) field rest
written_field field rest fits =
    let kind = type_below field.content in
    let small : tag_of field < 2 ^ 32 = omega (arith, fits.number.1) in
    record {
      numbered = fits.number.0;
      small = small;
      after_tag = content_spelling field.content ++ rest;
      tag = record {
        spelling = varint_spelling (tag_of field);
        spelled = is_varint (tag_of field) (omega arith);
        parts = append_assoc (varint_spelling (tag_of field)) (content_spelling field.content) rest;
      };
      content = record {
        spelling = content_spelling field.content;
        spelled = spells_content field.content fits.content;
        parts = refl;
      };
    }

pub written_fields : (fields : List Field) (rest : List ℕ) → AllByRecursion FitsField fields
    → StartsWithFields (spelling_of_all fields ++ rest) fields rest
written_fields [] rest fits = refl
written_fields (f ∷ fs) rest fits =
    let whole : spelling_of_all (f ∷ fs) ++ rest ≡ spelling_of f ++ (spelling_of_all fs ++ rest) =
    ap (λ (t : List ℕ). t ++ rest) (flat_map-cons spelling_of f fs)
    ∙ append_assoc (spelling_of f) (spelling_of_all fs) rest in (
      spelling_of_all fs ++ rest,
      subst (λ (t : List ℕ). StartsWithField t f (spelling_of_all fs ++ rest)) (sym whole)
          (written_field f (spelling_of_all fs ++ rest) fits.0),
      written_fields fs rest fits.1,
    )
