-- Reading a field as a function reads the field that is there, or tells why there is none, and
-- there is one reading.
use Rattle.std.proofs.Common.{
  ◌≡◌,
  ◌≢◌,
  ℕ,
  zero,
  suc,
  ◌+◌,
  ◌*◌,
  ◌/◌,
  ◌%◌,
  ◌^◌,
  ◌<◌,
  ◌≤◌,
  ◌⊎◌,
  Bool,
  true,
  false,
  cond,
  ltb,
  leb,
  eqb,
  List,
  [],
  ◌∷◌,
  ◌++◌,
  length,
  take,
  drop,
  Result,
  Ok,
  Err,
  refl,
  sym,
  ap,
  subst,
  ◌∙◌,
  append_assoc,
  arith,
  inl,
  inr,
}
use Rattle.std.specs.Int.{w32, w64, from_le_bytes}
use Rattle.std.proofs.lemmas.Bool.{
  lt-ltb,
  le-ltb,
  ltb-true,
  ltb-false,
  cases_lt,
  leb-true,
  leb-false,
  le-leb,
  lt-leb,
  eqb-true,
  eqb-false,
  ne_eqb,
}
use Rattle.std.proofs.lemmas.List.{take_at, drop_at, take-append-drop, length-append, length-take}
use Rattle.pbwire.specs.declared.fault.WireFault.{WireFault}
use Rattle.pbwire.specs.declared.fault.WireFault.TheVariants.{
  Truncated,
  VarintTooLong,
  BadTag,
  Group,
  OutOfMemory,
}
use Rattle.pbwire.specs.declared.tag.WireType.{WireType}
use Rattle.pbwire.specs.declared.tag.WireType.TheVariants as type
use Rattle.pbwire.specs.Varint.{IsTerminated, IsVarint, StartsWithVarint, VarintFault}
use Rattle.pbwire.specs.Fields.{
  Content,
  varint,
  eight_bytes,
  bytes,
  four_bytes,
  Field,
  wire_type,
  tag_of,
  SpellsContent,
  StartsWithContent,
  StartsWithField,
  IsBadTag,
  IsTag,
  FaultAt,
  no_tag,
  bad_tag,
  start_group,
  end_group,
  no_varint,
  cut_eight_bytes,
  no_length,
  cut_bytes,
  cut_four_bytes,
}
use Rattle.pbwire.specs.Reading.{
  ◌>>=◌,
  type_number,
  kind_of,
  varint_at,
  type_at,
  tag_at,
  content_at,
  field_at,
}
use Rattle.pbwire.proofs.Varints.{VarintRead, varint_read, reads_varint, reads_fault}

-- ---- tags

abbrev TypeRead : ℕ → Result WireType WireFault → Type 0
TypeRead number (Ok kind) = number ≡ type_number kind
TypeRead number (Err BadTag) = 5 < number
TypeRead number (Err Group) = (number ≡ 3) ⊎ (number ≡ 4)
TypeRead number (Err Truncated) = ⊥
TypeRead number (Err VarintTooLong) = ⊥
TypeRead number (Err OutOfMemory) = ⊥

not_equal : (n k : ℕ) → k < n → eqb n k ≡ false
not_equal n k lt = ne_eqb n k (λ e. omega arith)

type_past : (number : ℕ) → 5 < number → type_at number ≡ Err BadTag
type_past number lt =
    rw (
      not_equal number 0 (omega arith),
      not_equal number 1 (omega arith),
      not_equal number 2 (omega arith),
      not_equal number 3 (omega arith),
      not_equal number 4 (omega arith),
      not_equal number 5 lt,
    ) refl

type_read : (number : ℕ) → TypeRead number (type_at number)
type_read zero = refl
type_read (suc zero) = refl
type_read (suc (suc zero)) = refl
type_read (suc (suc (suc zero))) = inl refl
type_read (suc (suc (suc (suc zero)))) = inr refl
type_read (suc (suc (suc (suc (suc zero))))) = refl
type_read (suc (suc (suc (suc (suc (suc number)))))) =
    let past : 5 < suc (suc (suc (suc (suc (suc number))))) = omega arith in
    subst (TypeRead (suc (suc (suc (suc (suc (suc number))))))) (sym (type_past _ past)) past

abbrev TagRead : ℕ → Result (ℕ × WireType) WireFault → Type 0
TagRead tag (Ok head) = (head.0 ≡ tag / 8) × IsTag tag (type_number head.1)
TagRead tag (Err BadTag) = IsBadTag tag
TagRead tag (Err Group) = IsTag tag 3 ⊎ IsTag tag 4
TagRead tag (Err Truncated) = ⊥
TagRead tag (Err VarintTooLong) = ⊥
TagRead tag (Err OutOfMemory) = ⊥

is_tag : (tag kind : ℕ) → tag < 2 ^ 32 → 0 < tag / 8 → tag % 8 ≡ kind → IsTag tag kind
is_tag tag kind lt some typed = record { small = lt; numbered = some; typed = typed }

six_or_seven : (tag : ℕ) → 5 < tag % 8 → (tag % 8 ≡ 6) ⊎ (tag % 8 ≡ 7)
six_or_seven tag more =
    elim (cases_lt (tag % 8) 7) [ inl lt ↦ inl (omega arith) | inr le ↦ inr (omega arith) ]

tag_typed : (tag : ℕ) (r : Result WireType WireFault) → tag < 2 ^ 32 → 0 < tag / 8
    → TypeRead (tag % 8) r → TagRead tag (r >>= λ kind. Ok (tag / 8, kind))
tag_typed tag (Ok kind) lt some read = (refl, is_tag tag (type_number kind) lt some read)
tag_typed tag (Err BadTag) lt some read = inr (inr (six_or_seven tag read))
tag_typed tag (Err Group) lt some (inl typed) = inl (is_tag tag 3 lt some typed)
tag_typed tag (Err Group) lt some (inr typed) = inr (is_tag tag 4 lt some typed)
tag_typed tag (Err Truncated) lt some read = read
tag_typed tag (Err VarintTooLong) lt some read = read
tag_typed tag (Err OutOfMemory) lt some read = read

abbrev tested : ℕ → Bool → Bool → Result (ℕ × WireType) WireFault
tested tag large none =
    cond large (Err BadTag)
    (cond none (Err BadTag) (type_at (tag % 8) >>= λ kind. Ok (tag / 8, kind)))

tag_by_tests : (tag : ℕ) (large none : Bool) → leb (2 ^ 32) tag ≡ large → eqb (tag / 8) 0 ≡ none
    → TagRead tag (tested tag large none)
tag_by_tests tag true none is_large is_none = inl (leb-true _ _ is_large)
tag_by_tests tag false true is_large is_none = inr (inl (eqb-true _ _ is_none))
tag_by_tests tag false false is_large is_none =
    let lt : tag < 2 ^ 32 = leb-false _ _ is_large in
    let some : tag / 8 ≢ 0 = eqb-false _ _ is_none in
    tag_typed tag (type_at (tag % 8)) lt (omega arith) (type_read (tag % 8))

tag_read : (tag : ℕ) → TagRead tag (tag_at tag)
unfolding tag_at
tag_read tag = tag_by_tests tag (leb (2 ^ 32) tag) (eqb (tag / 8) 0) refl refl

type_found : (kind : WireType) → type_at (type_number kind) ≡ Ok kind
type_found type.Varint = refl
type_found type.EightBytes = refl
type_found type.Bytes = refl
type_found type.FourBytes = refl

reads_tag : (tag : ℕ) (kind : WireType) → IsTag tag (type_number kind)
    → tag_at tag ≡ Ok (tag / 8, kind)
unfolding tag_at
reads_tag tag kind is =
    rw (
      lt-leb (2 ^ 32) tag is.small,
      not_equal (tag / 8) 0 is.numbered,
      is.typed,
      type_found kind,
    ) refl

reads_group : (tag kind : ℕ) → type_at kind ≡ Err Group → IsTag tag kind → tag_at tag ≡ Err Group
unfolding tag_at
reads_group tag kind e is =
    rw (lt-leb (2 ^ 32) tag is.small, not_equal (tag / 8) 0 is.numbered, is.typed, e) refl

bad_type : (tag : ℕ) (large none : Bool) → (type_at (tag % 8) ≡ Err BadTag)
    → tested tag large none ≡ Err BadTag
bad_type tag true none e = refl
bad_type tag false true e = refl
bad_type tag false false e = rw e refl

zero_number : (tag : ℕ) (large : Bool) → tag / 8 ≡ 0
    → tested tag large (eqb (tag / 8) 0) ≡ Err BadTag
zero_number tag true none = refl
zero_number tag false none = rw none refl

reads_bad_tag : (tag : ℕ) → IsBadTag tag → tag_at tag ≡ Err BadTag
unfolding tag_at
reads_bad_tag tag (inl large) = rw (le-leb (2 ^ 32) tag large) refl
reads_bad_tag tag (inr (inl none)) = zero_number tag (leb (2 ^ 32) tag) none
reads_bad_tag tag (inr (inr (inl six))) =
    bad_type tag (leb (2 ^ 32) tag) (eqb (tag / 8) 0) (rw six refl)
reads_bad_tag tag (inr (inr (inr seven))) =
    bad_type tag (leb (2 ^ 32) tag) (eqb (tag / 8) 0) (rw seven refl)

-- ---- contents

-- why no content of this kind stands at the front
abbrev ContentFault : WireType → List ℕ → WireFault → Type 0
ContentFault type.Varint input fault = VarintFault input fault
ContentFault type.EightBytes input fault = (length input < 8) × (fault ≡ Truncated)
ContentFault type.Bytes input fault =
    VarintFault input fault
    ⊎ ((fault ≡ Truncated) × (len : ℕ) × (left : List ℕ) × StartsWithVarint input len left
    × (length left < len))
ContentFault type.FourBytes input fault = (length input < 4) × (fault ≡ Truncated)

abbrev ContentRead : WireType → List ℕ → Result (Content × List ℕ) WireFault → Type 0
ContentRead kind input (Ok found) =
    StartsWithContent input found.0 found.1 × (wire_type found.0 ≡ type_number kind)
ContentRead kind input (Err fault) = ContentFault kind input fault

starts_with : (input spelling rest : List ℕ) (content : Content) → SpellsContent spelling content
    → input ≡ spelling ++ rest → StartsWithContent input content rest
starts_with input spelling rest content spelled parts =
    record { spelling = spelling; spelled = spelled; parts = parts }

varint_content : (input : List ℕ) (r : Result (ℕ × List ℕ) WireFault) → VarintRead input r
    → ContentRead type.Varint input (r >>= λ n. Ok (varint n.0, n.1))
varint_content input (Ok found) read =
    (starts_with input read.spelling found.1 (varint found.0) read.spelled read.parts, refl)
varint_content input (Err fault) read = read

eight_content : (input : List ℕ) (short : Bool) → ltb (length input) 8 ≡ short
    → ContentRead type.EightBytes input
    (cond short (Err Truncated) (Ok (eight_bytes (from_le_bytes w64 (take 8 input)), drop 8 input)))
eight_content input true is = (ltb-true _ _ is, refl)
eight_content input false is =
    let long : 8 ≤ length input = ltb-false _ _ is in (
      starts_with input (take 8 input) (drop 8 input)
          (eight_bytes (from_le_bytes w64 (take 8 input)))
          (omega (arith, length-take 8 input), refl) (sym (take-append-drop 8 input)),
      refl,
    )

four_content : (input : List ℕ) (short : Bool) → ltb (length input) 4 ≡ short
    → ContentRead type.FourBytes input
    (cond short (Err Truncated) (Ok (four_bytes (from_le_bytes w32 (take 4 input)), drop 4 input)))
four_content input true is = (ltb-true _ _ is, refl)
four_content input false is =
    let long : 4 ≤ length input = ltb-false _ _ is in (
      starts_with input (take 4 input) (drop 4 input)
          (four_bytes (from_le_bytes w32 (take 4 input))) (omega (arith, length-take 4 input), refl)
          (sym (take-append-drop 4 input)),
      refl,
    )

bytes_content : (input : List ℕ) (len : ℕ) (left : List ℕ) (short : Bool)
    → StartsWithVarint input len left → ltb (length left) len ≡ short
    → ContentRead type.Bytes input
    (cond short (Err Truncated) (Ok (bytes (take len left), drop len left)))
bytes_content input len left true there is = inr (refl, len, left, there, ltb-true _ _ is)
bytes_content input len left false there is =
    let long : len ≤ length left = ltb-false _ _ is in
    let len_is : len ≡ length (take len left) = omega (arith, length-take len left) in
    let whole : StartsWithVarint (there.spelling ++ take len left) (length (take len left))
    (take len left) = record {
      spelling = there.spelling;
      spelled = subst (IsVarint there.spelling) len_is there.spelled;
      parts = refl;
    } in
    let parts : input ≡ (there.spelling ++ take len left) ++ drop len left =
    there.parts ∙ ap (λ (t : List ℕ). there.spelling ++ t) (sym (take-append-drop len left))
    ∙ sym (append_assoc there.spelling (take len left) (drop len left)) in (
      starts_with input (there.spelling ++ take len left) (drop len left)
          (bytes (take len left)) whole parts,
      refl,
    )

length_content : (input : List ℕ) (r : Result (ℕ × List ℕ) WireFault) → VarintRead input r
    → ContentRead type.Bytes input (r >>= λ len.
    cond (ltb (length len.1) len.0) (Err Truncated)
    (Ok (bytes (take len.0 len.1), drop len.0 len.1)))
length_content input (Ok found) read =
    bytes_content input found.0 found.1 (ltb (length found.1) found.0) read refl
length_content input (Err fault) read = inl read

content_read : (kind : WireType) (input : List ℕ) → ContentRead kind input (content_at kind input)
unfolding content_at
content_read type.Varint input = varint_content input (varint_at input) (varint_read input)
content_read type.EightBytes input = eight_content input (ltb (length input) 8) refl
content_read type.Bytes input = length_content input (varint_at input) (varint_read input)
content_read type.FourBytes input = four_content input (ltb (length input) 4) refl

reads_content : (content : Content) (input rest : List ℕ) → StartsWithContent input content rest
    → content_at (kind_of content) input ≡ Ok (content, rest)
unfolding content_at
reads_content (varint n) input rest there =
    rw (reads_varint input n rest
    (record { spelling = there.spelling; spelled = there.spelled; parts = there.parts })) refl
reads_content (eight_bytes n) input rest there =
    let len : length there.spelling ≡ 8 = there.spelled.0 in
    let long : ltb (length (there.spelling ++ rest)) 8 ≡ false =
    le-ltb _ _ (omega (arith, length-append there.spelling rest)) in
    rw (there.parts, long, take_at there.spelling rest 8 len, drop_at there.spelling rest 8 len)
    (ap (λ (k : ℕ). Ok (eight_bytes k, rest)) (sym there.spelled.1))
reads_content (bytes b) input rest there =
    let whole : input ≡ there.spelled.spelling ++ (b ++ rest) =
    there.parts ∙ ap (λ (t : List ℕ). t ++ rest) there.spelled.parts
    ∙ append_assoc there.spelled.spelling b rest in
    let starts : StartsWithVarint input (length b) (b ++ rest) =
    record { spelling = there.spelled.spelling; spelled = there.spelled.spelled; parts = whole } in
    let long : ltb (length (b ++ rest)) (length b) ≡ false =
    le-ltb _ _ (omega (arith, length-append b rest)) in
    rw (
      reads_varint input (length b) (b ++ rest) starts,
      long,
      take_at b rest (length b) refl,
      drop_at b rest (length b) refl,
    ) refl
reads_content (four_bytes n) input rest there =
    let len : length there.spelling ≡ 4 = there.spelled.0 in
    let long : ltb (length (there.spelling ++ rest)) 4 ≡ false =
    le-ltb _ _ (omega (arith, length-append there.spelling rest)) in
    rw (there.parts, long, take_at there.spelling rest 4 len, drop_at there.spelling rest 4 len)
    (ap (λ (k : ℕ). Ok (four_bytes k, rest)) (sym there.spelled.1))

-- ---- fields

-- what reading a field answers is there
abbrev pub FieldRead : List ℕ → Result (Field × List ℕ) WireFault → Type 0
FieldRead input (Ok found) = StartsWithField input found.0 found.1
FieldRead input (Err fault) = FaultAt input fault

content_fault : (input : List ℕ) (tag : ℕ) (rest : List ℕ) (kind : WireType) (fault : WireFault)
    → StartsWithVarint input tag rest → IsTag tag (type_number kind) → ContentFault kind rest fault
    → FaultAt input fault
content_fault input tag rest type.Varint fault there is wrong =
    no_varint fault tag rest there is wrong
content_fault input tag rest type.EightBytes fault there is wrong =
    subst (FaultAt input) (sym wrong.1) (cut_eight_bytes tag rest there is wrong.0)
content_fault input tag rest type.Bytes fault there is (inl wrong) =
    no_length fault tag rest there is wrong
content_fault input tag rest type.Bytes fault there is (inr wrong) =
    subst (FaultAt input) (sym wrong.0)
    (cut_bytes tag rest wrong.1 wrong.2 there is wrong.3 wrong.4)
content_fault input tag rest type.FourBytes fault there is wrong =
    subst (FaultAt input) (sym wrong.1) (cut_four_bytes tag rest there is wrong.0)

field_content : (input : List ℕ) (tag : ℕ) (rest : List ℕ) (number : ℕ) (kind : WireType)
    (r : Result (Content × List ℕ) WireFault)
    → StartsWithVarint input tag rest → number ≡ tag / 8 → IsTag tag (type_number kind)
    → ContentRead kind rest r
    → FieldRead input
    (r >>= λ content. Ok (record { number = number; content = content.0 }, content.1))
field_content input tag rest number kind (Ok found) there number_is is read =
    let typed : tag % 8 ≡ type_number kind = is.typed in
    let kind_is : wire_type found.0 ≡ type_number kind = read.1 in
    let tag_is : tag ≡ number * 8 + wire_type found.0 = omega arith in
    let some : 0 < tag / 8 = is.numbered in
    let small : tag < 2 ^ 32 = is.small in
    record {
      numbered = omega arith;
      small = omega arith;
      after_tag = rest;
      tag = subst (λ (t : ℕ). StartsWithVarint input t rest) tag_is there;
      content = read.0;
    }
field_content input tag rest number kind (Err fault) there number_is is read =
    content_fault input tag rest kind fault there is read

field_tagged : (input : List ℕ) (tag : ℕ) (rest : List ℕ) (r : Result (ℕ × WireType) WireFault)
    → StartsWithVarint input tag rest → TagRead tag r
    → FieldRead input (r >>= λ head. content_at head.1 rest >>= λ content.
    Ok (record { number = head.0; content = content.0 }, content.1))
field_tagged input tag rest (Ok head) there read =
    field_content input tag rest head.0 head.1 (content_at head.1 rest) there read.0 read.1
    (content_read head.1 rest)
field_tagged input tag rest (Err BadTag) there read = bad_tag tag rest there read
field_tagged input tag rest (Err Group) there (inl typed) = start_group tag rest there typed
field_tagged input tag rest (Err Group) there (inr typed) = end_group tag rest there typed
field_tagged input tag rest (Err Truncated) there read = absurd read
field_tagged input tag rest (Err VarintTooLong) there read = absurd read
field_tagged input tag rest (Err OutOfMemory) there read = absurd read

field_from_tag : (input : List ℕ) (r : Result (ℕ × List ℕ) WireFault) → input ≢ []
    → VarintRead input r
    → FieldRead input (r >>= λ tag. tag_at tag.0 >>= λ head. content_at head.1 tag.1 >>= λ content.
    Ok (record { number = head.0; content = content.0 }, content.1))
field_from_tag input (Ok found) some read =
    field_tagged input found.0 found.1 (tag_at found.0) read (tag_read found.0)
field_from_tag input (Err fault) some read = no_tag fault some read

pub field_read : (input : List ℕ) → input ≢ [] → FieldRead input (field_at input)
unfolding field_at
field_read input some = field_from_tag input (varint_at input) some (varint_read input)

number_of_tag : (number : ℕ) (content : Content) → (number * 8 + wire_type content) / 8 ≡ number
number_of_tag number (varint n) = omega arith
number_of_tag number (eight_bytes n) = omega arith
number_of_tag number (bytes b) = omega arith
number_of_tag number (four_bytes n) = omega arith

type_of_tag : (number : ℕ) (content : Content)
    → (number * 8 + wire_type content) % 8 ≡ type_number (kind_of content)
type_of_tag number (varint n) = omega arith
type_of_tag number (eight_bytes n) = omega arith
type_of_tag number (bytes b) = omega arith
type_of_tag number (four_bytes n) = omega arith

pub reads_field : (input : List ℕ) (field : Field) (rest : List ℕ)
    → StartsWithField input field rest → field_at input ≡ Ok (field, rest)
unfolding field_at
reads_field input field rest there =
    let number_is = number_of_tag field.number field.content in
    let some : 0 < tag_of field / 8 = rw number_is there.numbered in
    let is : IsTag (tag_of field) (type_number (kind_of field.content)) =
    is_tag (tag_of field) (type_number (kind_of field.content)) there.small some
    (type_of_tag field.number field.content) in
    rw (
      reads_varint input (tag_of field) there.after_tag there.tag,
      reads_tag (tag_of field) (kind_of field.content) is,
      reads_content field.content there.after_tag rest there.content,
      number_is,
    ) refl

content_of_tag : (input : List ℕ) (tag : ℕ) (kind : WireType) (rest : List ℕ) (fault : WireFault)
    → StartsWithVarint input tag rest → IsTag tag (type_number kind)
    → content_at kind rest ≡ Err fault → field_at input ≡ Err fault
unfolding field_at
content_of_tag input tag kind rest fault there is wrong =
    rw (reads_varint input tag rest there, reads_tag tag kind is, wrong) refl

tag_wrong : (input : List ℕ) (tag : ℕ) (rest : List ℕ) (fault : WireFault)
    → StartsWithVarint input tag rest → tag_at tag ≡ Err fault → field_at input ≡ Err fault
unfolding field_at
tag_wrong input tag rest fault there wrong = rw (reads_varint input tag rest there, wrong) refl

varint_wrong : (rest : List ℕ) (fault : WireFault) → VarintFault rest fault
    → content_at type.Varint rest ≡ Err fault
unfolding content_at
varint_wrong rest fault wrong = rw (reads_fault rest fault wrong) refl

length_wrong : (rest : List ℕ) (fault : WireFault) → VarintFault rest fault
    → content_at type.Bytes rest ≡ Err fault
unfolding content_at
length_wrong rest fault wrong = rw (reads_fault rest fault wrong) refl

eight_wrong : (rest : List ℕ) → length rest < 8 → content_at type.EightBytes rest ≡ Err Truncated
unfolding content_at
eight_wrong rest short = rw (lt-ltb _ _ short) refl

four_wrong : (rest : List ℕ) → length rest < 4 → content_at type.FourBytes rest ≡ Err Truncated
unfolding content_at
four_wrong rest short = rw (lt-ltb _ _ short) refl

bytes_wrong : (rest : List ℕ) (len : ℕ) (left : List ℕ) → StartsWithVarint rest len left
    → length left < len → content_at type.Bytes rest ≡ Err Truncated
unfolding content_at
bytes_wrong rest len left there short = rw (reads_varint rest len left there, lt-ltb _ _ short) refl

no_tag_wrong : (input : List ℕ) (fault : WireFault) → VarintFault input fault
    → field_at input ≡ Err fault
unfolding field_at
no_tag_wrong input fault wrong = rw (reads_fault input fault wrong) refl

pub reads_field_fault : (input : List ℕ) (fault : WireFault) → FaultAt input fault
    → field_at input ≡ Err fault
reads_field_fault input fault (no_tag f some wrong) = no_tag_wrong input f wrong
reads_field_fault input fault (bad_tag tag rest there bad) =
    tag_wrong input tag rest BadTag there (reads_bad_tag tag bad)
reads_field_fault input fault (start_group tag rest there is) =
    tag_wrong input tag rest Group there (reads_group tag 3 refl is)
reads_field_fault input fault (end_group tag rest there is) =
    tag_wrong input tag rest Group there (reads_group tag 4 refl is)
reads_field_fault input fault (no_varint f tag rest there is wrong) =
    content_of_tag input tag type.Varint rest f there is (varint_wrong rest f wrong)
reads_field_fault input fault (cut_eight_bytes tag rest there is short) =
    content_of_tag input tag type.EightBytes rest Truncated there is (eight_wrong rest short)
reads_field_fault input fault (no_length f tag rest there is wrong) =
    content_of_tag input tag type.Bytes rest f there is (length_wrong rest f wrong)
reads_field_fault input fault (cut_bytes tag rest len left there is len_there short) =
    content_of_tag input tag type.Bytes rest Truncated there is
    (bytes_wrong rest len left len_there short)
reads_field_fault input fault (cut_four_bytes tag rest there is short) =
    content_of_tag input tag type.FourBytes rest Truncated there is (four_wrong rest short)

-- ---- one reading of each front

abbrev answer : Field → List ℕ → Result (Field × List ℕ) WireFault
answer field rest = Ok (field, rest)

abbrev refusal : WireFault → Result (Field × List ℕ) WireFault
refusal fault = Err fault

pub one_field : (input : List ℕ) (field other : Field) (rest more : List ℕ)
    → StartsWithField input field rest → StartsWithField input other more
    → (field ≡ other) × (rest ≡ more)
one_field input field other rest more there also =
    let e : answer field rest ≡ answer other more =
    sym (reads_field input field rest there) ∙ reads_field input other more also in
    let pairs : (field, rest) ≡ (other, more) = cc in
    (ap (λ (p : Field × List ℕ). p.0) pairs, ap (λ (p : Field × List ℕ). p.1) pairs)

pub one_fault : (input : List ℕ) (fault other : WireFault) → FaultAt input fault
    → FaultAt input other → fault ≡ other
one_fault input fault other there also =
    let e : refusal fault ≡ refusal other =
    sym (reads_field_fault input fault there) ∙ reads_field_fault input other also in
    cc

pub field_or_fault : (input : List ℕ) (field : Field) (rest : List ℕ) (fault : WireFault)
    → StartsWithField input field rest → FaultAt input fault → ⊥
field_or_fault input field rest fault there wrong =
    let e : answer field rest ≡ refusal fault =
    sym (reads_field input field rest there) ∙ reads_field_fault input fault wrong in
    cc

-- ---- by what the function answered

pub field_from : (input : List ℕ) (field : Field) (rest : List ℕ) → input ≢ []
    → field_at input ≡ Ok (field, rest) → StartsWithField input field rest
field_from input field rest some e = subst (FieldRead input) e (field_read input some)

pub fault_from : (input : List ℕ) (fault : WireFault) → input ≢ [] → field_at input ≡ Err fault
    → FaultAt input fault
fault_from input fault some e = subst (FieldRead input) e (field_read input some)

-- ---- a field takes at least a byte

varint_some : (spelling : List ℕ) → IsTerminated spelling → 0 < length spelling
varint_some [] ended = absurd ended
varint_some (x ∷ xs) ended = omega arith

pub field_shortens : (input : List ℕ) (field : Field) (rest : List ℕ)
    → StartsWithField input field rest → length rest < length input
field_shortens input field rest there =
    let some = varint_some there.tag.spelling there.tag.spelled.terminated in
    omega (
      arith,
      ap length there.tag.parts,
      ap length there.content.parts,
      length-append there.tag.spelling there.after_tag,
      length-append there.content.spelling rest,
    )

pub some_from : (input : List ℕ) → false ≡ eqb (length input) 0 → input ≢ []
some_from [] h e = cc
some_from (x ∷ xs) h e = cc

-- ---- nothing stands at the end

no_varint_at_end : (number : ℕ) (rest : List ℕ) → StartsWithVarint [] number rest → ⊥
no_varint_at_end number rest there =
    let some = varint_some there.spelling there.spelled.terminated in
    absurd (omega (arith, ap length there.parts, length-append there.spelling rest))

pub no_field_at_end : (field : Field) (rest : List ℕ) → StartsWithField [] field rest → ⊥
no_field_at_end field rest there = no_varint_at_end (tag_of field) there.after_tag there.tag

pub no_fault_at_end : (fault : WireFault) → FaultAt [] fault → ⊥
no_fault_at_end fault (no_tag f some wrong) = some refl
no_fault_at_end fault (bad_tag tag rest there bad) = no_varint_at_end tag rest there
no_fault_at_end fault (start_group tag rest there is) = no_varint_at_end tag rest there
no_fault_at_end fault (end_group tag rest there is) = no_varint_at_end tag rest there
no_fault_at_end fault (no_varint f tag rest there is wrong) = no_varint_at_end tag rest there
no_fault_at_end fault (cut_eight_bytes tag rest there is short) = no_varint_at_end tag rest there
no_fault_at_end fault (no_length f tag rest there is wrong) = no_varint_at_end tag rest there
no_fault_at_end fault (cut_bytes tag rest len left there is len_there short) =
    no_varint_at_end tag rest there
no_fault_at_end fault (cut_four_bytes tag rest there is short) = no_varint_at_end tag rest there
