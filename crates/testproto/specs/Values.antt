-- What the fields of a message say (Protocol Buffers encoding guide, "Last One Wins", "Optional and
-- Repeated Fields" and "Submessages"). Values are defined over lists of fields and not over bytes:
-- several occurrences of an embedded message are the message of their joined field lists, each read
-- by itself. The fields of joined well formed bytes are the joined fields (`fields_join` of
-- `pbwire`).
use Rattle.std.specs.Prelude.{
  ◌≡◌,
  ◌≢◌,
  ℕ,
  ℤ,
  ◌%◌,
  ◌^◌,
  ◌==◌,
  ◌⊎◌,
  Bool,
  not,
  if◌then◌else◌,
  List,
  [],
  ◌∷◌,
  ◌++◌,
  Option,
  Some,
  None,
  IsUtf8,
}
use Rattle.std.specs.List.{flat_map, AllByRecursion}
use Rattle.std.specs.Int.{w32, cast_signed}
use Rattle.pbwire.specs.declared.fault.WireFault.{WireFault}
use Rattle.pbwire.specs.Fields.{
  Content,
  varint,
  eight_bytes,
  bytes,
  four_bytes,
  Field,
  StartsWithField,
  StartsWithFields,
  FaultAt,
  IsReading,
}
use Rattle.testproto.specs.declared.fault.ProtoFault.{ProtoFault}
use Rattle.testproto.specs.declared.fault.ProtoFault.TheVariants.{Wire, NotUtf8}

-- ---- the fields of one number and one kind, in order

abbrev pub varints_of : Content → List ℕ
varints_of (varint n) = n ∷ []
varints_of (eight_bytes n) = []
varints_of (bytes b) = []
varints_of (four_bytes n) = []

abbrev pub bytes_of : Content → List (List ℕ)
bytes_of (varint n) = []
bytes_of (eight_bytes n) = []
bytes_of (bytes b) = b ∷ []
bytes_of (four_bytes n) = []

-- the number that this field gives to the field of this number: one or none
abbrev pub varint_in : ℕ → Field → List ℕ
varint_in number field = if field.number == number then varints_of field.content else []

-- the contents that a field gives to the field of this number
abbrev pub content_in : ℕ → Field → List (List ℕ)
content_in number field = if field.number == number then bytes_of field.content else []

abbrev pub varints : ℕ → List Field → List ℕ
varints number fields = flat_map (varint_in number) fields

abbrev pub contents : ℕ → List Field → List (List ℕ)
contents number fields = flat_map (content_in number) fields

-- ---- scalars: the last one wins

abbrev pub last_or : {A : Type 0} → A → List A → A
last_or default [] = default
last_or default (x ∷ xs) = last_or x xs

-- the low 32 bits, with a sign
abbrev pub low_32 : ℕ → ℤ
low_32 n = cast_signed w32 (n % 2 ^ 32)

-- an int32 or an enum
unfoldable pub int32 : ℕ → List Field → ℤ
int32 number fields = low_32 (last_or 0 (varints number fields))

unfoldable pub boolean : ℕ → List Field → Bool
boolean number fields = not (last_or 0 (varints number fields) == 0)

-- bytes, or the bytes of a string
unfoldable pub byte_string : ℕ → List Field → List ℕ
byte_string number fields = last_or [] (contents number fields)

-- ---- messages inside messages

-- each content is a message's, and these are its fields and those of the others, in order
abbrev pub AreJoined : List (List ℕ) → List Field → Type 0
AreJoined [] fields = fields ≡ []
AreJoined (content ∷ contents) fields =
    (first : List Field) × (others : List Field) × IsReading content first None
    × AreJoined contents others × (fields ≡ first ++ others)

-- An embedded message is absent, or its value is that of its joined occurrences.
abbrev pub IsEmbedded : {M : Type 0} → (List Field → M → Type 0) → List (List ℕ) → Option M → Type 0
IsEmbedded is_value contents None = contents ≡ []
IsEmbedded is_value contents (Some message) =
    (contents ≢ []) × (fields : List Field) × AreJoined contents fields × is_value fields message

-- A repeated message is one for each occurrence, in order.
abbrev pub AreRepeated : {M : Type 0} → (List Field → M → Type 0) → List (List ℕ) → List M → Type 0
AreRepeated is_value [] messages = messages ≡ []
AreRepeated is_value (content ∷ contents) [] = ⊥
AreRepeated is_value (content ∷ contents) (message ∷ messages) =
    ((fields : List Field) × IsReading content fields None × is_value fields message)
    × AreRepeated is_value contents messages

-- ---- well formed, or a fault

-- the bytes are those of a message each of whose fields is accepted
abbrev pub IsWellFormed : (Field → Type 0) → List ℕ → Type 0
IsWellFormed accepts content =
    (fields : List Field) × IsReading content fields None × AllByRecursion accepts fields

abbrev pub AcceptsText : ℕ → Field → Type 0
AcceptsText number field = AllByRecursion IsUtf8 (content_in number field)

abbrev pub AcceptsMessage : (Field → Type 0) → ℕ → Field → Type 0
AcceptsMessage accepts number field =
    AllByRecursion (IsWellFormed accepts) (content_in number field)

-- The fault stands in the bytes: after accepted fields no field can follow, or the field that
-- follows has it inside.
abbrev pub HasFault : (Field → Type 0) → (Field → ProtoFault → Type 0) → List ℕ
    → ProtoFault → Type 0
HasFault accepts refuses input fault =
    (before : List Field) × (rest : List ℕ) × StartsWithFields input before rest
    × AllByRecursion accepts before
    × (((wire : WireFault) × FaultAt rest wire × (fault ≡ Wire wire))
    ⊎ ((field : Field) × (more : List ℕ) × StartsWithField rest field more × refuses field fault))

-- a text that isn't UTF-8
abbrev pub RefusesText : ℕ → Field → ProtoFault → Type 0
RefusesText number field fault =
    (text : List ℕ) × (content_in number field ≡ text ∷ []) × (IsUtf8 text → ⊥) × (fault ≡ NotUtf8)

-- an embedded message with the fault inside
abbrev pub RefusesMessage : (List ℕ → ProtoFault → Type 0) → ℕ → Field → ProtoFault → Type 0
RefusesMessage has_fault number field fault =
    (content : List ℕ) × (content_in number field ≡ content ∷ []) × has_fault content fault

-- ---- a whole message

-- the value of the bytes, all of which are a message
abbrev pub IsValueOf : {M : Type 0} → (Field → Type 0) → (List Field → M → Type 0)
    → List ℕ → M → Type 0
IsValueOf accepts is_value input message =
    (fields : List Field) × IsReading input fields None × AllByRecursion accepts fields
    × is_value fields message

-- reading the bytes after other fields makes new of old
abbrev pub Adds : {M : Type 0} → (Field → Type 0) → (List Field → M → Type 0)
    → List ℕ → M → M → Type 0
Adds accepts is_value input old new =
    (fields : List Field) × IsReading input fields None × AllByRecursion accepts fields
    × ((before : List Field) → is_value before old → is_value (before ++ fields) new)
