-- Every byte list has a value, or a fault stands in it: what the law of each message cites.
use Rattle.std.specs.Prelude.{
  ◌≡◌,
  ◌≢◌,
  ◌⊎◌,
  ◌==◌,
  ℕ,
  Bool,
  true,
  false,
  if◌then◌else◌,
  List,
  [],
  ◌∷◌,
  ◌++◌,
  Option,
  Some,
  None,
  IsUtf8,
  refl,
}
use Rattle.std.proofs.Common.{inl, inr}
use Rattle.std.specs.List.{AllByRecursion}
use Rattle.std.specs.Str.{is_utf8}
use Rattle.std.proofs.lemmas.Str.{IsUtf8-from_is_utf8, is_utf8-from_IsUtf8}
use Rattle.pbwire.specs.declared.fault.WireFault.{WireFault}
use Rattle.pbwire.specs.Fields.{
  Content,
  varint,
  eight_bytes,
  bytes,
  four_bytes,
  Field,
  StartsWithField,
  StartsWithFields,
  IsReading,
}
use Rattle.pbwire.proofs.OneReading.{some_reading}
use Rattle.testproto.specs.declared.fault.ProtoFault.{ProtoFault}
use Rattle.testproto.specs.declared.fault.ProtoFault.TheVariants.{Wire, NotUtf8}
use Rattle.testproto.specs.Values.{
  bytes_of,
  content_in,
  contents,
  AreJoined,
  IsEmbedded,
  AreRepeated,
  IsWellFormed,
  AcceptsText,
  AcceptsMessage,
  HasFault,
  RefusesText,
  RefusesMessage,
  IsValueOf,
}
use Rattle.testproto.specs.Parts.{all_append}

-- each field is accepted or refused
abbrev pub AreDecided : (Field → Type 0) → (Field → ProtoFault → Type 0) → Type 0
AreDecided accepts refuses =
    (field : Field) → accepts field ⊎ ((fault : ProtoFault) × refuses field fault)

-- accepted fields have a value
abbrev pub HaveValues : {M : Type 0} → (Field → Type 0) → (List Field → M → Type 0) → Type 0
HaveValues {M} accepts is_value =
    (fields : List Field) → AllByRecursion accepts fields → (value : M) × is_value fields value

-- A byte list has a value, or a fault stands in it.
abbrev pub HasValueOrFault : {M : Type 0} → (Field → Type 0) → (Field → ProtoFault → Type 0)
    → (List Field → M → Type 0) → Type 0
HasValueOrFault {M} accepts refuses is_value =
    (input : List ℕ)
    → ((value : M) × IsValueOf accepts is_value input value)
    ⊎ ((fault : ProtoFault) × HasFault accepts refuses input fault)

-- ---- fields one after another

pub all_map : {X : Type 0} (P Q : X → Type 0) → ((x : X) → P x → Q x) → (xs : List X)
    → AllByRecursion P xs → AllByRecursion Q xs
all_map P Q each [] all = tt
all_map P Q each (x ∷ xs) all = (each x all.0, all_map P Q each xs all.1)

-- after accepted fields comes one that is refused
pub record StopsIn (accepts : Field → Type 0) (refuses : Field → ProtoFault → Type 0)
    (input : List ℕ) : Type 0 where
  pub before : List Field
  pub rest : List ℕ
  pub starts : StartsWithFields input before rest
  pub good : AllByRecursion accepts before
  pub field : Field
  pub more : List ℕ
  pub there : StartsWithField rest field more
  pub fault : ProtoFault
  pub refused : refuses field fault

stops_later : (accepts : Field → Type 0) (refuses : Field → ProtoFault → Type 0) (input : List ℕ)
    (field : Field) (more : List ℕ)
    → StartsWithField input field more → accepts field → StopsIn accepts refuses more
    → StopsIn accepts refuses input
stops_later accepts refuses input field more there good stop = record {
  before = field ∷ stop.before;
  rest = stop.rest;
  starts = (more, there, stop.starts);
  good = (good, stop.good);
  field = stop.field;
  more = stop.more;
  there = stop.there;
  fault = stop.fault;
  refused = stop.refused;
}

decide_fields : (accepts : Field → Type 0) (refuses : Field → ProtoFault → Type 0)
    → AreDecided accepts refuses → (input : List ℕ) (fields : List Field) (rest : List ℕ)
    → StartsWithFields input fields rest
    → AllByRecursion accepts fields ⊎ StopsIn accepts refuses input
decide_fields accepts refuses decided input [] rest starts = inl tt
decide_fields accepts refuses decided input (field ∷ fields) rest starts =
    elim (decided field) [
      | inl good ↦ elim (decide_fields accepts refuses decided starts.0 fields rest starts.2) [
        | inl all ↦ inl (good, all)
        | inr stop ↦ inr (stops_later accepts refuses input field starts.0 starts.1 good stop)
      ]
      | inr bad ↦ inr (record {
        before = [];
        rest = input;
        starts = refl;
        good = tt;
        field = field;
        more = starts.0;
        there = starts.1;
        fault = bad.0;
        refused = bad.1;
      })
    ]

fault_of : (accepts : Field → Type 0) (refuses : Field → ProtoFault → Type 0) (input : List ℕ)
    → StopsIn accepts refuses input → (fault : ProtoFault) × HasFault accepts refuses input fault
fault_of accepts refuses input stop = (
  stop.fault,
  (
    stop.before,
    stop.rest,
    stop.starts,
    stop.good,
    inr (stop.field, stop.more, stop.there, stop.refused),
  ),
)

by_stop : (accepts : Field → Type 0) (refuses : Field → ProtoFault → Type 0)
    → AreDecided accepts refuses → (input : List ℕ) (fields : List Field) (stop : Option WireFault)
    → IsReading input fields stop
    → IsWellFormed accepts input ⊎ ((fault : ProtoFault) × HasFault accepts refuses input fault)
by_stop accepts refuses decided input fields None reading =
    elim (decide_fields accepts refuses decided input fields [] reading) [
      | inl all ↦ inl (fields, reading, all)
      | inr stop ↦ inr (fault_of accepts refuses input stop)
    ]
by_stop accepts refuses decided input fields (Some wire) reading =
    elim (decide_fields accepts refuses decided input fields reading.0 reading.1) [
      | inl all ↦ inr (Wire wire, (fields, reading.0, reading.1, all, inl (wire, reading.2, refl)))
      | inr stop ↦ inr (fault_of accepts refuses input stop)
    ]

-- bytes are well formed, or have a fault
pub well_formed_or_fault : (accepts : Field → Type 0) (refuses : Field → ProtoFault → Type 0)
    → AreDecided accepts refuses → (input : List ℕ)
    → IsWellFormed accepts input ⊎ ((fault : ProtoFault) × HasFault accepts refuses input fault)
well_formed_or_fault accepts refuses decided input =
    let reading = some_reading input in
    by_stop accepts refuses decided input reading.0 reading.1 reading.2

-- ---- by the kind of field

abbrev NoneOrOne : List (List ℕ) → Type 0
NoneOrOne found = (found ≡ []) ⊎ ((content : List ℕ) × (found ≡ content ∷ []))

none_or_one_of : (content : Content) → NoneOrOne (bytes_of content)
none_or_one_of (varint n) = inl refl
none_or_one_of (eight_bytes n) = inl refl
none_or_one_of (bytes b) = inr (b, refl)
none_or_one_of (four_bytes n) = inl refl

if_same : (same : Bool) (content : Content) → NoneOrOne (if same then bytes_of content else [])
if_same true content = none_or_one_of content
if_same false content = inl refl

none_or_one : (number : ℕ) (field : Field) → NoneOrOne (content_in number field)
none_or_one number field = if_same (field.number == number) field.content

two_are_not_one : (first second : List ℕ) (others : List (List ℕ))
    → NoneOrOne (first ∷ second ∷ others) → ⊥
two_are_not_one first second others (inl none) = cc
two_are_not_one first second others (inr one) = let wrong = one.1 in cc

-- the content that is found is good, or it has this wrong
abbrev GoodOrBad : (List ℕ → Type 0) → (List ℕ → ProtoFault → Type 0) → List (List ℕ) → Type 0
GoodOrBad P R found =
    AllByRecursion P found
    ⊎ ((fault : ProtoFault) × (content : List ℕ) × (found ≡ content ∷ []) × R content fault)

good_or_bad : (P : List ℕ → Type 0) (R : List ℕ → ProtoFault → Type 0)
    → ((content : List ℕ) → P content ⊎ ((fault : ProtoFault) × R content fault))
    → (found : List (List ℕ)) → NoneOrOne found
    → GoodOrBad P R found
good_or_bad P R decide [] one = inl tt
good_or_bad P R decide (content ∷ []) one =
    elim (decide content)
    [ inl good ↦ inl (good, tt) | inr bad ↦ inr (bad.0, content, refl, bad.1) ]
good_or_bad P R decide (content ∷ other ∷ others) one =
    absurd (two_are_not_one content other others one)

utf8_by_test : (text : List ℕ) (good : Bool) → is_utf8 text ≡ good → IsUtf8 text ⊎ (IsUtf8 text → ⊥)
utf8_by_test text true is = inl (IsUtf8-from_is_utf8 text is)
utf8_by_test text false is = inr (λ good. let also = is_utf8-from_IsUtf8 text good in cc)

-- a text that isn't UTF-8
abbrev IsNoText : List ℕ → ProtoFault → Type 0
IsNoText text fault = (IsUtf8 text → ⊥) × (fault ≡ NotUtf8)

text_or_not : (text : List ℕ) → IsUtf8 text ⊎ ((fault : ProtoFault) × IsNoText text fault)
text_or_not text = elim (utf8_by_test text (is_utf8 text) refl)
    [ inl good ↦ inl good | inr bad ↦ inr (NotUtf8, (bad, refl)) ]

pub decided_text : (number : ℕ) → AreDecided (AcceptsText number) (RefusesText number)
decided_text number field =
    elim (good_or_bad IsUtf8 IsNoText text_or_not (content_in number field)
    (none_or_one number field)) [
      | inl good ↦ inl good
      | inr bad ↦ inr (bad.0, (bad.1, bad.2, bad.3.0, bad.3.1))
    ]

pub decided_message : (accepts : Field → Type 0) (refuses : Field → ProtoFault → Type 0)
    → AreDecided accepts refuses → (number : ℕ)
    → AreDecided (AcceptsMessage accepts number) (RefusesMessage (HasFault accepts refuses) number)
decided_message accepts refuses decided number field =
    elim (good_or_bad (IsWellFormed accepts) (HasFault accepts refuses)
    (well_formed_or_fault accepts refuses decided) (content_in number field)
    (none_or_one number field)) [
      | inl good ↦ inl good
      | inr bad ↦ inr (bad.0, (bad.1, bad.2, bad.3))
    ]

-- ---- values

-- the contents of accepted fields are well formed
pub contents_well_formed : (accepts : Field → Type 0) (number : ℕ) (fields : List Field)
    → AllByRecursion (AcceptsMessage accepts number) fields
    → AllByRecursion (IsWellFormed accepts) (contents number fields)
contents_well_formed accepts number [] all = tt
contents_well_formed accepts number (field ∷ fields) all =
    all_append (IsWellFormed accepts) (content_in number field) (contents number fields) all.0
    (contents_well_formed accepts number fields all.1)

join : (accepts : Field → Type 0) (found : List (List ℕ))
    → AllByRecursion (IsWellFormed accepts) found
    → (fields : List Field) × AreJoined found fields × AllByRecursion accepts fields
join accepts [] all = ([], refl, tt)
join accepts (content ∷ others) all =
    let rest = join accepts others all.1 in (
      all.0.0 ++ rest.0,
      (all.0.0, rest.0, all.0.1, rest.1, refl),
      all_append accepts all.0.0 rest.0 all.0.2 rest.2,
    )

embedded_of : {M : Type 0} (accepts : Field → Type 0) (is_value : List Field → M → Type 0)
    → HaveValues accepts is_value → (found : List (List ℕ))
    → AllByRecursion (IsWellFormed accepts) found
    → (held : Option M) × IsEmbedded is_value found held
embedded_of accepts is_value has [] all = (None, refl)
embedded_of accepts is_value has (content ∷ others) all =
    let whole = join accepts (content ∷ others) all in
    let value = has whole.0 whole.2 in
    (Some value.0, (λ none. cc, whole.0, whole.1, value.1))

-- the message that accepted fields hold at this number, or none
pub held : {M : Type 0} (accepts : Field → Type 0) (is_value : List Field → M → Type 0)
    → HaveValues accepts is_value → (number : ℕ) (fields : List Field)
    → AllByRecursion (AcceptsMessage accepts number) fields
    → (held : Option M) × IsEmbedded is_value (contents number fields) held
held accepts is_value has number fields all =
    embedded_of accepts is_value has (contents number fields)
    (contents_well_formed accepts number fields all)

repeated_of : {M : Type 0} (accepts : Field → Type 0) (is_value : List Field → M → Type 0)
    → HaveValues accepts is_value → (found : List (List ℕ))
    → AllByRecursion (IsWellFormed accepts) found
    → (messages : List M) × AreRepeated is_value found messages
repeated_of accepts is_value has [] all = ([], refl)
repeated_of accepts is_value has (content ∷ others) all =
    let value = has all.0.0 all.0.2 in
    let rest = repeated_of accepts is_value has others all.1 in
    (value.0 ∷ rest.0, ((all.0.0, all.0.1, value.1), rest.1))

-- the messages that accepted fields hold at this number
pub all_held : {M : Type 0} (accepts : Field → Type 0) (is_value : List Field → M → Type 0)
    → HaveValues accepts is_value → (number : ℕ) (fields : List Field)
    → AllByRecursion (AcceptsMessage accepts number) fields
    → (messages : List M) × AreRepeated is_value (contents number fields) messages
all_held accepts is_value has number fields all =
    repeated_of accepts is_value has (contents number fields)
    (contents_well_formed accepts number fields all)

-- ---- a whole message

pub value_or_fault : {M : Type 0} (accepts : Field → Type 0) (refuses : Field → ProtoFault → Type 0)
    (is_value : List Field → M → Type 0)
    → AreDecided accepts refuses → HaveValues accepts is_value
    → HasValueOrFault accepts refuses is_value
value_or_fault accepts refuses is_value decided has input =
    elim (well_formed_or_fault accepts refuses decided input) [
      | inl good ↦
          (let value = has good.0 good.2 in inl (value.0, (good.0, good.1, good.2, value.1)))
      | inr bad ↦ inr bad
    ]
