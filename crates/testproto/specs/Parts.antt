-- The fields that are written of a message, a part for each field of its schema, and what a reader
-- has of them.
use Rattle.std.specs.Prelude.{
  ◌≡◌,
  ◌<◌,
  ◌+◌,
  ◌%◌,
  ◌^◌,
  ◌==◌,
  not,
  ℕ,
  zero,
  suc,
  ℤ,
  pos,
  negsuc,
  Bool,
  true,
  false,
  if◌then◌else◌,
  List,
  [],
  ◌∷◌,
  ◌++◌,
  map,
  length,
  Option,
  Some,
  None,
  IfSome,
  FitsSigned,
  IsUtf8,
  refl,
}
use Rattle.std.specs.List.{AllByRecursion}
use Rattle.std.specs.Int.{w32, w64, cast_signed, cast_unsigned}
use Rattle.std.proofs.Common.{sym, ap, subst, ◌∙◌, append_assoc, arith}
use Rattle.std.proofs.lemmas.List.{append-nil, length-append}
use Rattle.std.proofs.lemmas.Grind.{flat_map-append}
use Rattle.std.proofs.lemmas.Int.{to_z-of_z}
use Rattle.pbwire.specs.Fields.{
  Field,
  field_with,
  Content,
  varint,
  eight_bytes,
  bytes,
  four_bytes,
  tag_of,
  IsReading,
}
use Rattle.pbwire.specs.Spelling.{
  varint_spelling,
  content_spelling,
  spelling_of,
  spelling_of_all,
  IsFieldNumber,
  FitsContent,
  FitsField,
}
use Rattle.pbwire.proofs.OneReading.{written_fields}
use Rattle.testproto.specs.Values.{
  bytes_of,
  varint_in,
  content_in,
  varints,
  contents,
  last_or,
  low_32,
  int32,
  boolean,
  byte_string,
  IsEmbedded,
  AreRepeated,
  IsWellFormed,
  AcceptsText,
  AcceptsMessage,
  IsValueOf,
}
use Rattle.testproto.specs.Canonical.{
  int32_fields,
  bool_fields,
  bytes_fields,
  message_field,
  message_fields,
  repeated_fields,
  IsReadBack,
}

-- ---- facts of all elements

abbrev pub All : {X : Type 0} → (X → Type 0) → List X → Type 0
All = AllByRecursion

pub all_append : {X : Type 0} (P : X → Type 0) (xs ys : List X) → All P xs → All P ys
    → All P (xs ++ ys)
all_append P [] ys front back = back
all_append P (x ∷ xs) ys front back = (front.0, all_append P xs ys front.1 back)

all_front : {X : Type 0} (P : X → Type 0) (xs ys : List X) → All P (xs ++ ys) → All P xs
all_front P [] ys all = tt
all_front P (x ∷ xs) ys all = (all.0, all_front P xs ys all.1)

all_back : {X : Type 0} (P : X → Type 0) (xs ys : List X) → All P (xs ++ ys) → All P ys
all_back P [] ys all = all
all_back P (x ∷ xs) ys all = all_back P xs ys all.1

pub all_true : {X : Type 0} (xs : List X) → All (λ x. Unit {0}) xs
all_true [] = tt
all_true (x ∷ xs) = (tt, all_true xs)

-- what holds where two facts do
pub all_both : {X : Type 0} (P Q R : X → Type 0) → ((x : X) → P x → Q x → R x) → (xs : List X)
    → All P xs → All Q xs → All R xs
all_both P Q R both [] p q = tt
all_both P Q R both (x ∷ xs) p q = (both x p.0 q.0, all_both P Q R both xs p.1 q.1)

-- a fact of all contents, field by field
all_of_contents : (P : List ℕ → Type 0) (number : ℕ) (fields : List Field)
    → All P (contents number fields) → All (λ f. All P (content_in number f)) fields
all_of_contents P number [] all = tt
all_of_contents P number (f ∷ fs) all = (
  all_front P (content_in number f) (contents number fs) all,
  all_of_contents P number fs (all_back P (content_in number f) (contents number fs) all),
)

-- ---- what a number is read as again

-- the varints of an int32 and of a bool, as they are written
abbrev pub int32_varints : ℤ → List ℕ
int32_varints (pos zero) = []
int32_varints (pos (suc n)) = suc n ∷ []
int32_varints (negsuc n) = cast_unsigned w64 (negsuc n) ∷ []

abbrev pub bool_varints : Bool → List ℕ
bool_varints false = []
bool_varints true = 1 ∷ []

abbrev pub bytes_contents : List ℕ → List (List ℕ)
bytes_contents [] = []
bytes_contents (b ∷ bs) = (b ∷ bs) ∷ []

abbrev pub message_contents : {M : Type 0} → (M → List Field) → Option M → List (List ℕ)
message_contents fields_of None = []
message_contents fields_of (Some message) = spelling_of_all (fields_of message) ∷ []

abbrev pub repeated_contents : {M : Type 0} → (M → List Field) → List M → List (List ℕ)
repeated_contents fields_of messages = map (λ m. spelling_of_all (fields_of m)) messages

low_bits : (n : ℕ) → n < 2 ^ 31
    → cast_unsigned w64 (negsuc n) % 2 ^ 32 ≡ cast_unsigned w32 (negsuc n)
low_bits n small = omega arith

low_32-signed : (x : ℤ) → FitsSigned w32 x → low_32 (cast_unsigned w64 x) ≡ x
low_32-signed (pos n) fits =
    let small : n < 2 ^ 31 = fits.sfits in
    ap (λ (k : ℕ). cast_signed w32 k) (let low : n % 2 ^ 32 ≡ n = omega arith in low)
    ∙ to_z-of_z w32 (pos n) fits
low_32-signed (negsuc n) fits =
    ap (λ (k : ℕ). cast_signed w32 k) (low_bits n fits.sfits) ∙ to_z-of_z w32 (negsuc n) fits

int32_again : (x : ℤ) → FitsSigned w32 x → low_32 (last_or 0 (int32_varints x)) ≡ x
int32_again (pos zero) fits = low_32-signed (pos 0) fits
int32_again (pos (suc n)) fits = low_32-signed (pos (suc n)) fits
int32_again (negsuc n) fits = low_32-signed (negsuc n) fits

bool_again : (x : Bool) → not (last_or 0 (bool_varints x) == 0) ≡ x
bool_again false = refl
bool_again true = refl

bytes_again : (b : List ℕ) → last_or [] (bytes_contents b) ≡ b
bytes_again [] = refl
bytes_again (b ∷ bs) = refl

-- ---- a part of a message: the fields of one number

-- a field whose number and varint a reader takes
abbrev pub SoundContent : Content → Type 0
SoundContent (varint n) = n < 2 ^ 64
SoundContent (eight_bytes n) = n < 2 ^ 64
SoundContent (bytes b) = Unit {0}
SoundContent (four_bytes n) = n < 2 ^ 32

pub record IsSound (field : Field) : Type 0 where
  pub number : IsFieldNumber field.number
  pub content : SoundContent field.content

pub record Part : Type 0 where
  pub number : ℕ
  pub fields : List Field
  -- what the fields hold
  pub given_varints : List ℕ
  pub given_contents : List (List ℕ)
  pub says_varints : (n : ℕ) → varints n fields ≡ (if number == n then given_varints else [])
  pub says_contents : (n : ℕ) → contents n fields ≡ (if number == n then given_contents else [])
  pub sound : All IsSound fields

nothing : {A : Type 0} (b : Bool) → ◌≡◌ {A = List A} (if b then [] else []) []
nothing true = refl
nothing false = refl

varint_part : (number n k : ℕ)
    → varints n (field_with number (varint k) ∷ []) ≡ (if number == n then k ∷ [] else [])
varint_part number n k = append-nil (varint_in n (field_with number (varint k)))

no_content : (number n k : ℕ) → contents n (field_with number (varint k) ∷ []) ≡ []
no_content number n k =
    append-nil (content_in n (field_with number (varint k))) ∙ nothing (number == n)

content_part : (number n : ℕ) (b : List ℕ)
    → contents n (field_with number (bytes b) ∷ []) ≡ (if number == n then b ∷ [] else [])
content_part number n b = append-nil (content_in n (field_with number (bytes b)))

no_varint : (number n : ℕ) (b : List ℕ) → varints n (field_with number (bytes b) ∷ []) ≡ []
no_varint number n b =
    append-nil (varint_in n (field_with number (bytes b))) ∙ nothing (number == n)

pub int32_varints_are : (number : ℕ) (x : ℤ) (n : ℕ)
    → varints n (int32_fields number x) ≡ (if number == n then int32_varints x else [])
int32_varints_are number (pos zero) n = sym (nothing (number == n))
int32_varints_are number (pos (suc k)) n = varint_part number n (suc k)
int32_varints_are number (negsuc k) n = varint_part number n (cast_unsigned w64 (negsuc k))

pub int32_contents_are : (number : ℕ) (x : ℤ) (n : ℕ)
    → contents n (int32_fields number x) ≡ (if number == n then [] else [])
int32_contents_are number (pos zero) n = sym (nothing (number == n))
int32_contents_are number (pos (suc k)) n =
    no_content number n (suc k) ∙ sym (nothing (number == n))
int32_contents_are number (negsuc k) n =
    no_content number n (cast_unsigned w64 (negsuc k)) ∙ sym (nothing (number == n))

pub int32_sound : (number : ℕ) (x : ℤ) → IsFieldNumber number → FitsSigned w32 x
    → All IsSound (int32_fields number x)
int32_sound number (pos zero) lawful fits = tt
int32_sound number (pos (suc k)) lawful fits =
    let small : suc k < 2 ^ 31 = fits.sfits in
    let content : suc k < 2 ^ 64 = omega arith in
    (record { number = lawful; content = content }, tt)
int32_sound number (negsuc k) lawful fits =
    let content : cast_unsigned w64 (negsuc k) < 2 ^ 64 = omega arith in
    (record { number = lawful; content = content }, tt)

abbrev pub int32_part : (number : ℕ) (x : ℤ) → IsFieldNumber number → FitsSigned w32 x → Part
int32_part number x lawful fits = record {
  number = number;
  fields = int32_fields number x;
  given_varints = int32_varints x;
  given_contents = [];
  says_varints = int32_varints_are number x;
  says_contents = int32_contents_are number x;
  sound = int32_sound number x lawful fits;
}

pub bool_varints_are : (number : ℕ) (x : Bool) (n : ℕ)
    → varints n (bool_fields number x) ≡ (if number == n then bool_varints x else [])
bool_varints_are number false n = sym (nothing (number == n))
bool_varints_are number true n = varint_part number n 1

pub bool_contents_are : (number : ℕ) (x : Bool) (n : ℕ)
    → contents n (bool_fields number x) ≡ (if number == n then [] else [])
bool_contents_are number false n = sym (nothing (number == n))
bool_contents_are number true n = no_content number n 1 ∙ sym (nothing (number == n))

pub bool_sound : (number : ℕ) (x : Bool) → IsFieldNumber number → All IsSound (bool_fields number x)
bool_sound number false lawful = tt
bool_sound number true lawful = (record { number = lawful; content = omega arith }, tt)

abbrev pub bool_part : (number : ℕ) (x : Bool) → IsFieldNumber number → Part
bool_part number x lawful = record {
  number = number;
  fields = bool_fields number x;
  given_varints = bool_varints x;
  given_contents = [];
  says_varints = bool_varints_are number x;
  says_contents = bool_contents_are number x;
  sound = bool_sound number x lawful;
}

pub bytes_varints_are : (number : ℕ) (b : List ℕ) (n : ℕ)
    → varints n (bytes_fields number b) ≡ (if number == n then [] else [])
bytes_varints_are number [] n = sym (nothing (number == n))
bytes_varints_are number (b ∷ bs) n = no_varint number n (b ∷ bs) ∙ sym (nothing (number == n))

pub bytes_contents_are : (number : ℕ) (b : List ℕ) (n : ℕ)
    → contents n (bytes_fields number b) ≡ (if number == n then bytes_contents b else [])
bytes_contents_are number [] n = sym (nothing (number == n))
bytes_contents_are number (b ∷ bs) n = content_part number n (b ∷ bs)

pub bytes_sound : (number : ℕ) (b : List ℕ) → IsFieldNumber number
    → All IsSound (bytes_fields number b)
bytes_sound number [] lawful = tt
bytes_sound number (b ∷ bs) lawful = (record { number = lawful; content = tt }, tt)

abbrev pub bytes_part : (number : ℕ) (b : List ℕ) → IsFieldNumber number → Part
bytes_part number b lawful = record {
  number = number;
  fields = bytes_fields number b;
  given_varints = [];
  given_contents = bytes_contents b;
  says_varints = bytes_varints_are number b;
  says_contents = bytes_contents_are number b;
  sound = bytes_sound number b lawful;
}

pub message_varints_are : {M : Type 0} (fields_of : M → List Field) (number : ℕ)
    (held : Option M) (n : ℕ)
    → varints n (message_fields fields_of number held) ≡ (if number == n then [] else [])
message_varints_are fields_of number None n = sym (nothing (number == n))
message_varints_are fields_of number (Some m) n =
    no_varint number n (spelling_of_all (fields_of m)) ∙ sym (nothing (number == n))

pub message_contents_are : {M : Type 0} (fields_of : M → List Field) (number : ℕ)
    (held : Option M) (n : ℕ)
    → contents n (message_fields fields_of number held)
    ≡ (if number == n then message_contents fields_of held else [])
message_contents_are fields_of number None n = sym (nothing (number == n))
message_contents_are fields_of number (Some m) n =
    content_part number n (spelling_of_all (fields_of m))

pub message_sound : {M : Type 0} (fields_of : M → List Field) (number : ℕ) (held : Option M)
    → IsFieldNumber number → All IsSound (message_fields fields_of number held)
message_sound fields_of number None lawful = tt
message_sound fields_of number (Some m) lawful = (record { number = lawful; content = tt }, tt)

abbrev pub message_part : {M : Type 0} (fields_of : M → List Field) (number : ℕ) (held : Option M)
    → IsFieldNumber number → Part
message_part fields_of number held lawful = record {
  number = number;
  fields = message_fields fields_of number held;
  given_varints = [];
  given_contents = message_contents fields_of held;
  says_varints = message_varints_are fields_of number held;
  says_contents = message_contents_are fields_of number held;
  sound = message_sound fields_of number held lawful;
}

pub repeated_varints_are : {M : Type 0} (fields_of : M → List Field) (number : ℕ)
    (messages : List M) (n : ℕ)
    → varints n (repeated_fields fields_of number messages) ≡ (if number == n then [] else [])
repeated_varints_are fields_of number [] n = sym (nothing (number == n))
repeated_varints_are fields_of number (m ∷ ms) n =
    ap (λ (t : List ℕ). t ++ varints n (repeated_fields fields_of number ms))
    (nothing (number == n))
    ∙ repeated_varints_are fields_of number ms n

chosen : (b : Bool) (c : List ℕ) (cs : List (List ℕ))
    → (if b then c ∷ [] else []) ++ (if b then cs else []) ≡ (if b then c ∷ cs else [])
chosen true c cs = refl
chosen false c cs = refl

pub repeated_contents_are : {M : Type 0} (fields_of : M → List Field) (number : ℕ)
    (messages : List M) (n : ℕ)
    → contents n (repeated_fields fields_of number messages)
    ≡ (if number == n then repeated_contents fields_of messages else [])
repeated_contents_are fields_of number [] n = sym (nothing (number == n))
repeated_contents_are fields_of number (m ∷ ms) n =
    ap (λ (t : List (List ℕ)). content_in n (message_field fields_of number m) ++ t)
    (repeated_contents_are fields_of number ms n)
    ∙ chosen (number == n) (spelling_of_all (fields_of m)) (repeated_contents fields_of ms)

pub repeated_sound : {M : Type 0} (fields_of : M → List Field) (number : ℕ) (messages : List M)
    → IsFieldNumber number → All IsSound (repeated_fields fields_of number messages)
repeated_sound fields_of number [] lawful = tt
repeated_sound fields_of number (m ∷ ms) lawful =
    (record { number = lawful; content = tt }, repeated_sound fields_of number ms lawful)

abbrev pub repeated_part : {M : Type 0} (fields_of : M → List Field) (number : ℕ)
    (messages : List M)
    → IsFieldNumber number → Part
repeated_part fields_of number messages lawful = record {
  number = number;
  fields = repeated_fields fields_of number messages;
  given_varints = [];
  given_contents = repeated_contents fields_of messages;
  says_varints = repeated_varints_are fields_of number messages;
  says_contents = repeated_contents_are fields_of number messages;
  sound = repeated_sound fields_of number messages lawful;
}

-- ---- all parts of a message

-- the fields of the parts, after others
abbrev pub fields_of_parts : List Field → List Part → List Field
fields_of_parts before [] = before
fields_of_parts before (p ∷ ps) = fields_of_parts (before ++ p.fields) ps

abbrev pub given_varints_of : ℕ → List Part → List ℕ
given_varints_of n [] = []
given_varints_of n (p ∷ ps) =
    (if p.number == n then p.given_varints else []) ++ given_varints_of n ps

abbrev pub given_contents_of : ℕ → List Part → List (List ℕ)
given_contents_of n [] = []
given_contents_of n (p ∷ ps) =
    (if p.number == n then p.given_contents else []) ++ given_contents_of n ps

varints_of_parts : (n : ℕ) (before : List Field) (ps : List Part)
    → varints n (fields_of_parts before ps) ≡ varints n before ++ given_varints_of n ps
varints_of_parts n before [] = sym (append-nil (varints n before))
varints_of_parts n before (p ∷ ps) =
    varints_of_parts n (before ++ p.fields) ps
    ∙ ap (λ (t : List ℕ). t ++ given_varints_of n ps) (flat_map-append (varint_in n) before p.fields
    ∙ ap (λ (t : List ℕ). varints n before ++ t) (p.says_varints n))
    ∙ append_assoc (varints n before) (if p.number == n then p.given_varints else [])
    (given_varints_of n ps)

contents_of_parts : (n : ℕ) (before : List Field) (ps : List Part)
    → contents n (fields_of_parts before ps) ≡ contents n before ++ given_contents_of n ps
contents_of_parts n before [] = sym (append-nil (contents n before))
contents_of_parts n before (p ∷ ps) =
    contents_of_parts n (before ++ p.fields) ps
    ∙ ap (λ (t : List (List ℕ)). t ++ given_contents_of n ps)
    (flat_map-append (content_in n) before p.fields
    ∙ ap (λ (t : List (List ℕ)). contents n before ++ t) (p.says_contents n))
    ∙ append_assoc (contents n before) (if p.number == n then p.given_contents else [])
    (given_contents_of n ps)

parts_sound : (before : List Field) (ps : List Part) → All IsSound before
    → All IsSound (fields_of_parts before ps)
parts_sound before [] sound = sound
parts_sound before (p ∷ ps) sound =
    parts_sound (before ++ p.fields) ps (all_append IsSound before p.fields sound p.sound)

-- ---- what fits into memory has a spelling that is read again

short_content : (content : Content) → SoundContent content
    → length (content_spelling content) < 2 ^ 64 → FitsContent content
short_content (varint n) sound short = sound
short_content (eight_bytes n) sound short = sound
short_content (bytes b) sound short =
    omega (arith, short, length-append (varint_spelling (length b)) b)
short_content (four_bytes n) sound short = sound

fields_fit : (fields : List Field) → All IsSound fields → length (spelling_of_all fields) < 2 ^ 64
    → All FitsField fields
fields_fit [] sound short = tt
fields_fit (f ∷ fs) sound short =
    let whole : length (spelling_of_all (f ∷ fs)) ≡ length (spelling_of f) + length
    (spelling_of_all fs) = length-append (spelling_of f) (spelling_of_all fs) in
    let first : length (spelling_of f) ≡ length (varint_spelling (tag_of f)) + length
    (content_spelling f.content) =
    length-append (varint_spelling (tag_of f)) (content_spelling f.content) in
    let content : length (content_spelling f.content) < 2 ^ 64 =
    omega (arith, short, whole, first) in
    let others : length (spelling_of_all fs) < 2 ^ 64 = omega (arith, short, whole) in (
      record { number = sound.0.number; content = short_content f.content sound.0.content content },
      fields_fit fs sound.1 others,
    )

abbrev pub IsShort : List ℕ → Type 0
IsShort b = length b < 2 ^ 64

short_of : (b : Bool) (content : Content) → FitsContent content
    → All IsShort (if b then bytes_of content else [])
short_of false content fits = tt
short_of true (varint n) fits = tt
short_of true (eight_bytes n) fits = tt
short_of true (bytes b) fits = (fits, tt)
short_of true (four_bytes n) fits = tt

contents_short : (number : ℕ) (fields : List Field) → All FitsField fields
    → All IsShort (contents number fields)
contents_short number [] fit = tt
contents_short number (f ∷ fs) fit =
    all_append IsShort (content_in number f) (contents number fs)
    (short_of (f.number == number) f.content fit.0.content) (contents_short number fs fit.1)

-- ---- by the kind of field: what is written is read again

pub int32_read : (number : ℕ) (ps : List Part) (x : ℤ)
    → given_varints_of number ps ≡ int32_varints x ++ [] → FitsSigned w32 x
    → x ≡ int32 number (fields_of_parts [] ps)
unfolding int32
int32_read number ps x gives fits =
    sym (ap (λ (t : List ℕ). low_32 (last_or 0 t))
    (varints_of_parts number [] ps ∙ gives ∙ append-nil (int32_varints x))
    ∙ int32_again x fits)

pub bool_read : (number : ℕ) (ps : List Part) (x : Bool)
    → given_varints_of number ps ≡ bool_varints x ++ [] → x ≡ boolean number (fields_of_parts [] ps)
unfolding boolean
bool_read number ps x gives =
    sym (ap (λ (t : List ℕ). not (last_or 0 t == 0))
    (varints_of_parts number [] ps ∙ gives ∙ append-nil (bool_varints x))
    ∙ bool_again x)

contents_are : (number : ℕ) (ps : List Part) (given : List (List ℕ))
    → given_contents_of number ps ≡ given ++ [] → contents number (fields_of_parts [] ps) ≡ given
contents_are number ps given gives = contents_of_parts number [] ps ∙ gives ∙ append-nil given

pub bytes_read : (number : ℕ) (ps : List Part) (b : List ℕ)
    → given_contents_of number ps ≡ bytes_contents b ++ []
    → b ≡ byte_string number (fields_of_parts [] ps)
unfolding byte_string
bytes_read number ps b gives =
    sym (ap (λ (t : List (List ℕ)). last_or [] t) (contents_are number ps (bytes_contents b) gives)
    ∙ bytes_again b)

utf8_content : (b : List ℕ) → IsUtf8 b → All IsUtf8 (bytes_contents b)
utf8_content [] good = tt
utf8_content (b ∷ bs) good = (good, tt)

pub text_accepted : (number : ℕ) (ps : List Part) (b : List ℕ)
    → given_contents_of number ps ≡ bytes_contents b ++ [] → IsUtf8 b
    → All (AcceptsText number) (fields_of_parts [] ps)
text_accepted number ps b gives good =
    all_of_contents IsUtf8 number (fields_of_parts [] ps)
    (subst (λ (t : List (List ℕ)). All IsUtf8 t)
    (sym (contents_are number ps (bytes_contents b) gives)) (utf8_content b good))

-- what holds of an embedded message that is written
pub record IsHeld {M : Type 0} (accepts : Field → Type 0) (is_value : List Field → M → Type 0)
    (number : ℕ) (fields : List Field) (held : Option M) : Type 0 where
  pub value : IsEmbedded is_value (contents number fields) held
  pub accepted : All (AcceptsMessage accepts number) fields

embedded : {M : Type 0} (fits : M → Type 0) (fields_of : M → List Field)
    (accepts : Field → Type 0) (is_value : List Field → M → Type 0)
    (again : IsReadBack fits fields_of accepts is_value) (held : Option M)
    → IfSome held fits → All IsShort (message_contents fields_of held)
    → IsEmbedded is_value (message_contents fields_of held) held
    × All (IsWellFormed accepts) (message_contents fields_of held)
embedded fits fields_of accepts is_value again None good short = (refl, tt)
embedded fits fields_of accepts is_value again (Some m) good short =
    let read = again m good short.0 in (
      (λ none. cc, read.0, (read.0, [], read.1, refl, sym (append-nil read.0)), read.3),
      ((read.0, read.1, read.2), tt),
    )

pub message_read : {M : Type 0} (fits : M → Type 0) (fields_of : M → List Field)
    (accepts : Field → Type 0) (is_value : List Field → M → Type 0)
    (again : IsReadBack fits fields_of accepts is_value)
    (number : ℕ) (ps : List Part) (held : Option M)
    → given_contents_of number ps ≡ message_contents fields_of held ++ [] → IfSome held fits
    → All FitsField (fields_of_parts [] ps)
    → IsHeld accepts is_value number (fields_of_parts [] ps) held
message_read fits fields_of accepts is_value again number ps held gives good fit =
    let are : contents number (fields_of_parts [] ps) ≡ message_contents fields_of held =
    contents_are number ps (message_contents fields_of held) gives in
    let short : All IsShort (message_contents fields_of held) =
    subst (λ (t : List (List ℕ)). All IsShort t) are
    (contents_short number (fields_of_parts [] ps) fit) in
    let read = embedded fits fields_of accepts is_value again held good short in
    record {
      value = subst (λ (t : List (List ℕ)). IsEmbedded is_value t held) (sym are) read.0;
      accepted =
          all_of_contents (IsWellFormed accepts) number (fields_of_parts [] ps)
          (subst (λ (t : List (List ℕ)). All (IsWellFormed accepts) t) (sym are) read.1);
    }

pub record AreHeld {M : Type 0} (accepts : Field → Type 0) (is_value : List Field → M → Type 0)
    (number : ℕ) (fields : List Field) (messages : List M) : Type 0 where
  pub value : AreRepeated is_value (contents number fields) messages
  pub accepted : All (AcceptsMessage accepts number) fields

repeated : {M : Type 0} (fits : M → Type 0) (fields_of : M → List Field) (accepts : Field → Type 0)
    (is_value : List Field → M → Type 0) (again : IsReadBack fits fields_of accepts is_value)
    (messages : List M)
    → All fits messages → All IsShort (repeated_contents fields_of messages)
    → AreRepeated is_value (repeated_contents fields_of messages) messages
    × All (IsWellFormed accepts) (repeated_contents fields_of messages)
repeated fits fields_of accepts is_value again [] good short = (refl, tt)
repeated fits fields_of accepts is_value again (m ∷ ms) good short =
    let read = again m good.0 short.0 in
    let others = repeated fits fields_of accepts is_value again ms good.1 short.1 in
    (((read.0, read.1, read.3), others.0), ((read.0, read.1, read.2), others.1))

pub repeated_read : {M : Type 0} (fits : M → Type 0) (fields_of : M → List Field)
    (accepts : Field → Type 0) (is_value : List Field → M → Type 0)
    (again : IsReadBack fits fields_of accepts is_value)
    (number : ℕ) (ps : List Part) (messages : List M)
    → given_contents_of number ps ≡ repeated_contents fields_of messages ++ [] → All fits messages
    → All FitsField (fields_of_parts [] ps)
    → AreHeld accepts is_value number (fields_of_parts [] ps) messages
repeated_read fits fields_of accepts is_value again number ps messages gives good fit =
    let are : contents number (fields_of_parts [] ps) ≡ repeated_contents fields_of messages =
    contents_are number ps (repeated_contents fields_of messages) gives in
    let short : All IsShort (repeated_contents fields_of messages) =
    subst (λ (t : List (List ℕ)). All IsShort t) are
    (contents_short number (fields_of_parts [] ps) fit) in
    let read = repeated fits fields_of accepts is_value again messages good short in
    record {
      value = subst (λ (t : List (List ℕ)). AreRepeated is_value t messages) (sym are) read.0;
      accepted =
          all_of_contents (IsWellFormed accepts) number (fields_of_parts [] ps)
          (subst (λ (t : List (List ℕ)). All (IsWellFormed accepts) t) (sym are) read.1);
    }

-- ---- a whole message

pub parts_fit : (ps : List Part) → length (spelling_of_all (fields_of_parts [] ps)) < 2 ^ 64
    → All FitsField (fields_of_parts [] ps)
parts_fit ps short = fields_fit (fields_of_parts [] ps) (parts_sound [] ps tt) short

pub whole_message : {M : Type 0} (accepts : Field → Type 0) (is_value : List Field → M → Type 0)
    (fields : List Field) (message : M)
    → All FitsField fields → All accepts fields → is_value fields message
    → IsValueOf accepts is_value (spelling_of_all fields) message
whole_message accepts is_value fields message fit good value = (
  fields,
  subst (λ (t : List ℕ). IsReading t fields None) (append-nil (spelling_of_all fields))
      (written_fields fields [] fit),
  good,
  value,
)
