-- One more field, and one more occurrence, at the end.
use Rattle.std.proofs.Common.{
  ◌≡◌,
  ◌≢◌,
  ◌<◌,
  ◌%◌,
  ◌^◌,
  ℕ,
  arith,
  List,
  [],
  ◌∷◌,
  ◌++◌,
  Option,
  Some,
  None,
  refl,
  sym,
  ap,
  subst,
  ◌∙◌,
  append_assoc,
}
use Rattle.std.specs.List.{AllByRecursion}
use Rattle.std.proofs.lemmas.List.{append-nil}
use Rattle.std.proofs.lemmas.Grind.{flat_map-append}
use Rattle.pbwire.specs.Fields.{Field, StartsWithField, StartsWithFields, IsReading}
use Rattle.std.proofs.lemmas.Nat.{and_mask}
use Rattle.std.proofs.lemmas.Int.{of_z-to_z}
use Rattle.std.specs.Prelude.{◌==◌, not, ℤ, bit_and}
use Rattle.std.specs.Int.{w32, cast_signed, cast_unsigned}
use Rattle.testproto.specs.Values.{
  last_or,
  low_32,
  int32,
  boolean,
  byte_string,
  content_in,
  varint_in,
  contents,
  varints,
  AreJoined,
  IsEmbedded,
  AreRepeated,
}

pub StartsWithFields-push : (input : List ℕ) (fields : List Field) (middle : List ℕ)
    (field : Field) (rest : List ℕ)
    → StartsWithFields input fields middle → StartsWithField middle field rest
    → StartsWithFields input (fields ++ field ∷ []) rest
StartsWithFields-push input [] middle field rest before there =
    (rest, subst (λ (t : List ℕ). StartsWithField t field rest) (sym before) there, refl)
StartsWithFields-push input (f ∷ fs) middle field rest before there =
    (before.0, before.1, StartsWithFields-push before.0 fs middle field rest before.2 there)

pub AllByRecursion-push : {X : Type 0} (P : X → Type 0) (xs : List X) (x : X) → AllByRecursion P xs
    → P x → AllByRecursion P (xs ++ x ∷ [])
AllByRecursion-push P [] x all here = (here, tt)
AllByRecursion-push P (y ∷ ys) x all here = (all.0, AllByRecursion-push P ys x all.1 here)

pub last_or-push : {A : Type 0} (default : A) (xs : List A) (x : A)
    → last_or default (xs ++ x ∷ []) ≡ x
last_or-push default [] x = refl
last_or-push default (y ∷ ys) x = last_or-push y ys x

-- what the fields give so far, and what one more gives
pub contents-push : (number : ℕ) (fields : List Field) (field : Field)
    → contents number (fields ++ field ∷ []) ≡ contents number fields ++ content_in number field
contents-push number fields field =
    flat_map-append (content_in number) fields (field ∷ [])
    ∙ ap (λ (t : List (List ℕ)). contents number fields ++ t) (append-nil (content_in number field))

pub varints-push : (number : ℕ) (fields : List Field) (field : Field)
    → varints number (fields ++ field ∷ []) ≡ varints number fields ++ varint_in number field
varints-push number fields field =
    flat_map-append (varint_in number) fields (field ∷ [])
    ∙ ap (λ (t : List ℕ). varints number fields ++ t) (append-nil (varint_in number field))

pub AreJoined-push : (contents : List (List ℕ)) (fields : List Field) (content : List ℕ)
    (more : List Field)
    → AreJoined contents fields → IsReading content more None
    → AreJoined (contents ++ content ∷ []) (fields ++ more)
AreJoined-push [] fields content more joined reading =
    (more, [], reading, refl, ap (λ (t : List Field). t ++ more) joined ∙ sym (append-nil more))
AreJoined-push (c ∷ cs) fields content more joined reading = (
  joined.0,
  joined.1 ++ more,
  joined.2,
  AreJoined-push cs joined.1 content more joined.3 reading,
  ap (λ (t : List Field). t ++ more) joined.4 ∙ append_assoc joined.0 joined.1 more,
)

-- ---- one more scalar

pub int32-same : (number : ℕ) (before : List Field) (field : Field) → varint_in number field ≡ []
    → int32 number (before ++ field ∷ []) ≡ int32 number before
unfolding int32
int32-same number before field none =
    ap (λ (t : List ℕ). low_32 (last_or 0 t)) (varints-push number before field
    ∙ ap (λ (t : List ℕ). varints number before ++ t) none ∙ append-nil (varints number before))

pub int32-last : (number : ℕ) (before : List Field) (field : Field) (n : ℕ)
    → varint_in number field ≡ n ∷ [] → int32 number (before ++ field ∷ []) ≡ low_32 n
unfolding int32
int32-last number before field n one =
    ap (λ (t : List ℕ). low_32 (last_or 0 t))
    (varints-push number before field ∙ ap (λ (t : List ℕ). varints number before ++ t) one)
    ∙ ap low_32 (last_or-push 0 (varints number before) n)

pub boolean-same : (number : ℕ) (before : List Field) (field : Field) → varint_in number field ≡ []
    → boolean number (before ++ field ∷ []) ≡ boolean number before
unfolding boolean
boolean-same number before field none =
    ap (λ (t : List ℕ). not (last_or 0 t == 0)) (varints-push number before field
    ∙ ap (λ (t : List ℕ). varints number before ++ t) none ∙ append-nil (varints number before))

pub boolean-last : (number : ℕ) (before : List Field) (field : Field) (n : ℕ)
    → varint_in number field ≡ n ∷ [] → boolean number (before ++ field ∷ []) ≡ not (n == 0)
unfolding boolean
boolean-last number before field n one =
    ap (λ (t : List ℕ). not (last_or 0 t == 0))
    (varints-push number before field ∙ ap (λ (t : List ℕ). varints number before ++ t) one)
    ∙ ap (λ (k : ℕ). not (k == 0)) (last_or-push 0 (varints number before) n)

pub byte_string-same : (number : ℕ) (before : List Field) (field : Field)
    → content_in number field ≡ []
    → byte_string number (before ++ field ∷ []) ≡ byte_string number before
unfolding byte_string
byte_string-same number before field none =
    ap (λ (t : List (List ℕ)). last_or [] t) (contents-push number before field
    ∙ ap (λ (t : List (List ℕ)). contents number before ++ t) none
    ∙ append-nil (contents number before))

pub byte_string-last : (number : ℕ) (before : List Field) (field : Field) (content : List ℕ)
    → content_in number field ≡ content ∷ [] → byte_string number (before ++ field ∷ []) ≡ content
unfolding byte_string
byte_string-last number before field content one =
    ap (λ (t : List (List ℕ)). last_or [] t) (contents-push number before field
    ∙ ap (λ (t : List (List ℕ)). contents number before ++ t) one)
    ∙ last_or-push [] (contents number before) content

-- ---- one more occurrence of an embedded message

pub contents-same : (number : ℕ) (before : List Field) (field : Field)
    → content_in number field ≡ [] → contents number (before ++ field ∷ []) ≡ contents number before
contents-same number before field none =
    contents-push number before field ∙ ap (λ (t : List (List ℕ)). contents number before ++ t) none
    ∙ append-nil (contents number before)

pub contents-last : (number : ℕ) (before : List Field) (field : Field) (content : List ℕ)
    → content_in number field ≡ content ∷ []
    → contents number (before ++ field ∷ []) ≡ contents number before ++ content ∷ []
contents-last number before field content one =
    contents-push number before field ∙ ap (λ (t : List (List ℕ)). contents number before ++ t) one

push_some : {X : Type 0} (xs : List X) (x : X) → xs ++ x ∷ [] ≢ []
push_some [] x e = cc
push_some (y ∷ ys) x e = cc

pub embedded-same : {M : Type 0} (is_value : List Field → M → Type 0) (number : ℕ)
    (before : List Field) (field : Field) (held : Option M)
    → content_in number field ≡ []
    → IsEmbedded is_value (contents number before) held
    → IsEmbedded is_value (contents number (before ++ field ∷ [])) held
embedded-same {M} is_value number before field held none had =
    subst (λ (t : List (List ℕ)). IsEmbedded is_value t held)
    (sym (contents-same number before field none)) had

pub embedded-last : {M : Type 0} (is_value : List Field → M → Type 0) (number : ℕ)
    (before : List Field) (field : Field) (content : List ℕ)
    (fields more : List Field) (message : M)
    → content_in number field ≡ content ∷ [] → AreJoined (contents number before) fields
    → IsReading content more None → is_value (fields ++ more) message
    → IsEmbedded is_value (contents number (before ++ field ∷ [])) (Some message)
embedded-last {M} is_value number before field content fields more message one
    joined reading value =
    subst (λ (t : List (List ℕ)). IsEmbedded is_value t (Some message))
    (sym (contents-last number before field content one)) (
      push_some (contents number before) content,
      fields ++ more,
      AreJoined-push (contents number before) fields content more joined reading,
      value,
    )

pub absent : {M : Type 0} (is_value : List Field → M → Type 0)
    (contents : List (List ℕ)) (message : M)
    → contents ≡ [] → is_value [] message
    → (fields : List Field) × AreJoined contents fields × is_value fields message
absent is_value contents message none value =
    ([], subst (λ (t : List (List ℕ)). AreJoined t []) (sym none) refl, value)

pub int32-stored : (n : ℕ) (z : ℤ) → z ≡ cast_signed w32 (bit_and n 4294967295)
    → cast_signed w32 (cast_unsigned w32 z) ≡ low_32 n
int32-stored n z z_is =
    let m_is : bit_and n 4294967295 ≡ n % 2 ^ 32 = and_mask n 32 in
    let fits : n % 2 ^ 32 < 2 ^ 32 = omega arith in
    let z_low : z ≡ low_32 n = z_is ∙ ap (λ (m : ℕ). cast_signed w32 m) m_is in
    ap (λ (y : ℤ). cast_signed w32 (cast_unsigned w32 y)) z_low
    ∙ ap (λ (m : ℕ). cast_signed w32 m) (of_z-to_z w32 (n % 2 ^ 32) fits)

-- ---- one more of a repeated message

pub AreRepeated-push : {M : Type 0} (is_value : List Field → M → Type 0) (contents : List (List ℕ))
    (messages : List M) (content : List ℕ) (message : M) (fields : List Field)
    → AreRepeated is_value contents messages → IsReading content fields None
    → is_value fields message
    → AreRepeated is_value (contents ++ content ∷ []) (messages ++ message ∷ [])
AreRepeated-push {M} is_value [] messages content message fields are reading value =
    subst (λ (t : List M). AreRepeated is_value (content ∷ []) (t ++ message ∷ [])) (sym are)
    ((fields, reading, value), refl)
AreRepeated-push is_value (c ∷ cs) [] content message fields are reading value = absurd are
AreRepeated-push is_value (c ∷ cs) (m ∷ ms) content message fields are reading value =
    (are.0, AreRepeated-push is_value cs ms content message fields are.1 reading value)

pub repeated-same : {M : Type 0} (is_value : List Field → M → Type 0) (number : ℕ)
    (before : List Field) (field : Field) (messages : List M)
    → content_in number field ≡ []
    → AreRepeated is_value (contents number before) messages
    → AreRepeated is_value (contents number (before ++ field ∷ [])) messages
repeated-same is_value number before field messages none had =
    subst (λ (t : List (List ℕ)). AreRepeated is_value t messages)
    (sym (contents-same number before field none)) had

pub repeated-last : {M : Type 0} (is_value : List Field → M → Type 0) (number : ℕ)
    (before : List Field) (field : Field) (content : List ℕ) (fields : List Field)
    (messages : List M) (message : M)
    → content_in number field ≡ content ∷ []
    → AreRepeated is_value (contents number before) messages → IsReading content fields None
    → is_value fields message
    → AreRepeated is_value (contents number (before ++ field ∷ [])) (messages ++ message ∷ [])
repeated-last is_value number before field content fields messages message one had reading value =
    subst (λ (t : List (List ℕ)). AreRepeated is_value t (messages ++ message ∷ []))
    (sym (contents-last number before field content one)) (AreRepeated-push is_value
    (contents number before) messages content message fields had reading value)
