-- Fields have one value, and no field is both accepted and refused: what the laws of each message
-- cite.
use Rattle.std.specs.Prelude.{◌≡◌, ◌⊎◌, ℕ, List, [], ◌∷◌, ◌++◌, Option, Some, None, IsUtf8, refl}
use Rattle.std.proofs.Common.{sym, ap, subst, ◌∙◌, inl, inr}
use Rattle.std.specs.List.{AllByRecursion}
use Rattle.pbwire.specs.declared.fault.WireFault.{WireFault}
use Rattle.pbwire.specs.Fields.{Field, StartsWithField, StartsWithFields, FaultAt}
use Rattle.pbwire.proofs.FieldsRead.{one_field, field_or_fault, no_field_at_end, no_fault_at_end}
use Rattle.pbwire.proofs.OneReading.{one_reading}
use Rattle.testproto.specs.declared.fault.ProtoFault.{ProtoFault}
use Rattle.testproto.specs.declared.fault.ProtoFault.TheVariants.{Wire}
use Rattle.testproto.specs.Values.{
  AreJoined,
  IsEmbedded,
  AreRepeated,
  IsWellFormed,
  AcceptsText,
  AcceptsMessage,
  HasFault,
  RefusesText,
  RefusesMessage,
  IsValueOf,
}

-- fields have one value
abbrev pub IsSingle : {M : Type 0} → (List Field → M → Type 0) → Type 0
IsSingle {M} is_value =
    (fields : List Field) (value other : M) → is_value fields value
    → is_value fields other → value ≡ other

abbrev pub AreApart : (Field → Type 0) → (Field → ProtoFault → Type 0) → Type 0
AreApart accepts refuses =
    (field : Field) (fault : ProtoFault) → accepts field → refuses field fault → ⊥

one_joined : (contents : List (List ℕ)) (fields others : List Field) → AreJoined contents fields
    → AreJoined contents others → fields ≡ others
one_joined [] fields others joined also = joined ∙ sym also
one_joined (c ∷ cs) fields others joined also =
    let first : joined.0 ≡ also.0 = (one_reading c joined.0 also.0 None None joined.2 also.2).0 in
    let rest : joined.1 ≡ also.1 = one_joined cs joined.1 also.1 joined.3 also.3 in
    joined.4 ∙ ap (λ (t : List Field). t ++ joined.1) first
    ∙ ap (λ (t : List Field). also.0 ++ t) rest ∙ sym also.4

pub one_embedded : {M : Type 0} (is_value : List Field → M → Type 0) (single : IsSingle is_value)
    (contents : List (List ℕ)) (value other : Option M)
    → IsEmbedded is_value contents value → IsEmbedded is_value contents other → value ≡ other
one_embedded is_value single contents None None is also = refl
one_embedded is_value single contents None (Some w) is also = absurd (also.0 is)
one_embedded is_value single contents (Some v) None is also = absurd (is.0 also)
one_embedded {M} is_value single contents (Some v) (Some w) is also =
    let same : is.1 ≡ also.1 = one_joined contents is.1 also.1 is.2 also.2 in
    ap (λ (m : M). Some m)
    (single also.1 v w (subst (λ (t : List Field). is_value t v) same is.3) also.3)

pub one_repeated : {M : Type 0} (is_value : List Field → M → Type 0) (single : IsSingle is_value)
    (contents : List (List ℕ)) (values others : List M)
    → AreRepeated is_value contents values → AreRepeated is_value contents others → values ≡ others
one_repeated is_value single [] values others are also = are ∙ sym also
one_repeated is_value single (c ∷ cs) [] others are also = absurd are
one_repeated is_value single (c ∷ cs) (v ∷ vs) [] are also = absurd also
one_repeated {M} is_value single (c ∷ cs) (v ∷ vs) (w ∷ ws) are also =
    let same : are.0.0 ≡ also.0.0 = (one_reading c are.0.0 also.0.0 None None are.0.1 also.0.1).0 in
    let first : v ≡ w =
    single also.0.0 v w (subst (λ (t : List Field). is_value t v) same are.0.2) also.0.2 in
    let rest : vs ≡ ws = one_repeated is_value single cs vs ws are.1 also.1 in
    ap (λ (m : M). m ∷ vs) first ∙ ap (λ (ms : List M). w ∷ ms) rest

-- ---- a well formed list has no fault

Stop : (Field → ProtoFault → Type 0) → List ℕ → ProtoFault → Type 0
Stop refuses rest fault =
    ((wire : WireFault) × FaultAt rest wire × (fault ≡ Wire wire))
    ⊎ ((field : Field) × (more : List ℕ) × StartsWithField rest field more × refuses field fault)

stop_at_end : (refuses : Field → ProtoFault → Type 0) (fault : ProtoFault)
    → Stop refuses [] fault → ⊥
unfolding Stop
stop_at_end refuses fault (inl wire) = no_fault_at_end wire.0 wire.1
stop_at_end refuses fault (inr field) = no_field_at_end field.0 field.1 field.2

stop_at_field : (accepts : Field → Type 0) (refuses : Field → ProtoFault → Type 0)
    (apart : AreApart accepts refuses) (input : List ℕ) (field : Field) (more : List ℕ)
    (fault : ProtoFault)
    → StartsWithField input field more → accepts field → Stop refuses input fault → ⊥
unfolding Stop
stop_at_field accepts refuses apart input field more fault there good (inl wire) =
    field_or_fault input field more wire.0 there wire.1
stop_at_field accepts refuses apart input field more fault there good (inr bad) =
    let same : field ≡ bad.0 = (one_field input field bad.0 more bad.1 there bad.2).0 in
    apart bad.0 fault (subst accepts same good) bad.3

no_stop : (accepts : Field → Type 0) (refuses : Field → ProtoFault → Type 0)
    (apart : AreApart accepts refuses) (input : List ℕ) (fields before : List Field) (rest : List ℕ)
    (fault : ProtoFault)
    → StartsWithFields input fields [] → AllByRecursion accepts fields
    → StartsWithFields input before rest → Stop refuses rest fault → ⊥
no_stop accepts refuses apart input [] [] rest fault whole good front stop =
    stop_at_end refuses fault
    (subst (λ (t : List ℕ). Stop refuses t fault) (sym front ∙ whole) stop)
no_stop accepts refuses apart input [] (g ∷ gs) rest fault whole good front stop =
    no_field_at_end g front.0 (subst (λ (t : List ℕ). StartsWithField t g front.0) whole front.1)
no_stop accepts refuses apart input (f ∷ fs) [] rest fault whole good front stop =
    stop_at_field accepts refuses apart input f whole.0 fault whole.1 good.0
    (subst (λ (t : List ℕ). Stop refuses t fault) (sym front) stop)
no_stop accepts refuses apart input (f ∷ fs) (g ∷ gs) rest fault whole good front stop =
    let same : front.0 ≡ whole.0 = (one_field input g f front.0 whole.0 front.1 whole.1).1 in
    no_stop accepts refuses apart whole.0 fs gs rest fault whole.2 good.1
    (subst (λ (t : List ℕ). StartsWithFields t gs rest) same front.2) stop

pub no_fault : (accepts : Field → Type 0) (refuses : Field → ProtoFault → Type 0)
    (apart : AreApart accepts refuses) (input : List ℕ) (fault : ProtoFault)
    → IsWellFormed accepts input → HasFault accepts refuses input fault → ⊥
unfolding Stop
no_fault accepts refuses apart input fault good bad =
    no_stop accepts refuses apart input good.0 bad.0 bad.1 fault good.1 good.2 bad.2 bad.4

-- ---- by the kind of field

pub apart_text : (number : ℕ) → AreApart (AcceptsText number) (RefusesText number)
apart_text number field fault good bad =
    let all : AllByRecursion IsUtf8 (bad.0 ∷ []) =
    subst (λ (t : List (List ℕ)). AllByRecursion IsUtf8 t) bad.1 good in
    bad.2 all.0

pub apart_message : (accepts : Field → Type 0) (refuses : Field → ProtoFault → Type 0)
    (apart : AreApart accepts refuses) (number : ℕ)
    → AreApart (AcceptsMessage accepts number) (RefusesMessage (HasFault accepts refuses) number)
apart_message accepts refuses apart number field fault good bad =
    let all : AllByRecursion (IsWellFormed accepts) (bad.0 ∷ []) =
    subst (λ (t : List (List ℕ)). AllByRecursion (IsWellFormed accepts) t) bad.1 good in
    no_fault accepts refuses apart bad.0 fault all.0 bad.2

-- ---- a message has one value

pub one_value_of : {M : Type 0} (accepts : Field → Type 0) (is_value : List Field → M → Type 0)
    (single : IsSingle is_value) (input : List ℕ) (value other : M)
    → IsValueOf accepts is_value input value → IsValueOf accepts is_value input other
    → value ≡ other
one_value_of accepts is_value single input value other is also =
    let same : is.0 ≡ also.0 = (one_reading input is.0 also.0 None None is.1 also.1).0 in
    single also.0 value other (subst (λ (t : List Field). is_value t value) same is.3) also.3
