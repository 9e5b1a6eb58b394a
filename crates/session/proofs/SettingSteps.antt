-- The parameters of a SETTINGS frame, one after another.
use Rattle.std.proofs.Common.{
  ◌≡◌,
  ℕ,
  ◌%◌,
  ◌<◌,
  ◌≤◌,
  List,
  [],
  ◌∷◌,
  ◌++◌,
  length,
  take,
  drop,
  refl,
  sym,
  ap,
  subst,
  ◌∙◌,
  append_assoc,
  arith,
  length-drop,
}
use Rattle.std.specs.Prelude.{Option, Some, None, flat_map, filter_map, option_to_list}
use Rattle.std.specs.List.{AllByRecursion}
use Rattle.std.proofs.lemmas.List.{append-nil, flat_map_more, nil_from_length, take-append-drop}
use Rattle.std.proofs.lemmas.List.Elements.{filter_map-append}
use Rattle.reasons.specs.declared.Reason.{Reason}
use Rattle.session.specs.declared.settings.Parameter.{Parameter}
use Rattle.h2frame.specs.declared.settings.PeerSetting.{PeerSetting}
use Rattle.session.specs.Settings.{
  parameter_text,
  IsParameter,
  AreLawful,
  parameter_fault,
  parameter_told,
  Tells,
  IsRefused,
}

-- the parameters up to the rest are lawful, and tell these
pub record ReadTo (content : List ℕ) (settings : List PeerSetting) (rest : List ℕ) : Type 0 where
  pub front : List Parameter
  pub text : content ≡ flat_map parameter_text front ++ rest
  pub each : AllByRecursion IsParameter front
  pub lawful : AreLawful front
  pub told : settings ≡ filter_map parameter_told front
  pub whole : length rest % 6 ≡ 0

pub read_none : (content : List ℕ) → length content % 6 ≡ 0 → ReadTo content [] content
read_none content whole =
    record { front = []; text = refl; each = tt; lawful = tt; told = refl; whole = whole }

pub all_push : {X : Type 0} (P : X → Type 0) (xs : List X) (x : X) → AllByRecursion P xs → P x
    → AllByRecursion P (xs ++ x ∷ [])
all_push P [] x all is = (is, tt)
all_push P (y ∷ ys) x all is = (all.0, all_push P ys x all.1 is)

told_one : (p : Parameter) → filter_map parameter_told (p ∷ []) ≡ option_to_list (parameter_told p)
told_one p =
    elim (parameter_told p)
    as (λ (o : Option PeerSetting). filter_map (λ (_ : Parameter). o) (p ∷ []) ≡ option_to_list o)
    [ None ↦ refl | Some s ↦ refl ]

text_push : (front : List Parameter) (p : Parameter) (behind : List ℕ)
    → flat_map parameter_text front ++ (parameter_text p ++ behind)
    ≡ flat_map parameter_text (front ++ p ∷ []) ++ behind
text_push front p behind =
    sym (append_assoc (flat_map parameter_text front) (parameter_text p) behind)
    ∙ ap (λ (b : List ℕ). b ++ behind) (flat_map_more parameter_text [] front p)

pub read_more : (content : List ℕ) (settings : List PeerSetting)
    (rest behind : List ℕ) (p : Parameter)
    → ReadTo content settings rest → rest ≡ parameter_text p ++ behind
    → IsParameter p → parameter_fault p ≡ None → length behind % 6 ≡ 0
    → ReadTo content (settings ++ option_to_list (parameter_told p)) behind
read_more content settings rest behind p so e is fine whole =
    record {
      front = so.front ++ p ∷ [];
      text =
          so.text ∙ ap (λ (b : List ℕ). flat_map parameter_text so.front ++ b) e
          ∙ text_push so.front p behind;
      each = all_push IsParameter so.front p so.each is;
      lawful = all_push (λ (q : Parameter). parameter_fault q ≡ None) so.front p so.lawful fine;
      told = ap (λ (s : List PeerSetting). s ++ option_to_list (parameter_told p)) so.told
          ∙ ap (λ (s : List PeerSetting). filter_map parameter_told so.front ++ s)
          (sym (told_one p))
          ∙ sym (filter_map-append parameter_told so.front (p ∷ []));
      whole = whole;
    }

pub read_faulty : (content : List ℕ) (settings : List PeerSetting) (rest behind : List ℕ)
    (p : Parameter) (error : Reason)
    → ReadTo content settings rest → rest ≡ parameter_text p ++ behind → IsParameter p
    → parameter_fault p ≡ Some error → IsRefused content error
read_faulty content settings rest behind p error so e is fault =
    record {
      front = so.front;
      faulty = p;
      rest = behind;
      text = so.text ∙ ap (λ (b : List ℕ). flat_map parameter_text so.front ++ b) e;
      each = so.each;
      is_parameter = is;
      lawful = so.lawful;
      fault = fault;
    }

pub read_all : (content : List ℕ) (settings : List PeerSetting) (rest : List ℕ)
    → ReadTo content settings rest → length rest < 6 → Tells content settings
read_all content settings rest so short =
    let n : length rest ≡ 0 = omega (arith, so.whole, short) in
    let none : rest ≡ [] = nil_from_length rest n in (
      so.front,
      record {
        each = so.each;
        text =
            so.text ∙ ap (λ (b : List ℕ). flat_map parameter_text so.front ++ b) none
            ∙ append-nil (flat_map parameter_text so.front);
      },
      so.lawful,
      so.told,
    )

whole_behind : (rest : List ℕ) → 6 ≤ length rest → length rest % 6 ≡ 0
    → length (drop 6 rest) % 6 ≡ 0
whole_behind rest long whole = omega (arith, length-drop 6 rest, long, whole)

parts : (rest first behind : List ℕ) → first ≡ take 6 rest → behind ≡ drop 6 rest
    → rest ≡ first ++ behind
parts rest first behind e f = sym (take-append-drop 6 rest) ∙ rw (← e, ← f) refl

pub read_telling : (content : List ℕ) (settings : List PeerSetting) (rest first behind : List ℕ)
    (p : Parameter) (s : PeerSetting)
    → ReadTo content settings rest → first ≡ take 6 rest → behind ≡ drop 6 rest → 6 ≤ length rest
    → first ≡ parameter_text p → IsParameter p → parameter_fault p ≡ None
    → parameter_told p ≡ Some s
    → ReadTo content (settings ++ s ∷ []) behind
read_telling content settings rest first behind p s so e f long text is fine told =
    let whole : length behind % 6 ≡ 0 =
    ap (λ (b : List ℕ). length b % 6) f ∙ whole_behind rest long so.whole in
    subst (λ (o : Option PeerSetting). ReadTo content (settings ++ option_to_list o) behind) told
    (read_more content settings rest behind p so
    (parts rest first behind e f ∙ ap (λ (b : List ℕ). b ++ behind) text) is fine whole)

pub read_silent : (content : List ℕ) (settings : List PeerSetting) (rest first behind : List ℕ)
    (p : Parameter)
    → ReadTo content settings rest → first ≡ take 6 rest → behind ≡ drop 6 rest → 6 ≤ length rest
    → first ≡ parameter_text p → IsParameter p → parameter_fault p ≡ None → parameter_told p ≡ None
    → ReadTo content settings behind
read_silent content settings rest first behind p so e f long text is fine told =
    let whole : length behind % 6 ≡ 0 =
    ap (λ (b : List ℕ). length b % 6) f ∙ whole_behind rest long so.whole in
    let same =
    subst (λ (o : Option PeerSetting). ReadTo content (settings ++ option_to_list o) behind) told
    (read_more content settings rest behind p so
    (parts rest first behind e f ∙ ap (λ (b : List ℕ). b ++ behind) text) is fine whole) in
    subst (λ (all : List PeerSetting). ReadTo content all behind) (append-nil settings) same
