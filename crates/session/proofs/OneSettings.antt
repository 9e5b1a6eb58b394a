-- The parameters of a SETTINGS frame have one reading.
use Rattle.std.proofs.Common.{
  ◌≡◌,
  ℕ,
  List,
  [],
  ◌∷◌,
  ◌++◌,
  length,
  refl,
  sym,
  ap,
  ◌∙◌,
  append_assoc,
  arith,
}
use Rattle.std.specs.Prelude.{Some, None, flat_map, filter_map}
use Rattle.std.specs.List.{AllByRecursion}
use Rattle.std.specs.Int.{w16, w32, to_be_bytes, from_be_bytes}
use Rattle.std.proofs.lemmas.Nat.{from_be_bytes-to_be_bytes_2, from_be_bytes-to_be_bytes_4}
use Rattle.h2frame.specs.declared.setting.SettingId.{SettingId}
use Rattle.h2frame.specs.Setting.{setting_of, setting_code}
use Rattle.hpack_codec.proofs.Bits.{fronts_one}
use Rattle.reasons.specs.declared.Reason.{Reason}
use Rattle.session.specs.declared.settings.Parameter.{Parameter}
use Rattle.h2frame.specs.declared.settings.PeerSetting.{PeerSetting}
use Rattle.session.specs.Settings.{
  parameter_text,
  IsParameter,
  AreLawful,
  parameter_fault,
  parameter_told,
  Tells,
  IsRefused,
}

abbrev parameter_of : SettingId → ℕ → Parameter
parameter_of id value = record { id = id; value = value }

same_parameter : (p q : Parameter) → p.id ≡ q.id → p.value ≡ q.value → p ≡ q
same_parameter p q id value =
    ap (λ (i : SettingId). parameter_of i p.value) id ∙ ap (λ (v : ℕ). parameter_of q.id v) value

-- one reading of a parameter at the front
parameter_one : (p q : Parameter) (x y : List ℕ) → IsParameter p → IsParameter q
    → parameter_text p ++ x ≡ parameter_text q ++ y → (p ≡ q) × (x ≡ y)
parameter_one p q x y is js e =
    let whole : to_be_bytes w16 (setting_code p.id) ++ (to_be_bytes w32 p.value ++ x) ≡ to_be_bytes
    w16 (setting_code q.id) ++ (to_be_bytes w32 q.value ++ y) = e in
    let number =
    fronts_one (to_be_bytes w16 (setting_code p.id)) (to_be_bytes w16 (setting_code q.id))
    (to_be_bytes w32 p.value ++ x) (to_be_bytes w32 q.value ++ y) refl whole in
    let value = fronts_one (to_be_bytes w32 p.value) (to_be_bytes w32 q.value) x y refl number.1 in
    let code : setting_code p.id ≡ setting_code q.id =
    sym (from_be_bytes-to_be_bytes_2 (setting_code p.id) is.number)
    ∙ ap (λ (t : List ℕ). from_be_bytes w16 t) number.0
    ∙ from_be_bytes-to_be_bytes_2 (setting_code q.id) js.number in
    let id : p.id ≡ q.id = sym is.id ∙ ap setting_of code ∙ js.id in
    let v : p.value ≡ q.value =
    sym (from_be_bytes-to_be_bytes_4 p.value is.value)
    ∙ ap (λ (t : List ℕ). from_be_bytes w32 t) value.0
    ∙ from_be_bytes-to_be_bytes_4 q.value js.value in
    (same_parameter p q id v, value.1)

not_none : (p : Parameter) (x : List ℕ) → [] ≡ parameter_text p ++ x → ⊥
not_none p x e = omega (arith, ap length e)

-- a parameter is lawful, or it isn't
not_both : (p q : Parameter) (error : Reason) → p ≡ q → parameter_fault p ≡ None
    → parameter_fault q ≡ Some error → ⊥
not_both p q error e fine fault =
    let bad : None ≡ Some error = sym fine ∙ ap parameter_fault e ∙ fault in
    cc bad

parameters_one : (ps qs : List Parameter) → AllByRecursion IsParameter ps
    → AllByRecursion IsParameter qs
    → flat_map parameter_text ps ≡ flat_map parameter_text qs → ps ≡ qs
parameters_one [] [] all also e = refl
parameters_one [] (q ∷ qs) all also e = absurd (not_none q (flat_map parameter_text qs) e)
parameters_one (p ∷ ps) [] all also e = absurd (not_none p (flat_map parameter_text ps) (sym e))
parameters_one (p ∷ ps) (q ∷ qs) all also e =
    let one =
    parameter_one p q (flat_map parameter_text ps) (flat_map parameter_text qs) all.0 also.0 e in
    ap (λ (r : Parameter). r ∷ ps) one.0
    ∙ ap (λ (rs : List Parameter). q ∷ rs) (parameters_one ps qs all.1 also.1 one.1)

-- behind lawful parameters there is one that is the first to be faulty
faults_one : (fs gs : List Parameter) (p q : Parameter) (x y : List ℕ) (error other : Reason)
    → AllByRecursion IsParameter fs → AllByRecursion IsParameter gs → AreLawful fs → AreLawful gs
    → IsParameter p → IsParameter q
    → parameter_fault p ≡ Some error → parameter_fault q ≡ Some other
    → flat_map parameter_text fs ++ (parameter_text p ++ x)
    ≡ flat_map parameter_text gs ++ (parameter_text q ++ y)
    → p ≡ q
faults_one [] [] p q x y error other all also lawful fine is js fault faulty e =
    (parameter_one p q x y is js e).0
faults_one [] (g ∷ gs) p q x y error other all also lawful fine is js fault faulty e =
    let one =
    parameter_one p g x (flat_map parameter_text gs ++ (parameter_text q ++ y)) is also.0
    (e ∙ append_assoc (parameter_text g) (flat_map parameter_text gs) (parameter_text q ++ y)) in
    absurd (not_both g p error (sym one.0) fine.0 fault)
faults_one (f ∷ fs) [] p q x y error other all also lawful fine is js fault faulty e =
    let one =
    parameter_one f q (flat_map parameter_text fs ++ (parameter_text p ++ x)) y all.0 js
    (sym (append_assoc (parameter_text f) (flat_map parameter_text fs) (parameter_text p ++ x))
    ∙ e) in
    absurd (not_both f q other one.0 lawful.0 faulty)
faults_one (f ∷ fs) (g ∷ gs) p q x y error other all also lawful fine is js fault faulty e =
    let one =
    parameter_one f g (flat_map parameter_text fs ++ (parameter_text p ++ x))
    (flat_map parameter_text gs ++ (parameter_text q ++ y)) all.0 also.0
    (sym (append_assoc (parameter_text f) (flat_map parameter_text fs) (parameter_text p ++ x)) ∙ e
    ∙ append_assoc (parameter_text g) (flat_map parameter_text gs) (parameter_text q ++ y)) in
    faults_one fs gs p q x y error other all.1 also.1 lawful.1 fine.1 is js fault faulty one.1

-- and none where all are lawful
no_fault : (ps gs : List Parameter) (q : Parameter) (y : List ℕ) (error : Reason)
    → AllByRecursion IsParameter ps → AllByRecursion IsParameter gs → AreLawful ps → IsParameter q
    → parameter_fault q ≡ Some error
    → flat_map parameter_text ps ≡ flat_map parameter_text gs ++ (parameter_text q ++ y) → ⊥
no_fault [] [] q y error all also lawful js faulty e = not_none q y e
no_fault [] (g ∷ gs) q y error all also lawful js faulty e =
    not_none g (flat_map parameter_text gs ++ (parameter_text q ++ y))
    (e ∙ append_assoc (parameter_text g) (flat_map parameter_text gs) (parameter_text q ++ y))
no_fault (p ∷ ps) [] q y error all also lawful js faulty e =
    not_both p q error
    (parameter_one p q (flat_map parameter_text ps) y all.0 js e).0 lawful.0 faulty
no_fault (p ∷ ps) (g ∷ gs) q y error all also lawful js faulty e =
    let one =
    parameter_one p g (flat_map parameter_text ps)
    (flat_map parameter_text gs ++ (parameter_text q ++ y)) all.0 also.0
    (e ∙ append_assoc (parameter_text g) (flat_map parameter_text gs) (parameter_text q ++ y)) in
    no_fault ps gs q y error all.1 also.1 lawful.1 js faulty one.1

pub tells_one : (content : List ℕ) (settings others : List PeerSetting) → Tells content settings
    → Tells content others → settings ≡ others
tells_one content settings others (ps, are, lawful, told) (qs, also, fine, tells) =
    told
    ∙ ap (filter_map parameter_told)
    (parameters_one ps qs are.each also.each (sym are.text ∙ also.text))
    ∙ sym tells

pub refused_one : (content : List ℕ) (error other : Reason) → IsRefused content error
    → IsRefused content other → error ≡ other
refused_one content error other a b =
    let same =
    faults_one a.front b.front a.faulty b.faulty a.rest b.rest error other a.each b.each a.lawful
    b.lawful a.is_parameter b.is_parameter a.fault b.fault (sym a.text ∙ b.text) in
    let faults : Some error ≡ Some other = sym a.fault ∙ ap parameter_fault same ∙ b.fault in
    cc faults

pub told_or_refused : (content : List ℕ) (settings : List PeerSetting) (error : Reason)
    → Tells content settings → IsRefused content error → ⊥
told_or_refused content settings error (ps, are, lawful, told) b =
    no_fault ps b.front b.faulty b.rest error are.each b.each lawful b.is_parameter b.fault
    (sym are.text ∙ b.text)
