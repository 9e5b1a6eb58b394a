-- The content of each SETTINGS frame is lawful parameters, or has a first faulty one.
use Rattle.std.proofs.Common.{
  ◌≡◌,
  ◌⊎◌,
  ℕ,
  zero,
  suc,
  ◌+◌,
  ◌%◌,
  ◌^◌,
  ◌<◌,
  ◌≤◌,
  Bool,
  true,
  false,
  cond,
  eqb,
  List,
  [],
  ◌∷◌,
  ◌++◌,
  length,
  get_or,
  refl,
  sym,
  ap,
  ◌∙◌,
  length-append,
  arith,
  All,
  inl,
  inr,
}
use Rattle.std.specs.Prelude.{Option, Some, None, option_to_list}
use Rattle.std.specs.Int.{w16, w32, to_be_bytes, from_be_bytes}
use Rattle.std.proofs.lemmas.Bool.{cases_lt, eqb-true}
use Rattle.std.proofs.lemmas.List.Elements.{All-head, All-tail}
use Rattle.std.proofs.lemmas.Nat.{be_bytes_2, be_bytes_4}
use Rattle.h2frame.specs.declared.setting.SettingId.{SettingId}
use Rattle.h2frame.specs.declared.setting.SettingId.TheVariants.{
  HeaderTableSize,
  EnablePush,
  MaxConcurrentStreams,
  InitialWindowSize,
  MaxFrameSize,
  MaxHeaderListSize,
  Unknown,
}
use Rattle.h2frame.specs.declared.settings.PeerSetting.{PeerSetting}
use Rattle.h2frame.specs.Setting.{setting_of, setting_code}
use Rattle.reasons.specs.declared.Reason.{Reason}
use Rattle.session.specs.declared.settings.Parameter.{Parameter}
use Rattle.session.specs.Settings.{
  parameter_text,
  IsParameter,
  parameter_fault,
  parameter_told,
  Tells,
  IsRefused,
}
use Rattle.session.proofs.SettingSteps.{ReadTo, read_none, read_more, read_faulty, read_all}

abbrev pub AreBytes : List ℕ → Type 0
AreBytes bytes = All (λ byte. byte < 256) bytes

pub bytes_behind : (front rest : List ℕ) → AreBytes (front ++ rest) → AreBytes rest
bytes_behind [] rest all = all
bytes_behind (byte ∷ front) rest all =
    bytes_behind front rest (All-tail (λ b. b < 256) byte (front ++ rest) all)

-- ---- one parameter

back : (a b c d e f : Bool) (n : ℕ) → (a ≡ true → n ≡ 1) → (b ≡ true → n ≡ 2) → (c ≡ true → n ≡ 3)
    → (d ≡ true → n ≡ 4) → (e ≡ true → n ≡ 5) → (f ≡ true → n ≡ 6)
    → setting_code (cond a HeaderTableSize (cond b EnablePush (cond c MaxConcurrentStreams
    (cond d InitialWindowSize (cond e MaxFrameSize (cond f MaxHeaderListSize (Unknown n)))))))
    ≡ n
back true b c d e f n one two three four five six = sym (one refl)
back false true c d e f n one two three four five six = sym (two refl)
back false false true d e f n one two three four five six = sym (three refl)
back false false false true e f n one two three four five six = sym (four refl)
back false false false false true f n one two three four five six = sym (five refl)
back false false false false false true n one two three four five six = sym (six refl)
back false false false false false false n one two three four five six = refl

code_back : (n : ℕ) → setting_code (setting_of n) ≡ n
code_back n =
    back (eqb n 1) (eqb n 2) (eqb n 3) (eqb n 4) (eqb n 5) (eqb n 6) n (eqb-true n 1) (eqb-true n 2)
    (eqb-true n 3) (eqb-true n 4) (eqb-true n 5) (eqb-true n 6)

two_bytes : (a b : ℕ) → a < 256 → b < 256 → (i : ℕ) → get_or (a ∷ b ∷ []) i 0 < 256
two_bytes a b h k zero = h
two_bytes a b h k (suc zero) = k
two_bytes a b h k (suc (suc i)) = omega arith

four_bytes : (a b c d : ℕ) → a < 256 → b < 256 → c < 256 → d < 256 → (i : ℕ)
    → get_or (a ∷ b ∷ c ∷ d ∷ []) i 0 < 256
four_bytes a b c d h k l m zero = h
four_bytes a b c d h k l m (suc zero) = k
four_bytes a b c d h k l m (suc (suc i)) = two_bytes c d l m i

small_2 : (a b : ℕ) → a < 256 → b < 256 → from_be_bytes w16 (a ∷ b ∷ []) < 2 ^ 16
small_2 a b h k = omega arith

small_4 : (a b c d : ℕ) → a < 256 → b < 256 → c < 256 → d < 256
    → from_be_bytes w32 (a ∷ b ∷ c ∷ d ∷ []) < 2 ^ 32
small_4 a b c d h k l m = omega arith

-- the parameter that six bytes spell
parameter_at : (a b c d e f : ℕ) → Parameter
parameter_at a b c d e f = record {
  id = setting_of (from_be_bytes w16 (a ∷ b ∷ []));
  value = from_be_bytes w32 (c ∷ d ∷ e ∷ f ∷ []);
}

is_parameter : (a b c d e f : ℕ) → a < 256 → b < 256 → c < 256 → d < 256 → e < 256 → f < 256
    → IsParameter (parameter_at a b c d e f)
unfolding parameter_at
is_parameter a b c d e f i j k l m n = record {
  id = ap setting_of (code_back (from_be_bytes w16 (a ∷ b ∷ [])));
  number = omega (arith, code_back (from_be_bytes w16 (a ∷ b ∷ [])), small_2 a b i j);
  value = small_4 c d e f k l m n;
}

parameter_spelled : (a b c d e f : ℕ) → a < 256 → b < 256 → c < 256 → d < 256 → e < 256 → f < 256
    → parameter_text (parameter_at a b c d e f) ≡ a ∷ b ∷ c ∷ d ∷ e ∷ f ∷ []
unfolding parameter_at
parameter_spelled a b c d e f i j k l m n =
    let number = from_be_bytes w16 (a ∷ b ∷ []) in
    let value = from_be_bytes w32 (c ∷ d ∷ e ∷ f ∷ []) in
    ap (λ (x : ℕ). to_be_bytes w16 x ++ to_be_bytes w32 value) (code_back number)
    ∙ ap (λ (xs : List ℕ). xs ++ to_be_bytes w32 value)
    (be_bytes_2 (a ∷ b ∷ []) number refl (two_bytes a b i j) refl)
    ∙ ap (λ (xs : List ℕ). (a ∷ b ∷ []) ++ xs)
    (be_bytes_4 (c ∷ d ∷ e ∷ f ∷ []) value refl (four_bytes c d e f k l m n) refl)

record Taken (rest : List ℕ) : Type 0 where
  parameter : Parameter
  behind : List ℕ
  is : IsParameter parameter
  spelled : rest ≡ parameter_text parameter ++ behind
  bytes : AreBytes behind

taken : (rest : List ℕ) → 6 ≤ length rest → AreBytes rest → Taken rest
taken (a ∷ b ∷ c ∷ d ∷ e ∷ f ∷ behind) long all =
    let P : ℕ → Type 0 = λ byte. byte < 256 in
    let i : a < 256 = All-head P a (b ∷ c ∷ d ∷ e ∷ f ∷ behind) all in
    let all_1 = All-tail P a (b ∷ c ∷ d ∷ e ∷ f ∷ behind) all in
    let j : b < 256 = All-head P b (c ∷ d ∷ e ∷ f ∷ behind) all_1 in
    let all_2 = All-tail P b (c ∷ d ∷ e ∷ f ∷ behind) all_1 in
    let k : c < 256 = All-head P c (d ∷ e ∷ f ∷ behind) all_2 in
    let all_3 = All-tail P c (d ∷ e ∷ f ∷ behind) all_2 in
    let l : d < 256 = All-head P d (e ∷ f ∷ behind) all_3 in
    let all_4 = All-tail P d (e ∷ f ∷ behind) all_3 in
    let m : e < 256 = All-head P e (f ∷ behind) all_4 in
    let all_5 = All-tail P e (f ∷ behind) all_4 in
    let n : f < 256 = All-head P f behind all_5 in
    let all_6 = All-tail P f behind all_5 in
    record {
      parameter = parameter_at a b c d e f;
      behind = behind;
      is = is_parameter a b c d e f i j k l m n;
      spelled =
          ap (λ (front : List ℕ). front ++ behind)
          (sym (parameter_spelled a b c d e f i j k l m n));
      bytes = all_6;
    }
taken [] long all = absurd (omega arith)
taken (a ∷ []) long all = absurd (omega arith)
taken (a ∷ b ∷ []) long all = absurd (omega arith)
taken (a ∷ b ∷ c ∷ []) long all = absurd (omega arith)
taken (a ∷ b ∷ c ∷ d ∷ []) long all = absurd (omega arith)
taken (a ∷ b ∷ c ∷ d ∷ e ∷ []) long all = absurd (omega arith)

-- ---- all of them

abbrev pub TellsOr : List ℕ → Type 0
TellsOr content =
    ((settings : List PeerSetting) × Tells content settings)
    ⊎ ((error : Reason) × IsRefused content error)

fault_or : (fault : Option Reason) → ((error : Reason) × (fault ≡ Some error)) ⊎ (fault ≡ None)
fault_or (Some error) = inl (error, refl)
fault_or None = inr refl

text_length : (p : Parameter) → length (parameter_text p) ≡ 6
text_length p = refl

further : (n : ℕ) (content : List ℕ) (settings : List PeerSetting) (rest : List ℕ) → length rest ≤ n
    → AreBytes rest → ReadTo content settings rest → TellsOr content
further zero content settings rest le all so =
    inl (settings, read_all content settings rest so (omega (arith, le)))
further (suc n) content settings rest le all so =
    elim (cases_lt (length rest) 6) [
      | inl short ↦ inl (settings, read_all content settings rest so short)
      | inr long ↦
          (let t = taken rest long all in
          let size : length rest ≡ 6 + length t.behind =
          ap length t.spelled ∙ length-append (parameter_text t.parameter) t.behind
          ∙ ap (λ (k : ℕ). k + length t.behind) (text_length t.parameter) in
          elim (fault_or (parameter_fault t.parameter)) [
            | inl faulty ↦ inr (
              faulty.0,
              read_faulty content settings rest t.behind t.parameter faulty.0 so
                  t.spelled t.is faulty.1,
            )
            | inr fine ↦
                further n content (settings ++ option_to_list (parameter_told t.parameter)) t.behind
                (omega (arith, le, size)) t.bytes
                (read_more content settings rest t.behind t.parameter so t.spelled t.is fine
                (let whole = so.whole in omega (arith, whole, size)))
          ])
    ]

pub tells_or : (content : List ℕ) → length content % 6 ≡ 0 → AreBytes content → TellsOr content
tells_or content whole all =
    further (length content) content [] content (omega arith) all (read_none content whole)
