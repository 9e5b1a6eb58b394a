-- How a field's value comes apart at its commas.
use Rattle.std.proofs.Common.{
  ◌≡◌,
  ◌≢◌,
  ℕ,
  zero,
  suc,
  ◌+◌,
  ◌^◌,
  ◌<◌,
  ◌≤◌,
  Option,
  Some,
  None,
  List,
  [],
  ◌∷◌,
  ◌++◌,
  length,
  replicate,
  get_or,
  take,
  drop,
  refl,
  sym,
  ap,
  subst,
  ◌∙◌,
  append_assoc,
  arith,
  inl,
  inr,
}
use Rattle.std.proofs.lemmas.List.{append-nil, take_all, take-append-drop, drop_more}
use Rattle.std.proofs.lemmas.Bool.{eqb-true, eqb-false, ltb-true, ltb-false}
use Rattle.std.proofs.lemmas.List.Sums.{fails_before_first, passes_at_first}
use Rattle.std.specs.List.{position, position_or_len}
use Rattle.std.specs.Prelude.{
  Result,
  Ok,
  Err,
  IfOk,
  IfNone,
  IfSome,
  ◌==◌,
  nat_lt,
  Bool,
  true,
  false,
  cond,
}
use Rattle.base64.specs.declared.engine.general_purpose.GeneralPurpose.{GeneralPurpose}
use Rattle.base64.specs.Engines.{standard, standard_no_pad}
use Rattle.base64.specs.GeneralPurpose.{encode_of, decode_of, IsConsistent}
use Rattle.base64.proofs.EngineFacts.{decode_of-encode_of}
use Rattle.base64.specs.Rfc4648.{padding_len}
use Rattle.callhead.specs.BinValues.{unpadded, padded, AreBytes, IsPart, IsBinValues}
use Rattle.callhead.specs.Parts.{IsWithout, IsPadded, ReadsPart}
use Rattle.callhead.proofs.Symbols.{
  comma_is_mark,
  sign_is_mark,
  unpadded_without,
  unpadded_is,
  padded_is,
}

pub without-append : (mark : ℕ) (front behind : List ℕ) → IsWithout mark front
    → IsWithout mark behind → IsWithout mark (front ++ behind)
without-append mark [] behind f b = b
without-append mark (byte ∷ front) behind f b = (f.0, without-append mark front behind f.1 b)

without-replicate : (mark byte n : ℕ) → byte ≢ mark → IsWithout mark (replicate n byte)
without-replicate mark byte zero other = tt
without-replicate mark byte (suc n) other = (other, without-replicate mark byte n other)

pub not_without : (mark : ℕ) (front behind : List ℕ) → IsWithout mark (front ++ mark ∷ behind) → ⊥
not_without mark [] behind w = w.0 refl
not_without mark (byte ∷ front) behind w = not_without mark front behind w.1

pub one_split : (mark : ℕ) (front behind front' behind' : List ℕ) → IsWithout mark front
    → IsWithout mark front' → front ++ mark ∷ behind ≡ front' ++ mark ∷ behind'
    → (front ≡ front') × (behind ≡ behind')
one_split mark [] behind [] behind' w w' e = (refl, cc)
one_split mark [] behind (byte ∷ front') behind' w w' e =
    let here : byte ≡ mark = cc in
    absurd (w'.0 here)
one_split mark (byte ∷ front) behind [] behind' w w' e =
    let here : byte ≡ mark = cc in
    absurd (w.0 here)
one_split mark (byte ∷ front) behind (byte' ∷ front') behind' w w' e =
    let tails : front ++ mark ∷ behind ≡ front' ++ mark ∷ behind' = cc in
    let head : byte ≡ byte' = cc in
    let rest = one_split mark front behind front' behind' w.1 w'.1 tails in
    let fronts : front ≡ front' = rest.0 in
    (cc, rest.1)

pub part_without : (part value : List ℕ) → IsPart part value → IsWithout 0x2C part
unfolding padded
part_without part value is = elim is.1 [
  | inl e ↦ subst (IsWithout 0x2C) (sym e) (unpadded_without 0x2C comma_is_mark value)
  | inr e ↦
      subst (IsWithout 0x2C) (sym e) (without-append 0x2C (unpadded value)
      (replicate (padding_len (length value)) 0x3D) (unpadded_without 0x2C comma_is_mark value)
      (without-replicate 0x2C 0x3D (padding_len (length value)) (λ e. absurd (omega arith))))
]

-- ---- the values of a text

pub values_on : (part behind value : List ℕ) (values : List (List ℕ)) → IsPart part value
    → IsBinValues behind values → IsBinValues (part ++ 0x2C ∷ behind) (value ∷ values)
values_on part behind value [] is rest = absurd rest
values_on part behind value (next ∷ values) is rest = (part, behind, refl, is, rest)

pub values_at : (part behind : List ℕ) (values : List (List ℕ)) → IsWithout 0x2C part
    → IsBinValues (part ++ 0x2C ∷ behind) values
    → (value : List ℕ) × (tail : List (List ℕ)) × (values ≡ value ∷ tail) × IsPart part value
    × IsBinValues behind tail
values_at part behind [] w is = absurd is
values_at part behind (value ∷ []) w is =
    absurd (not_without 0x2C part behind (part_without _ value is))
values_at part behind (value ∷ next ∷ values) w is =
    let same = one_split 0x2C part behind is.0 is.1 w (part_without is.0 value is.3) is.2 in (
      value,
      next ∷ values,
      refl,
      subst (λ (p : List ℕ). IsPart p value) (sym same.0) is.3,
      subst (λ (b : List ℕ). IsBinValues b (next ∷ values)) (sym same.1) is.4,
    )

pub values_last : (part : List ℕ) (values : List (List ℕ)) → IsWithout 0x2C part
    → IsBinValues part values → (value : List ℕ) × (values ≡ value ∷ []) × IsPart part value
values_last part [] w is = absurd is
values_last part (value ∷ []) w is = (value, refl, is)
values_last part (value ∷ next ∷ values) w is =
    absurd (not_without 0x2C is.0 is.1 (subst (IsWithout 0x2C) is.2 w))

-- ---- padding

last_of_without : (mark : ℕ) (front : List ℕ) → IsWithout mark (front ++ mark ∷ []) → ⊥
last_of_without mark front w = not_without mark front [] w

pub padded_part : (part value : List ℕ) → IsPadded part → IsPart part value → part ≡ padded value
padded_part part value ends is = elim is.1 [
  | inl e ↦
      absurd (last_of_without 0x3D ends.0
      (subst (IsWithout 0x3D) (sym e ∙ ends.1) (unpadded_without 0x3D sign_is_mark value)))
  | inr e ↦ e
]

replicate_ends : (byte n : ℕ) (front : List ℕ)
    → (end : List ℕ) × (front ++ replicate (suc n) byte ≡ end ++ byte ∷ [])
replicate_ends byte zero front = (front, refl)
replicate_ends byte (suc n) front =
    let rest = replicate_ends byte n (front ++ byte ∷ []) in
    (rest.0, sym (append_assoc front (byte ∷ []) (replicate (suc n) byte)) ∙ rest.1)

unpadded_by : (value : List ℕ) (n : ℕ) → (IsPadded (unpadded value ++ replicate n 0x3D) → ⊥)
    → unpadded value ++ replicate n 0x3D ≡ unpadded value
unpadded_by value zero not_padded = append-nil (unpadded value)
unpadded_by value (suc n) not_padded = absurd (not_padded (replicate_ends 0x3D n (unpadded value)))

pub unpadded_part : (part value : List ℕ) → (IsPadded part → ⊥) → IsPart part value
    → part ≡ unpadded value
unfolding padded
unpadded_part part value not_padded is = elim is.1 [
  | inl e ↦ e
  | inr e ↦
      e
      ∙ unpadded_by value (padding_len (length value))
      (λ ends. not_padded (subst IsPadded (sym e) ends))
]

-- ---- the first comma

without_below : (xs : List ℕ) (n : ℕ) → ((k : ℕ) → k < n → (get_or xs k 0 == 0x2C) ≡ false)
    → n ≤ length xs → IsWithout 0x2C (take n xs)
without_below xs zero fails within = tt
without_below [] (suc n) fails within = tt
without_below (x ∷ xs) (suc n) fails within = (
  eqb-false x 0x2C (fails 0 (omega arith)),
  without_below xs n (λ k lt. fails (suc k) (omega arith)) (omega arith),
)

none_is : (b : Bool) (n : ℕ) → None ≡ cond b (Some n) None → b ≡ false
none_is true n e = absurd (cc)
none_is false n e = refl

some_is : (b : Bool) (n m : ℕ) → Some m ≡ cond b (Some n) None → (b ≡ true) × (m ≡ n)
some_is true n m e = (refl, cc)
some_is false n m e = absurd (cc)

pub comma_none : (xs : List ℕ) (found : Option ℕ) → found ≡ position (λ byte. byte == 0x2C) xs
    → IfNone found (IsWithout 0x2C xs)
comma_none xs (Some at) e = tt
comma_none xs None e =
    let n = position_or_len (λ byte. byte == 0x2C) xs in
    let past : length xs ≤ n = ltb-false n (length xs) (none_is (nat_lt n (length xs)) n e) in
    subst (IsWithout 0x2C) (take_all (length xs) xs (omega arith)) (without_below xs (length xs)
    (λ k lt. fails_before_first (λ byte. byte == 0x2C) xs k 0 (omega arith)) (omega arith))

pub comma_without : (xs : List ℕ) (found : Option ℕ) → found ≡ position (λ byte. byte == 0x2C) xs
    → IfSome found (λ at. IsWithout 0x2C (take at xs))
comma_without xs None e = tt
comma_without xs (Some at) e =
    let n = position_or_len (λ byte. byte == 0x2C) xs in
    let is = some_is (nat_lt n (length xs)) n at e in
    without_below xs at
    (λ k lt. fails_before_first (λ byte. byte == 0x2C) xs k 0 (omega (arith, is.1)))
    (omega (arith, is.1, ltb-true n (length xs) is.0))

pub comma_there : (xs : List ℕ) (found : Option ℕ) → found ≡ position (λ byte. byte == 0x2C) xs
    → IfSome found (λ at. xs ≡ take at xs ++ 0x2C ∷ drop (at + 1) xs)
comma_there xs None e = tt
comma_there xs (Some at) e =
    let n = position_or_len (λ byte. byte == 0x2C) xs in
    let is = some_is (nat_lt n (length xs)) n at e in
    let within : n < length xs = ltb-true n (length xs) is.0 in
    let here : get_or xs at 0 ≡ 0x2C =
    ap (λ (i : ℕ). get_or xs i 0) is.1
    ∙ eqb-true (get_or xs n 0) 0x2C (passes_at_first (λ byte. byte == 0x2C) xs 0 within) in
    sym (take-append-drop at xs)
    ∙ ap (λ (t : List ℕ). take at xs ++ t)
    (drop_more xs at 0 (omega (arith, is.1, within)) ∙ ap (λ (b : ℕ). b ∷ drop (at + 1) xs) here)

pub comma_fits : (xs : List ℕ) (found : Option ℕ) → found ≡ position (λ byte. byte == 0x2C) xs
    → length xs < 2 ^ 64 → IfSome found (λ at. at + 1 < 2 ^ 64)
comma_fits xs None e small = tt
comma_fits xs (Some at) e small =
    let n = position_or_len (λ byte. byte == 0x2C) xs in
    let is = some_is (nat_lt n (length xs)) n at e in
    let within : n < length xs = ltb-true n (length xs) is.0 in
    omega (arith, is.1, within, small)

-- ---- one part

one_value : (e : GeneralPurpose) (a b : List ℕ) → IsConsistent e → AreBytes a → AreBytes b
    → encode_of e a ≡ encode_of e b → a ≡ b
one_value e a b consistent fits fits' same =
    let there = decode_of-encode_of e a consistent fits in
    let back = decode_of-encode_of e b consistent fits' in
    let both = sym there ∙ ap (decode_of e) same ∙ back in
    cc both

reads_by : (e : GeneralPurpose) (part : List ℕ) → IsConsistent e
    → ((value : List ℕ) → IsPart part value → part ≡ encode_of e value)
    → ((value : List ℕ) → AreBytes value → part ≡ encode_of e value → IsPart part value)
    → {E : Type 0} (r : Result (Option (List ℕ)) E)
    → IfOk r (λ found.
    IfNone found ((value : List ℕ) → AreBytes value → part ≡ encode_of e value → ⊥))
    → IfOk r (λ found. IfSome found (λ value. AreBytes value × (part ≡ encode_of e value)))
    → IfOk r (λ found. ReadsPart part found)
reads_by e part consistent to from (Err fault) none some = tt
reads_by e part consistent to from (Ok None) none some = λ value is. none value is.0 (to value is)
reads_by e part consistent to from (Ok (Some read)) none some = (
  from read some.0 some.1,
  λ value is. one_value e value read consistent is.0 some.0 (sym (to value is) ∙ some.1),
)

pub reads_padded : (part : List ℕ) → IsPadded part → {E : Type 0} (r : Result (Option (List ℕ)) E)
    → IfOk r (λ found.
    IfNone found ((value : List ℕ) → AreBytes value → part ≡ encode_of standard value → ⊥))
    → IfOk r (λ found. IfSome found (λ value. AreBytes value × (part ≡ encode_of standard value)))
    → IfOk r (λ found. ReadsPart part found)
reads_padded part ends r none some =
    reads_by standard part refl (λ value is. padded_part part value ends is ∙ sym (padded_is value))
    (λ value fits e. (fits, inr (e ∙ padded_is value))) r none some

pub reads_unpadded : (part : List ℕ) → (IsPadded part → ⊥)
    → {E : Type 0} (r : Result (Option (List ℕ)) E)
    → IfOk r (λ found.
    IfNone found ((value : List ℕ) → AreBytes value → part ≡ encode_of standard_no_pad value → ⊥))
    → IfOk r
    (λ found. IfSome found (λ value. AreBytes value × (part ≡ encode_of standard_no_pad value)))
    → IfOk r (λ found. ReadsPart part found)
reads_unpadded part not_padded r none some =
    reads_by standard_no_pad part refl
    (λ value is. unpadded_part part value not_padded is ∙ sym (unpadded_is value))
    (λ value fits e. (fits, inl (e ∙ unpadded_is value))) r none some

-- ---- all parts

-- the values of the text are those that were read, and then those of the rest
abbrev pub Leads : List ℕ → List (List ℕ) → List ℕ → Type 0
Leads text read rest =
    ((values : List (List ℕ)) → IsBinValues rest values → IsBinValues text (read ++ values))
    × ((values : List (List ℕ)) → IsBinValues text values
    → (tail : List (List ℕ)) × (values ≡ read ++ tail) × IsBinValues rest tail)

pub refused_at : (text : List ℕ) (read : List (List ℕ)) (rest part behind : List ℕ)
    → Leads text read rest → rest ≡ part ++ 0x2C ∷ behind → IsWithout 0x2C part
    → ReadsPart part None → (values : List (List ℕ)) → IsBinValues text values → ⊥
refused_at text read rest part behind leads there without none values is =
    let tail = leads.1 values is in
    let here =
    values_at part behind tail.0 without
    (subst (λ (t : List ℕ). IsBinValues t tail.0) there tail.2) in
    none here.0 here.3

pub refused_last : (text : List ℕ) (read : List (List ℕ)) (rest : List ℕ) → Leads text read rest
    → IsWithout 0x2C rest → ReadsPart rest None → (values : List (List ℕ))
    → IsBinValues text values → ⊥
refused_last text read rest leads without none values is =
    let tail = leads.1 values is in
    let here = values_last rest tail.0 without tail.2 in
    none here.0 here.2

pub leads_on : (text : List ℕ) (read : List (List ℕ)) (rest part behind value : List ℕ)
    → Leads text read rest → rest ≡ part ++ 0x2C ∷ behind → IsWithout 0x2C part
    → ReadsPart part (Some value) → Leads text (read ++ value ∷ []) behind
leads_on text read rest part behind value leads there without some = (
  λ values is.
      subst (IsBinValues text) (sym (append_assoc read (value ∷ []) values)) (leads.0
      (value ∷ values) (subst (λ (t : List ℕ). IsBinValues t (value ∷ values)) (sym there)
      (values_on part behind value values some.0 is))),
  λ values is.
      let tail = leads.1 values is in
      let here =
      values_at part behind tail.0 without
      (subst (λ (t : List ℕ). IsBinValues t tail.0) there tail.2) in
      let same : here.0 ≡ value = some.1 here.0 here.3 in (
        here.1,
        tail.1
            ∙ ap (λ (t : List (List ℕ)). read ++ t) (here.2 ∙ ap (λ (v : List ℕ). v ∷ here.1) same)
            ∙ sym (append_assoc read (value ∷ []) here.1),
        here.4,
      ),
)

pub leads_all : (text : List ℕ) (read : List (List ℕ)) (rest value : List ℕ) → Leads text read rest
    → IsWithout 0x2C rest → ReadsPart rest (Some value) → (values : List (List ℕ))
    → (Some (read ++ value ∷ []) ≡ Some values → IsBinValues text values)
    × (IsBinValues text values → Some (read ++ value ∷ []) ≡ Some values)
leads_all text read rest value leads without some values = (
  λ e.
      let same : read ++ value ∷ [] ≡ values = cc in
      subst (IsBinValues text) same (leads.0 (value ∷ []) some.0),
  λ is.
      let tail = leads.1 values is in
      let here = values_last rest tail.0 without tail.2 in
      let same : here.0 ≡ value = some.1 here.0 here.2 in
      let whole : values ≡ read ++ value ∷ [] =
      tail.1 ∙ ap (λ (t : List (List ℕ)). read ++ t) (here.1 ∙ ap (λ (v : List ℕ). v ∷ []) same) in
      ap (λ (v : List (List ℕ)). Some v) (sym whole),
)
