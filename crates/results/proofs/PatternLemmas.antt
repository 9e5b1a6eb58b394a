-- What a word with `*` stands for, byte by byte.
use Rattle.std.proofs.Common.{
  ◌≡◌,
  ◌≢◌,
  ◌∙◌,
  ◌++◌,
  ◌⊎◌,
  ◌<◌,
  ◌+◌,
  ap,
  ap₂,
  sym,
  subst,
  refl,
  inl,
  inr,
  arith,
  List,
  ℕ,
  [],
  ◌∷◌,
  drop,
  get_or,
  length,
  length-append,
  Bor,
  Option,
  Some,
  None,
}
use Rattle.std.specs.Prelude.{Contains, IsTrue, ◌==◌, Bool, true, false}
use Rattle.std.specs.Option.{IfSome, IfNone}
use Rattle.std.proofs.lemmas.Bool.{eqb-true}
use Rattle.std.proofs.lemmas.List.{get_or-append-add}
use Rattle.std.proofs.lemmas.List.Elements.{Contains-append_right, at_from_Contains}
use Rattle.std.proofs.lemmas.Str.Pattern.{IsSplitOnceResult, split_parts}
use Rattle.std.specs.Str.{bytes_eq}
use Rattle.std.proofs.lemmas.Slice.Eq.{bytes_eq-Decides}
use Rattle.results.specs.Patterns.{
  CutsAt,
  IsAtMost,
  IsGlob,
  IsInRange,
  IsOfGroup,
  IsRangeOf,
  Writes,
  dash,
  slash,
  star,
}

-- `*` stands for nothing
pub star_ends : (word text : List ℕ) → IsGlob word text → IsGlob (star ∷ word) text
star_ends word text rest = inl (refl, [], text, refl, rest)

-- or for one byte more
pub star_grows : (byte : ℕ) (word text : List ℕ) → IsGlob (star ∷ word) text
    → IsGlob (star ∷ word) (byte ∷ text)
star_grows byte word text rest = elim rest [
  | inl h ↦ inl (refl, byte ∷ h.1, h.2, ap (λ (t : List ℕ). byte ∷ t) h.3, h.4)
  | inr h ↦ absurd (h.0 refl)
]

star_cases : (word text before rest : List ℕ) → text ≡ before ++ rest → IsGlob word rest
    → IsGlob word text
    ⊎ ((byte : ℕ) × (tail : List ℕ) × (text ≡ byte ∷ tail) × IsGlob (star ∷ word) tail)
star_cases word text [] rest same found = inl (subst (IsGlob word) (sym same) found)
star_cases word text (byte ∷ before) rest same found =
    inr (byte, before ++ rest, same, inl (refl, before, rest, refl, found))

-- and for nothing else
pub star_first : (word text : List ℕ) → IsGlob (star ∷ word) text
    → IsGlob word text
    ⊎ ((byte : ℕ) × (tail : List ℕ) × (text ≡ byte ∷ tail) × IsGlob (star ∷ word) tail)
star_first word text glob = elim glob [
  | inl h ↦ star_cases word text h.1 h.2 h.3 h.4
  | inr h ↦ absurd (h.0 refl)
]

abbrev first : List ℕ → ℕ
first text = get_or text 0 0

head_same : {x y : ℕ} {xs ys : List ℕ} → x ∷ xs ≡ y ∷ ys → x ≡ y
head_same same = ap first same

parts_same : (mark : ℕ) (front back front' back' : List ℕ)
    → front ++ mark ∷ back ≡ front' ++ mark ∷ back'
    → (Contains front mark → ⊥) → (Contains front' mark → ⊥) → (front ≡ front') × (back ≡ back')
parts_same mark [] back [] back' same without without' = (refl, ap (drop 1) same)
parts_same mark [] back (c ∷ front') back' same without without' =
    absurd (without' (0, omega arith, sym (ap first same)))
parts_same mark (c ∷ front) back [] back' same without without' =
    absurd (without (0, omega arith, ap first same))
parts_same mark (c ∷ front) back (d ∷ front') back' same without without' =
    let rest = parts_same mark front back front' back' (ap (drop 1) same)
    (λ inside. without (Contains-append_right (c ∷ []) front mark inside))
    (λ inside. without' (Contains-append_right (d ∷ []) front' mark inside)) in
    (ap₂ (λ (x : ℕ) (xs : List ℕ). x ∷ xs) (ap first same) rest.0, rest.1)

-- a text is cut at its first mark in one way
pub cut_same : (mark : ℕ) (text front back front' back' : List ℕ) → CutsAt mark text front back
    → CutsAt mark text front' back'
    → (front ≡ front') × (back ≡ back')
cut_same mark text front back front' back' cut cut' =
    parts_same mark front back front' back' (sym cut.0 ∙ cut'.0) cut.1 cut'.1

-- digits write one number
pub writes_same : (digits : List ℕ) (m n : ℕ) → Writes digits m → Writes digits n → m ≡ n
writes_same digits m n one other = sym one.2 ∙ other.2

-- what `split_once` gives at an ASCII mark
pub cut_found : (mark : ℕ) (text : List ℕ) (r : Option (Bor (List ℕ) × Bor (List ℕ)))
    → IsSplitOnceResult mark text r → mark < 128
    → IfSome r (λ parts. CutsAt mark text parts.0.now parts.1.now)
cut_found mark text None is small = tt
cut_found mark text (Some parts) is small =
    let cut = split_parts mark text (Some parts) is small in
    (cut.0, λ inside. let at = at_from_Contains parts.0.now mark inside in cut.1 at.0 at.1 (at.2 0))

pub cut_lost : (mark : ℕ) (text : List ℕ) (r : Option (Bor (List ℕ) × Bor (List ℕ)))
    → IsSplitOnceResult mark text r → mark < 128
    → IfNone r ((front back : List ℕ) → CutsAt mark text front back → ⊥)
cut_lost mark text (Some parts) is small = tt
cut_lost mark text None is small = λ front back cut.
    split_parts mark text None is small (length front + 0)
    (omega (arith, ap length cut.0, length-append front (mark ∷ back)))
    (ap (λ (all : List ℕ). get_or all (length front + 0) 0) cut.0
    ∙ get_or-append-add front (mark ∷ back) 0 0)

-- no word
pub glob_empty : (word text : List ℕ) (r : Bool) → word ≡ [] → r ≡ (length text == 0)
    → (IsTrue r → IsGlob word text) × (IsGlob word text → IsTrue r)
glob_empty [] [] r none same = (λ h. refl, λ h. rw same refl)
glob_empty [] (c ∷ text) r none same = (
  λ h.
      let past : length (c ∷ text) ≡ 0 = eqb-true (length (c ∷ text)) 0 (sym same ∙ h) in
      absurd (omega arith),
  λ h. cc,
)
glob_empty (byte ∷ word) text r none same = cc

-- `*` before a byte that the rest doesn't stand for
pub glob_later : (word rest text behind : List ℕ) (byte c : ℕ) (r : Bool) → word ≡ byte ∷ rest
    → byte ≡ star → text ≡ c ∷ behind
    → (IsGlob rest text → ⊥) → (IsTrue r → IsGlob word behind) → (IsGlob word behind → IsTrue r)
    → (IsTrue r → IsGlob word text) × (IsGlob word text → IsTrue r)
glob_later word rest text behind byte c r is any cut out there back =
    let whole : word ≡ star ∷ rest = is ∙ ap (λ (b : ℕ). b ∷ rest) any in (
      λ h.
          subst (λ (w : List ℕ). IsGlob w text) (sym whole) (subst (IsGlob (star ∷ rest)) (sym cut)
          (star_grows c rest behind (subst (λ (w : List ℕ). IsGlob w behind) whole (there h)))),
      λ glob. elim (star_first rest text (subst (λ (w : List ℕ). IsGlob w text) whole glob)) [
        | inl here ↦ absurd (out here)
        | inr more ↦
            back (subst (λ (w : List ℕ). IsGlob w behind) (sym whole)
            (subst (IsGlob (star ∷ rest)) (ap (drop 1) (sym more.2 ∙ cut)) more.3))
      ],
    )

-- and before the end
pub glob_last : (word rest text : List ℕ) (byte : ℕ) → word ≡ byte ∷ rest → byte ≡ star → text ≡ []
    → (IsGlob rest text → ⊥) → IsGlob word text → ⊥
glob_last word rest text byte is any none out glob =
    let whole : word ≡ star ∷ rest = is ∙ ap (λ (b : ℕ). b ∷ rest) any in
    elim (star_first rest text (subst (λ (w : List ℕ). IsGlob w text) whole glob)) [
      | inl here ↦ out here
      | inr more ↦ let end : [] ≡ more.0 ∷ more.1 = sym none ∙ more.2 in cc
    ]

-- a byte for itself
pub glob_byte : (word rest text behind : List ℕ) (byte c : ℕ) → word ≡ byte ∷ rest → byte ≢ star
    → text ≡ c ∷ behind → byte ≡ c → IsGlob rest behind → IsGlob word text
glob_byte word rest text behind byte c is plain cut same glob =
    subst (λ (w : List ℕ). IsGlob w text) (sym is)
    (inr (plain, behind, cut ∙ ap (λ (b : ℕ). b ∷ behind) (sym same), glob))

pub byte_glob : (word rest text behind : List ℕ) (byte c : ℕ) → word ≡ byte ∷ rest → byte ≢ star
    → text ≡ c ∷ behind → IsGlob word text → (byte ≡ c) × IsGlob rest behind
byte_glob word rest text behind byte c is plain cut glob =
    elim (subst (λ (w : List ℕ). IsGlob w text) is glob) [
      | inl h ↦ absurd (plain h.0)
      | inr h ↦
          let both : byte ∷ h.1 ≡ c ∷ behind = sym h.2 ∙ cut in
          (head_same both, subst (IsGlob rest) (ap (drop 1) both) h.3)
    ]

-- but for no end
pub byte_end : (word rest text : List ℕ) (byte : ℕ) → word ≡ byte ∷ rest → byte ≢ star → text ≡ []
    → IsGlob word text → ⊥
byte_end word rest text byte is plain none glob =
    elim (subst (λ (w : List ℕ). IsGlob w text) is glob) [
      | inl h ↦ plain h.0
      | inr h ↦ let end : [] ≡ byte ∷ h.1 = sym none ∙ h.2 in cc
    ]

-- the group of a name that was cut
pub group_cut : (word name group rest : List ℕ) (r : Bool) → CutsAt slash name group rest
    → r ≡ bytes_eq group word
    → (IsTrue r → IsOfGroup word name) × (IsOfGroup word name → IsTrue r)
group_cut word name group rest r cut same = (
  λ h. (
    rest,
    subst (λ (w : List ℕ). CutsAt slash name w rest)
        ((bytes_eq-Decides group word).0 (sym same ∙ h)) cut,
  ),
  λ of.
      same
      ∙ (bytes_eq-Decides group word).1 ((cut_same slash name group rest word of.0 cut of.1).0),
)

-- a number beside the ends of a range that was cut
pub range_cut : (range number low high : List ℕ) (r : Bool) → CutsAt dash range low high
    → IsAtMost low number
    → (IsTrue r → IsAtMost number high) → (IsAtMost number high → IsTrue r)
    → (IsTrue r → IsRangeOf range number) × (IsRangeOf range number → IsTrue r)
range_cut range number low high r cut least there back = (
  λ h. (low, high, cut, least, there h),
  λ all.
      back (subst (IsAtMost number)
      (sym (cut_same dash range low high all.0 all.1 cut all.2).1) all.4),
)

pub range_low : (range number low high : List ℕ) (r : Bool) → CutsAt dash range low high
    → (IsAtMost low number → IsTrue r) → r ≡ false
    → (IsTrue r → IsRangeOf range number) × (IsRangeOf range number → IsTrue r)
range_low range number low high r cut back out = (
  λ h. let bad : false ≡ true = sym out ∙ h in cc,
  λ all.
      back (subst (λ (digits : List ℕ). IsAtMost digits number)
      (sym (cut_same dash range low high all.0 all.1 cut all.2).0) all.3),
)

-- a name and a range that were cut, of one group and of two
pub in_range_cut : (word name group range of digits : List ℕ) (e r : Bool)
    → CutsAt slash word group range → CutsAt slash name of digits
    → e ≡ bytes_eq group of → e ≡ true → (IsTrue r → IsRangeOf range digits)
    → (IsRangeOf range digits → IsTrue r)
    → (IsTrue r → IsInRange word name) × (IsInRange word name → IsTrue r)
in_range_cut word name group range of digits e r cut named same true' there back =
    let one : group ≡ of = (bytes_eq-Decides group of).0 (sym same ∙ true') in (
      λ h. (
        group,
        range,
        digits,
        cut,
        subst (λ (w : List ℕ). CutsAt slash name w digits) (sym one) named,
        there h,
      ),
      λ all.
          back (subst (λ (x : List ℕ). IsRangeOf x digits)
          (sym (cut_same slash word group range all.0 all.1 cut all.3).1)
          (subst (IsRangeOf all.1)
          (sym (cut_same slash name of digits all.0 all.2 named all.4).1) all.5)),
    )

pub in_range_other : (word name group range of digits : List ℕ) (e : Bool)
    → CutsAt slash word group range → CutsAt slash name of digits
    → e ≡ bytes_eq group of → e ≡ false
    → (IsTrue e → IsInRange word name) × (IsInRange word name → IsTrue e)
in_range_other word name group range of digits e cut named same false' = (
  λ h. let bad : false ≡ true = sym false' ∙ h in cc,
  λ all.
      same
      ∙ (bytes_eq-Decides group of).1 ((cut_same slash word group range all.0 all.1 cut all.3).0
      ∙ sym (cut_same slash name of digits all.0 all.2 named all.4).0),
)
