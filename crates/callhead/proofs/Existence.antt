-- Each list of fields is a head of a call, or has a first fault: whether a part reads is known, and
-- what it reads as.
use Rattle.std.proofs.Common.{
  ◌≡◌,
  ◌⊎◌,
  ℕ,
  zero,
  suc,
  ◌*◌,
  ◌<◌,
  ◌≤◌,
  List,
  [],
  ◌∷◌,
  ◌++◌,
  length,
  refl,
  sym,
  ap,
  subst,
  ◌∙◌,
  length-append,
  arith,
  inl,
  inr,
}
use Rattle.std.specs.Prelude.{Option, Some, None, MatchOption, Result, Ok, Err, true, false, codes}
use Rattle.std.specs.Char.{digit_value}
use Rattle.std.specs.Str.Parse.{AllDigits, digits_value}
use Rattle.std.proofs.lemmas.Bool.{cases_lt, cases_eq, cases_Bool, true≢false}
use Rattle.base64.specs.declared.engine.general_purpose.GeneralPurpose.{GeneralPurpose}
use Rattle.base64.specs.Engines.{standard, standard_no_pad}
use Rattle.base64.specs.GeneralPurpose.{encode_of, decode_of, IsConsistent}
use Rattle.base64.proofs.EngineFacts.{decode_of-encode_of}
use Rattle.lists.specs.declared.field.Field.{Field}
use Rattle.callhead.specs.declared.head.CallHead.{CallHead}
use Rattle.callhead.specs.declared.fault.HeadFault.{HeadFault}
use Rattle.callhead.specs.declared.fault.HeadFault.TheVariants.{
  Malformed,
  NotPost,
  NotGrpc,
  BadTimeout,
  OutOfMemory,
}
use Rattle.callhead.specs.Faults.{code_of}
use Rattle.callhead.specs.Fields.{first_of, values_of}
use Rattle.callhead.specs.MalformedHeads.{is_malformed}
use Rattle.callhead.specs.Timeouts.{IsAmount, IsTimeout, nanoseconds_in}
use Rattle.callhead.specs.BinValues.{AreBytes, IsPart, IsBinValues}
use Rattle.callhead.specs.Parts.{IsWithout}
use Rattle.callhead.specs.Heads.{
  IsPost,
  IsGrpc,
  HasTimeout,
  AreEchoes,
  IsHead,
  Stands,
  IsFirstFault,
  encoding_of,
  initial_echoes,
}
use Rattle.callhead.proofs.TimeoutLemmas.{last_is}
use Rattle.callhead.proofs.Symbols.{unpadded_is, padded_is}
use Rattle.callhead.proofs.PartLemmas.{values_on, values_at, values_last}
use Rattle.callhead.proofs.HeadLemmas.{has_path}

abbrev Known : Type 0 → Type 0
Known P = P ⊎ (P → ⊥)

-- ---- lists

same_known : (xs ys : List ℕ) → Known (xs ≡ ys)
same_known [] [] = inl refl
same_known [] (y ∷ ys) = inr (λ e. cc)
same_known (x ∷ xs) [] = inr (λ e. cc)
same_known (x ∷ xs) (y ∷ ys) =
    elim (cases_eq x y) [
      | inr apart ↦ inr (λ e. let same : x ≡ y = cc in apart same)
      | inl same ↦ elim (same_known xs ys) [
        | inl tails ↦ inl (cc (same, tails))
        | inr apart ↦ inr (λ e. let tails : xs ≡ ys = cc in apart tails)
      ]
    ]

abbrev BeginsWith : List ℕ → List ℕ → Type 0
BeginsWith front all = (rest : List ℕ) × (all ≡ front ++ rest)

begins_known : (front all : List ℕ) → Known (BeginsWith front all)
begins_known [] all = inl (all, refl)
begins_known (byte ∷ front) [] = inr (λ begins. absurd (omega (arith, ap length begins.1)))
begins_known (byte ∷ front) (other ∷ all) =
    elim (cases_eq other byte) [
      | inr apart ↦
          inr (λ begins.
          let e : other ∷ all ≡ byte ∷ (front ++ begins.0) = begins.1 in
          let same : other ≡ byte = cc in
          apart same)
      | inl same ↦ elim (begins_known front all) [
        | inl begins ↦
            inl (begins.0, ap (λ (x : ℕ). x ∷ all) same ∙ ap (λ (xs : List ℕ). byte ∷ xs) begins.1)
        | inr none ↦
            inr (λ begins.
            let e : other ∷ all ≡ byte ∷ (front ++ begins.0) = begins.1 in
            let tail : all ≡ front ++ begins.0 = cc in
            none (begins.0, tail))
      ]
    ]

bytes_known : (xs : List ℕ) → Known (AreBytes xs)
bytes_known [] = inl (λ i. omega arith)
bytes_known (x ∷ xs) =
    elim (cases_lt x 256) [
      | inr large ↦ inr (λ are. let small : x < 256 = are 0 in absurd (omega arith))
      | inl small ↦ elim (bytes_known xs) [
        | inl are ↦ inl (each x xs small are)
        | inr none ↦ inr (λ are. none (λ i. are (suc i)))
      ]
    ]
  where
    each : (x : ℕ) (xs : List ℕ) → x < 256 → AreBytes xs → AreBytes (x ∷ xs)
    each x xs small are zero = small
    each x xs small are (suc i) = are i

-- ---- binary values

-- the part is what the engine encodes some bytes as
abbrev IsCoded : GeneralPurpose → List ℕ → List ℕ → Type 0
IsCoded engine part value = AreBytes value × (part ≡ encode_of engine value)

abbrev HasValue : GeneralPurpose → List ℕ → Type 0
HasValue engine part = (value : List ℕ) × IsCoded engine part value

-- it could only be what it is decoded to
decoded : (engine : GeneralPurpose) (part value : List ℕ) → IsConsistent engine
    → IsCoded engine part value → decode_of engine part ≡ Ok value
decoded engine part value consistent is =
    ap (decode_of engine) is.1 ∙ decode_of-encode_of engine value consistent is.0

result_of : {E : Type 0} (result : Result (List ℕ) E)
    → ((value : List ℕ) × (result ≡ Ok value)) ⊎ ((error : E) × (result ≡ Err error))
result_of (Ok value) = inl (value, refl)
result_of (Err error) = inr (error, refl)

value_known : (engine : GeneralPurpose) (part : List ℕ) → IsConsistent engine
    → Known (HasValue engine part)
value_known engine part consistent =
    elim (result_of (decode_of engine part)) [
      | inr failed ↦
          inr (λ has.
          let read = decoded engine part has.0 consistent has.1 in
          let fails = failed.1 in
          absurd cc)
      | inl found ↦ elim (bytes_known found.0) [
        | inr none ↦
            inr (λ has.
            none (subst AreBytes
            (only found.0 has.0 found.1 (decoded engine part has.0 consistent has.1)) has.1.0))
        | inl are ↦ elim (same_known part (encode_of engine found.0)) [
          | inl same ↦ inl (found.0, (are, same))
          | inr apart ↦
              inr (λ has.
              apart (has.1.1
              ∙ ap (encode_of engine)
              (only found.0 has.0 found.1 (decoded engine part has.0 consistent has.1))))
        ]
      ]
    ]
  where
    only : (read value : List ℕ) → decode_of engine part ≡ Ok read
        → decode_of engine part ≡ Ok value → value ≡ read
    only read value e f =
        let both : ◌≡◌ {A = Result (List ℕ) _} (Ok read) (Ok value) = sym e ∙ f in
        cc

abbrev ReadsAs : List ℕ → Type 0
ReadsAs part = (value : List ℕ) × IsPart part value

part_known : (part : List ℕ) → Known (ReadsAs part)
part_known part =
    elim (value_known standard_no_pad part refl) [
      | inl has ↦ inl (has.0, (has.1.0, inl (has.1.1 ∙ unpadded_is has.0)))
      | inr none ↦ elim (value_known standard part refl) [
        | inl has ↦ inl (has.0, (has.1.0, inr (has.1.1 ∙ padded_is has.0)))
        | inr neither ↦ inr (λ reads. elim reads.1.1 [
          | inl e ↦ none (reads.0, (reads.1.0, e ∙ sym (unpadded_is reads.0)))
          | inr e ↦ neither (reads.0, (reads.1.0, e ∙ sym (padded_is reads.0)))
        ])
      ]
    ]

-- the first comma of a text
abbrev IsParted : List ℕ → Type 0
IsParted text = (part behind : List ℕ) × (text ≡ part ++ 0x2C ∷ behind) × IsWithout 0x2C part

parted : (text : List ℕ) → IsParted text ⊎ IsWithout 0x2C text
parted [] = inr tt
parted (byte ∷ text) =
    elim (cases_eq byte 0x2C) [
      | inl comma ↦ inl ([], text, ap (λ (x : ℕ). x ∷ text) comma, tt)
      | inr other ↦ elim (parted text) [
        | inl at ↦ inl (byte ∷ at.0, at.1, ap (λ (xs : List ℕ). byte ∷ xs) at.2, (other, at.3))
        | inr without ↦ inr (other, without)
      ]
    ]

abbrev Carries : List ℕ → Type 0
Carries text = (values : List (List ℕ)) × IsBinValues text values

last_known : (text : List ℕ) → IsWithout 0x2C text → Known (Carries text)
last_known text without =
    elim (part_known text) [
      | inl reads ↦ inl (reads.0 ∷ [], reads.1)
      | inr none ↦
          inr (λ carries.
          let last = values_last text carries.0 without carries.1 in
          none (last.0, last.2))
    ]

carries_on : (part behind : List ℕ) → IsWithout 0x2C part → Known (Carries behind)
    → Known (Carries (part ++ 0x2C ∷ behind))
carries_on part behind without (inr none) =
    inr (λ carries. let at = values_at part behind carries.0 without carries.1 in none (at.1, at.4))
carries_on part behind without (inl others) =
    elim (part_known part) [
      | inl reads ↦
          inl (reads.0 ∷ others.0, values_on part behind reads.0 others.0 reads.1 others.1)
      | inr none ↦
          inr (λ carries.
          let at = values_at part behind carries.0 without carries.1 in
          none (at.0, at.3))
    ]

values_known : (n : ℕ) (text : List ℕ) → length text ≤ n → Known (Carries text)
values_known zero text le =
    elim (parted text) [
      | inr without ↦ last_known text without
      | inl at ↦ absurd (omega (arith, le, ap length at.2, length-append at.0 (0x2C ∷ at.1)))
    ]
values_known (suc n) text le =
    elim (parted text) [
      | inr without ↦ last_known text without
      | inl at ↦ subst (λ (t : List ℕ). Known (Carries t)) (sym at.2)
          (carries_on at.0 at.1 at.3 (values_known n at.1
          (omega (arith, le, ap length at.2, length-append at.0 (0x2C ∷ at.1)))))
    ]

some_echoes : (texts : List (List ℕ)) → (echoes : List (List ℕ)) × AreEchoes texts echoes
some_echoes [] = ([], refl)
some_echoes (text ∷ texts) =
    let others = some_echoes texts in
    elim (values_known (length text) text (omega arith)) [
      | inl carries ↦ (carries.0 ++ others.0, (carries.0, others.0, refl, inl carries.1, others.1))
      | inr none ↦
          (others.0, ([], others.0, refl, inr ((λ values is. none (values, is)), refl), others.1))
    ]

-- ---- the timeout

digits_known : (digits : List ℕ) → Known (AllDigits 10 digits)
digits_known [] = inl tt
digits_known (digit ∷ digits) =
    elim (cases_lt (digit_value digit) 10) [
      | inr large ↦ inr (λ all. let small = all.0 in absurd (omega arith))
      | inl small ↦ elim (digits_known digits) [
        | inl all ↦ inl (small, all)
        | inr none ↦ inr (λ all. none all.1)
      ]
    ]

amount_known : (digits : List ℕ) → Known (IsAmount digits)
amount_known digits =
    elim (cases_lt 0 (length digits)) [
      | inr empty ↦ inr (λ is. let some = is.0.0 in absurd (omega arith))
      | inl some ↦ elim (cases_lt 8 (length digits)) [
        | inl long ↦ inr (λ is. let short = is.1 in absurd (omega arith))
        | inr short ↦ elim (digits_known digits) [
          | inl all ↦ inl ((some, all), short)
          | inr none ↦ inr (λ is. none is.0.1)
        ]
      ]
    ]

-- the last of a list, if it isn't empty
last_or : (text : List ℕ)
    → ((front : List ℕ) × (last : ℕ) × (text ≡ front ++ last ∷ [])) ⊎ (text ≡ [])
last_or [] = inr refl
last_or (byte ∷ text) =
    elim (last_or text) [
      | inl last ↦ inl (byte ∷ last.0, last.1, ap (λ (xs : List ℕ). byte ∷ xs) last.2)
      | inr none ↦ inl ([], byte, ap (λ (xs : List ℕ). byte ∷ xs) none)
    ]

found_or : {X : Type 0} (found : Option X) → ((x : X) × (found ≡ Some x)) ⊎ (found ≡ None)
found_or (Some x) = inl (x, refl)
found_or None = inr refl

abbrev IsSome : List ℕ → Type 0
IsSome text = (nanoseconds : ℕ) × IsTimeout text nanoseconds

-- digits and a letter are a timeout only as these
parts_known : (digits : List ℕ) (letter : ℕ) → Known (IsSome (digits ++ letter ∷ []))
parts_known digits letter =
    elim (amount_known digits) [
      | inr none ↦
          inr (λ is.
          none (subst IsAmount
          (sym (last_is digits letter is.1.digits is.1.letter is.1.whole).0) is.1.amount))
      | inl amount ↦ elim (found_or (nanoseconds_in letter)) [
        | inl unit ↦ inl (
          digits_value 10 digits * unit.0,
          record {
            digits = digits;
            letter = letter;
            unit = unit.0;
            whole = refl;
            amount = amount;
            named = unit.1;
            product = refl;
          },
        )
        | inr none ↦ inr (λ is.
            let named : Some is.1.unit ≡ None =
            sym is.1.named
            ∙ ap nanoseconds_in (sym (last_is digits letter is.1.digits is.1.letter is.1.whole).1)
            ∙ none in
            absurd cc)
      ]
    ]

timeout_known : (text : List ℕ) → Known (IsSome text)
timeout_known text =
    elim (last_or text) [
      | inl last ↦ subst (λ (t : List ℕ). Known (IsSome t)) (sym last.2) (parts_known last.0 last.1)
      | inr none ↦
          inr (λ is.
          absurd (omega
          (arith, ap length (sym none ∙ is.1.whole), length-append is.1.digits (is.1.letter ∷ []))))
    ]

-- ---- what is asked of a head

abbrev FirstTimeout : Option (List ℕ) → Option ℕ → Type 0
FirstTimeout first timeout =
    MatchOption first (timeout ≡ None)
    (λ text. (nanoseconds : ℕ) × IsTimeout text nanoseconds × (timeout ≡ Some nanoseconds))

first_timeout_known : (first : Option (List ℕ))
    → Known ((timeout : Option ℕ) × FirstTimeout first timeout)
first_timeout_known None = inl (None, refl)
first_timeout_known (Some text) =
    elim (timeout_known text) [
      | inl is ↦ inl (Some is.0, (is.0, is.1, refl))
      | inr none ↦ inr (λ has. none (has.1.0, has.1.1))
    ]

first_is_known : (first : Option (List ℕ)) (value : List ℕ) → Known (first ≡ Some value)
first_is_known None value = inr (λ e. cc)
first_is_known (Some other) value =
    elim (same_known other value) [
      | inl same ↦ inl (ap (λ (v : List ℕ). Some v) same)
      | inr apart ↦ inr (λ e. let same : other ≡ value = cc in apart same)
    ]

first_begins_known : (front : List ℕ) (first : Option (List ℕ))
    → Known (MatchOption first ⊥ (BeginsWith front))
first_begins_known front None = inr (λ none. none)
first_begins_known front (Some value) = begins_known front value

-- ---- the head

some_path : (first : Option (List ℕ)) → (None ≡ first → ⊥) → (path : List ℕ) × (first ≡ Some path)
some_path None some = absurd (some refl)
some_path (Some path) some = (path, refl)

head_is : (fields : List Field) (timeout : Option ℕ) → is_malformed fields ≡ false → IsPost fields
    → IsGrpc fields → HasTimeout fields timeout
    → (head : CallHead) × IsHead fields head
head_is fields timeout well post grpc has =
    let path = some_path (first_of (codes ":path") fields) (has_path fields well) in
    let echoes = some_echoes (values_of (codes "x-grpc-test-echo-trailing-bin") fields) in (
      record {
        path = path.0;
        timeout = timeout;
        encoding = encoding_of (first_of (codes "grpc-encoding") fields);
        echo_initial = initial_echoes fields;
        echo_trailing = echoes.0;
      },
      record {
        well_formed = well;
        post = post;
        grpc = grpc;
        path = path.1;
        timeout = has;
        encoding = refl;
        initial = refl;
        trailing = echoes.1;
      },
    )

-- ---- the faults

-- none of the faults with a lesser number stands
malformed_first : (fields : List Field) → is_malformed fields ≡ true → IsFirstFault fields Malformed
malformed_first fields bad = record { stands = bad; first = λ other. none other }
  where
    none : (other : HeadFault) → code_of other < 1 → Stands other fields → ⊥
    none Malformed less stands = omega arith
    none NotPost less stands = omega arith
    none NotGrpc less stands = omega arith
    none BadTimeout less stands = omega arith
    none OutOfMemory less stands = stands

not_post_first : (fields : List Field) → is_malformed fields ≡ false → (IsPost fields → ⊥)
    → IsFirstFault fields NotPost
not_post_first fields well not = record { stands = not; first = λ other. none other }
  where
    none : (other : HeadFault) → code_of other < 2 → Stands other fields → ⊥
    none Malformed less stands = true≢false (sym stands ∙ well)
    none NotPost less stands = omega arith
    none NotGrpc less stands = omega arith
    none BadTimeout less stands = omega arith
    none OutOfMemory less stands = stands

not_grpc_first : (fields : List Field) → is_malformed fields ≡ false → IsPost fields
    → (IsGrpc fields → ⊥) → IsFirstFault fields NotGrpc
not_grpc_first fields well post not = record { stands = not; first = λ other. none other }
  where
    none : (other : HeadFault) → code_of other < 3 → Stands other fields → ⊥
    none Malformed less stands = true≢false (sym stands ∙ well)
    none NotPost less stands = stands post
    none NotGrpc less stands = omega arith
    none BadTimeout less stands = omega arith
    none OutOfMemory less stands = stands

bad_timeout_first : (fields : List Field) → is_malformed fields ≡ false → IsPost fields
    → IsGrpc fields → ((timeout : Option ℕ) → HasTimeout fields timeout → ⊥)
    → IsFirstFault fields BadTimeout
bad_timeout_first fields well post grpc not = record { stands = not; first = λ other. none other }
  where
    none : (other : HeadFault) → code_of other < 4 → Stands other fields → ⊥
    none Malformed less stands = true≢false (sym stands ∙ well)
    none NotPost less stands = stands post
    none NotGrpc less stands = stands grpc
    none BadTimeout less stands = omega arith
    none OutOfMemory less stands = stands

pub each_has_answer : (fields : List Field)
    → ((head : CallHead) × IsHead fields head) ⊎ ((fault : HeadFault) × IsFirstFault fields fault)
each_has_answer fields =
    elim (cases_Bool (is_malformed fields)) [
      | inl bad ↦ inr (Malformed, malformed_first fields bad)
      | inr well ↦ elim (first_is_known (first_of (codes ":method") fields) (codes "POST")) [
        | inr not ↦ inr (NotPost, not_post_first fields well not)
        | inl post ↦
            elim (first_begins_known (codes "application/grpc")
            (first_of (codes "content-type") fields)) [
              | inr not ↦ inr (NotGrpc, not_grpc_first fields well post not)
              | inl grpc ↦ elim (first_timeout_known (first_of (codes "grpc-timeout") fields)) [
                | inr not ↦ inr (
                  BadTimeout,
                  bad_timeout_first fields well post grpc (λ timeout has. not (timeout, has)),
                )
                | inl has ↦ inl (head_is fields has.0 well post grpc has.1)
              ]
            ]
      ]
    ]
