-- What the first field of a name says, and what the fields before one and that one say together.
use Rattle.std.proofs.Common.{
  ◌≡◌,
  ℕ,
  zero,
  suc,
  ◌+◌,
  ◌<◌,
  ◌≤◌,
  ◌⊎◌,
  ◌↔◌,
  Bool,
  true,
  false,
  ◌&&◌,
  ◌||◌,
  cond,
  eqb,
  Option,
  Some,
  None,
  List,
  [],
  ◌∷◌,
  ◌++◌,
  map,
  filter,
  length,
  get_or,
  take,
  drop,
  leb,
  refl,
  sym,
  ap,
  subst,
  ◌∙◌,
  append_assoc,
  arith,
  inl,
  inr,
  IsTrue,
  MatchOption,
  codes,
  IsUtf8,
}
use Rattle.std.specs.Prelude.{is_none}
use Rattle.std.specs.List.{list_any, starts_with}
use Rattle.std.proofs.lemmas.List.{append-nil, map-append}
use Rattle.std.proofs.lemmas.List.Elements.{filter_more, filter-append}
use Rattle.std.proofs.lemmas.Bool.{and_parts, or_parts, both_ways, leb-true}
use Rattle.std.proofs.lemmas.Bool.Decides.{Decides-eqb}
use Rattle.std.proofs.lemmas.Slice.Eq.{starts_is}
use Rattle.std.proofs.lemmas.Str.{IsUtf8-from_ascii, utf8_lossy-IsUtf8}
use Rattle.std.specs.Str.Lossy.{utf8_lossy}
use Rattle.lists.specs.declared.field.Field.{Field}
use Rattle.callhead.specs.Fields.{is_named, first_of, values_of}
use Rattle.callhead.specs.MalformedHeads.{
  is_malformed,
  is_malformed_field,
  has_late_pseudo_header,
  is_repeated,
  is_missing,
  pseudo_headers,
  required_headers,
}
use Rattle.callhead.specs.Timeouts.{IsTimeout}
use Rattle.callhead.specs.BinValues.{IsBinValues}
use Rattle.callhead.specs.Heads.{
  is_printable,
  initial_echoes,
  AreEchoesOf,
  AreEchoes,
  AreTrailingEchoes,
}

-- ---- the path

pub has_path : (fields : List Field) → is_malformed fields ≡ false
    → None ≡ first_of (codes ":path") fields → ⊥
unfolding is_malformed
has_path fields well none =
    let others =
    list_any is_malformed_field fields || has_late_pseudo_header fields
    || list_any (is_repeated fields) pseudo_headers in
    let lacks = list_any (is_missing fields) required_headers in
    let method = is_missing fields (codes ":method") in
    let scheme = is_missing fields (codes ":scheme") in
    let path = is_missing fields (codes ":path") in
    let behind_others = or_parts others lacks well in
    let behind_method = or_parts method (scheme || (path || false)) behind_others.1 in
    let behind_scheme = or_parts scheme (path || false) behind_method.1 in
    both_ways path ((or_parts path false behind_scheme.1).0)
    (ap (λ (first : Option (List ℕ)). is_none first) (sym none))

-- ---- the content type

abbrev pub Begins : List ℕ → List ℕ → Type 0
Begins front value = (rest : List ℕ) × (value ≡ front ++ rest)

pub begins_is : (front value : List ℕ) (r : Bool) → r ≡ starts_with eqb value front
    → IsTrue r ↔ Begins front value
begins_is front value r e =
    let is = starts_is Decides-eqb value front r (e) in
    (λ t. (drop (length front) value, is.0 t), λ b. is.1 b.0 b.1)

pub first_begins : (front : List ℕ) (first : Option (List ℕ)) (value : List ℕ) (r : Bool)
    → Some value ≡ first → r ≡ starts_with eqb value front
    → IsTrue r ↔ MatchOption first ⊥ (Begins front)
first_begins front None value r e starts = absurd (cc)
first_begins front (Some other) value r e starts =
    let same : value ≡ other = cc in
    subst (λ (v : List ℕ). IsTrue r ↔ Begins front v) same (begins_is front value r starts)

-- ---- the timeout

abbrev pub FirstTimeout : Option (List ℕ) → Option ℕ → Type 0
FirstTimeout first timeout =
    MatchOption first (timeout ≡ None)
    (λ text. (nanoseconds : ℕ) × IsTimeout text nanoseconds × (timeout ≡ Some nanoseconds))

pub no_timeout : (first : Option (List ℕ)) (text : List ℕ) → Some text ≡ first
    → ((nanoseconds : ℕ) → IsTimeout text nanoseconds → ⊥) → (timeout : Option ℕ)
    → FirstTimeout first timeout → ⊥
no_timeout None text e none timeout has = absurd (cc)
no_timeout (Some other) text e none timeout has =
    let same : other ≡ text = cc in
    none has.0 (subst (λ (t : List ℕ). IsTimeout t has.0) same has.1)

-- ---- texts

printable_at : (bytes : List ℕ) (i : ℕ) → is_printable bytes ≡ true → get_or bytes i 0 < 128
printable_at [] i all = omega arith
printable_at (byte ∷ bytes) zero all =
    let parts = and_parts (leb 0x20 byte && leb byte 0x7E) (is_printable bytes) all in
    let small : byte ≤ 0x7E =
    leb-true byte 0x7E ((and_parts (leb 0x20 byte) (leb byte 0x7E) parts.0).1) in
    omega arith
printable_at (byte ∷ bytes) (suc i) all =
    printable_at bytes i ((and_parts (leb 0x20 byte && leb byte 0x7E) (is_printable bytes) all).1)

printable_utf8 : (bytes : List ℕ) → is_printable bytes ≡ true → IsUtf8 bytes
printable_utf8 bytes all = IsUtf8-from_ascii bytes (λ i. printable_at bytes i all)

pub printable_text : (bytes : List ℕ) → is_printable bytes ≡ true → utf8_lossy bytes ≡ bytes
printable_text bytes all = utf8_lossy-IsUtf8 bytes (printable_utf8 bytes all)

-- ---- one field more

pub values_more : (name : List ℕ) (fields : List Field) (i : ℕ) (d : Field) → i < length fields
    → values_of name (take (i + 1) fields)
    ≡ values_of name (take i fields)
    ++ cond (is_named name (get_or fields i d)) ((get_or fields i d).value ∷ []) []
values_more name fields i d within =
    let value_of : Field → List ℕ = λ field. field.value in
    let field = get_or fields i d in
    ap (map value_of) (filter_more (is_named name) fields i d within)
    ∙ map-append value_of (filter (is_named name) (take i fields))
    (cond (is_named name field) (field ∷ []) [])
    ∙ ap (λ (behind : List (List ℕ)). values_of name (take i fields) ++ behind)
    (value_if (is_named name field) field)
  where
    value_if : (b : Bool) (field : Field)
        → map (λ (f : Field). f.value) (cond b (field ∷ []) []) ≡ cond b (field.value ∷ []) []
    value_if true field = refl
    value_if false field = refl

-- ---- echoes in the head

initial_if : (named printable : Bool) (value : List ℕ) → printable ≡ is_printable value
    → filter is_printable (cond named (value ∷ []) [])
    ≡ cond named (cond printable (value ∷ []) []) []
initial_if true printable value e = rw (← e) refl
initial_if false printable value e = refl

initial_is : (fields : List Field) (i : ℕ) (field : Field) → i < length fields
    → field ≡ get_or fields i field
    → initial_echoes (take (i + 1) fields)
    ≡ initial_echoes (take i fields)
    ++ cond (is_named (codes "x-grpc-test-echo-initial") field)
    (cond (is_printable field.value) (field.value ∷ []) []) []
initial_is fields i field within is =
    let name = codes "x-grpc-test-echo-initial" in
    let one : Field → List (List ℕ) = λ f. cond (is_named name f) (f.value ∷ []) [] in
    ap (filter is_printable) (values_more name fields i field within
    ∙ ap (λ (f : Field). values_of name (take i fields) ++ one f) (sym is))
    ∙ filter-append is_printable (values_of name (take i fields)) (one field)
    ∙ ap (λ (behind : List (List ℕ)). initial_echoes (take i fields) ++ behind)
    (initial_if (is_named name field) (is_printable field.value) field.value refl)

pub initial_push : (fields : List Field) (i : ℕ) (field : Field) → i < length fields
    → field ≡ get_or fields i field → is_named (codes "x-grpc-test-echo-initial") field ≡ true
    → is_printable field.value ≡ true
    → initial_echoes (take i fields) ++ field.value ∷ [] ≡ initial_echoes (take (i + 1) fields)
initial_push fields i field within is named printable =
    sym (initial_is fields i field within is
    ∙ ap (λ (behind : List (List ℕ)). initial_echoes (take i fields) ++ behind) (here
    (is_named (codes "x-grpc-test-echo-initial") field) (is_printable field.value) named printable))
  where
    here : (b p : Bool) → b ≡ true → p ≡ true
        → cond b (cond p (field.value ∷ []) []) [] ≡ field.value ∷ []
    here b p e f = rw (e, f) refl

pub initial_skip : (fields : List Field) (i : ℕ) (field : Field) → i < length fields
    → field ≡ get_or fields i field
    → (is_named (codes "x-grpc-test-echo-initial") field ≡ false)
    ⊎ (is_printable field.value ≡ false)
    → initial_echoes (take i fields) ≡ initial_echoes (take (i + 1) fields)
initial_skip fields i field within is skipped =
    sym (initial_is fields i field within is
    ∙ ap (λ (behind : List (List ℕ)). initial_echoes (take i fields) ++ behind)
    (here (is_named (codes "x-grpc-test-echo-initial") field) (is_printable field.value) skipped)
    ∙ append-nil (initial_echoes (take i fields)))
  where
    here : (b p : Bool) → (b ≡ false) ⊎ (p ≡ false) → cond b (cond p (field.value ∷ []) []) [] ≡ []
    here b p (inl e) = rw e refl
    here true p (inr e) = rw e refl
    here false p (inr e) = refl

-- ---- echoes in the trailers

echoes_push : (texts : List (List ℕ)) (text : List ℕ) (front here : List (List ℕ))
    → AreEchoes texts front → AreEchoesOf text here → AreEchoes (texts ++ text ∷ []) (front ++ here)
echoes_push [] text front here are of =
    (here, [], ap (λ (f : List (List ℕ)). f ++ here) are ∙ sym (append-nil here), of, refl)
echoes_push (first ∷ texts) text front here are of = (
  are.0,
  are.1 ++ here,
  ap (λ (f : List (List ℕ)). f ++ here) are.2 ∙ append_assoc are.0 are.1 here,
  are.3,
  echoes_push texts text are.1 here are.4 of,
)

echoes_last : (texts : List (List ℕ)) (text : List ℕ) (echoes : List (List ℕ))
    → AreEchoes (texts ++ text ∷ []) echoes
    → (front : List (List ℕ)) × (here : List (List ℕ)) × (echoes ≡ front ++ here)
    × AreEchoes texts front × AreEchoesOf text here
echoes_last [] text echoes are = (
  [],
  are.0,
  are.2 ∙ ap (λ (b : List (List ℕ)). are.0 ++ b) are.4 ∙ append-nil are.0,
  refl,
  are.3,
)
echoes_last (first ∷ texts) text echoes are =
    let rest = echoes_last texts text are.1 are.4 in (
      are.0 ++ rest.0,
      rest.1,
      are.2 ∙ ap (λ (b : List (List ℕ)). are.0 ++ b) rest.2
          ∙ sym (append_assoc are.0 rest.0 rest.1),
      (are.0, rest.0, refl, are.3, rest.3),
      rest.4,
    )

-- the list is the one that there is
abbrev pub IsOne : List (List ℕ) → (List (List ℕ) → Type 0) → Type 0
IsOne list Is = (values : List (List ℕ)) → (list ≡ values) ↔ Is values

pub echoes_more : (texts : List (List ℕ)) (text : List ℕ) (front here : List (List ℕ))
    → IsOne front (AreEchoes texts) → IsOne here (AreEchoesOf text)
    → IsOne (front ++ here) (AreEchoes (texts ++ text ∷ []))
echoes_more texts text front here one one_here = λ values. (
  λ e.
      subst (AreEchoes (texts ++ text ∷ [])) e
      (echoes_push texts text front here ((one front).0 refl) ((one_here here).0 refl)),
  λ are.
      let parts = echoes_last texts text values are in
      let fronts : front ≡ parts.0 = (one parts.0).1 parts.3 in
      let heres : here ≡ parts.1 = (one_here parts.1).1 parts.4 in
      cc (fronts, heres, parts.2),
)

-- and what one field is echoed as, by what it is read as
pub echoes_some : (text : List ℕ) (read : List (List ℕ))
    → ((values : List (List ℕ)) → (Some read ≡ Some values) ↔ IsBinValues text values)
    → IsOne read (AreEchoesOf text)
echoes_some text read is = λ values. (
  λ e. inl ((is values).0 (ap Some e)),
  λ of. elim of [
    | inl carried ↦ let same : Some read ≡ Some values = (is values).1 carried in cc
    | inr none ↦ absurd (none.0 read ((is read).0 refl))
  ],
)

pub echoes_none : (text : List ℕ)
    → ((values : List (List ℕ)) → (None ≡ Some values) ↔ IsBinValues text values)
    → IsOne [] (AreEchoesOf text)
echoes_none text is = λ values. (
  λ e. inr
      (λ other carried. let same : None ≡ Some other = (is other).1 carried in absurd (cc), sym e),
  λ of. elim of [
    | inl carried ↦ let same : None ≡ Some values = (is values).1 carried in absurd (cc)
    | inr none ↦ sym none.1
  ],
)

trailing_is : (fields : List Field) (i : ℕ) (field : Field) → i < length fields
    → field ≡ get_or fields i field
    → values_of (codes "x-grpc-test-echo-trailing-bin") (take (i + 1) fields)
    ≡ values_of (codes "x-grpc-test-echo-trailing-bin") (take i fields)
    ++ cond (is_named (codes "x-grpc-test-echo-trailing-bin") field) (field.value ∷ []) []
trailing_is fields i field within is =
    let name = codes "x-grpc-test-echo-trailing-bin" in
    values_more name fields i field within
    ∙ ap (λ (f : Field).
    values_of name (take i fields) ++ cond (is_named name f) (f.value ∷ []) []) (sym is)

pub trailing_push : (fields : List Field) (i : ℕ) (field : Field) (front here : List (List ℕ))
    → i < length fields → field ≡ get_or fields i field
    → is_named (codes "x-grpc-test-echo-trailing-bin") field ≡ true
    → IsOne front (AreTrailingEchoes (take i fields)) → IsOne here (AreEchoesOf field.value)
    → IsOne (front ++ here) (AreTrailingEchoes (take (i + 1) fields))
trailing_push fields i field front here within is named one one_here =
    let texts = values_of (codes "x-grpc-test-echo-trailing-bin") (take i fields) in
    let more =
    trailing_is fields i field within is
    ∙ ap (λ (b : Bool). texts ++ cond b (field.value ∷ []) []) named in
    subst (λ (ts : List (List ℕ)). IsOne (front ++ here) (AreEchoes ts)) (sym more)
    (echoes_more texts field.value front here one one_here)

pub trailing_skip : (fields : List Field) (i : ℕ) (field : Field) (front : List (List ℕ))
    → i < length fields → field ≡ get_or fields i field
    → is_named (codes "x-grpc-test-echo-trailing-bin") field ≡ false
    → IsOne front (AreTrailingEchoes (take i fields))
    → IsOne front (AreTrailingEchoes (take (i + 1) fields))
trailing_skip fields i field front within is named one =
    let texts = values_of (codes "x-grpc-test-echo-trailing-bin") (take i fields) in
    let more =
    trailing_is fields i field within is
    ∙ ap (λ (b : Bool). texts ++ cond b (field.value ∷ []) []) named ∙ append-nil texts in
    subst (λ (ts : List (List ℕ)). IsOne front (AreEchoes ts)) (sym more) one
