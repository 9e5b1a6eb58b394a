-- The fields that open a call are a head that asks for what was asked.
use Rattle.std.proofs.Common.{
  ◌≡◌,
  ℕ,
  zero,
  suc,
  ◌+◌,
  ◌*◌,
  ◌/◌,
  ◌%◌,
  ◌-◌,
  ◌<◌,
  ◌⊎◌,
  Bool,
  true,
  false,
  not,
  ◌&&◌,
  ◌||◌,
  cond,
  ◌==◌,
  leb,
  Option,
  Some,
  None,
  List,
  [],
  ◌∷◌,
  ◌++◌,
  map,
  filter,
  length,
  All,
  IsTrue,
  MatchOption,
  codes,
  refl,
  sym,
  ap,
  subst,
  ◌∙◌,
  arith,
  inl,
  inr,
  Bor,
}
use Rattle.std.specs.Prelude.{slice_get, slice_index, count_by, bytes_eq, find, nat_lt}
use Rattle.std.specs.List.{list_any}
use Rattle.std.specs.Str.Parse.{AllDigits}
use Rattle.std.proofs.lemmas.Bool.{and_parts}
use Rattle.std.proofs.lemmas.Bool.Decides.{nat_tests}
use Rattle.std.proofs.lemmas.List.Elements.{All-map}
use Rattle.std.proofs.lemmas.List.Sums.{sum_by-append}
use Rattle.std.proofs.lemmas.Str.Parse.{digit_from_value}
use Rattle.base64.specs.Tables.{all_below}
use Rattle.base64.proofs.Tables.{all_below_at}
use Rattle.base64.specs.Rfc4648.{encode_symbols}
use Rattle.lists.specs.declared.field.Field.{Field}
use Rattle.callhead.specs.declared.head.CallHead.{CallHead}
use Rattle.callhead.specs.Fields.{field_of, is_named, first_of, values_of}
use Rattle.callhead.specs.MalformedHeads.{
  is_blank,
  is_forbidden_in_values,
  has_bad_value,
  is_malformed_field,
  is_pseudo_header,
  is_malformed,
  has_late_pseudo_header,
  is_repeated,
  is_missing,
  pseudo_headers,
  required_headers,
}
use Rattle.callhead.specs.Timeouts.{nanoseconds_in, IsTimeout}
use Rattle.callhead.specs.BinValues.{alphabet, unpadded, AreBytes}
use Rattle.callhead.specs.Heads.{is_printable, AreEchoes, IsHead}
use Rattle.callhead.specs.RequestFields.{
  is_visible,
  IsPathText,
  is_text_value,
  IsTimeoutText,
  timeout_fields,
  echo_fields,
  opening_fields,
  request_fields,
  AsksFor,
}

-- ---- values

printable_byte : (byte : ℕ) → (leb 0x20 byte && leb byte 0x7E) ≡ true
    → is_forbidden_in_values byte ≡ false
printable_byte byte is = grind (arith, nat_tests)

visible_byte : (byte : ℕ) → (leb 0x21 byte && leb byte 0x7E) ≡ true
    → (leb 0x20 byte && leb byte 0x7E) ≡ true
visible_byte byte is = grind (arith, nat_tests)

visible_no_blank : (byte : ℕ) → (leb 0x21 byte && leb byte 0x7E) ≡ true
    → is_blank (Some byte) ≡ false
visible_no_blank byte is = grind (arith, nat_tests)

printable_ends_no_line : (value : List ℕ) → is_printable value ≡ true
    → list_any is_forbidden_in_values value ≡ false
printable_ends_no_line [] is = refl
printable_ends_no_line (byte ∷ bytes) is =
    let parts = and_parts (leb 0x20 byte && leb byte 0x7E) (is_printable bytes) is in
    let here : is_forbidden_in_values byte ≡ false = printable_byte byte parts.0 in
    let behind : list_any is_forbidden_in_values bytes ≡ false =
    printable_ends_no_line bytes parts.1 in
    rw (here, behind) refl

visible_printable : (value : List ℕ) → is_visible value ≡ true → is_printable value ≡ true
visible_printable [] is = refl
visible_printable (byte ∷ bytes) is =
    let parts = and_parts (leb 0x21 byte && leb byte 0x7E) (is_visible bytes) is in
    let here : (leb 0x20 byte && leb byte 0x7E) ≡ true = visible_byte byte parts.0 in
    let behind : is_printable bytes ≡ true = visible_printable bytes parts.1 in
    rw (here, behind) refl

visible_no_blanks : (value : List ℕ) (i : ℕ) → is_visible value ≡ true
    → is_blank (slice_get value i) ≡ false
visible_no_blanks [] i is = refl
visible_no_blanks (byte ∷ bytes) zero is =
    visible_no_blank byte ((and_parts (leb 0x21 byte && leb byte 0x7E) (is_visible bytes) is).0)
visible_no_blanks (byte ∷ bytes) (suc i) is =
    visible_no_blanks bytes i ((and_parts (leb 0x21 byte && leb byte 0x7E) (is_visible bytes) is).1)

three_none : (a b c : Bool) → a ≡ false → b ≡ false → c ≡ false → (a || b || c) ≡ false
three_none a b c e f g = rw (e, f, g) refl

visible_is_lawful : (name value : List ℕ) → is_visible value ≡ true
    → has_bad_value (field_of name value) ≡ false
visible_is_lawful name value is =
    three_none (list_any is_forbidden_in_values value) (is_blank (slice_get value 0))
    (is_blank (slice_get value (length value - 1)))
    (printable_ends_no_line value (visible_printable value is)) (visible_no_blanks value 0 is)
    (visible_no_blanks value (length value - 1) is)

not_false : (b : Bool) → not b ≡ true → b ≡ false
not_false true e = absurd (cc)
not_false false e = refl

text_parts : (value : List ℕ) → is_text_value value ≡ true
    → (is_printable value ≡ true) × (has_bad_value (field_of [] value) ≡ false)
text_parts value is =
    let front = is_printable value && not (is_blank (slice_get value 0)) in
    let last = not (is_blank (slice_get value (length value - 1))) in
    let outer = and_parts front last is in
    let inner = and_parts (is_printable value) (not (is_blank (slice_get value 0))) outer.0 in (
      inner.0,
      three_none (list_any is_forbidden_in_values value) (is_blank (slice_get value 0))
          (is_blank (slice_get value (length value - 1)))
          (printable_ends_no_line value inner.0) (not_false (is_blank (slice_get value 0)) inner.1)
          (not_false (is_blank (slice_get value (length value - 1))) outer.1),
    )

-- ---- base64

abbrev symbol_is_visible : ℕ → Bool
symbol_is_visible k = leb 0x21 (slice_index alphabet k) && leb (slice_index alphabet k) 0x7E

symbols_table : all_below symbol_is_visible 64 ≡ true
symbols_table = refl

symbol_at : (k : ℕ) → k < 64 → symbol_is_visible k ≡ true
symbol_at k small = all_below_at symbol_is_visible 64 k symbols_table small

symbols_visible : (bytes : List ℕ) → AreBytes bytes
    → is_visible (encode_symbols alphabet bytes) ≡ true
unfolding encode_symbols
symbols_visible [] are = refl
symbols_visible (a ∷ []) are =
    let small : a < 256 = are 0 in
    rw (symbol_at (a / 4) (omega arith), symbol_at (a % 4 * 16) (omega arith)) refl
symbols_visible (a ∷ b ∷ []) are =
    let small_a : a < 256 = are 0 in
    let small_b : b < 256 = are 1 in
    rw (
      symbol_at (a / 4) (omega arith),
      symbol_at (a % 4 * 16 + b / 16) (omega arith),
      symbol_at (b % 16 * 4) (omega arith),
    ) refl
symbols_visible (a ∷ b ∷ c ∷ bytes) are =
    let small_a : a < 256 = are 0 in
    let small_b : b < 256 = are 1 in
    let small_c : c < 256 = are 2 in
    let behind : is_visible (encode_symbols alphabet bytes) ≡ true =
    symbols_visible bytes (λ i. are (suc (suc (suc i)))) in
    rw (
      symbol_at (a / 4) (omega arith),
      symbol_at (a % 4 * 16 + b / 16) (omega arith),
      symbol_at (b % 16 * 4 + c / 64) (omega arith),
      symbol_at (c % 64) (omega arith),
      behind,
    ) refl

unpadded_visible : (bytes : List ℕ) → AreBytes bytes → is_visible (unpadded bytes) ≡ true
unfolding unpadded
unpadded_visible bytes are = symbols_visible bytes are

-- ---- timeouts

digits_visible : (digits : List ℕ) → AllDigits 10 digits → is_visible digits ≡ true
digits_visible [] all = refl
digits_visible (digit ∷ digits) all =
    let range = digit_from_value digit all.0 in
    let here : (leb 0x21 digit && leb digit 0x7E) ≡ true = grind (arith, nat_tests) in
    let behind : is_visible digits ≡ true = digits_visible digits all.1 in
    rw (here, behind) refl

one_of : (test : Bool) (found : ℕ) (other : Option ℕ) (unit : ℕ)
    → cond test (Some found) other ≡ Some unit → (test ≡ true) ⊎ (other ≡ Some unit)
one_of true found other unit e = inl refl
one_of false found other unit e = inr e

letter_visible : (letter unit : ℕ) → nanoseconds_in letter ≡ Some unit
    → (leb 0x21 letter && leb letter 0x7E) ≡ true
letter_visible letter unit e = grind (arith, nat_tests)

visible-append : (front behind : List ℕ) → is_visible front ≡ true → is_visible behind ≡ true
    → is_visible (front ++ behind) ≡ true
visible-append [] behind f b = b
visible-append (byte ∷ front) behind f b =
    let parts = and_parts (leb 0x21 byte && leb byte 0x7E) (is_visible front) f in
    let here : (leb 0x21 byte && leb byte 0x7E) ≡ true = parts.0 in
    let rest : is_visible (front ++ behind) ≡ true = visible-append front behind parts.1 b in
    rw (here, rest) refl

timeout_visible : (text : List ℕ) (nanoseconds : ℕ) → IsTimeout text nanoseconds
    → is_visible text ≡ true
timeout_visible text nanoseconds is =
    let letter : is_visible (is.letter ∷ []) ≡ true =
    ap (λ (b : Bool). b && true) (letter_visible is.letter is.unit is.named) in
    rw is.whole
    (visible-append is.digits (is.letter ∷ []) (digits_visible is.digits is.amount.0.1) letter)

-- ---- each of a list

abbrev Each : {X : Type 0} → (X → Type 0) → List X → Type 0
Each P [] = Unit {0}
Each P (x ∷ xs) = P x × Each P xs

each_from : {X : Type 0} (P : X → Type 0) (xs : List X) → All P xs → Each P xs
each_from P [] all = tt
each_from P (x ∷ xs) all =
    (all 0 x (omega arith), each_from P xs (λ k d within. all (suc k) d (omega arith)))

each-append : {X : Type 0} (P : X → Type 0) (front behind : List X) → Each P front → Each P behind
    → Each P (front ++ behind)
each-append P [] behind f b = b
each-append P (x ∷ front) behind f b = (f.0, each-append P front behind f.1 b)

any_none : (p : Field → Bool) (fields : List Field)
    → Each (λ (field : Field). p field ≡ false) fields → list_any p fields ≡ false
any_none p [] all = refl
any_none p (field ∷ fields) all =
    let here : p field ≡ false = all.0 in
    let behind : list_any p fields ≡ false = any_none p fields all.1 in
    rw (here, behind) refl

-- ---- fields of which none passes a test

count_none : (p : Field → Bool) (fields : List Field)
    → Each (λ (field : Field). p field ≡ false) fields → count_by p fields ≡ 0
count_none p [] all = refl
count_none p (field ∷ fields) all =
    let here : p field ≡ false = all.0 in
    let behind : count_by p fields ≡ 0 = count_none p fields all.1 in
    rw (here, behind) refl

filter_none : (p : Field → Bool) (fields : List Field)
    → Each (λ (field : Field). p field ≡ false) fields → filter p fields ≡ []
filter_none p [] all = refl
filter_none p (field ∷ fields) all =
    let here : p field ≡ false = all.0 in
    let behind : filter p fields ≡ [] = filter_none p fields all.1 in
    rw (here, behind) refl

find_none : (p : Field → Bool) (fields : List Field)
    → Each (λ (field : Field). p field ≡ false) fields → find p fields ≡ None
find_none p [] all = refl
find_none p (field ∷ fields) all =
    let here : p field ≡ false = all.0 in
    let behind : find p fields ≡ None = find_none p fields all.1 in
    rw (here, behind) refl

always : (P : List ℕ → Type 0) → ((value : List ℕ) → P value)
    → (values : List (List ℕ)) → Each P values
always P each [] = tt
always P each (value ∷ values) = (each value, always P each values)

map_all : (P : Field → Type 0) (made : List ℕ → Field) (values : List (List ℕ))
    → Each (λ (value : List ℕ). P (made value)) values → Each P (map made values)
map_all P made [] all = tt
map_all P made (value ∷ values) all = (all.0, map_all P made values all.1)

weaker : (P Q : List ℕ → Type 0) → ((value : List ℕ) → P value → Q value) → (values : List (List ℕ))
    → Each P values → Each Q values
weaker P Q step [] all = tt
weaker P Q step (value ∷ values) all = (step value all.0, weaker P Q step values all.1)

-- ---- the fields behind those that each request has

abbrev OfTimeout : (Field → Type 0) → Option (List ℕ) → Type 0
OfTimeout P None = Unit {0}
OfTimeout P (Some text) = P (field_of (codes "grpc-timeout") text)

abbrev initial_field : List ℕ → Field
initial_field value = field_of (codes "x-grpc-test-echo-initial") value

abbrev trailing_field : List ℕ → Field
trailing_field value = field_of (codes "x-grpc-test-echo-trailing-bin") (unpadded value)

tail_of : Option (List ℕ) → List (List ℕ) → List (List ℕ) → List Field
tail_of timeout initial trailing = timeout_fields timeout ++ echo_fields initial trailing

tail_all : (P : Field → Type 0) (timeout : Option (List ℕ)) (initial trailing : List (List ℕ))
    → OfTimeout P timeout → Each (λ (value : List ℕ). P (initial_field value)) initial
    → Each (λ (value : List ℕ). P (trailing_field value)) trailing
    → Each P (tail_of timeout initial trailing)
unfolding tail_of
tail_all P None initial trailing t i b =
    each-append P (map initial_field initial) (map trailing_field trailing)
    (map_all P initial_field initial i) (map_all P trailing_field trailing b)
tail_all P (Some text) initial trailing t i b = (
  t,
  each-append P (map initial_field initial) (map trailing_field trailing)
      (map_all P initial_field initial i) (map_all P trailing_field trailing b),
)

each_timeout : (P : Field → Type 0) (timeout : Option (List ℕ))
    → ((text : List ℕ) → P (field_of (codes "grpc-timeout") text)) → OfTimeout P timeout
each_timeout P None each = tt
each_timeout P (Some text) each = each text

tail_always : (P : Field → Type 0) (timeout : Option (List ℕ)) (initial trailing : List (List ℕ))
    → ((text : List ℕ) → P (field_of (codes "grpc-timeout") text))
    → ((value : List ℕ) → P (initial_field value)) → ((value : List ℕ) → P (trailing_field value))
    → Each P (tail_of timeout initial trailing)
tail_always P timeout initial trailing t i b =
    tail_all P timeout initial trailing (each_timeout P timeout t)
    (always (λ value. P (initial_field value)) i initial)
    (always (λ value. P (trailing_field value)) b trailing)

-- ---- they are well formed

timeout_lawful : (text : List ℕ) → has_bad_value (field_of [] text) ≡ false
    → is_malformed_field (field_of (codes "grpc-timeout") text) ≡ false
timeout_lawful text e = rw e refl

initial_lawful : (value : List ℕ) → has_bad_value (field_of [] value) ≡ false
    → is_malformed_field (initial_field value) ≡ false
initial_lawful value e = rw e refl

trailing_lawful : (value : List ℕ) → has_bad_value (field_of [] (unpadded value)) ≡ false
    → is_malformed_field (trailing_field value) ≡ false
trailing_lawful value e = rw e refl

path_lawful : (path : List ℕ) → IsPathText path
    → is_malformed_field (field_of (codes ":path") path) ≡ false
path_lawful [] is = absurd (is.0 refl)
path_lawful (byte ∷ bytes) is =
    let e : has_bad_value (field_of [] (byte ∷ bytes)) ≡ false =
    visible_is_lawful [] (byte ∷ bytes) is.1 in
    let some : (suc (length bytes) == 0) ≡ false = grind (arith, nat_tests) in
    rw (e, some) refl

timeouts_lawful : (timeout : Option (List ℕ)) → IsTimeoutText timeout
    → OfTimeout (λ field. is_malformed_field field ≡ false) timeout
timeouts_lawful None is = tt
timeouts_lawful (Some text) is =
    timeout_lawful text (visible_is_lawful [] text (timeout_visible text is.0 is.1))

tail_lawful : (timeout : Option (List ℕ)) (initial trailing : List (List ℕ)) → IsTimeoutText timeout
    → Each (λ (value : List ℕ). IsTrue (is_text_value value)) initial → Each AreBytes trailing
    → Each (λ (field : Field). is_malformed_field field ≡ false) (tail_of timeout initial trailing)
tail_lawful timeout initial trailing t i b =
    tail_all (λ field. is_malformed_field field ≡ false) timeout initial trailing
    (timeouts_lawful timeout t)
    (weaker (λ value. IsTrue (is_text_value value))
    (λ value. is_malformed_field (initial_field value) ≡ false)
    (λ value is. initial_lawful value ((text_parts value is).1)) initial i)
    (weaker AreBytes (λ value. is_malformed_field (trailing_field value) ≡ false) (λ value are.
    trailing_lawful value (visible_is_lawful [] (unpadded value) (unpadded_visible value are)))
    trailing b)

four_none : (a b c d : Bool) → a ≡ false → b ≡ false → c ≡ false → d ≡ false
    → (a || b || c || d) ≡ false
four_none a b c d e f g h = rw (e, f, g, h) refl

any_four : (a b c d : Bool) → a ≡ false → b ≡ false → c ≡ false → d ≡ false
    → (a || (b || (c || (d || false)))) ≡ false
any_four a b c d e f g h = rw (e, f, g, h) refl

count_both : (p : Field → Bool) (front tail : List Field) → count_by p front ≡ 1
    → count_by p tail ≡ 0 → count_by p (front ++ tail) ≡ 1
count_both p front tail one none =
    let sum : count_by p front + count_by p tail ≡ 1 = omega arith in
    sum_by-append (λ (field : Field). cond (p field) 1 0) front tail ∙ sum

once : (fields : List Field) (name : List ℕ) → count_by (is_named name) fields ≡ 1
    → is_repeated fields name ≡ false
once fields name e = ap (λ (n : ℕ). nat_lt 1 n) e

-- no field behind those has this name
abbrev Unnamed : List ℕ → List Field → Type 0
Unnamed name tail = Each (λ (field : Field). is_named name field ≡ false) tail

well_formed : (path : List ℕ) (tail : List Field) → IsPathText path
    → Each (λ (field : Field). is_malformed_field field ≡ false) tail
    → Each (λ (field : Field). is_pseudo_header field ≡ false) tail → Unnamed (codes ":method") tail
    → Unnamed (codes ":scheme") tail → Unnamed (codes ":path") tail
    → Unnamed (codes ":authority") tail → is_malformed (opening_fields path ++ tail) ≡ false
unfolding is_malformed
well_formed path tail is lawful plain method scheme path_once authority =
    let fields = opening_fields path ++ tail in
    let te = field_of (codes "te") (codes "trailers") in
    let content = field_of (codes "content-type") (codes "application/grpc") in
    let none : list_any is_malformed_field fields ≡ false =
    any_none is_malformed_field fields
    (refl, (refl, (path_lawful path is, (refl, (refl, (refl, lawful)))))) in
    let late : has_late_pseudo_header fields ≡ false =
    any_none is_pseudo_header (te ∷ content ∷ tail) (refl, (refl, plain)) in
    let repeated : list_any (is_repeated fields) pseudo_headers ≡ false =
    any_four (is_repeated fields (codes ":method")) (is_repeated fields (codes ":scheme"))
    (is_repeated fields (codes ":path")) (is_repeated fields (codes ":authority"))
    (once fields (codes ":method") (count_both (is_named (codes ":method")) (opening_fields path)
    tail refl (count_none (is_named (codes ":method")) tail method)))
    (once fields (codes ":scheme") (count_both (is_named (codes ":scheme")) (opening_fields path)
    tail refl (count_none (is_named (codes ":scheme")) tail scheme)))
    (once fields (codes ":path") (count_both (is_named (codes ":path")) (opening_fields path) tail
    refl (count_none (is_named (codes ":path")) tail path_once)))
    (once fields (codes ":authority") (count_both (is_named (codes ":authority"))
    (opening_fields path) tail refl (count_none (is_named (codes ":authority")) tail authority))) in
    let missing : list_any (is_missing fields) required_headers ≡ false = refl in
    four_none (list_any is_malformed_field fields) (has_late_pseudo_header fields)
    (list_any (is_repeated fields) pseudo_headers) (list_any (is_missing fields) required_headers)
    none late repeated missing

-- ---- what they say

timeout_found : (timeout : Option (List ℕ)) (initial trailing : List (List ℕ))
    → first_of (codes "grpc-timeout") (tail_of timeout initial trailing) ≡ timeout
unfolding tail_of
timeout_found None initial trailing =
    let name = codes "grpc-timeout" in
    let none : find (is_named name) (echo_fields initial trailing) ≡ None =
    find_none (is_named name) (echo_fields initial trailing) (each-append
    (λ (field : Field). is_named name field ≡ false) (map initial_field initial)
    (map trailing_field trailing)
    (map_all (λ field. is_named name field ≡ false) initial_field initial
    (always (λ value. is_named name (initial_field value) ≡ false) (λ value. refl) initial))
    (map_all (λ field. is_named name field ≡ false) trailing_field trailing
    (always (λ value. is_named name (trailing_field value) ≡ false) (λ value. refl) trailing))) in
    rw none refl
timeout_found (Some text) initial trailing = refl

no_encoding : (timeout : Option (List ℕ)) (initial trailing : List (List ℕ))
    → first_of (codes "grpc-encoding") (tail_of timeout initial trailing) ≡ None
no_encoding timeout initial trailing =
    let name = codes "grpc-encoding" in
    let none : find (is_named name) (tail_of timeout initial trailing) ≡ None =
    find_none (is_named name) (tail_of timeout initial trailing) (tail_always
    (λ field. is_named name field ≡ false) timeout initial trailing (λ text. refl) (λ value. refl)
    (λ value. refl)) in
    rw none refl

no_initial : (trailing : List (List ℕ))
    → values_of (codes "x-grpc-test-echo-initial") (map trailing_field trailing) ≡ []
no_initial [] = refl
no_initial (value ∷ values) = no_initial values

initial_values : (initial trailing : List (List ℕ))
    → values_of (codes "x-grpc-test-echo-initial") (echo_fields initial trailing) ≡ initial
initial_values [] trailing = no_initial trailing
initial_values (value ∷ values) trailing =
    ap (λ (rest : List (List ℕ)). value ∷ rest) (initial_values values trailing)

trailing_alone : (trailing : List (List ℕ))
    → values_of (codes "x-grpc-test-echo-trailing-bin") (map trailing_field trailing)
    ≡ map unpadded trailing
trailing_alone [] = refl
trailing_alone (value ∷ values) =
    ap (λ (rest : List (List ℕ)). unpadded value ∷ rest) (trailing_alone values)

trailing_values : (initial trailing : List (List ℕ))
    → values_of (codes "x-grpc-test-echo-trailing-bin") (echo_fields initial trailing)
    ≡ map unpadded trailing
trailing_values [] trailing = trailing_alone trailing
trailing_values (value ∷ values) trailing = trailing_values values trailing

tail_values : (name : List ℕ) (timeout : Option (List ℕ)) (initial trailing : List (List ℕ))
    → bytes_eq (codes "grpc-timeout") name ≡ false
    → values_of name (tail_of timeout initial trailing)
    ≡ values_of name (echo_fields initial trailing)
unfolding tail_of
tail_values name None initial trailing differ = refl
tail_values name (Some text) initial trailing differ = rw differ refl

all_printable : (initial : List (List ℕ))
    → Each (λ (value : List ℕ). IsTrue (is_text_value value)) initial
    → filter is_printable initial ≡ initial
all_printable [] all = refl
all_printable (value ∷ values) all =
    let here : is_printable value ≡ true = (text_parts value all.0).0 in
    let behind : filter is_printable values ≡ values = all_printable values all.1 in
    rw (here, behind) refl

all_echoed : (trailing : List (List ℕ)) → Each AreBytes trailing
    → AreEchoes (map unpadded trailing) trailing
all_echoed [] all = refl
all_echoed (value ∷ values) all =
    (value ∷ [], values, refl, inl (all.0, inl refl), all_echoed values all.1)

-- ---- all of it

timeout_said : (timeout : Option (List ℕ)) (first : Option (List ℕ)) (time : Option ℕ)
    → first ≡ timeout
    → MatchOption timeout (time ≡ None)
    (λ text. (nanoseconds : ℕ) × IsTimeout text nanoseconds × (time ≡ Some nanoseconds))
    → MatchOption first (time ≡ None)
    (λ text. (nanoseconds : ℕ) × IsTimeout text nanoseconds × (time ≡ Some nanoseconds))
timeout_said timeout first time e has =
    subst (λ (f : Option (List ℕ)).
    MatchOption f (time ≡ None) (λ text.
    (nanoseconds : ℕ) × IsTimeout text nanoseconds
    × (time ≡ Some nanoseconds))) (sym e) has

pub is_head : (path : List ℕ) (timeout : Option (List ℕ))
    (initial trailing : List (List ℕ)) (head : CallHead)
    → IsPathText path → IsTimeoutText timeout
    → All (λ (value : List ℕ). IsTrue (is_text_value value)) initial
    → All AreBytes trailing → AsksFor path timeout initial trailing head
    → IsHead (request_fields path timeout initial trailing) head
unfolding tail_of
is_head path timeout initial trailing head is_path is_timeout all_texts all_bytes asks =
    let are_texts : Each (λ (value : List ℕ). IsTrue (is_text_value value)) initial =
    each_from (λ value. IsTrue (is_text_value value)) initial all_texts in
    let are_bytes : Each AreBytes trailing = each_from AreBytes trailing all_bytes in
    let tail = tail_of timeout initial trailing in
    let unnamed =
    λ (name : List ℕ)
    (t : (text : List ℕ) → is_named name (field_of (codes "grpc-timeout") text) ≡ false)
    (i : (value : List ℕ) → is_named name (initial_field value) ≡ false)
    (b : (value : List ℕ) → is_named name (trailing_field value) ≡ false).
    tail_always (λ field. is_named name field ≡ false) timeout initial trailing t i b in
    record {
      well_formed =
          well_formed path tail is_path
          (tail_lawful timeout initial trailing is_timeout are_texts are_bytes)
          (tail_always (λ field. is_pseudo_header field ≡ false) timeout initial trailing
          (λ text. refl) (λ value. refl) (λ value. refl))
          (unnamed (codes ":method") (λ text. refl) (λ value. refl) (λ value. refl))
          (unnamed (codes ":scheme") (λ text. refl) (λ value. refl) (λ value. refl))
          (unnamed (codes ":path") (λ text. refl) (λ value. refl) (λ value. refl))
          (unnamed (codes ":authority") (λ text. refl) (λ value. refl) (λ value. refl));
      post = refl;
      grpc = ([], refl);
      path = ap Some (sym asks.path_is);
      timeout =
          timeout_said timeout (first_of (codes "grpc-timeout") tail) head.timeout
          (timeout_found timeout initial trailing) asks.timeout_is;
      encoding = rw (no_encoding timeout initial trailing) asks.uncompressed;
      initial =
          asks.initial_is
          ∙ sym (ap (filter is_printable)
          (tail_values (codes "x-grpc-test-echo-initial") timeout initial trailing refl
          ∙ initial_values initial trailing)
          ∙ all_printable initial are_texts);
      trailing =
          subst (λ (texts : List (List ℕ)). AreEchoes texts head.echo_trailing) (sym
          (tail_values (codes "x-grpc-test-echo-trailing-bin") timeout initial trailing refl
          ∙ trailing_values initial trailing))
          (rw asks.trailing_is (all_echoed trailing are_bytes));
    }

-- what holds of the texts that references point to
pub all_now : (P : List ℕ → Type 0) (values : List (Bor (List ℕ)))
    → All (λ (value : Bor (List ℕ)). P value.now) values
    → All P (map (λ (value : Bor (List ℕ)). value.now) values)
all_now P values all = All-map P (λ (value : Bor (List ℕ)). value.now) values all
