-- Fields are one head of a call, or have one first fault.
use Rattle.std.proofs.Common.{
  ◌≡◌,
  ◌⊎◌,
  ℕ,
  zero,
  suc,
  ◌*◌,
  ◌≤◌,
  List,
  [],
  ◌∷◌,
  ◌++◌,
  replicate,
  refl,
  sym,
  ap,
  subst,
  ◌∙◌,
  append_assoc,
  arith,
  inl,
  inr,
}
use Rattle.std.specs.Prelude.{Option, Some, None, MatchOption, Ok, ◌==◌, if◌then◌else◌, codes}
use Rattle.std.specs.Str.Parse.{digits_value}
use Rattle.std.proofs.lemmas.Bool.{cases_lt, true≢false}
use Rattle.std.proofs.lemmas.List.{append-nil}
use Rattle.lists.specs.declared.field.Field.{Field}
use Rattle.callhead.specs.declared.head.Encoding.{Encoding}
use Rattle.callhead.specs.declared.head.CallHead.{CallHead}
use Rattle.callhead.specs.declared.fault.HeadFault.{HeadFault}
use Rattle.callhead.specs.declared.fault.HeadFault.TheVariants.{
  Malformed,
  NotPost,
  NotGrpc,
  BadTimeout,
  OutOfMemory,
}
use Rattle.callhead.specs.Faults.{code_of}
use Rattle.callhead.specs.Fields.{first_of, values_of}
use Rattle.callhead.specs.Timeouts.{IsTimeout, nanoseconds_in}
use Rattle.callhead.specs.BinValues.{unpadded, padded, IsPart, IsBinValues}
use Rattle.callhead.specs.Parts.{IsWithout, IsPadded, ReadsPart}
use Rattle.callhead.specs.Heads.{AreEchoesOf, AreEchoes, IsHead, Stands, IsFirstFault}
use Rattle.callhead.proofs.TimeoutLemmas.{last_is}
use Rattle.callhead.proofs.Symbols.{sign_is_mark, unpadded_without, unpadded_is, padded_is}
use Rattle.callhead.proofs.PartLemmas.{
  not_without,
  part_without,
  padded_part,
  unpadded_part,
  reads_padded,
  reads_unpadded,
  values_at,
  values_last,
}

-- ---- the timeout

some_one : {X : Type 0} (x y : X) → Some x ≡ Some y → x ≡ y
some_one x y e = cc

timeout_one : (text : List ℕ) (m n : ℕ) → IsTimeout text m → IsTimeout text n → m ≡ n
timeout_one text m n a b =
    let parts = last_is a.digits a.letter b.digits b.letter (sym a.whole ∙ b.whole) in
    let unit : a.unit ≡ b.unit =
    some_one a.unit b.unit (sym a.named ∙ ap nanoseconds_in parts.1 ∙ b.named) in
    a.product ∙ ap (λ (d : List ℕ). digits_value 10 d * a.unit) parts.0
    ∙ ap (λ (u : ℕ). digits_value 10 b.digits * u) unit ∙ sym b.product

abbrev TimeoutOf : Option (List ℕ) → Option ℕ → Type 0
TimeoutOf first timeout =
    MatchOption first (timeout ≡ None)
    (λ text. (nanoseconds : ℕ) × IsTimeout text nanoseconds × (timeout ≡ Some nanoseconds))

timeouts_one : (first : Option (List ℕ)) (timeout other : Option ℕ) → TimeoutOf first timeout
    → TimeoutOf first other → timeout ≡ other
timeouts_one None timeout other e f = e ∙ sym f
timeouts_one (Some text) timeout other (m, is, e) (n, js, f) =
    e ∙ ap (λ (k : ℕ). Some k) (timeout_one text m n is js) ∙ sym f

-- ---- binary values

signs_end : (n : ℕ) (front : List ℕ) → IsPadded (front ++ replicate (suc n) 0x3D)
signs_end zero front = (front, refl)
signs_end (suc n) front =
    let rest = signs_end n (front ++ 0x3D ∷ []) in
    (rest.0, sym (append_assoc front (0x3D ∷ []) (replicate (suc n) 0x3D)) ∙ rest.1)

signs : (value : List ℕ) (n : ℕ)
    → IsPadded (unpadded value ++ replicate n 0x3D)
    ⊎ (unpadded value ++ replicate n 0x3D ≡ unpadded value)
signs value zero = inr (append-nil (unpadded value))
signs value (suc n) = inl (signs_end n (unpadded value))

padded_or : (value : List ℕ) → IsPadded (padded value) ⊎ (padded value ≡ unpadded value)
unfolding padded
padded_or value = signs value _

not_padded : (part value : List ℕ) → part ≡ unpadded value → IsPadded part → ⊥
not_padded part value e (front, ends) =
    not_without 0x3D front []
    (subst (IsWithout 0x3D) (sym e ∙ ends) (unpadded_without 0x3D sign_is_mark value))

ends_or_not : (part value : List ℕ) → IsPart part value → IsPadded part ⊎ (IsPadded part → ⊥)
ends_or_not part value (fits, inl e) = inr (not_padded part value e)
ends_or_not part value (fits, inr e) = elim (padded_or value) [
  | inl ends ↦ inl (subst IsPadded (sym e) ends)
  | inr same ↦ inr (not_padded part value (e ∙ same))
]

part_one : (part a b : List ℕ) → IsPart part a → IsPart part b → a ≡ b
part_one part a b is js = elim (ends_or_not part a is) [
  | inl ends ↦
      let reads : ReadsPart part (Some a) =
      reads_padded part ends {E = Unit {0}} (Ok (Some a)) tt
      (is.0, padded_part part a ends is ∙ sym (padded_is a)) in
      sym (reads.1 b js)
  | inr not ↦
      let reads : ReadsPart part (Some a) =
      reads_unpadded part not {E = Unit {0}} (Ok (Some a)) tt
      (is.0, unpadded_part part a not is ∙ sym (unpadded_is a)) in
      sym (reads.1 b js)
]

values_one : (text : List ℕ) (vs ws : List (List ℕ)) → IsBinValues text vs
    → IsBinValues text ws → vs ≡ ws
values_one text [] ws is js = absurd is
values_one text (v ∷ []) ws is js =
    let last = values_last text ws (part_without text v is) js in
    ap (λ (u : List ℕ). u ∷ []) (part_one text v last.0 is last.2) ∙ sym last.1
values_one text (v ∷ next ∷ vs) ws (part, behind, e, is, others) js =
    let at =
    values_at part behind ws (part_without part v is)
    (subst (λ (t : List ℕ). IsBinValues t ws) e js) in
    ap (λ (u : List ℕ). u ∷ next ∷ vs) (part_one part v at.0 is at.3)
    ∙ ap (λ (us : List (List ℕ)). at.0 ∷ us) (values_one behind (next ∷ vs) at.1 others at.4)
    ∙ sym at.2

-- ---- echoes

echoes_of_one : (text : List ℕ) (here there : List (List ℕ)) → AreEchoesOf text here
    → AreEchoesOf text there → here ≡ there
echoes_of_one text here there (inl is) (inl js) = values_one text here there is js
echoes_of_one text here there (inl is) (inr js) = absurd (js.0 here is)
echoes_of_one text here there (inr is) (inl js) = absurd (is.0 there js)
echoes_of_one text here there (inr is) (inr js) = is.1 ∙ sym js.1

echoes_one : (texts : List (List ℕ)) (es fs : List (List ℕ)) → AreEchoes texts es
    → AreEchoes texts fs → es ≡ fs
echoes_one [] es fs a b = a ∙ sym b
echoes_one (text ∷ texts) es fs (here, behind, e, of, others) (there, rest, f, of', others') =
    e ∙ ap (λ (x : List (List ℕ)). x ++ behind) (echoes_of_one text here there of of')
    ∙ ap (λ (x : List (List ℕ)). there ++ x) (echoes_one texts behind rest others others') ∙ sym f

-- ---- the head

abbrev head_of : List ℕ → Option ℕ → Encoding → List (List ℕ) → List (List ℕ) → CallHead
head_of path timeout encoding initial trailing = record {
  path = path;
  timeout = timeout;
  encoding = encoding;
  echo_initial = initial;
  echo_trailing = trailing;
}

same_head : (a b : CallHead) → a.path ≡ b.path → a.timeout ≡ b.timeout → a.encoding ≡ b.encoding
    → a.echo_initial ≡ b.echo_initial → a.echo_trailing ≡ b.echo_trailing → a ≡ b
same_head a b path timeout encoding initial trailing =
    ap (λ (x : List ℕ). head_of x a.timeout a.encoding a.echo_initial a.echo_trailing) path
    ∙ ap (λ (x : Option ℕ). head_of b.path x a.encoding a.echo_initial a.echo_trailing) timeout
    ∙ ap (λ (x : Encoding). head_of b.path b.timeout x a.echo_initial a.echo_trailing) encoding
    ∙ ap (λ (x : List (List ℕ)). head_of b.path b.timeout b.encoding x a.echo_trailing) initial
    ∙ ap (λ (x : List (List ℕ)). head_of b.path b.timeout b.encoding b.echo_initial x) trailing

pub head_one : (fields : List Field) (a b : CallHead) → IsHead fields a → IsHead fields b → a ≡ b
head_one fields a b is js =
    same_head a b (some_one a.path b.path (sym is.path ∙ js.path))
    (timeouts_one (first_of (codes "grpc-timeout") fields) a.timeout b.timeout
    is.timeout js.timeout)
    (is.encoding ∙ sym js.encoding) (is.initial ∙ sym js.initial)
    (echoes_one (values_of (codes "x-grpc-test-echo-trailing-bin") fields) a.echo_trailing
    b.echo_trailing is.trailing js.trailing)

-- ---- the faults

no_standing : (fault : HeadFault) (fields : List Field) (call : CallHead) → IsHead fields call
    → Stands fault fields → ⊥
no_standing Malformed fields call is stands = true≢false (sym stands ∙ is.well_formed)
no_standing NotPost fields call is stands = stands is.post
no_standing NotGrpc fields call is stands = stands is.grpc
no_standing BadTimeout fields call is stands = stands call.timeout is.timeout
no_standing OutOfMemory fields call is stands = stands

pub head_or_fault : (fault : HeadFault) (fields : List Field) (call : CallHead) → IsHead fields call
    → IsFirstFault fields fault → ⊥
head_or_fault fault fields call is first = no_standing fault fields call is first.stands

abbrev coded : ℕ → HeadFault
coded n =
    if n == 1 then Malformed
    else (if n == 2 then NotPost
    else (if n == 3 then NotGrpc else (if n == 4 then BadTimeout else OutOfMemory)))

coded_again : (fault : HeadFault) → coded (code_of fault) ≡ fault
coded_again Malformed = refl
coded_again NotPost = refl
coded_again NotGrpc = refl
coded_again BadTimeout = refl
coded_again OutOfMemory = refl

least_one : (fields : List Field) (fault other : HeadFault) → IsFirstFault fields fault
    → Stands other fields → code_of fault ≤ code_of other
least_one fields fault other first stands = elim (cases_lt (code_of other) (code_of fault)) [
  | inl less ↦ absurd (first.first other less stands)
  | inr least ↦ least
]

pub head_fault_one : (fields : List Field) (fault other : HeadFault) → IsFirstFault fields fault
    → IsFirstFault fields other → fault ≡ other
head_fault_one fields fault other a b =
    let same : code_of fault ≡ code_of other = omega
    (arith, least_one fields fault other a b.stands, least_one fields other fault b a.stands) in
    sym (coded_again fault) ∙ ap coded same ∙ coded_again other
