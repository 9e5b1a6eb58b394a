-- The computed reading is the one that the definitions give, and there is one alone.
use Rattle.std.proofs.Common.{
  ◌≡◌,
  ℕ,
  zero,
  suc,
  ◌+◌,
  ◌≤◌,
  List,
  [],
  ◌∷◌,
  ◌++◌,
  length,
  Option,
  Some,
  None,
  refl,
  sym,
  ap,
  subst,
  ◌∙◌,
  append_assoc,
  arith,
  inl,
  inr,
}
use Rattle.std.specs.List.{All}
use Rattle.std.proofs.lemmas.List.{
  length-append,
  get_or-append-add,
  get_or_append_left,
  get_or_past,
  take-append-le,
  append-nil,
}
use Rattle.std.proofs.lemmas.Bool.{cases_lt}
use Rattle.std.specs.Prelude.{MatchOption}
use Rattle.lpm.specs.declared.fault.LpmFault.TheVariants.{
  Compressed,
  BadFlag,
  TooLong,
  CutAtEnd,
  OutOfMemory,
}
use Rattle.std.proofs.lemmas.List.Elements.{All-nil, All-cons, All-head, All-tail, All-append}
use Rattle.std.proofs.lemmas.Grind.{flat_map-append}
use Rattle.lpm.specs.declared.fault.LpmFault.{LpmFault}
use Rattle.lpm.specs.Messages.{
  announced,
  frame,
  frames,
  IsMessage,
  IsUnfinished,
  IsFaulty,
  Spells,
  IsFaultyAfter,
  AreBytes,
}
use Rattle.lpm.specs.Reading.{
  Front,
  Whole,
  Unfinished,
  Faulty,
  front_of,
  Reading,
  ended,
  with_front,
  reading_behind,
  reading_within,
  reading_of,
  messages_of,
  rest_of,
  fault_of,
}
use Rattle.lpm.proofs.Fronts.{
  length-frame,
  IsFront,
  front_of-frame,
  front_of-unfinished,
  front_of-faulty,
  front_is,
}

-- what stands behind the messages
abbrev pub Stops : List ℕ → Option LpmFault → Type 0
Stops rest None = IsUnfinished rest
Stops rest (Some fault) = IsFaulty rest fault

pub record IsReading (bytes : List ℕ) (reading : Reading) : Type 0 where
  pub whole : bytes ≡ frames reading.messages ++ reading.rest
  pub each : All IsMessage reading.messages
  pub stops : Stops reading.rest reading.fault

abbrev pub made : List (List ℕ) → List ℕ → Option LpmFault → Reading
made messages rest fault = record { messages = messages; rest = rest; fault = fault }

pub frames-cons : (message : List ℕ) (messages : List (List ℕ)) (rest : List ℕ)
    → frames (message ∷ messages) ++ rest ≡ frame message ++ (frames messages ++ rest)
frames-cons message messages rest = append_assoc (frame message) (frames messages) rest

pub frames-push : (messages : List (List ℕ)) (message rest : List ℕ)
    → frames (messages ++ message ∷ []) ++ rest ≡ frames messages ++ (frame message ++ rest)
frames-push messages message rest =
    ap (λ (b : List ℕ). b ++ rest) (flat_map-append frame messages (message ∷ []))
    ∙ append_assoc (frames messages) (frame message ++ []) rest
    ∙ ap (λ (b : List ℕ). frames messages ++ (b ++ rest)) (append-nil (frame message))

-- ---- from what the definitions say to what is computed

front_of-stops : (rest : List ℕ) (fault : Option LpmFault) → Stops rest fault
    → (read : List ℕ → Reading) → reading_behind (front_of rest) rest read ≡ ended rest fault
front_of-stops rest None stops read = rw (front_of-unfinished rest stops) refl
front_of-stops rest (Some fault) stops read = rw (front_of-faulty rest fault stops) refl

pub reading_within-spelled : (n : ℕ) (messages : List (List ℕ)) (rest : List ℕ)
    (fault : Option LpmFault)
    → All IsMessage messages → Stops rest fault → length (frames messages ++ rest) ≤ n
    → reading_within n (frames messages ++ rest) ≡ made messages rest fault
unfolding reading_within
reading_within-spelled zero [] rest fault each stops enough =
    front_of-stops rest fault stops (λ left. ended left None)
reading_within-spelled (suc n) [] rest fault each stops enough =
    front_of-stops rest fault stops (reading_within n)
reading_within-spelled zero (message ∷ messages) rest fault each stops enough =
    absurd (omega (
      arith,
      enough,
      ap length (frames-cons message messages rest),
      length-append (frame message) (frames messages ++ rest),
      length-frame message,
    ))
reading_within-spelled (suc n) (message ∷ messages) rest fault each stops enough =
    let behind = frames messages ++ rest in
    let front : front_of (frame message ++ behind) ≡ Whole message behind =
    front_of-frame message behind (All-head IsMessage message messages each) in
    let later : reading_within n behind ≡ made messages rest fault =
    reading_within-spelled n messages rest fault
    (All-tail IsMessage message messages each) stops (omega (
      arith,
      enough,
      ap length (frames-cons message messages rest),
      length-append (frame message) behind,
      length-frame message,
    )) in
    ap (reading_within (suc n)) (frames-cons message messages rest)
    ∙ ap (λ (f : Front). reading_behind f (frame message ++ behind) (reading_within n)) front
    ∙ ap (with_front message) later

pub reading_of-spelled : (bytes : List ℕ) (messages : List (List ℕ)) (rest : List ℕ)
    (fault : Option LpmFault)
    → bytes ≡ frames messages ++ rest → All IsMessage messages → Stops rest fault
    → reading_of bytes ≡ made messages rest fault
unfolding reading_of
reading_of-spelled bytes messages rest fault whole each stops =
    ap (λ (b : List ℕ). reading_within (length b) b) whole
    ∙ reading_within-spelled (length (frames messages ++ rest)) messages rest fault each
    stops (omega arith)

pub reading_of-Spells : (bytes : List ℕ) (messages : List (List ℕ)) (rest : List ℕ)
    → Spells bytes messages rest → reading_of bytes ≡ made messages rest None
reading_of-Spells bytes messages rest s =
    reading_of-spelled bytes messages rest None s.whole s.each s.unfinished

pub reading_of-IsFaultyAfter : (bytes : List ℕ) (messages : List (List ℕ)) (fault : LpmFault)
    → (f : IsFaultyAfter bytes messages fault)
    → reading_of bytes ≡ made messages f.rest (Some fault)
reading_of-IsFaultyAfter bytes messages fault f =
    reading_of-spelled bytes messages f.rest (Some fault) f.whole f.each f.faulty

-- ---- and back

AreBytes-behind : (front rest : List ℕ) → AreBytes (front ++ rest) → AreBytes rest
AreBytes-behind front rest fits i =
    rw (← get_or-append-add front rest i 0) (fits (length front + i))

AreBytes-front : (front rest : List ℕ) → AreBytes (front ++ rest) → AreBytes front
AreBytes-front front rest fits i = elim (cases_lt i (length front)) [
  | inl lt ↦ rw (← get_or_append_left front rest 0 i lt) (fits i)
  | inr le ↦ rw (get_or_past front i 0 le) (omega arith)
]

ended_is_reading : (bytes : List ℕ) (fault : Option LpmFault) → Stops bytes fault
    → IsReading bytes (ended bytes fault)
ended_is_reading bytes fault stops =
    record { whole = refl; each = All-nil IsMessage; stops = stops }

with_front_is_reading : (bytes message rest : List ℕ) (reading : Reading) → IsMessage message
    → bytes ≡ frame message ++ rest → IsReading rest reading
    → IsReading bytes (with_front message reading)
with_front_is_reading bytes message rest reading fits whole later = record {
  whole =
      whole ∙ ap (λ (b : List ℕ). frame message ++ b) later.whole
      ∙ sym (frames-cons message reading.messages reading.rest);
  each = All-cons IsMessage message reading.messages fits later.each;
  stops = later.stops;
}

behind_is_reading : (front : Front) (bytes : List ℕ) (read : List ℕ → Reading) → AreBytes bytes
    → IsFront bytes front
    → ((rest : List ℕ) → AreBytes rest → length rest + 5 ≤ length bytes
    → IsReading rest (read rest))
    → IsReading bytes (reading_behind front bytes read)
behind_is_reading (Whole message rest) bytes read fits front later =
    with_front_is_reading bytes message rest (read rest) front.0 front.1
    (later rest (AreBytes-behind (frame message) rest (subst AreBytes front.1 fits))
    (omega (arith, ap length front.1, length-append (frame message) rest, length-frame message)))
behind_is_reading Unfinished bytes read fits front later = ended_is_reading bytes None front
behind_is_reading (Faulty fault) bytes read fits front later =
    ended_is_reading bytes (Some fault) front

reading_within_is : (n : ℕ) (bytes : List ℕ) → AreBytes bytes → length bytes ≤ n
    → IsReading bytes (reading_within n bytes)
unfolding reading_within
reading_within_is zero bytes fits enough =
    behind_is_reading (front_of bytes) bytes (λ rest. ended rest None) fits (front_is bytes fits)
    (λ rest rest_fits shorter. absurd (omega (arith, shorter, enough)))
reading_within_is (suc n) bytes fits enough =
    behind_is_reading (front_of bytes) bytes (reading_within n) fits (front_is bytes fits)
    (λ rest rest_fits shorter. reading_within_is n rest rest_fits (omega (arith, shorter, enough)))

pub reading_of_is : (bytes : List ℕ) → AreBytes bytes → IsReading bytes (reading_of bytes)
unfolding reading_of
reading_of_is bytes fits = reading_within_is (length bytes) bytes fits (omega arith)

-- ---- a longer list

pub reading_of-longer : (bytes more : List ℕ) (messages : List (List ℕ)) (rest : List ℕ)
    → bytes ≡ frames messages ++ rest → All IsMessage messages → AreBytes (bytes ++ more)
    → messages_of (bytes ++ more) ≡ messages ++ messages_of (rest ++ more)
reading_of-longer bytes more messages rest whole each fits =
    let regrouped : bytes ++ more ≡ frames messages ++ (rest ++ more) =
    ap (λ (b : List ℕ). b ++ more) whole ∙ append_assoc (frames messages) rest more in
    let later =
    reading_of_is (rest ++ more)
    (AreBytes-behind (frames messages) (rest ++ more) (subst AreBytes regrouped fits)) in
    let tail = reading_of (rest ++ more) in
    let all : bytes ++ more ≡ frames (messages ++ tail.messages) ++ tail.rest =
    regrouped
    ∙ ap (λ (b : List ℕ). frames messages ++ b) later.whole
    ∙ sym (append_assoc (frames messages) (frames tail.messages) tail.rest)
    ∙ ap (λ (b : List ℕ). b ++ tail.rest) (sym (flat_map-append frame messages tail.messages)) in
    ap (λ (r : Reading). r.messages) (reading_of-spelled (bytes ++ more)
    (messages ++ tail.messages) tail.rest tail.fault all
    (All-append IsMessage messages tail.messages each later.each) later.stops)

-- ---- the laws

some_reading : (bytes : List ℕ) (reading : Reading) → IsReading bytes reading
    → MatchOption reading.fault (Spells bytes reading.messages reading.rest)
    (IsFaultyAfter bytes reading.messages)
some_reading bytes reading is = by_fault reading.fault is.stops
  where
    by_fault : (fault : Option LpmFault) → Stops reading.rest fault
        → MatchOption fault (Spells bytes reading.messages reading.rest)
        (IsFaultyAfter bytes reading.messages)
    by_fault None stops = record { whole = is.whole; each = is.each; unfinished = stops }
    by_fault (Some fault) stops =
        record { rest = reading.rest; whole = is.whole; each = is.each; faulty = stops }

pub reading_exists : (bytes : List ℕ) → AreBytes bytes
    → MatchOption (fault_of bytes) (Spells bytes (messages_of bytes) (rest_of bytes))
    (IsFaultyAfter bytes (messages_of bytes))
reading_exists bytes fits = some_reading bytes (reading_of bytes) (reading_of_is bytes fits)

pub Spells-read : (bytes : List ℕ) (messages : List (List ℕ)) (rest : List ℕ)
    → Spells bytes messages rest
    → (messages_of bytes ≡ messages) × (rest_of bytes ≡ rest) × (fault_of bytes ≡ None)
Spells-read bytes messages rest s =
    let e = reading_of-Spells bytes messages rest s in (
      ap (λ (r : Reading). r.messages) e,
      ap (λ (r : Reading). r.rest) e,
      ap (λ (r : Reading). r.fault) e,
    )

pub IsFaultyAfter-read : (bytes : List ℕ) (messages : List (List ℕ)) (fault : LpmFault)
    → IsFaultyAfter bytes messages fault
    → (messages_of bytes ≡ messages) × (fault_of bytes ≡ Some fault)
IsFaultyAfter-read bytes messages fault f =
    let e = reading_of-IsFaultyAfter bytes messages fault f in
    (ap (λ (r : Reading). r.messages) e, ap (λ (r : Reading). r.fault) e)

pub never_both : (bytes : List ℕ) (messages others : List (List ℕ)) (rest : List ℕ)
    (fault : LpmFault)
    → Spells bytes messages rest → IsFaultyAfter bytes others fault → ⊥
never_both bytes messages others rest fault s f =
    let none = (Spells-read bytes messages rest s).2 in
    let some = (IsFaultyAfter-read bytes others fault f).1 in
    cc

pub longer_messages : (bytes more : List ℕ) → AreBytes (bytes ++ more)
    → (later : List (List ℕ)) × (messages_of (bytes ++ more) ≡ messages_of bytes ++ later)
longer_messages bytes more fits =
    let is = reading_of_is bytes (AreBytes-front bytes more fits) in (
      messages_of (rest_of bytes ++ more),
      reading_of-longer bytes more (messages_of bytes) (rest_of bytes) is.whole is.each fits,
    )

pub IsFaulty-longer : (rest more : List ℕ) (fault : LpmFault) → IsFaulty rest fault
    → IsFaulty (rest ++ more) fault
unfolding announced
IsFaulty-longer [] more fault h = absurd h
IsFaulty-longer (flag ∷ bytes) more Compressed h = h
IsFaulty-longer (flag ∷ bytes) more BadFlag h = h
IsFaulty-longer (flag ∷ bytes) more TooLong h =
    (h.0, omega (arith, h.1, length-append bytes more), rw (take-append-le 4 bytes more h.1) h.2)
IsFaulty-longer (flag ∷ bytes) more CutAtEnd h = absurd h
IsFaulty-longer (flag ∷ bytes) more OutOfMemory h = absurd h

pub IsFaultyAfter-longer : (bytes more : List ℕ) (messages : List (List ℕ)) (fault : LpmFault)
    → IsFaultyAfter bytes messages fault → IsFaultyAfter (bytes ++ more) messages fault
IsFaultyAfter-longer bytes more messages fault f = record {
  rest = f.rest ++ more;
  whole = ap (λ (b : List ℕ). b ++ more) f.whole ∙ append_assoc (frames messages) f.rest more;
  each = f.each;
  faulty = IsFaulty-longer f.rest more fault f.faulty;
}
