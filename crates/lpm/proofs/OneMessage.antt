-- Bytes that are one message with its prefix.
use Rattle.std.proofs.Common.{
  ◌≡◌,
  ℕ,
  ◌+◌,
  Bool,
  true,
  false,
  ltb,
  eqb,
  List,
  [],
  ◌∷◌,
  ◌++◌,
  length,
  drop,
  Ok,
  Err,
  refl,
  sym,
  ap,
  ◌∙◌,
  arith,
  inl,
  inr,
}
use Rattle.std.specs.Int.{w32, from_be_bytes, to_be_bytes}
use Rattle.std.specs.Prelude.{IsTrue, ◌↔◌}
use Rattle.std.proofs.lemmas.Bool.{cases_eq, eq-eqb, ne_eqb, le-ltb, false_from_ne_true}
use Rattle.std.proofs.lemmas.List.{append-nil, take_at, length-append}
use Rattle.std.proofs.lemmas.Nat.{from_be_bytes-to_be_bytes_4}
use Rattle.lpm.specs.declared.fault.LpmFault.{LpmFault}
use Rattle.lpm.specs.Messages.{max_message_len, frame, announced, IsMessage, IsFrame, AreBytes}
use Rattle.lpm.specs.Reading.{Front, Whole, Unfinished, Faulty, front_of, is_alone, is_frame}
use Rattle.lpm.specs.Fronts.{extent_of}
use Rattle.lpm.proofs.Fronts.{
  AreBytes-take,
  length-frame,
  frame-append,
  IsFront,
  front_of-frame,
  front_is,
}
use Rattle.lpm.proofs.Tails.{whole_from}

announced-frame : (message : List ℕ) → IsMessage message
    → announced (to_be_bytes w32 (length message) ++ (message ++ [])) ≡ length message
unfolding announced
announced-frame message fits =
    ap (from_be_bytes w32) (take_at (to_be_bytes w32 (length message)) (message ++ []) 4 refl)
    ∙ from_be_bytes-to_be_bytes_4 (length message) (omega (arith, fits))

extent_of-frame : (message : List ℕ) → IsMessage message
    → extent_of (frame message) ≡ Ok (5 + length message)
unfolding extent_of
extent_of-frame message fits =
    let behind = to_be_bytes w32 (length message) ++ (message ++ []) in
    let long : ltb (length behind) 4 ≡ false =
    le-ltb _ _ (omega (arith, length-append (to_be_bytes w32 (length message)) (message ++ []))) in
    let lawful : ltb max_message_len (length message) ≡ false = le-ltb _ _ fits in
    ap extent_of (sym (append-nil (frame message)) ∙ frame-append message [])
    ∙ rw (long, announced-frame message fits, lawful) refl

pub is_frame-IsFrame : (bytes : List ℕ) → IsFrame bytes → is_frame bytes ≡ true
is_frame-IsFrame bytes (message, fits, is) =
    ap (λ (b : List ℕ). is_frame b) (is ∙ sym (append-nil (frame message)))
    ∙ ap is_alone (front_of-frame message [] fits)

alone_front : (bytes : List ℕ) (front : Front) → IsFront bytes front
    → is_alone front ≡ true → IsFrame bytes
alone_front bytes (Whole message []) is e = (message, is.0, is.1 ∙ append-nil (frame message))
alone_front bytes (Whole message (byte ∷ rest)) is e = absurd cc
alone_front bytes Unfinished is e = absurd cc
alone_front bytes (Faulty fault) is e = absurd cc

pub IsFrame-is_frame : (bytes : List ℕ) → AreBytes bytes → is_frame bytes ≡ true → IsFrame bytes
IsFrame-is_frame bytes fits e = alone_front bytes (front_of bytes) (front_is bytes fits) e

extent_if_frame : (bytes : List ℕ) → AreBytes bytes → is_frame bytes ≡ true
    → extent_of bytes ≡ Ok (length bytes)
extent_if_frame bytes fits e =
    let f = IsFrame-is_frame bytes fits e in
    ap extent_of f.2 ∙ extent_of-frame f.0 f.1
    ∙ ap (λ (n : ℕ). Ok n) (sym (length-frame f.0) ∙ sym (ap length f.2))

-- what the test of the length says
pub frame_by_length : (bytes : List ℕ) (len : ℕ) → AreBytes bytes → Ok len ≡ extent_of bytes
    → eqb len (length bytes) ≡ is_frame bytes
frame_by_length bytes len fits says = elim (cases_eq len (length bytes)) [
  | inl same ↦
      let w = whole_from bytes len (AreBytes-take 5 bytes fits) (sym says) (sym same) in
      eq-eqb len (length bytes) same ∙ sym (is_frame-IsFrame bytes (drop 5 bytes, w.0, w.1))
  | inr other ↦
      ne_eqb len (length bytes) other
      ∙ sym (false_from_ne_true (is_frame bytes)
      (λ e. let same = says ∙ extent_if_frame bytes fits e in other (cc)))
]

pub no_frame : (bytes : List ℕ) (fault : LpmFault) → AreBytes bytes → Err fault ≡ extent_of bytes
    → false ≡ is_frame bytes
no_frame bytes fault fits says =
    sym (false_from_ne_true (is_frame bytes)
    (λ e. let same = says ∙ extent_if_frame bytes fits e in cc))

pub tested : (bytes : List ℕ) (test : Bool) → AreBytes bytes → test ≡ is_frame bytes
    → IsTrue test ↔ IsFrame bytes
tested bytes test fits e =
    (λ yes. IsFrame-is_frame bytes fits (sym e ∙ yes), λ frame. e ∙ is_frame-IsFrame bytes frame)
