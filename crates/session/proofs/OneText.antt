-- The entries of a text, and those of a text that begins with it.
use Rattle.std.proofs.Common.{
  ◌≡◌,
  ℕ,
  List,
  [],
  ◌∷◌,
  ◌++◌,
  refl,
  sym,
  ap,
  subst,
  ◌∙◌,
  append_assoc,
  inl,
  lit≤,
}
use Rattle.std.specs.Prelude.{Option, Some, None}
use Rattle.std.proofs.lemmas.List.{append-nil}
use Rattle.h2frame.specs.declared.fault.FrameFault.{FrameFault}
use Rattle.h2frame.specs.FrameList.{Entry, Joined, Ends}
use Rattle.h2frame.proofs.OneReading.{
  Less,
  Stops,
  Takes,
  front_of,
  front_of_entry,
  front_of_faulty,
  front_of_unfinished,
}

takes_one : (e f : Entry) (x y : List ℕ) → Takes e x ≡ Takes f y → (e ≡ f) × (x ≡ y)
takes_one e f x y same = (cc, cc)

-- what stands at the front of both
front_one : (bytes piece : List ℕ) (e f : Entry) (es fs : List Entry) (rest last : List ℕ)
    (j : Joined bytes (e ∷ es) rest) (k : Joined (bytes ++ piece) (f ∷ fs) last)
    → (e ≡ f) × (j.1 ++ piece ≡ k.1)
front_one bytes piece e f es fs rest last (text, more, parts, spells, others)
    (text', more', parts', spells', others') =
    let whole : text ++ (more ++ piece) ≡ text' ++ more' =
    sym (append_assoc text more piece) ∙ ap (λ (b : List ℕ). b ++ piece) (sym parts) ∙ parts' in
    takes_one e f (more ++ piece) more' (sym (front_of_entry e text (more ++ piece) spells)
    ∙ ap front_of whole ∙ front_of_entry f text' more' spells')

-- one list begins the other
pub joined_meet : (bytes piece : List ℕ) (es fs : List Entry) (rest last : List ℕ)
    → Joined bytes es rest → Joined (bytes ++ piece) fs last
    → (x : List Entry) × (y : List Entry) × (es ++ x ≡ fs ++ y)
joined_meet bytes piece [] fs rest last j k = (fs, [], sym (append-nil fs))
joined_meet bytes piece (e ∷ es) [] rest last j k = ([], e ∷ es, append-nil (e ∷ es))
joined_meet bytes piece (e ∷ es) (f ∷ fs) rest last j k =
    let one = front_one bytes piece e f es fs rest last j k in
    let tail =
    joined_meet j.1 piece es fs rest last j.4
    (subst (λ (b : List ℕ). Joined b fs last) (sym one.1) k.4) in (
      tail.0,
      tail.1,
      ap (λ (z : Entry). z ∷ (es ++ tail.0)) one.0 ∙ ap (λ (zs : List Entry). f ∷ zs) tail.2,
    )

-- an entry doesn't stand where bytes end or are faulty
no_entry : (bytes : List ℕ) (end : Option FrameFault) (e : Entry) (text more : List ℕ)
    → Ends end bytes → front_of bytes ≡ Takes e more → ⊥
no_entry bytes None e text more h front =
    let bad : Less ≡ Takes e more = sym (front_of_unfinished bytes h) ∙ front in
    cc bad
no_entry bytes (Some fault) e text more h front =
    let bad : Stops fault ≡ Takes e more = sym (front_of_faulty fault bytes h) ∙ front in
    cc bad

-- where the longer text is read as far as it goes, its list goes on from the shorter one's
pub joined_ahead : (bytes piece : List ℕ) (es fs : List Entry) (rest last : List ℕ)
    (end : Option FrameFault)
    → Joined bytes es rest → Joined (bytes ++ piece) fs last → Ends end last
    → (z : List Entry) × (fs ≡ es ++ z)
joined_ahead bytes piece [] fs rest last end j k h = (fs, refl)
joined_ahead bytes piece (e ∷ es) [] rest last end (text, more, parts, spells, others) k h =
    let whole : last ≡ text ++ (more ++ piece) =
    sym k ∙ ap (λ (b : List ℕ). b ++ piece) parts ∙ append_assoc text more piece in
    absurd (no_entry last end e text (more ++ piece) h
    (ap front_of whole ∙ front_of_entry e text (more ++ piece) spells))
joined_ahead bytes piece (e ∷ es) (f ∷ fs) rest last end j k h =
    let one = front_one bytes piece e f es fs rest last j k in
    let tail =
    joined_ahead j.1 piece es fs rest last end j.4
    (subst (λ (b : List ℕ). Joined b fs last) (sym one.1) k.4) h in (
      tail.0,
      ap (λ (zs : List Entry). f ∷ zs) tail.1 ∙ ap (λ (z : Entry). z ∷ (es ++ tail.0)) (sym one.0),
    )

-- no bytes are no entry
pub none_joined : (entry : Entry) (entries : List Entry) (rest : List ℕ)
    → Joined [] (entry ∷ entries) rest → ⊥
none_joined entry entries rest (text, more, parts, spells, others) =
    no_entry [] None entry text more (inl (lit≤ tt))
    (ap front_of parts ∙ front_of_entry entry text more spells)
