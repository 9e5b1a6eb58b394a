-- What was told of each call follows from what a writer keeps of its calls.
use Rattle.std.proofs.Common.{
  ◌≡◌,
  ℕ,
  ◌<◌,
  ◌==◌,
  ◌⊎◌,
  inl,
  inr,
  refl,
  sym,
  ap,
  subst,
  ◌∙◌,
  Bool,
  true,
  false,
  List,
  [],
  ◌∷◌,
  ◌++◌,
  Option,
  Some,
  None,
  length,
  get_or,
  append_assoc,
  nat_eq,
  true≢false,
}
use Rattle.std.specs.Prelude.{map, filter}
use Rattle.std.proofs.lemmas.Bool.{eqb-true, eq-eqb}
use Rattle.std.proofs.lemmas.List.{map-append}
use Rattle.std.proofs.lemmas.List.Elements.{filter-append, All-from_get_or}
use Rattle.account.specs.Accounts.{Begins}
use Rattle.account.specs.declared.call.OutItem.{OutItem}
use Rattle.lists.specs.declared.field.Field.{Field}
use Rattle.hpack_codec.specs.Codec.{Encoding}
use Rattle.hpack_codec.specs.Table.{Table}
use Rattle.outwriter.specs.OpenStreams.{OpenStreams}
use Rattle.outwriter.specs.declared.blocks.HeaderBlock.{HeaderBlock}
use Rattle.outwriter.specs.declared.outbound.Outbound.{Outbound}
use Rattle.outwriter.specs.declared.stream.OpenStream.{OpenStream}
use Rattle.outwriter.specs.Calls.{is_served, IsOther, TellFronts, TellOthers, TellReturned}
use Rattle.outwriter.specs.States.{knows}
use Rattle.outwriter.specs.Parts.{
  Mark,
  Fields,
  End,
  Reset,
  end_mark,
  marks_on,
  spelled,
  IsFrontOf,
  IsPart,
}
use Rattle.outwriter.specs.CallState.{Serves, bytes_marks}
use Rattle.outwriter.specs.Steps.{Step}
use Rattle.outwriter.specs.ToldByNow.{SpellsOf, Owes, block_marks}
use Rattle.outwriter.proofs.Others.{known-opened}
use Rattle.outwriter.proofs.ServeSteps.{append-nil, marks-here, marks-elsewhere}

-- ---- the marks of one stream

pub marks-append : (id : ℕ) (front more : List (ℕ × Mark))
    → marks_on id (front ++ more) ≡ marks_on id front ++ marks_on id more
marks-append id front more =
    ap (λ (l : List (ℕ × Mark)). map (λ (m : ℕ × Mark). m.1) l)
    (filter-append (λ (m : ℕ × Mark). id == m.0) front more)
    ∙ map-append (λ (m : ℕ × Mark). m.1) (filter (λ (m : ℕ × Mark). id == m.0) front)
    (filter (λ (m : ℕ × Mark). id == m.0) more)

-- ---- fronts

pub begins-trans : (a b c : List Mark) → Begins a b → Begins b c → Begins a c
begins-trans a b c (r, e) (s, f) =
    (r ++ s, f ∙ ap (λ (l : List Mark). l ++ s) e ∙ append_assoc a r s)

-- what begins a list with one more begins the list, or is all of it
before-last : (told front rest : List Mark) (x : Mark) → front ++ x ∷ [] ≡ told ++ rest
    → Begins told front ⊎ (told ≡ front ++ x ∷ [])
before-last [] front rest x e = inl (front, refl)
before-last (t ∷ []) [] rest x e = inr cc
before-last (t ∷ u ∷ told) [] rest x e = absurd cc
before-last (t ∷ told) (f ∷ front) rest x e = by (before-last told front rest x cc)
  where
    by : Begins told front ⊎ (told ≡ front ++ x ∷ [])
        → Begins (t ∷ told) (f ∷ front) ⊎ (t ∷ told ≡ f ∷ (front ++ x ∷ []))
    by (inl (r, is)) = inl (r, cc)
    by (inr is) = inr cc

pub front-less : (told rest all : List Mark) → IsFrontOf (told ++ rest) all → IsFrontOf told all
front-less told rest all (inl (r, is)) = inl (rest ++ r, is ∙ append_assoc told rest r)
front-less told rest all (inr (front, code, begins, is)) =
    by (before-last told front rest (Reset code) (sym is))
  where
    by : Begins told front ⊎ (told ≡ front ++ Reset code ∷ []) → IsFrontOf told all
    by (inl f) = inl (begins-trans told front all f begins)
    by (inr e) = inr (front, code, begins, e)

-- ---- calls

-- what was told of an open stream begins what its call's items spell
pub open-begins : (run : List Step) (o : Outbound) (streams : OpenStreams)
    (calls : List (ℕ × List OutItem)) (marks : List (ℕ × Mark))
    → Serves run o streams calls marks → (k : ℕ) (d : ℕ × List OutItem) (stream : OpenStream)
    → k < length calls
    → streams (get_or calls k d).0 ≡ Some stream → is_served (get_or calls k d).0 run ≡ true
    → Begins (marks_on (get_or calls k d).0 marks) (spelled (get_or calls k d).1)
open-begins run o streams calls marks s k d stream within found served =
    by (nat_eq stream.place k) refl
  where
    id : ℕ
    id = (get_or calls k d).0

    by : (b : Bool) → nat_eq stream.place k ≡ b
        → Begins (marks_on (get_or calls k d).0 marks) (spelled (get_or calls k d).1)
    by true e =
        let there = s.exact (get_or calls k d).0 stream found in
        let P : ℕ → Type 0 = λ n.
        marks_on (get_or calls k d).0 marks ++ bytes_marks stream.in_hand
        ≡ spelled (get_or calls n d).1 in
        (bytes_marks stream.in_hand, sym (subst P (eqb-true stream.place k e) (there.1 d).1))
    by false e =
        let there = s.exact (get_or calls k d).0 stream found in
        let not : is_served (get_or calls stream.place d).0 run ≡ false =
        s.apart stream.place k d there.0 within
        (λ same. true≢false (sym (eq-eqb stream.place k same) ∙ e)) (there.1 d).0 in
        let so : is_served (get_or calls stream.place d).0 run ≡ true =
        ap (λ n. is_served n run) (there.1 d).0 ∙ served in
        absurd (true≢false (sym so ∙ not))

-- what was told of each call is a front of what its items spell
pub call-front : (run : List Step) (o : Outbound) (streams : OpenStreams)
    (calls : List (ℕ × List OutItem)) (marks : List (ℕ × Mark))
    → Serves run o streams calls marks → (k : ℕ) (d : ℕ × List OutItem) → k < length calls
    → is_served (get_or calls k d).0 run ≡ true
    → IsFrontOf (marks_on (get_or calls k d).0 marks) (spelled (get_or calls k d).1)
call-front run o streams calls marks s k d within served = by (streams (get_or calls k d).0) refl
  where
    by : (found : Option OpenStream) → streams (get_or calls k d).0 ≡ found
        → IsFrontOf (marks_on (get_or calls k d).0 marks) (spelled (get_or calls k d).1)
    by None e = (s.ended k d within e served).0
    by (Some stream) e = inl (open-begins run o streams calls marks s k d stream within e served)

-- and so is what the run tells by now
front-now : (id : ℕ) (items : List OutItem) (run : List Step) (o : Outbound)
    (marks : List (ℕ × Mark))
    → SpellsOf run o marks
    → IsFrontOf (marks_on id marks) (spelled items)
    → (part : List Mark) × IsPart id run part × IsFrontOf part (spelled items)
front-now id items run o marks (begins, (table, told, rest, tells, owes, is, least)) front = (
  marks_on id told,
  (table, told, tells, refl),
  front-less (marks_on id told) (marks_on id rest) (spelled items)
      (subst (λ (l : List Mark). IsFrontOf l (spelled items))
      (ap (marks_on id) is ∙ marks-append id told rest) front),
)

pub fronts_of : (run : List Step) (o : Outbound) (streams : OpenStreams)
    (calls : List (ℕ × List OutItem)) (marks : List (ℕ × Mark))
    → Serves run o streams calls marks → TellFronts run calls
fronts_of run o streams calls marks s =
    All-from_get_or (λ (call : ℕ × List OutItem).
    is_served call.0 run ≡ true
    → (part : List Mark) × IsPart call.0 run part × IsFrontOf part (spelled call.1)) calls (0, [])
    (λ k within served.
    front-now (get_or calls k (0, [])).0 (get_or calls k (0, [])).1 run o marks s.spells
    (call-front run o streams calls marks s k (0, []) within served))

pub returned_of : (run : List Step) (o : Outbound) (streams : OpenStreams)
    (calls : List (ℕ × List OutItem)) (marks : List (ℕ × Mark))
    → Serves run o streams calls marks → TellReturned run
returned_of run o streams calls marks s id items is served =
    front-now id items run o marks s.spells (s.returned id items is served).1.0

-- ---- other streams

-- what a header block that is begun has yet to tell of a stream: nothing, or all of its marks
abbrev IsBlockRest : List Mark → Type 0
IsBlockRest rest =
    (rest ≡ [])
    ⊎ ((fields : List Field) × (ends_it : Bool) × (rest ≡ Fields fields ∷ end_mark ends_it))

rest-on : (id at : ℕ) (fields : List Field) (ends_it : Bool)
    → IsBlockRest (marks_on id (block_marks at fields ends_it))
rest-on id at fields ends_it = by (id == at) refl
  where
    by : (b : Bool) → (id == at) ≡ b → IsBlockRest (marks_on id (block_marks at fields ends_it))
    by true p = inr (
      fields,
      ends_it,
      subst (λ n. marks_on n (block_marks at fields ends_it) ≡ Fields fields ∷ end_mark ends_it)
          (sym (eqb-true id at p)) (marks-here at (Fields fields ∷ end_mark ends_it)),
    )
    by false p = inl (marks-elsewhere id at (Fields fields ∷ end_mark ends_it) p)

block-rest : (id : ℕ) (run : List Step) (block : Option HeaderBlock) (kept : Option Encoding)
    (table : Table) (rest : List (ℕ × Mark))
    → Owes run block kept table rest
    → IsBlockRest (marks_on id rest)
block-rest id run None kept table rest owes = inl (ap (marks_on id) owes.1)
block-rest id run (Some block) kept table rest
    (begun, fields, next, started, unfinished, on, ends, is_block, limited, of_table, is) =
    subst (λ (l : List (ℕ × Mark)). IsBlockRest (marks_on id l)) (sym is)
    (rest-on id block.id fields block.ends)

not-nil : (front : List Mark) (x : Mark) (back : List Mark) → front ++ x ∷ back ≡ [] → ⊥
not-nil [] x back e = cc
not-nil (y ∷ front) x back e = cc

not-end : (front : List Mark) (fields : List Field) (back : List Mark)
    → front ++ Fields fields ∷ back ≡ End ∷ [] → ⊥
not-end [] fields back e = cc
not-end (y ∷ front) fields back e = not-nil front (Fields fields) back cc

-- what was told before a block's marks is nothing
other-front : (id : ℕ) (run : List Step) (told rest : List Mark) → IsBlockRest rest
    → IsOther id run (told ++ rest) → IsOther id run told
other-front id run told rest (inl none) other =
    subst (IsOther id run) (ap (λ (l : List Mark). told ++ l) none ∙ append-nil told) other
other-front id run [] rest (inr (fields, ends_it, is)) other = inl refl
other-front id run (x ∷ told) rest (inr (fields, ends_it, is)) other =
    by (subst (λ (l : List Mark). IsOther id run (x ∷ (told ++ l))) is other)
  where
    by : IsOther id run (x ∷ (told ++ Fields fields ∷ end_mark ends_it)) → IsOther id run (x ∷ told)
    by (inl e) = absurd cc
    by (inr (inl (code, e))) = absurd (not-nil told (Fields fields) (end_mark ends_it) cc)
    by (inr (inr (found, asked, e))) = absurd (not-end told fields (end_mark ends_it) cc)

-- what was told of each stream that no Open opened
pub others_of : (run : List Step) (o : Outbound) (streams : OpenStreams)
    (calls : List (ℕ × List OutItem)) (marks : List (ℕ × Mark))
    → Serves run o streams calls marks → TellOthers run
others_of run o streams calls marks s id unopened =
    let spells = s.spells.1 in
    let table : Table = spells.0 in
    let told : List (ℕ × Mark) = spells.1 in
    let rest : List (ℕ × Mark) = spells.2 in (
      marks_on id told,
      (table, told, spells.3, refl),
      other-front id run (marks_on id told) (marks_on id rest)
          (block-rest id run o.block o.encoder table rest spells.4)
          (subst (IsOther id run) (ap (marks_on id) spells.5 ∙ marks-append id told rest)
          (s.uncalled id (unknown (knows o.states id) refl)).1),
    )
  where
    unknown : (b : Bool) → knows o.states id ≡ b → b ≡ false
    unknown true e = absurd (true≢false (sym (known-opened run o s.brought id e) ∙ unopened))
    unknown false e = refl
