-- The frame list of bytes: there is one and no other, and a longer one goes on from it.
use Rattle.std.proofs.Common.{
  ◌≡◌,
  ℕ,
  List,
  [],
  ◌∷◌,
  ◌++◌,
  refl,
  sym,
  ap,
  subst,
  ◌∙◌,
  append_assoc,
  arith,
}
use Rattle.std.specs.Prelude.{Option, Some, None}
use Rattle.std.proofs.lemmas.List.{append-nil, length-append}
use Rattle.h2frame.specs.declared.fault.FrameFault.{FrameFault}
use Rattle.h2frame.specs.declared.fault.FrameFault.TheVariants.{
  TooLong,
  BadLength,
  BadPadding,
  WrongStream,
  ZeroIncrement,
  OutOfMemory,
}
use Rattle.h2frame.specs.declared.frame.FrameHead.{FrameHead}
use Rattle.h2frame.specs.FrameList.{
  Entry,
  Joined,
  BeginsWith,
  HasFaultyHead,
  IsFaulty,
  Ends,
  FrameList,
}
use Rattle.h2frame.proofs.OneReading.{
  Front,
  Less,
  Stops,
  Takes,
  front_of,
  front_of_entry,
  front_of_faulty,
  front_of_unfinished,
}

-- ---- joined entries

pub joined_append : (bytes : List ℕ) (es fs : List Entry) (rest last : List ℕ)
    → Joined bytes es rest → Joined rest fs last → Joined bytes (es ++ fs) last
joined_append bytes [] fs rest last e j = subst (λ (b : List ℕ). Joined b fs last) (sym e) j
joined_append bytes (x ∷ es) fs rest last (text, more, parts, spells, others) j =
    (text, more, parts, spells, joined_append more es fs rest last others j)

pub joined_more : (bytes : List ℕ) (es : List Entry) (rest piece : List ℕ) → Joined bytes es rest
    → Joined (bytes ++ piece) es (rest ++ piece)
joined_more bytes [] rest piece e = ap (λ (b : List ℕ). b ++ piece) e
joined_more bytes (x ∷ es) rest piece (text, more, parts, spells, others) = (
  text,
  more ++ piece,
  ap (λ (b : List ℕ). b ++ piece) parts ∙ append_assoc text more piece,
  spells,
  joined_more more es rest piece others,
)

-- ---- faults stay

begins_more : (bytes : List ℕ) (head : FrameHead) (after piece : List ℕ)
    → BeginsWith bytes head after → BeginsWith (bytes ++ piece) head (after ++ piece)
begins_more bytes head after piece (reserved, one, is, text) =
    (reserved, one, is, ap (λ (b : List ℕ). b ++ piece) text)

faulty_head_more : (fault : FrameFault) (bytes piece : List ℕ) → HasFaultyHead fault bytes
    → HasFaultyHead fault (bytes ++ piece)
faulty_head_more fault bytes piece (head, after, begun, e) =
    (head, after ++ piece, begins_more bytes head after piece begun, e)

pub faulty_more : (fault : FrameFault) (bytes piece : List ℕ) → IsFaulty fault bytes
    → IsFaulty fault (bytes ++ piece)
faulty_more TooLong bytes piece h = faulty_head_more TooLong bytes piece h
faulty_more BadLength bytes piece h = faulty_head_more BadLength bytes piece h
faulty_more WrongStream bytes piece h = faulty_head_more WrongStream bytes piece h
faulty_more BadPadding bytes piece (head, padding, after, begun, fine, padded, whole, less) = (
  head,
  padding,
  after ++ piece,
  begins_more bytes head (padding ∷ after) piece begun,
  fine,
  padded,
  omega (arith, whole, length-append after piece),
  less,
)
faulty_more (ZeroIncrement stream) bytes piece (connection, text, more, parts, frame, spells) = (
  connection,
  text,
  more ++ piece,
  ap (λ (b : List ℕ). b ++ piece) parts ∙ append_assoc text more piece,
  frame,
  spells,
)
faulty_more OutOfMemory bytes piece h = absurd h

-- ---- one list alone

abbrev end_front : Option FrameFault → Front
end_front None = Less
end_front (Some fault) = Stops fault

end_is : (end : Option FrameFault) (rest : List ℕ) → Ends end rest → front_of rest ≡ end_front end
end_is None rest h = front_of_unfinished rest h
end_is (Some fault) rest h = front_of_faulty fault rest h

same_end : (a b : Option FrameFault) → end_front a ≡ end_front b → a ≡ b
same_end None None e = refl
same_end None (Some y) e = absurd cc
same_end (Some x) None e = absurd cc
same_end (Some x) (Some y) e = let f : x ≡ y = cc in ap (λ (z : FrameFault). Some z) f

end_takes : (end : Option FrameFault) (entry : Entry) (more : List ℕ)
    → end_front end ≡ Takes entry more → ⊥
end_takes None entry more e = cc
end_takes (Some fault) entry more e = cc

same_entry : (a b : Entry) (x y : List ℕ) → Takes a x ≡ Takes b y → a ≡ b
same_entry a b x y e = cc

same_rest : (a b : Entry) (x y : List ℕ) → Takes a x ≡ Takes b y → x ≡ y
same_rest a b x y e = cc

-- the entries of bytes that go on begin with those that stood before, and after a fault there are
-- no others
pub goes_on : (bytes piece : List ℕ) (es fs : List Entry) (rest last : List ℕ)
    (end : Option FrameFault)
    → Joined bytes es rest → Joined (bytes ++ piece) fs last → Ends end last
    → (others : List Entry) × (fs ≡ es ++ others) × Joined (rest ++ piece) others last
goes_on bytes piece [] fs rest last end e j h =
    (fs, refl, subst (λ (b : List ℕ). Joined (b ++ piece) fs last) e j)
goes_on bytes piece (x ∷ es) [] rest last end (text, more, parts, spells, others) j h =
    let one : front_of last ≡ Takes x (more ++ piece) =
    ap front_of (sym j ∙ ap (λ (b : List ℕ). b ++ piece) parts ∙ append_assoc text more piece)
    ∙ front_of_entry x text (more ++ piece) spells in
    absurd (end_takes end x (more ++ piece) (sym (end_is end last h) ∙ one))
goes_on bytes piece (x ∷ es) (y ∷ fs) rest last end (text, more, parts, spells, others)
    (text', more', parts', spells', others') h =
    let one : front_of (bytes ++ piece) ≡ Takes x (more ++ piece) =
    ap front_of (ap (λ (b : List ℕ). b ++ piece) parts ∙ append_assoc text more piece)
    ∙ front_of_entry x text (more ++ piece) spells in
    let two : front_of (bytes ++ piece) ≡ Takes y more' =
    ap front_of parts' ∙ front_of_entry y text' more' spells' in
    let e = sym one ∙ two in
    let tail =
    goes_on more piece es fs rest last end others (subst (λ (b : List ℕ). Joined b fs last)
    (sym (same_rest x y (more ++ piece) more' e)) others') h in (
      tail.0,
      ap (λ (z : Entry). z ∷ fs) (sym (same_entry x y (more ++ piece) more' e))
          ∙ ap (λ (zs : List Entry). x ∷ zs) tail.1,
      tail.2,
    )

-- an end leaves no entry
ended : (bytes : List ℕ) (fs : List Entry) (last : List ℕ) (end end' : Option FrameFault)
    → Ends end bytes → Joined bytes fs last → Ends end' last → (fs ≡ []) × (end ≡ end')
ended bytes [] last end end' h e h' =
    (refl, same_end end end' (sym (end_is end bytes h) ∙ ap front_of e ∙ end_is end' last h'))
ended bytes (y ∷ fs) last end end' h (text, more, parts, spells, others) h' =
    absurd (end_takes end y more
    (sym (end_is end bytes h) ∙ ap front_of parts ∙ front_of_entry y text more spells))

same_lists_since : (es fs others : List Entry) → fs ≡ es ++ others → others ≡ [] → es ≡ fs
same_lists_since es fs others e none =
    sym (e ∙ ap (λ (zs : List Entry). es ++ zs) none ∙ append-nil es)

pub one_list : (bytes : List ℕ) (es fs : List Entry) (end end' : Option FrameFault)
    → FrameList bytes es end → FrameList bytes fs end' → (es ≡ fs) × (end ≡ end')
one_list bytes es fs end end' (rest, joined, h) (last, joined', h') =
    let more =
    goes_on bytes [] es fs rest last end' joined
    (subst (λ (b : List ℕ). Joined b fs last) (sym (append-nil bytes)) joined') h' in
    let over =
    ended rest more.0 last end end' h
    (subst (λ (b : List ℕ). Joined b more.0 last) (append-nil rest) more.2) h' in
    (same_lists_since es fs more.0 more.1 over.0, over.1)

pub longer_list : (bytes piece : List ℕ) (es fs : List Entry) (end end' : Option FrameFault)
    → FrameList bytes es end → FrameList (bytes ++ piece) fs end'
    → (others : List Entry) × (fs ≡ es ++ others)
longer_list bytes piece es fs end end' (rest, joined, h) (last, joined', h') =
    let more = goes_on bytes piece es fs rest last end' joined joined' h' in (more.0, more.1)

pub faulty_list : (bytes piece : List ℕ) (es fs : List Entry) (fault : FrameFault)
    (end : Option FrameFault)
    → FrameList bytes es (Some fault) → FrameList (bytes ++ piece) fs end
    → (es ≡ fs) × (end ≡ Some fault)
faulty_list bytes piece es fs fault end (rest, joined, h) (last, joined', h') =
    let more = goes_on bytes piece es fs rest last end joined joined' h' in
    let over =
    ended (rest ++ piece) more.0 last (Some fault) end (faulty_more fault rest piece h) more.2 h' in
    (same_lists_since es fs more.0 more.1 over.0, sym over.1)
