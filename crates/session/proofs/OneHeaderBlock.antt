-- The frames of header blocks, of which one goes on where another ends.
use Rattle.std.proofs.Common.{
  ◌≡◌,
  ℕ,
  ◌+◌,
  ◌≤◌,
  Bool,
  true,
  List,
  [],
  ◌∷◌,
  ◌++◌,
  length,
  map,
  refl,
  sym,
  ap,
  subst,
  ◌∙◌,
  arith,
}
use Rattle.std.specs.List.{AllByRecursion}
use Rattle.std.proofs.lemmas.Bool.{true≢false}
use Rattle.std.proofs.lemmas.List.{length-append}
use Rattle.std.proofs.lemmas.Grind.{flat_map-append}
use Rattle.h2frame.specs.declared.frame.Frame.{Frame}
use Rattle.h2frame.specs.declared.frame.FrameHead.{FrameHead}
use Rattle.h2frame.specs.FrameList.{Entry, Whole, NoIncrement}
use Rattle.session.specs.declared.header_block.FragmentFault.{FragmentFault}
use Rattle.session.specs.declared.header_block.FragmentFault.TheVariants.{
  Interrupted,
  TooLong,
  OutOfMemory,
}
use Rattle.session.specs.HeaderBlocks.{
  max_block,
  PendingBlock,
  IsContinuation,
  AreMarked,
  Collects,
  fragments,
}
use Rattle.session.specs.Events.{Breaks}

-- ---- frames that begin one list of entries

pub data Meeting (fs gs : List Frame) (x y : List Entry) : Type 0 where
  Same : fs ≡ gs → x ≡ y → Meeting fs gs x y
  More : (m : Frame) (mid : List Frame) → fs ≡ gs ++ m ∷ mid → map Whole (m ∷ mid) ++ x ≡ y
      → Meeting fs gs x y
  Fewer : (m : Frame) (mid : List Frame) → gs ≡ fs ++ m ∷ mid → map Whole (m ∷ mid) ++ y ≡ x
      → Meeting fs gs x y

pub meet : (fs gs : List Frame) (x y : List Entry) → map Whole fs ++ x ≡ map Whole gs ++ y
    → Meeting fs gs x y
meet [] [] x y e = Same refl e
meet [] (g ∷ gs) x y e = Fewer g gs refl (sym e)
meet (f ∷ fs) [] x y e = More f fs refl e
meet (f ∷ fs) (g ∷ gs) x y e =
    let same : f ≡ g = cc e in
    let tails : map Whole fs ++ x ≡ map Whole gs ++ y = cc e in
    further f g fs gs x y same (meet fs gs x y tails)
  where
    further : (f g : Frame) (fs gs : List Frame) (x y : List Entry) → f ≡ g → Meeting fs gs x y
        → Meeting (f ∷ fs) (g ∷ gs) x y
    further f g fs gs x y same (Same all rest) =
        Same (ap (λ (h : Frame). h ∷ fs) same ∙ ap (λ (hs : List Frame). g ∷ hs) all) rest
    further f g fs gs x y same (More m mid longer rest) =
        More m mid (ap (λ (h : Frame). h ∷ fs) same ∙ ap (λ (hs : List Frame). g ∷ hs) longer) rest
    further f g fs gs x y same (Fewer m mid longer rest) =
        Fewer m mid (ap (λ (h : Frame). h ∷ gs) (sym same)
        ∙ ap (λ (hs : List Frame). f ∷ hs) longer) rest

-- ---- END_HEADERS

pub marks_same : (fs : List Frame) (a b : Bool) → AreMarked fs a → AreMarked fs b → a ≡ b
marks_same [] a b m n = absurd m
marks_same (f ∷ []) a b m n = sym m ∙ n
marks_same (f ∷ g ∷ fs) a b m n = marks_same (g ∷ fs) a b m.1 n.1

-- no frame follows the one that has it
pub marks_end : (fs : List Frame) (m : Frame) (mid : List Frame) (ended : Bool) → AreMarked fs true
    → AreMarked (fs ++ m ∷ mid) ended → ⊥
marks_end [] m mid ended a b = a
marks_end (f ∷ []) m mid ended a b = true≢false (sym a ∙ b.0)
marks_end (f ∷ g ∷ fs) m mid ended a b = marks_end (g ∷ fs) m mid ended a.1 b.1

-- ---- what is kept of a block

same_pending : (a b : PendingBlock) → a.head ≡ b.head → a.block ≡ b.block
    → a.whole ≡ b.whole → a ≡ b
same_pending a b head block whole =
    ap (λ (h : FrameHead). pending_of h a.block a.whole) head
    ∙ ap (λ (t : List ℕ). pending_of b.head t a.whole) block
    ∙ ap (λ (w : Bool). pending_of b.head b.block w) whole
  where
    pending_of : FrameHead → List ℕ → Bool → PendingBlock
    pending_of head block whole = record { head = head; block = block; whole = whole }

first_frame : (f g : Frame) (fs gs : List Frame) → f ∷ fs ≡ g ∷ gs → (f ≡ g) × (fs ≡ gs)
first_frame f g fs gs e = (cc, cc)

pub collects_one : (fs gs : List Frame) (a b : PendingBlock) → Collects fs a
    → Collects gs b → fs ≡ gs
    → a.whole ≡ b.whole → a ≡ b
collects_one fs gs a b c d same whole =
    let first = first_frame c.first d.first c.others d.others (sym c.parts ∙ same ∙ d.parts) in
    same_pending a b (sym c.headers ∙ ap (λ (f : Frame). f.head) first.0 ∙ d.headers)
    (c.text ∙ ap fragments same ∙ sym d.text) whole

all_at : {X : Type 0} (P : X → Type 0) (xs ys : List X) (m : X)
    → AllByRecursion P (xs ++ m ∷ ys) → P m
all_at P [] ys m all = all.0
all_at P (x ∷ xs) ys m all = all_at P xs ys m all.1

-- ---- a frame that goes on with a block doesn't break it off

goes_on : (gs : List Frame) (m : Frame) (mid : List Frame) (a b : PendingBlock)
    → Collects (gs ++ m ∷ mid) a → Collects gs b → IsContinuation b.head.stream m
goes_on gs m mid a b c d =
    let first =
    first_frame c.first d.first c.others (d.others ++ m ∷ mid)
    (sym c.parts ∙ ap (λ (fs : List Frame). fs ++ m ∷ mid) d.parts) in
    let head : a.head ≡ b.head = sym c.headers ∙ ap (λ (f : Frame). f.head) first.0 ∙ d.headers in
    let all : AllByRecursion (IsContinuation a.head.stream) (d.others ++ m ∷ mid) =
    subst (AllByRecursion (IsContinuation a.head.stream)) first.1 c.continuations in
    subst (λ (h : FrameHead). IsContinuation h.stream m) head
    (all_at (IsContinuation a.head.stream) d.others mid m all)

has_room : (gs : List Frame) (m : Frame) (mid : List Frame) (a b : PendingBlock)
    → Collects (gs ++ m ∷ mid) a → Collects gs b → length b.block + length m.content ≤ max_block
has_room gs m mid a b c d =
    let text : a.block ≡ b.block ++ (m.content ++ fragments mid) =
    c.text ∙ flat_map-append (λ (f : Frame). f.content) gs (m ∷ mid)
    ∙ ap (λ (t : List ℕ). t ++ (m.content ++ fragments mid)) (sym d.text) in
    omega (
      arith,
      c.short,
      ap length text,
      length-append b.block (m.content ++ fragments mid),
      length-append m.content (fragments mid),
    )

pub unbroken : (gs : List Frame) (m : Frame) (mid : List Frame) (a b : PendingBlock)
    (fault : FragmentFault)
    → Collects (gs ++ m ∷ mid) a → Collects gs b → Breaks (Whole m) b fault → ⊥
unbroken gs m mid a b Interrupted c d breaks = breaks (goes_on gs m mid a b c d)
unbroken gs m mid a b TooLong c d breaks = omega (arith, breaks.1, has_room gs m mid a b c d)
unbroken gs m mid a b OutOfMemory c d breaks = breaks

pub breaks_one : (entry : Entry) (block : PendingBlock) (fault last : FragmentFault)
    → Breaks entry block fault → Breaks entry block last → fault ≡ last
breaks_one (Whole frame) block Interrupted Interrupted s t = refl
breaks_one (Whole frame) block Interrupted TooLong s t = absurd (s t.0)
breaks_one (Whole frame) block TooLong Interrupted s t = absurd (t s.0)
breaks_one (Whole frame) block TooLong TooLong s t = refl
breaks_one (NoIncrement id) block Interrupted Interrupted s t = refl
breaks_one (NoIncrement id) block Interrupted TooLong s t = absurd t
breaks_one (NoIncrement id) block TooLong last s t = absurd s
breaks_one entry block OutOfMemory last s t = absurd s
breaks_one entry block fault OutOfMemory s t = absurd t
