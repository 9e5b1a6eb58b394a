-- Entries are cut in one way: what stands at the front of them is one piece, whatever follows it.
use Rattle.std.proofs.Common.{
  ◌≡◌,
  ℕ,
  Bool,
  true,
  false,
  List,
  [],
  ◌∷◌,
  ◌++◌,
  map,
  refl,
  sym,
  ap,
  subst,
  ◌∙◌,
  append_assoc,
  inl,
  inr,
}
use Rattle.std.proofs.lemmas.Bool.{true≢false}
use Rattle.std.proofs.lemmas.List.{append-nil}
use Rattle.h2frame.specs.declared.frame.Frame.{Frame}
use Rattle.h2frame.specs.declared.frame.FrameHead.{FrameHead}
use Rattle.h2frame.specs.declared.kind.FrameKind.{FrameKind}
use Rattle.h2frame.specs.declared.kind.FrameKind.TheVariants.{
  Data,
  Headers,
  Priority,
  RstStream,
  Settings,
  PushPromise,
  Ping,
  GoAway,
  WindowUpdate,
  Continuation,
  Unknown,
}
use Rattle.h2frame.specs.FrameList.{Entry, Whole, NoIncrement}
use Rattle.streamstates.specs.Halves.{Event, verdict, is_connection_error}
use Rattle.session.specs.declared.header_block.FragmentFault.{FragmentFault}
use Rattle.session.specs.HeaderBlocks.{PendingBlock, AreMarked, Collects}
use Rattle.session.specs.Events.{
  Group,
  Single,
  Credit,
  Block,
  IsBegun,
  entries_of,
  IsPartial,
  Breaks,
}
use Rattle.session.proofs.OneHeaderBlock.{
  Meeting,
  Same,
  More,
  Fewer,
  meet,
  marks_same,
  marks_end,
  collects_one,
  unbroken,
  breaks_one,
}

-- what is taken from the front: a group, HEADERS that are an error of the connection, or a header
-- block that breaks off
pub data Piece : Type 0 where
  Of : Group → Piece
  Refusal : Frame → Piece
  Cut : List Frame → PendingBlock → Entry → FragmentFault → Piece

abbrev pub taken : Piece → List Entry
taken (Of group) = entries_of group
taken (Refusal frame) = Whole frame ∷ []
taken (Cut frames block entry fault) = map Whole frames ++ entry ∷ []

abbrev pub StandsIn : List Event → Piece → Type 0
StandsIn history (Of (Single frame)) = frame.head.kind ≡ Headers → ⊥
StandsIn history (Of (Credit id)) = Unit {0}
StandsIn history (Of (Block frames block)) = IsBegun history frames block × (block.whole ≡ true)
StandsIn history (Refusal frame) =
    (frame.head.kind ≡ Headers) × (is_connection_error (verdict history frame.head) ≡ true)
StandsIn history (Cut frames block entry fault) =
    IsBegun history frames block × (block.whole ≡ false) × Breaks entry block fault

-- ---- which it is shows at the first entry

data Class : Type 0 where
  Nothing : Class
  Plain : Class
  Increment : Class
  Refused : Class
  Begun : Class

abbrev class_of : FrameKind → Bool → Class
class_of Headers true = Refused
class_of Headers false = Begun
class_of _ _ = Plain

abbrev class_at : List Event → List Entry → Class
class_at history [] = Nothing
class_at history (Whole frame ∷ entries) =
    class_of frame.head.kind (is_connection_error (verdict history frame.head))
class_at history (NoIncrement id ∷ entries) = Increment

abbrev class : Piece → Class
class (Of (Single frame)) = Plain
class (Of (Credit id)) = Increment
class (Of (Block frames block)) = Begun
class (Refusal frame) = Refused
class (Cut frames block entry fault) = Begun

plain : (kind : FrameKind) (b : Bool) → (kind ≡ Headers → ⊥) → class_of kind b ≡ Plain
plain Data b other = refl
plain Headers b other = absurd (other refl)
plain Priority b other = refl
plain RstStream b other = refl
plain Settings b other = refl
plain PushPromise b other = refl
plain Ping b other = refl
plain GoAway b other = refl
plain WindowUpdate b other = refl
plain Continuation b other = refl
plain (Unknown code) b other = refl

begun_class : (history : List Event) (frames : List Frame) (block : PendingBlock) (x : List Entry)
    → IsBegun history frames block → class_at history (map Whole frames ++ x) ≡ Begun
begun_class history frames block x begun =
    let c = begun.collects in
    ap (λ (fs : List Frame). class_at history (map Whole fs ++ x)) c.parts
    ∙ ap (λ (h : FrameHead). class_of h.kind (is_connection_error (verdict history h))) c.headers
    ∙ ap (λ (k : FrameKind). class_of k (is_connection_error (verdict history block.head))) c.kind
    ∙ ap (λ (b : Bool). class_of Headers b) begun.lawful

classes : (history : List Event) (p : Piece) (x : List Entry) → StandsIn history p
    → class_at history (taken p ++ x) ≡ class p
classes history (Of (Single frame)) x stands =
    plain frame.head.kind (is_connection_error (verdict history frame.head)) stands
classes history (Of (Credit id)) x stands = refl
classes history (Of (Block frames block)) x stands = begun_class history frames block x stands.0
classes history (Refusal frame) x stands =
    ap (λ (k : FrameKind). class_of k (is_connection_error (verdict history frame.head))) stands.0
    ∙ ap (λ (b : Bool). class_of Headers b) stands.1
classes history (Cut frames block entry fault) x stands =
    ap (class_at history) (append_assoc (map Whole frames) (entry ∷ []) x)
    ∙ begun_class history frames block (entry ∷ x) stands.0

-- ---- header blocks

heads : (a b : Entry) (x y : List Entry) → a ∷ x ≡ b ∷ y → (a ≡ b) × (x ≡ y)
heads a b x y e = (cc, cc)

whole_heads : (f g : Frame) (x y : List Entry) → Whole f ∷ x ≡ Whole g ∷ y → (f ≡ g) × (x ≡ y)
whole_heads f g x y e = (cc, cc)

number_heads : (i j : ℕ) (x y : List Entry) → NoIncrement i ∷ x ≡ NoIncrement j ∷ y
    → (i ≡ j) × (x ≡ y)
number_heads i j x y e = (cc, cc)

-- END_HEADERS is on the last frame of a whole block alone
ends_inside : (frames others : List Frame) (m : Frame) (mid : List Frame)
    (block other : PendingBlock)
    → Collects frames block → Collects others other → block.whole ≡ true
    → others ≡ frames ++ m ∷ mid → ⊥
ends_inside frames others m mid block other c d whole e =
    marks_end frames m mid other.whole (subst (AreMarked frames) whole c.marks)
    (subst (λ (fs : List Frame). AreMarked fs other.whole) e d.marks)

blocks_one : (history : List Event) (fs gs : List Frame) (a b : PendingBlock) (x y : List Entry)
    → IsBegun history fs a → IsBegun history gs b → a.whole ≡ true → b.whole ≡ true
    → map Whole fs ++ x ≡ map Whole gs ++ y
    → (Of (Block fs a) ≡ Of (Block gs b)) × (x ≡ y)
blocks_one history fs gs a b x y is js whole also e = by (meet fs gs x y e)
  where
    by : Meeting fs gs x y → (Of (Block fs a) ≡ Of (Block gs b)) × (x ≡ y)
    by (Same same rest) =
        let block : a ≡ b =
        collects_one fs gs a b is.collects js.collects same (whole ∙ sym also) in (
          ap (λ (f : List Frame). Of (Block f a)) same
              ∙ ap (λ (p : PendingBlock). Of (Block gs p)) block,
          rest,
        )
    by (More m mid longer rest) =
        absurd (ends_inside gs fs m mid b a js.collects is.collects also longer)
    by (Fewer m mid longer rest) =
        absurd (ends_inside fs gs m mid a b is.collects js.collects whole longer)

-- a whole block doesn't begin with one that breaks off
block_or_cut : (history : List Event) (fs gs : List Frame) (a b : PendingBlock) (x y : List Entry)
    (entry : Entry) (fault : FragmentFault)
    → IsBegun history fs a → IsBegun history gs b → a.whole ≡ true → b.whole ≡ false
    → Breaks entry b fault
    → map Whole fs ++ x ≡ map Whole gs ++ entry ∷ y → ⊥
block_or_cut history fs gs a b x y entry fault is js whole part breaks e =
    by (meet fs gs x (entry ∷ y) e)
  where
    by : Meeting fs gs x (entry ∷ y) → ⊥
    by (Same same rest) =
        true≢false (sym whole
        ∙ marks_same fs a.whole b.whole is.collects.marks
        (subst (λ (f : List Frame). AreMarked f b.whole) (sym same) js.collects.marks)
        ∙ part)
    by (More m mid longer rest) =
        unbroken gs m mid a b fault
        (subst (λ (f : List Frame). Collects f a) longer is.collects) js.collects
        (subst (λ (n : Entry). Breaks n b fault)
        (sym (heads (Whole m) entry (map Whole mid ++ x) y rest).0) breaks)
    by (Fewer m mid longer rest) = ends_inside fs gs m mid a b is.collects js.collects whole longer

cuts_one : (history : List Event) (fs gs : List Frame) (a b : PendingBlock) (x y : List Entry)
    (entry other : Entry) (fault last : FragmentFault)
    → IsBegun history fs a → IsBegun history gs b → a.whole ≡ false → b.whole ≡ false
    → Breaks entry a fault → Breaks other b last
    → map Whole fs ++ entry ∷ x ≡ map Whole gs ++ other ∷ y
    → (Cut fs a entry fault ≡ Cut gs b other last) × (x ≡ y)
cuts_one history fs gs a b x y entry other fault last is js part also breaks stops e =
    by (meet fs gs (entry ∷ x) (other ∷ y) e)
  where
    by : Meeting fs gs (entry ∷ x) (other ∷ y)
        → (Cut fs a entry fault ≡ Cut gs b other last) × (x ≡ y)
    by (Same same rest) =
        let block : a ≡ b = collects_one fs gs a b is.collects js.collects same (part ∙ sym also) in
        let at = heads entry other x y rest in
        let here : Breaks other b fault =
        subst (λ (n : Entry). Breaks n b fault) at.0
        (subst (λ (p : PendingBlock). Breaks entry p fault) block breaks) in (
          ap (λ (f : List Frame). Cut f a entry fault) same
              ∙ ap (λ (p : PendingBlock). Cut gs p entry fault) block
              ∙ ap (λ (n : Entry). Cut gs b n fault) at.0
              ∙ ap (λ (w : FragmentFault). Cut gs b other w)
              (breaks_one other b fault last here stops),
          at.1,
        )
    by (More m mid longer rest) =
        absurd (unbroken gs m mid a b last
        (subst (λ (f : List Frame). Collects f a) longer is.collects) js.collects
        (subst (λ (n : Entry). Breaks n b last)
        (sym (heads (Whole m) other (map Whole mid ++ entry ∷ x) y rest).0) stops))
    by (Fewer m mid longer rest) =
        absurd (unbroken fs m mid b a fault
        (subst (λ (f : List Frame). Collects f b) longer js.collects) is.collects
        (subst (λ (n : Entry). Breaks n a fault)
        (sym (heads (Whole m) entry (map Whole mid ++ other ∷ y) x rest).0) breaks))

-- ---- one piece

pieces : (history : List Event) (p q : Piece) (x y : List Entry) → class p ≡ class q
    → StandsIn history p → StandsIn history q → taken p ++ x ≡ taken q ++ y → (p ≡ q) × (x ≡ y)
pieces history (Of (Single f)) (Of (Single g)) x y c s t e =
    let h = whole_heads f g x y e in
    (ap (λ (k : Frame). Of (Single k)) h.0, h.1)
pieces history (Of (Single f)) (Of (Credit j)) x y c s t e = absurd cc
pieces history (Of (Single f)) (Of (Block gs b)) x y c s t e = absurd cc
pieces history (Of (Single f)) (Refusal g) x y c s t e = absurd cc
pieces history (Of (Single f)) (Cut gs b other last) x y c s t e = absurd cc
pieces history (Of (Credit i)) (Of (Single g)) x y c s t e = absurd cc
pieces history (Of (Credit i)) (Of (Credit j)) x y c s t e =
    let h = number_heads i j x y e in
    (ap (λ (k : ℕ). Of (Credit k)) h.0, h.1)
pieces history (Of (Credit i)) (Of (Block gs b)) x y c s t e = absurd cc
pieces history (Of (Credit i)) (Refusal g) x y c s t e = absurd cc
pieces history (Of (Credit i)) (Cut gs b other last) x y c s t e = absurd cc
pieces history (Of (Block fs a)) (Of (Single g)) x y c s t e = absurd cc
pieces history (Of (Block fs a)) (Of (Credit j)) x y c s t e = absurd cc
pieces history (Of (Block fs a)) (Of (Block gs b)) x y c s t e =
    blocks_one history fs gs a b x y s.0 t.0 s.1 t.1 e
pieces history (Of (Block fs a)) (Refusal g) x y c s t e = absurd cc
pieces history (Of (Block fs a)) (Cut gs b other last) x y c s t e =
    absurd (block_or_cut history fs gs a b x y other last s.0 t.0 s.1 t.1 t.2
    (e ∙ append_assoc (map Whole gs) (other ∷ []) y))
pieces history (Refusal f) (Of (Single g)) x y c s t e = absurd cc
pieces history (Refusal f) (Of (Credit j)) x y c s t e = absurd cc
pieces history (Refusal f) (Of (Block gs b)) x y c s t e = absurd cc
pieces history (Refusal f) (Refusal g) x y c s t e =
    let h = whole_heads f g x y e in
    (ap (λ (k : Frame). Refusal k) h.0, h.1)
pieces history (Refusal f) (Cut gs b other last) x y c s t e = absurd cc
pieces history (Cut fs a entry fault) (Of (Single g)) x y c s t e = absurd cc
pieces history (Cut fs a entry fault) (Of (Credit j)) x y c s t e = absurd cc
pieces history (Cut fs a entry fault) (Of (Block gs b)) x y c s t e =
    absurd (block_or_cut history gs fs b a y x entry fault t.0 s.0 t.1 s.1 s.2
    (sym e ∙ append_assoc (map Whole fs) (entry ∷ []) x))
pieces history (Cut fs a entry fault) (Refusal g) x y c s t e = absurd cc
pieces history (Cut fs a entry fault) (Cut gs b other last) x y c s t e =
    cuts_one history fs gs a b x y entry other fault last s.0 t.0 s.1 t.1 s.2 t.2
    (sym (append_assoc (map Whole fs) (entry ∷ []) x) ∙ e
    ∙ append_assoc (map Whole gs) (other ∷ []) y)

pub piece_one : (history : List Event) (p q : Piece) (x y : List Entry) → StandsIn history p
    → StandsIn history q → taken p ++ x ≡ taken q ++ y → (p ≡ q) × (x ≡ y)
piece_one history p q x y s t e =
    pieces history p q x y
    (sym (classes history p x s) ∙ ap (class_at history) e ∙ classes history q y t) s t e

-- ---- no piece stands in a header block that isn't whole

nothing_inside : (p : Piece) → class p ≡ Nothing → ⊥
nothing_inside (Of (Single frame)) c = cc
nothing_inside (Of (Credit id)) c = cc
nothing_inside (Of (Block frames block)) c = cc
nothing_inside (Refusal frame) c = cc
nothing_inside (Cut frames block entry fault) c = cc

none_left : (m : Frame) (mid : List Frame) (x : List Entry) → map Whole (m ∷ mid) ++ x ≡ [] → ⊥
none_left m mid x e = cc

in_block : (history : List Event) (p : Piece) (gs : List Frame) (b : PendingBlock) (y : List Entry)
    → class p ≡ Begun → StandsIn history p → IsBegun history gs b → b.whole ≡ false
    → map Whole gs ++ [] ≡ taken p ++ y → ⊥
in_block history (Of (Single frame)) gs b y c s is part e = cc
in_block history (Of (Credit id)) gs b y c s is part e = cc
in_block history (Refusal frame) gs b y c s is part e = cc
in_block history (Of (Block fs a)) gs b y c s is part e = by (meet gs fs [] y e)
  where
    by : Meeting gs fs [] y → ⊥
    by (Same same rest) =
        true≢false (sym s.1
        ∙ marks_same fs a.whole b.whole s.0.collects.marks
        (subst (λ (f : List Frame). AreMarked f b.whole) same is.collects.marks)
        ∙ part)
    by (More m mid longer rest) = ends_inside fs gs m mid a b s.0.collects is.collects s.1 longer
    by (Fewer m mid longer rest) = none_left m mid y rest
in_block history (Cut fs a entry fault) gs b y c s is part e =
    by (meet gs fs [] (entry ∷ y) (e ∙ append_assoc (map Whole fs) (entry ∷ []) y))
  where
    by : Meeting gs fs [] (entry ∷ y) → ⊥
    by (Same same rest) = cc rest
    by (More m mid longer rest) =
        unbroken fs m mid b a fault
        (subst (λ (f : List Frame). Collects f b) longer is.collects) s.0.collects
        (subst (λ (n : Entry). Breaks n a fault)
        (sym (heads (Whole m) entry (map Whole mid ++ []) y rest).0) s.2)
    by (Fewer m mid longer rest) = none_left m mid (entry ∷ y) rest

pub partial_none : (history : List Event) (behind y : List Entry) (p : Piece)
    → IsPartial history behind → StandsIn history p → behind ≡ taken p ++ y → ⊥
partial_none history behind y p (inl none) s e =
    nothing_inside p (sym (classes history p y s) ∙ ap (class_at history) (sym e ∙ none))
partial_none history behind y p (inr (gs, b, is, part, all)) s e =
    let whole : map Whole gs ++ [] ≡ taken p ++ y = append-nil (map Whole gs) ∙ sym all ∙ e in
    in_block history p gs b y (sym (classes history p y s) ∙ ap (class_at history) (sym whole)
    ∙ begun_class history gs b [] is) s is part whole

pub taken_some : (history : List Event) (p : Piece) → StandsIn history p → taken p ≡ [] → ⊥
taken_some history p s e =
    nothing_inside p
    (sym (classes history p [] s) ∙ ap (class_at history) (append-nil (taken p) ∙ e))
