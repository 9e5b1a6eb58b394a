-- Bytes are cut in one way alone, and piece by piece as in one.
use Rattle.std.proofs.Common.{
  ◌≡◌,
  ℕ,
  ◌+◌,
  ◌<◌,
  ◌≤◌,
  List,
  [],
  ◌∷◌,
  ◌++◌,
  length,
  take,
  drop,
  refl,
  sym,
  ap,
  subst,
  ◌∙◌,
  append_assoc,
  arith,
}
use Rattle.std.proofs.Math.Seq.{take-append-add, take-length}
use Rattle.std.proofs.lemmas.List.{length-append, length-take-le, length-drop, take-append-drop}
use Rattle.std.specs.Prelude.{Option}
use Rattle.h2frame.specs.declared.fault.FrameFault.{FrameFault}
use Rattle.h2frame.specs.declared.frame.Frame.{Frame as FrameOf}
use Rattle.h2frame.specs.declared.frame.FrameHead.{FrameHead}
use Rattle.h2frame.specs.FrameList.{BeginsWith, IsSpelling}
use Rattle.h2frame.specs.Reading.{head_at}
use Rattle.h2frame.specs.Spelling.{head_text, payload_text}
use Rattle.h2frame.proofs.Heads.{head_again}
use Rattle.trace.specs.declared.item.Item.{Item}
use Rattle.trace.specs.declared.item.Item.TheVariants.{Preface, Frame, Rest}
use Rattle.trace.specs.declared.item.SideStage.{SideStage}
use Rattle.trace.specs.declared.item.SideStage.TheVariants.{BeforePreface, InFrames}
use Rattle.trace.specs.Cuts.{Cut, IsUnfinished, Spells, Takes, leftover, preface}

-- fronts of one length of one list are one
fronts_one : (xs ys rest more : List ℕ) → length xs ≡ length ys → xs ++ rest ≡ ys ++ more
    → (xs ≡ ys) × (rest ≡ more)
fronts_one [] [] rest more l e = (refl, e)
fronts_one [] (y ∷ ys) rest more l e = absurd (omega (arith, l))
fronts_one (x ∷ xs) [] rest more l e = absurd (omega (arith, l))
fronts_one (x ∷ xs) (y ∷ ys) rest more l e =
    let tails : xs ++ rest ≡ ys ++ more = cc in
    let heads : x ≡ y = cc in
    let same = fronts_one xs ys rest more (omega (arith, l)) tails in
    (cc (heads, same.0), same.1)

-- ---- one item

-- the head that bytes begin with is the head that is read there
head_of_bytes : (bytes : List ℕ) (head : FrameHead) (after : List ℕ) → BeginsWith bytes head after
    → head_at bytes ≡ head
head_of_bytes bytes head after (reserved, one, is, e) =
    ap head_at e ∙ head_again reserved head after one is

begins_more : (bytes : List ℕ) (head : FrameHead) (after piece : List ℕ)
    → BeginsWith bytes head after → BeginsWith (bytes ++ piece) head (after ++ piece)
begins_more bytes head after piece (reserved, one, is, e) = (
  reserved,
  one,
  is,
  ap (λ (b : List ℕ). b ++ piece) e ∙ append_assoc (head_text reserved head) after piece,
)

-- nine bytes are before what is after a head
after_head : (bytes : List ℕ) (head : FrameHead) (after : List ℕ) → BeginsWith bytes head after
    → (length bytes ≡ 9 + length after) × (drop 9 bytes ≡ after)
after_head bytes head after (reserved, one, is, e) = (
  ap length e
      ∙ (let l : length (head_text reserved head ++ after) ≡ 9 + length after = omega arith in l),
  ap (λ (b : List ℕ). drop 9 b) e,
)

one_frame : (bytes more further : List ℕ) (head other : FrameHead) (payload content : List ℕ)
    → BeginsWith bytes head (payload ++ more) → length payload ≡ head.length
    → BeginsWith bytes other (content ++ further) → length content ≡ other.length
    → (Frame head payload ≡ Frame other content) × (more ≡ further)
one_frame bytes more further head other payload content is size has length_is =
    let heads : head ≡ other =
    sym (head_of_bytes bytes head (payload ++ more) is)
    ∙ head_of_bytes bytes other (content ++ further) has in
    let behind : payload ++ more ≡ content ++ further =
    sym (after_head bytes head (payload ++ more) is).1
    ∙ (after_head bytes other (content ++ further) has).1 in
    let sizes : length payload ≡ length content =
    size ∙ ap (λ (h : FrameHead). h.length) heads ∙ sym length_is in
    let same = fronts_one payload content more further sizes behind in
    let contents = same.0 in
    (cc (heads, contents), same.1)

-- one list begins with one item
one_item : (stage : SideStage) (bytes text more other further : List ℕ) (item thing : Item)
    → bytes ≡ text ++ more → Spells stage text item → bytes ≡ other ++ further
    → Spells stage other thing → (item ≡ thing) × (more ≡ further)
one_item BeforePreface bytes text more other further Preface Preface e is f has =
    (refl, (fronts_one text other more further (ap length (is ∙ sym has)) (sym e ∙ f)).1)
one_item BeforePreface bytes text more other further Preface (Frame head payload) e
    is f has = absurd has
one_item BeforePreface bytes text more other further Preface (Rest rest) e is f has = absurd has
one_item BeforePreface bytes text more other further (Frame head payload) thing
    e is f has = absurd is
one_item BeforePreface bytes text more other further (Rest rest) thing e is f has = absurd is
one_item InFrames bytes text more other further Preface thing e is f has = absurd is
one_item InFrames bytes text more other further (Rest rest) thing e is f has = absurd is
one_item InFrames bytes text more other further (Frame head payload) Preface e is f has = absurd has
one_item InFrames bytes text more other further (Frame head payload) (Rest rest) e
    is f has = absurd has
one_item InFrames bytes text more other further (Frame head payload) (Frame second content) e
    (is, size) f (has, long) =
    one_frame bytes more further head second payload content
    (subst (λ (b : List ℕ). BeginsWith b head (payload ++ more)) (sym e)
    (begins_more text head payload more is)) size
    (subst (λ (b : List ℕ). BeginsWith b second (content ++ further)) (sym f)
    (begins_more other second content further has)) long

-- an item has bytes
pub some_bytes : (stage : SideStage) (text : List ℕ) (item : Item)
    → Spells stage text item → 0 < length text
some_bytes BeforePreface text Preface is = omega (arith, ap length is)
some_bytes BeforePreface text (Frame head payload) is = absurd is
some_bytes BeforePreface text (Rest rest) is = absurd is
some_bytes InFrames text Preface is = absurd is
some_bytes InFrames text (Rest rest) is = absurd is
some_bytes InFrames text (Frame head payload) (is, size) =
    omega (arith, (after_head text head payload is).0)

-- ---- what has begun isn't whole

pub short_is_unfinished : (bytes : List ℕ) → length bytes < 9 → IsUnfinished InFrames bytes
short_is_unfinished bytes short text more Preface e is = absurd is
short_is_unfinished bytes short text more (Rest rest) e is = absurd is
short_is_unfinished bytes short text more (Frame head payload) e (is, size) =
    omega (arith, short, ap length e, length-append text more, (after_head text head payload is).0)

pub begun_is_unfinished : (bytes : List ℕ) (head : FrameHead) (after : List ℕ)
    → BeginsWith bytes head after → length bytes < 9 + head.length → IsUnfinished InFrames bytes
begun_is_unfinished bytes head after begins short text more Preface e is = absurd is
begun_is_unfinished bytes head after begins short text more (Rest rest) e is = absurd is
begun_is_unfinished bytes head after begins short text more (Frame second payload) e (is, size) =
    let there =
    subst (λ (b : List ℕ). BeginsWith b second (payload ++ more)) (sym e)
    (begins_more text second payload more is) in
    let heads : head ≡ second =
    sym (head_of_bytes bytes head after begins)
    ∙ head_of_bytes bytes second (payload ++ more) there in
    omega (
      arith,
      short,
      ap (λ (h : FrameHead). h.length) heads,
      size,
      (after_head bytes second (payload ++ more) there).0,
      length-append payload more,
    )

-- ---- the first frame

pub first_frame : (bytes : List ℕ) (head : FrameHead) → BeginsWith bytes head (drop 9 bytes)
    → 9 + head.length ≤ length bytes
    → Takes InFrames bytes (Frame head (drop 9 (take (9 + head.length) bytes)))
    (drop (9 + head.length) bytes)
first_frame bytes head (reserved, one, is, e) fits =
    let n = head.length in
    let after = drop 9 bytes in
    let front : take (9 + n) bytes ≡ head_text reserved head ++ take n after =
    ap (λ (b : List ℕ). take (9 + n) b) e ∙ take-append-add (head_text reserved head) after n in
    let payload : drop 9 (take (9 + n) bytes) ≡ take n after =
    ap (λ (b : List ℕ). drop 9 b) front in
    let room : n ≤ length after = omega (arith, fits, length-drop 9 bytes) in (
      take (9 + n) bytes,
      sym (take-append-drop (9 + n) bytes),
      (
        (
          reserved,
          one,
          is,
          front ∙ ap (λ (p : List ℕ). head_text reserved head ++ p) (sym payload),
        ),
        ap length payload ∙ length-take-le n after room,
      ),
    )

pub first_preface : (bytes rest : List ℕ) → bytes ≡ preface ++ rest
    → Takes BeforePreface bytes Preface rest
first_preface bytes rest e = (preface, e, refl)

pub no_preface : (bytes : List ℕ) → ((rest : List ℕ) → bytes ≡ preface ++ rest → ⊥)
    → IsUnfinished BeforePreface bytes
no_preface bytes none text more Preface e is = none more (e ∙ ap (λ (t : List ℕ). t ++ more) is)
no_preface bytes none text more (Frame head payload) e is = absurd is
no_preface bytes none text more (Rest rest) e is = absurd is

-- ---- lists of items

pub cut_join : (first next last : SideStage) (bytes rest piece left : List ℕ)
    (items others : List Item)
    → Cut first bytes items next rest → Cut next (rest ++ piece) others last left
    → Cut first (bytes ++ piece) (items ++ others) last left
cut_join first next last bytes rest piece left [] others (same, e) cut =
    subst (λ (s : SideStage). Cut s (bytes ++ piece) others last left) same
    (subst (λ (b : List ℕ). Cut next (b ++ piece) others last left) e cut)
cut_join first next last bytes rest piece left (item ∷ items) others
    (text, more, parts, spells, then_) cut = (
      text,
      more ++ piece,
      ap (λ (b : List ℕ). b ++ piece) parts ∙ append_assoc text more piece,
      spells,
      cut_join InFrames next last more rest piece left items others then_ cut,
    )

pub cut_push : (first next : SideStage) (bytes rest left : List ℕ) (items : List Item) (item : Item)
    → Cut first bytes items next rest → Takes next rest item left
    → Cut first bytes (items ++ item ∷ []) InFrames left
cut_push first next bytes rest left [] item (same, e) (text, parts, spells) = (
  text,
  left,
  sym e ∙ parts,
  subst (λ (s : SideStage). Spells s text item) same spells,
  (refl, refl),
)
cut_push first next bytes rest left (thing ∷ items) item (text, more, parts, spells, cut) takes =
    (text, more, parts, spells, cut_push InFrames next more rest left items item cut takes)

pub taken_is_shorter : (stage : SideStage) (bytes rest : List ℕ) (item : Item)
    → Takes stage bytes item rest → length rest < length bytes
taken_is_shorter stage bytes rest item (text, parts, spells) =
    omega (arith, some_bytes stage text item spells, ap length parts, length-append text rest)

pub one_cut : (first next last : SideStage) (bytes rest left : List ℕ) (items others : List Item)
    → Cut first bytes items next rest → IsUnfinished next rest → Cut first bytes others last left
    → IsUnfinished last left
    → (items ≡ others) × (rest ≡ left)
one_cut first next last bytes rest left [] [] (same, e) unfinished (equal, f)
    open_ = (refl, e ∙ sym f)
one_cut first next last bytes rest left [] (thing ∷ others) (same, e) unfinished
    (text, more, parts, spells, cut) open_ =
    absurd (unfinished text more thing (e ∙ parts)
    (subst (λ (s : SideStage). Spells s text thing) (sym same) spells))
one_cut first next last bytes rest left (item ∷ items) [] (text, more, parts, spells, cut)
    unfinished (same, e) open_ =
    absurd
    (open_ text more item (e ∙ parts)
    (subst (λ (s : SideStage). Spells s text item) (sym same) spells))
one_cut first next last bytes rest left (item ∷ items) (thing ∷ others) (text, more, e, spells, cut)
    unfinished (other, further, f, has, goes) open_ =
    let same = one_item first bytes text more other further item thing e spells f has in
    let tails =
    one_cut InFrames next last further rest left items others
    (subst (λ (b : List ℕ). Cut InFrames b items next rest) same.1 cut) unfinished goes open_ in
    let heads = same.0 in
    let lists = tails.0 in
    (cc (heads, lists), tails.1)

pub frame_is_read : (text : List ℕ) (frame : FrameOf) (fault : Option FrameFault)
    → IsSpelling text frame fault
    → (payload : List ℕ) × Spells InFrames text (Frame frame.head payload)
frame_is_read text frame fault (skipped, fits, e, is) = (
  payload_text frame.head skipped frame.content,
  ((skipped.reserved, fits.reserved, fits.head, e), fits.payload),
)

-- ---- the preface

pub preface_first : (bytes : List ℕ) → take 24 bytes ≡ preface → bytes ≡ preface ++ drop 24 bytes
preface_first bytes e =
    sym (take-append-drop 24 bytes) ∙ ap (λ (front : List ℕ). front ++ drop 24 bytes) e

pub preface_taken : (bytes rest : List ℕ) → bytes ≡ preface ++ rest
    → (take 24 bytes ≡ preface) × (24 ≤ length bytes)
preface_taken bytes rest e = (ap (λ (b : List ℕ). take 24 b) e, omega (arith, ap length e))

-- ---- what is left over

pub no_leftover : (bytes : List ℕ) → length bytes ≡ 0 → [] ≡ leftover bytes
no_leftover [] none = refl
no_leftover (byte ∷ bytes) none = absurd (omega (arith, none))

pub a_leftover : (bytes rest : List ℕ) → 0 < length bytes → rest ≡ take (length bytes) bytes
    → Rest rest ∷ [] ≡ leftover bytes
a_leftover [] rest some e = absurd (omega (arith, some))
a_leftover (byte ∷ bytes) rest some e =
    ap (λ (r : List ℕ). Rest r ∷ []) (e ∙ take-length (byte ∷ bytes))
