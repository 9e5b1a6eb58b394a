-- A byte list has one list of events, and the events of a longer one begin with those of the
-- shorter.
use Rattle.std.proofs.Common.{
  ◌≡◌,
  ℕ,
  ◌+◌,
  List,
  [],
  ◌∷◌,
  ◌++◌,
  length,
  refl,
  sym,
  ap,
  subst,
  ◌∙◌,
  append_assoc,
  arith,
  inl,
  lit≤,
}
use Rattle.std.specs.Prelude.{flat_map}
use Rattle.std.proofs.lemmas.List.{append-nil, append_cancel_left, length-append, nil_from_length}
use Rattle.h2frame.specs.FrameList.{Entry, Joined}
use Rattle.reasons.specs.declared.Reason.TheVariants as reason
use Rattle.session.specs.declared.event.InEvent.{InEvent}
use Rattle.session.specs.Prefaces.{preface, Departs}
use Rattle.session.specs.Frames.{fatal}
use Rattle.session.specs.Events.{
  Situation,
  start,
  Group,
  entries_of,
  Runs,
  IsSettings,
  Opens,
  Close,
  Unfinished,
  Follows,
  IsUnsettled,
  Events,
  Greeted,
  Departed,
  Unsettled,
  Read,
}
use Rattle.session.proofs.Groups.{passes_none}
use Rattle.session.proofs.OnePiece.{Of, taken_some}
use Rattle.session.proofs.OneText.{joined_meet, none_joined}
use Rattle.session.proofs.OneRun.{
  Stop,
  Waits,
  Fails,
  At,
  stop_of,
  Halts,
  halts,
  Rests,
  rests,
  IsOpen,
  group_stands,
  ahead_of,
  inside_of,
  Meets,
  meets,
  Longer,
  runs_one,
}

-- ---- the preface

-- bytes that depart from it don't bring it, and are no front of it
departs_from : (bytes more text : List ℕ) → Departs preface bytes
    → bytes ++ more ≡ preface ++ text → ⊥
departs_from bytes more text departs e = departs more text e

departs_front : (bytes more due : List ℕ) → Departs preface bytes
    → preface ≡ (bytes ++ more) ++ due → ⊥
departs_front bytes more due departs e =
    departs (more ++ due) [] (sym (append_assoc bytes more due) ∙ sym e ∙ sym (append-nil preface))

-- bytes that bring it, and are a front of it, are it
whole_preface : (bytes more text due : List ℕ) → bytes ≡ preface ++ text
    → preface ≡ (bytes ++ more) ++ due → (text ≡ []) × (more ≡ []) × (due ≡ [])
whole_preface bytes more text due e f =
    let whole : preface ++ [] ≡ preface ++ (text ++ (more ++ due)) =
    append-nil preface ∙ f ∙ append_assoc bytes more due ∙ ap (λ (b : List ℕ). b ++ (more ++ due)) e
    ∙ append_assoc preface text (more ++ due) in
    let none : [] ≡ text ++ (more ++ due) =
    append_cancel_left preface [] (text ++ (more ++ due)) whole in
    let n : 0 ≡ length text + (length more + length due) =
    omega (arith, ap length none, length-append text (more ++ due), length-append more due) in (
      nil_from_length text (omega (arith, n)),
      nil_from_length more (omega (arith, n)),
      nil_from_length due (omega (arith, n)),
    )

-- the same text, and more
text_more : (bytes more text longer : List ℕ) → bytes ≡ preface ++ text
    → bytes ++ more ≡ preface ++ longer → longer ≡ text ++ more
text_more bytes more text longer e f =
    append_cancel_left preface longer (text ++ more)
    (sym f ∙ ap (λ (b : List ℕ). b ++ more) e ∙ append_assoc preface text more)

-- ---- behind it

follows_one : (text more : List ℕ) (es fs : List Entry) (rest last : List ℕ) (close other : Close)
    (given longer : List InEvent)
    → Joined text es rest → Joined (text ++ more) fs last
    → Follows es rest close given → Follows fs last other longer → Longer given longer
follows_one text more es fs rest last close other given longer j k a b =
    let m =
    meets text more es fs rest last (stop_of close) (stop_of other) j k
    (rests close a.now a.behind rest a.last a.closes)
    (rests other b.now b.behind last b.last b.closes) in
    let cut : Meets (stop_of close) (stop_of other)
    (flat_map entries_of a.passes.groups ++ a.behind)
    (flat_map entries_of b.passes.groups ++ b.behind) =
    subst (λ (xs : List Entry).
    Meets (stop_of close) (stop_of other) (flat_map entries_of a.passes.groups ++ a.behind)
    xs) b.passes.parts
    (subst (λ (xs : List Entry). Meets (stop_of close) (stop_of other) xs fs) a.passes.parts m) in
    let l =
    runs_one (stop_of close) (stop_of other) start a.now b.now a.passes.groups b.passes.groups
    a.behind b.behind a.before a.last b.before b.last
    a.passes.runs (halts close a.now a.behind rest a.last a.closes) b.passes.runs
    (halts other b.now b.behind last b.last b.closes) cut in
    (l.0, b.all ∙ l.1 ∙ ap (λ (es : List InEvent). es ++ l.0) (sym a.all))

-- ---- a first frame that is no SETTINGS

one_head : (e f : Entry) (x y : List Entry) → e ∷ x ≡ f ∷ y → e ≡ f
one_head e f x y same = cc

no_parts : (xs ys : List Entry) → [] ≡ xs ++ ys → ys ≡ []
no_parts [] ys e = sym e
no_parts (x ∷ xs) ys e = absurd cc

-- without entries there is no event but that of a fault of the bytes
open_stop : (now : Situation) (stop : Stop) (behind : List Entry) (last : List InEvent)
    → Halts now stop behind last → behind ≡ [] → IsOpen stop
open_stop now Waits behind last h none = tt
open_stop now (Fails fault) behind last h none = tt
open_stop now (At piece) behind last h none =
    absurd (taken_some now.history piece h.0 (sym h.1 ∙ none))

is_open : (es : List Entry) (rest : List ℕ) (close : Close) (given : List InEvent)
    → Follows es rest close given → es ≡ [] → IsOpen (stop_of close)
is_open es rest close given a none =
    open_stop a.now (stop_of close) a.behind a.last
    (halts close a.now a.behind rest a.last a.closes)
    (no_parts (flat_map entries_of a.passes.groups) a.behind (sym none ∙ a.passes.parts))

settles : (entry : Entry) (others x y : List Entry) (e : Entry) → Opens (e ∷ others)
    → (entry ∷ []) ++ x ≡ (e ∷ others) ++ y → IsSettings entry
settles entry others x y e opens same =
    subst IsSettings (sym (one_head entry e x (others ++ y) same)) opens

-- the longer text is read
unsettled_read : (text more : List ℕ) (entry : Entry) (fs : List Entry) (rest last : List ℕ)
    (other : Close) (longer : List InEvent)
    → Joined text (entry ∷ []) rest → Joined (text ++ more) fs last
    → (IsSettings entry → ⊥) → Follows fs last other longer → ⊥
unsettled_read text more entry [] rest last other longer j k not b =
    let z =
    ahead_of text more (entry ∷ []) [] rest last (stop_of other) j k
    (rests other b.now b.behind last b.last b.closes) (is_open [] last other longer b refl) in
    let bad : [] ≡ entry ∷ z.0 = z.1 in
    cc bad
unsettled_read text more entry (f ∷ fs) rest last other longer j k not b =
    let e = joined_meet text more (entry ∷ []) (f ∷ fs) rest last j k in
    not (settles entry fs e.0 e.1 f b.passes.opens e.2)

-- without entries the shorter text waits, or its bytes are faulty
stops_or : (now : Situation) (s : Stop) (text more : List ℕ) (entry : Entry) (rest last : List ℕ)
    (behind : List Entry) (given : List InEvent)
    → Joined text [] rest → Joined (text ++ more) (entry ∷ []) last
    → Rests s rest → Halts now s behind given → behind ≡ [] → given ≡ []
stops_or now Waits text more entry rest last behind given j k ends h none = h.1
stops_or now (Fails fault) text more entry rest last behind given j k ends h none =
    let z = inside_of text more [] (entry ∷ []) rest last (Fails fault) j k ends tt in
    let bad : [] ≡ entry ∷ z.0 = z.1 in
    absurd (cc bad)
stops_or now (At piece) text more entry rest last behind given j k ends h none =
    absurd (taken_some now.history piece h.0 (sym h.1 ∙ none))

first_none : (xs ys zs : List Entry) → [] ≡ (xs ++ ys) ++ zs → xs ≡ []
first_none [] ys zs e = refl
first_none (x ∷ xs) ys zs e = absurd cc

no_groups : (now end : Situation) (groups : List Group) (behind : List Entry)
    (before : List InEvent)
    → Runs now groups before end → [] ≡ flat_map entries_of groups ++ behind → before ≡ []
no_groups now end [] behind before runs e = runs.0
no_groups now end (group ∷ groups) behind before (first, others, next, gives, calm, runs, all) e =
    absurd (taken_some now.history (Of group) (group_stands now next group first gives)
    (first_none (entries_of group) (flat_map entries_of groups) behind e))

-- the shorter text is read
read_unsettled : (text more : List ℕ) (entry : Entry) (es : List Entry) (rest last : List ℕ)
    (close : Close) (given : List InEvent)
    → Joined text es rest → Joined (text ++ more) (entry ∷ []) last
    → (IsSettings entry → ⊥) → Follows es rest close given → given ≡ []
read_unsettled text more entry [] rest last close given j k not a =
    let before : a.before ≡ [] =
    no_groups start a.now a.passes.groups a.behind a.before a.passes.runs a.passes.parts in
    let behind : a.behind ≡ [] =
    no_parts (flat_map entries_of a.passes.groups) a.behind a.passes.parts in
    let none : a.last ≡ [] =
    stops_or a.now (stop_of close) text more entry rest last a.behind a.last j k
    (rests close a.now a.behind rest a.last a.closes)
    (halts close a.now a.behind rest a.last a.closes) behind in
    a.all ∙ ap (λ (xs : List InEvent). xs ++ a.last) before ∙ none
read_unsettled text more entry (e ∷ es) rest last close given j k not a =
    let same = joined_meet text more (e ∷ es) (entry ∷ []) rest last j k in
    absurd (not (settles entry es same.1 same.0 e a.passes.opens (sym same.2)))

-- ---- all events

nothing_follows : Follows [] [] Unfinished []
nothing_follows = record {
  behind = [];
  before = [];
  last = [];
  now = start;
  passes = passes_none;
  closes = (inl refl, inl (lit≤ tt), refl);
  all = refl;
}

brings : (bytes more text : List ℕ) → bytes ≡ preface ++ text → Departs preface (bytes ++ more) → ⊥
brings bytes more text e departs =
    departs [] (text ++ more)
    (append-nil (bytes ++ more) ∙ ap (λ (b : List ℕ). b ++ more) e ∙ append_assoc preface text more)

joined_at : (text longer : List ℕ) (entries : List Entry) (rest : List ℕ) → longer ≡ text
    → Joined longer entries rest → Joined text entries rest
joined_at text longer entries rest e j = subst (λ (b : List ℕ). Joined b entries rest) e j

-- the shorter text has a first frame that is no SETTINGS
behind_unsettled : (bytes more text : List ℕ) (entries : List Entry) (rest : List ℕ)
    (given longer : List InEvent)
    → bytes ≡ preface ++ text → Joined text entries rest → IsUnsettled entries
    → given ≡ fatal reason.First
    → Events (bytes ++ more) longer → Longer given longer
behind_unsettled bytes more text entries rest given longer e j (entry, is, not) g
    (Greeted due f silent) =
    absurd (none_joined entry [] rest (subst (λ (b : List ℕ). Joined b (entry ∷ []) rest)
    (whole_preface bytes more text due e f).0
    (subst (λ (xs : List Entry). Joined text xs rest) is j)))
behind_unsettled bytes more text entries rest given longer e j unsettled g (Departed departs f) =
    absurd (brings bytes more text e departs)
behind_unsettled bytes more text entries rest given longer e j unsettled g
    (Unsettled text' entries' rest' f k unsettled' h) = ([], h ∙ sym g ∙ sym (append-nil given))
behind_unsettled bytes more text entries rest given longer e j (entry, is, not) g
    (Read text' entries' rest' close f k follows) =
    absurd (unsettled_read text more entry entries' rest rest' close longer
    (subst (λ (xs : List Entry). Joined text xs rest) is j)
    (joined_at (text ++ more) text' entries' rest'
    (text_more bytes more text text' e f) k) not follows)

-- the shorter text is read
behind_read : (bytes more text : List ℕ) (entries : List Entry) (rest : List ℕ) (close : Close)
    (given longer : List InEvent)
    → bytes ≡ preface ++ text → Joined text entries rest → Follows entries rest close given
    → Events (bytes ++ more) longer → Longer given longer
behind_read bytes more text entries rest close given longer e j a (Greeted due f silent) =
    let w = whole_preface bytes more text due e f in
    let none : text ++ more ≡ [] = ap (λ (b : List ℕ). b ++ more) w.0 ∙ w.1 in
    let l =
    follows_one text more entries [] rest [] close Unfinished given [] j none a nothing_follows in
    (l.0, silent ∙ l.1)
behind_read bytes more text entries rest close given longer e j a (Departed departs f) =
    absurd (brings bytes more text e departs)
behind_read bytes more text entries rest close given longer e j a
    (Unsettled text' entries' rest' f k (entry, is, not) h) =
    let silent : given ≡ [] =
    read_unsettled text more entry entries rest rest' close given j
    (joined_at (text ++ more) text' (entry ∷ []) rest' (text_more bytes more text text' e f)
    (subst (λ (xs : List Entry). Joined text' xs rest') is k)) not a in
    (longer, ap (λ (xs : List InEvent). xs ++ longer) (sym silent))
behind_read bytes more text entries rest close given longer e j a
    (Read text' entries' rest' close' f k b) =
    follows_one text more entries entries' rest rest' close close' given longer j
    (joined_at (text ++ more) text' entries' rest' (text_more bytes more text text' e f) k) a b

pub events_go_on : (bytes more : List ℕ) (given longer : List InEvent) → Events bytes given
    → Events (bytes ++ more) longer → (rest : List InEvent) × (longer ≡ given ++ rest)
events_go_on bytes more given longer (Greeted due e silent) also =
    (longer, ap (λ (xs : List InEvent). xs ++ longer) (sym silent))
events_go_on bytes more given longer (Departed departs e) (Greeted due f silent) =
    absurd (departs_front bytes more due departs f)
events_go_on bytes more given longer (Departed departs e) (Departed also f) =
    ([], f ∙ sym e ∙ sym (append-nil given))
events_go_on bytes more given longer (Departed departs e)
    (Unsettled text entries rest f j unsettled g) = absurd (departs_from bytes more text departs f)
events_go_on bytes more given longer (Departed departs e)
    (Read text entries rest close f j follows) = absurd (departs_from bytes more text departs f)
events_go_on bytes more given longer (Unsettled text entries rest e j unsettled g) also =
    behind_unsettled bytes more text entries rest given longer e j unsettled g also
events_go_on bytes more given longer (Read text entries rest close e j follows) also =
    behind_read bytes more text entries rest close given longer e j follows also

-- ---- one list

begins_both : (one other : List InEvent) → (rest : List InEvent) × (other ≡ one ++ rest)
    → (rest : List InEvent) × (one ≡ other ++ rest) → one ≡ other
begins_both one other (more, e) (rest, f) =
    let none : length more ≡ 0 =
    omega (arith, ap length e, ap length f, length-append one more, length-append other rest) in
    sym (append-nil one)
    ∙ ap (λ (xs : List InEvent). one ++ xs) (sym (nil_from_length more none)) ∙ sym e

pub events_one : (bytes : List ℕ) (one other : List InEvent) → Events bytes one
    → Events bytes other → one ≡ other
events_one bytes one other a b =
    let same : bytes ≡ bytes ++ [] = sym (append-nil bytes) in
    begins_both one other
    (events_go_on bytes [] one other a (subst (λ (t : List ℕ). Events t other) same b))
    (events_go_on bytes [] other one b (subst (λ (t : List ℕ). Events t one) same a))
