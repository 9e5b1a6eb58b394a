-- Groups and what stands behind them, over entries of which one list begins the other: the events
-- of one begin with those of the other.
use Rattle.std.proofs.Common.{◌≡◌, ℕ, List, [], ◌∷◌, ◌++◌, refl, sym, ap, subst, ◌∙◌, append_assoc}
use Rattle.std.specs.Prelude.{flat_map, Some, None}
use Rattle.std.proofs.lemmas.List.{append-nil, append_cancel_left}
use Rattle.h2frame.specs.declared.error_code.ErrorCode.{ErrorCode}
use Rattle.h2frame.specs.declared.fault.FrameFault.{FrameFault}
use Rattle.h2frame.specs.declared.kind.FrameKind.{FrameKind}
use Rattle.h2frame.specs.FrameList.{Entry, Joined, IsUnfinished, IsFaulty}
use Rattle.h2frame.proofs.Lists.{joined_more, faulty_more, faulty_list}
use Rattle.streamstates.specs.declared.halves.FrameAction.TheVariants.{ConnectionError}
use Rattle.streamstates.specs.Halves.{verdict, is_connection_error}
use Rattle.reasons.specs.declared.Reason.{Reason}
use Rattle.reasons.specs.declared.Reason.TheVariants as reason
use Rattle.session.specs.declared.event.InEvent.{InEvent}
use Rattle.session.specs.Frames.{fatal, KindGives}
use Rattle.session.specs.HeaderBlocks.{fragment_reason}
use Rattle.session.specs.Events.{
  Situation,
  Group,
  Single,
  Credit,
  Block,
  entries_of,
  GroupGives,
  IsCalm,
  Runs,
  Close,
  Unfinished,
  Faulty,
  Refused,
  Broken,
  Ended,
  IsPartial,
  Closes,
}
use Rattle.session.proofs.OneGroup.{group_one, not_calm_end}
use Rattle.session.proofs.OnePiece.{
  Piece,
  Of,
  Refusal,
  Cut,
  taken,
  StandsIn,
  piece_one,
  partial_none,
}
use Rattle.session.proofs.OneText.{joined_meet, joined_ahead}

-- ---- what stands behind the groups: nothing whole yet, a fault of the bytes, or a piece that ends
-- the connection

pub data Stop : Type 0 where
  Waits : Stop
  Fails : FrameFault → Stop
  At : Piece → Stop

abbrev pub stop_of : Close → Stop
stop_of Unfinished = Waits
stop_of (Faulty fault) = Fails fault
stop_of (Refused frame error) = At (Refusal frame)
stop_of (Broken frames block entry fault) = At (Cut frames block entry fault)
stop_of (Ended group next error) = At (Of group)

-- the piece comes to these events, which end the connection
abbrev Comes : Situation → Piece → List InEvent → Type 0
Comes now (Of group) last =
    (why : Reason) × (next : Situation) × GroupGives now group last next × (last ≡ fatal why)
Comes now (Refusal frame) last =
    (error : ErrorCode) × (verdict now.history frame.head ≡ ConnectionError error)
    × (last ≡ fatal (reason.Stream frame.head.kind error))
Comes now (Cut frames block entry fault) last = last ≡ fatal (fragment_reason fault)

abbrev pub Halts : Situation → Stop → List Entry → List InEvent → Type 0
Halts now Waits behind last = IsPartial now.history behind × (last ≡ [])
Halts now (Fails fault) behind last =
    IsPartial now.history behind × (last ≡ fatal (reason.Frame fault))
Halts now (At piece) behind last =
    StandsIn now.history piece × (behind ≡ taken piece) × Comes now piece last

pub group_stands : (now next : Situation) (group : Group) (given : List InEvent)
    → GroupGives now group given next → StandsIn now.history (Of group)
group_stands now next (Single frame) given gives = λ e.
    subst (λ (k : FrameKind). KindGives k now.history frame given next.history) e gives.0
group_stands now next (Credit id) given gives = tt
group_stands now next (Block frames block) given gives = (gives.0, gives.1)

pub halts : (close : Close) (now : Situation) (behind : List Entry) (rest : List ℕ)
    (last : List InEvent)
    → Closes close now behind rest last → Halts now (stop_of close) behind last
halts Unfinished now behind rest last (partial, ends, e) = (partial, e)
halts (Faulty fault) now behind rest last (partial, ends, e) = (partial, e)
halts (Refused frame error) now behind rest last (at, kind, judged, e) =
    ((kind, ap is_connection_error judged), at, (error, judged, e))
halts (Broken frames block entry fault) now behind rest last (begun, part, at, breaks, e) =
    ((begun, part, breaks), at, e)
halts (Ended group next error) now behind rest last (at, gives, e) = (
  group_stands now next group (fatal error) gives,
  at,
  (error, next, subst (λ (es : List InEvent). GroupGives now group es next) (sym e) gives, e),
)

same_code : (a b : ErrorCode) → ConnectionError a ≡ ConnectionError b → a ≡ b
same_code a b e = cc

comes_one : (now : Situation) (piece : Piece) (last other : List InEvent) → Comes now piece last
    → Comes now piece other → last ≡ other
comes_one now (Of group) last other (error, next, gives, e) (code, new, gives', f) =
    (group_one now next new group last other gives gives').0
comes_one now (Refusal frame) last other (error, judged, e) (code, judged', f) =
    e
    ∙ ap (λ (c : ErrorCode). fatal (reason.Stream frame.head.kind c))
    (same_code error code (sym judged ∙ judged'))
    ∙ sym f
comes_one now (Cut frames block entry fault) last other e f = e ∙ sym f

-- a group is calm, or it ends the connection
calm_or_end : (now next : Situation) (group : Group) (piece : Piece) (first last : List InEvent)
    → GroupGives now group first next → IsCalm first → piece ≡ Of group → Comes now piece last → ⊥
calm_or_end now next group piece first last gives calm e comes =
    ends (subst (λ (p : Piece). Comes now p last) e comes)
  where
    ends : Comes now (Of group) last → ⊥
    ends (error, new, gives', f) =
        not_calm_end first error ((group_one now next new group first last gives gives').0 ∙ f) calm

-- ---- two lists of entries

abbrev pub IsOpen : Stop → Type 0
IsOpen Waits = Unit {0}
IsOpen (Fails fault) = Unit {0}
IsOpen (At piece) = ⊥

abbrev pub IsFailing : Stop → Type 0
IsFailing Waits = ⊥
IsFailing (Fails fault) = Unit {0}
IsFailing (At piece) = ⊥

abbrev pub Agree : Stop → Stop → Type 0
Agree Waits t = Unit {0}
Agree (Fails fault) Waits = ⊥
Agree (Fails fault) (Fails other) = fault ≡ other
Agree (Fails fault) (At piece) = Unit {0}
Agree (At piece) t = Unit {0}

-- one list begins the other, and where all of a text is read it is the longer one
pub record Meets (s t : Stop) (es fs : List Entry) : Type 0 where
  pub either : (x : List Entry) × (y : List Entry) × (es ++ x ≡ fs ++ y)
  pub ahead : IsOpen t → (z : List Entry) × (fs ≡ es ++ z)
  pub inside : IsFailing s → (z : List Entry) × (es ≡ fs ++ z)
  pub agree : Agree s t

cancel : (s t : Stop) (xs es fs : List Entry) → Meets s t (xs ++ es) (xs ++ fs) → Meets s t es fs
cancel s t xs es fs m =
    record {
      either =
          let e = m.either in (
            e.0,
            e.1,
            append_cancel_left xs (es ++ e.0) (fs ++ e.1)
                (sym (append_assoc xs es e.0) ∙ e.2 ∙ append_assoc xs fs e.1),
          );
      ahead = λ o.
          let a = m.ahead o in
          (a.0, append_cancel_left xs fs (es ++ a.0) (a.1 ∙ append_assoc xs es a.0));
      inside = λ o.
          let a = m.inside o in
          (a.0, append_cancel_left xs es (fs ++ a.0) (a.1 ∙ append_assoc xs fs a.0));
      agree = m.agree;
    }

meets_by : (s t : Stop) (es es' fs fs' : List Entry) → es ≡ es' → fs ≡ fs' → Meets s t es fs
    → Meets s t es' fs'
meets_by s t es es' fs fs' e f m =
    subst (λ (xs : List Entry). Meets s t es' xs) f
    (subst (λ (xs : List Entry). Meets s t xs fs) e m)

-- ---- what stands in the rest of the bytes

abbrev pub Rests : Stop → List ℕ → Type 0
Rests Waits rest = IsUnfinished rest
Rests (Fails fault) rest = IsFaulty fault rest
Rests (At piece) rest = Unit {0}

pub rests : (close : Close) (now : Situation) (behind : List Entry) (rest : List ℕ)
    (last : List InEvent)
    → Closes close now behind rest last → Rests (stop_of close) rest
rests Unfinished now behind rest last (partial, ends, e) = ends
rests (Faulty fault) now behind rest last (partial, ends, e) = ends
rests (Refused frame error) now behind rest last c = tt
rests (Broken frames block entry fault) now behind rest last c = tt
rests (Ended group next error) now behind rest last c = tt

pub ahead_of : (bytes piece : List ℕ) (es fs : List Entry) (rest last : List ℕ) (t : Stop)
    → Joined bytes es rest → Joined (bytes ++ piece) fs last → Rests t last → IsOpen t
    → (z : List Entry) × (fs ≡ es ++ z)
ahead_of bytes piece es fs rest last Waits j k ends o =
    joined_ahead bytes piece es fs rest last None j k ends
ahead_of bytes piece es fs rest last (Fails fault) j k ends o =
    joined_ahead bytes piece es fs rest last (Some fault) j k ends
ahead_of bytes piece es fs rest last (At p) j k ends o = absurd o

pub inside_of : (bytes piece : List ℕ) (es fs : List Entry) (rest last : List ℕ) (s : Stop)
    → Joined bytes es rest → Joined (bytes ++ piece) fs last → Rests s rest → IsFailing s
    → (z : List Entry) × (es ≡ fs ++ z)
inside_of bytes piece es fs rest last Waits j k ends o = absurd o
inside_of bytes piece es fs rest last (Fails fault) j k ends o =
    joined_ahead (bytes ++ piece) [] fs es last (rest ++ piece) (Some fault) k
    (subst (λ (b : List ℕ). Joined b es (rest ++ piece)) (sym (append-nil (bytes ++ piece)))
    (joined_more bytes es rest piece j)) (faulty_more fault rest piece ends)
inside_of bytes piece es fs rest last (At p) j k ends o = absurd o

same_fault : (a b : FrameFault) → Some b ≡ Some a → a ≡ b
same_fault a b e = cc

agree_of : (bytes piece : List ℕ) (es fs : List Entry) (rest last : List ℕ) (s t : Stop)
    → Joined bytes es rest → Joined (bytes ++ piece) fs last → Rests s rest
    → Rests t last → Agree s t
agree_of bytes piece es fs rest last Waits t j k ends h = tt
agree_of bytes piece es fs rest last (Fails fault) Waits j k ends h =
    let bad : None ≡ Some fault =
    (faulty_list bytes piece es fs fault None (rest, j, ends) (last, k, h)).1 in
    cc bad
agree_of bytes piece es fs rest last (Fails fault) (Fails other) j k ends h =
    same_fault fault other
    (faulty_list bytes piece es fs fault (Some other) (rest, j, ends) (last, k, h)).1
agree_of bytes piece es fs rest last (Fails fault) (At p) j k ends h = tt
agree_of bytes piece es fs rest last (At p) t j k ends h = tt

pub meets : (bytes piece : List ℕ) (es fs : List Entry) (rest last : List ℕ) (s t : Stop)
    → Joined bytes es rest → Joined (bytes ++ piece) fs last → Rests s rest → Rests t last
    → Meets s t es fs
meets bytes piece es fs rest last s t j k ends h =
    record {
      either = joined_meet bytes piece es fs rest last j k;
      ahead = ahead_of bytes piece es fs rest last t j k h;
      inside = inside_of bytes piece es fs rest last s j k ends;
      agree = agree_of bytes piece es fs rest last s t j k ends h;
    }

-- ---- the events of one begin with those of the other

abbrev pub Longer : List InEvent → List InEvent → Type 0
Longer given longer = (z : List InEvent) × (longer ≡ given ++ z)

-- where both have no more groups
both_stop : (s t : Stop) (now : Situation) (es fs : List Entry) (last other : List InEvent)
    → Halts now s es last → Halts now t fs other → Meets s t es fs → Longer last other
both_stop Waits t now es fs last other a b m =
    (other, ap (λ (l : List InEvent). l ++ other) (sym a.1))
both_stop (Fails fault) Waits now es fs last other a b m = absurd m.agree
both_stop (Fails fault) (Fails code) now es fs last other a b m = (
  [],
  b.1 ∙ ap (λ (f : FrameFault). fatal (reason.Frame f)) (sym m.agree) ∙ sym a.1
      ∙ sym (append-nil last),
)
both_stop (Fails fault) (At q) now es fs last other a b m =
    let i = m.inside tt in
    absurd
    (partial_none now.history es i.0 q a.0 b.0 (i.1 ∙ ap (λ (xs : List Entry). xs ++ i.0) b.1))
both_stop (At p) Waits now es fs last other a b m =
    let i = m.ahead tt in
    absurd
    (partial_none now.history fs i.0 p b.0 a.0 (i.1 ∙ ap (λ (xs : List Entry). xs ++ i.0) a.1))
both_stop (At p) (Fails code) now es fs last other a b m =
    let i = m.ahead tt in
    absurd
    (partial_none now.history fs i.0 p b.0 a.0 (i.1 ∙ ap (λ (xs : List Entry). xs ++ i.0) a.1))
both_stop (At p) (At q) now es fs last other a b m =
    let e = m.either in
    let one =
    piece_one now.history p q e.0 e.1 a.0 b.0 (ap (λ (xs : List Entry). xs ++ e.0) (sym a.1) ∙ e.2
    ∙ ap (λ (xs : List Entry). xs ++ e.1) b.1) in
    let same = comes_one now q last other (subst (λ (r : Piece). Comes now r last) one.0 a.2) b.2 in
    ([], sym same ∙ sym (append-nil last))

-- where the longer one has a further group, the shorter one waits
one_stops : (s t : Stop) (now next : Situation) (group : Group) (es fs : List Entry)
    (last first : List InEvent)
    → Halts now s es last → GroupGives now group first next → IsCalm first
    → Meets s t es (entries_of group ++ fs) → last ≡ []
one_stops Waits t now next group es fs last first a gives calm m = a.1
one_stops (Fails fault) t now next group es fs last first a gives calm m =
    let i = m.inside tt in
    absurd (partial_none now.history es (fs ++ i.0) (Of group) a.0
    (group_stands now next group first gives) (i.1 ∙ append_assoc (entries_of group) fs i.0))
one_stops (At p) t now next group es fs last first a gives calm m =
    let e = m.either in
    let one =
    piece_one now.history p (Of group) e.0 (fs ++ e.1) a.0 (group_stands now next group first gives)
    (ap (λ (xs : List Entry). xs ++ e.0) (sym a.1) ∙ e.2
    ∙ append_assoc (entries_of group) fs e.1) in
    absurd (calm_or_end now next group p first last gives calm one.0 a.2)

-- the longer one has all groups of the shorter one
none_early : (s t : Stop) (now next : Situation) (group : Group) (es fs : List Entry)
    (first other : List InEvent)
    → GroupGives now group first next → IsCalm first → Halts now t fs other
    → Meets s t (entries_of group ++ es) fs → ⊥
none_early s Waits now next group es fs first other gives calm b m =
    let i = m.ahead tt in
    partial_none now.history fs (es ++ i.0) (Of group) b.0 (group_stands now next group first gives)
    (i.1 ∙ append_assoc (entries_of group) es i.0)
none_early s (Fails fault) now next group es fs first other gives calm b m =
    let i = m.ahead tt in
    partial_none now.history fs (es ++ i.0) (Of group) b.0 (group_stands now next group first gives)
    (i.1 ∙ append_assoc (entries_of group) es i.0)
none_early s (At q) now next group es fs first other gives calm b m =
    let e = m.either in
    let one =
    piece_one now.history (Of group) q (es ++ e.0) e.1 (group_stands now next group first gives) b.0
    (sym (append_assoc (entries_of group) es e.0) ∙ e.2
    ∙ ap (λ (xs : List Entry). xs ++ e.1) b.1) in
    calm_or_end now next group q first other gives calm (sym one.0) b.2

same_group : (g h : Group) → Of g ≡ Of h → g ≡ h
same_group g h e = cc

-- both have a group
group_meets : (s t : Stop) (now next new : Situation) (g h : Group) (es fs : List Entry)
    (first other : List InEvent)
    → GroupGives now g first next → IsCalm first → GroupGives now h other new
    → Meets s t (entries_of g ++ es) (entries_of h ++ fs)
    → (first ≡ other) × (next ≡ new) × Meets s t es fs
group_meets s t now next new g h es fs first other gives calm also m =
    let e = m.either in
    let one =
    piece_one now.history (Of g) (Of h) (es ++ e.0) (fs ++ e.1)
    (group_stands now next g first gives) (group_stands now new h other also)
    (sym (append_assoc (entries_of g) es e.0) ∙ e.2 ∙ append_assoc (entries_of h) fs e.1) in
    let same : g ≡ h = same_group g h one.0 in
    let outcome =
    group_one now next new h first other
    (subst (λ (k : Group). GroupGives now k first next) same gives) also in (
      outcome.0,
      outcome.1 calm,
      cancel s t (entries_of h) es fs
          (subst (λ (k : Group). Meets s t (entries_of k ++ es) (entries_of h ++ fs)) same m),
    )

joins : (first others last z : List InEvent)
    → first ++ ((others ++ last) ++ z) ≡ ((first ++ others) ++ last) ++ z
joins first others last z =
    sym (append_assoc first (others ++ last) z)
    ∙ ap (λ (es : List InEvent). es ++ z) (sym (append_assoc first others last))

pub runs_one : (s t : Stop) (now end last : Situation) (gs hs : List Group) (es fs : List Entry)
    (before given also other : List InEvent)
    → Runs now gs before end → Halts end s es given → Runs now hs also last → Halts last t fs other
    → Meets s t (flat_map entries_of gs ++ es) (flat_map entries_of hs ++ fs)
    → Longer (before ++ given) (also ++ other)
runs_one s t now end last [] [] es fs before given also other r a q b m =
    let l =
    both_stop s t now es fs given other (subst (λ (u : Situation). Halts u s es given) r.1 a)
    (subst (λ (u : Situation). Halts u t fs other) q.1 b) m in (
      l.0,
      ap (λ (xs : List InEvent). xs ++ other) q.0 ∙ l.1
          ∙ ap (λ (xs : List InEvent). (xs ++ given) ++ l.0) (sym r.0),
    )
runs_one s t now end last [] (h ∷ hs) es fs before given also other r a
    (first, others, next, gives, calm, runs, e) b m =
    let none : given ≡ [] =
    one_stops s t now next h es (flat_map entries_of hs ++ fs) given first
    (subst (λ (u : Situation). Halts u s es given) r.1 a) gives calm
    (meets_by s t es es ((entries_of h ++ flat_map entries_of hs) ++ fs)
    (entries_of h ++ (flat_map entries_of hs ++ fs)) refl
    (append_assoc (entries_of h) (flat_map entries_of hs) fs) m) in (
      also ++ other,
      ap (λ (xs : List InEvent). xs ++ (also ++ other))
          (sym (ap (λ (xs : List InEvent). xs ++ given) r.0 ∙ none)),
    )
runs_one s t now end last (g ∷ gs) [] es fs before given also other
    (first, others, next, gives, calm, runs, e) a q b m =
    absurd (none_early s t now next g (flat_map entries_of gs ++ es) fs first other gives calm
    (subst (λ (u : Situation). Halts u t fs other) q.1 b)
    (meets_by s t ((entries_of g ++ flat_map entries_of gs) ++ es)
    (entries_of g ++ (flat_map entries_of gs ++ es)) fs fs
    (append_assoc (entries_of g) (flat_map entries_of gs) es) refl m))
runs_one s t now end last (g ∷ gs) (h ∷ hs) es fs before given also other
    (first, others, next, gives, calm, runs, e) a
    (first', others', next', gives', calm', runs', e') b m =
    let both =
    group_meets s t now next next' g h (flat_map entries_of gs ++ es) (flat_map entries_of hs ++ fs)
    first first' gives calm gives'
    (meets_by s t ((entries_of g ++ flat_map entries_of gs) ++ es)
    (entries_of g ++ (flat_map entries_of gs ++ es))
    ((entries_of h ++ flat_map entries_of hs) ++ fs)
    (entries_of h ++ (flat_map entries_of hs ++ fs))
    (append_assoc (entries_of g) (flat_map entries_of gs) es)
    (append_assoc (entries_of h) (flat_map entries_of hs) fs) m) in
    let tail =
    runs_one s t next' end last gs hs es fs others given others' other
    (subst (λ (u : Situation). Runs u gs others end) both.1 runs) a runs' b both.2 in (
      tail.0,
      ap (λ (xs : List InEvent). xs ++ other) e' ∙ append_assoc first' others' other
          ∙ ap (λ (xs : List InEvent). first' ++ xs) tail.1
          ∙ ap (λ (xs : List InEvent). xs ++ ((others ++ given) ++ tail.0)) (sym both.0)
          ∙ joins first others given tail.0
          ∙ ap (λ (xs : List InEvent). (xs ++ given) ++ tail.0) (sym e),
    )
