-- What is kept of the calls follows from the run still: after a frame, after an item, and after
-- what tells nothing.
use Rattle.std.proofs.Common.{
  ◌≡◌,
  ℕ,
  suc,
  ◌<◌,
  ◌==◌,
  ◌⊎◌,
  inl,
  refl,
  sym,
  ap,
  subst,
  ◌∙◌,
  Bool,
  true,
  false,
  List,
  [],
  ◌∷◌,
  ◌++◌,
  Option,
  Some,
  None,
  length,
  arith,
}
use Rattle.std.specs.Prelude.{◌&&◌, All, map, filter, get_or, is_some, if◌then◌else◌}
use Rattle.std.proofs.lemmas.Bool.{eq-eqb}
use Rattle.std.proofs.lemmas.List.{map-append}
use Rattle.std.proofs.lemmas.List.Elements.{filter-append}
use Rattle.account.specs.declared.call.OutItem.{OutItem}
use Rattle.outwriter.specs.OpenStreams.{OpenStreams, Shown, shown, shows}
use Rattle.outwriter.specs.declared.due.Due.{Due}
use Rattle.outwriter.specs.declared.due.Due.TheVariants as due_kind
use Rattle.outwriter.specs.declared.outbound.Outbound.{Outbound}
use Rattle.outwriter.specs.declared.stream.OpenStream.{OpenStream}
use Rattle.outwriter.specs.Calls.{is_fresh, is_served}
use Rattle.outwriter.specs.States.{is_heard, knows, over_on}
use Rattle.outwriter.specs.Histories.{is_stream, was_reset}
use Rattle.outwriter.specs.Parts.{Mark, marks_on, on_stream, spelled}
use Rattle.outwriter.specs.CallState.{
  bytes_marks,
  IsExact,
  IsEnded,
  IsUncalled,
  MayBeDue,
  Serves,
  has_reason,
}
use Rattle.outwriter.specs.Steps.{Step}
use Rattle.outwriter.specs.ToldByNow.{SpellsOf}
use Rattle.outwriter.proofs.Others.{Later, ended-later, uncalled-same}

-- ---- marks

pub marks-append : (id : ℕ) (a b : List (ℕ × Mark))
    → marks_on id (a ++ b) ≡ marks_on id a ++ marks_on id b
marks-append id a b =
    ap (map (λ m. m.1)) (filter-append (λ m. id == m.0) a b)
    ∙ map-append (λ m. m.1) (filter (λ m. id == m.0) a) (filter (λ m. id == m.0) b)

pub marks-here : (id : ℕ) (more : List Mark) → marks_on id (on_stream id more) ≡ more
marks-here id [] = refl
marks-here id (m ∷ ms) =
    ap (λ b.
    map (λ (x : ℕ × Mark). x.1)
    (if b then (id, m) ∷ filter (λ (x : ℕ × Mark). id == x.0) (on_stream id ms)
    else filter (λ (x : ℕ × Mark). id == x.0) (on_stream id ms))) (eq-eqb id id refl)
    ∙ ap (λ rest. m ∷ rest) (marks-here id ms)

pub marks-elsewhere : (k id : ℕ) (more : List Mark) → (k == id) ≡ false
    → marks_on k (on_stream id more) ≡ []
marks-elsewhere k id [] e = refl
marks-elsewhere k id (m ∷ ms) e =
    ap (λ b.
    map (λ (x : ℕ × Mark). x.1)
    (if b then (id, m) ∷ filter (λ (x : ℕ × Mark). k == x.0) (on_stream id ms)
    else filter (λ (x : ℕ × Mark). k == x.0) (on_stream id ms))) e
    ∙ marks-elsewhere k id ms e

pub append-nil : {A : Type 0} (l : List A) → (l ++ []) ≡ l
append-nil [] = refl
append-nil (x ∷ xs) = ap (λ rest. x ∷ rest) (append-nil xs)

pub more-here : (id : ℕ) (marks : List (ℕ × Mark)) (more : List Mark)
    → marks_on id (marks ++ on_stream id more) ≡ marks_on id marks ++ more
more-here id marks more =
    marks-append id marks (on_stream id more)
    ∙ ap (λ rest. marks_on id marks ++ rest) (marks-here id more)

pub more-elsewhere : (k id : ℕ) (marks : List (ℕ × Mark)) (more : List Mark) → (k == id) ≡ false
    → marks_on k (marks ++ on_stream id more) ≡ marks_on k marks
more-elsewhere k id marks more e =
    marks-append k marks (on_stream id more)
    ∙ ap (λ rest. marks_on k marks ++ rest) (marks-elsewhere k id more e)
    ∙ append-nil (marks_on k marks)

-- ---- what is shown of a stream

pub none-some : {A : Type 0} (x : A) → None ≡ Some x → ⊥
none-some x e = cc

pub some-none : {A : Type 0} (x : A) → Some x ≡ None → ⊥
some-none x e = cc

pub none-shown : (o : Option OpenStream) → shown o ≡ None → o ≡ None
none-shown None e = refl
none-shown (Some stream) e = absurd (some-none (stream.place, stream.in_hand) e)

abbrev pub from_some : ℕ × Option (List ℕ) → Shown → ℕ × Option (List ℕ)
from_some d None = d
from_some d (Some s) = s

pub shown-some : (o : Option OpenStream) (s : ℕ × Option (List ℕ)) → shown o ≡ Some s
    → (stream : OpenStream) × (o ≡ Some stream) × (stream.place ≡ s.0) × (stream.in_hand ≡ s.1)
shown-some None s e = absurd (none-some s e)
shown-some (Some stream) s e =
    (stream, refl, ap (λ o. (from_some s o).0) e, ap (λ o. (from_some s o).1) e)

-- ---- a change

-- Of what is kept of the calls these parts change: of all streams but some, nothing; and of those,
-- what follows from the run.
pub record Change (run next : List Step) (o after : Outbound) (streams left : OpenStreams)
    (calls now : List (ℕ × List OutItem)) (marks told : List (ℕ × Mark))
    (is_changed : ℕ → Bool) : Type 0 where
  pub same_fresh : (id : ℕ) → is_fresh id next ≡ is_fresh id run
  pub same_served : (id : ℕ) → is_served id next ≡ is_served id run
  pub later : Later run next
  pub spells : SpellsOf next after told
  pub fewer_due : (front : List Due) × (o.due.items ≡ front ++ after.due.items)
  pub same_knows : (id : ℕ) → knows after.states id ≡ knows o.states id
  pub same_heard : (id : ℕ) → is_heard after.states id ≡ is_heard o.states id
  pub same_over : (id : ℕ) → is_changed id ≡ false → over_on after.states id ≡ over_on o.states id
  pub same_shown : (id : ℕ) → is_changed id ≡ false → shows left id ≡ shows streams id
  pub same_marks : (id : ℕ) → is_changed id ≡ false → marks_on id told ≡ marks_on id marks
  pub same_calls : (k : ℕ) (d : ℕ × List OutItem) → k < length calls
      → is_changed (get_or calls k d).0 ≡ false → get_or now k d ≡ get_or calls k d
  pub same_length : length now ≡ length calls
  pub numbers : (k : ℕ) (d : ℕ × List OutItem) → k < length calls
      → (get_or now k d).0 ≡ (get_or calls k d).0
  pub closed : (id : ℕ) → streams id ≡ None → left id ≡ None
  pub exact : (id : ℕ) (stream : OpenStream) → is_changed id ≡ true → left id ≡ Some stream
      → IsExact id stream now (marks_on id told)
  pub not_over : (id : ℕ) (stream : OpenStream) → is_changed id ≡ true → left id ≡ Some stream
      → over_on after.states id ≡ None
  pub ended : (k : ℕ) (d : ℕ × List OutItem) → k < length calls
      → is_changed (get_or calls k d).0 ≡ true → left (get_or calls k d).0 ≡ None
      → is_served (get_or calls k d).0 run ≡ true
      → IsEnded (over_on after.states (get_or calls k d).0) (marks_on (get_or calls k d).0 told)
      (get_or now k d).1
  pub returned : (id : ℕ) (items : List OutItem) → is_changed id ≡ true → streams id ≡ None
      → is_served id run ≡ true
      → IsEnded (over_on o.states id) (marks_on id marks) items
      → IsEnded (over_on after.states id) (marks_on id told) items
  pub unknown : (id : ℕ) → is_changed id ≡ true → is_heard o.states id ≡ false
      → marks_on id told ≡ []
  pub other : (id : ℕ) → is_changed id ≡ true → is_fresh id run ≡ true
      → IsEnded (over_on after.states id) (marks_on id told) []
  pub stays : (id : ℕ) → is_changed id ≡ true → left id ≡ None
      → is_some (over_on after.states id) ≡ true
  pub uncalled : (id : ℕ) → is_changed id ≡ true → knows o.states id ≡ false
      → IsUncalled id next (over_on after.states id) (marks_on id told)

exact-same : (id : ℕ) (a b : OpenStream) (calls now : List (ℕ × List OutItem))
    (told after : List Mark)
    → a.place ≡ b.place → a.in_hand ≡ b.in_hand
    → length now ≡ length calls → after ≡ told
    → ((d : ℕ × List OutItem) → get_or now a.place d ≡ get_or calls a.place d)
    → IsExact id a calls told → IsExact id b now after
exact-same id a b calls now told after place hand len m same old = (
  omega (arith, old.0, len, place),
  λ d.
      let here : get_or now b.place d ≡ get_or calls a.place d =
      ap (λ n. get_or now n d) (sym place) ∙ same d in (
        ap (λ (c : ℕ × List OutItem). c.0) here ∙ (old.1 d).0,
        ap (λ t. t ++ bytes_marks b.in_hand) m ∙ ap (λ h. told ++ bytes_marks h) (sym hand)
            ∙ (old.1 d).1 ∙ sym (ap (λ (c : ℕ × List OutItem). spelled c.1) here),
      ),
)

ended-same : (over after : Option Bool) (told more : List Mark) (items now : List OutItem)
    → after ≡ over → more ≡ told → now ≡ items
    → IsEnded over told items → IsEnded after more now
ended-same over after told more items now e f g is =
    subst (λ (x : Option Bool). IsEnded x more now) (sym e) (subst
    (λ (x : List Mark). IsEnded over x now) (sym f)
    (subst (λ (x : List OutItem). IsEnded over told x) (sym g) is))

All-rest : {A : Type 0} (P : A → Type 0) (x : A) (xs : List A) → All P (x ∷ xs) → All P xs
All-rest P x xs all k d lt = all (suc k) d (omega (arith, lt))

pub All-later : {A : Type 0} (P : A → Type 0) (front back : List A)
    → All P (front ++ back) → All P back
All-later P [] back all = all
All-later P (x ∷ xs) back all = All-later P xs back (All-rest P x (xs ++ back) all)

All-weaker : {A : Type 0} (P Q : A → Type 0) (list : List A) → ((x : A) → P x → Q x)
    → All P list → All Q list
All-weaker P Q list f all k d lt = f (get_or list k d) (all k d lt)

due-same : (run next : List Step) (o after : Outbound) (streams left : OpenStreams)
    → Later run next → ((id : ℕ) → is_fresh id next ≡ is_fresh id run)
    → ((id : ℕ) → is_served id next ≡ is_served id run)
    → ((id : ℕ) → is_heard after.states id ≡ is_heard o.states id)
    → ((id : ℕ) → streams id ≡ None → left id ≡ None)
    → (one : Due) → MayBeDue run o streams one → MayBeDue next after left one
due-same run next o after streams left later fresh served heard closed
    (due_kind.Refuse id fields) m = (
      fresh id ∙ m.0,
      served id ∙ m.1,
      closed id m.2,
      heard id ∙ m.3,
      later.refused id fields m.4,
      later.reason id m.5,
    )
due-same run next o after streams left later fresh served heard closed (due_kind.Reset id code) m =
    (closed id m.0, heard id ∙ m.1)
due-same run next o after streams left later fresh served heard closed due_kind.SettingsAck m = tt
due-same run next o after streams left later fresh served heard closed
    (due_kind.PingAck bytes) m = tt
due-same run next o after streams left later fresh served heard closed (due_kind.Ping bytes) m = tt
due-same run next o after streams left later fresh served heard closed
    (due_kind.Goaway last reason) m = tt

was-open : (streams left : OpenStreams) (id : ℕ) (stream : OpenStream)
    → (streams id ≡ None → left id ≡ None)
    → left id ≡ Some stream → (o : Option OpenStream) → streams id ≡ o
    → (st : OpenStream) × (streams id ≡ Some st)
was-open streams left id stream closed e None f = absurd (none-some stream (sym (closed f) ∙ e))
was-open streams left id stream closed e (Some st) f = (st, f)

pub serves-changed : (run next : List Step) (o after : Outbound) (streams left : OpenStreams)
    (calls now : List (ℕ × List OutItem))
    (marks told : List (ℕ × Mark)) (is_changed : ℕ → Bool)
    → Change run next o after streams left calls now marks told is_changed
    → Serves run o streams calls marks
    → Serves next after left now told
serves-changed run next o after streams left calls now marks told is_changed c s = record {
  spells = c.spells;
  exact = λ id stream e. exact-by id stream e (is_changed id) refl;
  not_over = λ id stream e. not_over-by id stream e (is_changed id) refl;
  known = λ id stream e.
      let was = was-open streams left id stream (c.closed id) e (streams id) refl in
      c.same_knows id ∙ s.known id was.0 was.1;
  ended = λ k d lt.
      subst (Ended k d) (sym (c.numbers k d (within k lt)))
      (ended-by k d (within k lt) (is_changed (get_or calls k d).0) refl);
  returned = λ id items is served.
      let was =
      s.returned id items (c.later.returned id items is) (sym (c.same_served id) ∙ served) in (
        c.closed id was.0,
        returned-by id items was.0 (sym (c.same_served id) ∙ served) was.1 (is_changed id) refl,
      );
  stale = λ id items is. c.same_fresh id ∙ s.stale id items (c.later.returned id items is);
  apart = λ i j d li lj ne e.
      ap (λ n. is_served n next) (c.numbers i d (within i li)) ∙ c.same_served (get_or calls i d).0
      ∙ s.apart i j d (within i li) (within j lj) ne
      (sym (c.numbers i d (within i li)) ∙ e ∙ c.numbers j d (within j lj));
  opened = λ k d lt.
      ap (λ n. is_fresh n next) (c.numbers k d (within k lt)) ∙ c.same_fresh (get_or calls k d).0
      ∙ s.opened k d (within k lt);
  due = All-weaker (MayBeDue run o streams) (MayBeDue next after left) after.due.items
      (due-same run next o after streams left c.later c.same_fresh c.same_served
      c.same_heard c.closed)
      (All-later (MayBeDue run o streams) c.fewer_due.0 after.due.items
      (subst (All (MayBeDue run o streams)) c.fewer_due.1 s.due));
  unknown = λ id e. unknown-by id (sym (c.same_heard id) ∙ e) (is_changed id) refl;
  other = λ id fresh. other-by id (sym (c.same_fresh id) ∙ fresh) (is_changed id) refl;
  stays = λ id served there none.
      stays-by id (sym (c.same_served id) ∙ served) there none (is_changed id) refl;
  early = λ id e fresh.
      c.later.reset id (s.early id (sym (c.same_heard id) ∙ e) (sym (c.same_fresh id) ∙ fresh));
  reasons = λ id there none known.
      reasons-by id there none (sym (c.same_heard id) ∙ known) (is_changed id) refl;
  brought = λ id.
      c.same_knows id ∙ s.brought id ∙ ap (λ b. is_stream id && b) (sym (c.later.opened id));
  uncalled = λ id e. uncalled-by id (sym (c.same_knows id) ∙ e) (is_changed id) refl;
}
  where
    within : (k : ℕ) → k < length now → k < length calls
    within k lt = omega (arith, lt, c.same_length)

    Ended : ℕ → ℕ × List OutItem → ℕ → Type 0
    Ended k d n =
        left n ≡ None → is_served n next ≡ true
        → IsEnded (over_on after.states n) (marks_on n told) (get_or now k d).1

    exact-by : (id : ℕ) (stream : OpenStream) → left id ≡ Some stream → (b : Bool)
        → is_changed id ≡ b → IsExact id stream now (marks_on id told)
    exact-by id stream e true p = c.exact id stream p e
    exact-by id stream e false p =
        let found =
        shown-some (streams id) (stream.place, stream.in_hand)
        (sym (c.same_shown id p) ∙ ap shown e) in
        let old = s.exact id found.0 found.1 in
        exact-same id found.0 stream calls now (marks_on id marks) (marks_on id told) found.2
        found.3 c.same_length (c.same_marks id p)
        (λ d. c.same_calls found.0.place d old.0 (ap is_changed (old.1 d).0 ∙ p)) old

    not_over-by : (id : ℕ) (stream : OpenStream) → left id ≡ Some stream → (b : Bool)
        → is_changed id ≡ b → over_on after.states id ≡ None
    not_over-by id stream e true p = c.not_over id stream p e
    not_over-by id stream e false p =
        let found =
        shown-some (streams id) (stream.place, stream.in_hand)
        (sym (c.same_shown id p) ∙ ap shown e) in
        c.same_over id p ∙ s.not_over id found.0 found.1

    ended-by : (k : ℕ) (d : ℕ × List OutItem) → k < length calls → (b : Bool)
        → is_changed (get_or calls k d).0 ≡ b → Ended k d (get_or calls k d).0
    ended-by k d lt true p = λ none served.
        c.ended k d lt p none (sym (c.same_served (get_or calls k d).0) ∙ served)
    ended-by k d lt false p = λ none served.
        let n : ℕ = (get_or calls k d).0 in
        ended-same (over_on o.states n) (over_on after.states n) (marks_on n marks)
        (marks_on n told) (get_or calls k d).1 (get_or now k d).1
        (c.same_over n p) (c.same_marks n p)
        (ap (λ (x : ℕ × List OutItem). x.1) (c.same_calls k d lt p))
        (s.ended k d lt (none-shown (streams n) (sym (c.same_shown n p) ∙ ap shown none))
        (sym (c.same_served n) ∙ served))

    returned-by : (id : ℕ) (items : List OutItem) → streams id ≡ None → is_served id run ≡ true
        → IsEnded (over_on o.states id) (marks_on id marks) items → (b : Bool) → is_changed id ≡ b
        → IsEnded (over_on after.states id) (marks_on id told) items
    returned-by id items none served ended true p = c.returned id items p none served ended
    returned-by id items none served ended false p =
        ended-same (over_on o.states id) (over_on after.states id) (marks_on id marks)
        (marks_on id told) items items
        (c.same_over id p) (c.same_marks id p) refl ended

    unknown-by : (id : ℕ) → is_heard o.states id ≡ false → (b : Bool) → is_changed id ≡ b
        → marks_on id told ≡ []
    unknown-by id e true p = c.unknown id p e
    unknown-by id e false p = c.same_marks id p ∙ s.unknown id e

    other-by : (id : ℕ) → is_fresh id run ≡ true → (b : Bool) → is_changed id ≡ b
        → IsEnded (over_on after.states id) (marks_on id told) []
    other-by id fresh true p = c.other id p fresh
    other-by id fresh false p =
        ended-same (over_on o.states id) (over_on after.states id) (marks_on id marks)
        (marks_on id told) [] [] (c.same_over id p) (c.same_marks id p) refl
        (s.other id fresh)

    uncalled-by : (id : ℕ) → knows o.states id ≡ false → (b : Bool) → is_changed id ≡ b
        → IsUncalled id next (over_on after.states id) (marks_on id told)
    uncalled-by id e true p = c.uncalled id p e
    uncalled-by id e false p =
        uncalled-same run next id (over_on o.states id) (over_on after.states id)
        (marks_on id marks) (marks_on id told) (c.later.refused id)
        (c.same_over id p) (c.same_marks id p) (s.uncalled id e)

    stays-by : (id : ℕ) → is_served id run ≡ true → is_stream id ≡ true → left id ≡ None
        → (b : Bool) → is_changed id ≡ b
        → (is_some (over_on after.states id) ≡ true) ⊎ (was_reset id next ≡ true)
    stays-by id served there none true p = inl (c.stays id p none)
    stays-by id served there none false p =
        ended-later (over_on o.states id) (over_on after.states id) (was_reset id run)
        (was_reset id next) (c.same_over id p) (c.later.reset id)
        (s.stays id served there
        (none-shown (streams id) (sym (c.same_shown id p) ∙ ap shown none)))

    reasons-by : (id : ℕ) → is_stream id ≡ true → left id ≡ None → is_heard o.states id ≡ true
        → (b : Bool) → is_changed id ≡ b
        → (is_some (over_on after.states id) ≡ true) ⊎ (has_reason id next ≡ true)
    reasons-by id there none known true p = inl (c.stays id p none)
    reasons-by id there none known false p =
        ended-later (over_on o.states id) (over_on after.states id) (has_reason id run)
        (has_reason id next) (c.same_over id p) (c.later.reason id)
        (s.reasons id there
        (none-shown (streams id) (sym (c.same_shown id p) ∙ ap shown none)) known)
