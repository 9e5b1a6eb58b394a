-- What a frame of an open stream leads to: DATA, a head, or trailers, after which it is open no
-- more.
use Rattle.std.proofs.Common.{
  ◌≡◌,
  ℕ,
  ◌<◌,
  ◌==◌,
  inl,
  refl,
  sym,
  ap,
  subst,
  ◌∙◌,
  Bool,
  true,
  false,
  List,
  [],
  ◌∷◌,
  ◌++◌,
  Option,
  Some,
  None,
  length,
  arith,
  append_assoc,
  true≢false,
}
use Rattle.std.specs.Prelude.{get_or, ◌≢◌, is_some, if◌then◌else◌}
use Rattle.std.proofs.lemmas.Bool.{eqb-true, eq-eqb}
use Rattle.std.proofs.lemmas.Grind.{flat_map-append}
use Rattle.std.proofs.lemmas.List.{get_or-set_same, get_or-set_other, length-set, get_or_default}
use Rattle.account.specs.declared.call.OutItem.{OutItem}
use Rattle.outwriter.specs.OpenStreams.{OpenStreams, Shown, shown, shows}
use Rattle.outwriter.specs.declared.outbound.Outbound.{Outbound}
use Rattle.outwriter.specs.declared.stream.OpenStream.{OpenStream}
use Rattle.outwriter.specs.Calls.{is_fresh, is_served}
use Rattle.outwriter.specs.States.{SameEnds, SetsEnd, is_heard, knows, over_on}
use Rattle.outwriter.specs.Parts.{Mark, marks_on, on_stream, spelled, marks_of_item}
use Rattle.outwriter.specs.StreamLooks.{with_item, one_more}
use Rattle.outwriter.specs.CallState.{bytes_marks, IsExact, IsEnded, Serves}
use Rattle.outwriter.specs.Steps.{Step}
use Rattle.outwriter.specs.ToldByNow.{SpellsOf}
use Rattle.outwriter.proofs.Others.{Later, known-stale}
use Rattle.outwriter.proofs.StateChanges.{knows-heard}
use Rattle.outwriter.proofs.StateWindows.{hears-again}
use Rattle.outwriter.proofs.ServeSteps.{
  append-nil,
  more-here,
  more-elsewhere,
  none-some,
  some-none,
  none-shown,
  shown-some,
  from_some,
  serves-changed,
}

-- ---- calls

-- the call at a place has these items more
pub record Grows (place : ℕ) (news : List OutItem)
    (calls now : List (ℕ × List OutItem)) : Type 0 where
  pub same_length : length now ≡ length calls
  pub elsewhere : (k : ℕ) (d : ℕ × List OutItem) → k ≢ place → get_or now k d ≡ get_or calls k d
  pub here : (d : ℕ × List OutItem) → place < length calls
      → get_or now place d ≡ ((get_or calls place d).0, (get_or calls place d).1 ++ news)

pub grows-none : (place : ℕ) (calls now : List (ℕ × List OutItem)) → now ≡ calls
    → Grows place [] calls now
grows-none place calls now e =
    subst (λ (x : List (ℕ × List OutItem)). Grows place [] calls x) (sym e) (record {
      same_length = refl;
      elsewhere = λ k d ne. refl;
      here = λ d lt.
          sym (ap (λ (l : List OutItem). ((get_or calls place d).0, l))
          (append-nil (get_or calls place d).1));
    })

pub grows-one : (place : ℕ) (one : OutItem) (calls now : List (ℕ × List OutItem))
    → now ≡ one_more place one calls → Grows place (one ∷ []) calls now
grows-one place one calls now e =
    subst (λ (x : List (ℕ × List OutItem)). Grows place (one ∷ []) calls x) (sym e) (record {
      same_length = length-set calls place (with_item one (get_or calls place (0, [])));
      elsewhere = λ k d ne.
          get_or-set_other calls place k (with_item one (get_or calls place (0, []))) d ne;
      here = λ d lt.
          get_or-set_same calls place (with_item one (get_or calls place (0, []))) d lt
          ∙ ap (with_item one) (get_or_default calls place (0, []) d lt);
    })

pub grows-numbers : (place : ℕ) (news : List OutItem) (calls now : List (ℕ × List OutItem))
    → Grows place news calls now
    → (k : ℕ) (d : ℕ × List OutItem) → k < length calls → (get_or now k d).0 ≡ (get_or calls k d).0
grows-numbers place news calls now g k d lt = by (k == place) refl
  where
    by : (b : Bool) → (k == place) ≡ b → (get_or now k d).0 ≡ (get_or calls k d).0
    by true p =
        subst (λ (n : ℕ). (get_or now n d).0 ≡ (get_or calls n d).0) (sym (eqb-true k place p))
        (ap (λ (c : ℕ × List OutItem). c.0)
        (g.here d (subst (λ (n : ℕ). n < length calls) (eqb-true k place p) lt)))
    by false p =
        ap (λ (c : ℕ × List OutItem). c.0)
        (g.elsewhere k d (λ e. true≢false (sym (eq-eqb k place e) ∙ p)))

other-calls : (place id : ℕ) (news : List OutItem) (calls now : List (ℕ × List OutItem))
    → Grows place news calls now
    → ((d : ℕ × List OutItem) → (get_or calls place d).0 ≡ id)
    → (k : ℕ) (d : ℕ × List OutItem) → k < length calls → ((get_or calls k d).0 == id) ≡ false
    → get_or now k d ≡ get_or calls k d
other-calls place id news calls now g at k d lt p =
    g.elsewhere k d (λ e.
    true≢false (sym (eq-eqb (get_or calls k d).0 id (ap (λ n. (get_or calls n d).0) e ∙ at d)) ∙ p))

balance : (told old more rest : List Mark) (items news : List OutItem)
    → (told ++ old) ≡ spelled items → (old ++ spelled news) ≡ more ++ rest
    → ((told ++ more) ++ rest) ≡ spelled (items ++ news)
balance told old more rest items news e f =
    append_assoc told more rest ∙ ap (λ (l : List Mark). told ++ l) (sym f)
    ∙ sym (append_assoc told old (spelled news)) ∙ ap (λ (l : List Mark). l ++ spelled news) e
    ∙ sym (flat_map-append marks_of_item items news)

-- ---- an open stream goes on

pub goes-on : (run next : List Step) (o after : Outbound) (streams left : OpenStreams)
    (calls now : List (ℕ × List OutItem))
    (marks : List (ℕ × Mark)) (id place : ℕ) (was hand : Option (List ℕ)) (more : List Mark)
    (news : List OutItem)
    → ((k : ℕ) → is_fresh k next ≡ is_fresh k run)
    → ((k : ℕ) → is_served k next ≡ is_served k run) → Later run next
    → SpellsOf next after (marks ++ on_stream id more)
    → o.due.items ≡ after.due.items → ((k : ℕ) → knows after.states k ≡ knows o.states k)
    → SameEnds o.states after.states
    → shows streams id ≡ Some (place, was)
    → ((k : ℕ) → shows left k ≡ (if k == id then Some (place, hand) else shows streams k))
    → Grows place news calls now → (bytes_marks was ++ spelled news) ≡ more ++ bytes_marks hand
    → Serves run o streams calls marks → Serves next after left now (marks ++ on_stream id more)
goes-on run next o after streams left calls now marks id place was hand more news fresh served later
    spells due known same_ends view left_shows g bal s =
    serves-changed run next o after streams left calls now marks (marks ++ on_stream id more)
    (λ k. k == id) (record {
      same_fresh = fresh;
      same_served = served;
      later = later;
      spells = spells;
      fewer_due = ([], due);
      same_knows = known;
      same_heard = λ k. (same_ends k).1;
      same_over = λ k p. (same_ends k).0;
      same_shown = λ k p.
          left_shows k ∙ ap (λ b. if b then Some (place, hand) else shows streams k) p;
      same_marks = λ k p. more-elsewhere k id marks more p;
      same_calls = other-calls place id news calls now g (λ d. (at d).0);
      same_length = g.same_length;
      numbers = grows-numbers place news calls now g;
      closed = λ k none. closed-by k none (k == id) refl;
      exact = λ k st p e.
          subst (λ (n : ℕ). IsExact n st now (marks_on n (marks ++ on_stream id more)))
          (sym (eqb-true k id p)) (exact-here st (same k st p e));
      not_over = λ k st p e.
          (same_ends k).0
          ∙ subst (λ (n : ℕ). over_on o.states n ≡ None) (sym (eqb-true k id p))
          (s.not_over id f.0 f.1);
      ended = λ k d lt p none is. absurd (still (get_or calls k d).0 p none);
      returned = λ k items p none is e.
          absurd (none-some f.0
          (sym (subst (λ (n : ℕ). streams n ≡ None) (eqb-true k id p) none) ∙ f.1));
      unknown = λ k p e.
          absurd (true≢false (sym (knows-heard o.states id (s.known id f.0 f.1))
          ∙ subst (λ (n : ℕ). is_heard o.states n ≡ false) (eqb-true k id p) e));
      other = λ k p is.
          absurd (true≢false (sym is ∙ ap (λ n. is_fresh n run) (eqb-true k id p)
          ∙ known-stale run o s.brought id (s.known id f.0 f.1)));
      stays = λ k p none. absurd (still k p none);
      uncalled = λ k p e.
          absurd (true≢false (sym (s.known id f.0 f.1)
          ∙ subst (λ (n : ℕ). knows o.states n ≡ false) (eqb-true k id p) e));
    }) s
  where
    f : (stream : OpenStream) × (streams id ≡ Some stream) × (stream.place ≡ place)
        × (stream.in_hand ≡ was)
    f = shown-some (streams id) (place, was) view

    within : place < length calls
    within = omega (arith, (s.exact id f.0 f.1).0, f.2)

    at : (d : ℕ × List OutItem)
        → ((get_or calls place d).0 ≡ id)
        × (marks_on id marks ++ bytes_marks was ≡ spelled (get_or calls place d).1)
    at d =
        subst (λ (n : ℕ).
        ((get_or calls n d).0 ≡ id)
        × (marks_on id marks ++ bytes_marks was ≡ spelled (get_or calls n d).1)) f.2
        (subst (λ (h : Option (List ℕ)).
        ((get_or calls f.0.place d).0 ≡ id)
        × (marks_on id marks ++ bytes_marks h ≡ spelled (get_or calls f.0.place d).1)) f.3
        ((s.exact id f.0 f.1).1 d))

    there : (k : ℕ) → (k == id) ≡ true → shows left k ≡ Some (place, hand)
    there k p = left_shows k ∙ ap (λ b. if b then Some (place, hand) else shows streams k) p

    still : (k : ℕ) → (k == id) ≡ true → left k ≡ None → ⊥
    still k p none = none-some (place, hand) (sym (ap shown none) ∙ there k p)

    same : (k : ℕ) (st : OpenStream) → (k == id) ≡ true → left k ≡ Some st
        → (st.place ≡ place) × (st.in_hand ≡ hand)
    same k st p e =
        let both : Some (st.place, st.in_hand) ≡ Some (place, hand) =
        sym (ap shown e) ∙ there k p in (
          ap (λ (x : Shown). (from_some (place, hand) x).0) both,
          ap (λ (x : Shown). (from_some (place, hand) x).1) both,
        )

    closed-by : (k : ℕ) → streams k ≡ None → (b : Bool) → (k == id) ≡ b → left k ≡ None
    closed-by k none true p =
        absurd (none-some f.0
        (sym (subst (λ (n : ℕ). streams n ≡ None) (eqb-true k id p) none) ∙ f.1))
    closed-by k none false p =
        none-shown (left k) (left_shows k
        ∙ ap (λ b. if b then Some (place, hand) else shows streams k) p ∙ ap shown none)

    exact-here : (st : OpenStream) → (st.place ≡ place) × (st.in_hand ≡ hand)
        → IsExact id st now (marks_on id (marks ++ on_stream id more))
    exact-here st is = (
      omega (arith, within, is.0, g.same_length),
      λ d.
          let here : get_or now st.place d
          ≡ ((get_or calls place d).0, (get_or calls place d).1 ++ news) =
          ap (λ n. get_or now n d) is.0 ∙ g.here d within in (
            ap (λ (c : ℕ × List OutItem). c.0) here ∙ (at d).0,
            ap (λ (l : List Mark). l ++ bytes_marks st.in_hand) (more-here id marks more)
                ∙ ap (λ (h : Option (List ℕ)). (marks_on id marks ++ more) ++ bytes_marks h) is.1
                ∙ balance (marks_on id marks) (bytes_marks was) more (bytes_marks hand)
                (get_or calls place d).1 news (at d).1 bal
                ∙ sym (ap (λ (c : ℕ × List OutItem). spelled c.1) here),
          ),
    )

-- ---- an open stream ends

pub ends : (run next : List Step) (o after : Outbound) (streams left : OpenStreams)
    (calls now : List (ℕ × List OutItem))
    (marks : List (ℕ × Mark)) (id place : ℕ) (was : Option (List ℕ)) (more : List Mark)
    (news : List OutItem)
    → ((k : ℕ) → is_fresh k next ≡ is_fresh k run)
    → ((k : ℕ) → is_served k next ≡ is_served k run) → Later run next
    → SpellsOf next after (marks ++ on_stream id more)
    → o.due.items ≡ after.due.items → ((k : ℕ) → knows after.states k ≡ knows o.states k)
    → SetsEnd o.states id false after.states
    → shows streams id ≡ Some (place, was)
    → ((k : ℕ) → shows left k ≡ (if k == id then None else shows streams k))
    → Grows place news calls now → (bytes_marks was ++ spelled news) ≡ more ++ []
    → Serves run o streams calls marks → Serves next after left now (marks ++ on_stream id more)
ends run next o after streams left calls now marks id place was more news fresh served later spells
    due known sets view left_shows g bal s =
    serves-changed run next o after streams left calls now marks (marks ++ on_stream id more)
    (λ k. k == id) (record {
      same_fresh = fresh;
      same_served = served;
      later = later;
      spells = spells;
      fewer_due = ([], due);
      same_knows = known;
      same_heard =
          hears-again o.states after.states id
          (knows-heard o.states id (s.known id f.0 f.1)) sets.1;
      same_over = λ k p. sets.0 k ∙ ap (λ b. if b then Some false else over_on o.states k) p;
      same_shown = λ k p. left_shows k ∙ ap (λ (b : Bool). if b then None else shows streams k) p;
      same_marks = λ k p. more-elsewhere k id marks more p;
      same_calls = other-calls place id news calls now g (λ d. (at d).0);
      same_length = g.same_length;
      numbers = grows-numbers place news calls now g;
      closed = λ k none. closed-by k none (k == id) refl;
      exact = λ k st p e. absurd (gone k p st e);
      not_over = λ k st p e. absurd (gone k p st e);
      ended = λ k d lt p none is. ended-by k d lt p is (k == place) refl;
      returned = λ k items p none is e.
          absurd (none-some f.0
          (sym (subst (λ (n : ℕ). streams n ≡ None) (eqb-true k id p) none) ∙ f.1));
      unknown = λ k p e.
          absurd (true≢false (sym (knows-heard o.states id (s.known id f.0 f.1))
          ∙ subst (λ (n : ℕ). is_heard o.states n ≡ false) (eqb-true k id p) e));
      other = λ k p is.
          absurd (true≢false (sym is ∙ ap (λ n. is_fresh n run) (eqb-true k id p)
          ∙ known-stale run o s.brought id (s.known id f.0 f.1)));
      stays = λ k p none.
          ap is_some (sets.0 k ∙ ap (λ b. if b then Some false else over_on o.states k) p);
      uncalled = λ k p e.
          absurd (true≢false (sym (s.known id f.0 f.1)
          ∙ subst (λ (n : ℕ). knows o.states n ≡ false) (eqb-true k id p) e));
    }) s
  where
    f : (stream : OpenStream) × (streams id ≡ Some stream) × (stream.place ≡ place)
        × (stream.in_hand ≡ was)
    f = shown-some (streams id) (place, was) view

    within : place < length calls
    within = omega (arith, (s.exact id f.0 f.1).0, f.2)

    at : (d : ℕ × List OutItem)
        → ((get_or calls place d).0 ≡ id)
        × (marks_on id marks ++ bytes_marks was ≡ spelled (get_or calls place d).1)
    at d =
        subst (λ (n : ℕ).
        ((get_or calls n d).0 ≡ id)
        × (marks_on id marks ++ bytes_marks was ≡ spelled (get_or calls n d).1)) f.2
        (subst (λ (h : Option (List ℕ)).
        ((get_or calls f.0.place d).0 ≡ id)
        × (marks_on id marks ++ bytes_marks h ≡ spelled (get_or calls f.0.place d).1)) f.3
        ((s.exact id f.0 f.1).1 d))

    gone : (k : ℕ) → (k == id) ≡ true → (st : OpenStream) → left k ≡ Some st → ⊥
    gone k p st e =
        some-none (st.place, st.in_hand)
        (sym (ap shown e) ∙ left_shows k ∙ ap (λ (b : Bool). if b then None else shows streams k) p)

    closed-by : (k : ℕ) → streams k ≡ None → (b : Bool) → (k == id) ≡ b → left k ≡ None
    closed-by k none true p =
        none-shown (left k)
        (left_shows k ∙ ap (λ (b : Bool). if b then None else shows streams k) p)
    closed-by k none false p =
        none-shown (left k)
        (left_shows k ∙ ap (λ (b : Bool). if b then None else shows streams k) p ∙ ap shown none)

    all-told : (d : ℕ × List OutItem)
        → marks_on id (marks ++ on_stream id more) ≡ spelled (get_or now place d).1
    all-told d = more-here id marks more ∙ sym (append-nil (marks_on id marks ++ more))
        ∙ balance (marks_on id marks) (bytes_marks was) more []
        (get_or calls place d).1 news (at d).1 bal
        ∙ sym (ap (λ (c : ℕ × List OutItem). spelled c.1) (g.here d within))

    ended-here : (n : ℕ) (d : ℕ × List OutItem) → n ≡ id
        → IsEnded (over_on after.states n) (marks_on n (marks ++ on_stream id more))
        (get_or now place d).1
    ended-here n d e =
        let told : spelled (get_or now place d).1 ≡ marks_on n (marks ++ on_stream id more) ++ [] =
        sym (all-told d) ∙ ap (λ (x : ℕ). marks_on x (marks ++ on_stream id more)) (sym e)
        ∙ sym (append-nil (marks_on n (marks ++ on_stream id more))) in
        (inl ([], told), λ ne. ([], told))

    ended-by : (k : ℕ) (d : ℕ × List OutItem) → k < length calls
        → ((get_or calls k d).0 == id) ≡ true → is_served (get_or calls k d).0 run ≡ true
        → (b : Bool) → (k == place) ≡ b
        → IsEnded (over_on after.states (get_or calls k d).0)
        (marks_on (get_or calls k d).0 (marks ++ on_stream id more)) (get_or now k d).1
    ended-by k d lt p is true q =
        subst (λ (x : ℕ).
        IsEnded (over_on after.states (get_or calls k d).0)
        (marks_on (get_or calls k d).0 (marks ++ on_stream id more)) (get_or now x d).1)
        (sym (eqb-true k place q))
        (ended-here (get_or calls k d).0 d (eqb-true (get_or calls k d).0 id p))
    ended-by k d lt p is false q =
        absurd (true≢false
        (sym is ∙ s.apart k place d lt within (λ e. true≢false (sym (eq-eqb k place e) ∙ q))
        (eqb-true (get_or calls k d).0 id p ∙ sym (at d).0)))
