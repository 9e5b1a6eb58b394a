-- What a writer keeps of its calls, after a sender was given back.
use Rattle.std.proofs.Common.{
  ◌≡◌,
  ◌⊎◌,
  ℕ,
  ◌+◌,
  ◌-◌,
  ◌<◌,
  ◌==◌,
  inl,
  inr,
  refl,
  sym,
  ap,
  subst,
  ◌∙◌,
  Bool,
  true,
  false,
  List,
  [],
  ◌∷◌,
  ◌++◌,
  Option,
  Some,
  None,
  length,
  get_or,
  arith,
  true≢false,
}
use Rattle.std.specs.Prelude.{◌≢◌, is_some, min, set, if◌then◌else◌}
use Rattle.std.specs.List.{swap_remove}
use Rattle.std.proofs.lemmas.Bool.{eqb-true, eq-eqb}
use Rattle.std.proofs.lemmas.List.{
  get_or-map,
  length-map,
  length-take,
  length-set,
  get_or-take,
  get_or-set_same,
  get_or-set_other,
}
use Rattle.account.specs.declared.call.OutItem.{OutItem}
use Rattle.callbox.specs.declared.sender.Sender.{Sender}
use Rattle.outwriter.specs.declared.out_core.OutCore.{OutCore}
use Rattle.outwriter.specs.declared.outbound.Outbound.{Outbound}
use Rattle.outwriter.specs.declared.stream.OpenStream.{OpenStream}
use Rattle.outwriter.specs.Calls.{is_fresh, is_served, IsReturned}
use Rattle.outwriter.specs.Histories.{is_over, was_reset}
use Rattle.outwriter.specs.Cores.{Leads, LeadsOn, calls}
use Rattle.outwriter.specs.Parts.{Mark, marks_on, spelled, IsPart, IsFrontOf}
use Rattle.outwriter.specs.CallState.{IsEnded, IsExact, Serves, bytes_marks}
use Rattle.outwriter.specs.OpenStreams.{OpenStreams, PlaceIs, Shown, shown, shows, with_place}
use Rattle.outwriter.specs.Releases.{HasNoneBelow, IsAt, MovedTo, Releases, HasEnded}
use Rattle.outwriter.specs.RunState.{HasOver, MirrorsOf, SameButOpen}
use Rattle.outwriter.specs.States.{over_on, open_at}
use Rattle.outwriter.specs.Steps.{Step, Returned}
use Rattle.outwriter.specs.ToldByNow.{SpellsOf}
use Rattle.outwriter.proofs.CallSteps.{all-due}
use Rattle.outwriter.proofs.EndsKept.{heeds-but-open, heeds-kept}
use Rattle.outwriter.proofs.Leads.{may-part-returned}
use Rattle.outwriter.proofs.RunStateSteps.{mirrors-but-open, same-block}
use Rattle.outwriter.proofs.ServeSteps.{none-some, some-none, none-shown, from_some}
use Rattle.outwriter.proofs.ServeStepsOwn.{serves-but-open}
use Rattle.outwriter.proofs.TellSteps.{spells-same}

-- ---- the run

-- what a writer keeps follows from the run still
pub mirrors-returned : (run : List Step) (o : Outbound) (id : ℕ) (items : List OutItem)
    → MirrorsOf run o → MirrorsOf (Returned id items ∷ run) o
mirrors-returned run o id items m = record {
  begins = m.begins;
  goes = m.goes;
  windows_follow = m.windows_follow;
  answers = m.answers;
  goes_on = same-block run (Returned id items ∷ run) o.block refl m.goes_on;
  not_reset = m.not_reset;
  stand = record {
    over = m.stand.over;
    silent = m.stand.silent;
    resets = m.stand.resets;
    owes = m.stand.owes;
    no_stream_0 = m.stand.no_stream_0;
  };
}

-- nothing more is told
spells-returned : (run : List Step) (o : Outbound) (marks : List (ℕ × Mark)) (id : ℕ)
    (items : List OutItem)
    → SpellsOf run o marks → SpellsOf (Returned id items ∷ run) o marks
spells-returned run o marks id items spells = (
  spells.0,
  spells-same run (Returned id items ∷ run) o.block o.block o.encoder o.encoder marks
      (λ table told t. t) refl refl refl (λ table e. e) (λ least. least) spells.1,
)

-- ---- lists

removed-length : {X : Type 0} (xs : List X) (i : ℕ) (e : X) → i < length xs
    → length (swap_remove xs i e) + 1 ≡ length xs
removed-length {X} xs i e lt =
    let all : List X = set xs i (get_or xs (length xs - 1) e) in
    let cut : length (swap_remove xs i e) ≡ min (length xs - 1) (length all) =
    length-take (length xs - 1) all in
    omega (arith, lt, cut, length-set xs i (get_or xs (length xs - 1) e))

removed-here : {X : Type 0} (xs : List X) (i : ℕ) (e : X) → i + 1 < length xs
    → get_or (swap_remove xs i e) i e ≡ get_or xs (length xs - 1) e
removed-here xs i e lt =
    let last = get_or xs (length xs - 1) e in
    get_or-take (length xs - 1) (set xs i last) i e (omega (arith, lt))
    ∙ get_or-set_same xs i last e (omega (arith, lt))

removed-elsewhere : {X : Type 0} (xs : List X) (i k : ℕ) (e : X) → k ≢ i → k + 1 < length xs
    → get_or (swap_remove xs i e) k e ≡ get_or xs k e
removed-elsewhere xs i k e ne lt =
    let last = get_or xs (length xs - 1) e in
    get_or-take (length xs - 1) (set xs i last) k e (omega (arith, lt))
    ∙ get_or-set_other xs i k last e ne

-- ---- the calls that are kept

-- the call at a place is taken out, and the last takes its place
pub record TakesOut (place : ℕ) (all now : List (ℕ × List OutItem)) : Type 0 where
  pub within : place < length all
  pub fewer : length now + 1 ≡ length all
  pub here : (d : ℕ × List OutItem) → place < length now
      → get_or now place d ≡ get_or all (length now) d
  pub elsewhere : (k : ℕ) (d : ℕ × List OutItem) → k ≢ place → k < length now
      → get_or now k d ≡ get_or all k d

-- where a call stood
abbrev came-from : ℕ → ℕ → ℕ → ℕ
came-from place last k = if k == place then last else k

module _ (place : ℕ) (all now : List (ℕ × List OutItem)) (t : TakesOut place all now) where
  source : (k : ℕ) (d : ℕ × List OutItem) → k < length now
      → (came-from place (length now) k < length all)
      × (get_or now k d ≡ get_or all (came-from place (length now) k) d)
  source k d lt = by (k == place) refl
    where
      by : (b : Bool) → (k == place) ≡ b
          → ((if b then length now else k) < length all)
          × (get_or now k d ≡ get_or all (if b then length now else k) d)
      by true p =
          let same = eqb-true k place p in (
            omega (arith, t.fewer),
            ap (λ n. get_or now n d) same ∙ t.here d (omega (arith, same, lt)),
          )
      by false p = (
        omega (arith, t.fewer, lt),
        t.elsewhere k d (λ e. true≢false (sym (eq-eqb k place e) ∙ p)) lt,
      )

  apart-still : (i j : ℕ) → i < length now → j < length now → i ≢ j
      → came-from place (length now) i ≢ came-from place (length now) j
  apart-still i j first second differ same = by (i == place) (j == place) refl refl
    where
      by : (a b : Bool) → (i == place) ≡ a → (j == place) ≡ b → ⊥
      by true true p q = differ (eqb-true i place p ∙ sym (eqb-true j place q))
      by true false p q =
          let e : length now ≡ j =
          sym (ap (λ b. if b then length now else i) p) ∙ same
          ∙ ap (λ b. if b then length now else j) q in
          omega (arith, e, second)
      by false true p q =
          let e : i ≡ length now =
          sym (ap (λ b. if b then length now else i) p) ∙ same
          ∙ ap (λ b. if b then length now else j) q in
          omega (arith, e, first)
      by false false p q =
          differ (sym (ap (λ b. if b then length now else i) p) ∙ same
          ∙ ap (λ b. if b then length now else j) q)

-- ---- the streams

-- where the sender of a stream stands: it was the last, or it stands where it stood
abbrev pub Stands : ℕ → ℕ → ℕ → ℕ → ℕ → ℕ → Type 0
Stands place last moved id stands stood =
    ((stands ≡ place) × (stood ≡ last))
    ⊎ ((stands ≡ stood) × (stood ≡ last → place < last → id ≢ moved))

-- an open stream was open, and what was in hand is so still
pub record Follows (place last moved : ℕ) (streams left : OpenStreams) : Type 0 where
  pub was : (k : ℕ) (stream : OpenStream) → left k ≡ Some stream
      → (old : OpenStream) × (streams k ≡ Some old) × (old.in_hand ≡ stream.in_hand)
      × Stands place last moved k stream.place old.place
  pub closed : (k : ℕ) → streams k ≡ None → left k ≡ None
  pub still : (k : ℕ) → left k ≡ None → streams k ≡ None

-- where no sender moves
pub follows-same : (place last moved : ℕ) (streams left : OpenStreams) → left ≡ streams
    → (place < last → ⊥) → Follows place last moved streams left
follows-same place last moved streams left e out = record {
  was = λ k stream found. (
    stream,
    ap (λ (l : OpenStreams). l k) (sym e) ∙ found,
    refl,
    inr (refl, λ at lt. absurd (out lt)),
  );
  closed = λ k none. ap (λ (l : OpenStreams). l k) e ∙ none;
  still = λ k none. ap (λ (l : OpenStreams). l k) (sym e) ∙ none;
}

-- where the last one does
pub follows-moved : (place last moved : ℕ) (streams left : OpenStreams)
    → PlaceIs moved last place streams left → Follows place last moved streams left
follows-moved place last moved streams left is = record {
  was = λ k stream found. was k stream found (streams k) refl (k == moved) refl;
  closed = λ k none.
      none-shown (left k) (is k ∙ closed-by (k == moved) (shows streams k) (ap shown none));
  still = λ k none.
      none-shown (streams k) (still-by (k == moved) (shows streams k) (sym (is k) ∙ ap shown none));
}
  where
    closed-by : (b : Bool) (v : Shown) → v ≡ None
        → (if b then with_place last place v else v) ≡ None
    closed-by true v e = ap (with_place last place) e
    closed-by false v e = e

    still-by : (b : Bool) (v : Shown) → (if b then with_place last place v else v) ≡ None → v ≡ None
    still-by true None e = refl
    still-by true (Some v) e = absurd (some-none (if v.0 == last then place else v.0, v.1) e)
    still-by false v e = e

    Was : ℕ → OpenStream → Type 0
    Was k stream =
        (old : OpenStream) × (streams k ≡ Some old) × (old.in_hand ≡ stream.in_hand)
        × Stands place last moved k stream.place old.place

    first : (a b : ℕ × Option (List ℕ)) → Some a ≡ Some b → (a.0 ≡ b.0) × (a.1 ≡ b.1)
    first a b e = (ap (λ (x : Shown). (from_some a x).0) e, ap (λ (x : Shown). (from_some a x).1) e)

    was : (k : ℕ) (stream : OpenStream) → left k ≡ Some stream → (found : Option OpenStream)
        → streams k ≡ found
        → (b : Bool) → (k == moved) ≡ b → Was k stream
    was k stream e None f b p =
        absurd (none-some (stream.place, stream.in_hand)
        (sym (closed-by (k == moved) (shows streams k) (ap shown f)) ∙ sym (is k) ∙ ap shown e))
    was k stream e (Some old) f false p =
        let both : Some (old.place, old.in_hand) ≡ Some (stream.place, stream.in_hand) =
        sym (ap shown f)
        ∙ sym (ap (λ b. if b then with_place last place (shows streams k) else shows streams k) p)
        ∙ sym (is k) ∙ ap shown e in
        let parts = first (old.place, old.in_hand) (stream.place, stream.in_hand) both in (
          old,
          f,
          parts.1,
          inr (sym parts.0, λ at lt same. true≢false (sym (eq-eqb k moved same) ∙ p)),
        )
    was k stream e (Some old) f true p =
        let both : Some (if old.place == last then place else old.place, old.in_hand) ≡ Some
        (stream.place, stream.in_hand) =
        sym (ap (with_place last place) (ap shown f))
        ∙ sym (ap (λ b. if b then with_place last place (shows streams k) else shows streams k) p)
        ∙ sym (is k) ∙ ap shown e in
        let parts =
        first (if old.place == last then place else old.place, old.in_hand)
        (stream.place, stream.in_hand) both in
        (old, f, parts.1, by (old.place == last) refl (sym parts.0))
      where
        by : (c : Bool) → (old.place == last) ≡ c
            → stream.place ≡ (if old.place == last then place else old.place)
            → Stands place last moved k stream.place old.place
        by true q at =
            inl (at ∙ ap (λ c. if c then place else old.place) q, eqb-true old.place last q)
        by false q at = inr (
          at ∙ ap (λ c. if c then place else old.place) q,
          λ there lt. absurd (true≢false (sym (eq-eqb old.place last there) ∙ q)),
        )

-- ---- all of it

module _ (run : List Step) (o : Outbound) (streams left : OpenStreams)
    (all now : List (ℕ × List OutItem)) (marks : List (ℕ × Mark))
    (place moved id : ℕ) (items : List OutItem) (t : TakesOut place all now)
    (moved_is : place < length now → (get_or now place (0, [])).0 ≡ moved)
    (f : Follows place (length now) moved streams left)
    (is : (d : ℕ × List OutItem) → get_or all place d ≡ (id, items)) (none : streams id ≡ None)
    (s : Serves run o streams all marks) where
  abbrev from : ℕ → ℕ
  from k = came-from place (length now) k

  exact : (k : ℕ) (stream : OpenStream) → left k ≡ Some stream
      → IsExact k stream now (marks_on k marks)
  exact k stream e = let w = f.was k stream e in by w.0 w.1 w.2 (s.exact k w.0 w.1) w.3
    where
      by : (old : OpenStream) → streams k ≡ Some old → old.in_hand ≡ stream.in_hand
          → IsExact k old all (marks_on k marks)
          → Stands place (length now) moved k stream.place old.place
          → IsExact k stream now (marks_on k marks)
      by old found hand x stands = cases stands
        where
          apart-from : old.place ≡ place → ⊥
          apart-from e =
              let same : k ≡ id =
              sym (x.1 (0, [])).0 ∙ ap (λ n. (get_or all n (0, [])).0) e
              ∙ ap (λ (c : ℕ × List OutItem). c.0) (is (0, [])) in
              none-some old (sym (subst (λ n. streams n ≡ None) (sym same) none) ∙ found)

          stood : stream.place < length now
              → ((d : ℕ × List OutItem) → get_or now stream.place d ≡ get_or all old.place d)
              → IsExact k stream now (marks_on k marks)
          stood lt same = (
            lt,
            λ d. (
              ap (λ (c : ℕ × List OutItem). c.0) (same d) ∙ (x.1 d).0,
              ap (λ h. marks_on k marks ++ bytes_marks h) (sym hand) ∙ (x.1 d).1
                  ∙ sym (ap (λ (c : ℕ × List OutItem). spelled c.1) (same d)),
            ),
          )

          below : old.place ≡ length now → place < length now
          below last =
              let ne : place ≢ length now = λ e. apart-from (last ∙ sym e) in
              omega (arith, t.within, t.fewer, ne)

          cases : Stands place (length now) moved k stream.place old.place
              → IsExact k stream now (marks_on k marks)
          cases (inl (at, last)) =
              let lt = below last in
              stood (omega (arith, at, lt))
              (λ d. ap (λ n. get_or now n d) at ∙ t.here d lt ∙ ap (λ n. get_or all n d) (sym last))
          cases (inr (at, not)) = decide (old.place == length now) refl
            where
              decide : (b : Bool) → (old.place == length now) ≡ b
                  → IsExact k stream now (marks_on k marks)
              decide true p =
                  let last : old.place ≡ length now = eqb-true old.place (length now) p in
                  let lt = below last in
                  absurd (not last lt (sym (x.1 (0, [])).0 ∙ ap (λ n. (get_or all n (0, [])).0) last
                  ∙ ap (λ (c : ℕ × List OutItem). c.0) (sym (t.here (0, []) lt)) ∙ moved_is lt))
              decide false p =
                  let ne : old.place ≢ length now = λ e.
                  true≢false (sym (eq-eqb old.place (length now) e) ∙ p) in
                  let lt : old.place < length now = omega (arith, x.0, t.fewer, ne) in
                  stood (omega (arith, at, lt))
                  (λ d. ap (λ n. get_or now n d) at ∙ t.elsewhere old.place d apart-from lt)

  of-call : (P : ℕ × List OutItem → Type 0)
      → ((j : ℕ) (d : ℕ × List OutItem) → j < length all → P (get_or all j d))
      → (k : ℕ) (d : ℕ × List OutItem) → k < length now → P (get_or now k d)
  of-call P each k d lt =
      let c = source place all now t k d lt in
      subst P (sym c.1) (each (from k) d c.0)

  abbrev Ended : ℕ × List OutItem → Type 0
  Ended c =
      left c.0 ≡ None → is_served c.0 run ≡ true
      → IsEnded (over_on o.states c.0) (marks_on c.0 marks) c.1

  apart : (i j : ℕ) (d : ℕ × List OutItem) → i < length now → j < length now → i ≢ j
      → (get_or now i d).0 ≡ (get_or now j d).0 → is_served (get_or now i d).0 run ≡ false
  apart i j d first second differ same =
      let a = source place all now t i d first in
      let b = source place all now t j d second in
      ap (λ (c : ℕ × List OutItem). is_served c.0 run) a.1
      ∙ s.apart (from i) (from j) d a.0 b.0 (apart-still place all now t i j first second differ)
      (ap (λ (c : ℕ × List OutItem). c.0) (sym a.1) ∙ same ∙ ap (λ (c : ℕ × List OutItem). c.0) b.1)

  taken-ended : is_served id run ≡ true → IsEnded (over_on o.states id) (marks_on id marks) items
  taken-ended served =
      let P : ℕ × List OutItem → Type 0 = λ c.
      streams c.0 ≡ None → is_served c.0 run ≡ true
      → IsEnded (over_on o.states c.0) (marks_on c.0 marks) c.1 in
      subst P (is (0, [])) (s.ended place (0, []) t.within) none served

  returned : (k : ℕ) (got : List OutItem) → IsReturned k got (Returned id items ∷ run)
      → is_served k run ≡ true
      → (left k ≡ None) × IsEnded (over_on o.states k) (marks_on k marks) got
  returned k got (inl (same, given)) served =
      subst (λ n. (left n ≡ None) × IsEnded (over_on o.states n) (marks_on n marks) got) (sym same)
      (subst (λ (l : List OutItem).
      (left id ≡ None) × IsEnded (over_on o.states id) (marks_on id marks) l) (sym given)
      (f.closed id none, taken-ended (ap (λ n. is_served n run) (sym same) ∙ served)))
  returned k got (inr before) served =
      let h = s.returned k got before served in
      (f.closed k h.0, h.1)

  stale : (k : ℕ) (got : List OutItem) → IsReturned k got (Returned id items ∷ run)
      → is_fresh k run ≡ false
  stale k got (inl (same, given)) =
      ap (λ n. is_fresh n run) same
      ∙ ap (λ (c : ℕ × List OutItem). is_fresh c.0 run) (sym (is (0, [])))
      ∙ s.opened place (0, []) t.within
  stale k got (inr before) = s.stale k got before

  pub serves-returned : Serves (Returned id items ∷ run) o left now marks
  serves-returned = record {
    spells = spells-returned run o marks id items s.spells;
    exact = exact;
    not_over = λ k stream e. let w = f.was k stream e in s.not_over k w.0 w.1;
    known = λ k stream e. let w = f.was k stream e in s.known k w.0 w.1;
    ended =
        of-call Ended (λ j d lt gone served.
        s.ended j d lt (f.still (get_or all j d).0 gone) served);
    returned = returned;
    stale = stale;
    apart = apart;
    opened = of-call (λ (c : ℕ × List OutItem). is_fresh c.0 run ≡ false) s.opened;
    due = all-due run (Returned id items ∷ run) o o streams left (record {
      refused = λ k e g. (e, g);
      reset = λ k e g. (f.closed k e, g);
      asked = λ k fields asked. asked;
      reason = λ k e. e;
    }) o.due.items s.due;
    unknown = s.unknown;
    other = s.other;
    stays = λ k served there gone. s.stays k served there (f.still k gone);
    early = s.early;
    reasons = λ k there gone known. s.reasons k there (f.still k gone) known;
    brought = s.brought;
    uncalled = s.uncalled;
  }

-- ---- what callers see

module _ {L In Out Shut : Type 0} (got : Out → List OutItem) where
  -- the sender at a place is taken out
  pub takes-out : (old new : List (ℕ × Sender L In Out Shut)) (place : ℕ)
      (entry : ℕ × Sender L In Out Shut)
      → place < length old → new ≡ swap_remove old place entry
      → TakesOut place (calls got old) (calls got new)
  takes-out old new place entry within removed =
      let f : ℕ × Sender L In Out Shut → ℕ × List OutItem = λ call. (call.0, got call.1.rx) in
      let long : length (calls got old) ≡ length old = length-map old f in
      let short : length (calls got new) ≡ length new = length-map new f in
      let fewer : length new + 1 ≡ length old =
      ap (λ (l : List (ℕ × Sender L In Out Shut)). length l + 1) removed
      ∙ removed-length old place entry within in
      record {
        within = omega (arith, within, long);
        fewer = omega (arith, fewer, long, short);
        here = λ d lt.
            let lt_new : place < length new = omega (arith, lt, short) in
            let last : length old - 1 ≡ length (calls got new) = omega (arith, fewer, short) in
            get_or-map f new place entry d lt_new
            ∙ ap f (ap (λ (l : List (ℕ × Sender L In Out Shut)). get_or l place entry) removed
            ∙ removed-here old place entry (omega (arith, fewer, lt_new)))
            ∙ sym (get_or-map f old (length old - 1) entry d (omega (arith, within)))
            ∙ ap (λ n. get_or (calls got old) n d) last;
        elsewhere = λ k d ne lt.
            let lt_new : k < length new = omega (arith, lt, short) in
            get_or-map f new k entry d lt_new
            ∙ ap f (ap (λ (l : List (ℕ × Sender L In Out Shut)). get_or l k entry) removed
            ∙ removed-elsewhere old place k entry ne (omega (arith, fewer, lt_new)))
            ∙ sym (get_or-map f old k entry d (omega (arith, fewer, lt_new)));
      }

  -- what is at a place of the calls
  pub call-at : (senders : List (ℕ × Sender L In Out Shut)) (place : ℕ)
      (entry : ℕ × Sender L In Out Shut) (d : ℕ × List OutItem)
      → place < length senders
      → entry ≡ get_or senders place entry
      → get_or (calls got senders) place d ≡ (entry.0, got entry.1.rx)
  call-at senders place entry d within is =
      get_or-map (λ (call : ℕ × Sender L In Out Shut). (call.0, got call.1.rx)) senders
      place entry d within
      ∙ ap (λ (call : ℕ × Sender L In Out Shut). (call.0, got call.1.rx)) (sym is)

  pub leads-returned : (old new : OutCore L In Out Shut) (place moved id : ℕ) (items : List OutItem)
      → new
      ≡ record old {
        sending =
            record old.sending { senders = new.sending.senders; outbound = new.sending.outbound };
      } → SameButOpen old.sending.outbound new.sending.outbound
      → TakesOut place (calls got old.sending.senders.items) (calls got new.sending.senders.items)
      → (place < length (calls got new.sending.senders.items)
      → (get_or (calls got new.sending.senders.items) place (0, [])).0 ≡ moved)
      → Follows place (length (calls got new.sending.senders.items)) moved
      (open_at old.sending.outbound.states) (open_at new.sending.outbound.states)
      → ((d : ℕ × List OutItem)
      → get_or (calls got old.sending.senders.items) place d ≡ (id, items))
      → (open_at old.sending.outbound.states) id ≡ None
      → LeadsOn got (Returned id items) old new
  leads-returned old new place moved id items rest same_out t moved_is f is none run l =
      let o = old.sending.outbound in
      let left = new.sending.outbound in
      let all = calls got old.sending.senders.items in
      let now = calls got new.sending.senders.items in
      subst (λ (x : OutCore L In Out Shut). Leads got (Returned id items ∷ run) x)
      (sym rest) (record {
        lawful = l.lawful;
        fronts = λ k d lt. let c = source place all now t k d lt in
            subst (λ (call : ℕ × List OutItem). is_served call.0 run ≡ true → Front call.0 call.1)
            (sym c.1) (l.fronts (came-from place (length now) k) d c.0);
        returned = λ k given r. given-back k given r;
        others = l.others;
        closed = l.closed;
        parts = λ dead may last reason.
            may-part-returned run id items last reason (l.parts dead may last reason);
        unsaid = λ alive.
            let before = l.unsaid alive in
            record { goaway = before.goaway; probe = before.probe; error = before.error };
        keeps = λ alive. let k = l.keeps alive in record {
          mirrors =
              mirrors-but-open (Returned id items ∷ run) o left same_out
              (mirrors-returned run o id items k.mirrors);
          marks = k.marks;
          serves =
              serves-but-open (Returned id items ∷ run) o left (open_at left.states)
              now k.marks same_out
              (serves-returned run o (open_at o.states) (open_at left.states) all now k.marks place
              moved id items t moved_is f is none k.serves);
          heeds = heeds-but-open (Returned id items ∷ run) o left (open_at left.states) same_out
              (heeds-kept run o o (open_at o.states) (open_at left.states) (λ k there e. e)
              (λ k. (refl, refl, λ e. e)) f.closed k.heeds);
        };
      })
    where
      Front : ℕ → List OutItem → Type 0
      Front k given = (part : List Mark) × IsPart k run part × IsFrontOf part (spelled given)

      given-back : (k : ℕ) (given : List OutItem) → IsReturned k given (Returned id items ∷ run)
          → is_served k run ≡ true → Front k given
      given-back k given (inr before) served = l.returned k given before served
      given-back k given (inl (same, e)) served =
          let here : is_served id run ≡ true → Front id items =
          subst (λ (call : ℕ × List OutItem). is_served call.0 run ≡ true → Front call.0 call.1)
          (is (0, [])) (l.fronts place (0, []) t.within) in
          subst (λ n. Front n given) (sym same) (subst (λ (l : List OutItem). Front id l) (sym e)
          (here (ap (λ n. is_served n run) (sym same) ∙ served)))

  pub released : (old new : OutCore L In Out Shut) (place id : ℕ) (entry : ℕ × Sender L In Out Shut)
      → new
      ≡ record old {
        sending =
            record old.sending { senders = new.sending.senders; outbound = new.sending.outbound };
      } → SameButOpen old.sending.outbound new.sending.outbound
      → IsAt id place old.sending.senders.items
      → entry ≡ get_or old.sending.senders.items place entry
      → new.sending.senders.items ≡ swap_remove old.sending.senders.items place entry
      → (open_at old.sending.outbound.states) id ≡ None
      → MovedTo place new.sending.senders.items (open_at old.sending.outbound.states)
      (open_at new.sending.outbound.states)
      → LeadsOn got (Returned id (got entry.1.rx)) old new
  released old new place id entry rest same_out at is removed none moved =
      let same : entry.0 ≡ id = ap (λ (e : ℕ × Sender L In Out Shut). e.0) is ∙ at.1 entry in
      by (takes-out old.sending.senders.items new.sending.senders.items place entry at.0 removed)
      (λ d.
      call-at old.sending.senders.items place entry d at.0 is
      ∙ ap (λ n. (n, got entry.1.rx)) same) moved
    where
      short : length (calls got new.sending.senders.items) ≡ length new.sending.senders.items
      short =
          length-map new.sending.senders.items
          (λ (call : ℕ × Sender L In Out Shut). (call.0, got call.1.rx))

      by :
          TakesOut place (calls got old.sending.senders.items) (calls got new.sending.senders.items)
          → ((d : ℕ × List OutItem)
          → get_or (calls got old.sending.senders.items) place d ≡ (id, got entry.1.rx))
          → MovedTo place new.sending.senders.items (open_at old.sending.outbound.states)
          (open_at new.sending.outbound.states)
          → LeadsOn got (Returned id (got entry.1.rx)) old new
      by t call (inl (moved, at_place, is_there)) =
          leads-returned old new place moved.0 id (got entry.1.rx) rest same_out t
          (λ lt.
          ap (λ (c : ℕ × List OutItem). c.0) (call-at new.sending.senders.items place moved (0, [])
          (omega (arith, lt, short)) at_place))
          (subst (λ n.
          Follows place n moved.0 (open_at old.sending.outbound.states)
          (open_at new.sending.outbound.states)) (sym short)
          (follows-moved place (length new.sending.senders.items) moved.0
          (open_at old.sending.outbound.states) (open_at new.sending.outbound.states) is_there))
          call none
      by t call (inr (same, out)) =
          let out_of : place < length (calls got new.sending.senders.items) → ⊥ = λ lt.
          out (omega (arith, lt, short)) in
          leads-returned old new place 0 id (got entry.1.rx) rest same_out t
          (λ lt. absurd (out_of lt))
          (follows-same place (length (calls got new.sending.senders.items)) 0
          (open_at old.sending.outbound.states) (open_at new.sending.outbound.states) same out_of)
          call none

  pub released-entry : (old new : List (ℕ × Sender L In Out Shut)) (place id : ℕ)
      (entry : ℕ × Sender L In Out Shut)
      → IsAt id place old → entry ≡ get_or old place entry
      → new ≡ swap_remove old place entry → HasNoneBelow place id old → Releases id entry.1 old new
  released-entry old new place id entry at is removed first =
      let same : entry.0 ≡ id = ap (λ (e : ℕ × Sender L In Out Shut). e.0) is ∙ at.1 entry in
      let pair : entry ≡ (id, entry.1) = ap (λ n. (n, entry.1)) same in (
        place,
        at.0,
        subst (λ (e : ℕ × Sender L In Out Shut). e ≡ get_or old place e) pair is,
        subst (λ (e : ℕ × Sender L In Out Shut). new ≡ swap_remove old place e) pair removed,
        first,
      )

  pub has-ended : (core : OutCore L In Out Shut) (id : ℕ)
      → (open_at core.sending.outbound.states) id ≡ None → HasEnded got id core
  has-ended core id none run l alive there served =
      let k = l.keeps alive in
      by k.mirrors.stand.over (k.serves.stays id served there none)
    where
      by : HasOver run core.sending.outbound.states
          → (is_some (over_on core.sending.outbound.states id) ≡ true) ⊎ (was_reset id run ≡ true)
          → (is_over id run ≡ true) ⊎ (was_reset id run ≡ true)
      by over (inl ended) = inl (sym (over id).0 ∙ ended)
      by over (inr reset) = inr reset
