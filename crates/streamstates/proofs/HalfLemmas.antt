-- What is kept of the receiving halves, and how one event changes it.
use Rattle.std.proofs.Common.{
  ◌≡◌,
  ℕ,
  ◌+◌,
  ◌<◌,
  Bool,
  true,
  false,
  ◌&&◌,
  ◌||◌,
  not,
  true≢false,
  refl,
  sym,
  ap,
  subst,
  ◌∙◌,
  List,
  [],
  ◌∷◌,
  ◌++◌,
  length,
  Option,
  Some,
  None,
  arith,
  nat_eq,
  length-append,
  suc,
}
use Rattle.std.specs.Prelude.{if◌then◌else◌, nat_lt, IsSome, MatchOption}
use Rattle.std.specs.List.{list_any}
use Rattle.std.specs.Map.{lookup, set_value}
use Rattle.std.proofs.lemmas.Bool.{eqb-true}
use Rattle.std.proofs.lemmas.Map.{length-set_value}
use Rattle.std.proofs.lemmas.Map.Steps.{set_value_same}
use Rattle.std.proofs.lemmas.Bool.Decides.{nat_tests}
use Rattle.h2frame.specs.declared.frame.FrameHead.{FrameHead}
use Rattle.h2frame.specs.declared.kind.FrameKind.{FrameKind}
use Rattle.h2frame.specs.declared.kind.FrameKind.TheVariants.{Data, Headers}
use Rattle.h2frame.specs.Flags.{has, end_stream}
use Rattle.limits.proofs.Entries.{
  same_number,
  lookup-push,
  lookup-pushed,
  lookup-set_other,
  lookup-set,
}
use Rattle.limits.specs.declared.TheConstants.{MAX_STREAMS}
use Rattle.streamstates.specs.declared.halves.HalfState.{HalfState}
use Rattle.streamstates.specs.declared.halves.HalfState.TheVariants.{Opened, Ended, Reset}
use Rattle.streamstates.specs.declared.halves.FrameAction.{FrameAction}
use Rattle.streamstates.specs.Halves.{
  Event,
  Received,
  Cut,
  stream_of,
  is_odd,
  is_above,
  is_headers,
  is_reset_kind,
  begins,
  begun,
  Course,
  further,
  course,
  ends,
  resets,
  is_on,
  half,
  Idle,
  Skipped,
  state_of,
  state,
  on_begun,
  Streams,
  kept,
  Stands,
  half_of,
  moved,
  half_after,
  half_of_new,
  on_opened,
  on_ended,
  is_error,
  is_last_of_kind,
}

-- ---- a half, and one more event

moved-table : (reset was_reset last had_last : Bool)
    → (if reset || was_reset then Reset else (if last || had_last then Ended else Opened))
    ≡ moved (if was_reset then Reset else (if had_last then Ended else Opened)) reset last
moved-table true true last had_last = refl
moved-table false true last had_last = refl
moved-table true false last true = refl
moved-table true false last false = refl
moved-table false false true true = refl
moved-table false false false true = refl
moved-table false false true false = refl
moved-table false false false false = refl

-- an event elsewhere changes nothing
half-other : (id : ℕ) (e : Event) (c : Course) → nat_eq id (stream_of e) ≡ false
    → half id (record { since = e ∷ c.since; before = c.before }) ≡ half id c
half-other id e c other =
    ap (λ b. if (b && resets e) || list_any (is_on resets id) c.since then Reset
    else (if (b && ends e) || list_any (is_on ends id) c.since then Ended else Opened)) other

half-here : (e : Event) (c : Course)
    → half (stream_of e) (record { since = e ∷ c.since; before = c.before })
    ≡ half_after (half (stream_of e) c) e
half-here e c =
    ap (λ b. if (b && resets e) || list_any (is_on resets (stream_of e)) c.since then Reset
    else (if (b && ends e) || list_any (is_on ends (stream_of e)) c.since then Ended else Opened))
    (same_number (stream_of e))
    ∙ moved-table (resets e) (list_any (is_on resets (stream_of e)) c.since) (ends e)
    (list_any (is_on ends (stream_of e)) c.since)

new-table : (last : Bool)
    → (if false || false then Reset else (if last || false then Ended else Opened))
    ≡ (if last then Ended else Opened)
new-table true = refl
new-table false = refl

headers-no_reset : (kind : FrameKind) → is_headers kind ≡ true → is_reset_kind kind ≡ false
headers-no_reset Headers h = refl
headers-no_reset _ h = absurd (true≢false (sym h))

and-false : (a b : Bool) → b ≡ false → (a && b) ≡ false
and-false true b p = p
and-false false b p = refl

first-true : (a b : Bool) → (a && b) ≡ true → a ≡ true
first-true true b h = refl
first-true false b h = h

second-true : (a b : Bool) → (a && b) ≡ true → b ≡ true
second-true true b h = h
second-true false b h = absurd (true≢false (sym h))

begins-no_reset : (e : Event) (ids : List ℕ) → begins e ids ≡ true → resets e ≡ false
begins-no_reset (Received head) ids h =
    headers-no_reset head.kind (first-true (is_headers head.kind)
    (is_odd head.stream && (is_above ids head.stream && nat_lt (length ids) MAX_STREAMS)) h)
begins-no_reset (Cut id) ids h = absurd (true≢false (sym h))

begins-above : (e : Event) (ids : List ℕ) → begins e ids ≡ true → is_above ids (stream_of e) ≡ true
begins-above (Received head) ids h =
    first-true (is_above ids head.stream) (nat_lt (length ids) MAX_STREAMS)
    (second-true (is_odd head.stream) (is_above ids head.stream && nat_lt (length ids) MAX_STREAMS)
    (second-true (is_headers head.kind)
    (is_odd head.stream && (is_above ids head.stream && nat_lt (length ids) MAX_STREAMS)) h))
begins-above (Cut id) ids h = absurd (true≢false (sym h))

half-new : (e : Event) (before : List Event) → begins e (begun before) ≡ true
    → half (stream_of e) (record { since = e ∷ []; before = before }) ≡ half_of_new e
half-new e before b =
    ap (λ here. if (here && resets e) || false then Reset
    else (if (here && ends e) || false then Ended else Opened)) (same_number (stream_of e))
    ∙ ap (λ r. if r || false then Reset
    else (if ends e || false then Ended else Opened)) (begins-no_reset e (begun before) b)
    ∙ new-table (ends e)

-- ---- what is kept of a stream, and one more event

kept-unbegun : (skipped : Bool) → kept (if skipped then Skipped else Idle) ≡ None
kept-unbegun true = refl
kept-unbegun false = refl

pub kept-None : (id : ℕ) (h : List Event) → kept (state_of id h None) ≡ None
kept-None id h = kept-unbegun (is_odd id && not (is_above (begun h) id))

pub kept-other : (id : ℕ) (e : Event) (h : List Event) → nat_eq id (stream_of e) ≡ false
    → kept (state id (e ∷ h)) ≡ kept (state id h)
kept-other id e h other = by (course id h) (nat_eq id (stream_of e)) other
  where
    by : (c : Option Course) (b : Bool) → b ≡ false
        → kept (state_of id (e ∷ h) (further e h (b && begins e (begun h)) c))
        ≡ kept (state_of id h c)
    by None true p = absurd (true≢false p)
    by None false p = kept-None id (e ∷ h) ∙ sym (kept-None id h)
    by (Some c) b p = ap Some (half-other id e c other)

pub kept-begun : (e : Event) (h : List Event) (c : Course) → course (stream_of e) h ≡ Some c
    → kept (state (stream_of e) (e ∷ h)) ≡ Some (half_after (half (stream_of e) c) e)
kept-begun e h c is =
    ap (λ o.
    kept (state_of (stream_of e) (e ∷ h)
    (further e h (nat_eq (stream_of e) (stream_of e) && begins e (begun h)) o))) is
    ∙ ap Some (half-here e c)

pub kept-new : (e : Event) (h : List Event) → course (stream_of e) h ≡ None
    → begins e (begun h) ≡ true
    → kept (state (stream_of e) (e ∷ h)) ≡ Some (half_of_new e)
kept-new e h is b =
    ap (λ o.
    kept (state_of (stream_of e) (e ∷ h)
    (further e h (nat_eq (stream_of e) (stream_of e) && begins e (begun h)) o))) is
    ∙ ap (λ beginning.
    kept (state_of (stream_of e) (e ∷ h) (further e h (beginning && begins e (begun h)) None)))
    (same_number (stream_of e))
    ∙ ap (λ beginning. kept (state_of (stream_of e) (e ∷ h) (further e h beginning None))) b
    ∙ ap Some (half-new e h b)

pub kept-unused : (e : Event) (h : List Event) → course (stream_of e) h ≡ None
    → begins e (begun h) ≡ false → kept (state (stream_of e) (e ∷ h)) ≡ None
kept-unused e h is b =
    ap (λ o.
    kept (state_of (stream_of e) (e ∷ h)
    (further e h (nat_eq (stream_of e) (stream_of e) && begins e (begun h)) o))) is
    ∙ ap (λ beginning. kept (state_of (stream_of e) (e ∷ h) (further e h beginning None)))
    (and-false (nat_eq (stream_of e) (stream_of e)) (begins e (begun h)) b)
    ∙ kept-None (stream_of e) (e ∷ h)

-- ---- a begun stream isn't begun again

not_below_itself : (id k : ℕ) → nat_eq id k ≡ true → nat_lt k id ≡ false
not_below_itself id k h =
    subst (λ n. nat_lt n id ≡ false) (eqb-true id k h) (grind (arith, nat_tests))

not_above : (id : ℕ) (h : List Event) (c : Course) → course id h ≡ Some c
    → is_above (begun h) id ≡ false
not_above id [] c is = cc
not_above id (e ∷ h) c is =
    by (not_above id h) (course id h) refl (nat_eq id (stream_of e)) refl (begins e (begun h)) is
  where
    by : ((other : Course) → course id h ≡ Some other → is_above (begun h) id ≡ false)
        → (o : Option Course) → course id h ≡ o → (at : Bool) → nat_eq id (stream_of e) ≡ at
        → (b : Bool) → further e h (at && b) o ≡ Some c
        → is_above (if b then stream_of e ∷ begun h else begun h) id ≡ false
    by rest (Some other) p at q true r =
        and-false (nat_lt (stream_of e) id) (is_above (begun h) id) (rest other p)
    by rest (Some other) p at q false r = rest other p
    by rest None p true q true r =
        ap (λ below. below && is_above (begun h) id) (not_below_itself id (stream_of e) q)
    by rest None p true q false r = cc
    by rest None p false q b r = cc

-- ---- what stands after one more event

module _ (h : List Event) (s : Streams) (stands : Stands h s) where
  -- a stream of which nothing is kept wasn't begun
  course-None : (id : ℕ) → half_of s id ≡ None → course id h ≡ None
  course-None id none = by (course id h) refl
    where
      by : (o : Option Course) → course id h ≡ o → o ≡ None
      by None p = refl
      by (Some c) p =
          let some : half_of s id ≡ Some (half id c) =
          stands.each id ∙ ap (λ o. kept (state_of id h o)) p in
          cc

  -- and any other was
  course-Some : (id : ℕ) (now : HalfState) → half_of s id ≡ Some now
      → (c : Course) × (course id h ≡ Some c) × (half id c ≡ now)
  course-Some id now some = by (course id h) refl
    where
      by : (o : Option Course) → course id h ≡ o
          → (c : Course) × (course id h ≡ Some c) × (half id c ≡ now)
      by None p =
          let none : half_of s id ≡ None =
          stands.each id ∙ ap (λ o. kept (state_of id h o)) p ∙ kept-None id h in
          let wrong : Some now ≡ None = sym some ∙ none in cc
      by (Some c) p =
          let is : Some (half id c) ≡ Some now =
          sym (ap (λ o. kept (state_of id h o)) p) ∙ sym (stands.each id) ∙ some in
          (c, p, cc)

  -- each stream's half stands, where that of the event's stream does and the others are kept
  each-from : (e : Event) (halves : List (ℕ × HalfState))
      → lookup (nat_eq (stream_of e)) halves ≡ kept (state (stream_of e) (e ∷ h))
      → ((id : ℕ) → nat_eq id (stream_of e) ≡ false → lookup (nat_eq id) halves ≡ half_of s id)
      → (id : ℕ) → lookup (nat_eq id) halves ≡ kept (state id (e ∷ h))
  each-from e halves here others id = by (nat_eq id (stream_of e)) refl
    where
      by : (b : Bool) → nat_eq id (stream_of e) ≡ b
          → lookup (nat_eq id) halves ≡ kept (state id (e ∷ h))
      by true p =
          subst (λ n. lookup (nat_eq n) halves ≡ kept (state n (e ∷ h)))
          (sym (eqb-true id (stream_of e) p)) here
      by false p = others id p ∙ stands.each id ∙ sym (kept-other id e h p)

  begun-kept : (e : Event) → begins e (begun h) ≡ false → begun (e ∷ h) ≡ begun h
  begun-kept e b = ap (λ beginning. if beginning then stream_of e ∷ begun h else begun h) b

  no_beginning : (e : Event) (now : HalfState) → half_of s (stream_of e) ≡ Some now
      → begins e (begun h) ≡ false
  no_beginning e now some = by (begins e (begun h)) refl
    where
      by : (b : Bool) → begins e (begun h) ≡ b → b ≡ false
      by false p = refl
      by true p =
          let was = course-Some (stream_of e) now some in
          absurd
          (true≢false (sym (begins-above e (begun h) p) ∙ not_above (stream_of e) h was.0 was.1))

  -- an event on a stream that isn't begun, which doesn't begin it
  pub Stands-unused : (e : Event) → half_of s (stream_of e) ≡ None → begins e (begun h) ≡ false
      → Stands (e ∷ h) s
  Stands-unused e none b = record {
    count = stands.count ∙ sym (ap length (begun-kept e b));
    greatest = λ id positive.
        ap (λ ids. is_above ids id) (begun-kept e b) ∙ stands.greatest id positive;
    each =
        each-from e s.halves
        (none ∙ sym (kept-unused e h (course-None (stream_of e) none) b)) (λ id p. refl);
  }

  -- an event on a begun stream
  pub Stands-begun : (e : Event) (now : HalfState) → half_of s (stream_of e) ≡ Some now
      → Stands (e ∷ h) (record {
        greatest = s.greatest;
        halves = set_value (nat_eq (stream_of e)) s.halves (half_after now e);
      })
  Stands-begun e now some =
      let b : begins e (begun h) ≡ false = no_beginning e now some in
      let was = course-Some (stream_of e) now some in
      record {
        count =
            length-set_value (nat_eq (stream_of e)) s.halves (half_after now e) ∙ stands.count
            ∙ sym (ap length (begun-kept e b));
        greatest = λ id positive.
            ap (λ ids. is_above ids id) (begun-kept e b) ∙ stands.greatest id positive;
        each = each-from e (set_value (nat_eq (stream_of e)) s.halves (half_after now e))
            (lookup-set (stream_of e) now (half_after now e) s.halves some
            ∙ sym (kept-begun e h was.0 was.1 ∙ ap (λ half. Some (half_after half e)) was.2))
            (λ id p. lookup-set_other id (stream_of e) (half_after now e) s.halves p);
      }

  -- the event that begins a stream
  pub Stands-new : (e : Event) → 0 < stream_of e → half_of s (stream_of e) ≡ None
      → begins e (begun h) ≡ true
      → Stands (e ∷ h)
      (record { greatest = stream_of e; halves = s.halves ++ (stream_of e, half_of_new e) ∷ [] })
  Stands-new e positive none b =
      let more : begun (e ∷ h) ≡ stream_of e ∷ begun h =
      ap (λ beginning. if beginning then stream_of e ∷ begun h else begun h) b in
      let above : nat_lt s.greatest (stream_of e) ≡ true =
      sym (stands.greatest (stream_of e) positive) ∙ begins-above e (begun h) b in
      record {
        count =
            length-append s.halves ((stream_of e, half_of_new e) ∷ [])
            ∙ count_more (length s.halves) (length (begun h)) stands.count ∙ sym (ap length more);
        greatest = λ id there.
            ap (λ ids. is_above ids id) more
            ∙ ap (λ rest. nat_lt (stream_of e) id && rest) (stands.greatest id there)
            ∙ above_both (stream_of e) s.greatest id above;
        each = each-from e (s.halves ++ (stream_of e, half_of_new e) ∷ [])
            (lookup-pushed (stream_of e) (half_of_new e) s.halves none
            ∙ sym (kept-new e h (course-None (stream_of e) none) b))
            (λ id p. lookup-push id (stream_of e) (half_of_new e) s.halves p);
      }
    where
      count_more : (n m : ℕ) → n ≡ m → n + 1 ≡ suc m
      count_more n m e = omega (arith, e)

      above_both : (k greatest id : ℕ) → nat_lt greatest k ≡ true
          → (nat_lt k id && nat_lt greatest id) ≡ nat_lt k id
      above_both k greatest id h = grind (arith, nat_tests)

-- ---- what a call on a begun stream leaves

-- the answer where the stream was begun, and its half
pub begun-answer : (o : Option HalfState) (answer : FrameAction) (head : FrameHead)
    → MatchOption o (Some answer ≡ None) (λ now. Some answer ≡ Some (on_begun now head))
    → (now : HalfState) × (o ≡ Some now) × (answer ≡ on_begun now head)
begun-answer None answer head h = cc
begun-answer (Some now) answer head h = (now, refl, cc)

abbrev nothing : Option FrameAction
nothing = None

unbegun-answer : (o : Option HalfState) (head : FrameHead)
    → MatchOption o (nothing ≡ None) (λ now. nothing ≡ Some (on_begun now head)) → o ≡ None
unbegun-answer None head h = refl
unbegun-answer (Some now) head h = cc

-- an error changes no half
opened-error : (kind : FrameKind) (last : Bool) → is_error (on_opened kind last) ≡ true
    → moved Opened (is_reset_kind kind) (is_last_of_kind kind last) ≡ Opened
opened-error Headers false h = refl
opened-error Headers true h = absurd (true≢false (sym h))
opened-error _ last h = absurd (true≢false (sym h))

ended-error : (kind : FrameKind) (last : Bool) → is_error (on_ended kind) ≡ true
    → moved Ended (is_reset_kind kind) (is_last_of_kind kind last) ≡ Ended
ended-error Data last h = refl
ended-error Headers last h = refl
ended-error _ last h = absurd (true≢false (sym h))

error-kept : (now : HalfState) (head : FrameHead) → is_error (on_begun now head) ≡ true
    → half_after now (Received head) ≡ now
error-kept Opened head h = opened-error head.kind (has end_stream head.flags) h
error-kept Ended head h = ended-error head.kind (has end_stream head.flags) h
error-kept Reset head h = refl

module _ (s : Streams) (after : List (ℕ × HalfState)) (head : FrameHead) (answer : FrameAction)
    (is :
    MatchOption (half_of s head.stream) (Some answer ≡ None)
    (λ now. Some answer ≡ Some (on_begun now head)))
    (left :
    MatchOption (half_of s head.stream) (after ≡ s.halves)
    (λ now. after ≡ set_value (nat_eq head.stream) s.halves (half_after now (Received head)))) where
  written : (now : HalfState) → half_of s head.stream ≡ Some now
      → after ≡ set_value (nat_eq head.stream) s.halves (half_after now (Received head))
  written now some =
      subst (λ o.
      MatchOption o (after ≡ s.halves)
      (λ v. after ≡ set_value (nat_eq head.stream) s.halves (half_after v (Received head)))) some
      left

  pub begun-follows : (h : List Event) → Stands h s
      → Stands (Received head ∷ h) (record { greatest = s.greatest; halves = after })
  begun-follows h stands =
      let was = begun-answer (half_of s head.stream) answer head is in
      subst
      (λ halves. Stands (Received head ∷ h) (record { greatest = s.greatest; halves = halves }))
      (sym (written was.0 was.1))
      (Stands-begun h s stands (Received head) was.0 was.1)

  pub begun-error : is_error answer ≡ true → after ≡ s.halves
  begun-error e =
      let was = begun-answer (half_of s head.stream) answer head is in
      let same : half_after was.0 (Received head) ≡ was.0 =
      error-kept was.0 head (subst (λ v. is_error v ≡ true) was.2 e) in
      written was.0 was.1
      ∙ set_value_same (nat_eq head.stream) s.halves (half_after was.0 (Received head))
      (was.1 ∙ ap Some (sym same))

  pub begun-length : length after ≡ length s.halves
  begun-length =
      let was = begun-answer (half_of s head.stream) answer head is in
      ap length (written was.0 was.1)
      ∙ length-set_value (nat_eq head.stream) s.halves (half_after was.0 (Received head))

  pub begun-there : IsSome (lookup (nat_eq head.stream) after)
  begun-there =
      let was = begun-answer (half_of s head.stream) answer head is in
      let there : lookup (nat_eq head.stream) after ≡ Some (half_after was.0 (Received head)) =
      ap (λ halves. lookup (nat_eq head.stream) halves) (written was.0 was.1)
      ∙ lookup-set head.stream was.0 (half_after was.0 (Received head)) s.halves was.1 in
      subst IsSome (sym there) refl

-- ---- what a call on another stream leaves

module _ (s : Streams) (after : List (ℕ × HalfState)) (head : FrameHead)
    (is :
    MatchOption (half_of s head.stream) (nothing ≡ None)
    (λ now. nothing ≡ Some (on_begun now head)))
    (left :
    MatchOption (half_of s head.stream) (after ≡ s.halves)
    (λ now. after ≡ set_value (nat_eq head.stream) s.halves (half_after now (Received head)))) where
  pub unbegun : half_of s head.stream ≡ None
  unbegun = unbegun-answer (half_of s head.stream) head is

  pub unbegun-left : after ≡ s.halves
  unbegun-left =
      subst (λ o.
      MatchOption o (after ≡ s.halves)
      (λ v. after ≡ set_value (nat_eq head.stream) s.halves (half_after v (Received head)))) unbegun
      left

-- a frame on it begins it where these hold of what is kept
abbrev pub begins_by : Streams → FrameHead → Bool
begins_by s head =
    is_headers head.kind
    && (is_odd head.stream
    && (nat_lt s.greatest head.stream && nat_lt (length s.halves) MAX_STREAMS))

beginning : (h : List Event) (s : Streams) → Stands h s → (head : FrameHead) → 0 < head.stream
    → begins (Received head) (begun h) ≡ begins_by s head
beginning h s stands head positive =
    ap (λ above.
    is_headers head.kind
    && (is_odd head.stream && (above && nat_lt (length (begun h)) MAX_STREAMS)))
    (stands.greatest head.stream positive)
    ∙ ap (λ count.
    is_headers head.kind
    && (is_odd head.stream && (nat_lt s.greatest head.stream && nat_lt count MAX_STREAMS)))
    (sym stands.count)

pub new-follows : (s : Streams) (head : FrameHead) → 0 < head.stream → half_of s head.stream ≡ None
    → begins_by s head ≡ true
    → (after : List (ℕ × HalfState)) (new : HalfState) → new ≡ half_of_new (Received head)
    → after ≡ s.halves ++ (head.stream, new) ∷ []
    → (h : List Event) → Stands h s
    → Stands (Received head ∷ h) (record { greatest = head.stream; halves = after })
new-follows s head positive none begins after new made pushed h stands =
    subst
    (λ halves. Stands (Received head ∷ h) (record { greatest = head.stream; halves = halves }))
    (sym (pushed ∙ ap (λ v. s.halves ++ (head.stream, v) ∷ []) made))
    (Stands-new h s stands (Received head) positive none
    (beginning h s stands head positive ∙ begins))

pub is-new : (s : Streams) (head : FrameHead) → is_headers head.kind ≡ true
    → (is_odd head.stream && nat_lt s.greatest head.stream) ≡ true
    → nat_lt (length s.halves) MAX_STREAMS ≡ true → begins_by s head ≡ true
is-new s head headers new few =
    by (is_headers head.kind) (is_odd head.stream) (nat_lt s.greatest head.stream)
    (nat_lt (length s.halves) MAX_STREAMS) headers new few
  where
    by : (headers odd above few : Bool) → headers ≡ true → (odd && above) ≡ true → few ≡ true
        → (headers && (odd && (above && few))) ≡ true
    by false odd above few h n f = h
    by true false above few h n f = n
    by true true false few h n f = n
    by true true true few h n f = f
