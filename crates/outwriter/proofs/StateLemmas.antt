-- What writes, swaps and further entries leave of how the streams stand.
use Rattle.std.proofs.Common.{
  ◌≡◌,
  ◌≢◌,
  ℕ,
  zero,
  suc,
  ◌+◌,
  ◌<◌,
  ◌≤◌,
  ◌^◌,
  ◌⊎◌,
  inl,
  inr,
  Bool,
  true,
  false,
  cond,
  sym,
  ap,
  subst,
  ◌∙◌,
  refl,
  true≢false,
  List,
  [],
  ◌∷◌,
  length,
  get_or,
  Option,
  Some,
  None,
  arith,
  nat_eq,
  is_some,
  swap,
}
use Rattle.std.specs.Map.{lookup, lookup_key}
use Rattle.std.specs.Option.{option_map}
use Rattle.std.specs.Prelude.{◌||◌, map, slice_get, if◌then◌else◌, ◌==◌, IfSome}
use Rattle.std.proofs.lemmas.Bool.{eqb-true, ne_eqb, eq-eqb}
use Rattle.std.proofs.lemmas.Bool.Decides.{nat_tests}
use Rattle.std.proofs.lemmas.Map.Entries.{All-lookup}
use Rattle.indexmap.specs.IndexMap.{insert_entry, set_value_at}
use Rattle.indexmap.proofs.ReorderLemmas.{get_or-swap, exchange}
use Rattle.outwriter.specs.declared.stream_state.Change.TheVariants as change_by
use Rattle.outwriter.specs.declared.stream_state.Over.{Over}
use Rattle.outwriter.specs.declared.stream_state.StreamState.{StreamState}
use Rattle.outwriter.specs.declared.stream_state.StreamState.TheVariants.{Call, Reset}
use Rattle.outwriter.specs.declared.states.Stream.{Stream}
use Rattle.sendwindows.specs.Windows.{SharedWindow}
use Rattle.outwriter.specs.States.{
  States,
  Hears,
  IsAfter,
  Opens,
  Resets,
  SameOpen,
  SameOver,
  SameOwed,
  SetsEnd,
  AllFit,
  IsSettled,
  IsSettledFrom,
  IsSettledBut,
  IsWithin,
  AreNumbered,
  Fits,
  Puts,
  PutsEntry,
  TakesAt,
  TakesLast,
  amount_of,
  open_at,
  opened_in,
  opened_of,
  state_of,
  states_of,
  by_reset,
  end_of,
  is_of_call,
  is_paid,
  is_heard,
  is_reset,
  is_reset_state,
  knows,
  over_on,
  owed_on,
  pays,
  state_in,
  state_on,
}

abbrev pub Entry : Type 0
Entry = ℕ × Stream

-- ---- the entry at a place after a write

written_at : (es : List Entry) (i : ℕ) (w : Stream) (k : ℕ) (d : Entry)
    → (get_or (set_value_at es i w) k d ≡ get_or es k d)
    ⊎ ((get_or (set_value_at es i w) k d).1 ≡ w)
written_at [] i w k d = inl refl
written_at (e ∷ es) zero w zero d = inr refl
written_at (e ∷ es) zero w (suc k) d = inl refl
written_at (e ∷ es) (suc i) w zero d = inl refl
written_at (e ∷ es) (suc i) w (suc k) d = written_at es i w k d

elsewhere : (es : List Entry) (i : ℕ) (w : Stream) (k : ℕ) (d : Entry) → k ≢ i
    → get_or (set_value_at es i w) k d ≡ get_or es k d
elsewhere [] i w k d other = refl
elsewhere (e ∷ es) zero w zero d other = absurd (other refl)
elsewhere (e ∷ es) zero w (suc k) d other = refl
elsewhere (e ∷ es) (suc i) w zero d other = refl
elsewhere (e ∷ es) (suc i) w (suc k) d other = elsewhere es i w k d (λ e. other (ap suc e))

length-written_at : (es : List Entry) (i : ℕ) (w : Stream)
    → length (set_value_at es i w) ≡ length es
length-written_at [] i w = refl
length-written_at (e ∷ es) zero w = refl
length-written_at (e ∷ es) (suc i) w = ap suc (length-written_at es i w)

pick : (P : Stream → Type 0) (new old : Entry) (w : Stream) → (new ≡ old) ⊎ (new.1 ≡ w)
    → P old.1 → P w → P new.1
pick P new old w (inl e) o h = subst (λ (x : Entry). P x.1) (sym e) o
pick P new old w (inr e) o h = subst P (sym e) h

-- ---- what is true of all entries

pub fit-set_at : (es : List Entry) (i : ℕ) (w : Stream) → AllFit es → Fits w
    → AllFit (set_value_at es i w)
fit-set_at es i w fit here = λ k d within.
    pick Fits (get_or (set_value_at es i w) k d) (get_or es k d) w (written_at es i w k d)
    (fit k d (subst (λ n. k < n) (length-written_at es i w) within)) here

pub settled_but-set_at : (es : List Entry) (i : ℕ) (w : Stream) (owing : ℕ) → IsSettledFrom owing es
    → IsSettledBut i owing (set_value_at es i w)
settled_but-set_at es i w owing settled = λ k d from within other.
    subst (λ (x : Entry). IsSettled x.1) (sym (elsewhere es i w k d other))
    (settled k d from (subst (λ n. k < n) (length-written_at es i w) within))

pub length-set_at : (es : List Entry) (i : ℕ) (w : Stream)
    → length (set_value_at es i w) ≡ length es
length-set_at es i w = length-written_at es i w

-- the value at a place
pub value-at : (es : List Entry) (i : ℕ) (e : Entry) (v : Stream) → slice_get es i ≡ Some e
    → Some v ≡ slice_get (map (λ x. x.1) es) i → v ≡ e.1
value-at [] i e v at is = cc
value-at (x ∷ es) zero e v at is = first at is
  where
    first : Some x ≡ Some e → Some v ≡ Some x.1 → v ≡ e.1
    first p q = cc
value-at (x ∷ es) (suc i) e v at is = value-at es i e v at is

-- ---- look-ups

pub apart-puts : (es : List Entry) (id : ℕ) (w : Stream) (new : List Entry) → 0 < id
    → PutsEntry es id w new
    → is_some (lookup (nat_eq 0) es) ≡ false → is_some (lookup (nat_eq 0) new) ≡ false
apart-puts es id w new positive puts apart =
    ap is_some (puts 0
    ∙ ap (λ b. cond b (Some w) (lookup (nat_eq 0) es))
    (ne_eqb id 0 (λ e. omega (arith, e, positive))))
    ∙ apart

pub not_0 : (es : List Entry) (id : ℕ) (w : Stream) → is_some (lookup (nat_eq 0) es) ≡ false
    → lookup (nat_eq id) es ≡ Some w → 0 < id
not_0 es zero w apart found = cc
not_0 es (suc id) w apart found = omega arith

pub numbered-puts : (es : List Entry) (id : ℕ) (w : Stream) (new : List Entry)
    → PutsEntry es id w new → is_some (lookup (nat_eq id) es) ≡ true
    → AreNumbered es → AreNumbered new
numbered-puts es id w new puts there numbered k found = by (nat_eq id k) refl
  where
    by : (b : Bool) → nat_eq id k ≡ b → k < 2 ^ 31
    by true e =
        let same : id ≡ k = eqb-true id k e in
        let here : id < 2 ^ 31 = numbered id there in
        omega (arith, same, here)
    by false e =
        numbered k
        (sym (ap is_some (puts k ∙ ap (λ b. cond b (Some w) (lookup (nat_eq k) es)) e)) ∙ found)

-- the stored key is the one that was looked for
pub stored : (test : ℕ → Bool) (es : List Entry) (k : ℕ)
    → lookup_key test es ≡ Some k → test k ≡ true
stored test [] k found = cc
stored test (e ∷ es) k found = by (stored test es k) (test e.0) refl found
  where
    by : (lookup_key test es ≡ Some k → test k ≡ true) → (b : Bool) → test e.0 ≡ b
        → cond b (Some e.0) (lookup_key test es) ≡ Some k → test k ≡ true
    by rest true is at = let same : e.0 ≡ k = cc in subst (λ n. test n ≡ true) same is
    by rest false is at = rest at

-- ---- a state that is put

-- on which no more is owed than before
lighter : (es : List Entry) (id : ℕ) (w : Stream) (k : ℕ) (d : Entry)
    → amount_of w.state ≤ amount_of (state_in (state_of (lookup (nat_eq id) es)))
    → k < length (insert_entry nat_eq es id w)
    → ((k < length es)
    × (amount_of (get_or (insert_entry nat_eq es id w) k d).1.state
    ≤ amount_of (get_or es k d).1.state))
    ⊎ (amount_of (get_or (insert_entry nat_eq es id w) k d).1.state ≡ 0)
lighter [] id w zero d less within = inr (omega (arith, less))
lighter [] id w (suc k) d less within = absurd (omega (arith, within))
lighter (e ∷ es) id w k d less within = by (λ j. lighter es id w j d) (nat_eq id e.0) k less within
  where
    Lighter : List Entry → List Entry → ℕ → Type 0
    Lighter old new k =
        ((k < length old)
        × (amount_of (get_or new k d).1.state ≤ amount_of (get_or old k d).1.state))
        ⊎ (amount_of (get_or new k d).1.state ≡ 0)

    by :
        ((j : ℕ) → amount_of w.state ≤ amount_of (state_in (state_of (lookup (nat_eq id) es)))
        → j < length (insert_entry nat_eq es id w) → Lighter es (insert_entry nat_eq es id w) j)
        → (b : Bool) → (k : ℕ)
        → amount_of w.state
        ≤ amount_of (state_in (state_of (cond b (Some e.1) (lookup (nat_eq id) es))))
        → k < length (cond b ((e.0, w) ∷ es) (e ∷ insert_entry nat_eq es id w))
        → Lighter (e ∷ es) (cond b ((e.0, w) ∷ es) (e ∷ insert_entry nat_eq es id w)) k
    by rest true zero h lt = inl (omega arith, h)
    by rest true (suc k) h lt = inl (lt, omega arith)
    by rest false zero h lt = inl (omega arith, omega arith)
    by rest false (suc k) h lt = elim (rest k h (omega (arith, lt)))
        [ inl p ↦ inl (omega (arith, p.0), p.1) | inr none ↦ inr none ]

longer : (es : List Entry) (id : ℕ) (w : Stream) → length es ≤ length (insert_entry nat_eq es id w)
longer [] id w = omega arith
longer (e ∷ es) id w = by (longer es id w) (nat_eq id e.0)
  where
    by : length es ≤ length (insert_entry nat_eq es id w) → (b : Bool)
        → length (e ∷ es) ≤ length (cond b ((e.0, w) ∷ es) (e ∷ insert_entry nat_eq es id w))
    by rest true = omega arith
    by rest false = omega (arith, rest)

numbered-put : (es : List Entry) (id : ℕ) (w : Stream) (new : List Entry) → PutsEntry es id w new
    → id < 2 ^ 31 → AreNumbered es → AreNumbered new
numbered-put es id w new puts small numbered k found = by (nat_eq id k) refl
  where
    by : (b : Bool) → nat_eq id k ≡ b → k < 2 ^ 31
    by true e = let same : id ≡ k = eqb-true id k e in omega (arith, same, small)
    by false e =
        numbered k
        (sym (ap is_some (puts k ∙ ap (λ b. cond b (Some w) (lookup (nat_eq k) es)) e)) ∙ found)

pub within-put : (connection : ℕ) (es : List Entry) (owing id : ℕ) (w : Stream) (new : List Entry)
    → IsWithin connection es owing → 0 < id → id < 2 ^ 31
    → amount_of w.state ≤ amount_of (state_in (state_of (lookup (nat_eq id) es)))
    → PutsEntry es id w new → new ≡ insert_entry nat_eq es id w → IsWithin connection new owing
within-put connection es owing id w new old positive small less puts is = record {
  connection_fits = old.connection_fits;
  place = let l = longer es id w in omega (arith, ap length is, l, old.place);
  fit = subst AllFit (sym is) fits;
  settled = subst (IsSettledFrom owing) (sym is) settled;
  apart = apart-puts es id w new positive puts old.apart;
  numbered = numbered-put es id w new puts small old.numbered;
}
  where
    fits : AllFit (insert_entry nat_eq es id w)
    fits k d within = elim (lighter es id w k d less within) [
      | inl p ↦ let h = old.fit k d p.0 in omega (arith, h, p.1)
      | inr none ↦ omega (arith, none)
    ]

    settled : IsSettledFrom owing (insert_entry nat_eq es id w)
    settled k d from within = elim (lighter es id w k d less within) [
      | inl p ↦ let h = old.settled k d from p.0 in omega (arith, h, p.1)
      | inr none ↦ none
    ]

-- ---- swaps

pub settled-swap : (es : List Entry) (place owing : ℕ) → owing ≤ place → place < length es
    → IsSettledBut place owing es → (n : ℕ) → n ≡ owing + 1
    → (new : List Entry) → new ≡ swap es place owing → length new ≡ length es → IsSettledFrom n new
settled-swap es place owing from within settled n next new is len k d behind below =
    let owing_within : owing < length es = omega (arith, from, within) in
    let low : owing ≤ exchange place owing k = grind (arith, nat_tests) in
    let high : exchange place owing k < length es = grind (arith, nat_tests) in
    let other : exchange place owing k ≢ place = grind (arith, nat_tests) in
    subst (λ (x : Entry). IsSettled x.1)
    (sym (ap (λ l. get_or l k d) is ∙ get_or-swap es place owing d within owing_within k))
    (settled (exchange place owing k) d low high other)

-- ---- what is taken at a place

written_here : (es : List Entry) (i : ℕ) (w : Stream) (d : Entry) → i < length es
    → (get_or (set_value_at es i w) i d).1 ≡ w
written_here [] i w d within = absurd (omega (arith, within))
written_here (e ∷ es) zero w d within = refl
written_here (e ∷ es) (suc i) w d within = written_here es i w d (omega (arith, within))

pub taken-length : (old : List Entry) (place : ℕ) (taken : Option (ℕ × ℕ)) (new : List Entry)
    → TakesAt old place taken new → length new ≡ length old
taken-length old place None new t = ap length t.0
taken-length old place (Some taken) new t =
    ap length t.5 ∙ length-written_at old place (record t.1 { state = Call 0 t.0 })

at_place : (new : List Entry) (place k : ℕ) (d : Entry)
    → ((e : Entry) → IsSettled (get_or new place e).1) → k ≡ place → IsSettled (get_or new k d).1
at_place new place k d here e = subst (λ n. IsSettled (get_or new n d).1) (sym e) (here d)

pub taken-settled : (old : List Entry) (place n : ℕ) (taken : Option (ℕ × ℕ)) (new : List Entry)
    → TakesAt old place taken new → place < length old → n ≡ place + 1
    → IsSettledFrom n old → IsSettledFrom place new
taken-settled old place n None new t within next settled = λ k d from below.
    by k d from (subst (λ (l : List Entry). k < length l) t.0 below) (nat_eq k place) refl
  where
    by : (k : ℕ) (d : Entry) → place ≤ k → k < length old → (b : Bool) → nat_eq k place ≡ b
        → IsSettled (get_or new k d).1
    by k d from below true e =
        subst (λ (l : List Entry). IsSettled (get_or l k d).1) (sym t.0)
        (at_place old place k d t.1 (eqb-true k place e))
    by k d from below false e =
        subst (λ (l : List Entry). IsSettled (get_or l k d).1) (sym t.0)
        (settled k d (grind (arith, nat_tests)) below)
taken-settled old place n (Some taken) new t within next settled =
    subst (IsSettledFrom place) (sym t.5) (λ k d from below.
    by k d from (subst (λ m. k < m)
    (length-written_at old place (record t.1 { state = Call 0 t.0 })) below)
    (nat_eq k place) refl)
  where
    by : (k : ℕ) (d : Entry) → place ≤ k → k < length old → (b : Bool) → nat_eq k place ≡ b
        → IsSettled (get_or (set_value_at old place (record t.1 { state = Call 0 t.0 })) k d).1
    by k d from below true e =
        at_place (set_value_at old place (record t.1 { state = Call 0 t.0 })) place k d (λ x.
        subst IsSettled (sym (written_here old place (record t.1 { state = Call 0 t.0 }) x within))
        refl) (eqb-true k place e)
    by k d from below false e =
        subst (λ (x : Entry). IsSettled x.1) (sym (elsewhere old place
        (record t.1 { state = Call 0 t.0 }) k d
        (λ same. true≢false (sym (eq-eqb k place same) ∙ e))))
        (settled k d (grind (arith, nat_tests)) below)

pub within-taken : (connection : ℕ) (old : List Entry) (owing place : ℕ) (taken : Option (ℕ × ℕ))
    (new : List Entry)
    → IsWithin connection old owing
    → TakesLast old place taken new → place ≤ length new → IsSettledFrom place new
    → IsWithin connection new place
within-taken connection old owing place None new w t fits settled = record {
  connection_fits = w.connection_fits;
  place = fits;
  fit = subst AllFit (sym t.0) w.fit;
  settled = settled;
  apart = ap (λ (l : List Entry). is_some (lookup (nat_eq 0) l)) t.0 ∙ w.apart;
  numbered = subst AreNumbered (sym t.0) w.numbered;
}
within-taken connection old owing place (Some taken) new w t fits settled = record {
  connection_fits = w.connection_fits;
  place = fits;
  fit =
      subst AllFit (sym t.5)
      (fit-set_at old place (record t.1 { state = Call 0 t.0 }) w.fit (omega arith));
  settled = settled;
  apart =
      apart-puts old taken.0 (record t.1 { state = Call 0 t.0 }) new
      (not_0 old taken.0 (record t.1 { state = Call taken.1 t.0 }) w.apart t.3) t.4 w.apart;
  numbered =
      numbered-puts old taken.0 (record t.1 { state = Call 0 t.0 }) new t.4
      (ap is_some t.3) w.numbered;
}

all_settled : (es : List Entry) → IsSettledFrom 0 es → (id : ℕ)
    → amount_of (state_in (state_of (lookup (nat_eq id) es))) ≡ 0
all_settled es settled id =
    by (lookup (nat_eq id) es)
    (All-lookup IsSettled (nat_eq id) es (λ k d within. settled k d (omega arith) within))
  where
    by : (o : Option Stream) → IfSome o IsSettled → amount_of (state_in (state_of o)) ≡ 0
    by None h = refl
    by (Some stream) h = h

pub fits_there : (es : List Entry) (id : ℕ) (stream : Stream) → AllFit es
    → lookup (nat_eq id) es ≡ Some stream → Fits stream
fits_there es id stream fit found =
    subst (λ (o : Option Stream). IfSome o Fits) found (All-lookup Fits (nat_eq id) es fit)

-- ---- what the entries are of the streams

-- a look-up, where each value is mapped
lookup-mapped : {X Y : Type 0} (f : X → Y) (es : List (ℕ × X)) (id : ℕ)
    → lookup (nat_eq id) (map (λ e. (e.0, f e.1)) es) ≡ option_map f (lookup (nat_eq id) es)
lookup-mapped f [] id = refl
lookup-mapped {X} {Y} f (e ∷ es) id = by (nat_eq id e.0) (lookup-mapped f es id)
  where
    by : (b : Bool)
        → lookup (nat_eq id) (map (λ x. (x.0, f x.1)) es) ≡ option_map f (lookup (nat_eq id) es)
        → cond b (Some (f e.1)) (lookup (nat_eq id) (map (λ x. (x.0, f x.1)) es))
        ≡ option_map f (cond b (Some e.1) (lookup (nat_eq id) es))
    by true rest = refl
    by false rest = rest

pub found-state : (connection : ℕ) (sent : SharedWindow) (es : List Entry) (id : ℕ)
    → lookup (nat_eq id) (states_of connection sent es).streams ≡ state_of (lookup (nat_eq id) es)
found-state connection sent es id = lookup-mapped (λ (stream : Stream). stream.state) es id

pub found-open : (connection : ℕ) (sent : SharedWindow) (es : List Entry) (id : ℕ)
    → open_at (states_of connection sent es) id ≡ opened_of (lookup (nat_eq id) es)
found-open connection sent es id =
    ap opened_in (lookup-mapped (λ (stream : Stream). stream.opened) es id)
    ∙ by (lookup (nat_eq id) es)
  where
    by : (o : Option Stream) → opened_in (option_map (λ stream. stream.opened) o) ≡ opened_of o
    by None = refl
    by (Some stream) = refl

pub state-found : (connection : ℕ) (sent : SharedWindow) (es : List Entry) (id : ℕ)
    → state_on (states_of connection sent es) id ≡ state_in (state_of (lookup (nat_eq id) es))
state-found connection sent es id = ap state_in (found-state connection sent es id)

pub heard-found : (connection : ℕ) (sent : SharedWindow) (es : List Entry) (id : ℕ)
    → is_heard (states_of connection sent es) id ≡ is_some (lookup (nat_eq id) es)
heard-found connection sent es id =
    ap is_some (found-state connection sent es id) ∙ by (lookup (nat_eq id) es)
  where
    by : (o : Option Stream) → is_some (state_of o) ≡ is_some o
    by None = refl
    by (Some stream) = refl

-- functions that agree everywhere
pub everywhere : {X Y : Type 0} (f g : X → Y) → ((x : X) → f x ≡ g x) → f ≡ g
everywhere f g same = λ i x. same x i

pub puts-view : (connection : ℕ) (sent : SharedWindow) (es : List Entry) (id : ℕ) (w : Stream)
    (new : List Entry)
    → PutsEntry es id w new
    → Puts (states_of connection sent es) id w.state (states_of connection sent new)
puts-view connection sent es id w new puts k =
    found-state connection sent new k ∙ ap state_of (puts k) ∙ by (nat_eq id k)
  where
    by : (b : Bool)
        → state_of (if b then Some w else lookup (nat_eq k) es)
        ≡ (if b then Some w.state else lookup (nat_eq k) (states_of connection sent es).streams)
    by true = refl
    by false = sym (found-state connection sent es k)

-- where the same is kept of the open stream
pub open-view : (connection : ℕ) (sent : SharedWindow) (es : List Entry) (id : ℕ) (w : Stream)
    (new : List Entry)
    → PutsEntry es id w new → opened_of (lookup (nat_eq id) es) ≡ w.opened
    → SameOpen (states_of connection sent es) (states_of connection sent new)
open-view connection sent es id w new puts same =
    everywhere (open_at (states_of connection sent new)) (open_at (states_of connection sent es))
    (λ k.
    found-open connection sent new k ∙ ap opened_of (puts k) ∙ by k (nat_eq id k) refl
    ∙ sym (found-open connection sent es k))
  where
    by : (k : ℕ) (b : Bool) → nat_eq id k ≡ b
        → opened_of (if b then Some w else lookup (nat_eq k) es) ≡ opened_of (lookup (nat_eq k) es)
    by k true e = sym same ∙ ap (λ n. opened_of (lookup (nat_eq n) es)) (eqb-true id k e)
    by k false e = refl

-- the connection is owed nothing
pub nothing : (sent : SharedWindow) (es : List Entry) → IsSettledFrom 0 es → (id : ℕ)
    → owed_on (states_of 0 sent es) id ≡ 0
nothing sent es settled id = by (id == 0)
  where
    by : (b : Bool) → (if b then 0 else amount_of (state_on (states_of 0 sent es) id)) ≡ 0
    by true = refl
    by false = ap amount_of (state-found 0 sent es id) ∙ all_settled es settled id

-- ---- another state of one stream

module _ (old new : States) (id : ℕ) (state : StreamState) (positive : 0 < id)
    (connection : new.connection ≡ old.connection) (puts : Puts old id state new) where
  -- a part of it is as said, and that of the others as before
  pub part-put : {X : Type 0} (part : StreamState → X) (k : ℕ)
      → part (state_on new k) ≡ (if k == id then part state else part (state_on old k))
  part-put {X} part k =
      ap (λ (o : Option StreamState). part (state_in o)) (puts k)
      ∙ by (nat_eq id k) (k == id) refl refl
    where
      by : (b c : Bool) → nat_eq id k ≡ b → (k == id) ≡ c
          → part (state_in (if b then Some state else lookup (nat_eq k) old.streams))
          ≡ (if c then part state else part (state_on old k))
      by true true p q = refl
      by false false p q = refl
      by true false p q = absurd (true≢false (sym (eq-eqb k id (sym (eqb-true id k p))) ∙ q))
      by false true p q = absurd (true≢false (sym (eq-eqb id k (sym (eqb-true k id q))) ∙ p))

  -- where it is the same, nothing changes
  pub part-same : {X : Type 0} (part : StreamState → X) → part state ≡ part (state_on old id)
      → (k : ℕ) → part (state_on new k) ≡ part (state_on old k)
  part-same {X} part same k = part-put part k ∙ by (k == id) refl
    where
      by : (b : Bool) → (k == id) ≡ b
          → (if b then part state else part (state_on old k)) ≡ part (state_on old k)
      by true p = same ∙ ap (λ n. part (state_on old n)) (sym (eqb-true k id p))
      by false p = refl

  pub apart : (k : ℕ) → (k == id) ≡ true → (k == 0) ≡ false
  apart k p =
      let same : k ≡ id = eqb-true k id p in
      ne_eqb k 0 (λ z. omega (arith, z, same, positive))

  pub owed-put : (k : ℕ) → owed_on new k ≡ (if k == id then amount_of state else owed_on old k)
  owed-put k =
      ap (λ n. if k == 0 then n else amount_of (state_on new k)) connection
      ∙ ap (λ n. if k == 0 then old.connection else n) (part-put amount_of k)
      ∙ by (k == 0) (k == id) (apart k)
    where
      by : (zero here : Bool) → (here ≡ true → zero ≡ false)
          → (if zero then old.connection
          else (if here then amount_of state else amount_of (state_on old k)))
          ≡ (if here then amount_of state
          else (if zero then old.connection else amount_of (state_on old k)))
      by true true h = absurd (true≢false (h refl))
      by true false h = refl
      by false true h = refl
      by false false h = refl

  pub pays-put : (k : ℕ) → pays new k ≡ (if k == id then is_paid state else pays old k)
  pays-put k =
      ap (λ b. if k == 0 then true else b) (part-put is_paid k) ∙ by (k == 0) (k == id) (apart k)
    where
      by : (zero here : Bool) → (here ≡ true → zero ≡ false)
          → (if zero then true else (if here then is_paid state else is_paid (state_on old k)))
          ≡ (if here then is_paid state else (if zero then true else is_paid (state_on old k)))
      by true true h = absurd (true≢false (h refl))
      by true false h = refl
      by false true h = refl
      by false false h = refl

  pub pays-same : is_paid state ≡ is_paid (state_on old id) → (k : ℕ) → pays new k ≡ pays old k
  pays-same same k = ap (λ b. if k == 0 then true else b) (part-same is_paid same k)

  pub owed-same : amount_of state ≡ amount_of (state_on old id) → (k : ℕ)
      → owed_on new k ≡ owed_on old k
  owed-same same k =
      ap (λ n. if k == 0 then n else amount_of (state_on new k)) connection
      ∙ ap (λ n. if k == 0 then old.connection else n) (part-same amount_of same k)

  -- a call begins
  pub opens-put : IsAfter change_by.Open (state_on old id) state → Opens old id new
  opens-put (end, amount, call, paid, reset) k = (
    owed-same amount k,
    part-put is_of_call k ∙ ap (λ b. if k == id then b else knows old k) call,
    pays-put k ∙ ap (λ b. if k == id then b else pays old k) paid,
    part-same is_reset_state reset k,
  )

  -- a stream is reset
  pub resets-put : IsAfter change_by.Reset (state_on old id) state → Resets old id new
  resets-put (end, amount, call, paid, reset) k = (
    part-same is_of_call call k,
    owed-put k ∙ ap (λ n. if k == id then n else owed_on old k) amount,
    pays-put k ∙ ap (λ b. if k == id then b else pays old k) paid,
    part-put is_reset_state k ∙ ap (λ b. if k == id then b else is_reset old k) reset,
  )

  pub hears-put : Hears old id new
  hears-put k = ap is_some (puts k) ∙ by (nat_eq id k) (k == id) refl refl
    where
      by : (b c : Bool) → nat_eq id k ≡ b → (k == id) ≡ c
          → is_some (if b then Some state else lookup (nat_eq k) old.streams)
          ≡ (c || is_heard old k)
      by true true p q = refl
      by false false p q = refl
      by true false p q = absurd (true≢false (sym (eq-eqb k id (sym (eqb-true id k p))) ∙ q))
      by false true p q = absurd (true≢false (sym (eq-eqb id k (sym (eqb-true k id q))) ∙ p))

  pub over-same : end_of state ≡ end_of (state_on old id) → SameOver old new
  over-same same =
      part-same (λ s. option_map by_reset (end_of s))
      (ap (λ (o : Option Over). option_map by_reset o) same)

  -- its end is written
  pub ends-put : (by : Over) → end_of state ≡ Some by → SetsEnd old id (by_reset by) new
  ends-put by same = (
    λ k.
        part-put (λ s. option_map by_reset (end_of s)) k
        ∙ ap (λ (o : Option Over). if k == id then option_map by_reset o else over_on old k) same,
    hears-put,
  )

  pub owed-put-same : amount_of state ≡ amount_of (state_on old id)
      → is_of_call state ≡ is_of_call (state_on old id) → is_paid state ≡ is_paid (state_on old id)
      → is_reset_state state ≡ is_reset_state (state_on old id) → SameOwed old new
  owed-put-same amount call paid reset = (
    λ k. (part-same is_of_call call k, pays-same paid k, part-same is_reset_state reset k),
    owed-same amount,
  )
