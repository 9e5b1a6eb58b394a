-- What a stream that changes leaves of how the streams stand.
use Rattle.std.proofs.Common.{
  ◌≡◌,
  ◌≢◌,
  ℕ,
  ℤ,
  pos,
  ◌+◌,
  ◌<◌,
  ◌≤◌,
  ◌^◌,
  ◌⊎◌,
  inl,
  inr,
  Bool,
  true,
  false,
  cond,
  sym,
  ap,
  subst,
  ◌∙◌,
  refl,
  true≢false,
  List,
  [],
  ◌∷◌,
  ◌++◌,
  Option,
  Some,
  None,
  arith,
  nat_eq,
  is_some,
}
use Rattle.std.specs.Map.{lookup, set_value}
use Rattle.std.specs.Option.{option_map}
use Rattle.std.specs.Prelude.{◌&&◌, map, if◌then◌else◌, ◌==◌, not, Result, Ok, Err, OnOk, OnErr}
use Rattle.std.proofs.lemmas.Bool.{eqb-true, eq-eqb}
use Rattle.indexmap.specs.IndexMap.{insert_entry}
use Rattle.outwriter.specs.declared.stream_state.Change.{Change}
use Rattle.outwriter.specs.declared.stream_state.Change.TheVariants as change_by
use Rattle.outwriter.specs.declared.stream_state.StreamState.{StreamState}
use Rattle.outwriter.specs.declared.stream_state.StreamState.TheVariants.{Reset}
use Rattle.outwriter.specs.declared.states.Stream.{Stream}
use Rattle.outwriter.specs.declared.stream.OpenStream.{OpenStream}
use Rattle.sendwindows.specs.WindowHistory.{Follows, Opening}
use Rattle.sendwindows.specs.WindowHistory.{Step as WindowStep}
use Rattle.sendwindows.specs.Windows.{SharedWindow, Windows}
use Rattle.outwriter.specs.OpenStreams.{Closes, Shown, kept, shown, shows}
use Rattle.outwriter.specs.States.{
  States,
  BecomesOpen,
  Changes,
  Edits,
  IsAfter,
  IsChanged,
  Moves,
  PutsAfter,
  SameButWindows,
  StandButWindows,
  SameOpen,
  StandAs,
  KeepsAmount,
  can_write,
  IsWithin,
  PutsEntry,
  amount_of,
  open_at,
  opened_of,
  state_of,
  states_of,
  steps_of,
  stream_in,
  balance_after,
  balance_in,
  balances_of,
  opens_window,
  windows_of,
  by_reset,
  end_of,
  is_of_call,
  is_heard,
  knows,
  over_on,
  state_in,
  state_on,
}
use Rattle.outwriter.proofs.BalanceLemmas.{
  found-balance,
  put-closes,
  put-opens,
  put-stays,
  same-balances,
}
use Rattle.outwriter.proofs.StateLemmas.{
  Entry,
  not_0,
  within-put,
  found-state,
  found-open,
  state-found,
  everywhere,
  puts-view,
  apart,
}

-- ---- streams that were heard of

pub knows-heard : (states : States) (id : ℕ) → knows states id ≡ true → is_heard states id ≡ true
knows-heard states id e = by (lookup (nat_eq id) states.streams) e
  where
    by : (o : Option StreamState) → is_of_call (state_in o) ≡ true → is_some o ≡ true
    by None f = absurd (true≢false (sym f))
    by (Some state) f = refl

pub unheard-knows : (states : States) (id : ℕ) → is_heard states id ≡ false
    → knows states id ≡ false
unheard-knows states id e = by (lookup (nat_eq id) states.streams) e
  where
    by : (o : Option StreamState) → is_some o ≡ false → is_of_call (state_in o) ≡ false
    by None f = refl
    by (Some state) f = absurd (true≢false f)

pub unheard-over : (states : States) (id : ℕ) → is_heard states id ≡ false
    → over_on states id ≡ None
unheard-over states id e = by (lookup (nat_eq id) states.streams) e
  where
    by : (o : Option StreamState) → is_some o ≡ false
        → option_map by_reset (end_of (state_in o)) ≡ None
    by None f = refl
    by (Some state) f = absurd (true≢false f)

-- what holds of a value holds where there is one
pub on-ok : {X E : Type 0} (r : Result X E) (P Q : Type 0) → (P → Q) → OnOk r P → OnOk r Q
on-ok (Ok x) P Q f h = f h
on-ok (Err e) P Q f h = tt

-- ---- a stream that changes

-- no more is owed on it
after-less : (change : Change) (old new : StreamState) → IsAfter change old new
    → amount_of new ≤ amount_of old
after-less change_by.Open old new after = omega (arith, after.1)
after-less change_by.Hear old new after = omega (arith, after.1)
after-less change_by.Reset old new after = omega (arith, after.1)
after-less (change_by.End over) old new after = omega (arith, after.1)

pub put-becomes : (connection : ℕ) (sent : SharedWindow) (es : List Entry) (id : ℕ) (now : Stream)
    (opened : Option OpenStream) (new : List Entry)
    → now.opened ≡ (stream_in opened (lookup (nat_eq id) es)).opened → PutsEntry es id now new
    → BecomesOpen (states_of connection sent es) id opened (states_of connection sent new)
put-becomes connection sent es id now opened new is puts k =
    found-open connection sent new k ∙ ap opened_of (puts k)
    ∙ by (lookup (nat_eq id) es) refl is (nat_eq id k) (k == id) refl refl
    ∙ ap (λ b. if not b && (k == id) then opened else open_at (states_of connection sent es) k)
    (ap is_some (sym (found-state connection sent es id)))
  where
    By : Option Stream → Bool → Bool → Type 0
    By o b c = opened_of (if b then Some now else lookup (nat_eq k) es)
        ≡ (if not (is_some (state_of o)) && c then opened
        else open_at (states_of connection sent es) k)

    here : nat_eq id k ≡ true → (o : Option Stream) → lookup (nat_eq id) es ≡ o
        → opened_of o ≡ open_at (states_of connection sent es) k
    here e o found =
        ap opened_of (sym found) ∙ ap (λ n. opened_of (lookup (nat_eq n) es)) (eqb-true id k e)
        ∙ sym (found-open connection sent es k)

    by : (o : Option Stream) → lookup (nat_eq id) es ≡ o → now.opened ≡ (stream_in opened o).opened
        → (b c : Bool) → nat_eq id k ≡ b → (k == id) ≡ c → By o b c
    by None found e true true p q = e
    by (Some stream) found e true true p q = e ∙ here p (Some stream) found
    by None found e false false p q = sym (found-open connection sent es k)
    by (Some stream) found e false false p q = sym (found-open connection sent es k)
    by o found e true false p q =
        absurd (true≢false (sym (eq-eqb k id (sym (eqb-true id k p))) ∙ q))
    by o found e false true p q =
        absurd (true≢false (sym (eq-eqb id k (sym (eqb-true k id q))) ∙ p))

-- no stream becomes open by it
pub becomes-none : (old new : States) (id : ℕ) → BecomesOpen old id None new
    → (is_heard old id ≡ false → open_at old id ≡ None) → SameOpen old new
becomes-none old new id becomes shut =
    everywhere (open_at new) (open_at old)
    (λ k. becomes k ∙ by k (is_heard old id) (k == id) refl refl)
  where
    by : (k : ℕ) (a b : Bool) → is_heard old id ≡ a → (k == id) ≡ b
        → (if not a && b then None else open_at old k) ≡ open_at old k
    by k true b p q = refl
    by k false true p q = sym (ap (λ n. open_at old n) (eqb-true k id q) ∙ shut p)
    by k false false p q = refl

pub unheard-shut : (connection : ℕ) (sent : SharedWindow) (es : List Entry) (id : ℕ)
    → is_heard (states_of connection sent es) id ≡ false
    → open_at (states_of connection sent es) id ≡ None
unheard-shut connection sent es id e =
    found-open connection sent es id
    ∙ by (lookup (nat_eq id) es) (ap is_some (sym (found-state connection sent es id)) ∙ e)
  where
    by : (o : Option Stream) → is_some (state_of o) ≡ false → opened_of o ≡ None
    by None f = refl
    by (Some stream) f = absurd (true≢false f)

module _ (connection : ℕ) (sent : SharedWindow) (es : List Entry) (id : ℕ) (change : Change)
    (opened : Option OpenStream) (new : List Entry)
    (changes : Changes es id change opened new) where
  abbrev former : Stream
  former = stream_in opened (lookup (nat_eq id) es)

  state-was : former.state ≡ state_on (states_of connection sent es) id
  state-was = by (lookup (nat_eq id) es) ∙ sym (state-found connection sent es id)
    where
      by : (o : Option Stream) → (stream_in opened o).state ≡ state_in (state_of o)
      by None = refl
      by (Some stream) = refl

  balance-was : former.balance ≡ balance_in (lookup (nat_eq id) es)
  balance-was = by (lookup (nat_eq id) es)
    where
      by : (o : Option Stream) → (stream_in opened o).balance ≡ balance_in o
      by None = refl
      by (Some stream) = refl

  after-was : IsAfter change (state_on (states_of connection sent es) id) changes.0.state
  after-was = subst (λ (x : StreamState). IsAfter change x changes.0.state) state-was changes.1.1

  pub change-puts :
      PutsAfter change (states_of connection sent es) id (states_of connection sent new)
  change-puts =
      (changes.0.state, after-was, puts-view connection sent es id changes.0 new changes.2)

  pub change-becomes :
      BecomesOpen (states_of connection sent es) id opened (states_of connection sent new)
  change-becomes = put-becomes connection sent es id changes.0 opened new changes.1.0 changes.2

  pub change-same : opened ≡ None
      → SameOpen (states_of connection sent es) (states_of connection sent new)
  change-same none =
      becomes-none (states_of connection sent es) (states_of connection sent new) id
      (subst (λ (o : Option OpenStream).
      BecomesOpen (states_of connection sent es) id o (states_of connection sent new))
      none change-becomes)
      (unheard-shut connection sent es id)

  pub change-within : (owing : ℕ) → IsWithin connection es owing → 0 < id → id < 2 ^ 31
      → IsWithin connection new owing
  change-within owing w positive small =
      within-put connection es owing id changes.0 new w positive small
      (subst (λ n. amount_of changes.0.state ≤ n) (ap amount_of (state-found connection sent es id))
      (after-less change (state_on (states_of connection sent es) id) changes.0.state after-was))
      changes.2 changes.3

  pub change-moves :
      Moves (states_of connection sent es) (steps_of change (states_of connection sent es) id)
      (states_of connection sent new)
  change-moves = by change changes.1.2
    where
      opens : (can_write former.state && not (is_some former.balance))
          ≡ opens_window (states_of connection sent es) id
      opens = ap (λ (x : StreamState). can_write x && not (is_some former.balance)) state-was
          ∙ ap (λ b. can_write (state_on (states_of connection sent es) id) && not (is_some b))
          (balance-was ∙ sym (found-balance sent es id))

      open-by : (b : Bool) → changes.0.balance ≡ (if b then Some (pos 0) else former.balance)
          → (h : List WindowStep) → Follows h (windows_of sent es)
          → Follows ((if b then Opening id ∷ [] else []) ++ h) (windows_of sent new)
      open-by true is = put-opens sent es id changes.0 new changes.2 is
      open-by false is = put-stays sent es id changes.0 new changes.2 (is ∙ balance-was)

      by : (c : Change) → changes.0.balance ≡ balance_after c former.state former.balance
          → (h : List WindowStep) → Follows h (windows_of sent es)
          → Follows (steps_of c (states_of connection sent es) id ++ h) (windows_of sent new)
      by change_by.Open is =
          open-by (opens_window (states_of connection sent es) id)
          (is ∙ ap (λ b. if b then Some (pos 0) else former.balance) opens)
      by change_by.Hear is = put-stays sent es id changes.0 new changes.2 (is ∙ balance-was)
      by change_by.Reset is = put-closes sent es id changes.0 new changes.2 is
      by (change_by.End over) is = put-closes sent es id changes.0 new changes.2 is

pub changed-within : {X E : Type 0} (connection : ℕ) (sent : SharedWindow) (es : List Entry)
    (owing id : ℕ) (change : Change) (opened : Option OpenStream) (r : Result X E)
    (new : List Entry)
    → IsWithin connection es owing → 0 < id → id < 2 ^ 31 → OnOk r (Changes es id change opened new)
    → OnErr r (new ≡ es) → IsWithin connection new owing
changed-within connection sent es owing id change opened (Ok x) new w positive small changes same =
    change-within connection sent es id change opened new changes owing w positive small
changed-within connection sent es owing id change opened (Err e) new w positive small changes same =
    subst (λ (l : List Entry). IsWithin connection l owing) (sym same) w

-- ---- what is kept of an open stream changes

-- a value that is written, where it is found
put-found : (es : List Entry) (id : ℕ) (w : Stream) (was : Stream)
    → lookup (nat_eq id) es ≡ Some was → set_value (nat_eq id) es w ≡ insert_entry nat_eq es id w
put-found [] id w was found = cc
put-found (e ∷ es) id w was found = by (put-found es id w was) (nat_eq id e.0) found
  where
    by :
        (lookup (nat_eq id) es ≡ Some was
        → set_value (nat_eq id) es w ≡ insert_entry nat_eq es id w)
        → (b : Bool) → cond b (Some e.1) (lookup (nat_eq id) es) ≡ Some was
        → cond b ((e.0, w) ∷ es) (e ∷ set_value (nat_eq id) es w)
        ≡ cond b ((e.0, w) ∷ es) (e ∷ insert_entry nat_eq es id w)
    by rest true at = refl
    by rest false at = ap (λ (l : List Entry). e ∷ l) (rest at)

pub put-there : (es : List Entry) (id : ℕ) (w : Stream) (was : Stream)
    → lookup (nat_eq id) es ≡ Some was → PutsEntry es id w (set_value (nat_eq id) es w)
put-there [] id w was found k = cc
put-there (e ∷ es) id w was found k =
    by (λ h. put-there es id w was h k) (nat_eq id e.0) (nat_eq k e.0) (nat_eq id k)
    refl refl refl found
  where
    by :
        (lookup (nat_eq id) es ≡ Some was
        → lookup (nat_eq k) (set_value (nat_eq id) es w)
        ≡ (if nat_eq id k then Some w else lookup (nat_eq k) es))
        → (a b c : Bool) → nat_eq id e.0 ≡ a → nat_eq k e.0 ≡ b → nat_eq id k ≡ c
        → cond a (Some e.1) (lookup (nat_eq id) es) ≡ Some was
        → lookup (nat_eq k) (cond a ((e.0, w) ∷ es) (e ∷ set_value (nat_eq id) es w))
        ≡ (if c then Some w else cond b (Some e.1) (lookup (nat_eq k) es))
    by rest true true true p q r at = ap (λ x. cond x (Some w) (lookup (nat_eq k) es)) q
    by rest true false false p q r at = ap (λ x. cond x (Some w) (lookup (nat_eq k) es)) q
    by rest true true false p q r at =
        absurd (true≢false (sym (eq-eqb id k (eqb-true id e.0 p ∙ sym (eqb-true k e.0 q))) ∙ r))
    by rest true false true p q r at =
        absurd (true≢false (sym (eq-eqb k e.0 (sym (eqb-true id k r) ∙ eqb-true id e.0 p)) ∙ q))
    by rest false true true p q r at =
        absurd (true≢false (sym (eq-eqb id e.0 (eqb-true id k r ∙ eqb-true k e.0 q)) ∙ p))
    by rest false true false p q r at =
        ap (λ x. cond x (Some e.1) (lookup (nat_eq k) (set_value (nat_eq id) es w))) q
    by rest false false c p q r at =
        ap (λ x. cond x (Some e.1) (lookup (nat_eq k) (set_value (nat_eq id) es w))) q ∙ rest at
        ∙ ap (λ x. if x then Some w else lookup (nat_eq k) es) r

-- a stream that is there changes
pub changed-there : (es : List Entry) (id : ℕ) (change : Change) (opened : Option OpenStream)
    (was now : Stream) (new : List Entry)
    → lookup (nat_eq id) es ≡ Some was
    → new ≡ set_value (nat_eq id) es now → IsChanged change was now
    → Changes es id change opened new
changed-there es id change opened was now new found is changed = (
  now,
  subst (λ (o : Option Stream). IsChanged change (stream_in opened o) now) (sym found) changed,
  subst (PutsEntry es id now) (sym is) (put-there es id now was found),
  is ∙ put-found es id now was found,
)

abbrev with_part : {Y : Type 0} → (Stream → Y) → Entry → ℕ × Y
with_part f e = (e.0, f e.1)

-- what is the same of a stream that is written is the same of all
same-mapped : {Y : Type 0} (f : Stream → Y) (es : List Entry) (id : ℕ) (w was : Stream)
    → lookup (nat_eq id) es ≡ Some was → f w ≡ f was
    → map (with_part f) (set_value (nat_eq id) es w) ≡ map (with_part f) es
same-mapped f [] id w was found same = refl
same-mapped {Y} f (e ∷ es) id w was found same =
    by (λ h. same-mapped f es id w was h same) (nat_eq id e.0) found
  where
    some-is : (a b : Stream) → Some a ≡ Some b → a ≡ b
    some-is a b q = cc

    by :
        (lookup (nat_eq id) es ≡ Some was
        → map (with_part f) (set_value (nat_eq id) es w) ≡ map (with_part f) es)
        → (b : Bool) → cond b (Some e.1) (lookup (nat_eq id) es) ≡ Some was
        → map (with_part f) (cond b ((e.0, w) ∷ es) (e ∷ set_value (nat_eq id) es w))
        ≡ (e.0, f e.1) ∷ map (with_part f) es
    by rest true at =
        ap (λ (y : Y). (e.0, y) ∷ map (with_part f) es) (same ∙ ap f (sym (some-is e.1 was at)))
    by rest false at = ap (λ (l : List (ℕ × Y)). (e.0, f e.1) ∷ l) (rest at)

same-states : (es : List Entry) (id : ℕ) (w was : Stream) → lookup (nat_eq id) es ≡ Some was
    → w.state ≡ was.state
    → map (with_part (λ (x : Stream). x.state)) (set_value (nat_eq id) es w)
    ≡ map (with_part (λ (x : Stream). x.state)) es
same-states es id w was found same = same-mapped (λ (x : Stream). x.state) es id w was found same

-- what is kept of an open stream and of its window changes at most
abbrev pub Rewrites : List Entry → ℕ → List Entry → Type 0
Rewrites old id new =
    (new ≡ old)
    ⊎ ((was : Stream) × (now : Stream) × (lookup (nat_eq id) old ≡ Some was)
    × (now.state ≡ was.state) × (new ≡ set_value (nat_eq id) old now))

-- but for what is open and the windows, all is the same
pub rewrite-stands : (connection : ℕ) (from to : SharedWindow) (es : List Entry) (id : ℕ)
    (new : List Entry)
    → Rewrites es id new
    → StandButWindows (states_of connection from es) (states_of connection to new)
rewrite-stands connection from to es id new (inl e) =
    subst (λ (l : List Entry).
    StandButWindows (states_of connection from es) (states_of connection to l)) (sym e) refl
rewrite-stands connection from to es id new (inr (was, now, found, same, is)) =
    subst (λ (l : List Entry).
    StandButWindows (states_of connection from es) (states_of connection to l)) (sym is)
    (ap (λ (l : List (ℕ × StreamState)).
    let after : States = states_of connection to (set_value (nat_eq id) es now) in
    record after { streams = l }) (same-states es id now was found same))

rewritten : (es : List Entry) (id : ℕ) (new : List Entry) → Edits es id new → Rewrites es id new
rewritten es id new (inl e) = inl e
rewritten es id new (inr (was, opened, found, is)) =
    inr (was, record was { opened = opened }, found, refl, is)

pub edit-stands : (connection : ℕ) (sent : SharedWindow) (es : List Entry) (id : ℕ)
    (new : List Entry)
    → Edits es id new → StandAs (states_of connection sent es) (states_of connection sent new)
edit-stands connection sent es id new edits =
    rewrite-stands connection sent sent es id new (rewritten es id new edits)
    ∙ ap (λ (l : List (ℕ × ℤ)).
    let old : States = states_of connection sent es in
    let w : Windows = record {
      connection = sent.connection;
      initial = sent.initial;
      balances = l;
    } in
    record old { opened = (states_of connection sent new).opened; windows = w }) (same edits)
  where
    same : Edits es id new → balances_of new ≡ balances_of es
    same (inl e) = ap balances_of e
    same (inr (was, opened, found, is)) =
        ap balances_of is ∙ same-balances es id (record was { opened = opened }) was found refl

-- but for the windows, all is the same where no more than the balance of a stream is written
pub balance-stands : (connection : ℕ) (from to : SharedWindow) (es : List Entry)
    (id : ℕ) (was : Stream)
    (kept : Option ℤ) (new : List Entry)
    → lookup (nat_eq id) es ≡ Some was
    → new ≡ set_value (nat_eq id) es (record was { balance = kept })
    → SameButWindows (states_of connection from es) (states_of connection to new)
balance-stands connection from to es id was kept new found is =
    rewrite-stands connection from to es id new
    (inr (was, record was { balance = kept }, found, refl, is))
    ∙ ap (λ (l : List (ℕ × Option OpenStream)).
    let old : States = states_of connection from es in
    record old { opened = l; windows = windows_of to new })
    (ap (map (with_part (λ (x : Stream). x.opened))) is
    ∙ same-mapped (λ (x : Stream). x.opened) es id (record was { balance = kept }) was found refl)

pub keeps-within : (connection : ℕ) (es : List Entry) (owing id : ℕ) (new : List Entry)
    → KeepsAmount es id new → IsWithin connection es owing → IsWithin connection new owing
keeps-within connection es owing id new (inl e) w =
    subst (λ (l : List Entry). IsWithin connection l owing) (sym e) w
keeps-within connection es owing id new (inr (was, now, found, same, is)) w =
    within-put connection es owing id now new w (not_0 es id was w.apart found)
    (w.numbered id (ap is_some found))
    (subst (λ (o : Option Stream). amount_of now.state ≤ amount_of (state_in (state_of o)))
    (sym found) (omega (arith, same)))
    (subst (PutsEntry es id now) (sym is) (put-there es id now was found))
    (is ∙ put-found es id now was found)

pub rewrite-within : (connection : ℕ) (es : List Entry) (owing id : ℕ) (new : List Entry)
    → Rewrites es id new → IsWithin connection es owing → IsWithin connection new owing
rewrite-within connection es owing id new (inl e) w =
    keeps-within connection es owing id new (inl e) w
rewrite-within connection es owing id new (inr (was, now, found, same, is)) w =
    keeps-within connection es owing id new (inr (was, now, found, ap amount_of same, is)) w

pub balance-within : (connection : ℕ) (es : List Entry) (owing id : ℕ) (was : Stream)
    (kept : Option ℤ) (new : List Entry)
    → lookup (nat_eq id) es ≡ Some was
    → new ≡ set_value (nat_eq id) es (record was { balance = kept }) → IsWithin connection es owing
    → IsWithin connection new owing
balance-within connection es owing id was kept new found is w =
    rewrite-within connection es owing id new
    (inr (was, record was { balance = kept }, found, refl, is)) w

pub edit-within : (connection : ℕ) (es : List Entry) (owing id : ℕ) (new : List Entry)
    → Edits es id new → IsWithin connection es owing → IsWithin connection new owing
edit-within connection es owing id new edits w =
    rewrite-within connection es owing id new (rewritten es id new edits) w

-- of the other streams nothing does
edit-elsewhere : (connection : ℕ) (sent : SharedWindow) (es : List Entry) (id : ℕ)
    (new : List Entry)
    → Rewrites es id new → (k : ℕ) → (k == id) ≡ false
    → open_at (states_of connection sent new) k ≡ open_at (states_of connection sent es) k
edit-elsewhere connection sent es id new (inl e) k apart =
    ap (λ (l : List Entry). open_at (states_of connection sent l) k) e
edit-elsewhere connection sent es id new (inr (was, now, found, same, is)) k apart =
    found-open connection sent new k ∙ ap (λ (l : List Entry). opened_of (lookup (nat_eq k) l)) is
    ∙ ap opened_of (put-there es id now was found k)
    ∙ by (nat_eq id k) refl ∙ sym (found-open connection sent es k)
  where
    by : (b : Bool) → nat_eq id k ≡ b
        → opened_of (if b then Some now else lookup (nat_eq k) es)
        ≡ opened_of (lookup (nat_eq k) es)
    by true e = absurd (true≢false (sym (eq-eqb k id (sym (eqb-true id k e))) ∙ apart))
    by false e = refl

-- what is shown of it is as said, and of the others as before
pub rewrite-shows : (connection : ℕ) (sent : SharedWindow) (es : List Entry) (id : ℕ)
    (new : List Entry)
    (f : Shown → Shown)
    → Rewrites es id new
    → shown (opened_of (lookup (nat_eq id) new)) ≡ f (shown (opened_of (lookup (nat_eq id) es)))
    → (k : ℕ)
    → shows (open_at (states_of connection sent new)) k
    ≡ (if k == id then f (shows (open_at (states_of connection sent es)) k)
    else shows (open_at (states_of connection sent es)) k)
rewrite-shows connection sent es id new f edits here k = by (k == id) refl
  where
    by : (b : Bool) → (k == id) ≡ b
        → shows (open_at (states_of connection sent new)) k
        ≡ (if b then f (shows (open_at (states_of connection sent es)) k)
        else shows (open_at (states_of connection sent es)) k)
    by false p = ap shown (edit-elsewhere connection sent es id new edits k p)
    by true p =
        let same : k ≡ id = eqb-true k id p in
        ap shown (found-open connection sent new k)
        ∙ ap (λ n. shown (opened_of (lookup (nat_eq n) new))) same ∙ here
        ∙ ap (λ n. f (shown (opened_of (lookup (nat_eq n) es)))) (sym same)
        ∙ ap (λ o. f (shown o)) (sym (found-open connection sent es k))

pub edit-shows : (connection : ℕ) (sent : SharedWindow) (es : List Entry) (id : ℕ)
    (new : List Entry)
    (f : Shown → Shown)
    → Edits es id new
    → shown (opened_of (lookup (nat_eq id) new)) ≡ f (shown (opened_of (lookup (nat_eq id) es)))
    → (k : ℕ)
    → shows (open_at (states_of connection sent new)) k
    ≡ (if k == id then f (shows (open_at (states_of connection sent es)) k)
    else shows (open_at (states_of connection sent es)) k)
edit-shows connection sent es id new f edits here =
    rewrite-shows connection sent es id new f (rewritten es id new edits) here

pub edit-closes : (connection : ℕ) (sent : SharedWindow) (es : List Entry) (id : ℕ)
    (new : List Entry)
    → Edits es id new → opened_of (lookup (nat_eq id) new) ≡ None
    → Closes id (open_at (states_of connection sent es)) (open_at (states_of connection sent new))
edit-closes connection sent es id new edits none k = by (k == id) refl
  where
    by : (b : Bool) → (k == id) ≡ b
        → open_at (states_of connection sent new) k
        ≡ (if b then None else open_at (states_of connection sent es) k)
    by false p = edit-elsewhere connection sent es id new (rewritten es id new edits) k p
    by true p =
        found-open connection sent new k
        ∙ ap (λ n. opened_of (lookup (nat_eq n) new)) (eqb-true k id p) ∙ none
