-- What taking, owing and handing out leave of how the streams stand.
use Rattle.std.proofs.Common.{
  ◌≡◌,
  ◌≢◌,
  ℕ,
  ℤ,
  ◌<◌,
  ◌^◌,
  ◌⊎◌,
  inl,
  inr,
  Bool,
  true,
  false,
  sym,
  ap,
  subst,
  ◌∙◌,
  refl,
  true≢false,
  List,
  [],
  ◌∷◌,
  Option,
  Some,
  None,
  arith,
  nat_eq,
  is_some,
}
use Rattle.std.specs.Map.{lookup, set_value}
use Rattle.std.specs.Option.{option_map}
use Rattle.std.specs.Prelude.{
  ◌||◌,
  if◌then◌else◌,
  ◌==◌,
  IfSome,
  IfOk,
  MatchOption,
  Result,
  Ok,
  Err,
  OnErr,
}
use Rattle.std.proofs.lemmas.Map.Steps.{set_value_same}
use Rattle.std.proofs.lemmas.Bool.{eqb-true, ne_eqb, eq-eqb}
use Rattle.outwriter.specs.declared.stream_state.Change.TheVariants as change_by
use Rattle.outwriter.specs.declared.stream_state.StreamState.{StreamState}
use Rattle.outwriter.specs.declared.stream_state.StreamState.TheVariants.{NoCall, Call, Reset}
use Rattle.outwriter.specs.declared.states.Stream.{Stream}
use Rattle.sendwindows.specs.WindowHistory.{Closing, Follows}
use Rattle.sendwindows.specs.WindowHistory.{Step as WindowStep}
use Rattle.sendwindows.specs.Windows.{SharedWindow}
use Rattle.sendwindows.specs.declared.send_windows.WindowFault.{WindowFault}
use Rattle.sendwindows.specs.declared.send_windows.WindowFault.TheVariants.{Unknown}
use Rattle.account.specs.declared.call.OutItem.{OutItem}
use Rattle.callbox.specs.declared.sender.Sender.{Sender}
use Rattle.hpack_codec.specs.Codec.{Encoding}
use Rattle.outwriter.specs.declared.stream.NextItem.{NextItem}
use Rattle.outwriter.specs.declared.stream.NextItem.TheVariants.{Nothing, Message, Block}
use Rattle.outwriter.specs.declared.stream.SenderItem.{SenderItem}
use Rattle.outwriter.specs.declared.stream.SenderItem.TheVariants as polled
use Rattle.outwriter.specs.declared.stream_state.Over.TheVariants as end_by
use Rattle.outwriter.specs.NextOn.{
  Asks,
  AsksNone,
  EndsOn,
  EndsStream,
  NextAtEntry,
  NextOnStream,
  TakesNext,
  TakesUp,
  TakesUpStream,
}
use Rattle.outwriter.specs.declared.stream.NextData.{NextData}
use Rattle.outwriter.specs.Data.{BeginsMessage, BeginsOnStream, TakesFrames}
use Rattle.outwriter.specs.OpenStreams.{Closes, SameHands, Shown, kept, shown, shows, with_hand}
use Rattle.outwriter.specs.States.{
  States,
  Adds,
  CreditsEntry,
  CreditsStream,
  Edits,
  Grants,
  Hears,
  IsAfter,
  Moves,
  SameButWindows,
  SameEnds,
  SetsBalance,
  SameOpen,
  SameStreams,
  SetsEnd,
  IsShut,
  can_write,
  IsSettledFrom,
  IsWithin,
  AreNumbered,
  Puts,
  PutsEntry,
  TakesLast,
  TakesAll,
  amount_of,
  more,
  open_at,
  opened_of,
  state_of,
  states_of,
  balance_in,
  windows_of,
  by_reset,
  end_of,
  is_of_call,
  is_paid,
  is_heard,
  is_reset_state,
  owed_on,
  pays,
  state_in,
  state_on,
}
use Rattle.outwriter.proofs.BalanceLemmas.{
  Credited,
  credit-none,
  credit-some,
  data-view,
  found-stays,
  none-closes,
  put-closes,
  put-stays,
}
use Rattle.outwriter.proofs.StateLemmas.{
  Entry,
  not_0,
  fits_there,
  found-state,
  found-open,
  state-found,
  puts-view,
  open-view,
  nothing,
  part-same,
  apart,
  owed-put,
  pays-same,
  hears-put,
  ends-put,
  owed-put-same,
}
use Rattle.outwriter.proofs.StateChanges.{
  put-there,
  Rewrites,
  rewrite-stands,
  balance-stands,
  balance-within,
  rewrite-shows,
  edit-shows,
}

-- ---- the balance of a window is written

module _ (connection : ℕ) (sent : SharedWindow) (es : List Entry) (owing id : ℕ) (new : List Entry)
    (sets : SetsBalance es id None new) where
  abbrev Unset : Option Stream → Type 0
  Unset o =
      MatchOption o (new ≡ es)
      (λ was. new ≡ set_value (nat_eq id) es (record was { balance = None }))

  pub closed-stands : SameButWindows (states_of connection sent es) (states_of connection sent new)
  closed-stands = by (lookup (nat_eq id) es) refl sets
    where
      by : (o : Option Stream) → lookup (nat_eq id) es ≡ o → Unset o
          → SameButWindows (states_of connection sent es) (states_of connection sent new)
      by None none is =
          let same : SameButWindows (states_of connection sent es)
          (states_of connection sent es) = refl in
          subst (λ (l : List Entry).
          SameButWindows (states_of connection sent es) (states_of connection sent l)) (sym is) same
      by (Some was) found is = balance-stands connection sent sent es id was None new found is

  pub closed-within : IsWithin connection es owing → IsWithin connection new owing
  closed-within w = by (lookup (nat_eq id) es) refl sets
    where
      by : (o : Option Stream) → lookup (nat_eq id) es ≡ o → Unset o → IsWithin connection new owing
      by None none is = subst (λ (l : List Entry). IsWithin connection l owing) (sym is) w
      by (Some was) found is = balance-within connection es owing id was None new found is w

  pub closed-moves :
      Moves (states_of connection sent es) (Closing id ∷ []) (states_of connection sent new)
  closed-moves = by (lookup (nat_eq id) es) refl sets
    where
      by : (o : Option Stream) → lookup (nat_eq id) es ≡ o → Unset o → (h : List WindowStep)
          → Follows h (windows_of sent es) → Follows (Closing id ∷ h) (windows_of sent new)
      by None none is =
          subst (λ (l : List Entry).
          (h : List WindowStep) → Follows h (windows_of sent es)
          → Follows (Closing id ∷ h) (windows_of sent l)) (sym is) (none-closes sent es id none)
      by (Some was) found is =
          put-closes sent es id (record was { balance = None }) new
          (subst (PutsEntry es id (record was { balance = None })) (sym is)
          (put-there es id (record was { balance = None }) was found)) refl

module _ (connection : ℕ) (sent : SharedWindow) (es : List Entry) (owing id n : ℕ)
    (answer : Result (Unit {0}) WindowFault) (new : List Entry)
    (credits : CreditsEntry sent es id new n answer) where
  abbrev Uncredited : Option Stream → Type 0
  Uncredited o = MatchOption o ((new ≡ es) × (answer ≡ Err Unknown))
      (λ was.
      (kept : Option ℤ) × (new ≡ set_value (nat_eq id) es (record was { balance = kept }))
      × CreditsStream sent was.balance kept n answer)

  pub credited-stands :
      SameButWindows (states_of connection sent es) (states_of connection sent new)
  credited-stands = by (lookup (nat_eq id) es) refl credits
    where
      by : (o : Option Stream) → lookup (nat_eq id) es ≡ o → Uncredited o
          → SameButWindows (states_of connection sent es) (states_of connection sent new)
      by None none (is, unknown) =
          let same : SameButWindows (states_of connection sent es)
          (states_of connection sent es) = refl in
          subst (λ (l : List Entry).
          SameButWindows (states_of connection sent es) (states_of connection sent l)) (sym is) same
      by (Some was) found (kept, is, credit) =
          balance-stands connection sent sent es id was kept new found is

  pub credited-within : IsWithin connection es owing → IsWithin connection new owing
  credited-within w = by (lookup (nat_eq id) es) refl credits
    where
      by : (o : Option Stream) → lookup (nat_eq id) es ≡ o → Uncredited o
          → IsWithin connection new owing
      by None none (is, unknown) =
          subst (λ (l : List Entry). IsWithin connection l owing) (sym is) w
      by (Some was) found (kept, is, credit) =
          balance-within connection es owing id was kept new found is w

  pub credited : 0 < id → Credited (windows_of sent es) (windows_of sent new) id n answer
  credited positive = by (lookup (nat_eq id) es) refl credits
    where
      by : (o : Option Stream) → lookup (nat_eq id) es ≡ o → Uncredited o
          → Credited (windows_of sent es) (windows_of sent new) id n answer
      by None none (is, unknown) = credit-none sent es new id n answer positive none unknown
      by (Some was) found (kept, is, credit) =
          credit-some sent es new id n was (record was { balance = kept }) answer positive found
          (subst (PutsEntry es id (record was { balance = kept })) (sym is)
          (put-there es id (record was { balance = kept }) was found)) credit

  pub credited-unchanged :
      OnErr answer (states_of connection sent new ≡ states_of connection sent es)
  credited-unchanged = by (lookup (nat_eq id) es) refl credits
    where
      none-kept : (b kept : Option ℤ) (r : Result (Unit {0}) WindowFault)
          → CreditsStream sent b kept n r → OnErr r (kept ≡ b)
      none-kept None kept r (none, unknown) =
          subst (λ (x : Result (Unit {0}) WindowFault). OnErr x (kept ≡ None)) (sym unknown) none
      none-kept (Some b) kept (Ok done) credit = tt
      none-kept (Some b) kept (Err fault) credit = credit.0

      weaker : (r : Result (Unit {0}) WindowFault) (P Q : Type 0) → (P → Q) → OnErr r P → OnErr r Q
      weaker (Ok x) P Q f h = tt
      weaker (Err e) P Q f h = f h

      by : (o : Option Stream) → lookup (nat_eq id) es ≡ o → Uncredited o
          → OnErr answer (states_of connection sent new ≡ states_of connection sent es)
      by None none (is, unknown) =
          subst (λ (x : Result (Unit {0}) WindowFault).
          OnErr x (states_of connection sent new ≡ states_of connection sent es)) (sym unknown)
          (ap (states_of connection sent) is)
      by (Some was) found (kept, is, credit) =
          weaker answer (kept ≡ was.balance)
          (states_of connection sent new ≡ states_of connection sent es)
          (λ same.
          ap (states_of connection sent) (is
          ∙ ap (λ (b : Option ℤ). set_value (nat_eq id) es (record was { balance = b })) same
          ∙ set_value_same (nat_eq id) es was found))
          (none-kept was.balance kept answer credit)

-- ---- all that is owed is taken

pub takes_all : (old : List Entry) (owing place : ℕ) (taken : Option (ℕ × ℕ)) (new : List Entry)
    (connection : ℕ) (sent : SharedWindow)
    → connection ≡ 0 → IsWithin connection old owing
    → TakesLast old place taken new → IsSettledFrom place new
    → TakesAll (states_of connection sent old) taken (states_of connection sent new)
takes_all old owing place None new connection sent none w t settled =
    subst (λ n. TakesAll (states_of n sent old) None (states_of n sent new)) (sym none) (
      nothing sent old (subst (λ (l : List Entry). IsSettledFrom 0 l) t.0
          (subst (λ n. IsSettledFrom n new) t.1 settled)),
      nothing sent new (subst (λ n. IsSettledFrom n new) t.1 settled),
      subst (λ (l : List Entry). SameStreams (states_of 0 sent old) (states_of 0 sent l)) (sym t.0)
          (λ k. (refl, refl, refl)),
    )
takes_all old owing place (Some taken) new connection sent none w t settled =
    let state : StreamState = Call 0 t.0 in
    let before : States = states_of connection sent old in
    let after : States = states_of connection sent new in
    let was : Stream = record t.1 { state = Call taken.1 t.0 } in
    let puts : Puts (states_of connection sent old) taken.0 (Call 0 t.0)
    (states_of connection sent new) =
    puts-view connection sent old taken.0 (record t.1 { state = Call 0 t.0 }) new t.4 in
    let positive : 0 < taken.0 = not_0 old taken.0 was w.apart t.3 in
    let away : (taken.0 == 0) ≡ false = ne_eqb taken.0 0 (λ z. omega (arith, z, positive)) in
    let is : state_on before taken.0 ≡ Call taken.1 t.0 =
    state-found connection sent old taken.0 ∙ ap (λ o. state_in (state_of o)) t.3 in (
      t.2,
      fits_there old taken.0 was w.fit t.3,
      ap (λ b. if b then true else is_paid (state_on before taken.0)) away ∙ ap is_paid is,
      ap (λ b. if b then connection else amount_of (state_on before taken.0)) away
          ∙ ap amount_of is,
      owed-put before after taken.0 state positive refl puts,
      λ k. (
        part-same before after taken.0 state positive refl puts is_of_call
            (sym (ap is_of_call is)) k,
        pays-same before after taken.0 state positive refl puts (sym (ap is_paid is)) k,
        part-same before after taken.0 state positive refl puts is_reset_state
            (sym (ap is_reset_state is)) k,
      ),
    )

-- where an end is written, no stream is forgotten
pub still-heard : (old new : States) (id : ℕ) (value : Bool) → SetsEnd old id value new → (k : ℕ)
    → is_heard old k ≡ true → is_heard new k ≡ true
still-heard old new id value sets k e = sets.1 k ∙ by (k == id)
  where
    by : (b : Bool) → (b || is_heard old k) ≡ true
    by true = refl
    by false = e

-- one that was heard of is heard of again
pub hears-again : (old new : States) (id : ℕ) → is_heard old id ≡ true → Hears old id new → (k : ℕ)
    → is_heard new k ≡ is_heard old k
hears-again old new id heard hears k = hears k ∙ by (k == id) refl
  where
    by : (b : Bool) → (k == id) ≡ b → (b || is_heard old k) ≡ is_heard old k
    by true p = sym (ap (λ n. is_heard old n) (eqb-true k id p) ∙ heard)
    by false p = refl

-- no end is written
pub taken-ends : (old : List Entry) (owing place : ℕ) (taken : Option (ℕ × ℕ)) (new : List Entry)
    (connection : ℕ) (sent : SharedWindow)
    → IsWithin connection old owing → TakesLast old place taken new
    → SameEnds (states_of connection sent old) (states_of connection sent new)
taken-ends old owing place None new connection sent w t =
    subst (λ (l : List Entry).
    SameEnds (states_of connection sent old) (states_of connection sent l)) (sym t.0)
    (λ k. (refl, refl))
taken-ends old owing place (Some taken) new connection sent w t =
    let before : States = states_of connection sent old in
    let after : States = states_of connection sent new in
    let was : Stream = record t.1 { state = Call taken.1 t.0 } in
    let puts : Puts (states_of connection sent old) taken.0 (Call 0 t.0)
    (states_of connection sent new) =
    puts-view connection sent old taken.0 (record t.1 { state = Call 0 t.0 }) new t.4 in
    let positive : 0 < taken.0 = not_0 old taken.0 was w.apart t.3 in
    let hears = hears-put before after taken.0 (Call 0 t.0) positive refl puts in
    λ k. (
      part-same before after taken.0 (Call 0 t.0) positive refl puts
          (λ state. option_map by_reset (end_of state)) (sym (ap
          (λ s. option_map by_reset (end_of s))
          (state-found connection sent old taken.0 ∙ ap (λ o. state_in (state_of o)) t.3))) k,
      hears-again before after taken.0
          (ap is_some (found-state connection sent old taken.0 ∙ ap state_of t.3)) hears k,
    )

-- what is taken is a stream's, or the connection's
pub taken-numbered : (old : List Entry) (place : ℕ) (taken : Option (ℕ × ℕ)) (new : List Entry)
    → AreNumbered old → TakesLast old place taken new
    → IfSome taken (λ t. t.0 < 2 ^ 31)
taken-numbered old place None new numbered t = tt
taken-numbered old place (Some taken) new numbered t = numbered taken.0 (ap is_some t.3)

-- nor does a stream become open
pub taken-open : (old : List Entry) (place : ℕ) (taken : Option (ℕ × ℕ)) (new : List Entry)
    (connection : ℕ) (sent : SharedWindow)
    → TakesLast old place taken new
    → SameOpen (states_of connection sent old) (states_of connection sent new)
taken-open old place None new connection sent t =
    ap (λ (l : List Entry). open_at (states_of connection sent l)) t.0
taken-open old place (Some taken) new connection sent t =
    open-view connection sent old taken.0 (record t.1 { state = Call 0 t.0 }) new t.4
    (ap opened_of t.3)

-- nor does a window change
pub taken-moves : (old : List Entry) (place : ℕ) (taken : Option (ℕ × ℕ)) (new : List Entry)
    (connection : ℕ) (sent : SharedWindow)
    → TakesLast old place taken new
    → Moves (states_of connection sent old) [] (states_of connection sent new)
taken-moves old place None new connection sent t =
    found-stays sent old new (λ k. ap (λ (l : List Entry). lookup (nat_eq k) l) t.0)
taken-moves old place (Some taken) new connection sent t =
    put-stays sent old taken.0 (record t.1 { state = Call 0 t.0 }) new t.4 (sym (ap balance_in t.3))

-- ---- more is owed

-- on a stream on which none may be
pub none-grants : (connection : ℕ) (sent : SharedWindow) (old new : List Entry) (id n : ℕ) → 0 < id
    → Adds old id n None new
    → Grants (states_of connection sent old) id n (states_of connection sent new)
none-grants connection sent old new id n positive adds =
    subst
    (λ (l : List Entry). Grants (states_of connection sent old) id n (states_of connection sent l))
    (sym adds.0) (λ k. (refl, refl, refl), λ k. by k (k == id) refl)
  where
    unpaid : is_paid (state_on (states_of connection sent old) id) ≡ false
    unpaid = ap is_paid (state-found connection sent old id) ∙ adds.1

    away : (id == 0) ≡ false
    away = ne_eqb id 0 (λ z. omega (arith, z, positive))

    nothing-paid : (state : StreamState) → is_paid state ≡ false → amount_of state ≡ 0
    nothing-paid (NoCall over) e = refl
    nothing-paid (Call owed over) e = absurd (true≢false e)
    nothing-paid (Reset is_call over) e = refl

    by : (k : ℕ) (b : Bool) → (k == id) ≡ b
        → owed_on (states_of connection sent old) k
        ≡ (if b
        then (if pays (states_of connection sent old) id
        then more (owed_on (states_of connection sent old) id) n
        else 0)
        else owed_on (states_of connection sent old) k)
    by k false p = refl
    by k true p =
        ap (λ j. owed_on (states_of connection sent old) j) (eqb-true k id p)
        ∙ ap (λ b.
        if b then connection
        else amount_of (state_on (states_of connection sent old) id)) away
        ∙ nothing-paid (state_on (states_of connection sent old) id) unpaid
        ∙ sym (ap (λ b.
        if (if b then true else is_paid (state_on (states_of connection sent old) id))
        then more (owed_on (states_of connection sent old) id) n
        else 0) away
        ∙ ap (λ b. if b then more (owed_on (states_of connection sent old) id) n else 0) unpaid)

module _ (connection : ℕ) (sent : SharedWindow) (old mid new : List Entry) (id n place : ℕ)
    (positive : 0 < id) (adds : Adds old id n (Some place) mid)
    (same : (k : ℕ) → lookup (nat_eq k) new ≡ lookup (nat_eq k) mid) where
  found : state_on (states_of connection sent old) id ≡ Call adds.0 adds.1
  found = state-found connection sent old id ∙ ap (λ o. state_in (state_of o)) adds.3

  puts : PutsEntry old id (record adds.2 { state = Call (more adds.0 n) adds.1 }) new
  puts k = same k ∙ adds.5 k

  view :
      Puts (states_of connection sent old) id (Call (more adds.0 n) adds.1)
      (states_of connection sent new)
  view =
      puts-view connection sent old id
      (record adds.2 { state = Call (more adds.0 n) adds.1 }) new puts

  pub adds-grants : Grants (states_of connection sent old) id n (states_of connection sent new)
  adds-grants = (
    λ k. (
      part-same (states_of connection sent old) (states_of connection sent new) id
          (Call (more adds.0 n) adds.1) positive refl view is_of_call (sym (ap is_of_call found)) k,
      pays-same (states_of connection sent old) (states_of connection sent new) id
          (Call (more adds.0 n) adds.1) positive refl view (sym (ap is_paid found)) k,
      part-same (states_of connection sent old) (states_of connection sent new) id
          (Call (more adds.0 n) adds.1) positive refl view is_reset_state
          (sym (ap is_reset_state found)) k,
    ),
    λ k.
        owed-put (states_of connection sent old) (states_of connection sent new) id
        (Call (more adds.0 n) adds.1) positive refl view k
        ∙ ap (λ m. if k == id then m else owed_on (states_of connection sent old) k) here,
  )
    where
      away : (id == 0) ≡ false
      away = ne_eqb id 0 (λ z. omega (arith, z, positive))

      here : more adds.0 n
          ≡ (if pays (states_of connection sent old) id
          then more (owed_on (states_of connection sent old) id) n
          else 0)
      here =
          sym (ap (λ b.
          if (if b then true else is_paid (state_on (states_of connection sent old) id))
          then more (if b then connection
          else amount_of (state_on (states_of connection sent old) id)) n
          else 0) away
          ∙ ap (λ (s : StreamState). if is_paid s then more (amount_of s) n else 0) found)

  pub adds-ends : SameEnds (states_of connection sent old) (states_of connection sent new)
  adds-ends k = (
    part-same (states_of connection sent old) (states_of connection sent new) id
        (Call (more adds.0 n) adds.1) positive refl view
        (λ state. option_map by_reset (end_of state))
        (sym (ap (λ s. option_map by_reset (end_of s)) found)) k,
    hears-again (states_of connection sent old) (states_of connection sent new) id
        (ap is_some (found-state connection sent old id ∙ ap state_of adds.3))
        (hears-put (states_of connection sent old) (states_of connection sent new) id
        (Call (more adds.0 n) adds.1) positive refl view) k,
  )

  pub adds-moves : Moves (states_of connection sent old) [] (states_of connection sent new)
  adds-moves =
      put-stays sent old id (record adds.2 { state = Call (more adds.0 n) adds.1 }) new puts
      (sym (ap balance_in adds.3))

  pub adds-open : SameOpen (states_of connection sent old) (states_of connection sent new)
  adds-open =
      open-view connection sent old id (record adds.2 { state = Call (more adds.0 n) adds.1 }) new
      puts (ap opened_of adds.3)

-- ---- what is in hand of an open stream

can-over : (state : StreamState) → can_write state ≡ true
    → option_map by_reset (end_of state) ≡ None
can-over (NoCall None) e = refl
can-over (NoCall (Some by)) e = absurd (true≢false (sym e))
can-over (Call owed None) e = refl
can-over (Call owed (Some by)) e = absurd (true≢false (sym e))
can-over (Reset is_call None) e = absurd (true≢false (sym e))
can-over (Reset is_call (Some by)) e = absurd (true≢false (sym e))

can-unreset : (state : StreamState) → can_write state ≡ true → is_reset_state state ≡ false
can-unreset (NoCall over) e = refl
can-unreset (Call owed over) e = refl
can-unreset (Reset is_call None) e = absurd (true≢false (sym e))
can-unreset (Reset is_call (Some by)) e = absurd (true≢false (sym e))

-- what is next on a stream, where it is among the entries
pub entry-next : {L In Out Shut E : Type 0} (got ahead : Out → List OutItem) (r : Result NextItem E)
    (es : List Entry) (id : ℕ) (was now : Stream) (new : List Entry) (from to : SharedWindow)
    (senders left : List (ℕ × Sender L In Out Shut)) (before after : Option Encoding)
    → lookup (nat_eq id) es ≡ Some was → new ≡ set_value (nat_eq id) es now
    → IfOk r (NextOnStream got ahead id was now from to senders left before after)
    → IfOk r (NextAtEntry got ahead id es new from to senders left before after)
entry-next got ahead (Err e) es id was now new from to senders left before after there is next = tt
entry-next got ahead (Ok result) es id was now new from to senders left before after there is next =
    subst (λ (o : Option Stream).
    MatchOption o ((result ≡ Nothing) × (new ≡ es) × (to ≡ from)
    × AsksNone senders left before after)
    (λ s.
    (now : Stream) × (new ≡ set_value (nat_eq id) es now)
    × NextOnStream got ahead id s now from to senders left before after result))
    (sym there) (now, is, next)

module _ (connection : ℕ) (sent : SharedWindow) (es : List Entry) (owing id : ℕ)
    (within : IsWithin connection es owing) (was : Stream)
    (found : lookup (nat_eq id) es ≡ Some was) where
  state-there : state_on (states_of connection sent es) id ≡ was.state
  state-there = state-found connection sent es id ∙ ap (λ o. state_in (state_of o)) found

  open-there : open_at (states_of connection sent es) id ≡ was.opened
  open-there = found-open connection sent es id ∙ ap opened_of found

  writable-there : can_write was.state ≡ true → TakesFrames (states_of connection sent es) id
  writable-there can = record {
    stream = not_0 es id was within.apart found;
    number = within.numbered id (ap is_some found);
    not_over = ap (λ s. option_map by_reset (end_of s)) state-there ∙ can-over was.state can;
    not_reset = ap is_reset_state state-there ∙ can-unreset was.state can;
  }

  shut-there : (can_write was.state ≡ false) ⊎ (was.opened ≡ None)
      → IsShut (states_of connection sent es) id
  shut-there (inl cannot) = inl (ap can_write state-there ∙ cannot)
  shut-there (inr none) = inr (open-there ∙ none)

  unwritten : (new : List Entry) (now : Stream) → new ≡ set_value (nat_eq id) es now → now ≡ was
      → states_of connection sent new ≡ states_of connection sent es
  unwritten new now is same =
      ap (states_of connection sent)
      (is ∙ ap (set_value (nat_eq id) es) same ∙ set_value_same (nat_eq id) es was found)

  written : (new : List Entry) (now : Stream) (f : Shown → Shown)
      → new ≡ set_value (nat_eq id) es now → shown now.opened ≡ f (shown was.opened)
      → shown (opened_of (lookup (nat_eq id) new)) ≡ f (shown (opened_of (lookup (nat_eq id) es)))
  written new now f is here =
      ap (λ (l : List Entry). shown (opened_of (lookup (nat_eq id) l))) is
      ∙ ap (λ o. shown (opened_of o)) (put-there es id now was found id)
      ∙ ap (λ b. shown (opened_of (if b then Some now else lookup (nat_eq id) es)))
      (eq-eqb id id refl)
      ∙ here ∙ sym (ap (λ o. f (shown (opened_of o))) found)

  puts-there : (new : List Entry) (now : Stream) → new ≡ set_value (nat_eq id) es now
      → PutsEntry es id now new
  puts-there new now is = subst (PutsEntry es id now) (sym is) (put-there es id now was found)

  begins-there : (new : List Entry) (now : Stream) (to : SharedWindow)
      (message : List ℕ) (l : NextData)
      → Rewrites es id new → new ≡ set_value (nat_eq id) es now
      → BeginsOnStream id was now sent to message l
      → BeginsMessage id (states_of connection sent es) (states_of connection to new) message l
  begins-there new now to message l rewrites is begins = (
    rewrite-stands connection sent to es id new rewrites,
    begins.0,
    rewrite-shows connection sent es id new (with_hand (kept begins.0)) rewrites
        (written new now (with_hand (kept begins.0)) is begins.1),
    data-view sent to es id was now new message begins.0 found is
        (puts-there new now is) l begins.2,
  )

  closed-there : (new : List Entry) (now : Stream) → new ≡ set_value (nat_eq id) es now
      → now.opened ≡ None
      → Closes id (open_at (states_of connection sent es)) (open_at (states_of connection sent new))
  closed-there new now is none k =
      found-open connection sent new k ∙ ap opened_of (puts-there new now is k)
      ∙ by (nat_eq id k) (k == id) refl refl
    where
      by : (b c : Bool) → nat_eq id k ≡ b → (k == id) ≡ c
          → opened_of (if b then Some now else lookup (nat_eq k) es)
          ≡ (if c then None else open_at (states_of connection sent es) k)
      by true true p q = none
      by false false p q = sym (found-open connection sent es k)
      by true false p q = absurd (true≢false (sym (eq-eqb k id (sym (eqb-true id k p))) ∙ q))
      by false true p q = absurd (true≢false (sym (eq-eqb id k (sym (eqb-true k id q))) ∙ p))

  ends-there : (new : List Entry) (now : Stream) (ends_it : Bool)
      → new ≡ set_value (nat_eq id) es now → EndsStream ends_it was now
      → EndsOn id ends_it (states_of connection sent es) (states_of connection sent new)
  ends-there new now false is same =
      let still : EndsOn id false (states_of connection sent es) (states_of connection sent es) =
      (λ k. refl, refl, (λ k. (refl, refl, refl), λ k. refl), λ history follows. follows) in
      subst (EndsOn id false (states_of connection sent es)) (sym (unwritten new now is same)) still
  ends-there new now true is (none, after, closed) =
      let puts = puts-view connection sent es id now new (puts-there new now is) in
      let positive = not_0 es id was within.apart found in
      let now_after : IsAfter (change_by.End end_by.EndStream)
      (state_on (states_of connection sent es) id) now.state =
      subst (λ (s : StreamState). IsAfter (change_by.End end_by.EndStream) s now.state)
      (sym state-there) after in (
        closed-there new now is none,
        ends-put (states_of connection sent es) (states_of connection sent new) id now.state
            positive refl puts end_by.EndStream now_after.0,
        owed-put-same (states_of connection sent es) (states_of connection sent new) id now.state
            positive refl puts now_after.1 now_after.2 now_after.3 now_after.4,
        put-closes sent es id now new (puts-there new now is) closed,
      )

  takes-there : (new : List Entry) (now : Stream) (to : SharedWindow) (one : SenderItem)
      (result : NextItem)
      → new ≡ set_value (nat_eq id) es now
      → TakesUpStream id was now sent to one result
      → TakesUp id (states_of connection sent es) (states_of connection to new) one result
  takes-there new now to polled.Nothing Nothing is takes =
      ap (λ (x : SharedWindow). states_of connection x new) takes.1 ∙ unwritten new now is takes.0
  takes-there new now to (polled.Message bytes) (Message l) is takes =
      begins-there new now to bytes l (inr (was, now, found, takes.0, is)) is takes.1
  takes-there new now to (polled.Block bytes ends_it) (Block block ends) is takes = (
    takes.0,
    takes.1,
    subst (λ (x : SharedWindow).
        EndsOn id ends_it (states_of connection sent es) (states_of connection x new)) (sym takes.3)
        (ends-there new now ends_it is takes.2),
  )
  takes-there new now to polled.Nothing (Message l) is takes = absurd takes
  takes-there new now to polled.Nothing (Block block ends) is takes = absurd takes
  takes-there new now to (polled.Message bytes) Nothing is takes = absurd takes
  takes-there new now to (polled.Message bytes) (Block block ends) is takes = absurd takes
  takes-there new now to (polled.Block bytes ends_it) Nothing is takes = absurd takes
  takes-there new now to (polled.Block bytes ends_it) (Message l) is takes = absurd takes

-- and among all of them
pub next-view : {L In Out Shut : Type 0} (got ahead : Out → List OutItem) (connection : ℕ)
    (sent : SharedWindow) (es : List Entry) (owing id : ℕ) (new : List Entry) (to : SharedWindow)
    (senders left : List (ℕ × Sender L In Out Shut))
    (before after : Option Encoding) (result : NextItem)
    → IsWithin connection es owing
    → NextAtEntry got ahead id es new sent to senders left before after result
    → TakesNext got ahead id (states_of connection sent es) (states_of connection to new) senders
    left before after result
next-view got ahead connection sent es owing id new to senders left before after result within
    next = by (lookup (nat_eq id) es) refl next
  where
    on : (was now : Stream) → lookup (nat_eq id) es ≡ Some was → new ≡ set_value (nat_eq id) es now
        → NextOnStream got ahead id was now sent to senders left before after result
        → TakesNext got ahead id (states_of connection sent es) (states_of connection to new)
        senders left before after result
    on was now found is (inl (shut, none, same, window, asks)) = inl (
      shut-there connection sent es owing id within was found shut,
      none,
      ap (λ (x : SharedWindow). states_of connection x new) window
          ∙ unwritten connection sent es owing id within was found new now is same,
      asks,
    )
    on was now found is (inr (can, one, asks, takes)) = inr (
      writable-there connection sent es owing id within was found can,
      one,
      subst (λ (v : Shown). Asks got ahead v senders left before after one)
          (sym (ap shown (open-there connection sent es owing id within was found))) asks,
      takes-there connection sent es owing id within was found new now to one result is takes,
    )

    by : (o : Option Stream) → lookup (nat_eq id) es ≡ o
        → MatchOption o
        ((result ≡ Nothing) × (new ≡ es) × (to ≡ sent) × AsksNone senders left before after)
        (λ was.
        (now : Stream) × (new ≡ set_value (nat_eq id) es now)
        × NextOnStream got ahead id was now sent to senders left before after result)
        → TakesNext got ahead id (states_of connection sent es) (states_of connection to new)
        senders left before after result
    by None none (is, same, window, asks) = inl (
      inr (found-open connection sent es id ∙ ap opened_of none),
      is,
      ap (λ (x : SharedWindow). states_of connection x new) window
          ∙ ap (states_of connection sent) same,
      asks,
    )
    by (Some was) found (now, is, next) = on was now found is next

-- what is shown of each stream is the same
pub edit-same : (connection : ℕ) (sent : SharedWindow) (es : List Entry) (id : ℕ) (new : List Entry)
    → Edits es id new
    → shown (opened_of (lookup (nat_eq id) new)) ≡ shown (opened_of (lookup (nat_eq id) es))
    → SameHands (open_at (states_of connection sent es)) (open_at (states_of connection sent new))
edit-same connection sent es id new edits here k =
    edit-shows connection sent es id new (λ v. v) edits here k ∙ by (k == id)
  where
    by : (b : Bool)
        → (if b then shows (open_at (states_of connection sent es)) k
        else shows (open_at (states_of connection sent es)) k)
        ≡ shows (open_at (states_of connection sent es)) k
    by true = refl
    by false = refl
