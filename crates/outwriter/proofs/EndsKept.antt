-- How streams end: what has ended or is to end does so still, and the ends that controls ask for
-- are heeded.
use Rattle.std.proofs.Common.{
  ◌≡◌,
  ◌⊎◌,
  ℕ,
  ◌==◌,
  inl,
  inr,
  refl,
  sym,
  ap,
  subst,
  ◌∙◌,
  Bool,
  true,
  false,
  List,
  [],
  ◌∷◌,
  ◌++◌,
  Option,
  Some,
  None,
  true≢false,
}
use Rattle.std.specs.Prelude.{◌||◌, ◌&&◌, not, is_some, if◌then◌else◌}
use Rattle.std.specs.List.{list_any}
use Rattle.std.proofs.lemmas.Bool.{eqb-true}
use Rattle.std.proofs.lemmas.List.Folds.{list_any-append}
use Rattle.h2frame.specs.declared.error_code.ErrorCode.{ErrorCode}
use Rattle.h2frame.specs.declared.frame.Frame.{Frame}
use Rattle.lists.specs.declared.field.Field.{Field}
use Rattle.outwriter.specs.OpenStreams.{OpenStreams}
use Rattle.outwriter.specs.declared.due.Due.{Due}
use Rattle.outwriter.specs.declared.due.Due.TheVariants as due_kind
use Rattle.outwriter.specs.declared.stream.OpenStream.{OpenStream}
use Rattle.outwriter.specs.declared.outbound.Outbound.{Outbound}
use Rattle.outwriter.specs.Calls.{calls_off, is_called_off, is_dropped, TellEnds}
use Rattle.outwriter.specs.States.{
  States,
  SameOver,
  SameOwed,
  SetsEnd,
  StandButWindows,
  is_heard,
  is_reset,
  over_on,
}
use Rattle.outwriter.specs.Histories.{is_stream, is_over, resets_stream, was_reset}
use Rattle.outwriter.specs.RunState.{Ends, HasOver, IsSpent, SameButOpen}
use Rattle.outwriter.specs.Runs.{is_opened}
use Rattle.outwriter.specs.CallState.{
  AreOver,
  Heeds,
  HeedsEnds,
  HeedsOpen,
  IsEnding,
  IsOwn,
  Rests,
  Takes,
  is_due_of,
  none_is_new,
  refuses,
}
use Rattle.outwriter.specs.Steps.{Step, Order, Taken}
use Rattle.outwriter.specs.ToldByNow.{SameStanding}
use Rattle.outwriter.proofs.StateWindows.{still-heard}
use Rattle.outwriter.proofs.Others.{or-false, or-true, dropped-taken}

-- what has ended or is to end does so still
abbrev pub KeepsEnds : Outbound → Outbound → Type 0
KeepsEnds old new = (id : ℕ) → is_stream id ≡ true → IsEnding id old → IsEnding id new

-- the ends of a stream that are due, by another account of which streams were reset
one-due : (owed left : States) (id : ℕ) → is_reset left id ≡ is_reset owed id → (one : Due)
    → is_due_of left id one ≡ is_due_of owed id one
one-due owed left id same (due_kind.Reset stream code) = refl
one-due owed left id same (due_kind.Refuse stream fields) = by (id == stream) refl
  where
    by : (b : Bool) → (id == stream) ≡ b
        → (b && not (is_reset left stream)) ≡ (b && not (is_reset owed stream))
    by true p = ap not (subst (λ n. is_reset left n ≡ is_reset owed n) (eqb-true id stream p) same)
    by false p = refl
one-due owed left id same due_kind.SettingsAck = refl
one-due owed left id same (due_kind.PingAck bytes) = refl
one-due owed left id same (due_kind.Ping bytes) = refl
one-due owed left id same (due_kind.Goaway last reason) = refl

pub dues-same : (owed left : States) (id : ℕ) → is_reset left id ≡ is_reset owed id
    → (dues : List Due) → list_any (is_due_of left id) dues ≡ list_any (is_due_of owed id) dues
dues-same owed left id same [] = refl
dues-same owed left id same (one ∷ dues) =
    ap (λ b. b || list_any (is_due_of left id) dues) (one-due owed left id same one)
    ∙ ap (λ b. is_due_of owed id one || b) (dues-same owed left id same dues)

pub either-true : (a b : Bool) → (a || b) ≡ true → (a ≡ true) ⊎ (b ≡ true)
either-true true b e = inl refl
either-true false b e = inr e

-- the ends at a list's front or behind it
due-in : (owed : States) (id : ℕ) (front back : List Due)
    → list_any (is_due_of owed id) (front ++ back) ≡ true
    → (list_any (is_due_of owed id) front ≡ true) ⊎ (list_any (is_due_of owed id) back ≡ true)
due-in owed id front back e =
    either-true (list_any (is_due_of owed id) front) (list_any (is_due_of owed id) back)
    (sym (list_any-append (is_due_of owed id) front back) ∙ e)

-- where the ends that aren't due any more were written
pub ends-written : (old new : Outbound) (front : List Due)
    → ((id : ℕ) → is_reset new.states id ≡ is_reset old.states id)
    → old.due.items ≡ front ++ new.due.items
    → ((id : ℕ) → is_stream id ≡ true → list_any (is_due_of old.states id) front ≡ true
    → is_some (over_on new.states id) ≡ true)
    → ((id : ℕ) → is_some (over_on old.states id) ≡ true → is_some (over_on new.states id) ≡ true)
    → KeepsEnds old new
ends-written old new front same due written over id there (inl ended) = inl (over id ended)
ends-written old new front same due written over id there (inr waits) =
    by (due-in old.states id front new.due.items
    (subst (λ (l : List Due). list_any (is_due_of old.states id) l ≡ true) due waits))
  where
    by : (list_any (is_due_of old.states id) front ≡ true)
        ⊎ (list_any (is_due_of old.states id) new.due.items ≡ true)
        → IsEnding id new
    by (inl e) = inl (written id there e)
    by (inr e) = inr (dues-same old.states new.states id (same id) new.due.items ∙ e)

pub over-same : (old new : Outbound) → SameOver old.states new.states → (id : ℕ)
    → is_some (over_on old.states id) ≡ true → is_some (over_on new.states id) ≡ true
over-same old new e id is = ap is_some (e id) ∙ is

over-set : (old new : States) (at : ℕ) (value : Bool) → SetsEnd old at value new → (id : ℕ)
    → is_some (over_on old id) ≡ true → is_some (over_on new id) ≡ true
over-set old new at value sets id is = by (id == at) refl
  where
    by : (b : Bool) → (id == at) ≡ b → is_some (over_on new id) ≡ true
    by true p = ap is_some (sets.0 id ∙ ap (λ b. if b then Some value else over_on old id) p)
    by false p = ap is_some (sets.0 id ∙ ap (λ b. if b then Some value else over_on old id) p) ∙ is

set-here : (old new : States) (at : ℕ) (value : Bool) → SetsEnd old at value new → (id : ℕ)
    → (id == at) ≡ true → is_some (over_on new id) ≡ true
set-here old new at value sets id p =
    ap is_some (sets.0 id ∙ ap (λ b. if b then Some value else over_on old id) p)

-- one end more, which is written now
one-ends : (old new : Outbound) (at : ℕ) (value : Bool) (one : Due) (front : List Due)
    → ((id : ℕ) → is_reset new.states id ≡ is_reset old.states id)
    → ((id : ℕ) → list_any (is_due_of old.states id) (one ∷ []) ≡ true → (id == at) ≡ true)
    → old.due.items ≡ front ++ one ∷ new.due.items → AreOver old front
    → SetsEnd old.states at value new.states
    → (append : (front ++ one ∷ new.due.items) ≡ (front ++ one ∷ []) ++ new.due.items)
    → KeepsEnds old new
one-ends old new at value one front same is due written sets append =
    ends-written old new (front ++ one ∷ []) same (due ∙ append)
    (λ id there e. by id there (due-in old.states id front (one ∷ []) e))
    (over-set old.states new.states at value sets)
  where
    by : (id : ℕ) → is_stream id ≡ true
        → (list_any (is_due_of old.states id) front ≡ true)
        ⊎ (list_any (is_due_of old.states id) (one ∷ []) ≡ true)
        → is_some (over_on new.states id) ≡ true
    by id there (inl e) = over-set old.states new.states at value sets id (written id there e)
    by id there (inr e) = set-here old.states new.states at value sets id (is id e)

reset-at : (owed : States) (at : ℕ) (code : ErrorCode) (id : ℕ)
    → list_any (is_due_of owed id) (due_kind.Reset at code ∷ []) ≡ true → (id == at) ≡ true
reset-at owed at code id e = by (id == at) e
  where
    by : (b : Bool) → (b || false) ≡ true → b ≡ true
    by true f = refl
    by false f = f

refuse-at : (owed : States) (at : ℕ) (fields : List Field) (id : ℕ)
    → list_any (is_due_of owed id) (due_kind.Refuse at fields ∷ []) ≡ true → (id == at) ≡ true
refuse-at owed at fields id e = by (id == at) e
  where
    by : (b : Bool) → ((b && not (is_reset owed at)) || false) ≡ true → b ≡ true
    by true f = refl
    by false f = f

append-one : (front back : List Due) (one : Due) → front ++ one ∷ back ≡ (front ++ one ∷ []) ++ back
append-one [] back one = refl
append-one (x ∷ front) back one = ap (λ (l : List Due). x ∷ l) (append-one front back one)

-- ---- frames that are none of an open stream

pub rests-ends : (old new : Outbound) → Rests old new → KeepsEnds old new
rests-ends old new r =
    ends-written old new r.due.0 (λ id. (r.standing id).1) r.due.1
    (λ id there e. over-same old new (λ k. (r.over k).0) id (r.due.2 id there e))
    (over-same old new (λ k. (r.over k).0))

pub own-ends : (frame : Frame) (old new : Outbound) → IsOwn frame old new → KeepsEnds old new
own-ends frame old new (known, inl plain, kept) =
    ends-written old new plain.2.0 (λ id. (known id).1) plain.2.1
    (λ id there e. over-same old new (λ k. (plain.1 k).0) id (plain.2.2 id there e))
    (over-same old new (λ k. (plain.1 k).0))
own-ends frame old new (known, inr (inl r), kept) =
    one-ends old new r.0 true (due_kind.Reset r.0 r.1) r.2 (λ id. (known id).1)
    (reset-at old.states r.0 r.1) r.3 r.7 r.6
    (append-one r.2 new.due.items (due_kind.Reset r.0 r.1))
own-ends frame old new (known, inr (inr r), kept) =
    one-ends old new r.0 false (due_kind.Refuse r.0 r.1) r.2 (λ id. (known id).1)
    (refuse-at old.states r.0 r.1) r.3 r.7 r.6
    (append-one r.2 new.due.items (due_kind.Refuse r.0 r.1))

-- ---- frames of an open stream

still-due : (old new : Outbound) (id : ℕ) → new.due ≡ old.due
    → is_reset new.states id ≡ is_reset old.states id
    → list_any (is_due_of old.states id) old.due.items ≡ true
    → list_any (is_due_of new.states id) new.due.items ≡ true
still-due old new id due same waits =
    ap (λ due. list_any (is_due_of new.states id) due.items) due
    ∙ dues-same old.states new.states id same old.due.items ∙ waits

pub same-ends : (old new : Outbound) → new.due ≡ old.due → StandButWindows old.states new.states
    → KeepsEnds old new
same-ends old new due states id there (inl ended) =
    inl (ap (λ s. is_some (over_on s id)) states ∙ ended)
same-ends old new due states id there (inr waits) =
    inr (still-due old new id due (ap (λ s. is_reset s id) states) waits)

pub block-ends : (old new : Outbound) (at : ℕ) (ends_it : Bool) → new.due ≡ old.due
    → SameOwed old.states new.states → Ends old.states at ends_it new.states → KeepsEnds old new
block-ends old new at true due owed sets id there (inl ended) =
    inl (over-set old.states new.states at false sets id ended)
block-ends old new at false due owed same id there (inl ended) =
    inl (ap (λ s. is_some (over_on s id)) same ∙ ended)
block-ends old new at ends_it due owed sets id there (inr waits) =
    inr (still-due old new id due (owed.0 id).2 waits)

pub ends-heard : (old new : States) (id : ℕ) (ends_it : Bool) → Ends old id ends_it new → (k : ℕ)
    → is_heard old k ≡ true → is_heard new k ≡ true
ends-heard old new id true sets k e = still-heard old new id false sets k e
ends-heard old new id false same k e = ap (λ s. is_heard s k) same ∙ e

-- ---- controls

-- more is due
pub more-dues : (owed left : States) (id : ℕ) (waiting more dues : List Due)
    → is_reset left id ≡ is_reset owed id → dues ≡ waiting ++ more
    → list_any (is_due_of left id) dues
    ≡ (list_any (is_due_of owed id) waiting || list_any (is_due_of left id) more)
more-dues owed left id waiting more dues same is =
    ap (list_any (is_due_of left id)) is ∙ list_any-append (is_due_of left id) waiting more
    ∙ ap (λ b. b || list_any (is_due_of left id) more) (dues-same owed left id same waiting)

pub takes-ends : (more : List Due) (is_new : ℕ → Bool) (limits : List ℕ) (old new : Outbound)
    → Takes more is_new limits old new → KeepsEnds old new
takes-ends more is_new limits old new takes id there (inl ended) =
    inl (over-same old new takes.over id ended)
takes-ends more is_new limits old new takes id there (inr waits) =
    inr
    (more-dues old.states new.states id old.due.items more new.due.items (takes.resets id) takes.due
    ∙ ap (λ b. b || list_any (is_due_of new.states id) more) waits)

-- ---- what was asked for

-- the streams stand as they did, and none opened
pub heeds-kept : (run : List Step) (old new : Outbound) (streams left : OpenStreams)
    → KeepsEnds old new → SameStanding old new
    → ((id : ℕ) → streams id ≡ None → left id ≡ None) → Heeds run old streams → Heeds run new left
heeds-kept run old new streams left keeps same closed heeds = (
  λ id there e. by id there (heeds.0 id there e),
  λ id there. (same id).1 ∙ heeds.1 id there,
  still-unreset run streams left closed heeds.2,
  λ id there e. (same id).2 (heeds.3 id there e),
)
  where
    by : (id : ℕ) → is_stream id ≡ true → IsEnding id old ⊎ (is_dropped id run ≡ true)
        → IsEnding id new ⊎ (is_dropped id run ≡ true)
    by id there (inl ending) = inl (keeps id there ending)
    by id there (inr dropped) = inr dropped

    still-unreset : (run : List Step) (streams left : OpenStreams)
        → ((id : ℕ) → streams id ≡ None → left id ≡ None)
        → HeedsOpen run streams → HeedsOpen run left
    still-unreset run streams left closed unreset id is = at (streams id) refl
      where
        at : (found : Option OpenStream) → streams id ≡ found → was_reset id run ≡ false
        at None p = absurd (true≢false (sym is ∙ ap is_some (closed id p)))
        at (Some stream) p = unreset id (ap is_some p)

pub heeds-own : (run : List Step) (old new : Outbound) (streams : OpenStreams) → KeepsEnds old new
    → SameStanding old new
    → Heeds run old streams → Heeds run new streams
heeds-own run old new streams keeps same heeds =
    heeds-kept run old new streams streams keeps same (λ id none. none) heeds

-- what is kept of the open streams changes
pub heeds-but-open : (run : List Step) (o after : Outbound) (streams : OpenStreams)
    → SameButOpen o after → Heeds run o streams → Heeds run after streams
heeds-but-open run o after streams e heeds =
    subst (λ (x : Outbound). Heeds run x streams) (sym e)
    (heeds-own run o (record o { states = record o.states { opened = after.states.opened } })
    streams (λ id there ending. ending) (λ id. (refl, refl, λ heard. heard)) heeds)

-- no stream is forgotten
pub takes-heard : (more : List Due) (is_new : ℕ → Bool) (limits : List ℕ) (old new : Outbound)
    → Takes more is_new limits old new → (id : ℕ) → is_heard old.states id ≡ true
    → is_heard new.states id ≡ true
takes-heard more is_new limits old new takes id e =
    takes.heard id ∙ or-true (is_new id || list_any (refuses id) more) (is_heard old.states id) e

-- nothing changes of how the streams stand
pub heeds-takes : (run : List Step) (more : List Due) (limits : List ℕ) (old new : Outbound)
    (streams : OpenStreams)
    → Takes more none_is_new limits old new
    → Heeds run old streams → Heeds run new streams
heeds-takes run more limits old new streams takes heeds =
    heeds-own run old new streams
    (takes-ends more none_is_new limits old new takes) (λ id. (
      takes.knows id,
      takes.resets id,
      takes-heard more none_is_new limits old new takes id,
    )) heeds

-- after a control, the streams that were called off before
pub heeds-before : (run : List Step) (order : Order) (old new : Outbound) → KeepsEnds old new
    → HeedsEnds run old → (id : ℕ) → is_stream id ≡ true → is_called_off id run ≡ true
    → IsEnding id new ⊎ (is_dropped id (Taken order ∷ run) ≡ true)
heeds-before run order old new keeps heeds id there e = by (heeds id there e)
  where
    by : IsEnding id old ⊎ (is_dropped id run ≡ true)
        → IsEnding id new ⊎ (is_dropped id (Taken order ∷ run) ≡ true)
    by (inl ending) = inl (keeps id there ending)
    by (inr dropped) = inr (dropped-taken run order id dropped)

-- a control that calls no stream off
heeds-calm-ends : (run : List Step) (order : Order) (old new : Outbound)
    → ((id : ℕ) (opened : Bool) → calls_off id opened order ≡ false) → KeepsEnds old new
    → HeedsEnds run old
    → HeedsEnds (Taken order ∷ run) new
heeds-calm-ends run order old new calm keeps heeds id there e =
    heeds-before run order old new keeps heeds id there (sym (or-false
    (calls_off id (is_opened id run) order) (is_called_off id run) (calm id (is_opened id run)))
    ∙ e)

-- and is no Reset
unreset-taken : (run : List Step) (order : Order) (id : ℕ) → resets_stream id order ≡ false
    → was_reset id (Taken order ∷ run) ≡ was_reset id run
unreset-taken run order id none = or-false (resets_stream id order) (was_reset id run) none

-- of a control that is no Reset, from what is kept before it, the ends apart
pub heeds-taken : (run : List Step) (order : Order) (old new : Outbound)
    (streams left : OpenStreams)
    → ((id : ℕ) → resets_stream id order ≡ false) → HeedsEnds (Taken order ∷ run) new
    → ((id : ℕ) → is_reset new.states id ≡ is_reset old.states id)
    → HeedsOpen run left
    → ((id : ℕ) → is_heard old.states id ≡ true → is_heard new.states id ≡ true)
    → Heeds run old streams → Heeds (Taken order ∷ run) new left
heeds-taken run order old new streams left none ends same unreset still heeds = (
  ends,
  λ id there. same id ∙ heeds.1 id there ∙ sym (unreset-taken run order id (none id)),
  λ id is. unreset-taken run order id (none id) ∙ unreset id is,
  λ id there e. still id (heeds.3 id there (sym (unreset-taken run order id (none id)) ∙ e)),
)

pub heeds-calm : (run : List Step) (order : Order) (more : List Due) (limits : List ℕ)
    (old new : Outbound) (streams : OpenStreams)
    → ((id : ℕ) (opened : Bool) → calls_off id opened order ≡ false)
    → ((id : ℕ) → resets_stream id order ≡ false) → Takes more none_is_new limits old new
    → Heeds run old streams → Heeds (Taken order ∷ run) new streams
heeds-calm run order more limits old new streams calm none takes heeds =
    heeds-taken run order old new streams streams none
    (heeds-calm-ends run order old new calm (takes-ends more none_is_new limits old new takes)
    heeds.0) takes.resets heeds.2
    (takes-heard more none_is_new limits old new takes) heeds

-- one that calls a stream off
pub heeds-called : (run : List Step) (order : Order) (old new : Outbound) → KeepsEnds old new
    → HeedsEnds run old
    → ((id : ℕ) → is_stream id ≡ true → calls_off id (is_opened id run) order ≡ true
    → IsEnding id new ⊎ (is_dropped id (Taken order ∷ run) ≡ true))
    → HeedsEnds (Taken order ∷ run) new
heeds-called run order old new keeps heeds here id there e =
    by (either-true (calls_off id (is_opened id run) order) (is_called_off id run) e)
  where
    by : (calls_off id (is_opened id run) order ≡ true) ⊎ (is_called_off id run ≡ true)
        → IsEnding id new ⊎ (is_dropped id (Taken order ∷ run) ≡ true)
    by (inl now) = here id there now
    by (inr before) = heeds-before run order old new keeps heeds id there before

-- ---- where nothing is due

pub ends-told : (run : List Step) (o : Outbound) → o.due.items ≡ [] → HasOver run o.states
    → HeedsEnds run o → TellEnds run
ends-told run o none over heeds id there e = by (heeds id there e)
  where
    by : IsEnding id o ⊎ (is_dropped id run ≡ true)
        → (is_over id run ≡ true) ⊎ (is_dropped id run ≡ true)
    by (inl (inl ended)) = inl (sym (over id).0 ∙ ended)
    by (inl (inr waits)) =
        absurd (true≢false (sym waits ∙ ap (list_any (is_due_of o.states id)) none))
    by (inr dropped) = inr dropped

pub ended-if : (run : List Step) (o : Outbound) (streams : OpenStreams) → IsSpent o
    → HasOver run o.states → Heeds run o streams
    → (o.gone ≡ true) ⊎ TellEnds run
ended-if run o streams (inl gone) over heeds = inl gone
ended-if run o streams (inr (no_block, none, owed)) over heeds =
    inr (ends-told run o none over heeds.0)
