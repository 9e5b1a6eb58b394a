-- What is fed, by the events alone, once a half may be shut; and what was heard since a call was
-- admitted.
use Rattle.std.proofs.Common.{
  ◌≡◌,
  ◌∙◌,
  ℕ,
  Bool,
  true,
  false,
  ◌||◌,
  nat_eq,
  List,
  [],
  ◌∷◌,
  ◌++◌,
  Option,
  None,
  Some,
  ap,
  append_assoc,
  refl,
  subst,
  sym,
}
use Rattle.std.specs.Prelude.{if◌then◌else◌}
use Rattle.std.specs.List.{list_any}
use Rattle.std.proofs.lemmas.Bool.{eqb-true}
use Rattle.std.proofs.lemmas.List.{append-nil}
use Rattle.std.proofs.lemmas.List.Folds.{list_any-append}
use mathlib.Core.List.{IsPrefix}
use Rattle.account.specs.declared.call.Shut.{Shut}
use Rattle.account.specs.declared.call.Shut.TheVariants as shut
use Rattle.callhead.specs.declared.head.CallHead.{CallHead}
use Rattle.connbook.specs.declared.answers.Receipt.TheVariants.{Feed, Discard, CallWindow, Overrun}
use Rattle.session.specs.declared.event.InEvent.{InEvent}
use Rattle.session.specs.declared.event.InEvent.TheVariants as events
use Rattle.session.specs.StreamData.{
  Ending,
  Unended,
  Finished,
  Aborted,
  piece_of,
  pieces,
  end_told,
  first_end,
  ending_told,
}
use Rattle.session.proofs.StreamEnds.{told_append}
use Rattle.readerloop.specs.Steps.{
  Closing,
  ShutAs,
  Misses,
  Fate,
  Plain,
  Admitted,
  Unserved,
  Unknown,
  TurnedAway,
  Received,
  Missed,
  Lacking,
  Step,
  Told,
  CutOff,
  Drains,
  Lacks,
  admitted,
  admitted_by,
  data_at,
  earlier,
  events_of,
  fed_by,
  is_of,
  lost,
  missed,
  once,
  closing_at,
  closing_by,
  shut_by,
  shut_in,
  since,
  unless,
}
use Rattle.readerloop.proofs.HalfLemmas.{same_number}
use Rattle.readerloop.proofs.LawLemmas.{fed-open, none-before, pieces-push}

-- a half that is shut by this step or was before is fed nothing by it
fed-before : (id : ℕ) (step : Step) (before : List Step) (kind : Closing)
    → closing_by id (step ∷ before) ≡ Some kind → fed_by id (step ∷ before) ≡ fed_by id before
fed-before id step before kind closed =
    ap (λ (found : Option Closing). fed_by id before ++ unless found (data_at id step)) closed
    ∙ append-nil (fed_by id before)

-- ---- what is fed begins the data that are told

all-fed : (id : ℕ) (told : List Step) → closing_by id told ≡ None
    → IsPrefix (fed_by id told) (pieces id (events_of told))
all-fed id told unshut = ([], append-nil (fed_by id told) ∙ fed-open id told unshut)

more-told : (fed more now all : List ℕ) → fed ++ more ≡ all → IsPrefix fed (all ++ now)
more-told fed more now all e =
    (more ++ now, sym (append_assoc fed more now) ∙ ap (λ (l : List ℕ). l ++ now) e)

front-with : (id : ℕ) (event : InEvent) (fate : Fate) (before : List Step) (found : Option Closing)
    → closing_by id (Told event fate ∷ before) ≡ found
    → IsPrefix (fed_by id before) (pieces id (events_of before))
    → IsPrefix (fed_by id (Told event fate ∷ before))
    (pieces id (events_of (Told event fate ∷ before)))
front-with id event fate before None unshut behind = all-fed id (Told event fate ∷ before) unshut
front-with id event fate before (Some kind) closed behind =
    let more =
    more-told (fed_by id before) behind.0 (piece_of id event)
    (pieces id (events_of before)) behind.1 in (
      more.0,
      ap (λ (fed : List ℕ). fed ++ more.0) (fed-before id (Told event fate) before kind closed)
          ∙ more.1 ∙ sym (pieces-push id (events_of before) event),
    )

-- a step of which no event tells
front-silent : (id : ℕ) (step : Step) (before : List Step) (found : Option Closing)
    → events_of (step ∷ before) ≡ events_of before → closing_by id (step ∷ before) ≡ found
    → IsPrefix (fed_by id before) (pieces id (events_of before))
    → IsPrefix (fed_by id (step ∷ before)) (pieces id (events_of (step ∷ before)))
front-silent id step before None silent unshut behind = all-fed id (step ∷ before) unshut
front-silent id step before (Some kind) silent closed behind = (
  behind.0,
  ap (λ (fed : List ℕ). fed ++ behind.0) (fed-before id step before kind closed) ∙ behind.1
      ∙ ap (λ (es : List InEvent). pieces id es) (sym silent),
)

pub fed-front : (id : ℕ) (told : List Step) → IsPrefix (fed_by id told) (pieces id (events_of told))
fed-front id [] = ([], refl)
fed-front id (Told event fate ∷ before) =
    front-with id event fate before (closing_by id (Told event fate ∷ before)) refl
    (fed-front id before)
fed-front id (CutOff other ∷ before) =
    front-silent id (CutOff other) before (closing_by id (CutOff other ∷ before)) refl refl
    (fed-front id before)
fed-front id (Drains ∷ before) =
    front-silent id Drains before (closing_by id (Drains ∷ before)) refl refl (fed-front id before)
fed-front id (Lacks ∷ before) =
    front-silent id Lacks before (closing_by id (Lacks ∷ before)) refl refl (fed-front id before)

-- ---- as long as a half isn't shut, no end is told

none-now : (first second : Option Closing) → earlier first second ≡ None → second ≡ None
none-now None second e = e
none-now (Some kind) second e = absurd cc

end-none : (here : Bool) (kind : Closing) (end : Ending) → (if here then Some kind else None) ≡ None
    → (if here then end else Unended) ≡ Unended
end-none true kind end e = absurd cc
end-none false kind end e = refl

event-quiet : (id : ℕ) (event : InEvent) (fate : Fate) → closing_at id (Told event fate) ≡ None
    → end_told id event ≡ Unended
event-quiet id (events.End other) fate e = end-none (nat_eq id other) (ShutAs shut.End) Finished e
event-quiet id (events.Reset other code) fate e =
    end-none (nat_eq id other) (ShutAs (shut.Reset _)) Aborted e
event-quiet id (events.StreamError other code) fate e =
    end-none (nat_eq id other) (ShutAs (shut.Reset _)) Aborted e
event-quiet id (events.Open other head) fate e = refl
event-quiet id (events.BadHead other fault) fate e = refl
event-quiet id (events.Data other piece counted) fate e = refl
event-quiet id (events.Loose counted) fate e = refl
event-quiet id (events.Control control) fate e = refl
event-quiet id events.PeerGoaway fate e = refl
event-quiet id (events.Fatal cause) fate e = refl

pub quiet-open : (id : ℕ) (told : List Step) → closing_by id told ≡ None
    → ending_told id (events_of told) ≡ Unended
quiet-open id [] unshut = refl
quiet-open id (Told event fate ∷ before) unshut =
    let behind =
    quiet-open id before
    (none-before (closing_by id before) (closing_at id (Told event fate)) unshut) in
    let now =
    event-quiet id event fate
    (none-now (closing_by id before) (closing_at id (Told event fate)) unshut) in
    told_append id (events_of before) (event ∷ [])
    ∙ ap (λ (e : Ending). first_end e (first_end (end_told id event) Unended)) behind
    ∙ ap (λ (e : Ending). first_end e Unended) now
quiet-open id (CutOff other ∷ before) unshut =
    quiet-open id before (none-before (closing_by id before) (closing_at id (CutOff other)) unshut)
quiet-open id (Drains ∷ before) unshut =
    quiet-open id before (none-before (closing_by id before) None unshut)
quiet-open id (Lacks ∷ before) unshut =
    quiet-open id before (none-before (closing_by id before) None unshut)

-- ---- a half that ends was fed all that was told before

abbrev IsEnd : Option Closing → Type 0
IsEnd found = found ≡ Some (ShutAs shut.End)

not-reset : (here : Bool) (number : ℕ)
    → IsEnd (if here then Some (ShutAs (shut.Reset number)) else None) → ⊥
not-reset true number e = cc
not-reset false number e = cc

missed-no-end : (piece : List ℕ) → IsEnd (missed piece) → ⊥
missed-no-end [] e = cc
missed-no-end (byte ∷ bytes) e = cc

lost-resets : (piece : List ℕ) (fate : Fate) → IsEnd (lost piece fate) → ⊥
lost-resets piece (Received Discard) e = missed-no-end piece e
lost-resets piece (Received CallWindow) e = cc
lost-resets piece (Received Overrun) e = cc
lost-resets piece (Received Feed) e = cc
lost-resets piece Missed e = cc
lost-resets piece (Unserved why) e = cc
lost-resets piece Lacking e = cc
lost-resets piece Plain e = cc
lost-resets piece Admitted e = cc
lost-resets piece Unknown e = cc
lost-resets piece (TurnedAway fault) e = cc

not-lost : (here : Bool) (piece : List ℕ) (fate : Fate)
    → IsEnd (if here then lost piece fate else None) → ⊥
not-lost true piece fate e = lost-resets piece fate e
not-lost false piece fate e = cc

end-here : (id other : ℕ) (here : Bool) → nat_eq id other ≡ here
    → IsEnd (if here then Some (ShutAs shut.End) else None) → other ≡ id
end-here id other true same e = sym (eqb-true id other same)
end-here id other false same e = absurd cc

-- only END_STREAM ends it
ends-by : (id : ℕ) (step : Step) → IsEnd (closing_at id step)
    → (fate : Fate) × (step ≡ Told (events.End id) fate)
ends-by id (Told (events.End other) fate) e =
    (fate, ap (λ (n : ℕ). Told (events.End n) fate) (end-here id other (nat_eq id other) refl e))
ends-by id (Told (events.Data other piece counted) fate) e =
    absurd (not-lost (nat_eq id other) piece fate e)
ends-by id (Told (events.Reset other code) fate) e = absurd (not-reset (nat_eq id other) _ e)
ends-by id (Told (events.StreamError other code) fate) e = absurd (not-reset (nat_eq id other) _ e)
ends-by id (Told (events.Open other head) fate) e = absurd cc
ends-by id (Told (events.BadHead other fault) fate) e = absurd cc
ends-by id (Told (events.Loose counted) fate) e = absurd cc
ends-by id (Told (events.Control control) fate) e = absurd cc
ends-by id (Told events.PeerGoaway fate) e = absurd cc
ends-by id (Told (events.Fatal cause) fate) e = absurd cc
ends-by id Drains e = absurd cc
ends-by id Lacks e = absurd cc
ends-by id (CutOff other) e = absurd (not-reset (nat_eq id other) _ e)

abbrev pub IsWhole : ℕ → List ℕ → List InEvent → Type 0
IsWhole id fed given =
    (before : List InEvent) × (after : List InEvent) × (given ≡ before ++ events.End id ∷ after)
    × (fed ≡ pieces id before) × (ending_told id given ≡ Finished)

pub one-more : (xs ys : List InEvent) (x y : InEvent)
    → (xs ++ x ∷ ys) ++ y ∷ [] ≡ xs ++ x ∷ (ys ++ y ∷ [])
one-more xs ys x y = append_assoc xs (x ∷ ys) (y ∷ [])

ended-before : (id : ℕ) (fed fed_now : List ℕ) (given : List InEvent) (event : InEvent)
    → fed_now ≡ fed → IsWhole id fed given → IsWhole id fed_now (given ++ event ∷ [])
ended-before id fed fed_now given event same (before, after, parts, is, ends) = (
  before,
  after ++ event ∷ [],
  ap (λ (l : List InEvent). l ++ event ∷ []) parts ∙ one-more before after (events.End id) event,
  same ∙ is,
  told_append id given (event ∷ [])
      ∙ ap (λ (e : Ending). first_end e (first_end (end_told id event) Unended)) ends,
)

pub end-finishes : (id : ℕ) → end_told id (events.End id) ≡ Finished
end-finishes id = ap (λ (b : Bool). if b then Finished else Unended) (same_number id)

ended-now : (id : ℕ) (fate : Fate) (before : List Step) → closing_by id before ≡ None
    → closing_by id (Told (events.End id) fate ∷ before) ≡ Some (ShutAs shut.End)
    → IsWhole id (fed_by id (Told (events.End id) fate ∷ before))
    (events_of before ++ events.End id ∷ [])
ended-now id fate before unshut closed = (
  events_of before,
  [],
  refl,
  fed-before id (Told (events.End id) fate) before (ShutAs shut.End) closed
      ∙ fed-open id before unshut,
  told_append id (events_of before) (events.End id ∷ [])
      ∙ ap (λ (e : Ending). first_end e (first_end (end_told id (events.End id)) Unended))
      (quiet-open id before unshut)
      ∙ ap (λ (e : Ending). first_end e Unended) (end-finishes id),
)

whole-same : (id : ℕ) (fed fed_now : List ℕ) (given : List InEvent) → fed_now ≡ fed
    → IsWhole id fed given → IsWhole id fed_now given
whole-same id fed fed_now given same (before, after, parts, is, ends) =
    (before, after, parts, same ∙ is, ends)

-- the step ends the half, or it was ended before
ended-step : (id : ℕ) (step : Step) (before : List Step) → closing_by id before ≡ None
    → IsEnd (closing_by id (step ∷ before))
    → IsWhole id (fed_by id (step ∷ before)) (events_of (step ∷ before))
ended-step id step before unshut closed =
    let by =
    ends-by id step
    (sym (ap (λ (found : Option Closing). earlier found (closing_at id step)) unshut) ∙ closed) in
    by-end by.0 by.1
  where
    by-end : (fate : Fate) → step ≡ Told (events.End id) fate
        → IsWhole id (fed_by id (step ∷ before)) (events_of (step ∷ before))
    by-end fate is =
        subst (λ (s : Step). IsWhole id (fed_by id (s ∷ before)) (events_of (s ∷ before))) (sym is)
        (ended-now id fate before unshut
        (subst (λ (s : Step). IsEnd (closing_by id (s ∷ before))) is closed))

ended-with : (id : ℕ) (step : Step) (before : List Step) (found : Option Closing)
    → closing_by id before ≡ found
    → (IsEnd (closing_by id before) → IsWhole id (fed_by id before) (events_of before))
    → IsEnd (closing_by id (step ∷ before))
    → IsWhole id (fed_by id (step ∷ before)) (events_of (step ∷ before))
ended-with id step before None unshut behind closed = ended-step id step before unshut closed
ended-with id step before (Some kind) shut_before behind closed =
    let ended : IsEnd (closing_by id before) =
    shut_before
    ∙ (sym (ap (λ (found : Option Closing). earlier found (closing_at id step)) shut_before)
    ∙ closed) in
    more-of step (fed-before id step before (ShutAs shut.End) closed) (behind ended)
  where
    more-of : (step : Step) → fed_by id (step ∷ before) ≡ fed_by id before
        → IsWhole id (fed_by id before) (events_of before)
        → IsWhole id (fed_by id (step ∷ before)) (events_of (step ∷ before))
    more-of (Told event fate) same whole =
        ended-before id (fed_by id before) _ (events_of before) event same whole
    more-of (CutOff other) same whole =
        whole-same id (fed_by id before) _ (events_of before) same whole
    more-of Drains same whole = whole-same id (fed_by id before) _ (events_of before) same whole
    more-of Lacks same whole = whole-same id (fed_by id before) _ (events_of before) same whole

pub ended-closed : (id : ℕ) (told : List Step) → closing_by id told ≡ Some (ShutAs shut.End)
    → IsWhole id (fed_by id told) (events_of told)
ended-closed id [] closed = absurd cc
ended-closed id (step ∷ before) closed =
    ended-with id step before (closing_by id before) refl (ended-closed id before) closed

shut-closed : (found : Option Closing) (kind : Shut) → shut_in found ≡ Some kind
    → found ≡ Some (ShutAs kind)
shut-closed None kind e = absurd cc
shut-closed (Some (ShutAs other)) kind e =
    ap (λ (k : Shut). Some (ShutAs k)) (let same : other ≡ kind = cc in same)
shut-closed (Some Misses) kind e = absurd cc

pub shut-is-closed : (id : ℕ) (told : List Step) (kind : Shut) → shut_by id told ≡ Some kind
    → closing_by id told ≡ Some (ShutAs kind)
shut-is-closed id told kind closed = shut-closed (closing_by id told) kind closed

pub ended-whole : (id : ℕ) (told : List Step) → shut_by id told ≡ Some shut.End
    → IsWhole id (fed_by id told) (events_of told)
ended-whole id told closed = ended-closed id told (shut-is-closed id told shut.End closed)

-- ---- what was heard since a call was admitted

or_before : (a b : Bool) → b ≡ false → (a || b) ≡ true → a ≡ true
or_before true b none some = refl
or_before false true none some = absurd cc
or_before false false none some = absurd cc

not-once : (id : ℕ) (found : Option ℕ) → is_of id found ≡ false
    → list_any (nat_eq id) (once found) ≡ false
not-once id None e = refl
not-once id (Some other) e = ap (λ (b : Bool). b || false) e

-- a call that this step doesn't admit was admitted before
pub known-before : (id : ℕ) (step : Step) (before : List Step) → is_of id (admitted_by step) ≡ false
    → list_any (nat_eq id) (admitted (step ∷ before)) ≡ true
    → list_any (nat_eq id) (admitted before) ≡ true
known-before id step before other there =
    or_before (list_any (nat_eq id) (admitted before))
    (list_any (nat_eq id) (once (admitted_by step))) (not-once id (admitted_by step) other)
    (sym (list_any-append (nat_eq id) (admitted before) (once (admitted_by step))) ∙ there)

-- the step that admits a call
pub admits : (id : ℕ) (step : Step) → is_of id (admitted_by step) ≡ true
    → (head : CallHead) × (step ≡ Told (events.Open id head) Admitted)
admits id (Told (events.Open other head) Admitted) e =
    (head, ap (λ (n : ℕ). Told (events.Open n head) Admitted) (sym (eqb-true id other e)))
admits id _ e = absurd cc

abbrev IsSince : ℕ → List InEvent → List InEvent → Type 0
IsSince id given later =
    (before : List InEvent) × (head : CallHead) × (given ≡ before ++ events.Open id head ∷ later)

since-more : (id : ℕ) (given later : List InEvent) (event : InEvent) → IsSince id given later
    → IsSince id (given ++ event ∷ []) (later ++ event ∷ [])
since-more id given later event (before, head, parts) = (
  before,
  head,
  ap (λ (l : List InEvent). l ++ event ∷ []) parts
      ∙ one-more before later (events.Open id head) event,
)

since-now : (id : ℕ) (step : Step) (before : List Step) → is_of id (admitted_by step) ≡ true
    → IsSince id (events_of (step ∷ before)) []
since-now id step before is =
    let by = admits id step is in
    subst (λ (s : Step). IsSince id (events_of (s ∷ before)) []) (sym by.1)
    (events_of before, by.0, refl)

since-step : (id : ℕ) (step : Step) (before : List Step)
    → IsSince id (events_of before) (events_of (since id before))
    → IsSince id (events_of (step ∷ before)) (events_of (step ∷ since id before))
since-step id (Told event fate) before behind =
    since-more id (events_of before) (events_of (since id before)) event behind
since-step id (CutOff other) before behind = behind
since-step id Drains before behind = behind
since-step id Lacks before behind = behind

since-with : (id : ℕ) (step : Step) (before : List Step) (here : Bool)
    → is_of id (admitted_by step) ≡ here
    → (list_any (nat_eq id) (admitted before) ≡ true
    → IsSince id (events_of before) (events_of (since id before)))
    → list_any (nat_eq id) (admitted (step ∷ before)) ≡ true
    → IsSince id (events_of (step ∷ before))
    (events_of (if here then [] else step ∷ since id before))
since-with id step before true is behind there = since-now id step before is
since-with id step before false is behind there =
    since-step id step before
    (behind (known-before id step before is there))

pub since-opening : (id : ℕ) (told : List Step) → list_any (nat_eq id) (admitted told) ≡ true
    → (before : List InEvent) × (head : CallHead)
    × (events_of told ≡ before ++ events.Open id head ∷ events_of (since id told))
since-opening id [] there = absurd cc
since-opening id (step ∷ before) there =
    since-with id step before (is_of id (admitted_by step)) refl (since-opening id before) there
