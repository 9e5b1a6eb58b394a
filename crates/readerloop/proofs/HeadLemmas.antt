-- The head with which a call was admitted.
use Rattle.std.proofs.Common.{
  ◌≡◌,
  ◌∙◌,
  ℕ,
  ◌<◌,
  ◌≤◌,
  Bool,
  true,
  false,
  nat_eq,
  List,
  [],
  ◌∷◌,
  ◌++◌,
  Option,
  None,
  Some,
  ap,
  arith,
  refl,
  subst,
  sym,
}
use Rattle.std.specs.Prelude.{if◌then◌else◌, IsSome, MatchOption, unwrap_or}
use Rattle.std.specs.List.{list_any}
use Rattle.std.proofs.lemmas.Bool.Decides.{nat_tests}
use Rattle.callhead.specs.declared.head.CallHead.{CallHead}
use Rattle.session.specs.declared.event.InEvent.{InEvent}
use Rattle.session.specs.declared.event.InEvent.TheVariants as events
use Rattle.readerloop.specs.Steps.{
  Admitted,
  Step,
  Told,
  CutOff,
  Drains,
  Lacks,
  admitted,
  admitted_by,
  events_of,
  head_at,
  head_of,
  is_of,
  last_of,
  since,
  IsRising,
}
use Rattle.readerloop.proofs.EndLemmas.{admits, known-before, one-more}
use Rattle.readerloop.proofs.HalfLemmas.{same_number}

-- ---- one step more

-- the step that admits a call gives it its head
pub head-opens : (id : ℕ) (head : CallHead) (told : List Step)
    → head_of id (Told (events.Open id head) Admitted ∷ told) ≡ Some head
head-opens id head told =
    ap (λ (b : Bool). if b then Some head else head_of id told) (same_number id)

-- any other step leaves it
pub head-step : (id : ℕ) (step : Step) (told : List Step) → is_of id (admitted_by step) ≡ false
    → head_of id (step ∷ told) ≡ head_of id told
head-step id step told other = ap (λ (b : Bool). if b then head_at step else head_of id told) other

other-of : (found : Option ℕ) (id last : ℕ) → MatchOption found (Unit {0}) (λ now. last < now)
    → id ≤ last → is_of id found ≡ false
other-of None id last rises low = refl
other-of (Some now) id last rises low = grind (arith, nat_tests)

-- and so does one that may admit a call above all others
pub head-below : (id : ℕ) (step : Step) (told : List Step)
    → MatchOption (admitted_by step) (Unit {0}) (λ now. last_of told < now) → id ≤ last_of told
    → head_of id (step ∷ told) ≡ head_of id told
head-below id step told rises low =
    head-step id step told (other-of (admitted_by step) id (last_of told) rises low)

-- ---- there is one

more-than : (found : Option ℕ) (id last : ℕ) → MatchOption found (Unit {0}) (λ now. last < now)
    → id ≤ last → id ≤ unwrap_or found last
more-than None id last rises low = low
more-than (Some now) id last rises low = omega (arith, rises, low)

opened-below : (id : ℕ) (head : CallHead) (later before : List Step)
    → IsRising (later ++ Told (events.Open id head) Admitted ∷ before)
    → id ≤ last_of (later ++ Told (events.Open id head) Admitted ∷ before)
opened-below id head [] before rising = omega arith
opened-below id head (step ∷ later) before rising =
    more-than (admitted_by step) id
    (last_of (later ++ Told (events.Open id head) Admitted ∷ before)) rising.0
    (opened-below id head later before rising.1)

pub one-head : (id : ℕ) (head : CallHead) (later before : List Step)
    → IsRising (later ++ Told (events.Open id head) Admitted ∷ before)
    → head_of id (later ++ Told (events.Open id head) Admitted ∷ before) ≡ Some head
one-head id head [] before rising = head-opens id head before
one-head id head (step ∷ later) before rising =
    head-below id step (later ++ Told (events.Open id head) Admitted ∷ before) rising.0
    (opened-below id head later before rising.1)
    ∙ one-head id head later before rising.1

-- ---- the calls that were admitted have one

some-now : (id : ℕ) (step : Step) → is_of id (admitted_by step) ≡ true → IsSome (head_at step)
some-now id step is =
    let by = admits id step is in
    subst (λ (s : Step). IsSome (head_at s)) (sym by.1) refl

some-with : (id : ℕ) (step : Step) (before : List Step) (here : Bool)
    → is_of id (admitted_by step) ≡ here
    → (list_any (nat_eq id) (admitted before) ≡ true → IsSome (head_of id before))
    → list_any (nat_eq id) (admitted (step ∷ before)) ≡ true
    → IsSome (if here then head_at step else head_of id before)
some-with id step before true is behind there = some-now id step is
some-with id step before false is behind there = behind (known-before id step before is there)

pub admitted-head : (id : ℕ) (told : List Step) → list_any (nat_eq id) (admitted told) ≡ true
    → IsSome (head_of id told)
admitted-head id [] there = absurd cc
admitted-head id (step ∷ before) there =
    some-with id step before (is_of id (admitted_by step)) refl (admitted-head id before) there

-- ---- it is that of the event that the stream begins with

abbrev IsBehind : ℕ → CallHead → List InEvent → List InEvent → Type 0
IsBehind id head given later =
    (before : List InEvent) × (given ≡ before ++ events.Open id head ∷ later)

head-now : (id : ℕ) (head : CallHead) (step : Step) (before : List Step)
    → is_of id (admitted_by step) ≡ true → head_at step ≡ Some head
    → IsBehind id head (events_of (step ∷ before)) []
head-now id head step before is found =
    let by = admits id step is in
    let same : by.0 ≡ head =
    let some : Some by.0 ≡ Some head = sym (ap head_at by.1) ∙ found in
    cc in
    subst (λ (h : CallHead). IsBehind id h (events_of (step ∷ before)) []) same
    (subst (λ (s : Step). IsBehind id by.0 (events_of (s ∷ before)) []) (sym by.1)
    (events_of before, refl))

behind-more : (id : ℕ) (head : CallHead) (given later : List InEvent) (event : InEvent)
    → IsBehind id head given later → IsBehind id head (given ++ event ∷ []) (later ++ event ∷ [])
behind-more id head given later event (before, parts) = (
  before,
  ap (λ (l : List InEvent). l ++ event ∷ []) parts
      ∙ one-more before later (events.Open id head) event,
)

behind-step : (id : ℕ) (head : CallHead) (step : Step) (before : List Step)
    → IsBehind id head (events_of before) (events_of (since id before))
    → IsBehind id head (events_of (step ∷ before)) (events_of (step ∷ since id before))
behind-step id head (Told event fate) before behind =
    behind-more id head (events_of before) (events_of (since id before)) event behind
behind-step id head (CutOff other) before behind = behind
behind-step id head Drains before behind = behind
behind-step id head Lacks before behind = behind

head-with : (id : ℕ) (head : CallHead) (step : Step) (before : List Step) (here : Bool)
    → is_of id (admitted_by step) ≡ here
    → (head_of id before ≡ Some head
    → IsBehind id head (events_of before) (events_of (since id before)))
    → (if here then head_at step else head_of id before) ≡ Some head
    → IsBehind id head (events_of (step ∷ before))
    (events_of (if here then [] else step ∷ since id before))
head-with id head step before true is behind found = head-now id head step before is found
head-with id head step before false is behind found = behind-step id head step before (behind found)

pub head-behind : (id : ℕ) (head : CallHead) (told : List Step) → head_of id told ≡ Some head
    → IsBehind id head (events_of told) (events_of (since id told))
head-behind id head [] found = absurd cc
head-behind id head (step ∷ before) found =
    head-with id head step before (is_of id (admitted_by step)) refl
    (head-behind id head before) found
