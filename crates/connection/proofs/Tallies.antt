-- What the reader counts, and what it may refuse by that.
use Rattle.std.proofs.Common.{
  ◌≡◌,
  ◌+◌,
  ◌<◌,
  ◌≤◌,
  ℕ,
  Bool,
  true,
  false,
  List,
  [],
  ◌∷◌,
  ◌++◌,
  Option,
  None,
  Some,
  ap,
  arith,
  length,
  length-append,
  le_trans,
  refl,
  subst,
  sym,
}
use Rattle.std.specs.Prelude.{IfErr, Result, Ok, Err}
use Rattle.std.proofs.lemmas.List.Sums.{sum_by-append}
use Rattle.callhead.specs.declared.head.CallHead.{CallHead}
use Rattle.callparts.specs.declared.report.Ending.{Ending}
use Rattle.connbook.specs.Words.{answer_in}
use Rattle.connbook.specs.declared.words.RefusedCall.{RefusedCall}
use Rattle.connbook.specs.declared.answers.AdmitFault.{AdmitFault}
use Rattle.connbook.specs.declared.answers.AdmitFault.TheVariants as refused
use Rattle.connbook.specs.declared.answers.Receipt.{Receipt}
use Rattle.connbook.specs.declared.answers.Receipt.TheVariants.{Feed, Discard, CallWindow, Overrun}
use Rattle.connbook.specs.Receipts.{counted_of}
use Rattle.outwriter.specs.declared.control.WriterOrder.{WriterOrder}
use Rattle.session.specs.declared.event.InEvent.{InEvent}
use Rattle.session.specs.declared.event.InEvent.TheVariants as events
use Rattle.session.specs.FlowBytes.{counted_by, counted_told}
use Rattle.readerloop.specs.Readings.{MayMiss, fate_of, refused_by, unless_ended}
use Rattle.readerloop.specs.Steps.{
  CutOff,
  Drains,
  Lacks,
  Fate,
  Step,
  Told,
  events_of,
  is_draining,
  once,
  reported,
  reported_by,
}
use Rattle.connection.specs.Limits.{
  AreGoing,
  AreJustified,
  Covers,
  IsDueOf,
  IsJustified,
  MayRefuse,
  MayTurnAway,
  Tally,
  one_more,
}

zero-least : (n : ℕ) → 0 ≤ n
zero-least n = omega arith

pub covers-none : (told : List Step) → Covers told (record { calls = 0; came = 0 })
covers-none told = record {
  calls = zero-least (length (reported told));
  came = zero-least (counted_told (events_of told));
}

-- ---- a step more

more-ids : (ids more : List ℕ) → length ids ≤ length (ids ++ more)
more-ids ids more = omega (arith, length-append ids more)

pub more-came : (given more : List InEvent) → counted_told given ≤ counted_told (given ++ more)
more-came given more = omega (arith, sum_by-append counted_by given more)

pub came-with : (before : List Step) (event : InEvent) (fate : Fate)
    → counted_told (events_of (Told event fate ∷ before))
    ≡ counted_told (events_of before) + counted_by event
came-with before event fate =
    omega (arith, sum_by-append counted_by (events_of before) (event ∷ []))

pub came-more : (more told : List Step)
    → counted_told (events_of told) ≤ counted_told (events_of (more ++ told))
came-more [] told = omega arith
came-more (Told event fate ∷ more) told =
    le_trans (came-more more told) (more-came (events_of (more ++ told)) (event ∷ []))
came-more (CutOff id ∷ more) told = came-more more told
came-more (Drains ∷ more) told = came-more more told
came-more (Lacks ∷ more) told = came-more more told

pub calls-more : (more told : List Step) → length (reported told) ≤ length (reported (more ++ told))
calls-more [] told = omega arith
calls-more (step ∷ more) told =
    le_trans (calls-more more told) (more-ids (reported (more ++ told)) (once (reported_by step)))

pub covers-more : (tally : Tally) (more told : List Step) → Covers told tally
    → Covers (more ++ told) tally
covers-more tally more told covers = record {
  calls = le_trans covers.calls (calls-more more told);
  came = le_trans covers.came (came-more more told);
}

-- a call was admitted
pub covers-call : (tally : Tally) (event : InEvent) (fate : Fate) (id : ℕ) (told : List Step)
    → reported_by (Told event fate) ≡ Some id → Covers told tally
    → Covers (Told event fate ∷ told) (one_more tally)
covers-call tally event fate id told is covers = record {
  calls =
      subst (λ (found : Option ℕ). tally.calls + 1 ≤ length (reported told ++ once found)) (sym is)
      (omega (arith, covers.calls, length-append (reported told) (id ∷ [])));
  came = le_trans covers.came (came-more (Told event fate ∷ []) told);
}

-- bytes came
pub covers-bytes : (event : InEvent) (fate : Fate) (told : List Step) (old new : Tally)
    (receipt : Receipt) (flow : ℕ)
    → new.calls ≡ old.calls → new.came ≡ old.came + counted_of flow receipt
    → counted_by event ≡ flow → Covers told old → Covers (Told event fate ∷ told) new
covers-bytes event fate told old new receipt flow calls came is covers = record {
  calls =
      subst (λ (n : ℕ). n ≤ length (reported (Told event fate ∷ told))) (sym calls)
      (le_trans covers.calls (calls-more (Told event fate ∷ []) told));
  came = omega (arith, came, counted receipt, covers.came, came-with told event fate, is);
}
  where
    counted : (found : Receipt) → counted_of flow found ≤ flow
    counted Feed = omega arith
    counted Discard = omega arith
    counted CallWindow = omega arith
    counted Overrun = omega arith

-- ---- what may be refused

not-nil : (given : List InEvent) (event : InEvent) → given ++ event ∷ [] ≡ [] → ⊥
not-nil [] event is = cc
not-nil (first ∷ given) event is = cc

-- a call that is cut isn't refused
pub cuts-justified : (cuts told : List Step) → events_of cuts ≡ [] → AreJustified told
    → AreJustified (cuts ++ told)
cuts-justified [] told silent all = all
cuts-justified (CutOff id ∷ cuts) told silent all = (tt, cuts-justified cuts told silent all)
cuts-justified (Drains ∷ cuts) told silent all = (tt, cuts-justified cuts told silent all)
cuts-justified (Lacks ∷ cuts) told silent all = (tt, cuts-justified cuts told silent all)
cuts-justified (Told event fate ∷ cuts) told silent all =
    absurd (not-nil (events_of cuts) event silent)

-- nor is one for which there was no memory
pub ended-justified : (event : InEvent) (fate : Fate) (told : List Step) (end : Option Ending)
    → IsDueOf event told → IsJustified (Told event fate) told
    → IsJustified (Told event (unless_ended end fate)) told
ended-justified event fate told None due is = is
ended-justified event fate told (Some ending) due is = due

pub bytes-justified : {S : Type 0} (id counted : ℕ) (piece : List ℕ) (told : List Step)
    (receipt : Receipt) (order : Option (WriterOrder S)) (ends : Option Ending)
    → MayRefuse (counted_told (events_of told) + counted) receipt
    → MayMiss id piece (fate_of receipt order ends) told
    → IsJustified (Told (events.Data id piece counted) (fate_of receipt order ends)) told
bytes-justified id counted piece told Feed None ends may missed = tt
bytes-justified id counted piece told Feed (Some order) None may missed = missed
bytes-justified id counted piece told Feed (Some order) (Some ending) may missed = missed
bytes-justified id counted piece told Discard order ends may missed = tt
bytes-justified id counted piece told CallWindow order ends may missed = may
bytes-justified id counted piece told Overrun order ends may missed = may

-- behind more
pub may-turn : (fault : AdmitFault) (calls more : ℕ) (draining : Bool)
    → MayTurnAway calls draining fault → calls ≤ more → MayTurnAway more draining fault
may-turn refused.TooMany calls more draining may few = le_trans may few
may-turn refused.Draining calls more draining may few = may
may-turn refused.NotNew calls more draining may few = tt
may-turn refused.OutOfMemory calls more draining may few = tt

-- by what the lock says
turns : (fault : AdmitFault) (calls : ℕ) → (fault ≡ refused.TooMany → 64 ≤ calls)
    → MayTurnAway calls true fault
turns refused.TooMany calls many = many refl
turns refused.Draining calls many = refl
turns refused.NotNew calls many = tt
turns refused.OutOfMemory calls many = tt

pub turns-so : (result : Result (Unit {0}) RefusedCall) (calls : ℕ)
    → (answer_in result ≡ Err refused.TooMany → 64 ≤ calls)
    → IfErr result (λ call. MayTurnAway calls true call.fault)
turns-so (Ok done) calls many = tt
turns-so (Err call) calls many = turns call.fault calls (λ is. many (ap Err is))

-- a call that isn't for the lock
pub refused-justified : (id : ℕ) (head : CallHead) (told : List Step) (draining : Bool)
    → draining ≡ is_draining told
    → IsJustified (Told (events.Open id head) (refused_by draining)) told
refused-justified id head told true is = sym is
refused-justified id head told false is = tt

pub may-refuse : (receipt : Receipt) (came more : ℕ) → MayRefuse came receipt → came ≤ more
    → MayRefuse more receipt
may-refuse CallWindow came more may few = omega (arith, may, few)
may-refuse Overrun came more may few = omega (arith, may, few)
may-refuse Feed came more may few = tt
may-refuse Discard came more may few = tt

-- by what the lock says
pub refuses-so : (receipt : Receipt) (old new flow : ℕ) → new ≡ old + counted_of flow receipt
    → (receipt ≡ CallWindow → 65535 < new) → (receipt ≡ Overrun → 65535 < old + flow)
    → MayRefuse (old + flow) receipt
refuses-so CallWindow old new flow counted call over =
    subst (λ (n : ℕ). 65535 < n) counted (call refl)
refuses-so Overrun old new flow counted call over = over refl
refuses-so Feed old new flow counted call over = tt
refuses-so Discard old new flow counted call over = tt

-- ---- the end of the input

pub going-more : (more told : List Step) → AreGoing more → AreGoing told → AreGoing (more ++ told)
going-more [] told first going = going
going-more (Told event fate ∷ more) told first going = going-more more told first going
going-more (CutOff id ∷ more) told first going = absurd first
going-more (Drains ∷ more) told first going = going-more more told first going
going-more (Lacks ∷ more) told first going = going-more more told first going

not-going : (id : ℕ) (later before : List Step) → AreGoing (later ++ CutOff id ∷ before) → ⊥
not-going id [] before going = going
not-going id (Told event fate ∷ later) before going = not-going id later before going
not-going id (CutOff other ∷ later) before going = going
not-going id (Drains ∷ later) before going = not-going id later before going
not-going id (Lacks ∷ later) before going = not-going id later before going

pub cut-last : (id : ℕ) (cuts heard later before : List Step)
    → cuts ++ heard ≡ later ++ CutOff id ∷ before → events_of cuts ≡ [] → AreGoing heard
    → events_of later ≡ []
cut-last id cuts heard [] before is silent going = refl
cut-last id [] heard (step ∷ later) before is silent going =
    absurd (not-going id (step ∷ later) before
    (subst (λ (steps : List Step). AreGoing steps) is going))
cut-last id (Told event fate ∷ cuts) heard (step ∷ later) before is silent going =
    absurd (not-nil (events_of cuts) event silent)
cut-last id (CutOff other ∷ cuts) heard (step ∷ later) before is silent going =
    let same : CutOff other ≡ step = cc in
    let rest : cuts ++ heard ≡ later ++ CutOff id ∷ before = cc in
    subst (λ (one : Step). events_of (one ∷ later) ≡ []) same
    (cut-last id cuts heard later before rest silent going)
cut-last id (Drains ∷ cuts) heard (step ∷ later) before is silent going =
    let same : Drains ≡ step = cc in
    let rest : cuts ++ heard ≡ later ++ CutOff id ∷ before = cc in
    subst (λ (one : Step). events_of (one ∷ later) ≡ []) same
    (cut-last id cuts heard later before rest silent going)
cut-last id (Lacks ∷ cuts) heard (step ∷ later) before is silent going =
    let same : Lacks ≡ step = cc in
    let rest : cuts ++ heard ≡ later ++ CutOff id ∷ before = cc in
    subst (λ (one : Step). events_of (one ∷ later) ≡ []) same
    (cut-last id cuts heard later before rest silent going)
