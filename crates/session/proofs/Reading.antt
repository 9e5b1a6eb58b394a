-- One more entry of the bytes behind the preface.
use Rattle.std.proofs.Common.{
  ◌≡◌,
  ◌≢◌,
  ◌<◌,
  ℕ,
  ◌⊎◌,
  inl,
  inr,
  Bool,
  true,
  false,
  cond,
  List,
  [],
  ◌∷◌,
  ◌++◌,
  length,
  map,
  refl,
  sym,
  ap,
  subst,
  ◌∙◌,
  arith,
}
use Rattle.std.specs.Prelude.{
  Option,
  Some,
  None,
  Result,
  Ok,
  Err,
  IfErr,
  IsNone,
  ◌↔◌,
  if◌then◌else◌,
  ◌==◌,
}
use Rattle.std.proofs.lemmas.Bool.{cases_Bool, eqb-true}
use Rattle.std.proofs.lemmas.List.{length-append}
use Rattle.h2frame.specs.declared.fault.FrameFault.{FrameFault}
use Rattle.h2frame.specs.declared.fault.FrameFault.TheVariants.{
  TooLong,
  BadLength,
  BadPadding,
  WrongStream,
  ZeroIncrement,
  OutOfMemory,
}
use Rattle.h2frame.specs.declared.frame.Frame.{Frame}
use Rattle.h2frame.specs.FrameList.{
  Entry,
  Whole,
  NoIncrement,
  Spells,
  Joined,
  IsUnfinished,
  IsFaulty,
  HasCause,
  refused,
  answered,
}
use Rattle.hpack_codec.specs.Table.{Table}
use Rattle.streamstates.specs.Halves.{Streams}
use Rattle.reasons.specs.declared.Reason.TheVariants as reason
use Rattle.session.specs.declared.event.InEvent.{InEvent}
use Rattle.session.specs.declared.context.Position.{Position}
use Rattle.session.specs.declared.context.Position.TheVariants.{First, Between, Inside}
use Rattle.session.specs.Frames.{fatal}
use Rattle.session.specs.Events.{Situation, start, IsPartial, Passes, Faulty, Unfinished}
use Rattle.session.specs.CoreStates.{
  IsSound,
  IsSoundNext,
  Leads,
  Stops,
  LeadsOn,
  Advances,
  IsEnd,
  ReadsTo,
  IsOver,
  ReadsNext,
}
use Rattle.session.proofs.Groups.{passes_none}
use Rattle.session.proofs.Positions.{closed}

-- ---- less is left behind an entry

some_text : (entry : Entry) (text : List ℕ) → Spells text entry → 0 < length text
some_text (Whole frame) text (skipped, fits, spells, fine) = omega (arith, ap length spells)
some_text (NoIncrement stream) text (some, frame, (skipped, fits, spells, faulty)) =
    omega (arith, ap length spells)

pub less_left : (entry : Entry) (waiting left : List ℕ) → Joined waiting (entry ∷ []) left
    → length left < length waiting
less_left entry waiting left (text, more, parts, spells, e) = omega
    (arith, ap length parts, length-append text more, some_text entry text spells, ap length e)

-- an answer is one entry or none
abbrev pub IsOneOrNone : List Entry → Type 0
IsOneOrNone [] = Unit {0}
IsOneOrNone (entry ∷ []) = Unit {0}
IsOneOrNone (entry ∷ next ∷ entries) = ⊥

refused_one : (fault : FrameFault) → IsOneOrNone (refused fault)
refused_one TooLong = tt
refused_one BadLength = tt
refused_one BadPadding = tt
refused_one WrongStream = tt
refused_one OutOfMemory = tt
refused_one (ZeroIncrement stream) =
    elim (stream == 0) as (λ (b : Bool). IsOneOrNone (if b then [] else NoIncrement stream ∷ []))
    [ true ↦ tt | false ↦ tt ]

answered_one : (answer : Result Frame FrameFault) → IsOneOrNone (answered (Some answer))
answered_one (Ok frame) = tt
answered_one (Err fault) = refused_one fault

shorter : (entries : List Entry) (waiting left : List ℕ) → IsOneOrNone entries → entries ≢ []
    → Joined waiting entries left → length left < length waiting
shorter [] waiting left one some joined = absurd (some refl)
shorter (entry ∷ []) waiting left one some joined = less_left entry waiting left joined
shorter (entry ∷ next ∷ entries) waiting left one some joined = absurd one

some_or_none : (entries : List Entry) → (entries ≡ []) ⊎ (entries ≢ [])
some_or_none [] = inl refl
some_or_none (entry ∷ entries) = inr (λ (e : entry ∷ entries ≡ []). cc)

pub reader_shrinks : (answer : Result Frame FrameFault) (next : Option Position)
    (position : Position) (waiting left : List ℕ)
    → ((bytes : List ℕ) (entries : List Entry) → Joined bytes entries waiting
    → Joined bytes (entries ++ answered (Some answer)) left)
    → (answered (Some answer) ≡ [] → next ≡ None) → next ≡ Some position
    → length left < length waiting
reader_shrinks answer next position waiting left list none on =
    elim (some_or_none (answered (Some answer))) [
      | inl e ↦
          let over : ◌≡◌ {A = Option Position} None (Some position) = sym (none e) ∙ on in
          absurd cc
      | inr some ↦
          shorter (answered (Some answer)) waiting left (answered_one answer) some
          (list waiting [] refl)
    ]

-- ---- a fault stands

no_stream : (stream : ℕ) → refused (ZeroIncrement stream) ≡ [] → stream ≡ 0
no_stream stream none =
    elim (cases_Bool (stream == 0)) [
      | inl same ↦ eqb-true stream 0 same
      | inr other ↦
          let some : ◌≡◌ {A = List Entry} (NoIncrement stream ∷ []) [] =
          ap (λ (b : Bool). cond b [] (NoIncrement stream ∷ [])) (sym other) ∙ none in
          absurd cc
    ]

pub fault_stands : (fault : FrameFault) (waiting : List ℕ) → HasCause fault waiting
    → refused fault ≡ [] → fault ≢ OutOfMemory → IsFaulty fault waiting
fault_stands TooLong waiting cause none other = cause
fault_stands BadLength waiting cause none other = cause
fault_stands BadPadding waiting cause none other = cause
fault_stands WrongStream waiting cause none other = cause
fault_stands OutOfMemory waiting cause none other = absurd (other refl)
fault_stands (ZeroIncrement stream) waiting (inl (rest, (text, more, parts, spells, e))) none
    other = absurd (omega (arith, spells.0, no_stream stream none))
fault_stands (ZeroIncrement stream) waiting (inr faulty) none other = faulty

-- what came at a position is whole groups, and nothing behind them or a header block that isn't
-- whole
pub record Stood (entries : List Entry) (given : List InEvent) : Type 0 where
  pub behind : List Entry
  pub now : Situation
  pub passes : Passes entries behind given now
  pub partial : IsPartial now.history behind

pub stood : (at : Position) (entries : List Entry) (given : List InEvent) (streams : Streams)
    (kept : Option Table)
    → Leads entries given at streams kept → Stood entries given
stood First entries given streams kept (none, silent, keeps, table) =
    record {
      behind = [];
      now = start;
      passes =
          subst (λ (es : List Entry). Passes es [] given start) (sym none)
          (subst (λ (es : List InEvent). Passes [] [] es start) (sym silent) passes_none);
      partial = inl refl;
    }
stood Between entries given streams kept (history, passed, keeps) =
    record {
      behind = [];
      now = record { history = history; kept = kept };
      passes = passed.passes;
      partial = inl refl;
    }
stood (Inside block judged) entries given streams kept (still, (history, frames, passed, inside)) =
    record {
      behind = map Whole frames;
      now = record { history = history; kept = kept };
      passes = passed.passes;
      partial = inr (frames, block, inside.begun, still, refl);
    }

faulted : (at : Position) (entries : List Entry) (rest : List ℕ) (before old new : List InEvent)
    (streams : Streams) (kept : Option Table) (fault : FrameFault)
    → Leads entries (before ++ old) at streams kept → IsFaulty fault rest
    → new ≡ old ++ fatal (reason.Frame fault) → Stops entries rest (before ++ new)
faulted at entries rest before old new streams kept fault leads faulty e =
    let s = stood at entries (before ++ old) streams kept leads in
    closed entries s.behind rest before old (fatal (reason.Frame fault)) new s.now (Faulty fault)
    s.passes (s.partial, faulty, refl) (λ (u : Faulty fault ≡ Unfinished). cc) e

-- ---- the step

over_at : (text : List ℕ) (given : List InEvent) (next : Option Position) (waiting : List ℕ)
    (streams : Streams) (kept : Option Table)
    → next ≡ None → IsOver text given → ReadsNext text given next waiting streams kept
over_at text given next waiting streams kept none over =
    subst (λ (p : Option Position). ReadsNext text given p waiting streams kept) (sym none) over

leads_next : (text : List ℕ) (given : List InEvent) (next : Option Position) (waiting : List ℕ)
    (streams : Streams) (kept : Option Table) (entries : List Entry)
    → Joined text entries waiting → LeadsOn entries given next streams kept
    → ReadsNext text given next waiting streams kept
leads_next text given (Some position) waiting streams kept entries joined leads =
    (entries, joined, leads)
leads_next text given None waiting streams kept entries joined stops =
    (entries, waiting, joined, stops waiting)

ends_at_fault : (answer : Result Frame FrameFault) (at : Position) (entries : List Entry)
    (waiting : List ℕ) (before old new : List InEvent) (streams : Streams) (kept : Option Table)
    → answered (Some answer) ≡ [] → IfErr answer (λ fault. HasCause fault waiting)
    → IsEnd answer old new → Leads entries (before ++ old) at streams kept
    → Stops entries waiting (before ++ new)
ends_at_fault (Ok frame) at entries waiting before old new streams kept none cause end
    leads = absurd end
ends_at_fault (Err fault) at entries waiting before old new streams kept none cause
    (memory, e) leads =
    faulted at entries waiting before old new streams kept fault leads
    (fault_stands fault waiting cause none memory) e

pub reads_next : (answer : Result Frame FrameFault) (at : Position) (next : Option Position)
    (waiting left : List ℕ) (streams new_streams : Streams) (kept new_kept : Option Table)
    (old new : List InEvent)
    → ((bytes : List ℕ) (entries : List Entry) → Joined bytes entries waiting
    → Joined bytes (entries ++ answered (Some answer)) left)
    → IfErr answer (λ fault. HasCause fault waiting)
    → (answered (Some answer) ≢ []
    → Advances at streams kept old (answered (Some answer)) next new_streams new_kept new)
    → (answered (Some answer) ≡ [] → next ≡ None)
    → (answered (Some answer) ≡ [] → IsEnd answer old new)
    → (text : List ℕ) (before : List InEvent) → ReadsTo text (before ++ old) at waiting streams kept
    → ReadsNext text (before ++ new) next left new_streams new_kept
reads_next answer at next waiting left streams new_streams kept new_kept old new list cause advances
    none end text before (entries, joined, leads) =
    elim (some_or_none (answered (Some answer))) [
      | inl e ↦
          over_at text (before ++ new) next left new_streams new_kept (none e) (
            entries,
            waiting,
            joined,
            ends_at_fault answer at entries waiting before old new streams kept e
                cause (end e) leads,
          )
      | inr some ↦
          leads_next text (before ++ new) next left new_streams new_kept
          (entries ++ answered (Some answer)) (list text entries joined)
          (advances some entries before leads)
    ]

-- the bytes of a piece
pub reads_more : (text piece : List ℕ) (given : List InEvent) (at : Position)
    (waiting left : List ℕ) (streams : Streams) (kept : Option Table)
    → ((bytes : List ℕ) (entries : List Entry) → Joined bytes entries waiting
    → Joined (bytes ++ piece) entries left)
    → ReadsTo text given at waiting streams kept
    → ReadsTo (text ++ piece) given at left streams kept
reads_more text piece given at waiting left streams kept list (entries, joined, leads) =
    (entries, list text entries joined, leads)

-- no further entry is whole
pub reads_none : (answer : Option (Result Frame FrameFault)) (text : List ℕ) (given : List InEvent)
    (at : Position) (waiting left : List ℕ) (streams : Streams) (kept : Option Table)
    → answer ≡ None → (IsNone answer ↔ IsUnfinished waiting)
    → (answered answer ≡ [] → left ≡ waiting) → ReadsTo text given at waiting streams kept
    → ReadsTo text given at left streams kept × IsUnfinished left
reads_none answer text given at waiting left streams kept none unfinished same reads =
    let e : left ≡ waiting = same (ap answered none) in
    let rest : IsUnfinished waiting =
    unfinished.0 (subst (λ (a : Option (Result Frame FrameFault)). IsNone a) (sym none) refl) in
    subst (λ (w : List ℕ). ReadsTo text given at w streams kept × IsUnfinished w)
    (sym e) (reads, rest)

pub reads_end : (text : List ℕ) (given : List InEvent) (next : Option Position) (waiting : List ℕ)
    (streams : Streams) (kept : Option Table)
    → next ≡ None → ReadsNext text given next waiting streams kept → IsOver text given
reads_end text given next waiting streams kept none reads =
    subst (λ (p : Option Position). ReadsNext text given p waiting streams kept) none reads

pub reads_on : (text : List ℕ) (given : List InEvent) (next : Option Position) (position : Position)
    (waiting : List ℕ) (streams : Streams) (kept : Option Table)
    → next ≡ Some position → ReadsNext text given next waiting streams kept
    → ReadsTo text given position waiting streams kept
reads_on text given next position waiting streams kept some reads =
    subst (λ (p : Option Position). ReadsNext text given p waiting streams kept) some reads

pub sound_at : (next : Option Position) (position : Position) (streams : Streams)
    → next ≡ Some position → IsSoundNext next streams → IsSound position streams
sound_at next position streams some sound =
    subst (λ (p : Option Position). IsSoundNext p streams) some sound
