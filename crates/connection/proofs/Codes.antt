-- Each code of a reset has its cause by what came.
use Rattle.std.proofs.Common.{
  ◌≡◌,
  ◌≢◌,
  ◌∙◌,
  inl,
  inr,
  ◌<◌,
  ◌≤◌,
  ℕ,
  Bool,
  true,
  false,
  nat_eq,
  List,
  [],
  ◌∷◌,
  ◌++◌,
  Option,
  None,
  Some,
  ap,
  append-nil,
  arith,
  eqb-true,
  length,
  length-append,
  lt_trans,
  map,
  refl,
  subst,
  sym,
}
use Rattle.std.specs.Prelude.{◌&&◌, ◌||◌, MatchOption, if◌then◌else◌, is_none, unwrap_or}
use Rattle.std.specs.List.{list_any}
use Rattle.std.proofs.lemmas.Bool.{cases_Bool}
use Rattle.std.proofs.lemmas.List.{append_assoc}
use Rattle.std.proofs.lemmas.List.Folds.{list_any-append}
use Rattle.std.proofs.lemmas.Grind.{flat_map-append}
use mathlib.Core.List.{IsPrefix}
use Rattle.callhead.specs.declared.head.CallHead.{CallHead}
use Rattle.h2frame.specs.FrameList.{Entry}
use Rattle.h2frame.specs.declared.error_code.ErrorCode.{ErrorCode}
use Rattle.h2frame.specs.declared.error_code.ErrorCode.TheVariants as error
use Rattle.h2frame.specs.declared.frame.Frame.{Frame}
use Rattle.h2frame.specs.declared.kind.FrameKind.TheVariants.{RstStream}
use Rattle.outwriter.specs.declared.control.WriterOrder.TheVariants.{InputEnded, Open, Reset}
use Rattle.outwriter.specs.Frames.{reset_frame}
use Rattle.outwriter.specs.Runs.{IsLawful}
use Rattle.outwriter.specs.Steps.{Order}
use Rattle.outwriter.specs.Steps.{Step as RunStep}
use Rattle.callparts.specs.declared.call_account.CallAccount.{CallAccount}
use Rattle.callparts.specs.declared.report.Ending.{Ending}
use Rattle.session.specs.declared.event.InEvent.{InEvent}
use Rattle.session.specs.declared.event.InEvent.TheVariants as events
use Rattle.session.specs.Events.{Events}
use Rattle.session.specs.Framings.{Framed}
use Rattle.session.specs.Openings.{AreRising, RiseFrom, opening_of, openings}
use Rattle.session.specs.StreamData.{ending_told, piece_of, pieces}
use Rattle.session.proofs.OpeningOrder.{events_rise}
use Rattle.readerloop.specs.Calls.{is_admitted}
use Rattle.readerloop.specs.Orders.{IsDue, is_fed, orders_by}
use Rattle.readerloop.specs.Reports.{AreHeard}
use Rattle.readerloop.specs.Steps.{
  Closing,
  Fate,
  IsRising,
  Missed,
  Step,
  Told,
  CutOff,
  Drains,
  Lacks,
  TurnedAway,
  admitted,
  admitted_by,
  closing_at,
  closing_by,
  data_at,
  earlier,
  events_of,
  fails_as,
  fed_by,
  last_of,
  lost,
  once,
  reported,
  reported_by,
  since,
  unless,
}
use Rattle.readerloop.proofs.EndLemmas.{fed-front, quiet-open}
use Rattle.readerloop.proofs.HalfLemmas.{same_number}
use Rattle.readerloop.proofs.LawLemmas.{pieces-push}
use Rattle.readerloop.proofs.CallSteps.{known-step, since-step}
use Rattle.writerloop.specs.Left.{left_in}
use Rattle.writerloop.specs.Orders.{IsAmong, Obeys}
use Rattle.connection.specs.Causes.{
  HasCauseOf,
  HasOwnCause,
  HasWriterCause,
  LacksData,
  WasCut,
  WasOpened,
  WasTaken,
  WasWritten,
}
use Rattle.connection.specs.Codes.{HasCodeCause, MayHaveCode, MissesData, WasUnended}
use Rattle.connection.specs.Heard.{HasPut}
use Rattle.connection.specs.Left.{AreLeft}
use Rattle.connection.specs.Limits.{AreJustified, EndsLast}
use Rattle.connection.proofs.Causes.{IsCaused, put-caused, taken-resets}
use Rattle.connection.proofs.Heard.{silent-more}
use Rattle.connection.proofs.Limits.{
  all-began,
  all-below,
  justified-at,
  one-too-many,
  over-window,
  parts-at,
}
use Rattle.connection.proofs.Left.{was-left, written-ordered}
use Rattle.connection.proofs.RunOrders.{Each, each-among, each-append, each-front, each-more}
use Rattle.connection.proofs.Tallies.{cut-last}

and-both : (a b : Bool) → (a && b) ≡ true → (a ≡ true) × (b ≡ true)
and-both true b is = (refl, is)
and-both false b is = absurd cc

or-false : (b : Bool) → (b || false) ≡ true → b ≡ true
or-false true is = refl
or-false false is = is

none-of : (found : Option Closing) → is_none found ≡ true → found ≡ None
none-of None is = refl
none-of (Some kind) is = absurd cc

-- ---- since a call was admitted

known-more : (id : ℕ) (later rest : List Step) → is_admitted id rest ≡ true
    → is_admitted id (later ++ rest) ≡ true
known-more id [] rest known = known
known-more id (step ∷ later) rest known =
    known-step (later ++ rest) step id (known-more id later rest known)

known-below : (id : ℕ) (told : List Step) → IsRising told → is_admitted id told ≡ true
    → id ≤ last_of told
known-below id [] rising known = absurd cc
known-below id (step ∷ before) rising known =
    by (admitted_by step) rising.0 known (known-below id before rising.1)
  where
    by : (found : Option ℕ) → MatchOption found (Unit {0}) (λ n. last_of before < n)
        → list_any (nat_eq id) (admitted before ++ once found) ≡ true
        → (is_admitted id before ≡ true → id ≤ last_of before)
        → id ≤ unwrap_or found (last_of before)
    by None rises is low =
        low
        (sym (ap (λ (ids : List ℕ). list_any (nat_eq id) ids) (append-nil (admitted before))) ∙ is)
    by (Some other) rises is low =
        let all = sym (list_any-append (nat_eq id) (admitted before) (other ∷ [])) ∙ is in
        elim (cases_Bool (is_admitted id before)) [
          | inl there ↦ omega (arith, low there, rises)
          | inr apart ↦
              let one : (nat_eq id other || false) ≡ true =
              ap (λ (b : Bool). b || (nat_eq id other || false)) (sym apart) ∙ all in
              omega (arith, eqb-true id other (or-false (nat_eq id other) one))
        ]

-- no later call has the stream
since-more : (id : ℕ) (later rest : List Step) → IsRising (later ++ rest)
    → is_admitted id rest ≡ true → since id (later ++ rest) ≡ later ++ since id rest
since-more id [] rest rising known = refl
since-more id (step ∷ later) rest rising known =
    since-step (later ++ rest) step id rising.0
    (known-below id (later ++ rest) rising.1 (known-more id later rest known))
    ∙ ap (λ (steps : List Step). step ∷ steps) (since-more id later rest rising.1 known)

fed-parts : (id : ℕ) (told : List Step) → is_fed id told ≡ true
    → (is_admitted id told ≡ true) × (closing_by id (since id told) ≡ None)
fed-parts id told is =
    let both = and-both (is_admitted id told) (is_none (closing_by id (since id told))) is in
    (both.0, none-of (closing_by id (since id told)) both.1)

-- ---- 8

was-unended : (told : List Step) (id : ℕ) → IsRising told → EndsLast told → WasCut id told
    → WasUnended id told
was-unended told id rising ends was =
    let later = was.heard.0 in
    let rest = CutOff id ∷ was.before in
    let parts = fed-parts id was.before was.open_half in
    let known : is_admitted id rest ≡ true = known-more id (CutOff id ∷ []) was.before parts.0 in
    let split : since id told ≡ later ++ since id rest =
    ap (λ (steps : List Step). since id steps) was.heard.1
    ∙ since-more id later rest
    (subst (λ (steps : List Step). IsRising steps) was.heard.1 rising) known in
    let silent : events_of later ≡ [] =
    cut-last id ends.cuts ends.heard later was.before (sym ends.parts ∙ was.heard.1)
    ends.silent ends.going in (
      subst (λ (steps : List Step). is_admitted id steps ≡ true) (sym was.heard.1)
          (known-more id later rest known),
      ap (λ (steps : List Step). ending_told id (events_of steps)) split
          ∙ (ap (λ (es : List InEvent). ending_told id es)
          (silent-more later (since id rest) silent)
          ∙ quiet-open id (since id was.before) parts.1),
    )

-- ---- 11

least : (closing : Option Closing) (bytes : List ℕ) → length (unless closing bytes) ≤ length bytes
least None bytes = omega arith
least (Some kind) bytes = omega arith

no-bytes : (found : Option Closing) → length (unless found []) ≡ 0
no-bytes None = refl
no-bytes (Some kind) = refl

short-step : (id : ℕ) (step : Step) (before : List Step)
    → length (fed_by id before) < length (pieces id (events_of before))
    → length (fed_by id (step ∷ before)) < length (pieces id (events_of (step ∷ before)))
short-step id (Told event fate) before short =
    let found = closing_by id (Told event fate ∷ before) in
    omega (
      arith,
      short,
      length-append (fed_by id before) (unless found (piece_of id event)),
      least found (piece_of id event),
      ap (λ (bytes : List ℕ). length bytes) (pieces-push id (events_of before) event),
      length-append (pieces id (events_of before)) (piece_of id event),
    )
short-step id (CutOff other) before short =
    let found = closing_by id (CutOff other ∷ before) in
    omega (arith, short, length-append (fed_by id before) (unless found []), no-bytes found)
short-step id Drains before short =
    let found = closing_by id (Drains ∷ before) in
    omega (arith, short, length-append (fed_by id before) (unless found []), no-bytes found)
short-step id Lacks before short =
    let found = closing_by id (Lacks ∷ before) in
    omega (arith, short, length-append (fed_by id before) (unless found []), no-bytes found)

-- what came more was fed at most
short-more : (id : ℕ) (later rest : List Step)
    → length (fed_by id rest) < length (pieces id (events_of rest))
    → length (fed_by id (later ++ rest)) < length (pieces id (events_of (later ++ rest)))
short-more id [] rest short = short
short-more id (step ∷ later) rest short =
    short-step id step (later ++ rest) (short-more id later rest short)

some-bytes : (piece : List ℕ) → piece ≢ [] → 0 < length piece
some-bytes [] some = absurd (some refl)
some-bytes (byte ∷ bytes) some = omega arith

none-fed : (found : Option Closing) (kind : Closing) (bytes : List ℕ)
    → unless (earlier found (Some kind)) bytes ≡ []
none-fed None kind bytes = refl
none-fed (Some other) kind bytes = refl

-- a piece with bytes that its lane refuses is not fed
short-here : (id counted : ℕ) (piece : List ℕ) (before : List Step) → piece ≢ []
    → length (fed_by id (Told (events.Data id piece counted) Missed ∷ before))
    < length (pieces id (events_of (Told (events.Data id piece counted) Missed ∷ before)))
short-here id counted piece before some =
    let step = Told (events.Data id piece counted) Missed in
    let kind = fails_as error.EnhanceYourCalm in
    let closes : closing_at id step ≡ Some kind =
    ap (λ (b : Bool). if b then lost piece Missed else None) (same_number id) in
    let unfed : unless (closing_by id (step ∷ before)) (data_at id step) ≡ [] =
    ap (λ (found : Option Closing).
    unless (earlier (closing_by id before) found) (data_at id step)) closes
    ∙ none-fed (closing_by id before) kind (data_at id step) in
    let brings : piece_of id (events.Data id piece counted) ≡ piece =
    ap (λ (b : Bool). if b then piece else []) (same_number id) in
    let front = fed-front id before in
    omega (
      arith,
      some-bytes piece some,
      ap (λ (bytes : List ℕ). length (fed_by id before ++ bytes)) unfed
          ∙ ap (λ (bytes : List ℕ). length bytes) (append-nil (fed_by id before)),
      ap (λ (bytes : List ℕ). length bytes)
          (pieces-push id (events_of before) (events.Data id piece counted)),
      length-append (pieces id (events_of before)) (piece_of id (events.Data id piece counted)),
      ap (λ (bytes : List ℕ). length bytes) brings,
      sym (length-append (fed_by id before) front.0)
          ∙ ap (λ (bytes : List ℕ). length bytes) front.1,
    )

not-less : (n m : ℕ) → n < m → n ≡ m → ⊥
not-less n m less same = omega (arith, less, same)

misses-data : (told : List Step) (id : ℕ) → IsRising told → AreJustified told → LacksData id told
    → MissesData id told
misses-data told id rising just lacks =
    let later = lacks.heard.0 in
    let step = Told (events.Data id lacks.piece lacks.counted) Missed in
    let rest = step ∷ lacks.before in
    let due : IsDue id lacks.piece lacks.before =
    justified-at later step lacks.before
    (subst (λ (steps : List Step). AreJustified steps) lacks.heard.1 just) in
    let known : is_admitted id rest ≡ true =
    known-more id (step ∷ []) lacks.before (fed-parts id lacks.before due.1).0 in
    let split : since id told ≡ later ++ since id rest =
    ap (λ (steps : List Step). since id steps) lacks.heard.1
    ∙ since-more id later rest
    (subst (λ (steps : List Step). IsRising steps) lacks.heard.1 rising) known in
    let short =
    short-more id later (since id rest)
    (short-here id lacks.counted lacks.piece (since id lacks.before) due.0) in
    let all =
    subst (λ (steps : List Step). length (fed_by id steps) < length (pieces id (events_of steps)))
    (sym split) short in (
      subst (λ (steps : List Step). is_admitted id steps ≡ true) (sym lacks.heard.1)
          (known-more id later rest known),
      λ same.
          not-less (length (fed_by id (since id told)))
          (length (pieces id (events_of (since id told)))) all
          (ap (λ (bytes : List ℕ). length bytes) same),
    )

-- ---- 7

rise-behind : (last : ℕ) (ids : List ℕ) (id : ℕ) (more : List ℕ) → RiseFrom last (ids ++ id ∷ more)
    → RiseFrom id more
rise-behind last [] id more rise = rise.1
rise-behind last (first ∷ ids) id more rise = rise-behind first ids id more rise.1

behind : (ids : List ℕ) (id : ℕ) (more : List ℕ) → AreRising (ids ++ id ∷ more) → RiseFrom id more
behind [] id more rise = rise
behind (first ∷ ids) id more rise = rise-behind first ids id more rise

above : (last : ℕ) (ids : List ℕ) → RiseFrom last ids → Each (λ (other : ℕ). last < other) ids
above last [] rise = tt
above last (id ∷ ids) rise = (
  rise.0,
  each-more (λ (other : ℕ). id < other) (λ (other : ℕ). last < other)
      (λ other more. lt_trans rise.0 more) ids (above id ids rise.1),
)

reported-append : (later rest : List Step)
    → reported (later ++ rest) ≡ reported rest ++ reported later
reported-append [] rest = sym (append-nil (reported rest))
reported-append (step ∷ later) rest =
    ap (λ (ids : List ℕ). ids ++ once (reported_by step)) (reported-append later rest)
    ∙ append_assoc (reported rest) (reported later) (once (reported_by step))

other-than : (id other : ℕ) → (nat_eq id other ≡ true → ⊥) → nat_eq id other ≡ false
other-than id other not = elim (cases_Bool (nat_eq id other)) [
  | inl same ↦ absurd (not same)
  | inr apart ↦ apart
]

none-among : (id : ℕ) (ids : List ℕ) → Each (λ (other : ℕ). nat_eq id other ≡ false) ids
    → list_any (nat_eq id) ids ≡ false
none-among id [] each = refl
none-among id (first ∷ ids) each =
    ap (λ (b : Bool). b || list_any (nat_eq id) ids) each.0 ∙ none-among id ids each.1

is-apart : (came : List ℕ) (all : List InEvent) (told later : List Step) (id : ℕ) (head : CallHead)
    (fate : Fate) (before : List Step)
    → Events came all → IsPrefix (events_of told) all
    → told ≡ later ++ Told (events.Open id head) fate ∷ before
    → reported_by (Told (events.Open id head) fate) ≡ None
    → list_any (nat_eq id) (reported told) ≡ false
is-apart came all told later id head fate before are front is none =
    let step = Told (events.Open id head) fate in
    let parts = parts-at all told later id head fate before is front in
    let rise : AreRising
    (openings (events_of before) ++ id ∷ openings (events_of later ++ front.0)) =
    subst (λ (ids : List ℕ). AreRising ids) (ap openings parts
    ∙ flat_map-append opening_of (events_of before)
    (events.Open id head ∷ (events_of later ++ front.0))) (events_rise came all are) in
    let low =
    all-below (openings (events_of before)) id (openings (events_of later ++ front.0)) rise in
    let high : Each (λ (other : ℕ). id < other) (openings (events_of later)) =
    each-front (λ (other : ℕ). id < other) (openings (events_of later)) (openings front.0)
    (subst (λ (ids : List ℕ). Each (λ (other : ℕ). id < other) ids)
    (flat_map-append opening_of (events_of later) front.0)
    (above id (openings (events_of later ++ front.0))
    (behind (openings (events_of before)) id (openings (events_of later ++ front.0)) rise))) in
    let first =
    each-more (λ (other : ℕ). other < id) (λ (other : ℕ). nat_eq id other ≡ false) (λ other less.
    other-than id other (λ same. not-less other id less (sym (eqb-true id other same))))
    (reported before) (all-began (λ (other : ℕ). other < id) before low) in
    let last =
    each-more (λ (other : ℕ). id < other) (λ (other : ℕ). nat_eq id other ≡ false)
    (λ other less. other-than id other (λ same. not-less id other less (eqb-true id other same)))
    (reported later) (all-began (λ (other : ℕ). id < other) later high) in
    let ids : reported told ≡ reported before ++ reported later =
    ap reported is
    ∙ (reported-append later (step ∷ before)
    ∙ ap (λ (found : Option ℕ). (reported before ++ once found) ++ reported later) none
    ∙ ap (λ (xs : List ℕ). xs ++ reported later) (append-nil (reported before))) in
    ap (λ (xs : List ℕ). list_any (nat_eq id) xs) ids
    ∙ none-among id (reported before ++ reported later) (each-append
    (λ (other : ℕ). nat_eq id other ≡ false) (reported before) (reported later) first last)

-- ---- 2

among-front : (order : Order) (front rest : List Order) → IsAmong order front
    → IsAmong order (front ++ rest)
among-front order [] rest among = absurd among
among-front order (one ∷ front) rest (inl is) = inl is
among-front order (one ∷ front) rest (inr among) = inr (among-front order front rest among)

opened-known : (told : List Step) (put : List Order) (id : ℕ)
    → HasPut (orders_by told ++ InputEnded ∷ []) put → WasOpened id put → is_admitted id told ≡ true
opened-known told put id has opened =
    each-among (IsCaused told) (Open id tt) put
    (subst (λ (orders : List Order). IsAmong (Open id tt) orders) (sym opened.parts)
    (among-front (Open id tt) opened.front opened.rest opened.opens)) (put-caused told put has)

-- ---- all

module _ (end : Ending) (came : List ℕ) (told : List Step) (put : List Order) (run : List RunStep)
    (given : List InEvent) (entries : List Entry) (accounts : List CallAccount)
    (heard : AreHeard end came (events_of told)) (rising : IsRising told) (just : AreJustified told)
    (ends : EndsLast told)
    (are : Events came given) (framed : Framed came given entries)
    (left : AreLeft (left_in run) accounts)
    (streams : map (λ (account : CallAccount). account.id) accounts ≡ reported told) where
  own-code : (id : ℕ) (code : ErrorCode) → WasTaken (Reset id code true) run
      → HasOwnCause code id told → HasCodeCause code id entries told put run accounts
  own-code id error.ProtocolError was has = has
  own-code id error.InternalError was has = absurd has
  own-code id error.FlowControlError was has =
      inl (over-window came given entries told id framed (heard.front given are) just has)
  own-code id error.RefusedStream was has = (
    one-too-many came given told id are (heard.front given are) just has,
    is-apart came given told has.heard.0 id has.head (TurnedAway has.fault) has.before are
        (heard.front given are) has.heard.1 refl,
  )
  own-code id error.Cancel was has = was-unended told id rising ends has
  own-code id error.EnhanceYourCalm was has = misses-data told id rising just has
  own-code id error.NoError was has = absurd has
  own-code id error.SettingsTimeout was has = absurd has
  own-code id error.StreamClosed was has = absurd has
  own-code id error.FrameSizeError was has = absurd has
  own-code id error.CompressionError was has = absurd has
  own-code id error.ConnectError was has = absurd has
  own-code id error.InadequateSecurity was has = absurd has
  own-code id error.Http11Required was has = absurd has
  own-code id (error.Unknown number) was has = absurd has

  module _ (has : HasPut (orders_by told ++ InputEnded ∷ []) put) where
    writer-code : (id : ℕ) (code : ErrorCode) → WasTaken (Reset id code true) run
        → HasWriterCause code id put run → HasCodeCause code id entries told put run accounts
    writer-code id error.InternalError was opened = (
      opened,
      was-left id told run accounts left streams (opened-known told put id has opened) was,
    )
    writer-code id error.FlowControlError was would = inr would
    writer-code id error.ProtocolError was none = absurd none
    writer-code id error.RefusedStream was none = absurd none
    writer-code id error.Cancel was none = absurd none
    writer-code id error.EnhanceYourCalm was none = absurd none
    writer-code id error.NoError was none = absurd none
    writer-code id error.SettingsTimeout was none = absurd none
    writer-code id error.StreamClosed was none = absurd none
    writer-code id error.FrameSizeError was none = absurd none
    writer-code id error.CompressionError was none = absurd none
    writer-code id error.ConnectError was none = absurd none
    writer-code id error.InadequateSecurity was none = absurd none
    writer-code id error.Http11Required was none = absurd none
    writer-code id (error.Unknown number) was none = absurd none

    code-of : (id : ℕ) (code : ErrorCode) → WasTaken (Reset id code true) run
        → HasCauseOf code id told put run → MayHaveCode code id entries told put run accounts
    code-of id code was (inl (inl error)) = inl error
    code-of id code was (inl (inr own)) = inr (own-code id code was own)
    code-of id code was (inr writers) = inr (writer-code id code was writers)

    pub order-codes : Obeys true put run → (id : ℕ) (code : ErrorCode)
        → WasTaken (Reset id code true) run → MayHaveCode code id entries told put run accounts
    order-codes obeys id code was =
        code-of id code was (taken-resets told put run id code has obeys was)

    pub reset-codes : Obeys true put run → IsLawful run → (frame : Frame) → WasWritten frame run
        → frame.head.kind ≡ RstStream
        → (code : ErrorCode) × (frame ≡ reset_frame frame.head.stream code)
        × MayHaveCode code frame.head.stream entries told put run accounts
    reset-codes obeys lawful frame was is =
        let found = written-ordered run lawful frame was is in
        (found.0, found.1, order-codes obeys frame.head.stream found.0 found.2)
