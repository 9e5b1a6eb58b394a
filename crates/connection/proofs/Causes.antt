-- Each reset that is to be written has its cause.
use Rattle.std.proofs.Common.{
  ◌≡◌,
  ◌∙◌,
  ◌⊎◌,
  inl,
  inr,
  ℕ,
  Bool,
  true,
  false,
  true≢false,
  nat_eq,
  List,
  [],
  ◌∷◌,
  ◌++◌,
  Option,
  None,
  Some,
  ap,
  eqb-true,
  refl,
  subst,
  sym,
  ◌+◌,
}
use Rattle.std.specs.Prelude.{◌==◌, ◌||◌, if◌then◌else◌, length}
use Rattle.std.specs.List.{list_any}
use Rattle.std.proofs.lemmas.Bool.{eq-eqb}
use Rattle.std.proofs.lemmas.List.{append_assoc}
use Rattle.std.proofs.lemmas.List.Folds.{list_any-append}
use Rattle.limits.specs.declared.TheConstants.{MAX_STREAMS}
use Rattle.callhead.specs.declared.fault.HeadFault.{HeadFault}
use Rattle.callhead.specs.declared.head.CallHead.{CallHead}
use Rattle.callhead.specs.StatusFields.{refusal_of, unknown_method}
use Rattle.connbook.specs.declared.answers.AdmitFault.TheVariants as refused
use Rattle.connbook.specs.declared.answers.Receipt.TheVariants.{Feed, Discard, CallWindow, Overrun}
use Rattle.writerloop.specs.OwnOrders.{own_order}
use Rattle.h2frame.specs.declared.error_code.ErrorCode.{ErrorCode}
use Rattle.h2frame.specs.declared.error_code.ErrorCode.TheVariants as error
use Rattle.h2frame.specs.declared.frame.Frame.{Frame}
use Rattle.h2frame.specs.declared.kind.FrameKind.TheVariants as kind
use Rattle.lists.specs.declared.field.Field.{Field}
use Rattle.outwriter.specs.declared.control.WriterOrder.TheVariants.{
  Settings,
  Ping,
  Probe,
  Window,
  Open,
  Refuse,
  Reset,
  Goaway,
  InputEnded,
  Close,
}
use Rattle.outwriter.specs.Calls.{IsOther, IsRefused, Refuses, TellOthers}
use Rattle.outwriter.specs.Frames.{reset_frame}
use Rattle.outwriter.specs.Parts.{IsPart, Mark}
use Rattle.outwriter.specs.Runs.{Asks, IsAsked, IsLawful, is_opened, opens_stream}
use Rattle.outwriter.specs.Steps.{Order, Taken, Granted, Written, Returned}
use Rattle.outwriter.specs.Steps.{Step as RunStep}
use Rattle.reasons.specs.declared.Reason.TheVariants as reason
use Rattle.session.specs.declared.event.PeerControl.{PeerControl}
use Rattle.session.specs.declared.event.PeerControl.TheVariants as controls
use Rattle.session.specs.declared.event.InEvent.{InEvent}
use Rattle.session.specs.declared.event.InEvent.TheVariants as events
use Rattle.readerloop.specs.Calls.{is_admitted}
use Rattle.readerloop.specs.Orders.{
  begun,
  came,
  came_loose,
  is_fed,
  last_stream,
  named,
  named_with,
  news_of,
  opened,
  orders_at,
  orders_by,
  refused_head,
  without_head,
}
use Rattle.readerloop.specs.Steps.{
  Fate,
  Plain,
  Admitted,
  Unserved,
  NoWorker,
  Stopped,
  Unknown,
  TurnedAway,
  Received,
  Missed,
  Lacking,
  Step,
  Told,
  CutOff,
  Drains,
  Lacks,
  is_draining,
  WasTold,
  admitted,
  admitted_by,
  events_of,
  once,
}
use Rattle.writerloop.specs.Orders.{IsAmong, Obeys}
use Rattle.connection.specs.Causes.{
  HasCauseOf,
  HasOwnCause,
  HasResetCause,
  IsRefusal,
  IsRefusedWith,
  WasHeard,
  WasTaken,
  WasWritten,
}
use Rattle.connection.specs.Limits.{AreFounded}
use Rattle.connection.specs.Heard.{HasPut}
use Rattle.connection.proofs.Founded.{founded-at}
use Rattle.connection.proofs.RunOrders.{
  Each,
  EachTaken,
  IsOfOwn,
  each-among,
  each-append,
  each-more,
  each-put,
  obeys-each,
  taken-one,
}

-- ---- what an order is for

-- this holds of each reset that is to be written, of each stream that is opened, and of each that
-- is refused
abbrev pub CausedBy : (ℕ → ErrorCode → Type 0) → (ℕ → Type 0)
    → (ℕ → List Field → Type 0) → Order → Type 0
CausedBy P O R (Reset id code true) = P id code
CausedBy P O R (Open id sender) = O id
CausedBy P O R (Refuse id fields) = R id fields
CausedBy P O R _ = Unit {0}

pub caused-more : (P Q : ℕ → ErrorCode → Type 0) (O N : ℕ → Type 0) (R S : ℕ → List Field → Type 0)
    → ((id : ℕ) (code : ErrorCode) → P id code → Q id code) → ((id : ℕ) → O id → N id)
    → ((id : ℕ) (fields : List Field) → R id fields → S id fields) → (order : Order)
    → CausedBy P O R order → CausedBy Q N S order
caused-more P Q O N R S resets opens refuses (Reset id code true) is = resets id code is
caused-more P Q O N R S resets opens refuses (Reset id code false) is = tt
caused-more P Q O N R S resets opens refuses (Settings settings) is = tt
caused-more P Q O N R S resets opens refuses (Ping bytes) is = tt
caused-more P Q O N R S resets opens refuses (Probe bytes) is = tt
caused-more P Q O N R S resets opens refuses (Window id increment) is = tt
caused-more P Q O N R S resets opens refuses (Open id sender) is = opens id is
caused-more P Q O N R S resets opens refuses (Refuse id fields) is = refuses id fields is
caused-more P Q O N R S resets opens refuses (Goaway last cause) is = tt
caused-more P Q O N R S resets opens refuses InputEnded is = tt
caused-more P Q O N R S resets opens refuses Close is = tt

-- the stream began with a head that is refused with these fields, or with one that was told to be
-- of an unknown method
abbrev pub IsRefusedBy : ℕ → List Field → List Step → Type 0
IsRefusedBy id fields told =
    ((fault : HeadFault) × WasTold (events.BadHead id fault) told
    × (refusal_of fault ≡ Some fields))
    ⊎ ((head : CallHead) × (before : List Step)
    × WasHeard (Told (events.Open id head) Unknown) before told × (fields ≡ unknown_method))

-- it has its cause among the steps
abbrev pub IsCaused : List Step → Order → Type 0
IsCaused told order =
    CausedBy (λ id code. HasResetCause code id told) (λ id. is_admitted id told ≡ true)
    (λ id fields. IsRefusedBy id fields told) order

abbrev pub AreCaused : List Step → List Order → Type 0
AreCaused told orders = Each (IsCaused told) orders

-- ---- with a step more

pub heard-more : (more step : Step) (before told : List Step) → WasHeard step before told
    → WasHeard step before (more ∷ told)
heard-more more step before told was =
    (more ∷ was.0, ap (λ (steps : List Step). more ∷ steps) was.1)

pub told-more : (step : Step) (event : InEvent) (told : List Step) → WasTold event told
    → WasTold event (step ∷ told)
told-more (Told other fate) event told was = (
  was.0,
  was.1 ++ other ∷ [],
  ap (λ (es : List InEvent). es ++ other ∷ []) was.2
      ∙ append_assoc was.0 (event ∷ was.1) (other ∷ []),
)
told-more (CutOff id) event told was = was
told-more Drains event told was = was
told-more Lacks event told was = was

pub told-now : (event : InEvent) (fate : Fate) (before : List Step)
    → WasTold event (Told event fate ∷ before)
told-now event fate before = (events_of before, [], refl)

own-more : (step : Step) (told : List Step) (id : ℕ) (code : ErrorCode) → HasOwnCause code id told
    → HasOwnCause code id (step ∷ told)
own-more step told id error.ProtocolError has = record {
  fault = has.fault;
  heard = told-more step (events.BadHead id has.fault) told has.heard;
  unanswered = has.unanswered;
}
own-more step told id error.InternalError has = absurd has
own-more step told id error.FlowControlError has = record {
  piece = has.piece;
  counted = has.counted;
  before = has.before;
  heard =
      heard-more step (Told (events.Data id has.piece has.counted) (Received CallWindow))
      has.before told has.heard;
}
own-more step told id error.RefusedStream has = record {
  head = has.head;
  fault = has.fault;
  before = has.before;
  heard =
      heard-more step (Told (events.Open id has.head) (TurnedAway has.fault))
      has.before told has.heard;
  refuses = has.refuses;
}
own-more step told id error.Cancel has = record {
  before = has.before;
  heard = heard-more step (CutOff id) has.before told has.heard;
  open_half = has.open_half;
}
own-more step told id error.EnhanceYourCalm has = record {
  piece = has.piece;
  counted = has.counted;
  before = has.before;
  heard =
      heard-more step (Told (events.Data id has.piece has.counted) Missed)
      has.before told has.heard;
}
own-more step told id error.NoError has = absurd has
own-more step told id error.SettingsTimeout has = absurd has
own-more step told id error.StreamClosed has = absurd has
own-more step told id error.FrameSizeError has = absurd has
own-more step told id error.CompressionError has = absurd has
own-more step told id error.ConnectError has = absurd has
own-more step told id error.InadequateSecurity has = absurd has
own-more step told id error.Http11Required has = absurd has
own-more step told id (error.Unknown number) has = absurd has

cause-more : (step : Step) (told : List Step) (id : ℕ) (code : ErrorCode)
    → HasResetCause code id told → HasResetCause code id (step ∷ told)
cause-more step told id code (inl was) = inl (told-more step (events.StreamError id code) told was)
cause-more step told id code (inr has) = inr (own-more step told id code has)

either : (a b : Bool) → (a || b) ≡ true → (a ≡ true) ⊎ (b ≡ true)
either true b is = inl refl
either false b is = inr is

or-more : (a b : Bool) → b ≡ true → (a || b) ≡ true
or-more true b is = refl
or-more false b is = is

admitted-now : (id : ℕ) (head : CallHead) (before : List Step)
    → is_admitted id (Told (events.Open id head) Admitted ∷ before) ≡ true
admitted-now id head before =
    list_any-append (nat_eq id) (admitted before) (id ∷ [])
    ∙ or-more (list_any (nat_eq id) (admitted before)) (list_any (nat_eq id) (id ∷ []))
    (ap (λ (b : Bool). b || false) (eq-eqb id id refl))

admitted-more : (step : Step) (told : List Step) (id : ℕ) → is_admitted id told ≡ true
    → is_admitted id (step ∷ told) ≡ true
admitted-more step told id known =
    list_any-append (nat_eq id) (admitted told) (once (admitted_by step))
    ∙ ap (λ (b : Bool). b || list_any (nat_eq id) (once (admitted_by step))) known

refused-more : (step : Step) (told : List Step) (id : ℕ) (fields : List Field)
    → IsRefusedBy id fields told → IsRefusedBy id fields (step ∷ told)
refused-more step told id fields (inl was) =
    inl (was.0, told-more step (events.BadHead id was.0) told was.1, was.2)
refused-more step told id fields (inr was) = inr
    (was.0, was.1, heard-more step (Told (events.Open id was.0) Unknown) was.1 told was.2, was.3)

one-more : (step : Step) (told : List Step) (order : Order) → IsCaused told order
    → IsCaused (step ∷ told) order
one-more step told order is =
    caused-more _ _ _ _ _ _ (λ id code has. cause-more step told id code has)
    (λ id known. admitted-more step told id known)
    (λ id fields was. refused-more step told id fields was) order is

-- ---- of a step

last-caused : (told : List Step) (id : ℕ) (draining : Bool) (before : List ℕ)
    → AreCaused told (last_stream id draining before)
last-caused told id true before = tt
last-caused told id false before = by ((1 + length before) == MAX_STREAMS)
  where
    by : (b : Bool) → AreCaused told (if b then Goaway id (reason.Code error.NoError) ∷ [] else [])
    by true = (tt, tt)
    by false = tt

opened-caused : (last id : ℕ) (head : CallHead) (fate : Fate) (before : List Step)
    → AreCaused (Told (events.Open id head) fate ∷ before) (opened last id fate)
opened-caused last id head (TurnedAway refused.TooMany) before = (
  inr (record {
    head = head;
    fault = refused.TooMany;
    before = before;
    heard = ([], refl);
    refuses = inl refl;
  }),
  tt,
)
opened-caused last id head (TurnedAway refused.Draining) before = (
  inr (record {
    head = head;
    fault = refused.Draining;
    before = before;
    heard = ([], refl);
    refuses = inr refl;
  }),
  tt,
)
opened-caused last id head (TurnedAway refused.NotNew) before = (tt, tt)
opened-caused last id head (TurnedAway refused.OutOfMemory) before = (tt, tt)
opened-caused last id head Admitted before = (admitted-now id head before, tt)
opened-caused last id head Unknown before = (inr (head, before, ([], refl), refl), tt)
opened-caused last id head Lacking before = (tt, tt)
opened-caused last id head (Unserved NoWorker) before = (tt, tt)
opened-caused last id head (Unserved Stopped) before = tt
opened-caused last id head Plain before = tt
opened-caused last id head (Received receipt) before = tt
opened-caused last id head Missed before = tt

without-caused : (id : ℕ) (fault : HeadFault) (fate : Fate) (before : List Step)
    (found : Option (List Field))
    → refusal_of fault ≡ found
    → IsCaused (Told (events.BadHead id fault) fate ∷ before) (without_head id found)
without-caused id fault fate before None is =
    inr (record {
      fault = fault;
      heard = told-now (events.BadHead id fault) fate before;
      unanswered = is;
    })
without-caused id fault fate before (Some fields) is =
    inl (fault, told-now (events.BadHead id fault) fate before, is)

refused-caused : (last id : ℕ) (fault : HeadFault) (fate : Fate) (before : List Step)
    → AreCaused (Told (events.BadHead id fault) fate ∷ before) (refused_head last id fault fate)
refused-caused last id fault Lacking before = (tt, tt)
refused-caused last id fault Plain before =
    (without-caused id fault Plain before (refusal_of fault) refl, tt)
refused-caused last id fault Admitted before =
    (without-caused id fault Admitted before (refusal_of fault) refl, tt)
refused-caused last id fault (Unserved why) before =
    (without-caused id fault (Unserved why) before (refusal_of fault) refl, tt)
refused-caused last id fault Unknown before =
    (without-caused id fault Unknown before (refusal_of fault) refl, tt)
refused-caused last id fault (TurnedAway why) before =
    (without-caused id fault (TurnedAway why) before (refusal_of fault) refl, tt)
refused-caused last id fault (Received receipt) before =
    (without-caused id fault (Received receipt) before (refusal_of fault) refl, tt)
refused-caused last id fault Missed before =
    (without-caused id fault Missed before (refusal_of fault) refl, tt)

came-caused : (last id : ℕ) (piece : List ℕ) (counted : ℕ) (fate : Fate) (before : List Step)
    → AreCaused (Told (events.Data id piece counted) fate ∷ before) (came last id fate)
came-caused last id piece counted (Received CallWindow) before =
    (inr (record { piece = piece; counted = counted; before = before; heard = ([], refl) }), tt)
came-caused last id piece counted (Received Overrun) before = (tt, tt)
came-caused last id piece counted (Received Discard) before = tt
came-caused last id piece counted (Received Feed) before = tt
came-caused last id piece counted Missed before =
    (inr (record { piece = piece; counted = counted; before = before; heard = ([], refl) }), tt)
came-caused last id piece counted Plain before = tt
came-caused last id piece counted Admitted before = tt
came-caused last id piece counted (Unserved why) before = tt
came-caused last id piece counted Unknown before = tt
came-caused last id piece counted (TurnedAway fault) before = tt
came-caused last id piece counted Lacking before = (tt, tt)

loose-caused : (told : List Step) (last : ℕ) (fate : Fate) → AreCaused told (came_loose last fate)
loose-caused told last (Received Overrun) = (tt, tt)
loose-caused told last (Received CallWindow) = tt
loose-caused told last (Received Discard) = tt
loose-caused told last (Received Feed) = tt
loose-caused told last Missed = tt
loose-caused told last Plain = tt
loose-caused told last Admitted = tt
loose-caused told last (Unserved why) = tt
loose-caused told last Unknown = tt
loose-caused told last (TurnedAway fault) = tt
loose-caused told last Lacking = tt

news-caused : (told : List Step) (control : PeerControl) → AreCaused told (news_of control ∷ [])
news-caused told (controls.Settings settings) = (tt, tt)
news-caused told (controls.Ping bytes) = (tt, tt)
news-caused told (controls.Window id increment) = (tt, tt)

cut-caused : (id : ℕ) (before : List Step) (fed : Bool) → is_fed id before ≡ fed
    → AreCaused (CutOff id ∷ before) (if fed then Reset id error.Cancel true ∷ [] else [])
cut-caused id before true is =
    (inr (record { before = before; heard = ([], refl); open_half = is }), tt)
cut-caused id before false is = tt

at-caused : (before : List Step) (step : Step) → AreCaused (step ∷ before) (orders_at before step)
at-caused before (Told (events.Open id head) fate) =
    let last = named_with id (is_draining before) (named before) in
    each-append _ (last_stream id (is_draining before) (begun before)) (opened last id fate)
    (last-caused (Told (events.Open id head) fate ∷ before) id (is_draining before) (begun before))
    (opened-caused last id head fate before)
at-caused before (Told (events.BadHead id fault) fate) =
    let last = named_with id (is_draining before) (named before) in
    each-append _ (last_stream id (is_draining before) (begun before))
    (refused_head last id fault fate)
    (last-caused (Told (events.BadHead id fault) fate ∷ before) id (is_draining before)
    (begun before)) (refused-caused last id fault fate before)
at-caused before (Told (events.Data id piece counted) fate) =
    came-caused (named before) id piece counted fate before
at-caused before (Told (events.Loose counted) fate) =
    loose-caused (Told (events.Loose counted) fate ∷ before) (named before) fate
at-caused before (Told (events.Reset id code) fate) = (tt, tt)
at-caused before (Told (events.StreamError id code) fate) =
    (inl (told-now (events.StreamError id code) fate before), tt)
at-caused before (Told (events.Control control) fate) =
    news-caused (Told (events.Control control) fate ∷ before) control
at-caused before (Told (events.Fatal cause) fate) = (tt, tt)
at-caused before (Told (events.End id) fate) = tt
at-caused before (Told events.PeerGoaway fate) = tt
at-caused before Drains = (tt, tt)
at-caused before Lacks = (tt, tt)
at-caused before (CutOff id) = cut-caused id before (is_fed id before) refl

-- ---- of all steps

pub orders-caused : (told : List Step) → AreCaused told (orders_by told)
orders-caused [] = tt
orders-caused (step ∷ before) =
    each-append _ (orders_by before) (orders_at before step)
    (each-more _ _ (one-more step before) (orders_by before) (orders-caused before))
    (at-caused before step)

pub put-caused : (told : List Step) (put : List Order)
    → HasPut (orders_by told ++ InputEnded ∷ []) put → AreCaused told put
put-caused told put has =
    each-put _ (orders_by told ++ InputEnded ∷ []) put has
    (each-append _ (orders_by told) (InputEnded ∷ []) (orders-caused told) (tt, tt)) tt

pub ordered-resets : (told : List Step) (put : List Order) (id : ℕ) (code : ErrorCode)
    → HasPut (orders_by told ++ InputEnded ∷ []) put → IsAmong (Reset id code true) put
    → HasResetCause code id told
ordered-resets told put id code has among =
    each-among (IsCaused told) (Reset id code true) put among (put-caused told put has)

-- ---- of a run

module _ (told : List Step) (put : List Order) (run : List RunStep) where
  abbrev pub IsCausedIn : Order → Type 0
  IsCausedIn order =
      CausedBy (λ id code. HasCauseOf code id told put run) (λ id. is_admitted id told ≡ true)
      (λ id fields. IsRefusedBy id fields told) order

  own-answer : (last id : ℕ) → HasCauseOf error.FlowControlError id told put run
      → IsCausedIn (own_order last id)
  own-answer last id has = by (id == 0)
    where
      by : (b : Bool)
          → IsCausedIn (if b then Goaway last reason.Window
          else Reset id error.FlowControlError true)
      by true = tt
      by false = has

  own-caused : IsOfOwn IsCausedIn put run
  own-caused = record {
    answers = λ last id order before later is concerns blames.
        own-answer last id (inr (record {
          order = order;
          before = before;
          later = later;
          taken = is;
          concerns = concerns;
          blames = blames;
        }));
    leaves = λ id front rest parts opens input.
        inr (record { front = front; rest = rest; parts = parts; opens = opens; input = input });
    gives_up = λ last. tt;
    warns = tt;
    probes = tt;
    closes = tt;
  }

  in-run : (order : Order) → IsCaused told order → IsCausedIn order
  in-run order is =
      caused-more _ _ _ _ _ _ (λ id code has. inl has) (λ id known. known)
      (λ id fields was. was) order is

  pub run-caused : HasPut (orders_by told ++ InputEnded ∷ []) put → Obeys true put run
      → EachTaken IsCausedIn run
  run-caused has obeys =
      obeys-each IsCausedIn put run own-caused
      (each-more _ _ in-run put (put-caused told put has)) obeys

pub taken-resets : (told : List Step) (put : List Order) (run : List RunStep) (id : ℕ)
    (code : ErrorCode)
    → HasPut (orders_by told ++ InputEnded ∷ []) put → Obeys true put run
    → WasTaken (Reset id code true) run → HasCauseOf code id told put run
taken-resets told put run id code has obeys was =
    taken-one (IsCausedIn told put run) (Reset id code true) run was
    (run-caused told put run has obeys)

-- ---- of the frames

module _ (P : ℕ → ErrorCode → Type 0) (O : ℕ → Type 0) (R : ℕ → List Field → Type 0) where
  asks-one : (id : ℕ) (code : ErrorCode) (order : Order) → CausedBy P O R order
      → Asks id code order → P id code
  asks-one id code (Reset stream found true) is asks =
      subst (λ (n : ℕ). P n code) (sym asks.0)
      (subst (λ (c : ErrorCode). P stream c) (sym asks.1) is)
  asks-one id code (Reset stream found false) is asks = absurd asks
  asks-one id code (Settings settings) is asks = absurd asks
  asks-one id code (Ping bytes) is asks = absurd asks
  asks-one id code (Probe bytes) is asks = absurd asks
  asks-one id code (Window stream increment) is asks = absurd asks
  asks-one id code (Open stream sender) is asks = absurd asks
  asks-one id code (Refuse stream fields) is asks = absurd asks
  asks-one id code (Goaway last found) is asks = absurd asks
  asks-one id code InputEnded is asks = absurd asks
  asks-one id code Close is asks = absurd asks

  asked-one : (id : ℕ) (code : ErrorCode) (run : List RunStep) → EachTaken (CausedBy P O R) run
      → IsAsked id code run → P id code
  asked-one id code [] all asked = absurd asked
  asked-one id code (Taken order ∷ before) all (inl asked) = asks-one id code order all.0 asked.0
  asked-one id code (Taken order ∷ before) all (inr asked) = asked-one id code before all.1 asked
  asked-one id code (Granted stream n ∷ before) all asked = asked-one id code before all asked
  asked-one id code (Written frame ∷ before) all asked = asked-one id code before all asked
  asked-one id code (Returned stream items ∷ before) all asked = asked-one id code before all asked

  -- the frame is an RST_STREAM with an error of which this holds
  abbrev IsResetBy : Frame → Type 0
  IsResetBy frame =
      (code : ErrorCode) × (frame ≡ reset_frame frame.head.stream code) × P frame.head.stream code

  written-one : (run : List RunStep) → IsLawful run → EachTaken (CausedBy P O R) run
      → (frame : Frame) → WasWritten frame run → frame.head.kind ≡ kind.RstStream → IsResetBy frame
  written-one [] lawful all frame was is = absurd was
  written-one (Taken order ∷ before) lawful all frame was is =
      written-one before lawful all.1 frame was is
  written-one (Granted id n ∷ before) lawful all frame was is =
      written-one before lawful all frame was is
  written-one (Returned id items ∷ before) lawful all frame was is =
      written-one before lawful all frame was is
  written-one (Written found ∷ before) lawful all frame (inr was) is =
      written-one before lawful.2 all frame was is
  written-one (Written found ∷ before) lawful all frame (inl same) is =
      let asked = lawful.1.asked (sym (ap (λ (f : Frame). f.head.kind) same) ∙ is) in
      subst (λ (f : Frame). IsResetBy f) (sym same)
      (asked.0, asked.2, asked-one found.head.stream asked.0 before all asked.1)

  -- ---- of streams without a call

  opens-one : (id : ℕ) (order : Order) → CausedBy P O R order → opens_stream id order ≡ true → O id
  opens-one id (Open stream sender) is opens = subst O (sym (eqb-true id stream opens)) is
  opens-one id (Reset stream found written) is opens = absurd cc
  opens-one id (Settings settings) is opens = absurd cc
  opens-one id (Ping bytes) is opens = absurd cc
  opens-one id (Probe bytes) is opens = absurd cc
  opens-one id (Window stream increment) is opens = absurd cc
  opens-one id (Refuse stream fields) is opens = absurd cc
  opens-one id (Goaway last found) is opens = absurd cc
  opens-one id InputEnded is opens = absurd cc
  opens-one id Close is opens = absurd cc

  pub opened-one : (id : ℕ) (run : List RunStep) → EachTaken (CausedBy P O R) run
      → is_opened id run ≡ true → O id
  opened-one id [] all is = absurd cc
  opened-one id (Taken order ∷ before) all is =
      elim (either (opens_stream id order) (is_opened id before) is) [
        | inl here ↦ opens-one id order all.0 here
        | inr there ↦ opened-one id before all.1 there
      ]
  opened-one id (Granted stream n ∷ before) all is = opened-one id before all is
  opened-one id (Written frame ∷ before) all is = opened-one id before all is
  opened-one id (Returned stream items ∷ before) all is = opened-one id before all is

  refuses-one : (id : ℕ) (fields : List Field) (order : Order) → CausedBy P O R order
      → Refuses id fields order → R id fields
  refuses-one id fields (Refuse stream found) is same =
      subst (λ (n : ℕ). R n fields) (sym same.0)
      (subst (λ (fs : List Field). R stream fs) (sym same.1) is)
  refuses-one id fields (Reset stream found written) is same = absurd same
  refuses-one id fields (Settings settings) is same = absurd same
  refuses-one id fields (Ping bytes) is same = absurd same
  refuses-one id fields (Probe bytes) is same = absurd same
  refuses-one id fields (Window stream increment) is same = absurd same
  refuses-one id fields (Open stream sender) is same = absurd same
  refuses-one id fields (Goaway last found) is same = absurd same
  refuses-one id fields InputEnded is same = absurd same
  refuses-one id fields Close is same = absurd same

  pub refused-one : (id : ℕ) (fields : List Field) (run : List RunStep)
      → EachTaken (CausedBy P O R) run → IsRefused id fields run → R id fields
  refused-one id fields [] all was = absurd was
  refused-one id fields (Taken order ∷ before) all (inl here) =
      refuses-one id fields order all.0 here
  refused-one id fields (Taken order ∷ before) all (inr there) =
      refused-one id fields before all.1 there
  refused-one id fields (Granted stream n ∷ before) all was = refused-one id fields before all was
  refused-one id fields (Written frame ∷ before) all was = refused-one id fields before all was
  refused-one id fields (Returned stream items ∷ before) all was =
      refused-one id fields before all was

pub written-resets : (told : List Step) (put : List Order) (run : List RunStep)
    → HasPut (orders_by told ++ InputEnded ∷ []) put → Obeys true put run → IsLawful run
    → (frame : Frame) → WasWritten frame run → frame.head.kind ≡ kind.RstStream
    → (code : ErrorCode) × (frame ≡ reset_frame frame.head.stream code)
    × HasCauseOf code frame.head.stream told put run
written-resets told put run has obeys lawful frame was is =
    written-one _ _ _ run lawful (run-caused told put run has obeys) frame was is

-- ---- what is told on a stream without a call

of-unknown : (names : List ℕ → ℕ → Type 0) (stopped : Bool) (told : List Step)
    → AreFounded names stopped told → (id : ℕ) (fields : List Field) → IsRefusedBy id fields told
    → IsRefusedWith names id fields told
of-unknown names stopped told are id fields (inl was) = inl was
of-unknown names stopped told are id fields (inr was) = inr (
  was.0,
  was.1,
  was.2,
  founded-at names stopped was.2.0 (Told (events.Open id was.0) Unknown) was.1
      (subst (λ (steps : List Step). AreFounded names stopped steps) was.2.1 are),
  was.3,
)

of-refusal : (names : List ℕ → ℕ → Type 0) (stopped : Bool) (told : List Step) (put : List Order)
    (run : List RunStep)
    → AreFounded names stopped told → EachTaken (IsCausedIn told put run) run
    → (id : ℕ) (part : List Mark)
    → IsOther id run part → IsRefusal names id told part
of-refusal names stopped told put run are all id part (inl none) = inl none
of-refusal names stopped told put run are all id part (inr (inl reset)) = inr (inl reset)
of-refusal names stopped told put run are all id part (inr (inr fields)) =
    inr (inr (
      fields.0,
      of-unknown names stopped told are id fields.0
          (refused-one _ _ _ id fields.0 run all fields.1),
      fields.2,
    ))

pub streams-without-a-call : (names : List ℕ → ℕ → Type 0) (stopped : Bool) (told : List Step)
    (put : List Order) (run : List RunStep)
    → AreFounded names stopped told → HasPut (orders_by told ++ InputEnded ∷ []) put
    → Obeys true put run
    → TellOthers run → (id : ℕ) → is_admitted id told ≡ false
    → (part : List Mark) × IsPart id run part × IsRefusal names id told part
streams-without-a-call names stopped told put run are has obeys others id unknown =
    let all = run-caused told put run has obeys in
    let found = others id (unopened (is_opened id run) refl) in
    (found.0, found.1, of-refusal names stopped told put run are all id found.0 found.2)
  where
    unopened : (b : Bool) → is_opened id run ≡ b → is_opened id run ≡ false
    unopened true is =
        absurd (true≢false
        (sym (opened-one _ _ _ id run (run-caused told put run has obeys) is) ∙ unknown))
    unopened false is = is
