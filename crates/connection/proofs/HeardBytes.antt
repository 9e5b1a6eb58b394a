-- What was heard of all the bytes of a read.
use Rattle.std.proofs.Common.{
  ◌≡◌,
  ◌≢◌,
  ◌∙◌,
  inl,
  inr,
  ℕ,
  Bool,
  true,
  false,
  true≢false,
  List,
  [],
  ◌∷◌,
  ◌++◌,
  All,
  Option,
  None,
  Some,
  ap,
  append-nil,
  refl,
  subst,
  sym,
  take,
}
use Rattle.std.proofs.lemmas.List.{append_assoc}
use Rattle.std.proofs.lemmas.List.Elements.{All-nil}
use Rattle.std.specs.Prelude.{Contains, IfSome, is_some}
use Rattle.callparts.specs.declared.order.OpeningCall.{OpeningCall}
use Rattle.callparts.specs.declared.register.Naming.{Ghosts as Naming}
use Rattle.callparts.specs.declared.report.Ending.{Ending}
use Rattle.callparts.specs.declared.report.Ending.TheVariants.{
  Drained,
  PeerGoaway,
  ProtocolError,
  ReadFailed,
  WriteFailed,
  OutOfMemory,
}
use Rattle.h2frame.specs.declared.error_code.ErrorCode.{ErrorCode}
use Rattle.handlers.specs.declared.step.MethodStep.{MethodStep as Answer}
use Rattle.lane.specs.Ring.{taken}
use Rattle.outwriter.specs.declared.control.WriterOrder.{WriterOrder}
use Rattle.outwriter.specs.declared.control.WriterOrder.TheVariants as orders
use Rattle.session.specs.declared.event.InEvent.{InEvent}
use Rattle.session.specs.declared.event.InEvent.TheVariants as events
use Rattle.session.specs.CoreStates.{Core, Reached}
use Rattle.session.specs.Events.{Events}
use Rattle.session.proofs.EventLaws.{reached_events}
use Rattle.readerloop.specs.declared.decision.Decision.{Decision}
use Rattle.readerloop.specs.declared.reading.Reading.{Reading}
use Rattle.readerloop.specs.Calls.{SentItems, carried_in}
use Rattle.readerloop.specs.Readings.{DecidesOn, Reads}
use Rattle.readerloop.specs.Reports.{AreCalm, AreHeard, IsFront, is_heard_out}
use Rattle.readerloop.specs.Steps.{Lacks, Step, WasTold, events_of, is_draining}
use Rattle.readerloop.proofs.LetGo.{events-append}
use Rattle.readerloop.proofs.Resets.{calm-more}
use Rattle.connection.specs.declared.orders.Orders.{Orders}
use Rattle.connection.specs.declared.orders.Route.{Ghosts}
use Rattle.connection.specs.Heard.{
  Acts,
  AreCarried,
  Collects,
  CutsSome,
  HasRead,
  IsEndedBy,
  IsOfInput,
  KeptFor,
  ReadsWith,
}
use Rattle.connection.specs.Limits.{Covers, Tally}
use Rattle.connection.specs.Puts.{IsOwn, Ordered, put_of}
use Rattle.connection.proofs.Founded.{all-founded, cuts-founded}
use Rattle.connection.proofs.Opens.{plain-own}
use Rattle.connection.proofs.Tallies.{covers-more, cuts-justified, going-more}
use Rattle.connection.proofs.Heard.{
  front-before,
  front-some,
  undropped,
  map_of,
  silent-more,
  ended-front,
  ended-harsh,
  ended-unbroken,
  EndsInput,
  not-by-writing,
  input-out,
  undrained-so,
  not-by-error,
}

-- ---- bytes

module _ {A B C J M N : Type 0} {book : Naming J} {route : Ghosts N}
    {known : ℕ → List (List ℕ) → Bool → Answer → Type 0} {names : List ℕ → ℕ → Type 0} where
  -- steps of which no event tells came behind
  pub kept-behind : (sent : List SentItems) (tally : Tally) (told : List Step)
      (one two : Reading J M book) (old new : Orders A B C J N book route)
      → CutsSome known names false one old two new → KeptFor known names sent told one old
      → Covers told tally
      → AreCalm told
      → (more : List Step) × (events_of (more ++ told) ≡ events_of told) × AreCalm (more ++ told)
      × KeptFor known names sent (more ++ told) two new × Covers (more ++ told) tally
  kept-behind sent tally told one two old new cuts kept covers calm =
      let a = cuts.1 sent told kept.reads in (
        a.0,
        silent-more a.0 told a.1.silent,
        calm-more a.0 told a.1.calm calm,
        record {
          reads = a.1.reads;
          ordered = a.1.ordered kept.ordered;
          justified = cuts-justified a.0 told a.1.silent kept.justified;
          founded =
              cuts-founded names new.has_stopped a.0 told a.1.silent
              (all-founded names old.has_stopped new.has_stopped a.1.stops told kept.founded);
          going = going-more a.0 told (a.1.going refl) kept.going;
        },
        covers-more tally a.0 told covers,
      )

  -- all events of these bytes were heard
  pub all-read : (sent : List SentItems) (end : Ending) (before : List InEvent) (told : List Step)
      (bytes given : List ℕ) (core : Core) (reading : Reading J M book)
      (orders : Orders A B C J N book route)
      → given ≡ bytes → Reached bytes before core
      → events_of told ≡ before → AreCalm told → KeptFor known names sent told reading orders
      → (end ≡ PeerGoaway → WasTold events.PeerGoaway told)
      → (end ≡ Drained → is_draining told ≡ true) → (IsOfInput end → is_draining told ≡ false)
      → ((code : ErrorCode) → end ≢ ProtocolError code) → end ≢ WriteFailed
      → HasRead known names sent end given told reading orders
  all-read sent end before told bytes given core reading orders same reached is calm kept goaway
      drained undrained unfailed unbroken = record {
        reads = kept.reads;
        justified = kept.justified;
        founded = kept.founded;
        going = kept.going;
        heard = subst (λ (bs : List ℕ). AreHeard end bs (events_of told)) (sym same) (record {
          front =
              front-some bytes (events_of told) before core reached
              ([], append-nil (events_of told) ∙ is);
          whole = λ ended.
              subst (λ (es : List InEvent). Events bytes es) (sym is)
              (reached_events bytes before core reached);
        });
        some = (
          bytes,
          before,
          reached_events bytes before core reached,
          ([], append-nil (events_of told) ∙ is),
        );
        calm = λ ended. calm;
        ordered = kept.ordered;
        goaway = goaway;
        drained = drained;
        undrained = undrained;
        failed = λ code failed. absurd (unfailed code failed);
        unbroken = unbroken;
      }

  -- and then the input ended, or could not be read on
  pub input-read : (sent : List SentItems) (end : Ending) (before : List InEvent) (told : List Step)
      (bytes given : List ℕ) (core : Core) (reading : Reading J M book)
      (orders : Orders A B C J N book route)
      → given ≡ bytes → Reached bytes before core
      → events_of told ≡ before → AreCalm told
      → KeptFor known names sent told reading orders → EndsInput end
      → (end ≡ PeerGoaway → (s : List SentItems) (steps : List Step)
      → Reads known names (carried_in s) steps reading → WasTold events.PeerGoaway steps)
      → (end ≡ Drained → (s : List SentItems) (steps : List Step)
      → Reads known names (carried_in s) steps reading → is_draining steps ≡ true)
      → (reading.is_draining ≡ true → end ≡ Drained)
      → HasRead known names sent end given told reading orders
  input-read sent end before told bytes given core reading orders same reached is calm kept input
      goaway drained draining =
      all-read sent end before told bytes given core reading orders same reached is calm kept
      (λ gone. goaway gone sent told kept.reads) (λ drains. drained drains sent told kept.reads)
      (undrained-so end reading.is_draining (is_draining told) kept.reads.drains draining)
      (not-by-error end input) (not-by-writing end input)

  pub failed-read : (sent : List SentItems) (before : List InEvent) (told : List Step)
      (bytes given : List ℕ) (core : Core) (reading : Reading J M book)
      (orders : Orders A B C J N book route)
      → given ≡ bytes → Reached bytes before core
      → events_of told ≡ before → AreCalm told → KeptFor known names sent told reading orders
      → HasRead known names sent ReadFailed given told reading orders
  failed-read sent before told bytes given core reading orders same reached is calm kept =
      all-read sent ReadFailed before told bytes given core reading orders same reached is
      calm kept (λ gone. cc) (λ drains. cc) (λ input. absurd (not-of-read input))
      (λ code failed. cc) (λ broke. cc)
    where
      not-of-read : IsOfInput ReadFailed → ⊥
      not-of-read (inl other) = cc
      not-of-read (inr other) = cc

  -- some were, and one of them ended the connection
  pub some-read : (sent : List SentItems) (tally tally_new : Tally) (end : Ending)
      (given before : List InEvent) (told : List Step) (bytes : List ℕ) (core : Core)
      (reading reading_new : Reading J M book) (orders orders_new : Orders A B C J N book route)
      → AreCarried sent (taken reading_new.home) → Reached bytes (before ++ given) core
      → events_of told ≡ before
      → ReadsWith known names tally tally_new given (Some end) reading orders reading_new orders_new
      → KeptFor known names sent told reading orders → Covers told tally
      → (all : List Step) × HasRead known names sent end bytes all reading_new orders_new
      × Covers all tally_new
  some-read sent tally tally_new end given before told bytes core reading reading_new orders
      orders_new carried reached is reads kept covers =
      let more = reads.1 sent carried told kept covers in
      let not : is_heard_out end ≡ true → ⊥ = λ out.
      true≢false (sym out ∙ ended-harsh end more.0 more.1.ended) in (
        more.0 ++ told,
        record {
          reads = more.1.kept.reads;
          justified = more.1.kept.justified;
          founded = more.1.kept.founded;
          going = more.1.kept.going;
          heard = record {
            front = front-some bytes (events_of (more.0 ++ told)) (before ++ given) core reached (
              more.1.front.0,
              ap (λ (es : List InEvent). es ++ more.1.front.0) (events-append more.0 told
                  ∙ ap (λ (es : List InEvent). es ++ events_of more.0) is)
                  ∙ append_assoc before (events_of more.0) more.1.front.0
                  ∙ ap (λ (es : List InEvent). before ++ es) more.1.front.1,
            );
            whole = λ ended. absurd (not ended);
          };
          some = (
            bytes,
            before ++ given,
            reached_events bytes (before ++ given) core reached,
            (
              more.1.front.0,
              ap (λ (es : List InEvent). es ++ more.1.front.0) (events-append more.0 told
                  ∙ ap (λ (es : List InEvent). es ++ events_of more.0) is)
                  ∙ append_assoc before (events_of more.0) more.1.front.0
                  ∙ ap (λ (es : List InEvent). before ++ es) more.1.front.1,
            ),
          );
          calm = λ ended. absurd (not ended);
          ordered = more.1.kept.ordered;
          goaway = λ gone. absurd (not (ap (λ (e : Ending). is_heard_out e) gone));
          drained = λ drains. absurd (not (ap (λ (e : Ending). is_heard_out e) drains));
          undrained = λ input. absurd (not (input-out end input));
          failed = λ code is_so.
              subst (λ (e : Ending). IsEndedBy e (more.0 ++ told)) is_so
              (ended-front end more.0 told more.1.ended);
          unbroken = ended-unbroken end more.0 more.1.ended;
        },
        more.2,
      )

  pub some-sound : (sent : List SentItems) (tally tally_new : Tally) (end : Ending)
      (given : List InEvent) (told : List Step) (reading reading_new : Reading J M book)
      (orders orders_new : Orders A B C J N book route)
      → AreCarried sent (taken reading_new.home)
      → ReadsWith known names tally tally_new given (Some end) reading orders reading_new orders_new
      → KeptFor known names sent told reading orders → Covers told tally → end ≢ ReadFailed
  some-sound sent tally tally_new end given told reading reading_new orders orders_new carried
      reads kept covers is =
      let more = reads.1 sent carried told kept covers in
      true≢false
      (sym (ap (λ (e : Ending). is_heard_out e) is) ∙ ended-harsh end more.0 more.1.ended)

  pub some-harsh : (sent : List SentItems) (tally tally_new : Tally) (end : Ending)
      (given : List InEvent) (told : List Step) (reading reading_new : Reading J M book)
      (orders orders_new : Orders A B C J N book route)
      → AreCarried sent (taken reading_new.home)
      → ReadsWith known names tally tally_new given (Some end) reading orders reading_new orders_new
      → KeptFor known names sent told reading orders → Covers told tally → IsOfInput end → ⊥
  some-harsh sent tally tally_new end given told reading reading_new orders orders_new carried
      reads kept covers is =
      let more = reads.1 sent carried told kept covers in
      true≢false (sym (input-out end is) ∙ ended-harsh end more.0 more.1.ended)

  pub some-undrained : (sent : List SentItems) (tally tally_new : Tally) (end : Ending)
      (given : List InEvent) (told : List Step) (reading reading_new : Reading J M book)
      (orders orders_new : Orders A B C J N book route)
      → AreCarried sent (taken reading_new.home)
      → ReadsWith known names tally tally_new given (Some end) reading orders reading_new orders_new
      → KeptFor known names sent told reading orders → Covers told tally → end ≢ Drained
  some-undrained sent tally tally_new end given told reading reading_new orders orders_new carried
      reads kept covers is =
      let more = reads.1 sent carried told kept covers in
      true≢false
      (sym (ap (λ (e : Ending). is_heard_out e) is) ∙ ended-harsh end more.0 more.1.ended)

  -- the connection ends for want of memory
  pub kept-lack : (sent : List SentItems) (told : List Step) (decided : Decision J book)
      (one two three : Reading J M book) (old new : Orders A B C J N book route)
      → DecidesOn known names Lacks decided one two → Acts known names decided two old three new
      → KeptFor known names sent told one old → KeptFor known names sent (Lacks ∷ told) three new
  kept-lack sent told decided one two three old new decides acts kept =
      let decision = decides sent told kept.reads in
      record {
        reads = acts.reads sent told Lacks decision;
        ordered =
            acts.ordered sent told Lacks decision
            (plain-own told Lacks decided refl decision.orders) kept.ordered;
        justified = (tt, kept.justified);
        founded =
            (tt, all-founded names old.has_stopped new.has_stopped acts.stops told kept.founded);
        going = kept.going;
      }

  -- by other names
  pub kept-as : (sent : List SentItems) (told : List Step) (one two : Reading J M book)
      (old new : Orders A B C J N book route)
      → two ≡ one → new ≡ old → KeptFor known names sent told one old
      → KeptFor known names sent told two new
  kept-as sent told one two old new is same kept =
      subst (λ (reading : Reading J M book). KeptFor known names sent told reading new)
      (sym is) (subst (λ (orders : Orders A B C J N book route).
      KeptFor known names sent told one orders) (sym same) kept)

  -- more came home
  pub kept-collected : (sent : List SentItems) (told : List Step) (one two : Reading J M book)
      (old new : Orders A B C J N book route)
      → Collects known names one two → AreCarried sent (taken two.home) → new ≡ old
      → KeptFor known names sent told one old → KeptFor known names sent told two new
  kept-collected sent told one two old new collects carried same kept =
      subst (λ (orders : Orders A B C J N book route).
      KeptFor known names sent told two orders) (sym same)
      (record {
        reads = collects.keeps sent told carried kept.reads;
        ordered = kept.ordered;
        justified = kept.justified;
        founded = kept.founded;
        going = kept.going;
      })

  -- none of the last bytes were heard
  pub none-read : (sent : List SentItems) (before : List InEvent) (told : List Step)
      (bytes more : List ℕ) (core : Core) (reading : Reading J M book)
      (orders : Orders A B C J N book route)
      → Reached bytes before core → events_of told ≡ before
      → KeptFor known names sent (Lacks ∷ told) reading orders
      → HasRead known names sent OutOfMemory (bytes ++ more) (Lacks ∷ told) reading orders
  none-read sent before told bytes more core reading orders reached is kept = record {
    reads = kept.reads;
    justified = kept.justified;
    founded = kept.founded;
    going = kept.going;
    heard = record {
      front =
          subst (λ (es : List InEvent). IsFront (bytes ++ more) es) (sym is)
          (front-before bytes more before core reached);
      whole = λ ended. absurd cc;
    };
    some = (
      bytes,
      before,
      reached_events bytes before core reached,
      ([], append-nil (events_of told) ∙ is),
    );
    calm = λ ended. absurd cc;
    ordered = kept.ordered;
    goaway = λ gone. absurd cc;
    drained = λ drains. absurd cc;
    undrained = λ input. absurd (true≢false (sym (input-out OutOfMemory input)));
    failed = λ code failed. absurd cc;
    unbroken = λ broke. cc;
  }

-- none came
pub none-more : (bytes buf : List ℕ) (count : ℕ) → count ≡ 0 → bytes ++ take count buf ≡ bytes
none-more bytes buf count none = ap (λ (n : ℕ). bytes ++ take n buf) none ∙ append-nil bytes

pub some-end : (found : Option Ending) → is_some found ≡ true
    → (ending : Ending) × (found ≡ Some ending)
some-end None is = absurd cc
some-end (Some ending) is = (ending, refl)

pub none-end : (found : Option Ending) → is_some found ≡ false → found ≡ None
none-end None is = refl
none-end (Some ending) is = absurd cc

-- one event more of all
pub parts-more : (before : List InEvent) (event : InEvent) (left rest all : List InEvent)
    → before ++ left ≡ all → left ≡ event ∷ rest → (before ++ event ∷ []) ++ rest ≡ all
parts-more before event left rest all parts next =
    append_assoc before (event ∷ []) rest
    ∙ (ap (λ (es : List InEvent). before ++ es) (sym next) ∙ parts)

-- nothing was put yet
pub ordered-none : {A B C J N : Type 0} {book : Naming J} {route : Ghosts N}
    (orders : Orders A B C J N book route)
    → put_of orders ≡ [] → orders.unput ≡ None → Ordered [] orders
ordered-none {J = J} {book = book} orders none unput =
    let is : put_of orders ++ [] ≡ [] = append-nil (put_of orders) ∙ none in
    record {
      dropped = [];
      parts = ap map_of is;
      own =
          subst (λ (os : List (WriterOrder (OpeningCall J book))). All IsOwn os)
          (sym is) (All-nil IsOwn);
      kept =
          subst (λ (found : Option (WriterOrder (OpeningCall J book))).
          IfSome found (Contains [])) (sym unput) tt;
      whole = λ undropped. refl;
    }

pub kept-none : {A B C J M N : Type 0} {book : Naming J} {route : Ghosts N}
    {known : ℕ → List (List ℕ) → Bool → Answer → Type 0} {names : List ℕ → ℕ → Type 0}
    (sent : List SentItems) (reading : Reading J M book) (orders : Orders A B C J N book route)
    → Reads known names (carried_in sent) [] reading → put_of orders ≡ [] → orders.unput ≡ None
    → KeptFor known names sent [] reading orders
kept-none sent reading orders reads none unput = record {
  reads = reads;
  ordered = ordered-none orders none unput;
  justified = tt;
  founded = tt;
  going = tt;
}
