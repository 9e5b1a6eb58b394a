-- What a stage comes to by a piece.
use Rattle.std.proofs.Common.{
  ◌≡◌,
  ◌≢◌,
  ℕ,
  inl,
  inr,
  List,
  [],
  ◌++◌,
  length,
  refl,
  sym,
  ap,
  subst,
  ◌∙◌,
  append_assoc,
  arith,
}
use Rattle.std.specs.Prelude.{Option}
use Rattle.std.proofs.lemmas.List.{append-nil, append_cancel_left}
use Rattle.h2frame.specs.FrameList.{Entry}
use Rattle.h2frame.proofs.Lists.{joined_more, faulty_more}
use Rattle.hpack_codec.specs.Table.{Table}
use Rattle.streamstates.specs.Halves.{Streams}
use Rattle.reasons.specs.declared.Reason.TheVariants as reason
use Rattle.session.specs.declared.event.InEvent.{InEvent}
use Rattle.session.specs.declared.context.Position.{Position}
use Rattle.session.specs.declared.context.Position.TheVariants.{First}
use Rattle.session.specs.declared.in_core.InStage.{InStage}
use Rattle.session.specs.declared.in_core.InStage.TheVariants.{Greeting, Reading, Dead}
use Rattle.session.specs.Prefaces.{preface, Departs, Brings}
use Rattle.session.specs.Frames.{fatal}
use Rattle.session.specs.Events.{
  Situation,
  Close,
  Unfinished,
  Faulty,
  Refused,
  Broken,
  Ended,
  Closes,
  Follows,
}
use Rattle.session.specs.CoreStates.{
  Stops,
  ReadsTo,
  IsOver,
  ReadsOn,
  IsSoundStage,
  AtStage,
  Reached,
  core_of,
  Feeds,
}

-- ---- more bytes

closes_more : (close : Close) (now : Situation) (behind : List Entry) (rest piece : List ℕ)
    (last : List InEvent)
    → close ≢ Unfinished → Closes close now behind rest last
    → Closes close now behind (rest ++ piece) last
closes_more Unfinished now behind rest piece last final closes = absurd (final refl)
closes_more (Faulty fault) now behind rest piece last final (partial, faulty, e) =
    (partial, faulty_more fault rest piece faulty, e)
closes_more (Refused frame error) now behind rest piece last final closes = closes
closes_more (Broken frames block entry fault) now behind rest piece last final closes = closes
closes_more (Ended group next error) now behind rest piece last final closes = closes

pub follows_more : (entries : List Entry) (rest piece : List ℕ) (close : Close)
    (given : List InEvent)
    → close ≢ Unfinished → Follows entries rest close given
    → Follows entries (rest ++ piece) close given
follows_more entries rest piece close given final so =
    record {
      behind = so.behind;
      before = so.before;
      last = so.last;
      now = so.now;
      passes = so.passes;
      closes = closes_more close so.now so.behind rest piece so.last final so.closes;
      all = so.all;
    }

stops_more : (entries : List Entry) (rest piece : List ℕ) (given : List InEvent)
    → Stops entries rest given → Stops entries (rest ++ piece) given
stops_more entries rest piece given (inl unsettled) = inl unsettled
stops_more entries rest piece given (inr (close, final, follows)) =
    inr (close, final, follows_more entries rest piece close given final follows)

over_more : (text piece : List ℕ) (given : List InEvent) → IsOver text given
    → IsOver (text ++ piece) given
over_more text piece given (entries, rest, joined, stops) = (
  entries,
  rest ++ piece,
  joined_more text entries rest piece joined,
  stops_more entries rest piece given stops,
)

pub departs_more : (text bytes piece : List ℕ) → Departs text bytes → Departs text (bytes ++ piece)
departs_more text bytes piece departs more behind e =
    departs (piece ++ more) behind (sym (append_assoc bytes piece more) ∙ e)

-- ---- the stages

at_stage : (stage : InStage) (bytes text : List ℕ) (given : List InEvent) (waiting : List ℕ)
    (streams : Streams) (kept : Option Table)
    → bytes ≡ preface ++ text → ReadsOn text given stage waiting streams kept
    → AtStage bytes given stage waiting streams kept
at_stage (Reading position) bytes text given waiting streams kept e (reads, unfinished) =
    (text, e, reads, unfinished)
at_stage Dead bytes text given waiting streams kept e over = inr (text, e, over)
at_stage (Greeting due) bytes text given waiting streams kept e reads = absurd reads

dead_stays : (bytes piece : List ℕ) (given : List InEvent) (waiting : List ℕ) (streams : Streams)
    (kept : Option Table)
    → AtStage bytes given Dead waiting streams kept
    → AtStage (bytes ++ piece) given Dead waiting streams kept
dead_stays bytes piece given waiting streams kept (inl (departs, e)) =
    inl (departs_more preface bytes piece departs, e)
dead_stays bytes piece given waiting streams kept (inr (text, e, over)) =
    inr (
      text ++ piece,
      ap (λ (b : List ℕ). b ++ piece) e ∙ append_assoc preface text piece,
      over_more text piece given over,
    )

pub dead_feeds : (piece : List ℕ) (before : List InEvent) (waiting : List ℕ) (streams : Streams)
    (kept : Option Table)
    → Feeds (core_of Dead waiting streams kept) piece before
    (core_of Dead waiting streams kept) before
dead_feeds piece before waiting streams kept =
    record {
      sound = tt;
      follows = λ bytes earlier r.
          record { at = dead_stays bytes piece (earlier ++ before) waiting streams kept r.at };
    }

-- what is read behind the preface
pub reading_feeds : (position : Position) (next : InStage) (piece : List ℕ)
    (before after : List InEvent) (waiting left : List ℕ) (streams new_streams : Streams)
    (kept new_kept : Option Table)
    → IsSoundStage next new_streams
    → ((text : List ℕ) (earlier : List InEvent)
    → ReadsTo text (earlier ++ before) position waiting streams kept
    → ReadsOn (text ++ piece) (earlier ++ after) next left new_streams new_kept)
    → Feeds (core_of (Reading position) waiting streams kept) piece before
    (core_of next left new_streams new_kept) after
reading_feeds position next piece before after waiting left streams new_streams kept
    new_kept sound reads =
    record {
      sound = sound;
      follows = λ bytes earlier r. record {
        at =
            at_stage next (bytes ++ piece) (r.at.0 ++ piece) (earlier ++ after) left
            new_streams new_kept
            (ap (λ (b : List ℕ). b ++ piece) r.at.1 ∙ append_assoc preface r.at.0 piece)
            (reads r.at.0 earlier r.at.2);
      };
    }

-- ---- the preface

-- what the preface lacked came, and what is behind it is read
pub greeted : (due piece still rest : List ℕ) (before after : List InEvent) (next : InStage)
    (waiting left : List ℕ) (streams new_streams : Streams) (kept new_kept : Option Table)
    → Brings due piece still rest → still ≡ []
    → Feeds (core_of (Reading First) waiting streams kept) rest before
    (core_of next left new_streams new_kept) after
    → Feeds (core_of (Greeting due) waiting streams kept) piece before
    (core_of next left new_streams new_kept) after
greeted due piece still rest before after next waiting left streams new_streams kept new_kept
    brings none feeds =
    let came : due ≡ brings.came =
    brings.left ∙ ap (λ (b : List ℕ). brings.came ++ b) none ∙ append-nil brings.came in
    record {
      sound = feeds.sound;
      follows = λ bytes earlier r.
          let greeting = r.at in
          let whole : bytes ++ brings.came ≡ preface ++ [] =
          ap (λ (b : List ℕ). bytes ++ b) (sym came) ∙ sym greeting.0 ∙ sym (append-nil preface) in
          let parts : (bytes ++ brings.came) ++ rest ≡ bytes ++ piece =
          append_assoc bytes brings.came rest
          ∙ ap (λ (b : List ℕ). bytes ++ b) (sym brings.taken) in
          subst (λ (b : List ℕ).
          Reached b (earlier ++ after) (core_of next left new_streams new_kept)) parts
          (feeds.follows (bytes ++ brings.came) earlier
          (record {
            at = (
              [],
              whole,
              ([], sym greeting.3, (refl, greeting.2, greeting.4, greeting.5)),
              inl (omega (arith, ap length greeting.3)),
            );
          }));
    }

pub greets_on : (due piece still rest : List ℕ) (before : List InEvent) (waiting : List ℕ)
    (streams : Streams) (kept : Option Table)
    → Brings due piece still rest → still ≢ []
    → Feeds (core_of (Greeting due) waiting streams kept) piece before
    (core_of (Greeting still) waiting streams kept) before
greets_on due piece still rest before waiting streams kept brings more =
    let none : rest ≡ [] = elim brings.whole [ inl over ↦ absurd (more over) | inr r ↦ r ] in
    let came : piece ≡ brings.came =
    brings.taken ∙ ap (λ (b : List ℕ). brings.came ++ b) none ∙ append-nil brings.came in
    record {
      sound = tt;
      follows = λ bytes earlier r.
          let greeting = r.at in
          record {
            at = (
              greeting.0
                  ∙ ap (λ (b : List ℕ). bytes ++ b)
                  (brings.left ∙ ap (λ (b : List ℕ). b ++ still) (sym came))
                  ∙ sym (append_assoc bytes piece still),
              more,
              greeting.2,
              greeting.3,
              greeting.4,
              greeting.5,
            );
          };
    }

pub departed : (due piece : List ℕ) (before after : List InEvent) (waiting : List ℕ)
    (streams : Streams) (kept : Option Table)
    → Departs due piece → after ≡ before ++ fatal reason.Preface
    → Feeds (core_of (Greeting due) waiting streams kept) piece before
    (core_of Dead waiting streams kept) after
departed due piece before after waiting streams kept departs e =
    record {
      sound = tt;
      follows = λ bytes earlier r.
          let greeting = r.at in
          record {
            at = inl (
              (λ (more behind : List ℕ) (same : (bytes ++ piece) ++ more ≡ preface ++ behind).
                  departs more behind (append_cancel_left bytes (piece ++ more) (due ++ behind)
                  (sym (append_assoc bytes piece more)
                  ∙ same ∙ ap (λ (b : List ℕ). b ++ behind) greeting.0
                  ∙ append_assoc bytes due behind))),
              ap (λ (es : List InEvent). earlier ++ es) e
                  ∙ sym (append_assoc earlier before (fatal reason.Preface))
                  ∙ ap (λ (es : List InEvent). es ++ fatal reason.Preface) greeting.2,
            );
          };
    }
