-- What a core has answered, and that nothing follows a fatal event.
use Rattle.std.proofs.Common.{
  ◌≡◌,
  ◌≢◌,
  ℕ,
  inl,
  inr,
  true,
  List,
  [],
  ◌++◌,
  refl,
  sym,
  ap,
  subst,
  ◌∙◌,
  append_assoc,
}
use Rattle.std.specs.Prelude.{Option}
use Rattle.std.specs.List.{list_any}
use Rattle.std.proofs.lemmas.Bool.{true≢false}
use Rattle.std.proofs.lemmas.List.{append-nil}
use Rattle.h2frame.specs.FrameList.{Entry, IsUnfinished}
use Rattle.h2frame.proofs.Lists.{joined_more}
use Rattle.hpack_codec.specs.Table.{Table}
use Rattle.streamstates.specs.Halves.{Streams}
use Rattle.session.specs.declared.event.InEvent.{InEvent}
use Rattle.session.specs.declared.context.Position.{Position}
use Rattle.session.specs.declared.in_core.InStage.{InStage}
use Rattle.session.specs.declared.in_core.InStage.TheVariants.{Greeting, Reading, Dead}
use Rattle.session.specs.Prefaces.{preface}
use Rattle.session.specs.Events.{
  is_fatal,
  IsCalm,
  Close,
  Unfinished,
  Faulty,
  Refused,
  Broken,
  Ended,
  Follows,
  start,
  Events,
  Greeted,
  Departed,
  Unsettled,
  Read,
}
use Rattle.session.specs.CoreStates.{Core, Leads, IsOver, AtStage, Reached}
use Rattle.session.proofs.Groups.{calm_runs}
use Rattle.session.proofs.Reading.{stood}
use Rattle.session.proofs.Stages.{follows_more, departs_more}

-- ---- what a core has answered

unfinished : (at : Position) (entries : List Entry) (given : List InEvent) (waiting : List ℕ)
    (streams : Streams) (kept : Option Table)
    → Leads entries given at streams kept → IsUnfinished waiting
    → Follows entries waiting Unfinished given
unfinished at entries given waiting streams kept leads rest =
    let s = stood at entries given streams kept leads in
    record {
      behind = s.behind;
      before = given;
      last = [];
      now = s.now;
      passes = s.passes;
      closes = (s.partial, rest, refl);
      all = sym (append-nil given);
    }

over_events : (bytes text : List ℕ) (given : List InEvent) → bytes ≡ preface ++ text
    → IsOver text given → Events bytes given
over_events bytes text given e (entries, rest, joined, inl (unsettled, fatally)) =
    Unsettled text entries rest e joined unsettled fatally
over_events bytes text given e (entries, rest, joined, inr (close, final, follows)) =
    Read text entries rest close e joined follows

stage_events : (stage : InStage) (bytes : List ℕ) (given : List InEvent) (waiting : List ℕ)
    (streams : Streams) (kept : Option Table)
    → AtStage bytes given stage waiting streams kept → Events bytes given
stage_events (Greeting due) bytes given waiting streams kept
    (e, some, silent, empty, keeps, table) = Greeted due e silent
stage_events (Reading position) bytes given waiting streams kept
    (text, e, (entries, joined, leads), rest) =
    Read text entries waiting Unfinished e joined
    (unfinished position entries given waiting streams kept leads rest)
stage_events Dead bytes given waiting streams kept (inl (departs, e)) = Departed departs e
stage_events Dead bytes given waiting streams kept (inr (text, e, over)) =
    over_events bytes text given e over

pub reached_events : (bytes : List ℕ) (given : List InEvent) (core : Core)
    → Reached bytes given core → Events bytes given
reached_events bytes given core reached =
    stage_events core.stage bytes given core.waiting core.streams core.kept reached.at

-- ---- behind a fatal event

not_calm : (given : List InEvent) → IsCalm given → list_any is_fatal given ≡ true → ⊥
not_calm given calm fatally = true≢false (sym fatally ∙ calm)

calm_unfinished : (entries : List Entry) (rest : List ℕ) (given : List InEvent)
    → Follows entries rest Unfinished given → IsCalm given
calm_unfinished entries rest given so =
    let none : so.last ≡ [] = so.closes.2 in
    let all : given ≡ so.before =
    so.all ∙ ap (λ (es : List InEvent). so.before ++ es) none ∙ append-nil so.before in
    subst IsCalm (sym all) (calm_runs start so.now so.passes.groups so.before so.passes.runs)

final : (close : Close) (entries : List Entry) (rest : List ℕ) (given : List InEvent)
    → Follows entries rest close given → list_any is_fatal given ≡ true → close ≢ Unfinished
final Unfinished entries rest given follows fatally =
    absurd (not_calm given (calm_unfinished entries rest given follows) fatally)
final (Faulty fault) entries rest given follows fatally = λ (e : Faulty fault ≡ Unfinished). cc
final (Refused frame error) entries rest given follows fatally =
    λ (e : Refused frame error ≡ Unfinished). cc
final (Broken frames block entry fault) entries rest given follows fatally =
    λ (e : Broken frames block entry fault ≡ Unfinished). cc
final (Ended group next error) entries rest given follows fatally =
    λ (e : Ended group next error ≡ Unfinished). cc

longer : (bytes text more : List ℕ) → bytes ≡ preface ++ text
    → bytes ++ more ≡ preface ++ (text ++ more)
longer bytes text more e = ap (λ (b : List ℕ). b ++ more) e ∙ append_assoc preface text more

pub fatal_stays : (bytes more : List ℕ) (given : List InEvent) → Events bytes given
    → list_any is_fatal given ≡ true → Events (bytes ++ more) given
fatal_stays bytes more given (Greeted due e silent) fatally =
    absurd (not_calm given (rw silent refl) fatally)
fatal_stays bytes more given (Departed departs e) fatally =
    Departed (departs_more preface bytes more departs) e
fatal_stays bytes more given (Unsettled text entries rest e joined unsettled is) fatally =
    Unsettled (text ++ more) entries (rest ++ more) (longer bytes text more e)
    (joined_more text entries rest more joined) unsettled is
fatal_stays bytes more given (Read text entries rest close e joined follows) fatally =
    Read (text ++ more) entries (rest ++ more) close (longer bytes text more e)
    (joined_more text entries rest more joined)
    (follows_more entries rest more close given
    (final close entries rest given follows fatally) follows)
