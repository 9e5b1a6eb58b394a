-- What a writer keeps of its calls, after a control that it takes.
use Rattle.std.proofs.Common.{
  ◌≡◌,
  ℕ,
  ◌<◌,
  ◌==◌,
  ◌⊎◌,
  inl,
  inr,
  refl,
  sym,
  ap,
  subst,
  ◌∙◌,
  Bool,
  true,
  false,
  List,
  [],
  ◌∷◌,
  ◌++◌,
  Option,
  Some,
  None,
  length,
  get_or,
  arith,
  true≢false,
}
use Rattle.std.specs.Prelude.{All, ◌||◌, ◌&&◌, is_some, if◌then◌else◌}
use Rattle.std.specs.List.{list_any}
use Rattle.std.proofs.lemmas.Bool.{eqb-true}
use Rattle.std.proofs.lemmas.List.Elements.{All-append, All-head, All-nil, All-tail, All-weaker}
use Rattle.account.specs.declared.call.OutItem.{OutItem}
use Rattle.lists.specs.declared.field.Field.{Field}
use Rattle.outwriter.specs.OpenStreams.{Closes, OpenStreams}
use Rattle.outwriter.specs.declared.due.Due.{Due}
use Rattle.outwriter.specs.declared.due.Due.TheVariants as due_kind
use Rattle.outwriter.specs.declared.outbound.Outbound.{Outbound}
use Rattle.outwriter.specs.declared.stream.OpenStream.{OpenStream}
use Rattle.outwriter.specs.Calls.{is_fresh, is_served, IsRefused}
use Rattle.outwriter.specs.States.{States, SameOver, is_heard, knows, nothing_known, over_on}
use Rattle.outwriter.specs.Histories.{is_stream, was_reset}
use Rattle.outwriter.specs.Parts.{Mark, marks_on}
use Rattle.outwriter.specs.CallState.{
  Serves,
  Takes,
  MayBeDue,
  IsEnded,
  has_reason,
  none_is_new,
  refuses,
}
use Rattle.outwriter.specs.Steps.{Step}
use Rattle.outwriter.specs.ToldByNow.{SpellsOf}
use Rattle.outwriter.proofs.EndsKept.{takes-heard}
use Rattle.outwriter.proofs.Fronts.{open-begins}
use Rattle.outwriter.proofs.Others.{Later, later-none, ended-later, uncalled-same}
use Rattle.outwriter.proofs.TellSteps.{takes-tells}

-- ---- tests

-- a test that keeps its no was passed where it is passed
pub was-true : (b c : Bool) → (b ≡ false → c ≡ false) → c ≡ true → b ≡ true
was-true true c keeps e = refl
was-true false c keeps e = absurd (true≢false (sym e ∙ keeps refl))

pub was-false : (b c : Bool) → (b ≡ true → c ≡ true) → c ≡ false → b ≡ false
was-false true c keeps e = absurd (true≢false (sym (keeps refl) ∙ e))
was-false false c keeps e = refl

pub not-some : {X : Type 0} (o : Option X) (x : X) → o ≡ None → o ≡ Some x → ⊥
not-some o x e f = cc

-- nothing is a front of nothing
pub none-ended : (over : Option Bool) (told : List Mark) → told ≡ [] → IsEnded over told []
none-ended over told e =
    subst (λ (l : List Mark). IsEnded over l []) (sym e) (inl ([], refl), λ isnt. ([], refl))

-- ---- what is due

-- a stream of which a refusal or a reset is due is so still
module _ (run after : List Step) (o new : Outbound) (streams left : OpenStreams) where
  pub record StaysDue : Type 0 where
    pub refused : (id : ℕ) → is_fresh id run ≡ false → is_served id run ≡ false
        → (is_fresh id after ≡ false) × (is_served id after ≡ false)
    pub reset : (id : ℕ) → streams id ≡ None → is_heard o.states id ≡ true
        → (left id ≡ None) × (is_heard new.states id ≡ true)
    pub asked : (id : ℕ) (fields : List Field) → IsRefused id fields run → IsRefused id fields after
    pub reason : (id : ℕ) → has_reason id run ≡ true → has_reason id after ≡ true

  stays-due : StaysDue → (one : Due) → MayBeDue run o streams one → MayBeDue after new left one
  stays-due s (due_kind.Refuse id fields) h =
      let r = s.refused id h.0 h.1 in
      let t = s.reset id h.2 h.3 in
      (r.0, r.1, t.0, t.1, s.asked id fields h.4, s.reason id h.5)
  stays-due s (due_kind.Reset id code) h = s.reset id h.0 h.1
  stays-due s due_kind.SettingsAck h = tt
  stays-due s (due_kind.PingAck bytes) h = tt
  stays-due s (due_kind.Ping bytes) h = tt
  stays-due s (due_kind.Goaway last reason) h = tt

  pub all-due : StaysDue → (waiting : List Due) → All (MayBeDue run o streams) waiting
      → All (MayBeDue after new left) waiting
  all-due s waiting all =
      All-weaker (MayBeDue run o streams) (MayBeDue after new left) (stays-due s) waiting all

-- a stream whose refusal is due has a reason to be none of those that are open
refused-reason : (run : List Step) (o : Outbound) (streams : OpenStreams) (id : ℕ) (one : Due)
    → refuses id one ≡ true → MayBeDue run o streams one
    → (is_fresh id run ≡ false) × (has_reason id run ≡ true)
refused-reason run o streams id (due_kind.Refuse stream fields) e may =
    subst (λ n. (is_fresh n run ≡ false) × (has_reason n run ≡ true))
    (sym (eqb-true id stream e)) (may.0, may.5)
refused-reason run o streams id (due_kind.Reset stream code) e may = absurd (true≢false (sym e))
refused-reason run o streams id due_kind.SettingsAck e may = absurd (true≢false (sym e))
refused-reason run o streams id (due_kind.PingAck bytes) e may = absurd (true≢false (sym e))
refused-reason run o streams id (due_kind.Ping bytes) e may = absurd (true≢false (sym e))
refused-reason run o streams id (due_kind.Goaway last reason) e may = absurd (true≢false (sym e))

refused-or-heard : (id : ℕ) (more : List Due) (heard : Bool) (run : List Step) (o : Outbound)
    (streams : OpenStreams)
    → All (MayBeDue run o streams) more
    → (list_any (refuses id) more || heard) ≡ true
    → ((is_fresh id run ≡ false) × (has_reason id run ≡ true)) ⊎ (heard ≡ true)
refused-or-heard id [] heard run o streams all e = inr e
refused-or-heard id (one ∷ rest) heard run o streams all e =
    by (refused-or-heard id rest heard run o streams
    (All-tail (MayBeDue run o streams) one rest all)) (refuses id one) refl
  where
    by :
        ((list_any (refuses id) rest || heard) ≡ true
        → ((is_fresh id run ≡ false) × (has_reason id run ≡ true)) ⊎ (heard ≡ true))
        → (b : Bool) → refuses id one ≡ b
        → ((is_fresh id run ≡ false) × (has_reason id run ≡ true)) ⊎ (heard ≡ true)
    by behind true p =
        inl (refused-reason run o streams id one p (All-head (MayBeDue run o streams) one rest all))
    by behind false p = behind (sym (ap (λ b. (b || list_any (refuses id) rest) || heard) p) ∙ e)

-- ---- a step that opens and ends no stream

-- what was heard of has a reason to be none of those that are open, or was heard of before
abbrev pub HeardBy : List Step → Outbound → Outbound → Type 0
HeardBy after o new =
    (id : ℕ) → is_heard new.states id ≡ true
    → ((is_fresh id after ≡ true → was_reset id after ≡ true) × (has_reason id after ≡ true))
    ⊎ (is_heard o.states id ≡ true)

pub serves-step : (run after : List Step) (o new : Outbound) (streams : OpenStreams)
    (calls : List (ℕ × List OutItem)) (marks : List (ℕ × Mark)) (more : List Due)
    → SpellsOf after new marks → new.due.items ≡ o.due.items ++ more
    → ((id : ℕ) → knows new.states id ≡ knows o.states id) → SameOver o.states new.states
    → ((id : ℕ) → is_heard o.states id ≡ true → is_heard new.states id ≡ true) → HeardBy after o new
    → ((id : ℕ) → is_fresh id run ≡ false → is_fresh id after ≡ false)
    → ((id : ℕ) → is_served id after ≡ is_served id run) → Later run after
    → All (MayBeDue after new streams) more
    → Serves run o streams calls marks → Serves after new streams calls marks
serves-step run after o new streams calls marks more spells dues knowing over heard heard-by fresh
    served later due s =
    let still : StaysDue run after o new streams streams = record {
      refused = λ id e f. (fresh id e, served id ∙ f);
      reset = λ id e f. (e, heard id f);
      asked = later.refused;
      reason = later.reason;
    } in
    record {
      spells = spells;
      exact = s.exact;
      not_over = λ id stream e. over id ∙ s.not_over id stream e;
      known = λ id stream e. knowing id ∙ s.known id stream e;
      ended = λ k d within none is.
          subst (λ (b : Option Bool).
          IsEnded b (marks_on (get_or calls k d).0 marks) (get_or calls k d).1)
          (sym (over (get_or calls k d).0))
          (s.ended k d within none (sym (served (get_or calls k d).0) ∙ is));
      returned = λ id items is e.
          let h = s.returned id items (later.returned id items is) (sym (served id) ∙ e) in (
            h.0,
            subst (λ (b : Option Bool). IsEnded b (marks_on id marks) items) (sym (over id)) h.1,
          );
      stale = λ id items is. fresh id (s.stale id items (later.returned id items is));
      apart = λ i j d first second differ same.
          served (get_or calls i d).0 ∙ s.apart i j d first second differ same;
      opened = λ k d within. fresh (get_or calls k d).0 (s.opened k d within);
      due = subst (All (MayBeDue after new streams)) (sym dues)
          (All-append (MayBeDue after new streams) o.due.items more
          (all-due run after o new streams streams still o.due.items s.due) due);
      unknown = λ id e.
          s.unknown id (was-false (is_heard o.states id) (is_heard new.states id) (heard id) e);
      other = λ id f.
          subst (λ (b : Option Bool). IsEnded b (marks_on id marks) []) (sym (over id))
          (s.other id (was-true (is_fresh id run) (is_fresh id after) (fresh id) f));
      stays = λ id is there none.
          ended-later (over_on o.states id) (over_on new.states id) (was_reset id run)
          (was_reset id after) (over id) (later.reset id)
          (s.stays id (sym (served id) ∙ is) there none);
      early = λ id e f. elim (heard-by id e) [
        | inl why ↦ why.0 f
        | inr old ↦
            later.reset id (s.early id old
            (was-true (is_fresh id run) (is_fresh id after) (fresh id) f))
      ];
      reasons = λ id there none known. elim (heard-by id known) [
        | inl why ↦ inr why.1
        | inr old ↦
            ended-later (over_on o.states id) (over_on new.states id) (has_reason id run)
            (has_reason id after) (over id) (later.reason id)
            (s.reasons id there none old)
      ];
      brought = λ id.
          knowing id ∙ s.brought id ∙ ap (λ b. is_stream id && b) (sym (later.opened id));
      uncalled = λ id e.
          uncalled-same run after id (over_on o.states id) (over_on new.states id)
          (marks_on id marks) (marks_on id marks) (later.refused id) (over id) refl
          (s.uncalled id (sym (knowing id) ∙ e));
    }

-- a control that isn't a Reset
pub serves-same : (run after : List Step) (o new : Outbound) (streams : OpenStreams)
    (calls : List (ℕ × List OutItem))
    (marks : List (ℕ × Mark)) (more : List Due) (limits : List ℕ)
    → Takes more none_is_new limits o new → SpellsOf after new marks
    → ((id : ℕ) → is_fresh id run ≡ false → is_fresh id after ≡ false)
    → ((id : ℕ) → is_served id after ≡ is_served id run) → Later run after
    → All (MayBeDue after new streams) more
    → Serves run o streams calls marks → Serves after new streams calls marks
serves-same run after o new streams calls marks more limits takes spells fresh served later due s =
    serves-step run after o new streams calls marks more spells takes.due takes.knows takes.over
    (takes-heard more none_is_new limits o new takes)
    (λ id e.
    elim (refused-or-heard id more (is_heard o.states id) after new streams due
    (sym (takes.heard id) ∙ e)) [
      | inl why ↦ inl (λ f. absurd (true≢false (sym f ∙ why.0)), why.1)
      | inr old ↦ inr old
    ]) fresh served later due s

-- ---- the start

none-opened : (b : Bool) → false ≡ (b && false)
none-opened true = refl
none-opened false = refl

-- nothing was told, and no stream is known
pub serves-nothing : (o : Outbound) (streams : OpenStreams) (calls : List (ℕ × List OutItem))
    → SpellsOf [] o [] → o.due.items ≡ [] → o.states ≡ nothing_known
    → streams ≡ (λ id. None) → calls ≡ []
    → Serves [] o streams calls []
serves-nothing o streams calls spells due states no_streams no_calls =
    let none : (id : ℕ) (stream : OpenStream) → streams id ≡ Some stream → ⊥ =
    λ id stream e. not-some (streams id) stream (ap (λ (l : OpenStreams). l id) no_streams) e in
    let empty : (k : ℕ) → k < length calls → ⊥ = λ k within.
    omega (arith, within, ap length no_calls) in
    record {
      spells = spells;
      exact = λ id stream e. absurd (none id stream e);
      not_over = λ id stream e. absurd (none id stream e);
      known = λ id stream e. absurd (none id stream e);
      ended = λ k d within e f. absurd (empty k within);
      returned = λ id items is e. absurd is;
      stale = λ id items is. absurd is;
      apart = λ i j d first second differ same. refl;
      opened = λ k d within. absurd (empty k within);
      due = subst (All (MayBeDue [] o streams)) (sym due) (All-nil (MayBeDue [] o streams));
      unknown = λ id e. refl;
      other = λ id f. none-ended (over_on o.states id) [] refl;
      stays = λ id is there none. absurd (true≢false (sym is));
      early = λ id e f. absurd (true≢false (sym e ∙ ap (λ (s : States). is_heard s id) states));
      reasons = λ id there none known.
          absurd (true≢false (sym known ∙ ap (λ (s : States). is_heard s id) states));
      brought = λ id. ap (λ (s : States). knows s id) states ∙ none-opened (is_stream id);
      uncalled = λ id e. (λ still. refl, inl refl);
    }

-- ---- a call's stream is reset

-- what was told of it begins what its items spell
pub serves-closed : (run : List Step) (o : Outbound) (streams left : OpenStreams)
    (calls : List (ℕ × List OutItem))
    (marks : List (ℕ × Mark)) (id : ℕ) → Closes id streams left → was_reset id run ≡ true
    → has_reason id run ≡ true
    → Serves run o streams calls marks → Serves run o left calls marks
serves-closed run o streams left calls marks id closes reset reason s = record {
  spells = s.spells;
  exact = λ k stream e. s.exact k stream (was-open k stream e);
  not_over = λ k stream e. s.not_over k stream (was-open k stream e);
  known = λ k stream e. s.known k stream (was-open k stream e);
  ended = λ k d within none is. ended k d within is (streams (get_or calls k d).0) refl;
  returned = λ k items is e. let h = s.returned k items is e in (still-none k h.0, h.1);
  stale = s.stale;
  apart = s.apart;
  opened = s.opened;
  due = all-due run run o o streams left (record {
    refused = λ k e f. (e, f);
    reset = λ k e f. (still-none k e, f);
    asked = λ k fields is. is;
    reason = λ k e. e;
  }) o.due.items s.due;
  unknown = s.unknown;
  other = s.other;
  stays = λ k is there none. stays k is there none (streams k) refl;
  early = s.early;
  reasons = λ k there none known. reasons k there none known (streams k) refl;
  brought = s.brought;
  uncalled = s.uncalled;
}
  where
    was-open : (k : ℕ) (stream : OpenStream) → left k ≡ Some stream → streams k ≡ Some stream
    was-open k stream e = by (k == id) refl
      where
        by : (b : Bool) → (k == id) ≡ b → streams k ≡ Some stream
        by true p =
            absurd (not-some (left k) stream
            (closes k ∙ ap (λ b. if b then None else streams k) p) e)
        by false p = sym (closes k ∙ ap (λ b. if b then None else streams k) p) ∙ e

    still-none : (k : ℕ) → streams k ≡ None → left k ≡ None
    still-none k e = by (k == id) refl
      where
        by : (b : Bool) → (k == id) ≡ b → left k ≡ None
        by true p = closes k ∙ ap (λ b. if b then None else streams k) p
        by false p = closes k ∙ ap (λ b. if b then None else streams k) p ∙ e

    reasons : (k : ℕ) → is_stream k ≡ true → left k ≡ None → is_heard o.states k ≡ true
        → (found : Option OpenStream) → streams k ≡ found
        → (is_some (over_on o.states k) ≡ true) ⊎ (has_reason k run ≡ true)
    reasons k there none known None p = s.reasons k there p known
    reasons k there none known (Some stream) p = inr (by (k == id) refl)
      where
        by : (b : Bool) → (k == id) ≡ b → has_reason k run ≡ true
        by true q = subst (λ (n : ℕ). has_reason n run ≡ true) (sym (eqb-true k id q)) reason
        by false q =
            absurd (not-some (streams k) stream
            (sym (closes k ∙ ap (λ b. if b then None else streams k) q) ∙ none) p)

    stays : (k : ℕ) → is_served k run ≡ true → is_stream k ≡ true → left k ≡ None
        → (found : Option OpenStream) → streams k ≡ found
        → (is_some (over_on o.states k) ≡ true) ⊎ (was_reset k run ≡ true)
    stays k is there none None p = s.stays k is there p
    stays k is there none (Some stream) p = inr (by (k == id) refl)
      where
        by : (b : Bool) → (k == id) ≡ b → was_reset k run ≡ true
        by true q = subst (λ (n : ℕ). was_reset n run ≡ true) (sym (eqb-true k id q)) reset
        by false q =
            absurd (not-some (streams k) stream
            (sym (closes k ∙ ap (λ b. if b then None else streams k) q) ∙ none) p)

    ended : (k : ℕ) (d : ℕ × List OutItem) → k < length calls
        → is_served (get_or calls k d).0 run ≡ true
        → (found : Option OpenStream) → streams (get_or calls k d).0 ≡ found
        → IsEnded (over_on o.states (get_or calls k d).0) (marks_on (get_or calls k d).0 marks)
        (get_or calls k d).1
    ended k d within is None p = s.ended k d within p is
    ended k d within is (Some stream) p =
        let begins = open-begins run o streams calls marks s k d stream within p is in
        (inl begins, λ isnt. begins)

-- ---- without a step

pub serves-kept : (run : List Step) (o new : Outbound) (streams : OpenStreams)
    (calls : List (ℕ × List OutItem))
    (marks : List (ℕ × Mark)) → Takes [] none_is_new [] o new → Serves run o streams calls marks
    → Serves run new streams calls marks
serves-kept run o new streams calls marks takes s =
    serves-same run run o new streams calls marks [] [] takes
    (takes-tells [] none_is_new o new takes run marks s.spells) (λ id e. e)
    (λ id. refl) (later-none run)
    (All-nil (MayBeDue run new streams)) s

-- more is due
pub serves-owing : (run : List Step) (o new : Outbound) (streams : OpenStreams)
    (calls : List (ℕ × List OutItem))
    (marks : List (ℕ × Mark)) (more : List Due) → Takes more none_is_new [] o new
    → All (MayBeDue run new streams) more
    → Serves run o streams calls marks → Serves run new streams calls marks
serves-owing run o new streams calls marks more takes due s =
    serves-same run run o new streams calls marks more [] takes
    (takes-tells more none_is_new o new takes run marks s.spells) (λ id e. e) (λ id. refl)
    (later-none run) due s

-- the same streams
pub serves-equal : (run : List Step) (o : Outbound) (streams left : OpenStreams)
    (calls now : List (ℕ × List OutItem)) (marks : List (ℕ × Mark))
    → left ≡ streams → now ≡ calls → Serves run o streams calls marks → Serves run o left now marks
serves-equal run o streams left calls now marks a c s =
    subst (λ (l : OpenStreams). Serves run o l now marks) (sym a)
    (subst (λ (l : List (ℕ × List OutItem)). Serves run o streams l marks) (sym c) s)
