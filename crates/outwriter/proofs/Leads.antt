-- What a writer's core keeps as its run goes on: one step after another, and what callers see of
-- it.
use Rattle.std.proofs.Common.{
  ◌≡◌,
  ℕ,
  inr,
  refl,
  sym,
  ap,
  subst,
  ◌∙◌,
  Bool,
  true,
  false,
  true≢false,
  List,
  [],
  ◌∷◌,
  ◌++◌,
  Option,
  Some,
  None,
  Result,
  Ok,
  Err,
  append-nil,
  length,
  arith,
}
use Rattle.std.specs.Prelude.{
  All,
  get_or,
  IfErr,
  IfNone,
  OnErr,
  OnOk,
  ◌==◌,
  ◌&&◌,
  ◌||◌,
  not,
  if◌then◌else◌,
}
use Rattle.std.specs.Option.{is_some, option_or}
use Rattle.std.proofs.lemmas.List.{length-map, map-append}
use Rattle.std.proofs.lemmas.List.Elements.{All-cons, All-nil, All-weaker}
use Rattle.account.specs.declared.call.OutItem.{OutItem}
use Rattle.callbox.specs.declared.sender.Sender.{Sender}
use Rattle.h2frame.specs.declared.error_code.ErrorCode.{ErrorCode}
use Rattle.h2frame.specs.declared.frame.Frame.{Frame}
use Rattle.lists.specs.declared.field.Field.{Field}
use Rattle.reasons.specs.declared.Reason.{Reason}
use Rattle.outwriter.specs.declared.control.WriterOrder.{WriterOrder}
use Rattle.outwriter.specs.declared.control.WriterOrder.TheVariants as order
use Rattle.outwriter.specs.declared.control.WriterOrder.TheVariants.{Goaway}
use Rattle.outwriter.specs.declared.control.OutFault.{OutFault}
use Rattle.outwriter.specs.declared.control.OutFault.TheVariants.{OutOfMemory}
use Rattle.outwriter.specs.declared.due.Due.{Due}
use Rattle.outwriter.specs.declared.due.Due.TheVariants as due_kind
use Rattle.outwriter.specs.declared.out_core.OutCore.{OutCore}
use Rattle.outwriter.specs.declared.outbound.Outbound.{Outbound}
use Rattle.outwriter.specs.declared.sending.Sending.{Sending}
use Rattle.outwriter.specs.declared.stream.OpenStream.{OpenStream}
use Rattle.outwriter.specs.Calls.{is_closed, closes, is_fresh, is_served, calls_off, refuses_stream}
use Rattle.outwriter.specs.CallState.{Kept, MayBeDue, Takes, none_is_new}
use Rattle.outwriter.specs.CoreChanges.{
  KeptOn,
  KeptStill,
  KeptWith,
  Prepares,
  becomes_open,
  due_reset,
  is_new_call,
}
use Rattle.outwriter.specs.Cores.{
  IsAtRest,
  IsUnused,
  Keeps,
  Leads,
  LeadsControl,
  LeadsOn,
  LeadsStill,
  Parts,
  calls,
}
use Rattle.outwriter.specs.Drains.{
  IsUnsaid,
  fails,
  goaway_by,
  has_failed,
  is_going_away,
  ordered_goaway,
  probes,
  was_probed,
}
use Rattle.outwriter.specs.Frames.{IsSound, goaway_frame, is_last}
use Rattle.outwriter.specs.Histories.{is_stream, resets_stream}
use Rattle.outwriter.specs.OpenStreams.{Closes, OpenStreams, stream_at}
use Rattle.outwriter.specs.Parts.{Mark, IsPart}
use Rattle.outwriter.specs.Runs.{IsLawful, MayWrite, opens_stream}
use Rattle.outwriter.specs.RunState.{IsSpent, MirrorsOf, MirrorsOn, Progresses, Stays}
use Rattle.outwriter.specs.States.{
  SameOver,
  States,
  is_heard,
  is_reset,
  knows,
  nothing_known,
  open_at,
}
use Rattle.outwriter.specs.Steps.{Step, Order, Taken, Granted, Written, Returned, order_of}
use Rattle.outwriter.specs.StreamLooks.{GetsQuiet, HoldsOn, KeepsFronts}
use Rattle.outwriter.specs.TableLimits.{limits_of}
use Rattle.outwriter.specs.ToldByNow.{SpellsOf}
use Rattle.outwriter.proofs.CallSteps.{serves-equal, serves-kept, serves-nothing, serves-same}
use Rattle.outwriter.proofs.CallStepsOpen.{serves-opened}
use Rattle.outwriter.proofs.CallStepsOrders.{
  serves-ended,
  serves-ordered,
  serves-refused,
  serves-unrefused,
}
use Rattle.outwriter.proofs.EndsKept.{ended-if, heeds-calm, heeds-takes}
use Rattle.outwriter.proofs.FrameSteps.{no-updates}
use Rattle.outwriter.proofs.Fronts.{fronts_of, returned_of, others_of}
use Rattle.outwriter.proofs.HeedSteps.{
  heeds-equal,
  open-heeds,
  refuse-again,
  refuse-heeds,
  reset-heeds,
}
use Rattle.outwriter.proofs.Others.{later-granted, other-later}
use Rattle.outwriter.proofs.Progresses.{spent-answered}
use Rattle.outwriter.proofs.QuietSteps.{no-frame-if}
use Rattle.outwriter.proofs.RunStateSteps.{mirrors-but-open, quiet-led}
use Rattle.outwriter.proofs.ServeSteps.{some-none}
use Rattle.outwriter.proofs.SoundFrames.{sound-goaway}
use Rattle.outwriter.proofs.TellSteps.{granted-tells}

-- ---- controls that are none of a stream's beginning or end

abbrev pub IsPlainOrder : Order → Type 0
IsPlainOrder (order.Open id sender) = ⊥
IsPlainOrder (order.Refuse id fields) = ⊥
IsPlainOrder (order.Reset id code written) = ⊥
IsPlainOrder _ = Unit {0}

record IsCalm (one : Order) : Type 0 where
  unopened : (id : ℕ) → opens_stream id one ≡ false
  unrefused : (id : ℕ) → refuses_stream id one ≡ false
  calm : (id : ℕ) (opened : Bool) → calls_off id opened one ≡ false
  unreset : (id : ℕ) → resets_stream id one ≡ false

is-calm : (one : Order) → IsPlainOrder one → IsCalm one
is-calm (order.Open id sender) plain = absurd plain
is-calm (order.Refuse id fields) plain = absurd plain
is-calm (order.Reset id code written) plain = absurd plain
is-calm (order.Settings settings) plain = record {
  unopened = λ id. refl;
  unrefused = λ id. refl;
  calm = λ id opened. refl;
  unreset = λ id. refl;
}
is-calm (order.Ping bytes) plain = record {
  unopened = λ id. refl;
  unrefused = λ id. refl;
  calm = λ id opened. refl;
  unreset = λ id. refl;
}
is-calm (order.Probe bytes) plain = record {
  unopened = λ id. refl;
  unrefused = λ id. refl;
  calm = λ id opened. refl;
  unreset = λ id. refl;
}
is-calm (order.Window id n) plain = record {
  unopened = λ id. refl;
  unrefused = λ id. refl;
  calm = λ id opened. refl;
  unreset = λ id. refl;
}
is-calm (order.Goaway last reason) plain = record {
  unopened = λ id. refl;
  unrefused = λ id. refl;
  calm = λ id opened. refl;
  unreset = λ id. refl;
}
is-calm order.InputEnded plain = record {
  unopened = λ id. refl;
  unrefused = λ id. refl;
  calm = λ id opened. refl;
  unreset = λ id. refl;
}
is-calm order.Close plain = record {
  unopened = λ id. refl;
  unrefused = λ id. refl;
  calm = λ id opened. refl;
  unreset = λ id. refl;
}

-- ---- what is due of no stream

abbrev pub IsPlainDue : Due → Type 0
IsPlainDue (due_kind.Refuse id fields) = ⊥
IsPlainDue (due_kind.Reset id code) = ⊥
IsPlainDue _ = Unit {0}

plain-may : (run : List Step) (o : Outbound) (streams : OpenStreams) (one : Due) → IsPlainDue one
    → MayBeDue run o streams one
plain-may run o streams (due_kind.Refuse id fields) h = absurd h
plain-may run o streams (due_kind.Reset id code) h = absurd h
plain-may run o streams due_kind.SettingsAck h = tt
plain-may run o streams (due_kind.PingAck bytes) h = tt
plain-may run o streams (due_kind.Ping bytes) h = tt
plain-may run o streams (due_kind.Goaway last reason) h = tt

pub one-plain : (one : Due) → IsPlainDue one → All IsPlainDue (one ∷ [])
one-plain one h = All-cons IsPlainDue one [] h (All-nil IsPlainDue)

pub none-plain : All IsPlainDue []
none-plain = All-nil IsPlainDue

-- ---- what is kept

-- room for what is due
pub kept-room : (old made : Outbound) → Stays old made → Takes [] none_is_new [] old made
    → KeptStill old made
kept-room old made stays takes run calls k = record {
  mirrors = stays run k.mirrors;
  marks = k.marks;
  serves =
      serves-equal run made (open_at old.states) (open_at made.states) calls calls k.marks
      (takes.same_open (λ id. refl)) refl
      (serves-kept run old made (open_at old.states) calls k.marks takes k.serves);
  heeds =
      heeds-equal run made (open_at old.states) (open_at made.states) (takes.same_open (λ id. refl))
      (heeds-takes run [] [] old made (open_at old.states) takes k.heeds);
}

-- a plain control
pub kept-plain : (one : Order) (more : List Due) (made after : Outbound) → IsPlainOrder one
    → All IsPlainDue more → MirrorsOn (Taken one) made after
    → Takes more none_is_new (limits_of one) made after → KeptOn (Taken one) made after
kept-plain one more made after plain dues mirrors takes run calls k =
    let is = is-calm one plain in
    record {
      mirrors = mirrors run k.mirrors;
      marks = k.marks;
      serves =
          serves-equal (Taken one ∷ run) after (open_at made.states) (open_at after.states) calls
          calls k.marks (takes.same_open (λ id. refl)) refl
          (serves-ordered run made after (open_at made.states) calls k.marks one more is.unopened
          (λ id.
          ap (λ b. if b then false else (if refuses_stream id one then false else is_fresh id run))
          (is.unopened id)
          ∙ ap (λ b. if b then false else is_fresh id run) (is.unrefused id))
          (λ id. ap (λ b. if b then is_fresh id run else is_served id run) (is.unopened id))
          (All-weaker IsPlainDue (MayBeDue (Taken one ∷ run) after (open_at made.states))
          (plain-may (Taken one ∷ run) after (open_at made.states)) more dues)
          takes k.serves);
      heeds =
          heeds-equal (Taken one ∷ run) after (open_at made.states) (open_at after.states)
          (takes.same_open (λ id. refl))
          (heeds-calm run one more (limits_of one) made after (open_at made.states) is.calm
          is.unreset takes k.heeds);
    }

-- credit
pub kept-granted : (id n : ℕ) (old after : Outbound) → MirrorsOn (Granted id n) old after
    → Takes [] none_is_new [] old after → KeptOn (Granted id n) old after
kept-granted id n old after mirrors takes run calls k = record {
  mirrors = mirrors run k.mirrors;
  marks = k.marks;
  serves =
      serves-equal (Granted id n ∷ run) after (open_at old.states) (open_at after.states) calls
      calls k.marks (takes.same_open (λ id. refl)) refl
      (serves-same run (Granted id n ∷ run) old after (open_at old.states) calls k.marks [] [] takes
      (granted-tells [] none_is_new old after id n takes run k.marks k.serves.spells) (λ id e. e)
      (λ id. refl) (later-granted run id n)
      (All-nil (MayBeDue (Granted id n ∷ run) after (open_at old.states))) k.serves);
  heeds =
      heeds-equal run after (open_at old.states) (open_at after.states)
      (takes.same_open (λ id. refl))
      (heeds-takes run [] [] old after (open_at old.states) takes k.heeds);
}

-- a Refuse, of a stream of which nothing was heard
pub kept-refused : (id : ℕ) (fields : List Field) (old after : Outbound) → is_stream id ≡ true
    → is_heard old.states id ≡ false → MirrorsOn (Taken (order.Refuse id fields)) old after
    → Takes (due_kind.Refuse id fields ∷ []) none_is_new [] old after
    → KeptOn (Taken (order.Refuse id fields)) old after
kept-refused id fields old after there unheard mirrors takes run calls k =
    let steps : List Step = Taken (order.Refuse id fields) ∷ run in
    record {
      mirrors = mirrors run k.mirrors;
      marks = k.marks;
      serves =
          serves-equal steps after (open_at old.states) (open_at after.states) calls calls k.marks
          (takes.same_open (λ id. refl)) refl
          (serves-refused run old (open_at old.states) calls k.marks id fields after there
          unheard takes k.serves);
      heeds =
          heeds-equal steps after (open_at old.states) (open_at after.states)
          (takes.same_open (λ id. refl))
          (refuse-heeds run id fields old (open_at old.states) calls k.marks k.serves after
          unheard takes k.heeds);
    }

-- or of another, and of none
pub kept-unrefused : (id : ℕ) (fields : List Field) (o : Outbound)
    → (is_stream id ≡ true → is_heard o.states id ≡ true)
    → KeptOn (Taken (order.Refuse id fields)) o o
kept-unrefused id fields o heard run calls k = record {
  mirrors =
      quiet-led (order.Refuse id fields) o refl (λ id. refl) (λ id. refl)
      (λ run history. refl) run k.mirrors;
  marks = k.marks;
  serves = serves-unrefused run o (open_at o.states) calls k.marks id fields k.serves;
  heeds = refuse-again run id fields o (open_at o.states) calls k.marks k.serves heard k.heeds;
}

-- a Reset, with which the stream isn't open any more
pub kept-reset : (id : ℕ) (code : ErrorCode) (written : Bool) (old reset : Outbound)
    (opened : List (ℕ × Option OpenStream))
    → MirrorsOn (Taken (order.Reset id code written)) old reset
    → Takes (due_reset old id code written) none_is_new []
    (record old { states = reset.states }) reset
    → ((k : ℕ)
    → (knows reset.states k ≡ knows old.states k)
    × (is_reset reset.states k ≡ ((is_stream id && (k == id)) || is_reset old.states k)))
    → ((k : ℕ) → is_heard reset.states k ≡ ((is_stream id && (k == id)) || is_heard old.states k))
    → SameOver old.states reset.states
    → Closes id (open_at old.states) (open_at (record reset.states { opened = opened }))
    → KeptOn (Taken (order.Reset id code written)) old
    (record reset { states = record reset.states { opened = opened } })
kept-reset id code written old reset opened mirrors takes marks heard over closes run calls k =
    let after = record reset { states = record reset.states { opened = opened } } in
    record {
      mirrors =
          mirrors-but-open (Taken (order.Reset id code written) ∷ run) reset after refl
          (mirrors run k.mirrors);
      marks = k.marks;
      serves =
          serves-ended run old after (open_at old.states) (open_at after.states) calls k.marks id
          code written (record {
            due = takes.due;
            knows = λ k. refl;
            heard = takes.heard;
            resets = λ k. refl;
            over = λ k. refl;
            same_open = λ none. refl;
            begun = takes.begun;
            block = takes.block;
            encoder = takes.encoder;
          }) (λ k. (marks k).0) heard over closes k.serves;
      heeds =
          reset-heeds run id code written old after marks takes.due over heard (open_at old.states)
          (open_at after.states) closes k.heeds;
    }

-- an Open
pub kept-with : {E : Type 0} (result : Result (Unit {0}) E) (id place : ℕ) (old new : Outbound)
    → OnOk result (MirrorsOn (Taken (order.Open id tt)) old new)
    → OnOk result (Takes [] (λ other. is_new_call old id && (other == id)) [] old new)
    → OnOk result ((k : ℕ)
    → open_at new.states k
    ≡ (if becomes_open old id && (k == id) then Some (stream_at place) else open_at old.states k))
    → OnOk result (KeptWith id place old new)
kept-with (Ok done) id place old new mirrors takes opens = λ run calls long k.
    let prepares : Prepares id place old new (open_at old.states) (open_at new.states) =
    record { takes = takes; opens = opens } in
    record {
      mirrors = mirrors run k.mirrors;
      marks = k.marks;
      serves =
          serves-opened run old new (open_at old.states) (open_at new.states) calls
          k.marks id k.serves
          (subst (λ n. Prepares id n old new (open_at old.states) (open_at new.states))
          (sym long) prepares);
      heeds =
          open-heeds run id place old new (open_at old.states)
          (open_at new.states) prepares k.heeds;
    }
kept-with (Err e) id place old new mirrors takes opens = tt

pub kept-without : {E : Type 0} (result : Result (Unit {0}) E) (old new : Outbound)
    → OnErr result (Stays old new) → OnErr result (Takes [] none_is_new [] old new)
    → OnErr result (KeptStill old new)
kept-without (Ok done) old new stays takes = tt
kept-without (Err e) old new stays takes = kept-room old new stays takes

-- ---- what a dead core may say

-- more credit, or a sender that is given back, forbids no GOAWAY
may-part-granted : (run : List Step) (id n last : ℕ) (reason : Reason)
    → MayWrite (Taken (Goaway last reason) ∷ run) (goaway_frame last reason)
    → MayWrite (Taken (Goaway last reason) ∷ Granted id n ∷ run) (goaway_frame last reason)
may-part-granted run id n last reason m = record {
  first = m.first;
  windows = λ e. cc;
  content = λ e. cc;
  answers = m.answers;
  parts = m.parts;
  asked = λ e. cc;
  after_reset = m.after_reset;
  block = m.block;
  not_reset = m.not_reset;
  not_ended = m.not_ended;
  goes_on = m.goes_on;
  owes = λ k. omega (arith, no-updates run (goaway_frame last reason) refl k);
  update = λ e. cc;
}

pub may-part-returned : (run : List Step) (id : ℕ) (items : List OutItem)
    (last : ℕ) (reason : Reason)
    → MayWrite (Taken (Goaway last reason) ∷ run) (goaway_frame last reason)
    → MayWrite (Taken (Goaway last reason) ∷ Returned id items ∷ run) (goaway_frame last reason)
may-part-returned run id items last reason m = record {
  first = m.first;
  windows = λ e. cc;
  content = λ e. cc;
  answers = m.answers;
  parts = m.parts;
  asked = λ e. cc;
  after_reset = m.after_reset;
  block = m.block;
  not_reset = m.not_reset;
  not_ended = m.not_ended;
  goes_on = m.goes_on;
  owes = m.owes;
  update = λ e. cc;
}

-- the frames of a stream tell with a GOAWAY what they told before
part-parted : (id : ℕ) (run : List Step) (last : ℕ) (reason : Reason) (part : List Mark)
    → IsPart id run part
    → IsPart id (Written (goaway_frame last reason) ∷ Taken (Goaway last reason) ∷ run) part
part-parted id run last reason part (table, marks, tells, is) =
    (table, marks, (table, marks, tells, (refl, sym (append-nil marks))), is)

-- ---- whether the peer may be warned

not-true : (b : Bool) → not b ≡ true → b ≡ false
not-true false e = refl
not-true true e = absurd (true≢false (sym e))

pub unsaid-plain : (one : Order) (leaving probed failed : Bool) → goaway_by one ≡ None
    → probes one ≡ false → fails one ≡ false → (run : List Step)
    → IsUnsaid run leaving probed failed → IsUnsaid (Taken one ∷ run) leaving probed failed
unsaid-plain one leaving probed failed no_goaway no_probe no_error run unsaid = record {
  goaway = λ still.
      ap (λ (o : Option Frame). is_some (option_or o (ordered_goaway run))) no_goaway
      ∙ unsaid.goaway still;
  probe = λ still. ap (λ (b : Bool). b || was_probed run) no_probe ∙ unsaid.probe still;
  error = λ still. ap (λ (b : Bool). b || has_failed run) no_error ∙ unsaid.error still;
}

pub either-false : (a b : Bool) → (a || b) ≡ false → (a ≡ false) × (b ≡ false)
either-false false b both = (refl, both)
either-false true b both = absurd (true≢false both)

pub unsaid-goaway : (last : ℕ) (reason : Reason) (leaving probed failed fails_now : Bool)
    → fails_now ≡ (failed || is_last (goaway_frame last reason)) → (run : List Step)
    → IsUnsaid run leaving probed failed
    → IsUnsaid (Taken (Goaway last reason) ∷ run) true probed fails_now
unsaid-goaway last reason leaving probed failed fails_now is run unsaid = record {
  goaway = λ still. absurd (true≢false still);
  probe = unsaid.probe;
  error = λ still.
      let none = either-false failed (is_last (goaway_frame last reason)) (sym is ∙ still) in
      ap (λ (b : Bool). b || has_failed run) none.1 ∙ unsaid.error none.0;
}

pub unsaid-probe : (bytes : List ℕ) (leaving probed failed : Bool) (run : List Step)
    → IsUnsaid run leaving probed failed
    → IsUnsaid (Taken (order.Probe bytes) ∷ run) leaving true failed
unsaid-probe bytes leaving probed failed run unsaid = record {
  goaway = unsaid.goaway;
  probe = λ still. absurd (true≢false still);
  error = unsaid.error;
}

-- ---- a core

module _ {L In Out Shut : Type 0} (got : Out → List OutItem) where
  -- as long as it lives, all follows from what it keeps
  pub leads-living : (run : List Step) (core : OutCore L In Out Shut) → core.is_dead ≡ false
      → IsLawful run → is_closed run ≡ core.closed
      → IsUnsaid run core.is_leaving core.has_probed core.has_failed → Keeps got run core.sending
      → Leads got run core
  leads-living run core alive lawful closed unsaid k =
      let o = core.sending.outbound in
      let all = calls got core.sending.senders.items in
      record {
        lawful = lawful;
        fronts = fronts_of run o (open_at o.states) all k.marks k.serves;
        returned = returned_of run o (open_at o.states) all k.marks k.serves;
        others = others_of run o (open_at o.states) all k.marks k.serves;
        closed = closed;
        parts = λ dead. absurd (true≢false (sym dead ∙ alive));
        unsaid = λ still. unsaid;
        keeps = λ still. k;
      }

  -- one on which nothing was written
  pub leads-nothing : (core : OutCore L In Out Shut) → core.is_dead ≡ false → core.closed ≡ false
      → MirrorsOf [] core.sending.outbound → core.sending.senders.items ≡ []
      → SpellsOf [] core.sending.outbound [] → core.sending.outbound.due.items ≡ []
      → core.sending.outbound.states ≡ nothing_known → Leads got [] core
  leads-nothing core alive closed mirrors senders spells due states =
      let o = core.sending.outbound in
      leads-living [] core alive tt (sym closed)
      (record { goaway = λ still. refl; probe = λ still. refl; error = λ still. refl }) (record {
        mirrors = mirrors;
        marks = [];
        serves =
            serves-nothing o (open_at o.states) (calls got core.sending.senders.items) spells due
            states (ap (λ (s : States). open_at s) states) (ap (calls got) senders);
        heeds = (
          λ id there e. absurd (true≢false (sym e)),
          λ id there. ap (λ (s : States). is_reset s id) states,
          λ id is. refl,
          λ id there e. absurd (true≢false (sym e)),
        );
      })

  -- once it is dead, what was told is a front still
  pub leads-dead : (old new : OutCore L In Out Shut) → new.is_dead ≡ true → new.closed ≡ old.closed
      → KeepsFronts got old.sending new.sending
      → ((run : List Step) → Leads got run old → Parts run new) → LeadsStill got old new
  leads-dead old new dead closed fronts parts run l = record {
    lawful = l.lawful;
    fronts = fronts run l.fronts;
    returned = l.returned;
    others = l.others;
    closed = l.closed ∙ sym closed;
    parts = parts run l;
    unsaid = λ alive. absurd (true≢false (sym dead ∙ alive));
    keeps = λ alive. absurd (true≢false (sym dead ∙ alive));
  }

  -- credit tells nothing, of a dead core as well
  pub leads-granted : (old : OutCore L In Out Shut) (after : Outbound) (id n : ℕ)
      → (old.is_dead ≡ false → KeptOn (Granted id n) old.sending.outbound after)
      → LeadsOn got (Granted id n) old
      (record old { sending = record old.sending { outbound = after } })
  leads-granted old after id n kept run l = record {
    lawful = l.lawful;
    fronts = l.fronts;
    returned = l.returned;
    others = l.others;
    closed = l.closed;
    parts = λ dead may last reason.
        may-part-granted run id n last reason (l.parts dead may last reason);
    unsaid = λ alive.
        let before = l.unsaid alive in
        record { goaway = before.goaway; probe = before.probe; error = before.error };
    keeps = λ alive. kept alive run (calls got old.sending.senders.items) (l.keeps alive);
  }

  -- the last word of a dead core is its next frame, behind a control that asks for it; it tells
  -- nothing of a stream
  pub leads-parted : (old : OutCore L In Out Shut) (last : ℕ) (reason : Reason) (frame : Frame)
      → frame ≡ goaway_frame last reason → old.is_dead ≡ true → old.may_part ≡ true
      → (run : List Step) → Leads got run old
      → Leads got (Written frame ∷ Taken (Goaway last reason) ∷ run)
      (record old { may_part = false })
  leads-parted old last reason frame is dead may run l =
      subst (λ (f : Frame).
      Leads got (Written f ∷ Taken (Goaway last reason) ∷ run) (record old { may_part = false }))
      (sym is) (record {
        lawful = (sound-goaway last reason, l.parts dead may last reason, l.lawful);
        fronts = λ k d within served.
            let t = l.fronts k d within served in (
              t.0,
              part-parted (get_or (calls got old.sending.senders.items) k d).0 run
                  last reason t.0 t.1,
              t.2,
            );
        returned = λ id items given served.
            let t = l.returned id items given served in
            (t.0, part-parted id run last reason t.0 t.1, t.2);
        others = λ id unopened.
            let t = l.others id unopened in (
              t.0,
              part-parted id run last reason t.0 t.1,
              other-later run
                  (Written (goaway_frame last reason) ∷ Taken (Goaway last reason) ∷ run) id t.0
                  (λ fields asked. inr asked) t.2,
            );
        closed = l.closed;
        parts = λ dead may. absurd (true≢false (sym may));
        unsaid = λ alive. absurd (true≢false (sym dead ∙ alive));
        keeps = λ alive. absurd (true≢false (sym dead ∙ alive));
      })

  -- a core that lives and has noted none
  pub none-goaway : (core : OutCore L In Out Shut) → core.is_dead ≡ false
      → not core.is_leaving ≡ true → (run : List Step) → Leads got run core
      → is_going_away run ≡ false
  none-goaway core alive may run l = (l.unsaid alive).goaway (not-true core.is_leaving may)

  pub none-failed : (core : OutCore L In Out Shut) → core.is_dead ≡ false
      → not core.has_failed ≡ true → (run : List Step) → Leads got run core → has_failed run ≡ false
  none-failed core alive may run l = (l.unsaid alive).error (not-true core.has_failed may)

  pub none-probe : (core : OutCore L In Out Shut) → core.is_dead ≡ false
      → not core.has_probed ≡ true → (run : List Step) → Leads got run core → was_probed run ≡ false
  none-probe core alive may run l = (l.unsaid alive).probe (not-true core.has_probed may)

  module _ (old : OutCore L In Out Shut) (alive : old.is_dead ≡ false) (made : Outbound)
      (room : KeptStill old.sending.outbound made) where
    -- a control is handed back
    pub leads-room :
        LeadsStill got old (record old { sending = record old.sending { outbound = made } })
    leads-room run l =
        leads-living run (record old { sending = record old.sending { outbound = made } }) alive
        l.lawful l.closed (l.unsaid alive)
        (room run (calls got old.sending.senders.items) (l.keeps alive))

    -- or taken
    pub leads-taken : (after : Outbound) (closed leaving probed failed : Bool)
        (control given : WriterOrder (Sender L In Out Shut))
        → control ≡ given
        → (closes (order_of given) || old.closed) ≡ closed
        → ((run : List Step) → IsUnsaid run old.is_leaving old.has_probed old.has_failed
        → IsUnsaid (Taken (order_of given) ∷ run) leaving probed failed)
        → KeptOn (Taken (order_of given)) made after
        → LeadsOn got (Taken (order_of control)) old (record old {
          closed = closed;
          is_leaving = leaving;
          has_probed = probed;
          has_failed = failed;
          sending = record old.sending { outbound = after };
        })
    leads-taken after closed leaving probed failed control given is closes_it says kept =
        let new = record old {
          closed = closed;
          is_leaving = leaving;
          has_probed = probed;
          has_failed = failed;
          sending = record old.sending { outbound = after };
        } in
        let all = calls got old.sending.senders.items in
        subst (λ (c : WriterOrder (Sender L In Out Shut)). LeadsOn got (Taken (order_of c)) old new)
        (sym is) (λ run l.
        leads-living (Taken (order_of given) ∷ run) new alive l.lawful
        (ap (λ b. closes (order_of given) || b) l.closed ∙ closes_it)
        (says run (l.unsaid alive)) (kept run all (room run all (l.keeps alive))))

    -- one that is answered
    pub leads-answered : (result : Result (Unit {0}) (OutFault (Sender L In Out Shut)))
        (after : Sending L In Out Shut) (control given : WriterOrder (Sender L In Out Shut))
        → control ≡ given
        → closes (order_of given) ≡ false → goaway_by (order_of given) ≡ None
        → probes (order_of given) ≡ false → fails (order_of given) ≡ false
        → OnOk result (IsUnused got given → (run : List Step)
        → Keeps got run (record old.sending { outbound = made })
        → Keeps got (Taken (order_of given) ∷ run) after)
        → OnErr result ((run : List Step) → Keeps got run (record old.sending { outbound = made })
        → Keeps got run after)
        → IfErr result (λ fault. fault ≡ OutOfMemory (Some given))
        → LeadsControl got result control old (record old { sending = after })
    leads-answered (Ok done) after control given is opens no_goaway no_probe
        no_error kept still back =
        subst (λ (c : WriterOrder (Sender L In Out Shut)).
        IsUnused got c → LeadsOn got (Taken (order_of c)) old (record old { sending = after }))
        (sym is) (λ unused run l.
        leads-living (Taken (order_of given) ∷ run) (record old { sending = after }) alive l.lawful
        (ap (λ b. b || is_closed run) opens ∙ l.closed)
        (unsaid-plain (order_of given) old.is_leaving old.has_probed old.has_failed no_goaway
        no_probe no_error run (l.unsaid alive))
        (kept unused run (room run (calls got old.sending.senders.items) (l.keeps alive))))
    leads-answered (Err fault) after control given is opens no_goaway no_probe
        no_error kept still back =
        subst (λ (f : OutFault (Sender L In Out Shut)).
        LeadsControl got (Err f) control old (record old { sending = after })) (sym back) (
          ap (λ (c : WriterOrder (Sender L In Out Shut)). Some c) (sym is),
          λ run l.
              leads-living run (record old { sending = after }) alive l.lawful l.closed
              (l.unsaid alive) (still run
              (room run (calls got old.sending.senders.items) (l.keeps alive))),
        )

    -- of a stream
    pub leads-ordered : (result : Result (Unit {0}) (OutFault (Sender L In Out Shut)))
        (after : Outbound) (control given : WriterOrder (Sender L In Out Shut))
        → control ≡ given
        → closes (order_of given) ≡ false → goaway_by (order_of given) ≡ None
        → probes (order_of given) ≡ false → fails (order_of given) ≡ false
        → OnOk result (KeptOn (Taken (order_of given)) made after) → OnErr result (after ≡ made)
        → IfErr result (λ fault. fault ≡ OutOfMemory (Some given))
        → LeadsControl got result control old
        (record old { sending = record old.sending { outbound = after } })
    leads-ordered (Ok done) after control given is opens no_goaway no_probe
        no_error kept same back =
        leads-answered (Ok done) (record old.sending { outbound = after }) control given is opens
        no_goaway no_probe no_error
        (λ unused run k. kept run (calls got old.sending.senders.items) k) tt tt
    leads-ordered (Err fault) after control given is opens no_goaway no_probe
        no_error kept same back =
        leads-answered (Err fault) (record old.sending { outbound = after }) control given is opens
        no_goaway no_probe no_error tt
        (λ run k.
        subst (λ (o : Outbound). Kept run o (calls got old.sending.senders.items))
        (sym same) k) back

  -- ---- frames

  module _ (old : OutCore L In Out Shut) (after : Sending L In Out Shut)
      (alive : old.is_dead ≡ false) where
    pub leads-frame : (frame : Frame) → IsSound frame
        → Progresses (Some frame) old.sending.outbound after.outbound
        → HoldsOn got (Some frame) old.sending after
        → LeadsOn got (Written frame) old (record old { sending = after })
    leads-frame frame sound writes holds run l =
        let k = l.keeps alive in
        let written = writes run k.mirrors in
        let held = holds run (k.marks, k.serves, k.heeds) in
        leads-living (Written frame ∷ run) (record old { sending = after }) alive
        (sound, written.0, l.lawful) l.closed
        (let before = l.unsaid alive in
        record { goaway = before.goaway; probe = before.probe; error = before.error })
        (record { mirrors = written.1; marks = held.0; serves = held.1; heeds = held.2 })

    -- no frame comes
    keeps-none : Progresses None old.sending.outbound after.outbound
        → HoldsOn got None old.sending after → (run : List Step) → Keeps got run old.sending
        → Keeps got run after
    keeps-none stays holds run k =
        let held = holds run (k.marks, k.serves, k.heeds) in
        record { mirrors = stays run k.mirrors; marks = held.0; serves = held.1; heeds = held.2 }

    pub leads-none : (o : Option Frame) → o ≡ None
        → Progresses o old.sending.outbound after.outbound → HoldsOn got o old.sending after
        → LeadsStill got old (record old { sending = after })
    leads-none (Some frame) e stays holds = absurd (some-none frame e)
    leads-none None e stays holds = λ run l.
        leads-living run (record old { sending = after }) alive l.lawful l.closed (l.unsaid alive)
        (keeps-none stays holds run (l.keeps alive))

    pub at-rest : (ahead : Out → List OutItem) (o : Option Frame) → o ≡ None
        → Progresses o old.sending.outbound after.outbound → HoldsOn got o old.sending after
        → IfNone o (IsSpent after.outbound) → IfNone o (GetsQuiet got ahead old.sending after)
        → (run : List Step) → Leads got run old
        → IsAtRest ahead run (record old { sending = after })
    at-rest ahead (Some frame) e stays holds spent quiet = absurd (some-none frame e)
    at-rest ahead None e stays holds spent quiet = λ run l.
        let before = l.keeps alive in
        let k = keeps-none stays holds run before in
        let still = quiet run (before.marks, before.serves, before.heeds) in
        record {
          answered = spent-answered run after.outbound spent k.mirrors;
          quiet = still;
          no_frame =
              no-frame-if got ahead run (record old { sending = after })
              (k.marks, k.serves, k.heeds) k.mirrors.stand.over still;
          ended =
              ended-if run after.outbound (open_at after.outbound.states) spent
              k.mirrors.stand.over k.heeds;
        }

-- ---- a call begins

module _ {L In Out Shut : Type 0} (got : Out → List OutItem) where
  -- one more sender, of which nothing was got
  calls-more : (old new : List (ℕ × Sender L In Out Shut)) (id : ℕ) (sender : Sender L In Out Shut)
      → new ≡ old ++ (id, sender) ∷ [] → got sender.rx ≡ []
      → calls got new ≡ calls got old ++ (id, []) ∷ []
  calls-more old new id sender is none =
      ap (calls got) is
      ∙ map-append (λ (call : ℕ × Sender L In Out Shut). (call.0, got call.1.rx)) old
      ((id, sender) ∷ [])
      ∙ ap (λ (l : List OutItem). calls got old ++ (id, l) ∷ []) none

  pub keeps-began : (old new : Sending L In Out Shut) (senders : List (ℕ × Sender L In Out Shut))
      (id : ℕ) (sender : Sender L In Out Shut)
      → KeptWith id (length old.senders.items) old.outbound new.outbound
      → senders ≡ old.senders.items → new.senders.items ≡ senders ++ (id, sender) ∷ []
      → got sender.rx ≡ []
      → (run : List Step) → Keeps got run old → Keeps got (Taken (order.Open id tt) ∷ run) new
  keeps-began old new senders id sender kept same more none run k =
      subst (Kept (Taken (order.Open id tt) ∷ run) new.outbound)
      (sym (calls-more old.senders.items new.senders.items id sender
      (more ∙ ap (λ (l : List (ℕ × Sender L In Out Shut)). l ++ (id, sender) ∷ []) same) none))
      (kept run (calls got old.senders.items) (length-map old.senders.items
      (λ (call : ℕ × Sender L In Out Shut). (call.0, got call.1.rx))) k)

  pub keeps-still : (old new : Sending L In Out Shut) → KeptStill old.outbound new.outbound
      → new.senders.items ≡ old.senders.items → (run : List Step) → Keeps got run old
      → Keeps got run new
  keeps-still old new kept same run k =
      subst (λ (l : List (ℕ × Sender L In Out Shut)). Kept run new.outbound (calls got l))
      (sym same) (kept run (calls got old.senders.items) k)
