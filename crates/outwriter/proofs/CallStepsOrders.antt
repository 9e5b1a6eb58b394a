-- What a writer keeps of its calls, after a Refuse, a Reset, and what brings no stream and ends
-- none.
use Rattle.std.proofs.Common.{
  ◌≡◌,
  ℕ,
  ◌==◌,
  ◌⊎◌,
  inl,
  inr,
  refl,
  sym,
  ap,
  subst,
  ◌∙◌,
  Bool,
  true,
  false,
  List,
  [],
  ◌∷◌,
  ◌++◌,
  Option,
  Some,
  None,
  append-nil,
  true≢false,
}
use Rattle.std.specs.Prelude.{All, ◌&&◌, ◌||◌, not, is_some, if◌then◌else◌}
use Rattle.std.specs.List.{list_any}
use Rattle.std.proofs.lemmas.Bool.{eqb-true, eq-eqb}
use Rattle.hpack_codec.proofs.HuffmanTable.{and_true}
use Rattle.std.proofs.lemmas.List.Elements.{All-cons, All-nil}
use Rattle.account.specs.declared.call.OutItem.{OutItem}
use Rattle.h2frame.specs.declared.error_code.ErrorCode.{ErrorCode}
use Rattle.lists.specs.declared.field.Field.{Field}
use Rattle.outwriter.specs.OpenStreams.{Closes, OpenStreams}
use Rattle.outwriter.specs.declared.control.WriterOrder.TheVariants as order
use Rattle.outwriter.specs.declared.due.Due.{Due}
use Rattle.outwriter.specs.declared.due.Due.TheVariants as due_kind
use Rattle.outwriter.specs.declared.outbound.Outbound.{Outbound}
use Rattle.outwriter.specs.declared.stream.OpenStream.{OpenStream}
use Rattle.outwriter.specs.Calls.{is_fresh, is_served, is_called_off, is_dropped}
use Rattle.outwriter.specs.Runs.{is_opened, opens_stream}
use Rattle.outwriter.specs.CoreChanges.{due_reset, may_write}
use Rattle.outwriter.specs.States.{
  States,
  SameButWindows,
  SameOver,
  is_heard,
  is_reset,
  knows,
  open_at,
  over_on,
}
use Rattle.outwriter.specs.Histories.{is_stream, was_reset}
use Rattle.outwriter.specs.Parts.{Mark}
use Rattle.outwriter.specs.CallState.{Serves, Takes, MayBeDue, has_reason, none_is_new, refuses}
use Rattle.outwriter.specs.Steps.{Step, Order, Taken}
use Rattle.outwriter.specs.TableLimits.{limited_by, limits_of}
use Rattle.outwriter.proofs.CallSteps.{
  HeardBy,
  serves-closed,
  serves-owing,
  serves-same,
  serves-step,
}
use Rattle.outwriter.proofs.Others.{later-taken, opened-known, or-true, served-known}
use Rattle.outwriter.proofs.StateChanges.{unheard-knows}
use Rattle.outwriter.proofs.TellSteps.{taken-tells}

-- nothing changes
pub takes-nothing : (o : Outbound) → Takes [] none_is_new [] o o
takes-nothing o = record {
  due = sym (append-nil o.due.items);
  knows = λ id. refl;
  heard = λ id. refl;
  resets = λ id. refl;
  over = λ k. refl;
  same_open = λ none. refl;
  begun = refl;
  block = refl;
  encoder = refl;
}

-- nothing but windows changes of the streams, and no refusal is due
pub takes-rest : (more : List Due) (limits : List ℕ) (old new : Outbound)
    → SameButWindows old.states new.states → new.due.items ≡ old.due.items ++ more
    → ((id : ℕ) → list_any (refuses id) more ≡ false) → new.begun ≡ old.begun
    → new.block ≡ old.block → new.encoder ≡ limited_by old.encoder limits
    → Takes more none_is_new limits old new
takes-rest more limits old new same due none begun block encoder = record {
  due = due;
  knows = λ id. ap (λ (s : States). knows s id) same;
  heard = λ id.
      ap (λ (s : States). is_heard s id) same
      ∙ sym (ap (λ b. b || is_heard old.states id) (none id));
  resets = λ id. ap (λ (s : States). is_reset s id) same;
  over = λ k. ap (λ (s : States). over_on s k) same;
  same_open = λ none. ap (λ (s : States). open_at s) same;
  begun = begun;
  block = block;
  encoder = encoder;
}

module _ (run : List Step) (o new : Outbound) (streams : OpenStreams)
    (calls : List (ℕ × List OutItem)) (marks : List (ℕ × Mark)) where
  -- a control that is none of a stream's beginning
  pub serves-ordered : (taken : Order) (more : List Due)
      → ((id : ℕ) → opens_stream id taken ≡ false)
      → ((id : ℕ) → is_fresh id (Taken taken ∷ run) ≡ is_fresh id run)
      → ((id : ℕ) → is_served id (Taken taken ∷ run) ≡ is_served id run)
      → All (MayBeDue (Taken taken ∷ run) new streams) more
      → Takes more none_is_new (limits_of taken) o new
      → Serves run o streams calls marks → Serves (Taken taken ∷ run) new streams calls marks
  serves-ordered taken more unopened fresh served due takes s =
      serves-same run (Taken taken ∷ run) o new streams calls marks more (limits_of taken) takes
      (taken-tells more none_is_new o new taken takes run marks s.spells)
      (λ id e. fresh id ∙ e) served (later-taken run taken unopened) due s

  -- a Reset is due, of a stream that isn't open any more
  pub serves-reset : (id : ℕ) (code : ErrorCode) (is_due : Bool)
      → (is_due ≡ true → (streams id ≡ None) × (is_heard new.states id ≡ true))
      → Takes (if is_due then due_kind.Reset id code ∷ [] else []) none_is_new [] o new
      → Serves run o streams calls marks → Serves run new streams calls marks
  serves-reset id code is_due may takes s =
      serves-owing run o new streams calls marks
      (if is_due then due_kind.Reset id code ∷ [] else []) takes (due is_due refl) s
    where
      due : (b : Bool) → is_due ≡ b
          → All (MayBeDue run new streams) (if b then due_kind.Reset id code ∷ [] else [])
      due true e =
          All-cons (MayBeDue run new streams) (due_kind.Reset id code) [] (may e)
          (All-nil (MayBeDue run new streams))
      due false e = All-nil (MayBeDue run new streams)

-- that Reset was taken
pub reset-here : (run : List Step) (id : ℕ) (code : ErrorCode) (written : Bool)
    → was_reset id (Taken (order.Reset id code written) ∷ run) ≡ true
reset-here run id code written = ap (λ b. b || was_reset id run) (eq-eqb id id refl)

-- and called the stream off, or dropped it
pub reason-here : (run : List Step) (id : ℕ) (code : ErrorCode) (written : Bool)
    → has_reason id (Taken (order.Reset id code written) ∷ run) ≡ true
reason-here run id code true =
    ap (λ b.
    ((b && true) || is_called_off id run) || is_dropped id (Taken (order.Reset id code true) ∷ run))
    (eq-eqb id id refl)
reason-here run id code false =
    ap (λ b. ((b && false) || is_called_off id run) || ((b && true) || is_dropped id run))
    (eq-eqb id id refl)
    ∙ or-right (is_called_off id run)
  where
    or-right : (b : Bool) → (b || true) ≡ true
    or-right true = refl
    or-right false = refl

-- ---- a Reset

-- It closes its stream; RST_STREAM is due then.
pub serves-ended : (run : List Step) (o new : Outbound) (streams left : OpenStreams)
    (calls : List (ℕ × List OutItem)) (marks : List (ℕ × Mark))
    (id : ℕ) (code : ErrorCode) (written : Bool)
    → Takes (due_reset o id code written) none_is_new [] (record o { states = new.states }) new
    → ((k : ℕ) → knows new.states k ≡ knows o.states k)
    → ((k : ℕ) → is_heard new.states k ≡ ((is_stream id && (k == id)) || is_heard o.states k))
    → SameOver o.states new.states
    → Closes id streams left → Serves run o streams calls marks
    → Serves (Taken (order.Reset id code written) ∷ run) new left calls marks
serves-ended run o new streams left calls marks id code written takes known heard over closes s =
    serves-reset after mid new left calls marks id code (written && may_write o id)
    (λ e. closed (and_true written (may_write o id) e).1) waits
    (serves-closed after mid streams left calls marks id closes (reset-here run id code written)
    (reason-here run id code written) told)
  where
    after : List Step
    after = Taken (order.Reset id code written) ∷ run

    mid : Outbound
    mid = record new { due = o.due }

    waits : Takes (due_reset o id code written) none_is_new [] mid new
    waits = record {
      due = takes.due;
      knows = λ k. refl;
      heard = takes.heard;
      resets = λ k. refl;
      over = λ k. refl;
      same_open = λ none. refl;
      begun = refl;
      block = refl;
      encoder = refl;
    }

    nothing : Takes [] none_is_new [] (record o { states = new.states }) mid
    nothing = record {
      due = sym (append-nil o.due.items);
      knows = λ k. refl;
      heard = λ k. refl;
      resets = λ k. refl;
      over = λ k. refl;
      same_open = λ none. refl;
      begun = takes.begun;
      block = takes.block;
      encoder = takes.encoder;
    }

    heard-by : HeardBy after o mid
    heard-by k e = by (is_stream id) (k == id) refl (sym (heard k) ∙ e)
      where
        Reasons : ℕ → Type 0
        Reasons n =
            (is_fresh n (Taken (order.Reset id code written) ∷ run) ≡ true
            → was_reset n (Taken (order.Reset id code written) ∷ run) ≡ true)
            × (has_reason n (Taken (order.Reset id code written) ∷ run) ≡ true)

        by : (a b : Bool) → (k == id) ≡ b → ((a && b) || is_heard o.states k) ≡ true
            → Reasons k ⊎ (is_heard o.states k ≡ true)
        by a true p f =
            inl (subst Reasons (sym (eqb-true k id p))
            (λ fresh. reset-here run id code written, reason-here run id code written))
        by true false p f = inr f
        by false false p f = inr f

    told : Serves after mid streams calls marks
    told =
        serves-step run after o mid streams calls marks [] (taken-tells []
        none_is_new (record o { states = new.states }) mid
        (order.Reset id code written) nothing run marks s.spells)
        (sym (append-nil o.due.items)) known over
        (λ k e. heard k ∙ or-true (is_stream id && (k == id)) (is_heard o.states k) e) heard-by
        (λ k e. e) (λ k. refl) (later-taken run (order.Reset id code written) (λ k. refl))
        (All-nil (MayBeDue after mid streams)) s

    number : (a b c : Bool) → ((a && b) && c) ≡ true → a ≡ true
    number true b c e = refl
    number false b c e = e

    closed : may_write o id ≡ true → (left id ≡ None) × (is_heard new.states id ≡ true)
    closed may = (
      closes id ∙ ap (λ b. if b then None else streams id) (eq-eqb id id refl),
      heard id
          ∙ ap (λ b. (b && (id == id)) || is_heard o.states id) (number (is_stream id)
          (not (is_some (over_on o.states id))) (not (is_reset o.states id)) may)
          ∙ ap (λ b. b || is_heard o.states id) (eq-eqb id id refl),
    )

-- ---- a Refuse

fresh-less : (run : List Step) (id : ℕ) (fields : List Field) (k : ℕ) → is_fresh k run ≡ false
    → is_fresh k (Taken (order.Refuse id fields) ∷ run) ≡ false
fresh-less run id fields k e = by (k == id)
  where
    by : (b : Bool) → (if b then false else is_fresh k run) ≡ false
    by true = refl
    by false = e

module _ (run : List Step) (o : Outbound) (streams : OpenStreams) (calls : List (ℕ × List OutItem))
    (marks : List (ℕ × Mark))
    (id : ℕ) (fields : List Field) where
  -- of a stream that was opened, refused or reset before, and of none
  pub serves-unrefused : Serves run o streams calls marks
      → Serves (Taken (order.Refuse id fields) ∷ run) o streams calls marks
  serves-unrefused s =
      serves-same run (Taken (order.Refuse id fields) ∷ run) o o streams calls marks []
      [] (takes-nothing o)
      (taken-tells [] none_is_new o o (order.Refuse id fields) (takes-nothing o) run marks s.spells)
      (fresh-less run id fields) (λ k. refl) (later-taken run (order.Refuse id fields) (λ k. refl))
      (All-nil (MayBeDue (Taken (order.Refuse id fields) ∷ run) o streams)) s

  -- of another
  pub serves-refused : (new : Outbound) → is_stream id ≡ true → is_heard o.states id ≡ false
      → Takes (due_kind.Refuse id fields ∷ []) none_is_new [] o new
      → Serves run o streams calls marks
      → Serves (Taken (order.Refuse id fields) ∷ run) new streams calls marks
  serves-refused new there unheard takes s =
      let after : List Step = Taken (order.Refuse id fields) ∷ run in
      let unknown : knows o.states id ≡ false = unheard-knows o.states id unheard in
      let reason : has_reason id after ≡ true =
      ap (λ b. ((b && not (is_opened id run)) || is_called_off id run) || is_dropped id run)
      (eq-eqb id id refl)
      ∙ ap (λ b. (not b || is_called_off id run) || is_dropped id run)
      (unopened unknown (is_opened id run) refl) in
      serves-same run after o new streams calls marks (due_kind.Refuse id fields ∷ []) [] takes
      (taken-tells (due_kind.Refuse id fields ∷ []) none_is_new o new (order.Refuse id fields) takes
      run marks s.spells) (fresh-less run id fields) (λ k. refl)
      (later-taken run (order.Refuse id fields) (λ k. refl))
      (All-cons (MayBeDue after new streams) (due_kind.Refuse id fields) [] (
        ap (λ b. if b then false else is_fresh id run) (eq-eqb id id refl),
        unserved unknown (is_served id run) refl,
        closed unknown (streams id) refl,
        takes.heard id ∙ ap (λ b. (b || false) || is_heard o.states id) (eq-eqb id id refl),
        inl (refl, refl),
        reason,
      )
      (All-nil (MayBeDue after new streams))) s
    where
      unserved : knows o.states id ≡ false → (b : Bool) → is_served id run ≡ b → b ≡ false
      unserved unknown true e =
          absurd (true≢false (sym (served-known run o s.brought id e there) ∙ unknown))
      unserved unknown false e = refl

      unopened : knows o.states id ≡ false → (b : Bool) → is_opened id run ≡ b → b ≡ false
      unopened unknown true e =
          absurd (true≢false (sym (opened-known run o s.brought id e there) ∙ unknown))
      unopened unknown false e = refl

      closed : knows o.states id ≡ false → (found : Option OpenStream)
          → streams id ≡ found → found ≡ None
      closed unknown None e = refl
      closed unknown (Some stream) e = absurd (true≢false (sym (s.known id stream e) ∙ unknown))
