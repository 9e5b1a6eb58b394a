-- The Resets and Refuses of a run are heeded after a Reset, a Refuse and an Open.
use Rattle.std.proofs.Common.{
  ◌≡◌,
  ◌⊎◌,
  ℕ,
  ◌==◌,
  inl,
  inr,
  refl,
  sym,
  ap,
  subst,
  ◌∙◌,
  Bool,
  true,
  false,
  List,
  [],
  ◌∷◌,
  ◌++◌,
  Option,
  Some,
  None,
  true≢false,
}
use Rattle.std.specs.Prelude.{◌||◌, ◌&&◌, not, is_some, if◌then◌else◌}
use Rattle.std.specs.List.{list_any}
use Rattle.std.proofs.lemmas.Bool.{eqb-true}
use Rattle.std.proofs.lemmas.List.Folds.{list_any-append}
use Rattle.account.specs.declared.call.OutItem.{OutItem}
use Rattle.h2frame.specs.declared.error_code.ErrorCode.{ErrorCode}
use Rattle.hpack_codec.proofs.HuffmanTable.{and_true}
use Rattle.lists.specs.declared.field.Field.{Field}
use Rattle.outwriter.specs.OpenStreams.{Closes, OpenStreams, stream_at}
use Rattle.outwriter.specs.declared.control.WriterOrder.TheVariants as order
use Rattle.outwriter.specs.declared.due.Due.TheVariants as due_kind
use Rattle.outwriter.specs.declared.outbound.Outbound.{Outbound}
use Rattle.outwriter.specs.declared.stream.OpenStream.{OpenStream}
use Rattle.outwriter.specs.Calls.{is_called_off, is_dropped}
use Rattle.outwriter.specs.CallState.{
  Heeds,
  HeedsEnds,
  IsEnding,
  Serves,
  Takes,
  has_reason,
  is_due_of,
  none_is_new,
}
use Rattle.outwriter.specs.CoreChanges.{Prepares, becomes_open, due_reset, is_new_call, may_write}
use Rattle.outwriter.specs.States.{SameOver, is_heard, is_reset, knows, over_on}
use Rattle.outwriter.specs.Histories.{is_stream, resets_stream, was_reset}
use Rattle.outwriter.specs.Parts.{Mark}
use Rattle.outwriter.specs.RunState.{HasResets}
use Rattle.outwriter.specs.Runs.{is_opened}
use Rattle.outwriter.specs.Steps.{Step, Order, Taken, Granted, Written, Returned}
use Rattle.outwriter.proofs.EndsKept.{
  either-true,
  heeds-before,
  heeds-called,
  heeds-taken,
  more-dues,
  over-same,
  takes-ends,
  takes-heard,
}
use Rattle.outwriter.proofs.Others.{or-true, dropped-taken, known-opened, reason-taken}

-- the same streams
pub heeds-equal : (run : List Step) (o : Outbound) (streams left : OpenStreams) → left ≡ streams
    → Heeds run o streams → Heeds run o left
heeds-equal run o streams left a heeds = subst (λ (l : OpenStreams). Heeds run o l) (sym a) heeds

-- ---- a Reset

-- a stream that was reset was called off or dropped
reason-step : (run : List Step) (o : Order) (k : ℕ)
    → (was_reset k run ≡ true → has_reason k run ≡ true)
    → (resets_stream k o ≡ true) ⊎ (was_reset k run ≡ true)
    → has_reason k (Taken o ∷ run) ≡ true
reason-step run o k before (inr was) = reason-taken run o k (before was)
reason-step run (order.Reset id code true) k before (inl p) =
    ap (λ b.
    ((b && true) || is_called_off k run) || is_dropped k (Taken (order.Reset id code true) ∷ run)) p
reason-step run (order.Reset id code false) k before (inl p) =
    or-true (is_called_off k (Taken (order.Reset id code false) ∷ run))
    (is_dropped k (Taken (order.Reset id code false) ∷ run))
    (ap (λ b. (b && true) || is_dropped k run) p)
reason-step run (order.Settings settings) k before (inl p) = absurd (true≢false (sym p))
reason-step run (order.Ping bytes) k before (inl p) = absurd (true≢false (sym p))
reason-step run (order.Probe bytes) k before (inl p) = absurd (true≢false (sym p))
reason-step run (order.Window id n) k before (inl p) = absurd (true≢false (sym p))
reason-step run (order.Open id sender) k before (inl p) = absurd (true≢false (sym p))
reason-step run (order.Refuse id fields) k before (inl p) = absurd (true≢false (sym p))
reason-step run (order.Goaway last reason) k before (inl p) = absurd (true≢false (sym p))
reason-step run order.InputEnded k before (inl p) = absurd (true≢false (sym p))
reason-step run order.Close k before (inl p) = absurd (true≢false (sym p))

reset-reason : (run : List Step) (k : ℕ) → was_reset k run ≡ true → has_reason k run ≡ true
reset-reason [] k e = absurd (true≢false (sym e))
reset-reason (Granted id n ∷ run) k e = reset-reason run k e
reset-reason (Returned id items ∷ run) k e = reset-reason run k e
reset-reason (Written frame ∷ run) k e = reset-reason run k e
reset-reason (Taken order ∷ run) k e =
    reason-step run order k (reset-reason run k)
    (either-true (resets_stream k order) (was_reset k run) e)

-- what a Reset changes of how the streams stand
abbrev pub Marks : ℕ → Outbound → Outbound → Type 0
Marks id old new =
    (k : ℕ)
    → (knows new.states k ≡ knows old.states k)
    × (is_reset new.states k ≡ ((is_stream id && (k == id)) || is_reset old.states k))

module _ (run : List Step) (id : ℕ) (code : ErrorCode) (written : Bool) (old new : Outbound)
    (marked : Marks id old new)
    (due : new.due.items ≡ old.due.items ++ due_reset old id code written)
    (over : SameOver old.states new.states)
    (heard : (k : ℕ)
    → is_heard new.states k ≡ ((is_stream id && (k == id)) || is_heard old.states k)) where
  abbrev reset : Order
  reset = order.Reset id code written

  marked-here : (k : ℕ) → is_stream k ≡ true → (k == id) ≡ true → is_reset new.states k ≡ true
  marked-here k there p =
      (marked k).1
      ∙ ap (λ b. (b && (k == id)) || is_reset old.states k)
      (ap is_stream (sym (eqb-true k id p)) ∙ there)
      ∙ ap (λ b. b || is_reset old.states k) p

  marked-else : (k : ℕ) → (k == id) ≡ false → is_reset new.states k ≡ is_reset old.states k
  marked-else k p =
      (marked k).1 ∙ ap (λ b. (is_stream id && b) || is_reset old.states k) p ∙ none (is_stream id)
    where
      none : (b : Bool) → ((b && false) || is_reset old.states k) ≡ is_reset old.states k
      none true = refl
      none false = refl

  -- the ends of a stream that stands as it did
  ends-as : (k : ℕ) → is_reset new.states k ≡ is_reset old.states k
      → IsEnding k old → IsEnding k new
  ends-as k same (inl ended) = inl (over-same old new over k ended)
  ends-as k same (inr waits) =
      inr (more-dues old.states new.states k old.due.items (due_reset old id code written)
      new.due.items same due
      ∙ ap (λ b. b || list_any (is_due_of new.states k) (due_reset old id code written)) waits)

  heeds-as : (k : ℕ) → is_stream k ≡ true → is_reset new.states k ≡ is_reset old.states k
      → IsEnding k old ⊎ (is_dropped k run ≡ true)
      → IsEnding k new ⊎ (is_dropped k (Taken reset ∷ run) ≡ true)
  heeds-as k there same (inl ending) = inl (ends-as k same ending)
  heeds-as k there same (inr dropped) = inr (dropped-taken run reset k dropped)

  -- it is due now
  is-due : (k : ℕ) → (k == id) ≡ true → written ≡ true → may_write old id ≡ true → IsEnding k new
  is-due k p told may =
      inr (ap (list_any (is_due_of new.states k)) due
      ∙ list_any-append (is_due_of new.states k) old.due.items (due_reset old id code written)
      ∙ or-true (list_any (is_due_of new.states k) old.due.items)
      (list_any (is_due_of new.states k) (due_reset old id code written))
      (ap (λ b.
      list_any (is_due_of new.states k)
      (if b && may_write old id then due_kind.Reset id code ∷ [] else [])) told
      ∙ ap (λ b.
      list_any (is_due_of new.states k) (if b then due_kind.Reset id code ∷ [] else [])) may
      ∙ ap (λ b. b || false) p))

  -- or it had ended, or was reset before
  why-not : (a b c : Bool) → ((a && not b) && not c) ≡ false → a ≡ true → (b ≡ true) ⊎ (c ≡ true)
  why-not true true c e f = inl refl
  why-not true false true e f = inr refl
  why-not true false false e f = absurd (true≢false e)
  why-not false b c e f = absurd (true≢false (sym f))

  reset-ends : HeedsEnds run old → HasResets run old.states → HeedsEnds (Taken reset ∷ run) new
  reset-ends heeds resets k there e = at (k == id) refl
    where
      before : (k : ℕ) → is_stream k ≡ true → is_reset new.states k ≡ is_reset old.states k
          → is_called_off k run ≡ true
          → IsEnding k new ⊎ (is_dropped k (Taken reset ∷ run) ≡ true)
      before k there same called = heeds-as k there same (heeds k there called)

      again : (k : ℕ) → is_stream k ≡ true → (k == id) ≡ true → is_reset old.states k ≡ true
          → (is_called_off k run ≡ true) ⊎ (is_dropped k run ≡ true)
          → IsEnding k new ⊎ (is_dropped k (Taken reset ∷ run) ≡ true)
      again k there p was (inl called) = before k there (marked-here k there p ∙ sym was) called
      again k there p was (inr dropped) = inr (dropped-taken run reset k dropped)

      ended : (k : ℕ) → is_stream k ≡ true → (k == id) ≡ true
          → (is_some (over_on old.states id) ≡ true) ⊎ (is_reset old.states id ≡ true)
          → IsEnding k new ⊎ (is_dropped k (Taken reset ∷ run) ≡ true)
      ended k there p (inl over_by_now) =
          inl (inl (over-same old new over k
          (ap (λ n. is_some (over_on old.states n)) (eqb-true k id p) ∙ over_by_now)))
      ended k there p (inr was) =
          let was_k : is_reset old.states k ≡ true =
          ap (λ n. is_reset old.states n) (eqb-true k id p) ∙ was in
          again k there p was_k (either-true (is_called_off k run) (is_dropped k run)
          (reset-reason run k (sym (resets k there) ∙ was_k)))

      here : (p : (k == id) ≡ true) → (w : Bool) → written ≡ w → (m : Bool) → may_write old id ≡ m
          → IsEnding k new ⊎ (is_dropped k (Taken reset ∷ run) ≡ true)
      here p false told m may =
          inr (ap (λ b. (b && not written) || is_dropped k run) p
          ∙ ap (λ b. not b || is_dropped k run) told)
      here p true told true may = inl (is-due k p told may)
      here p true told false may =
          ended k there p (why-not (is_stream id) (is_some (over_on old.states id))
          (is_reset old.states id) may (ap is_stream (sym (eqb-true k id p)) ∙ there))

      at : (b : Bool) → (k == id) ≡ b → IsEnding k new ⊎ (is_dropped k (Taken reset ∷ run) ≡ true)
      at true p = here p written refl (may_write old id) refl
      at false p =
          before k there (marked-else k p)
          (sym (ap (λ b. (b && written) || is_called_off k run) p) ∙ e)

  was-here : (k : ℕ) → (k == id) ≡ true → was_reset k (Taken reset ∷ run) ≡ true
  was-here k p = ap (λ b. b || was_reset k run) p

  was-else : (k : ℕ) → (k == id) ≡ false → was_reset k (Taken reset ∷ run) ≡ was_reset k run
  was-else k p = ap (λ b. b || was_reset k run) p

  reset-marks : HasResets run old.states → HasResets (Taken reset ∷ run) new.states
  reset-marks resets k there = at (k == id) refl
    where
      at : (b : Bool) → (k == id) ≡ b → is_reset new.states k ≡ was_reset k (Taken reset ∷ run)
      at true p = marked-here k there p ∙ sym (was-here k p)
      at false p = marked-else k p ∙ resets k there ∙ sym (was-else k p)

  pub reset-heeds : (streams left : OpenStreams) → Closes id streams left → Heeds run old streams
      → Heeds (Taken reset ∷ run) new left
  reset-heeds streams left closes heeds = (
    reset-ends heeds.0 heeds.1,
    reset-marks heeds.1,
    λ k is. unreset k is (k == id) refl,
    λ k there e. heard-now k there e (k == id) refl,
  )
    where
      unreset : (k : ℕ) → is_some (left k) ≡ true → (b : Bool) → (k == id) ≡ b
          → was_reset k (Taken reset ∷ run) ≡ false
      unreset k is true p =
          absurd (true≢false
          (sym is ∙ ap is_some (closes k ∙ ap (λ b. if b then None else streams k) p)))
      unreset k is false p =
          was-else k p
          ∙ heeds.2 k (sym (ap is_some (closes k ∙ ap (λ b. if b then None else streams k) p)) ∙ is)

      heard-now : (k : ℕ) → is_stream k ≡ true → was_reset k (Taken reset ∷ run) ≡ true → (b : Bool)
          → (k == id) ≡ b → is_heard new.states k ≡ true
      heard-now k there e true p =
          heard k
          ∙ ap (λ b. (b && (k == id)) || is_heard old.states k)
          (ap is_stream (sym (eqb-true k id p)) ∙ there)
          ∙ ap (λ b. b || is_heard old.states k) p
      heard-now k there e false p =
          heard k
          ∙ or-true (is_stream id && (k == id)) (is_heard old.states k)
          (heeds.3 k there (sym (was-else k p) ∙ e))

-- ---- a Refuse

module _ (run : List Step) (id : ℕ) (fields : List Field) (o : Outbound) (streams : OpenStreams)
    (calls : List (ℕ × List OutItem))
    (marks : List (ℕ × Mark)) (s : Serves run o streams calls marks) where
  abbrev refuse : Order
  refuse = order.Refuse id fields

  -- of a stream that was opened, refused or reset before, whose end was written or is due, or which
  -- was dropped
  pub refuse-again : (is_stream id ≡ true → is_heard o.states id ≡ true) → Heeds run o streams
      → Heeds (Taken refuse ∷ run) o streams
  refuse-again heard heeds =
      heeds-taken run refuse o o streams streams (λ k. refl)
      (heeds-called run refuse o o (λ k there e. e) heeds.0
      (λ k there e. now k there (and_true (k == id) (not (is_opened k run)) e)))
      (λ k. refl) heeds.2 (λ k e. e) heeds
    where
      unknown : not (is_opened id run) ≡ true → (b : Bool) → knows o.states id ≡ b → b ≡ false
      unknown unopened true e =
          absurd (true≢false (sym unopened ∙ ap not (known-opened run o s.brought id e)))
      unknown unopened false e = refl

      closed : knows o.states id ≡ false → (found : Option OpenStream)
          → streams id ≡ found → found ≡ None
      closed isnt None e = refl
      closed isnt (Some stream) e = absurd (true≢false (sym (s.known id stream e) ∙ isnt))

      ended : (is_some (over_on o.states id) ≡ true) ⊎ (has_reason id run ≡ true)
          → is_stream id ≡ true → IsEnding id o ⊎ (is_dropped id (Taken refuse ∷ run) ≡ true)
      ended (inl over) there = inl (inl over)
      ended (inr reason) there = by (either-true (is_called_off id run) (is_dropped id run) reason)
        where
          by : (is_called_off id run ≡ true) ⊎ (is_dropped id run ≡ true)
              → IsEnding id o ⊎ (is_dropped id (Taken refuse ∷ run) ≡ true)
          by (inl called) = heeds-before run refuse o o (λ k there e. e) heeds.0 id there called
          by (inr dropped) = inr (dropped-taken run refuse id dropped)

      now : (k : ℕ) → is_stream k ≡ true → ((k == id) ≡ true) × (not (is_opened k run) ≡ true)
          → IsEnding k o ⊎ (is_dropped k (Taken refuse ∷ run) ≡ true)
      now k there (p, unopened_k) =
          let same : id ≡ k = sym (eqb-true k id p) in
          let unopened : not (is_opened id run) ≡ true =
          ap (λ n. not (is_opened n run)) same ∙ unopened_k in
          let number : is_stream id ≡ true = ap is_stream same ∙ there in
          subst (λ n. IsEnding n o ⊎ (is_dropped n (Taken refuse ∷ run) ≡ true)) same
          (ended (s.reasons id number
          (closed (unknown unopened (knows o.states id) refl) (streams id) refl)
          (heard number)) number)

  -- of another, whose end is due now
  pub refuse-heeds : (new : Outbound) → is_heard o.states id ≡ false
      → Takes (due_kind.Refuse id fields ∷ []) none_is_new [] o new → Heeds run o streams
      → Heeds (Taken refuse ∷ run) new streams
  refuse-heeds new unheard takes heeds =
      heeds-taken run refuse o new streams streams (λ k. refl)
      (heeds-called run refuse o new
      (takes-ends (due_kind.Refuse id fields ∷ []) none_is_new [] o new takes) heeds.0
      (λ k there e. inl (inr (now k there (and_true (k == id) (not (is_opened k run)) e).0))))
      takes.resets heeds.2
      (takes-heard (due_kind.Refuse id fields ∷ []) none_is_new [] o new takes) heeds
    where
      unreset : is_stream id ≡ true → (b : Bool) → was_reset id run ≡ b → b ≡ false
      unreset there true e = absurd (true≢false (sym (heeds.3 id there e) ∙ unheard))
      unreset there false e = refl

      now : (k : ℕ) → is_stream k ≡ true → (k == id) ≡ true
          → list_any (is_due_of new.states k) new.due.items ≡ true
      now k there p =
          let number : is_stream id ≡ true = ap is_stream (sym (eqb-true k id p)) ∙ there in
          let fresh : is_reset new.states id ≡ false =
          takes.resets id ∙ heeds.1 id number ∙ unreset number (was_reset id run) refl in
          ap (list_any (is_due_of new.states k)) takes.due
          ∙ list_any-append (is_due_of new.states k) o.due.items (due_kind.Refuse id fields ∷ [])
          ∙ or-true (list_any (is_due_of new.states k) o.due.items)
          (list_any (is_due_of new.states k) (due_kind.Refuse id fields ∷ []))
          (ap (λ b. (b && not (is_reset new.states id)) || false) p
          ∙ ap (λ b. not b || false) fresh)

-- ---- an Open

pub open-heeds : (run : List Step) (id place : ℕ) (o new : Outbound) (streams left : OpenStreams)
    → Prepares id place o new streams left
    → Heeds run o streams → Heeds (Taken (order.Open id tt) ∷ run) new left
open-heeds run id place o new streams left p heeds =
    heeds-taken run opening o new streams left (λ k. refl)
    (heeds-called run opening o new
    (takes-ends [] (λ other. is_new_call o id && (other == id)) [] o new p.takes) heeds.0
    (λ k there e. absurd (true≢false (sym e))))
    p.takes.resets (λ k is. unreset k is (becomes_open o id && (k == id)) refl)
    (takes-heard [] (λ other. is_new_call o id && (other == id)) [] o new p.takes) heeds
  where
    opening : Order
    opening = order.Open id tt

    fresh : is_stream id ≡ true → is_heard o.states id ≡ false → (b : Bool)
        → was_reset id run ≡ b → b ≡ false
    fresh there unheard true e = absurd (true≢false (sym (heeds.3 id there e) ∙ unheard))
    fresh there unheard false e = refl

    was-not : (b : Bool) → not b ≡ true → b ≡ false
    was-not true e = absurd (true≢false (sym e))
    was-not false e = refl

    unreset : (k : ℕ) → is_some (left k) ≡ true → (b : Bool) → (becomes_open o id && (k == id)) ≡ b
        → was_reset k run ≡ false
    unreset k is true q =
        let a = and_true (becomes_open o id) (k == id) q in
        let opens = and_true (is_stream id) (not (is_heard o.states id)) a.0 in
        ap (λ n. was_reset n run) (eqb-true k id a.1)
        ∙ fresh opens.0 (was-not (is_heard o.states id) opens.1) (was_reset id run) refl
    unreset k is false q =
        heeds.2 k (sym (ap is_some
        (p.opens k ∙ ap (λ b. if b then Some (stream_at place) else streams k) q))
        ∙ is)
