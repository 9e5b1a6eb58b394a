-- What is left of a connection's writer at its end.
use Rattle.std.proofs.Common.{
  ◌≡◌,
  ◌≢◌,
  ◌⊎◌,
  ◌∙◌,
  inl,
  inr,
  ℕ,
  Bool,
  true,
  false,
  true≢false,
  List,
  [],
  ◌∷◌,
  ◌++◌,
  Option,
  None,
  Some,
  ap,
  append-nil,
  sym,
  refl,
  map,
  subst,
  ◌||◌,
  if◌then◌else◌,
  get_or,
}
use Rattle.std.specs.Prelude.{All}
use Rattle.std.proofs.lemmas.List.Elements.{All-append, All-map, All-nil, All-push, All-weaker}
use Rattle.account.specs.declared.call.OutItem.{OutItem}
use Rattle.h2frame.specs.declared.error_code.ErrorCode.{ErrorCode}
use Rattle.h2frame.specs.declared.error_code.ErrorCode.TheVariants.{FlowControlError}
use Rattle.lane.specs.Ring.{put_in, taken}
use Rattle.lane.specs.RingLane.{ahead, got}
use Rattle.outwriter.specs.declared.control.WriterOrder.{WriterOrder}
use Rattle.outwriter.specs.declared.control.WriterOrder.TheVariants as control
use Rattle.outwriter.specs.Calls.{TellFronts, TellOthers, TellReturned, is_fresh, is_served}
use Rattle.outwriter.specs.Cores.{calls}
use Rattle.outwriter.specs.Drains.{has_failed}
use Rattle.outwriter.specs.Polls.{coming}
use Rattle.outwriter.specs.Runs.{is_opened, opens_stream}
use Rattle.outwriter.specs.Steps.{Order, Step, Taken, Granted, Returned, Written, frames_of}
use Rattle.callparts.specs.declared.order.OpeningCall.{OpeningCall}
use Rattle.callparts.specs.declared.order.ReturningCall.{ReturningCall}
use Rattle.callparts.specs.declared.register.Naming.{Ghosts}
use Rattle.device.specs.declared.conn.ConnWrite.{Ghosts as ConnGhosts}
use Rattle.callparts.specs.declared.report.Ending.{Ending}
use Rattle.callparts.specs.declared.report.Ending.TheVariants as ending
use Rattle.callparts.specs.Lanes.{OutSender}
use Rattle.writerloop.specs.declared.sends.Sends.{Sends}
use Rattle.writerloop.specs.declared.standing.Standing.TheVariants as stands
use Rattle.writerloop.specs.declared.senders.Senders.{Senders}
use Rattle.writerloop.specs.declared.writing.Writing.{Writing}
use Rattle.writerloop.specs.Blamed.{WouldOverflow, blames_in}
use Rattle.writerloop.specs.Done.{HasFailed, HaveNoMore, IsDone, TellBack}
use Rattle.writerloop.specs.Orders.{Obeys, order_in, orders_of}
use Rattle.writerloop.specs.Rest.{rest_calls}
use Rattle.writerloop.specs.Sent.{AreApart, HasAll, IsBack, IsTold, got_of, handed_calls, opens}
use Rattle.writerloop.specs.Spelled.{IsFront, IsAll}
use Rattle.writerloop.specs.Written.{HasSent, HasWritten, IsFlushed, LedOut, core_of}
use Rattle.writerloop.proofs.DoneSteps.{done-closed, done-known}
use Rattle.writerloop.proofs.OrderSteps.{obeys-lost, obeys-more, unopened}
use Rattle.writerloop.proofs.SentSteps.{apart-last, plain-front}
use Rattle.writerloop.proofs.WrittenSteps.{among-opens}

-- ---- streams that were never opened

fresh-by : (opens_it fresh : Bool) (id : ℕ) (before : List Step)
    → (opens_it || is_opened id before) ≡ false
    → (is_opened id before ≡ false → is_served id before ≡ false)
    → (if opens_it then fresh else is_served id before) ≡ false
fresh-by true fresh id before never served = absurd (true≢false never)
fresh-by false fresh id before never served = served never

unserved : (id : ℕ) (run : List Step) → is_opened id run ≡ false → is_served id run ≡ false
unserved id [] never = refl
unserved id (Taken order ∷ before) never =
    fresh-by (opens_stream id order) (is_fresh id before) id before never (unserved id before)
unserved id (Granted stream n ∷ before) never = unserved id before never
unserved id (Returned stream items ∷ before) never = unserved id before never
unserved id (Written frame ∷ before) never = unserved id before never

told-none : (run : List Step) (id : ℕ) (items : List OutItem) → is_opened id run ≡ false
    → IsTold run (id, items)
told-none run id items never served = absurd (true≢false (sym served ∙ unserved id run never))

done-none : (run : List Step) (id : ℕ) (items : List OutItem) → is_opened id run ≡ false
    → IsDone run (id, items)
done-none run id items never served = absurd (true≢false (sym served ∙ unserved id run never))

done-back : (run : List Step) (id : ℕ) (sender : Option OutSender) → TellBack run
    → IsBack run id sender → IsDone run (id, got_of sender)
done-back run id None tells back = absurd back
done-back run id (Some sender) tells (inl returned) = λ served there.
    done-closed run id (got sender.rx) (tells id (got sender.rx) returned served there)
done-back run id (Some sender) tells (inr never) = done-none run id (got sender.rx) never.0

done-core : (run : List Step) (core : List (ℕ × OutSender))
    → HaveNoMore got (coming got ahead) run core
    → HasFailed run ⊎ All (IsDone run) (calls got core)
done-core run core (inl failed) = inl failed
done-core run core (inr all) =
    inr (All-map (IsDone run) (λ (call : ℕ × OutSender). (call.0, got call.1.rx)) core
    (λ k d within served there.
    done-known run (get_or core k d).0 (got (get_or core k d).1.rx)
    (coming got ahead (get_or core k d).1.rx) (all k d within served there)))

done-all : {B C : Type 0} {A : Type 0} → A ⊎ B → (B → C) → A ⊎ C
done-all (inl one) next = inl one
done-all (inr other) next = inr (next other)

told-back : (run : List Step) (id : ℕ) (sender : Option OutSender) → TellReturned run
    → IsBack run id sender → IsTold run (id, got_of sender)
told-back run id None tells back = absurd back
told-back run id (Some sender) tells (inl returned) = tells id (got sender.rx) returned
told-back run id (Some sender) tells (inr never) = told-none run id (got sender.rx) never.0

module _ {J : Type 0} {naming : Ghosts J} where
  -- of an order that was set aside
  aside-unopened : (given : List (WriterOrder (OpeningCall J naming))) (id : ℕ)
      (opening : OpeningCall J naming) (run : List Step)
      → AreApart (given ++ control.Open id opening ∷ []) → Obeys true (orders_of given) run
      → is_opened id run ≡ false
  aside-unopened given id opening run apart obeys =
      unopened true (orders_of given) run id (λ among.
      let found = among-opens given id among in
      apart-last given id opening apart found.0 found.1) obeys

  on-aside : (P : ℕ × List OutItem → Type 0) (given : List (WriterOrder (OpeningCall J naming)))
      (aside : Option (WriterOrder (OpeningCall J naming))) (run : List Step)
      → ((id : ℕ) → is_opened id run ≡ false → P (id, []))
      → AreApart (given ++ order_in aside) → Obeys true (orders_of given) run
      → All P (map (λ call. (call.1, [])) (opens (order_in aside)))
  on-aside P given None run is apart obeys = All-nil P
  on-aside P given (Some (control.Open id opening)) run is apart obeys =
      All-push P [] (id, []) (All-nil P) (is id (aside-unopened given id opening run apart obeys))
  on-aside P given (Some (control.Settings settings)) run is apart obeys = All-nil P
  on-aside P given (Some (control.Ping bytes)) run is apart obeys = All-nil P
  on-aside P given (Some (control.Probe bytes)) run is apart obeys = All-nil P
  on-aside P given (Some (control.Window id n)) run is apart obeys = All-nil P
  on-aside P given (Some (control.Refuse id fields)) run is apart obeys = All-nil P
  on-aside P given (Some (control.Reset id code written)) run is apart obeys = All-nil P
  on-aside P given (Some (control.Goaway last cause)) run is apart obeys = All-nil P
  on-aside P given (Some control.InputEnded) run is apart obeys = All-nil P
  on-aside P given (Some control.Close) run is apart obeys = All-nil P

module _ {J W : Type 0} {naming : Ghosts J} {conn : ConnGhosts W} (contents : W → Option (List ℕ))
    (failed : W → Bool) where
  -- what is left of a writer whose buffer is flushed
  pub has-written : (before : Option (List ℕ)) (credit : ℕ) (writer : Writing J W naming conn)
      (device : W) (told : Option Ending)
      → device ≡ writer.frames.device → IsFlushed writer
      → (led : LedOut contents failed before credit writer)
      → TellOthers led.2.0
      → IsFront (frames_of led.2.0) before (contents device)
      → (writer.frames.standing ≢ stands.Broken → writer.frames.buffer.items ≡ []
      → IsAll (frames_of led.2.0) before (contents device))
      → (told ≡ Some ending.WriteFailed → writer.frames.standing ≡ stands.Broken)
      → (told ≢ Some ending.OutOfMemory → told ≢ Some ending.WriteFailed
      → writer.inbox.has_lost ≡ false)
      → (told ≢ Some ending.OutOfMemory → told ≢ Some ending.WriteFailed
      → writer.frames.standing ≡ stands.Going)
      → (written : HasWritten contents failed before credit (orders_of led.0) told false device)
      × (written.run ≡ led.2.0)
  has-written before credit writer device told same flushed led others front all broken each going =
      let ends = led.2 in
      let standing = writer.frames.standing in
      let sound : failed device ≡ false → standing ≢ stands.Broken = λ unmarked stood.
      true≢false (sym (ap failed same ∙ ends.1.marked stood) ∙ unmarked) in (
        record {
          run = ends.0;
          lawful = ends.1.leads.lawful;
          credited = ends.4;
          some = obeys-lost writer.inbox.has_lost (orders_of led.0) ends.0 ends.2;
          each = λ spared sent.
              subst (λ (lost : Bool). Obeys lost (orders_of led.0) ends.0)
              (each spared sent) ends.2;
          others = others;
          marked = λ sent. ap failed same ∙ ends.1.marked (broken sent);
          front = front;
          all = λ unmarked. all (sound unmarked) (flushed (sound unmarked));
          over = λ spared sent. (ends.5 (going spared sent)).over;
          sound = λ is. absurd (true≢false (sym is));
        },
        refl,
      )

  -- what is left of its senders too
  pub has-sent : (before : Option (List ℕ)) (credit : ℕ) (writer : Writing J W naming conn)
      (rest : Senders J naming) (device : W) (told : Option Ending)
      (led : LedOut contents failed before credit writer)
      → (written : HasWritten contents failed before credit (orders_of led.0) told false device)
      → written.run ≡ led.2.0
      → rest.aside ≡ writer.inbox.set_aside → rest.sends ≡ writer.sends
      → rest.core.items ≡ core_of writer
      → TellFronts led.2.0 (calls got (core_of writer)) → TellReturned led.2.0
      → (told ≢ Some ending.OutOfMemory → told ≢ Some ending.WriteFailed
      → writer.frames.standing ≡ stands.Going)
      → ((code : ErrorCode) → told ≡ Some (ending.ProtocolError code)
      → (code ≡ FlowControlError) × (writer.blames ≡ true))
      → (told ≡ None → writer.blames ≡ false)
      → HasSent contents failed before credit (taken writer.inbox.ring) rest told device
  has-sent before credit writer rest device told led written same aside sends core fronts
      returned going blames unblamed =
      let run : List Step = written.run in
      let are : taken writer.inbox.ring ≡ led.0 ++ order_in rest.aside =
      sym led.1
      ∙ ap (λ (one : Option (WriterOrder (OpeningCall J naming))).
      led.0 ++ order_in one) (sym aside) in
      let has : HasAll led.0 run rest.sends.calls.items rest.core.items (put_in rest.sends.home) =
      subst (λ (steps : List Step).
      HasAll led.0 steps rest.sends.calls.items rest.core.items (put_in rest.sends.home)) (sym same)
      (subst (λ (senders : List (ℕ × OutSender)).
      HasAll led.0 led.2.0 rest.sends.calls.items senders (put_in rest.sends.home)) (sym core)
      (subst (λ (all : Sends J naming).
      HasAll led.0 led.2.0 all.calls.items (core_of writer) (put_in all.home)) (sym sends)
      led.2.3.senders)) in
      let obeys : Obeys true (orders_of led.0) run =
      subst (λ (steps : List Step). Obeys true (orders_of led.0) steps) (sym same)
      (obeys-lost writer.inbox.has_lost (orders_of led.0) led.2.0 led.2.2) in
      let tells : TellFronts run (calls got rest.core.items) =
      subst (λ (steps : List Step). TellFronts steps (calls got rest.core.items)) (sym same)
      (subst (λ (senders : List (ℕ × OutSender)). TellFronts led.2.0 (calls got senders))
      (sym core) fronts) in
      let gives : TellReturned run =
      subst (λ (steps : List Step). TellReturned steps) (sym same) returned in
      record {
        given = led.0;
        orders_are = are;
        written = written;
        senders = has;
        told = λ apart.
            let parts : AreApart (led.0 ++ order_in rest.aside) =
            subst (λ (orders : List (WriterOrder (OpeningCall J naming))).
            AreApart orders) are apart in
            All-append (IsTold run) (rest_calls rest) (handed_calls has.handed)
            (All-append (IsTold run) (map (λ call. (call.1, [])) (opens (order_in rest.aside)))
            (calls got rest.core.items)
            (on-aside (IsTold run) led.0 rest.aside run (λ id never. told-none run id [] never)
            parts obeys) tells)
            (All-map (IsTold run) (λ (one : ℕ × ReturningCall J naming).
            (one.0, got_of one.1.sending.value.sender)) has.handed
            (All-weaker
            (λ (one : ℕ × ReturningCall J naming). IsBack run one.0 one.1.sending.value.sender)
            (λ one. IsTold run (one.0, got_of one.1.sending.value.sender))
            (λ one back. told-back run one.0 one.1.sending.value.sender gives back) has.handed
            (has.back (plain-front led.0 rest.aside parts))));
        done = λ spared sent apart.
            let end = led.2.5 (going spared sent) in
            let parts : AreApart (led.0 ++ order_in rest.aside) =
            subst (λ (orders : List (WriterOrder (OpeningCall J naming))).
            AreApart orders) are apart in
            let back : TellBack run =
            subst (λ (steps : List Step). TellBack steps) (sym same) end.over.back in
            let cores : HasFailed run ⊎ All (IsDone run) (calls got rest.core.items) =
            subst (λ (steps : List Step).
            HasFailed steps ⊎ All (IsDone steps) (calls got rest.core.items)) (sym same)
            (subst (λ (senders : List (ℕ × OutSender)).
            HasFailed led.2.0 ⊎ All (IsDone led.2.0) (calls got senders)) (sym core)
            (done-core led.2.0 (core_of writer) end.done)) in
            done-all cores (λ done.
            All-append (IsDone run) (rest_calls rest) (handed_calls has.handed)
            (All-append (IsDone run) (map (λ call. (call.1, [])) (opens (order_in rest.aside)))
            (calls got rest.core.items)
            (on-aside (IsDone run) led.0 rest.aside run (λ id never. done-none run id [] never)
            parts obeys) done)
            (All-map (IsDone run) (λ (one : ℕ × ReturningCall J naming).
            (one.0, got_of one.1.sending.value.sender)) has.handed
            (All-weaker
            (λ (one : ℕ × ReturningCall J naming). IsBack run one.0 one.1.sending.value.sender)
            (λ one. IsDone run (one.0, got_of one.1.sending.value.sender))
            (λ one back-there. done-back run one.0 one.1.sending.value.sender back back-there)
            has.handed (has.back (plain-front led.0 rest.aside parts)))));
        blames = λ code says.
            let found = blames code says in (
              found.0,
              subst (λ (steps : List Step). WouldOverflow 0 steps) (sym same)
                  (led.2.3.blamed found.1),
            );
        unblamed = λ none found. led.2.3.unblamed (unblamed none) (sym (ap blames_in same) ∙ found);
      }

-- the ending that is told names want of memory, a failed write or that orders are left where there
-- is one
abbrev pub told-on : {W : Type 0} (contents : W → Option (List ℕ)) (failed : W → Bool)
    (before : Option (List ℕ)) (credit : ℕ) (took put : List Order) (one other : Option Ending)
    (sure surely : Bool) (device : W)
    → (one ≡ Some ending.OutOfMemory → other ≡ Some ending.OutOfMemory)
    → (one ≡ Some ending.WriteFailed → other ≢ Some ending.OutOfMemory
    → other ≡ Some ending.WriteFailed)
    → (other ≡ Some ending.WriteFailed → one ≡ Some ending.WriteFailed)
    → (left : List Order) → took ++ left ≡ put
    → (other ≢ Some ending.OutOfMemory → other ≢ Some ending.WriteFailed → left ≡ [])
    → (h : HasWritten contents failed before credit took one sure device)
    → (surely ≡ true → has_failed h.run ≡ false)
    → HasWritten contents failed before credit put other surely device
told-on contents failed before credit took put one other sure surely device memory failing broken
    left parts none h clean = record {
      run = h.run;
      lawful = h.lawful;
      credited = h.credited;
      some =
          subst (λ (orders : List Order). Obeys true orders h.run) parts
          (obeys-more took left h.run h.some);
      each = λ spared sent.
          subst (λ (orders : List Order). Obeys false orders h.run) (sym (append-nil took)
          ∙ (ap (λ (os : List Order). took ++ os) (sym (none spared sent)) ∙ parts))
          (h.each (λ lacked. spared (memory lacked)) (λ broke. sent (failing broke spared)));
      others = h.others;
      marked = λ sent. h.marked (broken sent);
      front = h.front;
      all = h.all;
      over = λ spared sent.
          h.over (λ lacked. spared (memory lacked)) (λ broke. sent (failing broke spared));
      sound = clean;
    }
