-- What frames and orders lead a connection's writer to.
use Rattle.reasons.specs.declared.Reason.TheVariants as reason
use Rattle.std.proofs.Common.{
  ◌≡◌,
  ◌⊎◌,
  ◌∙◌,
  ◌+◌,
  arith,
  inl,
  inr,
  ℕ,
  zero,
  suc,
  Bool,
  true,
  false,
  List,
  [],
  ◌∷◌,
  ◌++◌,
  Option,
  Some,
  ap,
  sym,
  refl,
  map,
  subst,
}
use Rattle.std.specs.Prelude.{Contains, OnOk, OnErr, Result, Ok, Err}
use Rattle.std.specs.List.{list_any}
use Rattle.account.specs.declared.call.OutItem.{OutItem}
use Rattle.h2frame.specs.declared.error_code.ErrorCode.TheVariants.{InternalError}
use Rattle.h2frame.specs.declared.frame.Frame.{Frame}
use Rattle.lane.specs.Ring.{put_in}
use Rattle.lane.specs.RingLane.{ahead, got}
use Rattle.outwriter.specs.declared.control.WriterOrder.{WriterOrder}
use Rattle.outwriter.specs.declared.control.WriterOrder.TheVariants as control
use Rattle.outwriter.specs.Cores.{calls}
use Rattle.outwriter.specs.Credit.{granted_by}
use Rattle.outwriter.specs.LeftCalls.{GaveLeft}
use Rattle.outwriter.specs.Polls.{coming}
use Rattle.outwriter.specs.Releases.{Releases}
use Rattle.outwriter.specs.Steps.{Order, Step, Taken, Granted, Returned, Written, order_of}
use Rattle.callparts.specs.declared.order.OpeningCall.{OpeningCall}
use Rattle.callparts.specs.declared.order.ReturningCall.{ReturningCall}
use Rattle.callparts.specs.declared.register.Naming.{Ghosts}
use Rattle.device.specs.declared.conn.ConnWrite.{Ghosts as ConnGhosts}
use Rattle.callparts.specs.Lanes.{OutSender}
use Rattle.writerloop.specs.declared.fill_end.FillEnd.{FillEnd}
use Rattle.writerloop.specs.declared.fill_end.FillEnd.TheVariants.{Over, Stopped}
use Rattle.writerloop.specs.declared.standing.Standing.TheVariants as stands
use Rattle.writerloop.specs.declared.order_outcome.OrderOutcome.{OrderOutcome}
use Rattle.writerloop.specs.declared.order_outcome.OrderOutcome.TheVariants.{
  Done,
  Ended,
  Unanswered,
  HandedBack,
}
use Rattle.writerloop.specs.declared.writing.Writing.{Writing}
use Rattle.writerloop.specs.Blamed.{WouldOverflow, blames_by}
use Rattle.writerloop.specs.Done.{HaveNoMore}
use Rattle.writerloop.specs.Left.{left_by, left_in}
use Rattle.writerloop.specs.Orders.{
  IsAmong,
  IsWarning,
  Obeys,
  OpensNone,
  Warns,
  ends_input,
  orders_of,
  loses_by,
}
use Rattle.writerloop.specs.OwnOrders.{Blamed, parting, steps_of}
use Rattle.writerloop.specs.Sent.{numbered, numbers}
use Rattle.writerloop.specs.Written.{
  Begins,
  Ends,
  FrameWriter,
  IsAtEnd,
  Parts,
  PassesOver,
  Runs,
  RunsOut,
  StaysOn,
  Takes,
  core_of,
}
use Rattle.writerloop.specs.Wrote.{Wrote, WritesOn, Fills}
use Rattle.writerloop.proofs.BlamedSteps.{overflow-later}
use Rattle.writerloop.proofs.DoneSteps.{done-less, failed-or, no-more, tell-back}
use Rattle.writerloop.proofs.OrderSteps.{
  given-next,
  obeys-closing,
  obeys-frames,
  obeys-granted,
  obeys-last-word,
  obeys-more,
  obeys-opening,
  obeys-parting,
  obeys-reset,
  obeys-returned,
  obeys-taking,
  obeys-warning,
  unopened,
}
use Rattle.writerloop.proofs.SentSteps.{
  apart-last,
  has-opened,
  has-passed,
  has-plain,
  has-reset,
  on-same,
  on-taken,
}
use Rattle.writerloop.proofs.WrittenSteps.{
  SameSent,
  memory-going,
  broken-going,
  plain-opens,
  as-plain,
  on-steps,
  left-steps,
  EndsAll,
  overflow-taking,
  warns-spares,
  ends-none,
  blames-own,
  blames-steps,
  blames-more,
  granted-none,
  granted-frames,
  granted-steps,
  granted-parting,
  granted-more,
  mild,
  fresh-back,
  among-opens,
  GoesOn,
  goes-by,
  gave-same,
  goes-none,
  goes-plain,
}

module _ {J W : Type 0} {naming : Ghosts J} {conn : ConnGhosts W} (contents : W → Option (List ℕ))
    (failed : W → Bool) where
  -- ---- frames

  -- frames are put into the buffer
  pub fills-on : (filled : Option FillEnd) (old new : Writing J W naming conn)
      → Fills got (coming got ahead) contents failed filled old.frames new.frames
      → ((frames : List Frame) → GoesOn (map Written frames) old new)
      → (lost : Bool) (orders : List (WriterOrder (OpeningCall J naming)))
      (before : Option (List ℕ)) (credit : ℕ)
      → Runs contents failed lost orders before credit old
      → Runs contents failed lost orders before credit new
  fills-on filled old new fills goes lost orders before credit runs =
      let found = fills before runs.0 runs.1 in (
        map Written found.0 ++ runs.0,
        found.1,
        obeys-frames lost (orders_of orders) found.0 runs.0 runs.2,
        goes found.0 orders runs.0 runs.3,
        granted-frames found.0 runs.0 credit runs.4,
      )

  over-filled : (old new : Writing J W naming conn)
      → Fills got (coming got ahead) contents failed (Some Over) old.frames new.frames
      → ((frames : List Frame) → GoesOn (map Written frames) old new)
      → RunsOut contents failed old new
  over-filled old new fills goes lost orders before credit runs =
      let found = fills before runs.0 runs.1 in
      let rest = found.2 in (
        map Written found.0 ++ runs.0,
        found.1,
        obeys-frames lost (orders_of orders) found.0 runs.0 runs.2,
        goes found.0 orders runs.0 runs.3,
        granted-frames found.0 runs.0 credit runs.4,
        λ going. record {
          over = record {
            closed = found.1.leads.closed ∙ rest.1;
            answered = rest.0.answered;
            ended =
                failed-or got (map Written found.0 ++ runs.0) new.frames.core found.1.leads rest.2
                rest.0.ended;
            back =
                tell-back got (map Written found.0 ++ runs.0) new.frames.core found.1.leads rest.2;
          };
          lives = rest.2;
          done =
              no-more got (map Written found.0 ++ runs.0) new.frames.core found.1.leads rest.2
              (coming got ahead) rest.0;
        },
      )

  stopped-filled : (old new : Writing J W naming conn)
      → Fills got (coming got ahead) contents failed (Some Stopped) old.frames new.frames
      → ((frames : List Frame) → GoesOn (map Written frames) old new)
      → RunsOut contents failed old new
  stopped-filled old new fills goes lost orders before credit runs =
      let found = fills before runs.0 runs.1 in (
        map Written found.0 ++ runs.0,
        found.1,
        obeys-frames lost (orders_of orders) found.0 runs.0 runs.2,
        goes found.0 orders runs.0 runs.3,
        granted-frames found.0 runs.0 credit runs.4,
        λ going. absurd (found.2 going),
      )

  -- so many that nothing is left to be written
  pub fills-over : (filled : FillEnd) (old new : Writing J W naming conn)
      → Fills got (coming got ahead) contents failed (Some filled) old.frames new.frames
      → ((frames : List Frame) → GoesOn (map Written frames) old new) → filled ≡ Over
      → RunsOut contents failed old new
  fills-over filled old new fills goes over =
      over-filled old new (subst (λ (found : FillEnd).
      Fills got (coming got ahead) contents failed (Some found) old.frames
      new.frames) over fills) goes

  -- the writer makes no more
  pub fills-stopped : (filled : FillEnd) (old new : Writing J W naming conn)
      → Fills got (coming got ahead) contents failed (Some filled) old.frames new.frames
      → ((frames : List Frame) → GoesOn (map Written frames) old new) → filled ≡ Stopped
      → RunsOut contents failed old new
  fills-stopped filled old new fills goes stopped =
      stopped-filled old new (subst (λ (found : FillEnd).
      Fills got (coming got ahead) contents failed (Some found) old.frames new.frames)
      stopped fills) goes

  -- credit is owed
  pub grants-on : (id n : ℕ) (old new : Writing J W naming conn)
      → WritesOn got contents failed (Granted id n ∷ []) old.frames new.frames
      → GoesOn (Granted id n ∷ []) old new
      → (credit : ℕ) (lost : Bool) (orders : List (WriterOrder (OpeningCall J naming)))
      (before : Option (List ℕ))
      → Runs contents failed lost orders before credit old
      → Runs contents failed lost orders before (credit + granted_by 0 (Granted id n)) new
  grants-on id n old new on goes credit lost orders before runs = (
    Granted id n ∷ runs.0,
    on before runs.0 runs.1,
    obeys-granted lost (orders_of orders) id n runs.0 runs.2,
    goes orders runs.0 runs.3,
    granted-more id n runs.0 credit runs.4,
  )

  -- no step
  pub runs-same : (lost : Bool) (old new : Writing J W naming conn)
      → WritesOn got contents failed [] old.frames new.frames → GoesOn [] old new
      → (orders : List (WriterOrder (OpeningCall J naming))) (before : Option (List ℕ)) (credit : ℕ)
      → Runs contents failed lost orders before credit old
      → Runs contents failed lost orders before credit new
  runs-same lost old new on goes orders before credit runs =
      (runs.0, on before runs.0 runs.1, runs.2, goes orders runs.0 runs.3, runs.4)

  at-end-same : (run : List Step) (old new : Writing J W naming conn)
      → new.frames.core.is_dead ≡ old.frames.core.is_dead → core_of new ≡ core_of old
      → IsAtEnd run old → IsAtEnd run new
  at-end-same run old new lives same was = record {
    over = was.over;
    lives = lives ∙ was.lives;
    done =
        subst (λ (senders : List (ℕ × OutSender)).
        HaveNoMore got (coming got ahead) run senders) (sym same) was.done;
  }

  -- no step, of a writer that stands as it did
  pub still-on : (lost : Bool) (old new : Writing J W naming conn)
      → WritesOn got contents failed [] old.frames new.frames → GoesOn [] old new
      → new.frames.core.is_dead ≡ old.frames.core.is_dead → core_of new ≡ core_of old
      → (new.frames.standing ≡ stands.Going → old.frames.standing ≡ stands.Going)
      → StaysOn contents failed lost lost old new
  still-on lost old new on goes lives same still = record {
    runs = runs-same lost old new on goes;
    ends = λ orders before credit ends. (
      ends.0,
      on before ends.0 ends.1,
      ends.2,
      goes orders ends.0 ends.3,
      ends.4,
      λ going. at-end-same ends.0 old new lives same (ends.5 (still going)),
    );
  }

  -- the buffer is written, or that failed
  pub flushes-on : {A E : Type 0} (lost : Bool) (result : Result A E)
      (old new : Writing J W naming conn)
      → WritesOn got contents failed [] old.frames new.frames → GoesOn [] old new
      → new.frames.core ≡ old.frames.core
      → OnOk result (new.frames.standing ≡ old.frames.standing)
      → OnErr result (new.frames.standing ≡ stands.Broken)
      → StaysOn contents failed lost lost old new
  flushes-on lost (Ok one) old new on goes same stood broken =
      still-on lost old new on goes (ap (λ core. core.is_dead) same)
      (ap (λ core. core.sending.senders.items) same) (λ going. sym stood ∙ going)
  flushes-on lost (Err fault) old new on goes same stood broken =
      still-on lost old new on goes (ap (λ core. core.is_dead) same)
      (ap (λ core. core.sending.senders.items) same)
      (λ going. absurd (broken-going (sym broken ∙ going)))

  -- a sender is given back
  pub returns-on : (lost : Bool) (id : ℕ) (sender : OutSender) (old new : Writing J W naming conn)
      → WritesOn got contents failed (Returned id (got sender.rx) ∷ []) old.frames new.frames
      → GoesOn (Returned id (got sender.rx) ∷ []) old new
      → Releases id sender (core_of old) (core_of new)
      → new.frames.core.is_dead ≡ old.frames.core.is_dead
      → new.frames.standing ≡ old.frames.standing
      → StaysOn contents failed lost lost old new
  returns-on lost id sender old new on goes releases lives still =
      let items : List OutItem = got sender.rx in
      record {
        runs = λ orders before credit runs. (
          Returned id items ∷ runs.0,
          on before runs.0 runs.1,
          obeys-returned lost (orders_of orders) id items runs.0 runs.2,
          goes orders runs.0 runs.3,
          granted-none (Returned id items) runs.0 credit refl runs.4,
        );
        ends = λ orders before credit ends. (
          Returned id items ∷ ends.0,
          on before ends.0 ends.1,
          obeys-returned lost (orders_of orders) id items ends.0 ends.2,
          goes orders ends.0 ends.3,
          granted-none (Returned id items) ends.0 credit refl ends.4,
          λ going.
              let was = ends.5 (sym still ∙ going) in
              record {
                over = record {
                  closed = was.over.closed;
                  answered = was.over.answered;
                  ended = was.over.ended;
                  back =
                      tell-back got (Returned id items ∷ ends.0) new.frames.core
                      (on before ends.0 ends.1).leads (lives ∙ was.lives);
                };
                lives = lives ∙ was.lives;
                done =
                    done-less got (coming got ahead) id sender ends.0 (core_of old) (core_of new)
                    releases was.done;
              },
        );
      }

  -- the last word of a core
  pub parts-on : (last : ℕ) (lost : Bool) (old new : Writing J W naming conn)
      → WritesOn got contents failed (parting last true) old.frames new.frames
      → core_of new ≡ core_of old
      → SameSent old new → new.blames ≡ old.blames → old.frames.standing ≡ stands.OutOfMemory
      → new.frames.standing ≡ old.frames.standing → StaysOn contents failed lost true old new
  parts-on last lost old new on core same blames memory still =
      let goes : GoesOn (parting last true) old new =
      goes-by (parting last true) old new same blames
      (λ run k. on-taken (control.Goaway last reason.Memory) run k refl) (λ run. refl) (λ run. refl)
      (gave-same old new core) in
      record {
        runs = λ orders before credit runs. (
          parting last true ++ runs.0,
          on before runs.0 runs.1,
          obeys-last-word last lost (orders_of orders) runs.0 runs.2,
          goes orders runs.0 runs.3,
          granted-parting last runs.0 credit runs.4,
        );
        ends = λ orders before credit ends. (
          parting last true ++ ends.0,
          on before ends.0 ends.1,
          obeys-last-word last lost (orders_of orders) ends.0 ends.2,
          goes orders ends.0 ends.3,
          granted-parting last ends.0 credit ends.4,
          λ going. absurd (memory-going (sym memory ∙ (sym still ∙ going))),
        );
      }

  -- between writers of the same frames
  pub runs-between : (lost : Bool) (old new : Writing J W naming conn) → new.frames ≡ old.frames
      → SameSent old new → new.blames ≡ old.blames
      → (orders : List (WriterOrder (OpeningCall J naming))) (before : Option (List ℕ)) (credit : ℕ)
      → Runs contents failed lost orders before credit old
      → Runs contents failed lost orders before credit new
  runs-between lost old new frames same blames orders before credit runs = (
    runs.0,
    subst (λ (writes : FrameWriter W). Wrote got contents failed before runs.0 writes)
        (sym frames) runs.1,
    runs.2,
    goes-none old new same blames
        (ap (λ (writes : FrameWriter W). writes.core.sending.senders.items) frames)
        orders runs.0 runs.3,
    runs.4,
  )

  pub ends-between : (lost : Bool) (old new : Writing J W naming conn) → new.frames ≡ old.frames
      → SameSent old new → new.blames ≡ old.blames
      → (orders : List (WriterOrder (OpeningCall J naming))) (before : Option (List ℕ)) (credit : ℕ)
      → Ends contents failed lost orders before credit old
      → Ends contents failed lost orders before credit new
  ends-between lost old new frames same blames orders before credit ends = (
    ends.0,
    subst (λ (writes : FrameWriter W). Wrote got contents failed before ends.0 writes)
        (sym frames) ends.1,
    ends.2,
    goes-none old new same blames
        (ap (λ (writes : FrameWriter W). writes.core.sending.senders.items) frames)
        orders ends.0 ends.3,
    ends.4,
    λ going.
        at-end-same ends.0 old new (ap (λ (writes : FrameWriter W). writes.core.is_dead) frames)
        (ap (λ (writes : FrameWriter W). writes.core.sending.senders.items) frames)
        (ends.5 (sym (ap (λ (writes : FrameWriter W). writes.standing) frames) ∙ going)),
  )

  -- ---- orders

  -- the core was given an order that opens no call, and none was lost before
  pub given-on : (one : WriterOrder OutSender) (last : ℕ) (taking : OrderOutcome OutSender)
      (old new : Writing J W naming conn)
      → OpensNone one
      → WritesOn got contents failed (steps_of (order_of one) last taking) old.frames new.frames
      → ((before : Option (List ℕ)) (run : List Step)
      → Wrote got contents failed before run old.frames → Blamed taking one run)
      → core_of new ≡ core_of old → SameSent old new
      → (new.blames ≡ true → EndsAll taking ⊎ (old.blames ≡ true))
      → (new.blames ≡ false → (EndsAll taking → ⊥) × (old.blames ≡ false))
      → new.inbox.has_lost ≡ loses_by taking → Takes contents failed (order_of one) old new
  given-on one last taking old new plain on blamed core same blames spares lost orders order
      before credit is runs =
      let steps : List Step = steps_of (order_of one) last taking in
      let why : Blamed taking one runs.0 = blamed before runs.0 runs.1 in
      subst (λ (found : Bool).
      Runs contents failed found (orders ++ order ∷ []) before credit new) (sym lost) (
        steps ++ runs.0,
        on before runs.0 runs.1,
        subst (λ (os : List Order). Obeys (loses_by taking) os (steps ++ runs.0))
            (ap (λ (o : Order). orders_of orders ++ o ∷ []) (sym is)
            ∙ sym (given-next orders order))
            (obeys-taking one last taking (orders_of orders) runs.0 why runs.2),
        record {
          senders =
              has-plain order orders runs.0 (steps ++ runs.0) old.sends.calls.items
              new.sends.calls.items (core_of old) (core_of new) (put_in old.sends.home)
              (put_in new.sends.home)
              (as-plain order one is plain) same.numbers same.way
              (λ k. on-steps (order_of one) last taking runs.0 k (plain-opens one k plain))
              (λ none k there.
              subst (λ (ids : List ℕ). Contains ids k) (left-steps (order_of one) last taking runs.0
              (ap (λ (o : Order). left_by o) (sym is) ∙ none)) there)
              (gave-same old new core) runs.3.senders;
          blamed = λ says. by runs why (blames says);
          unblamed = λ calm found.
              ap (λ (os : List Order). list_any blames_by os)
              (given-next orders order ∙ ap (λ (o : Order). orders_of orders ++ o ∷ []) is)
              ∙ blames-steps (order_of one) last taking runs.0 (orders_of orders) (spares calm).0
              (runs.3.unblamed (spares calm).1) found;
        },
        granted-steps (order_of one) last taking runs.0 credit runs.4,
      )
    where
      by : (runs : Runs contents failed false orders before credit old) → Blamed taking one runs.0
          → EndsAll taking ⊎ (old.blames ≡ true)
          → WouldOverflow 0 (steps_of (order_of one) last taking ++ runs.0)
      by runs why (inl ends) = overflow-taking one last taking runs.0 why ends
      by runs why (inr was) =
          overflow-later 0 (steps_of (order_of one) last taking) runs.0 (runs.3.blamed was)

  -- the calls are the same before
  pub takes-from : (order : Order) (old mid new : Writing J W naming conn) → mid.frames ≡ old.frames
      → SameSent old mid → mid.blames ≡ old.blames → Takes contents failed order mid new
      → Takes contents failed order old new
  takes-from order old mid new frames same blames takes orders one before credit is runs =
      takes orders one before credit is
      (runs-between false old mid frames same blames orders before credit runs)

  pub begins-from : (order : WriterOrder (OpeningCall J naming))
      (old mid new : Writing J W naming conn)
      → mid.frames ≡ old.frames → SameSent old mid → mid.blames ≡ old.blames
      → Begins contents failed order mid new
      → Begins contents failed order old new
  begins-from order old mid new frames same blames begins orders before credit runs =
      begins orders before credit
      (runs-between false old mid frames same blames orders before credit runs)

  pub parts-from : (old mid new : Writing J W naming conn) → mid.frames ≡ old.frames
      → SameSent old mid → mid.blames ≡ old.blames → Parts contents failed mid new
      → Parts contents failed old new
  parts-from old mid new frames same blames parts orders before credit runs =
      parts orders before credit
      (runs-between true old mid frames same blames orders before credit runs)

  pub passes-from : (order : WriterOrder (OpeningCall J naming))
      (old mid new : Writing J W naming conn)
      → mid.frames ≡ old.frames → SameSent old mid → mid.blames ≡ old.blames
      → PassesOver contents failed order mid new
      → PassesOver contents failed order old new
  passes-from order old mid new frames same blames passes orders before credit runs =
      passes orders before credit
      (runs-between true old mid frames same blames orders before credit runs)

  -- a call begins
  pub begins-on : (id : ℕ) (opening : OpeningCall J naming) (sender : OutSender)
      (old new : Writing J W naming conn)
      → WritesOn got contents failed (Taken (control.Open id tt) ∷ []) old.frames new.frames
      → numbers new.sends.calls.items
      ≡ numbers old.sends.calls.items ++ numbered id opening.sending.value ∷ []
      → put_in new.sends.home ≡ put_in old.sends.home
      → core_of new ≡ core_of old ++ (id, sender) ∷ [] → new.blames ≡ old.blames
      → Begins contents failed (control.Open id opening) old new
  begins-on id opening sender old new on more way brings blames orders before credit runs = (
    Taken (control.Open id tt) ∷ runs.0,
    on before runs.0 runs.1,
    subst (λ (os : List Order). Obeys false os (Taken (control.Open id tt) ∷ runs.0))
        (sym (given-next orders (control.Open id opening)))
        (obeys-opening id (orders_of orders) runs.0 runs.2),
    record {
      senders =
          has-opened id opening sender orders runs.0 old.sends.calls.items new.sends.calls.items
          (core_of old) (core_of new) (put_in old.sends.home) (put_in new.sends.home) more way
          brings runs.3.senders;
      blamed = λ is.
          overflow-later 0 (Taken (control.Open id tt) ∷ []) runs.0
          (runs.3.blamed (sym blames ∙ is));
      unblamed = λ calm found.
          blames-more orders (control.Open id opening) (runs.3.unblamed (sym blames ∙ calm) found);
    },
    granted-none (Taken (control.Open id tt)) runs.0 credit refl runs.4,
  )

  -- a GOAWAY of the writer's own
  pub parting-on : (last : ℕ) (taking : OrderOutcome OutSender) (old new : Writing J W naming conn)
      → WritesOn got contents failed (steps_of (control.Goaway last reason.Memory) last taking)
      old.frames new.frames
      → ((before : Option (List ℕ)) (run : List Step)
      → Wrote got contents failed before run old.frames
      → Blamed taking (control.Goaway last reason.Memory) run)
      → core_of new ≡ core_of old → SameSent old new → new.blames ≡ old.blames
      → Parts contents failed old new
  parting-on last taking old new on blamed core same blames orders before credit runs = (
    steps_of (control.Goaway last reason.Memory) last taking ++ runs.0,
    on before runs.0 runs.1,
    obeys-parting last taking (orders_of orders) runs.0 (blamed before runs.0 runs.1) runs.2,
    goes-plain (control.Goaway last reason.Memory) last taking old new (λ k. refl) refl refl
        (ends-none (control.Goaway last reason.Memory) taking runs.0 (λ id concerns. concerns)
        (blamed before runs.0 runs.1)) same blames core orders runs.0 runs.3,
    granted-steps (control.Goaway last reason.Memory) last taking runs.0 credit runs.4,
  )

  -- a Close where orders were lost
  pub closing-on : (last : ℕ) (taking : OrderOutcome OutSender) (old new : Writing J W naming conn)
      → WritesOn got contents failed (steps_of control.Close last taking) old.frames new.frames
      → ((before : Option (List ℕ)) (run : List Step)
      → Wrote got contents failed before run old.frames → Blamed taking control.Close run)
      → core_of new ≡ core_of old → SameSent old new → new.blames ≡ old.blames
      → PassesOver contents failed control.Close old new
  closing-on last taking old new on blamed core same blames orders before credit runs =
      let steps : List Step = steps_of control.Close last taking in (
        steps ++ runs.0,
        on before runs.0 runs.1,
        subst (λ (os : List Order). Obeys true os (steps ++ runs.0))
            (sym (given-next orders control.Close))
            (obeys-closing last taking (orders_of orders) runs.0
            (blamed before runs.0 runs.1) runs.2),
        record {
          senders =
              has-plain control.Close orders runs.0 (steps ++ runs.0) old.sends.calls.items
              new.sends.calls.items (core_of old) (core_of new) (put_in old.sends.home)
              (put_in new.sends.home)
              tt same.numbers same.way (λ k. on-steps control.Close last taking runs.0 k refl)
              (λ none k there.
              subst (λ (ids : List ℕ). Contains ids k)
              (left-steps control.Close last taking runs.0 refl) there)
              (gave-same old new core) runs.3.senders;
          blamed = λ is. overflow-later 0 steps runs.0 (runs.3.blamed (sym blames ∙ is));
          unblamed = λ calm found.
              ap (λ (os : List Order). list_any blames_by os) (given-next orders control.Close)
              ∙ blames-steps control.Close last taking runs.0 (orders_of orders) (ends-none
              control.Close taking runs.0 (λ id concerns. concerns) (blamed before runs.0 runs.1))
              (runs.3.unblamed (sym blames ∙ calm)) found;
        },
        granted-steps control.Close last taking runs.0 credit runs.4,
      )

  -- another order there, which opens no call
  pub passes-by : (order : WriterOrder (OpeningCall J naming)) (old new : Writing J W naming conn)
      → OpensNone order → new.frames ≡ old.frames → SameSent old new → new.blames ≡ old.blames
      → PassesOver contents failed order old new
  passes-by order old new plain frames same blames orders before credit runs = (
    runs.0,
    subst (λ (writes : FrameWriter W). Wrote got contents failed before runs.0 writes)
        (sym frames) runs.1,
    subst (λ (os : List Order). Obeys true os runs.0) (sym (given-next orders order))
        (obeys-more (orders_of orders) (order_of order ∷ []) runs.0 runs.2),
    record {
      senders =
          has-plain order orders runs.0 runs.0 old.sends.calls.items new.sends.calls.items
          (core_of old) (core_of new) (put_in old.sends.home) (put_in new.sends.home)
          plain same.numbers same.way (on-same runs.0) (λ none k there. there) (gave-same old new
          (ap (λ (writes : FrameWriter W). writes.core.sending.senders.items) frames))
          runs.3.senders;
      blamed = λ is. runs.3.blamed (sym blames ∙ is);
      unblamed = λ calm found. blames-more orders order (runs.3.unblamed (sym blames ∙ calm) found);
    },
    runs.4,
  )

  -- and one that opens a call: its sender is handed back
  pub passes-open : (id : ℕ) (opening : OpeningCall J naming) (old new : Writing J W naming conn)
      → new.frames ≡ old.frames → numbers new.sends.calls.items ≡ numbers old.sends.calls.items
      → new.blames ≡ old.blames
      → ((returning : ReturningCall J naming) × (returning.sending ≡ opening.sending)
      × (put_in new.sends.home ≡ put_in old.sends.home ++ returning ∷ []))
      → PassesOver contents failed (control.Open id opening) old new
  passes-open id opening old new frames same blames home orders before credit runs = (
    runs.0,
    subst (λ (writes : FrameWriter W). Wrote got contents failed before runs.0 writes)
        (sym frames) runs.1,
    subst (λ (os : List Order). Obeys true os runs.0)
        (sym (given-next orders (control.Open id opening)))
        (obeys-more (orders_of orders) (control.Open id tt ∷ []) runs.0 runs.2),
    record {
      senders =
          has-passed id opening home.0 orders runs.0 old.sends.calls.items new.sends.calls.items
          (core_of old) (core_of new) (put_in old.sends.home) (put_in new.sends.home)
          home.1 (λ apart.
          fresh-back runs.0 id opening.sending.value.sender opening.fresh
          (unopened true (orders_of orders) runs.0 id
          (λ among.
          let found = among-opens orders id among in
          apart-last orders id opening apart found.0 found.1) runs.2))
          same (ap (λ (writes : FrameWriter W). writes.core.sending.senders.items) frames)
          home.2 runs.3.senders;
      blamed = λ is. runs.3.blamed (sym blames ∙ is);
      unblamed = λ calm found.
          blames-more orders (control.Open id opening) (runs.3.unblamed (sym blames ∙ calm) found);
    },
    runs.4,
  )

  -- a reset of the writer's own
  pub resetting-on : (id last : ℕ) (taking : OrderOutcome OutSender)
      (old new : Writing J W naming conn)
      → WritesOn got contents failed (steps_of (control.Reset id InternalError true) last taking)
      old.frames new.frames
      → ((before : Option (List ℕ)) (run : List Step)
      → Wrote got contents failed before run old.frames
      → Blamed taking (control.Reset id InternalError true) run)
      → core_of new ≡ core_of old → SameSent old new → new.blames ≡ old.blames
      → GaveLeft id (calls got (core_of old))
      → (orders : List (WriterOrder (OpeningCall J naming))) (before : Option (List ℕ)) (credit : ℕ)
      → IsAmong (control.Open id tt) (orders_of orders)
      → list_any ends_input (orders_of orders) ≡ false
      → Runs contents failed false orders before credit old
      → Runs contents failed false orders before credit new
  resetting-on id last taking old new on blamed core same blames gave orders before credit
      among goes_on runs =
      let steps : List Step = steps_of (control.Reset id InternalError true) last taking in (
        steps ++ runs.0,
        on before runs.0 runs.1,
        obeys-reset id last taking (orders_of orders) runs.0 (blamed before runs.0 runs.1)
            among goes_on runs.2,
        record {
          senders =
              has-reset id orders runs.0 (steps ++ runs.0) old.sends.calls.items
              new.sends.calls.items (core_of old) (core_of new) (put_in old.sends.home)
              (put_in new.sends.home)
              same.numbers same.way
              (λ k. on-steps (control.Reset id InternalError true) last taking runs.0 k refl)
              (λ k. lefts taking k runs.0 (blamed before runs.0 runs.1)) core gave runs.3.senders;
          blamed = λ is. overflow-later 0 steps runs.0 (runs.3.blamed (sym blames ∙ is));
          unblamed = λ calm found.
              runs.3.unblamed (sym blames ∙ calm)
              (sym (blames-own (control.Reset id InternalError true) last taking runs.0 refl
              (ends-none (control.Reset id InternalError true) taking runs.0
              (λ k concerns. concerns) (blamed before runs.0 runs.1)))
              ∙ found);
        },
        granted-steps (control.Reset id InternalError true) last taking runs.0 credit runs.4,
      )
    where
      one-more : (k : ℕ) (ids : List ℕ) → Contains (id ∷ ids) k → (k ≡ id) ⊎ Contains ids k
      one-more k ids (zero, within, at) = inl (sym at)
      one-more k ids (suc n, within, at) = inr (n, omega (arith, within), at)

      lefts : (taking : OrderOutcome OutSender) (k : ℕ) (run : List Step)
          → Blamed taking (control.Reset id InternalError true) run
          → Contains (left_in (steps_of (control.Reset id InternalError true) last taking ++ run)) k
          → (k ≡ id) ⊎ Contains (left_in run) k
      lefts Done k run why there = one-more k (left_in run) there
      lefts (Ended stream) k run why there = absurd why.0
      lefts (Unanswered stream) k run why there = absurd why.0
      lefts (HandedBack back) k run why there = inr there

  -- a warning of the writer's own
  pub warning-on : (one : WriterOrder OutSender) (last : ℕ) (taking : OrderOutcome OutSender)
      (old new : Writing J W naming conn)
      → IsWarning one
      → WritesOn got contents failed (steps_of (order_of one) last taking) old.frames new.frames
      → ((before : Option (List ℕ)) (run : List Step)
      → Wrote got contents failed before run old.frames → Blamed taking one run)
      → ((before : Option (List ℕ)) (run : List Step)
      → Wrote got contents failed before run old.frames → Warns (order_of one) run)
      → core_of new ≡ core_of old → SameSent old new → new.blames ≡ old.blames
      → (orders : List (WriterOrder (OpeningCall J naming))) (before : Option (List ℕ)) (credit : ℕ)
      → Runs contents failed false orders before credit old
      → Runs contents failed false orders before credit new
  warning-on one last taking old new own on blamed warns core same blames orders
      before credit runs = (
        steps_of (order_of one) last taking ++ runs.0,
        on before runs.0 runs.1,
        obeys-warning one last taking (orders_of orders) runs.0 (blamed before runs.0 runs.1)
            (mild one own).spares ((mild one own).room runs.0) (warns before runs.0 runs.1) runs.2,
        goes-plain (order_of one) last taking old new (λ k. plain-opens one k (mild one own).plain)
            (mild one own).leaves (warns-spares (order_of one) runs.0 (warns before runs.0 runs.1))
            (ends-none one taking runs.0 (mild one own).spares (blamed before runs.0 runs.1)) same
            blames core orders runs.0 runs.3,
        granted-steps (order_of one) last taking runs.0 credit runs.4,
      )
