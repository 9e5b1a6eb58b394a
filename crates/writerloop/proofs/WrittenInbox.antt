-- What orders and credit that are taken lead a connection's writer to.
use Rattle.std.proofs.Common.{
  ◌≡◌,
  ◌≢◌,
  ◌∙◌,
  ◌+◌,
  arith,
  inl,
  inr,
  ℕ,
  zero,
  suc,
  Bool,
  true,
  false,
  true≢false,
  List,
  [],
  ◌∷◌,
  ◌++◌,
  Option,
  None,
  Some,
  ap,
  append-nil,
  sym,
  refl,
  subst,
  if◌then◌else◌,
}
use Rattle.std.specs.Prelude.{◌||◌, Contains, nat_eq}
use Rattle.std.proofs.lemmas.List.Elements.{Contains-append_left}
use Rattle.std.proofs.lemmas.List.Sorted.{Contains-permutation, IsPermutation-sym}
use Rattle.account.specs.declared.call.OutItem.{OutItem}
use Rattle.account.specs.declared.call.OutItem.TheVariants.{Left}
use Rattle.lane.specs.Lawful.{last_of}
use Rattle.h2frame.specs.declared.error_code.ErrorCode.TheVariants.{InternalError}
use Rattle.lane.specs.Ring.{in_name, out_name, put_in, taken}
use Rattle.lane.specs.RingLane.{LaneName, got}
use Rattle.outwriter.specs.declared.control.WriterOrder.{WriterOrder}
use Rattle.outwriter.specs.declared.control.WriterOrder.TheVariants as control
use Rattle.outwriter.specs.Cores.{calls}
use Rattle.outwriter.specs.Credit.{granted_by}
use Rattle.outwriter.specs.LeftCalls.{GaveLeft}
use Rattle.outwriter.specs.LeftCalls.{WasLeft}
use Rattle.outwriter.specs.Releases.{Releases}
use Rattle.outwriter.specs.Steps.{Order, Step, Granted, Returned, order_of}
use Rattle.callparts.specs.declared.order.OpeningCall.{OpeningCall}
use Rattle.callparts.specs.declared.register.CallNumber.{CallNumber}
use Rattle.callparts.specs.declared.register.Naming.{Ghosts}
use Rattle.device.specs.declared.conn.ConnWrite.{Ghosts as ConnGhosts}
use Rattle.callparts.specs.Lanes.{OutSender}
use Rattle.writerloop.specs.declared.inbox.Inbox.{Inbox}
use Rattle.writerloop.specs.declared.steps.OrderStep.{OrderStep}
use Rattle.writerloop.specs.declared.steps.OrderStep.TheVariants as took
use Rattle.writerloop.specs.declared.order_outcome.OrderOutcome.{OrderOutcome}
use Rattle.writerloop.specs.declared.writing.Writing.{Writing}
use Rattle.writerloop.specs.Orders.{
  Gives,
  HasGiven,
  IsAmong,
  IsWarning,
  Keeps,
  Warns,
  closes,
  order_in,
  orders_of,
}
use Rattle.writerloop.specs.OwnOrders.{Blamed, steps_of}
use Rattle.writerloop.specs.Sent.{HandsHome, handed_numbers, numbers, opens}
use Rattle.writerloop.specs.Written.{
  Begins,
  Ends,
  Heeds,
  Holds,
  Knows,
  LeadsOn,
  LeadsOut,
  LeadsOutTo,
  LeadsTo,
  Led,
  LedOut,
  Parts,
  PassesOver,
  Runs,
  RunsOut,
  Stays,
  StaysOn,
  core_of,
}
use Rattle.writerloop.specs.Wrote.{Wrote, WritesOn}
use Rattle.writerloop.proofs.BlamedSteps.{overflow-later}
use Rattle.writerloop.proofs.CallSteps.{from-core, from-keys}
use Rattle.writerloop.proofs.CreditSteps.{granted-as}
use Rattle.writerloop.proofs.OrderSteps.{all-given, given-next, obeys-lost}
use Rattle.writerloop.proofs.SentSteps.{has-none, has-returned, on-same}
use Rattle.writerloop.proofs.WrittenSteps.{
  SameSent,
  SameKnown,
  aside-given,
  GoesOn,
  goes-by,
  goes-granted,
  knows-same,
  closed-more,
  knows-taken,
}
use Rattle.writerloop.proofs.WrittenFrames.{
  grants-on,
  runs-same,
  runs-between,
  ends-between,
  resetting-on,
  warning-on,
}

-- ---- with the inbox

module _ {J W : Type 0} {naming : Ghosts J} {conn : ConnGhosts W} (contents : W → Option (List ℕ))
    (failed : W → Bool) where
  pub leads-then : (old mid new : Writing J W naming conn) → LeadsOn contents failed old mid
      → LeadsOn contents failed mid new → LeadsOn contents failed old new
  leads-then old mid new first second = record {
    name = second.name ∙ first.name;
    way = second.way ∙ first.way;
    on = λ before credit led. second.on before credit (first.on before credit led);
  }

  pub leads-here : (writer : Writing J W naming conn) → LeadsOn contents failed writer writer
  leads-here writer = record { name = refl; way = refl; on = λ before credit led. led }

  pub stays-then : (old mid new : Writing J W naming conn) → Stays contents failed old mid
      → Stays contents failed mid new → Stays contents failed old new
  stays-then old mid new first second = record {
    leads = leads-then old mid new first.leads second.leads;
    out = λ before credit led. second.out before credit (first.out before credit led);
  }

  pub stays-here : (writer : Writing J W naming conn) → Stays contents failed writer writer
  stays-here writer = record { leads = leads-here writer; out = λ before credit led. led }

  -- by so much credit
  pub to-here : (credit : ℕ) (writer : Writing J W naming conn)
      → LeadsTo contents failed credit writer credit writer
  to-here credit writer = record { name = refl; way = refl; on = λ before led. led }

  pub to-then : (had between has : ℕ) (old mid new : Writing J W naming conn)
      → LeadsTo contents failed had old between mid → LeadsTo contents failed between mid has new
      → LeadsTo contents failed had old has new
  to-then had between has old mid new first second = record {
    name = second.name ∙ first.name;
    way = second.way ∙ first.way;
    on = λ before led. second.on before (first.on before led);
  }

  -- before it no credit was granted, or behind it
  pub to-behind : (had other has : ℕ) (old mid new : Writing J W naming conn)
      → LeadsOn contents failed old mid → other ≡ had → LeadsTo contents failed other mid has new
      → LeadsTo contents failed had old has new
  to-behind had other has old mid new first is second = record {
    name = second.name ∙ first.name;
    way = second.way ∙ first.way;
    on = λ before led.
        second.on before (subst (λ (n : ℕ). Led contents failed before n mid) (sym is)
        (first.on before had led));
  }

  pub to-still : (had has other : ℕ) (old mid new : Writing J W naming conn)
      → LeadsTo contents failed had old has mid → LeadsOn contents failed mid new → other ≡ has
      → LeadsTo contents failed had old other new
  to-still had has other old mid new first second is = record {
    name = second.name ∙ first.name;
    way = second.way ∙ first.way;
    on = λ before led.
        subst (λ (n : ℕ). Led contents failed before n new) (sym is)
        (second.on before has (first.on before led));
  }

  pub to-out : (had has other : ℕ) (old mid out new : Writing J W naming conn)
      → LeadsTo contents failed had old has mid → LeadsOut contents failed mid out
      → Stays contents failed out new
      → other ≡ has → LeadsOutTo contents failed had old other new
  to-out had has other old mid out new first leads stays is before led =
      subst (λ (n : ℕ). LedOut contents failed before n new) (sym is)
      (stays.out before has (leads before has (first.on before led)))

  pub out-then : (old mid out new : Writing J W naming conn) → LeadsOn contents failed old mid
      → LeadsOut contents failed mid out → Stays contents failed out new
      → LeadsOut contents failed old new
  out-then old mid out new first leads stays before credit led =
      stays.out before credit (leads before credit (first.on before credit led))

  -- no order is taken
  pub leads-to : (had has : ℕ) (old new : Writing J W naming conn) → new.inbox ≡ old.inbox
      → SameKnown old new
      → ((lost : Bool) (orders : List (WriterOrder (OpeningCall J naming)))
      (before : Option (List ℕ))
      → Runs contents failed lost orders before had old
      → Runs contents failed lost orders before has new)
      → LeadsTo contents failed had old has new
  leads-to had has old new same known on = record {
    name = ap (λ (inbox : Inbox (OpeningCall J naming)). out_name inbox.ring) same;
    way = known.way;
    on = λ before led. (
      led.0,
      subst (λ (inbox : Inbox (OpeningCall J naming)). HasGiven led.0 inbox) (sym same) led.1,
      subst (λ (inbox : Inbox (OpeningCall J naming)).
          Runs contents failed inbox.has_lost led.0 before has new) (sym same)
          (on old.inbox.has_lost led.0 before led.2),
      knows-same (orders_of led.0) old new (λ kept.
          sym (ap (λ (inbox : Inbox (OpeningCall J naming)). inbox.has_lost) same)
          ∙ kept) known led.3,
    );
  }

  pub leads-still : (old new : Writing J W naming conn) → new.inbox ≡ old.inbox → SameKnown old new
      → ((lost : Bool) (orders : List (WriterOrder (OpeningCall J naming)))
      (before : Option (List ℕ)) (credit : ℕ)
      → Runs contents failed lost orders before credit old
      → Runs contents failed lost orders before credit new)
      → LeadsOn contents failed old new
  leads-still old new same known on = record {
    name = ap (λ (inbox : Inbox (OpeningCall J naming)). out_name inbox.ring) same;
    way = known.way;
    on = λ before credit.
        (leads-to credit credit old new same known
        (λ lost orders began. on lost orders began credit)).on before;
  }

  pub leads-out : (old new : Writing J W naming conn) → new.inbox ≡ old.inbox → SameKnown old new
      → RunsOut contents failed old new → LeadsOut contents failed old new
  leads-out old new same known out before credit led = (
    led.0,
    subst (λ (inbox : Inbox (OpeningCall J naming)). HasGiven led.0 inbox) (sym same) led.1,
    subst (λ (inbox : Inbox (OpeningCall J naming)).
        Ends contents failed inbox.has_lost led.0 before credit new) (sym same)
        (out old.inbox.has_lost led.0 before credit led.2),
    knows-same (orders_of led.0) old new (λ kept.
        sym (ap (λ (inbox : Inbox (OpeningCall J naming)). inbox.has_lost) same)
        ∙ kept) known led.3,
  )

  -- the same, and more may be lost
  pub stays-by : (old new : Writing J W naming conn)
      → new.inbox ≡ record old.inbox { has_lost = new.inbox.has_lost }
      → (new.inbox.has_lost ≡ false → old.inbox.has_lost ≡ false) → SameKnown old new
      → StaysOn contents failed old.inbox.has_lost new.inbox.has_lost old new
      → Stays contents failed old new
  stays-by old new same kept_too known on = record {
    leads = record {
      name = ap (λ (inbox : Inbox (OpeningCall J naming)). out_name inbox.ring) same;
      way = known.way;
      on = λ before credit led. (
        led.0,
        given-on-to led.0 led.1,
        on.runs led.0 before credit led.2,
        knows-same (orders_of led.0) old new kept_too known led.3,
      );
    };
    out = λ before credit led. (
      led.0,
      given-on-to led.0 led.1,
      on.ends led.0 before credit led.2,
      knows-same (orders_of led.0) old new kept_too known led.3,
    );
  }
    where
      given-on-to : (given : List (WriterOrder (OpeningCall J naming))) → HasGiven given old.inbox
          → HasGiven given new.inbox
      given-on-to given has =
          subst (λ (inbox : Inbox (OpeningCall J naming)). HasGiven given inbox) (sym same) has

  -- an order is looked at
  pub stays-with : (old new : Writing J W naming conn) → Keeps old.inbox new.inbox
      → SameKnown old new → SameSent old new → new.frames ≡ old.frames → new.blames ≡ old.blames
      → Stays contents failed old new
  stays-with old new keeps known same frames blames = record {
    leads = record {
      name = keeps.name;
      way = known.way;
      on = λ before credit led. (
        led.0,
        keeps.given led.0 led.1,
        subst (λ (lost : Bool). Runs contents failed lost led.0 before credit new) (sym keeps.lost)
            (runs-between contents failed old.inbox.has_lost old new frames same blames led.0
            before credit led.2),
        knows-same (orders_of led.0) old new (λ kept. sym keeps.lost ∙ kept) known led.3,
      );
    };
    out = λ before credit led. (
      led.0,
      keeps.given led.0 led.1,
      subst (λ (lost : Bool). Ends contents failed lost led.0 before credit new) (sym keeps.lost)
          (ends-between contents failed old.inbox.has_lost old new frames same blames led.0
          before credit led.2),
      knows-same (orders_of led.0) old new (λ kept. sym keeps.lost ∙ kept) known led.3,
    );
  }

  -- nothing is done
  pub stays-same : (old new : Writing J W naming conn) → new.inbox ≡ old.inbox → SameKnown old new
      → SameSent old new → new.frames ≡ old.frames → new.blames ≡ old.blames
      → Stays contents failed old new
  stays-same old new inbox known same frames blames =
      stays-with old new (record {
        name = ap (λ (i : Inbox (OpeningCall J naming)). out_name i.ring) inbox;
        lost = ap (λ (i : Inbox (OpeningCall J naming)). i.has_lost) inbox;
        given = λ given has.
            subst (λ (i : Inbox (OpeningCall J naming)). HasGiven given i) (sym inbox) has;
      }) known same frames blames

  -- ---- an order is looked for

  -- it gives none
  pub leads-none : (old new : Writing J W naming conn) → Gives None old.inbox new.inbox
      → SameKnown old new → SameSent old new → new.frames ≡ old.frames → new.blames ≡ old.blames
      → LeadsOn contents failed old new
  leads-none old new gives known same frames blames = (stays-with old new (record {
    name = gives.name;
    lost = gives.lost;
    given = λ given has.
        subst (λ (all : List (WriterOrder (OpeningCall J naming))). HasGiven all new.inbox)
        (append-nil given) (gives.given given has);
  }) known same frames blames).leads

  -- what is given comes back, and may be set aside as lost
  pub leads-back : (next : WriterOrder (OpeningCall J naming)) (old new : Writing J W naming conn)
      (mid : Inbox (OpeningCall J naming))
      → Gives (Some next) old.inbox mid → new.inbox.ring ≡ mid.ring
      → new.inbox.set_aside ≡ Some next
      → (new.inbox.has_lost ≡ false → old.inbox.has_lost ≡ false) → SameKnown old new
      → ((orders : List (WriterOrder (OpeningCall J naming)))
      (before : Option (List ℕ)) (credit : ℕ)
      → Runs contents failed old.inbox.has_lost orders before credit old
      → Runs contents failed new.inbox.has_lost orders before credit new)
      → LeadsOn contents failed old new
  leads-back next old new mid gives ring aside kept known on = record {
    name = ap (λ r. out_name r) ring ∙ gives.name;
    way = known.way;
    on = λ before credit led. (
      led.0,
      ap (λ (one : Option (WriterOrder (OpeningCall J naming))). led.0 ++ order_in one) aside
          ∙ (aside-given next led.0 mid gives.none_aside (gives.given led.0 led.1)
          ∙ ap (λ r. taken r) (sym ring)),
      on led.0 before credit led.2,
      knows-same (orders_of led.0) old new kept known led.3,
    );
  }

  led-next : (next : WriterOrder (OpeningCall J naming)) (old new : Writing J W naming conn)
      (mid : Inbox (OpeningCall J naming)) (before : Option (List ℕ)) (credit : ℕ)
      → Gives (Some next) old.inbox mid
      → new.inbox ≡ record mid { has_lost = new.inbox.has_lost }
      → (led : Led contents failed before credit old)
      → Runs contents failed new.inbox.has_lost (led.0 ++ next ∷ []) before credit new
      → Knows (orders_of led.0 ++ order_of next ∷ []) new → Led contents failed before credit new
  led-next next old new mid before credit gives same led runs knows = (
    led.0 ++ next ∷ [],
    subst (λ (inbox : Inbox (OpeningCall J naming)). HasGiven (led.0 ++ next ∷ []) inbox) (sym same)
        (gives.given led.0 led.1),
    runs,
    subst (λ (orders : List Order). Knows orders new) (sym (given-next led.0 next)) knows,
  )

  -- the next order is taken
  pub leads-taken : (next : WriterOrder (OpeningCall J naming)) (old new : Writing J W naming conn)
      (mid : Inbox (OpeningCall J naming))
      → Gives (Some next) old.inbox mid → mid.has_lost ≡ false
      → new.inbox ≡ record mid { has_lost = new.inbox.has_lost }
      → ((orders : List (WriterOrder (OpeningCall J naming)))
      (before : Option (List ℕ)) (credit : ℕ)
      → Runs contents failed false orders before credit old
      → Runs contents failed new.inbox.has_lost (orders ++ next ∷ []) before credit new)
      → Heeds (order_of next) old new → in_name new.sends.home ≡ in_name old.sends.home
      → LeadsOn contents failed old new
  leads-taken next old new mid gives kept same takes heeds way = record {
    name = ap (λ (inbox : Inbox (OpeningCall J naming)). out_name inbox.ring) same ∙ gives.name;
    way = way;
    on = λ before credit led.
        led-next next old new mid before credit gives same led
        (takes led.0 before credit (subst
        (λ (lost : Bool). Runs contents failed lost led.0 before credit old)
        (sym gives.lost ∙ kept) led.2))
        (knows-taken (order_of next) old new (λ still. sym gives.lost ∙ kept) heeds
        (orders_of led.0) led.3);
  }

  -- it is passed over
  pub leads-passed : (next : WriterOrder (OpeningCall J naming)) (old new : Writing J W naming conn)
      (mid : Inbox (OpeningCall J naming))
      → Gives (Some next) old.inbox mid → mid.has_lost ≡ true → new.inbox ≡ mid
      → PassesOver contents failed next old new
      → new.closed ≡ (closes (order_of next) || old.closed)
      → in_name new.sends.home ≡ in_name old.sends.home → LeadsOn contents failed old new
  leads-passed next old new mid gives lost same passes heeds way = record {
    name = ap (λ (inbox : Inbox (OpeningCall J naming)). out_name inbox.ring) same ∙ gives.name;
    way = way;
    on = λ before credit led.
        let runs =
        passes led.0 before credit (subst
        (λ (was : Bool). Runs contents failed was led.0 before credit old)
        (sym gives.lost ∙ lost) led.2) in
        led-next next old new mid before credit gives (same
        ∙ ap (λ (was : Bool). record mid { has_lost = was })
        (sym (ap (λ (inbox : Inbox (OpeningCall J naming)). inbox.has_lost) same))) led
        (subst (λ (was : Bool). Runs contents failed was (led.0 ++ next ∷ []) before credit new)
        (sym (ap (λ (inbox : Inbox (OpeningCall J naming)). inbox.has_lost) same ∙ lost)) runs)
        (record {
          input = λ kept.
              absurd (true≢false
              (sym (ap (λ (inbox : Inbox (OpeningCall J naming)). inbox.has_lost) same ∙ lost)
              ∙ kept));
          closed = closed-more (order_of next) (orders_of led.0) old new heeds led.3.closed;
        });
  }

  -- a GOAWAY of the writer's own, where orders were lost
  pub leads-parting : (old new : Writing J W naming conn) → old.inbox.has_lost ≡ true
      → new.inbox ≡ old.inbox → SameKnown old new → Parts contents failed old new
      → LeadsOn contents failed old new
  leads-parting old new lost same known parts = record {
    name = ap (λ (inbox : Inbox (OpeningCall J naming)). out_name inbox.ring) same;
    way = known.way;
    on = λ before credit led. (
      led.0,
      subst (λ (inbox : Inbox (OpeningCall J naming)). HasGiven led.0 inbox) (sym same) led.1,
      subst (λ (was : Bool). Runs contents failed was led.0 before credit new)
          (sym (ap (λ (inbox : Inbox (OpeningCall J naming)). inbox.has_lost) same ∙ lost))
          (parts led.0 before credit
          (subst (λ (was : Bool). Runs contents failed was led.0 before credit old) lost led.2)),
      knows-same (orders_of led.0) old new (λ kept.
          sym (ap (λ (inbox : Inbox (OpeningCall J naming)). inbox.has_lost) same)
          ∙ kept) known led.3,
    );
  }

  -- a warning of the writer's own
  pub leads-warning : (one : WriterOrder OutSender) (last : ℕ) (taking : OrderOutcome OutSender)
      (old new : Writing J W naming conn)
      → IsWarning one → old.inbox.has_lost ≡ false → new.inbox ≡ old.inbox → SameKnown old new
      → WritesOn got contents failed (steps_of (order_of one) last taking) old.frames new.frames
      → ((before : Option (List ℕ)) (run : List Step)
      → Wrote got contents failed before run old.frames → Blamed taking one run)
      → ((before : Option (List ℕ)) (run : List Step)
      → Wrote got contents failed before run old.frames → Warns (order_of one) run)
      → core_of new ≡ core_of old → SameSent old new → new.blames ≡ old.blames
      → LeadsOn contents failed old new
  leads-warning one last taking old new own kept same known on blamed warns core
      sent blames = record {
        name = ap (λ (inbox : Inbox (OpeningCall J naming)). out_name inbox.ring) same;
        way = known.way;
        on = λ before credit led. (
          led.0,
          subst (λ (inbox : Inbox (OpeningCall J naming)). HasGiven led.0 inbox) (sym same) led.1,
          subst (λ (was : Bool). Runs contents failed was led.0 before credit new)
              (sym (ap (λ (inbox : Inbox (OpeningCall J naming)). inbox.has_lost) same ∙ kept))
              (warning-on contents failed one last taking old new own on blamed
              warns core sent blames
              led.0 before credit
              (subst (λ (was : Bool). Runs contents failed was led.0 before credit old) kept
              led.2)),
          knows-same (orders_of led.0) old new (λ still. kept) known led.3,
        );
      }

  -- credit is granted, which counts where it is the connection's
  pub leads-granted : (id n had has : ℕ) (old new : Writing J W naming conn)
      → has ≡ had + (if nat_eq id 0 then n else 0)
      → WritesOn got contents failed (Granted id n ∷ []) old.frames new.frames
      → new.inbox ≡ old.inbox → SameKnown old new → SameSent old new → new.blames ≡ old.blames
      → core_of new ≡ core_of old → LeadsTo contents failed had old has new
  leads-granted id n had has old new is on inbox known same blames core =
      subst (λ (credit : ℕ). LeadsTo contents failed had old credit new)
      (granted-as id n had has is)
      (leads-to had (had + granted_by 0 (Granted id n)) old new inbox known
      (grants-on contents failed id n old new on (goes-granted id n old new same blames core) had))

  -- a writer that has taken nothing
  pub led-none : (before : Option (List ℕ)) (writer : Writing J W naming conn)
      → taken writer.inbox.ring ≡ [] → writer.inbox.set_aside ≡ None → writer.inbox.has_lost ≡ false
      → writer.sends.calls.items ≡ [] → put_in writer.sends.home ≡ [] → writer.input_ended ≡ false
      → writer.closed ≡ false → writer.blames ≡ false
      → Wrote got contents failed before [] writer.frames
      → Led contents failed before 0 writer
  led-none before writer none aside kept empty home going unclosed blameless wrote = (
    [],
    all-given writer.inbox aside none,
    subst (λ (lost : Bool). Runs contents failed lost [] before 0 writer) (sym kept) (
      [],
      wrote,
      (refl, tt),
      record {
        senders =
            has-none writer.sends.calls.items (core_of writer)
            (put_in writer.sends.home) empty home;
        blamed = λ is. absurd (true≢false (sym is ∙ blameless));
        unblamed = λ calm found. absurd (true≢false (sym found));
      },
      refl,
    ),
    record { input = λ still. going; closed = unclosed },
  )

  -- and its device had then what it has now
  pub led-new : (was device : W) (writer : Writing J W naming conn) → was ≡ device
      → taken writer.inbox.ring ≡ [] → writer.inbox.set_aside ≡ None → writer.inbox.has_lost ≡ false
      → writer.sends.calls.items ≡ [] → put_in writer.sends.home ≡ [] → writer.input_ended ≡ false
      → writer.closed ≡ false → writer.blames ≡ false
      → Wrote got contents failed (contents device) [] writer.frames
      → Led contents failed (contents was) 0 writer
  led-new was device writer is none aside kept empty home going unclosed blameless wrote =
      subst (λ (one : W). Led contents failed (contents one) 0 writer) (sym is)
      (led-none (contents device) writer none aside kept empty home going unclosed blameless wrote)

module _ {J W : Type 0} {naming : Ghosts J} {conn : ConnGhosts W} where
  -- a sender that the core gives back is handed home
  pub goes-returned : (id : ℕ) (sender : OutSender) (old new : Writing J W naming conn)
      → HandsHome id sender old.sends.calls.items new.sends.calls.items (put_in old.sends.home)
      (put_in new.sends.home)
      → Releases id sender (core_of old) (core_of new) → new.blames ≡ old.blames
      → GoesOn (Returned id (got sender.rx) ∷ []) old new
  goes-returned id sender old new hands releases blames orders run holds = record {
    senders =
        has-returned id sender orders run old.sends.calls.items new.sends.calls.items (core_of old)
        (core_of new) (put_in old.sends.home) (put_in new.sends.home) hands releases holds.senders;
    blamed = λ is.
        overflow-later 0 (Returned id (got sender.rx) ∷ []) run (holds.blamed (sym blames ∙ is));
    unblamed = λ calm found. holds.unblamed (sym blames ∙ calm) found;
  }

module _ {J W : Type 0} {naming : Ghosts J} {conn : ConnGhosts W} (contents : W → Option (List ℕ))
    (failed : W → Bool) where
  runs-lost : (writer : Writing J W naming conn)
      (orders : List (WriterOrder (OpeningCall J naming)))
      (before : Option (List ℕ)) (credit : ℕ)
      → Runs contents failed false orders before credit writer
      → Runs contents failed true orders before credit writer
  runs-lost writer orders before credit runs =
      (runs.0, runs.1, obeys-lost false (orders_of orders) runs.0 runs.2, runs.3, runs.4)

  -- a call begins, or its order is set aside as lost
  pub leads-begun : (lost : Bool) (id : ℕ) (opening : OpeningCall J naming)
      (old new : Writing J W naming conn) (mid : Inbox (OpeningCall J naming))
      → new.inbox.has_lost ≡ lost → Gives (Some (control.Open id opening)) old.inbox mid
      → mid.has_lost ≡ false → new.inbox.ring ≡ mid.ring
      → (new.inbox.has_lost ≡ false → new.inbox ≡ mid)
      → (new.inbox.has_lost ≡ true → new.inbox.set_aside ≡ Some (control.Open id opening))
      → (new.inbox.has_lost ≡ false → Begins contents failed (control.Open id opening) old new)
      → (new.inbox.has_lost ≡ true → Parts contents failed old new) → SameKnown old new
      → LeadsOn contents failed old new
  leads-begun false id opening old new mid is gives kept ring whole aside begins parts known =
      leads-taken contents failed (control.Open id opening) old new mid gives kept (whole is
      ∙ ap (λ (was : Bool). record mid { has_lost = was })
      (sym (ap (λ (i : Inbox (OpeningCall J naming)). i.has_lost) (whole is))))
      (λ orders before credit runs.
      subst (λ (lost : Bool).
      Runs contents failed lost (orders ++ control.Open id opening ∷ []) before credit new) (sym is)
      (begins is orders before credit runs))
      (record { input = known.input; closed = known.closed }) known.way
  leads-begun true id opening old new mid is gives kept ring whole aside begins parts known =
      leads-back contents failed (control.Open id opening) old new mid gives ring (aside is)
      (λ still. absurd (true≢false (sym is ∙ still))) known
      (λ orders before credit runs.
      subst (λ (lost : Bool). Runs contents failed lost orders before credit new) (sym is)
      (parts is orders before credit
      (runs-lost old orders before credit (subst
      (λ (lost : Bool). Runs contents failed lost orders before credit old)
      (sym gives.lost ∙ kept) runs))))

  -- an order is passed over, or it is set aside until there is a place for its sender
  pub leads-over : (result : OrderStep) (next : WriterOrder (OpeningCall J naming))
      (old new : Writing J W naming conn) (mid : Inbox (OpeningCall J naming))
      → Gives (Some next) old.inbox mid → mid.has_lost ≡ true
      → (result ≡ took.One → PassesOver contents failed next old new)
      → (result ≡ took.One → new.inbox ≡ mid)
      → (result ≡ took.Early
      → (new.inbox ≡ record mid { set_aside = Some next }) × (new.frames ≡ old.frames)
      × SameSent old new × (new.blames ≡ old.blames) × SameKnown old new)
      → (result ≢ took.One → result ≡ took.Early)
      → new.closed ≡ (closes (order_of next) || old.closed)
      → in_name new.sends.home ≡ in_name old.sends.home
      → LeadsOn contents failed old new
  leads-over took.One next old new mid gives lost passes whole early either heeds way =
      leads-passed contents failed next old new mid gives lost (whole refl) (passes refl) heeds way
  leads-over took.Early next old new mid gives lost passes whole early either heeds way =
      let parts = early refl in
      leads-back contents failed next old new mid gives
      (ap (λ (i : Inbox (OpeningCall J naming)). i.ring) parts.0)
      (ap (λ (i : Inbox (OpeningCall J naming)). i.set_aside) parts.0)
      (λ still.
      absurd (true≢false
      (sym (ap (λ (i : Inbox (OpeningCall J naming)). i.has_lost) parts.0 ∙ lost) ∙ still))) parts.4
      (λ orders before credit runs.
      subst (λ (was : Bool). Runs contents failed was orders before credit new) (gives-lost parts.0)
      (runs-between contents failed old.inbox.has_lost old new parts.1 parts.2 parts.3 orders
      before credit runs))
    where
      gives-lost : new.inbox ≡ record mid { set_aside = Some next }
          → old.inbox.has_lost ≡ new.inbox.has_lost
      gives-lost is =
          sym gives.lost ∙ sym (ap (λ (i : Inbox (OpeningCall J naming)). i.has_lost) is)
  leads-over took.Nothing next old new mid gives lost passes whole early either heeds way =
      absurd (no (either (λ e. cc)))
    where
      no : took.Nothing ≡ took.Early → ⊥
      no e = cc
  leads-over (took.Ends id) next old new mid gives lost passes whole early either heeds way =
      absurd (no (either (λ e. cc)))
    where
      no : took.Ends id ≡ took.Early → ⊥
      no e = cc
  leads-over took.Stops next old new mid gives lost passes whole early either heeds way =
      absurd (no (either (λ e. cc)))
    where
      no : took.Stops ≡ took.Early → ⊥
      no e = cc
  leads-over took.Lost next old new mid gives lost passes whole early either heeds way =
      absurd (no (either (λ e. cc)))
    where
      no : took.Lost ≡ took.Early → ⊥
      no e = cc

module _ {J : Type 0} {naming : Ghosts J} where
  opens-among : (orders : List (WriterOrder (OpeningCall J naming)))
      (n : CallNumber J naming) (id : ℕ)
      → Contains (opens orders) (n, id) → IsAmong (control.Open id tt) (orders_of orders)
  opens-among [] n id (k, within, at) = absurd (omega (arith, within))
  opens-among (control.Open stream opening ∷ orders) n id (zero, within, at) =
      inl (ap (λ (one : CallNumber J naming × ℕ). control.Open one.1 tt) (sym at))
  opens-among (control.Open stream opening ∷ orders) n id (suc k, within, at) =
      inr (opens-among orders n id (k, omega (arith, within), at))
  opens-among (control.Settings settings ∷ orders) n id there = inr (opens-among orders n id there)
  opens-among (control.Ping bytes ∷ orders) n id there = inr (opens-among orders n id there)
  opens-among (control.Probe bytes ∷ orders) n id there = inr (opens-among orders n id there)
  opens-among (control.Window stream m ∷ orders) n id there = inr (opens-among orders n id there)
  opens-among (control.Refuse stream fields ∷ orders) n id there =
      inr (opens-among orders n id there)
  opens-among (control.Reset stream code written ∷ orders) n id there =
      inr (opens-among orders n id there)
  opens-among (control.Goaway last cause ∷ orders) n id there = inr (opens-among orders n id there)
  opens-among (control.InputEnded ∷ orders) n id there = inr (opens-among orders n id there)
  opens-among (control.Close ∷ orders) n id there = inr (opens-among orders n id there)

module _ {J W : Type 0} {naming : Ghosts J} {conn : ConnGhosts W} (contents : W → Option (List ℕ))
    (failed : W → Bool) where
  -- an order opened the stream of each sender that the core has
  opened-core : (orders : List (WriterOrder (OpeningCall J naming))) (run : List Step)
      (writer : Writing J W naming conn) (id : ℕ)
      → Holds orders run writer → GaveLeft id (calls got (core_of writer))
      → IsAmong (control.Open id tt) (orders_of orders)
  opened-core orders run writer id holds (items, there, left) =
      let lane = from-core id items (core_of writer) there in
      let call =
      from-keys id lane.0 writer.sends.calls.items (subst
      (λ (all : List (ℕ × Option LaneName)). Contains all (id, lane.0))
      (sym writer.aligned) lane.1) in
      let handed : List (CallNumber J naming × ℕ) = handed_numbers holds.senders.handed in
      opens-among orders call.0 id
      (Contains-permutation (numbers writer.sends.calls.items ++ handed) (opens orders) (call.0, id)
      (IsPermutation-sym (opens orders) (numbers writer.sends.calls.items ++ handed)
      holds.senders.all)
      (Contains-append_left (numbers writer.sends.calls.items) handed (call.0, id) call.1))

  -- a reset of a call that was left, where no order was lost and the input goes on
  pub leads-reset : (id last : ℕ) (taking : OrderOutcome OutSender)
      (old new : Writing J W naming conn)
      → old.inbox.has_lost ≡ false → old.input_ended ≡ false → new.inbox ≡ old.inbox
      → SameKnown old new
      → WritesOn got contents failed (steps_of (control.Reset id InternalError true) last taking)
      old.frames new.frames
      → ((before : Option (List ℕ)) (run : List Step)
      → Wrote got contents failed before run old.frames
      → Blamed taking (control.Reset id InternalError true) run)
      → core_of new ≡ core_of old → SameSent old new → new.blames ≡ old.blames
      → GaveLeft id (calls got (core_of old)) → LeadsOn contents failed old new
  leads-reset id last taking old new kept going same known on blamed core sent
      blames gave = record {
        name = ap (λ (inbox : Inbox (OpeningCall J naming)). out_name inbox.ring) same;
        way = known.way;
        on = λ before credit led. (
          led.0,
          subst (λ (inbox : Inbox (OpeningCall J naming)). HasGiven led.0 inbox) (sym same) led.1,
          subst (λ (was : Bool). Runs contents failed was led.0 before credit new)
              (sym (ap (λ (inbox : Inbox (OpeningCall J naming)). inbox.has_lost) same ∙ kept))
              (resetting-on contents failed id last taking old new on blamed core
              sent blames gave led.0
              before credit (opened-core led.0 led.2.0 old id led.2.3 gave)
              (sym (led.3.input kept) ∙ going)
              (subst (λ (was : Bool). Runs contents failed was led.0 before credit old) kept
              led.2)),
          knows-same (orders_of led.0) old new (λ still. kept) known led.3,
        );
      }

  -- a sender was asked what it gave last
  pub leads-looked : (old new : Writing J W naming conn) → new.inbox ≡ old.inbox → SameKnown old new
      → WritesOn got contents failed [] old.frames new.frames
      → calls got (core_of new) ≡ calls got (core_of old)
      → SameSent old new → new.blames ≡ old.blames → LeadsOn contents failed old new
  leads-looked old new inbox known on same sent blames =
      leads-still contents failed old new inbox known
      (λ lost. runs-same contents failed lost old new on
      (goes-by [] old new sent blames on-same (λ run. refl) (λ run. refl)
      (λ id gave. subst (λ (all : List (ℕ × List OutItem)). GaveLeft id all) (sym same) gave)))

abbrev one-of : OutItem → Option OutItem → OutItem
one-of other None = other
one-of other (Some item) = item

-- what was given last is among what was given
pub gave-last : (id : ℕ) (all : List (ℕ × List OutItem)) → WasLeft id all → GaveLeft id all
gave-last id all (items, there, last) = (items, there, last-in items last)
  where
    none-left : None ≡ Some Left → ⊥
    none-left e = cc

    last-in : (items : List OutItem) → last_of items ≡ Some Left → Contains items Left
    last-in [] is = absurd (none-left is)
    last-in (item ∷ []) is = (zero, omega arith, ap (one-of Left) is)
    last-in (item ∷ next ∷ items) is =
        let rest = last-in (next ∷ items) is in
        (suc rest.0, omega (arith, rest.1), rest.2)
