-- What a decision, a cut and an event leave of what was heard.
use Rattle.std.proofs.Common.{
  ◌≡◌,
  ◌≢◌,
  ◌∙◌,
  ℕ,
  Bool,
  true,
  false,
  true≢false,
  List,
  [],
  ◌∷◌,
  ◌++◌,
  All,
  Option,
  None,
  Some,
  ap,
  append-nil,
  refl,
  subst,
  sym,
}
use Rattle.std.proofs.lemmas.List.{append_assoc}
use Rattle.std.proofs.lemmas.List.Elements.{All-cons, All-head, All-nil, All-tail}
use Rattle.std.specs.Prelude.{IfSome}
use mathlib.Core.List.{IsPrefix}
use Rattle.callhead.specs.declared.head.CallHead.{CallHead}
use Rattle.callparts.specs.declared.order.OpeningCall.{OpeningCall}
use Rattle.callparts.specs.declared.order.ReturningCall.{ReturningCall}
use Rattle.callparts.specs.declared.register.Naming.{Ghosts as Naming}
use Rattle.callparts.specs.declared.report.Ending.{Ending}
use Rattle.callparts.specs.declared.work.Request.{Request}
use Rattle.handlers.specs.declared.step.MethodStep.{MethodStep as Answer}
use Rattle.lane.specs.Ring.{out_name, taken}
use Rattle.lane.specs.declared.ring.RingOut.{RingOut}
use Rattle.outwriter.specs.declared.control.WriterOrder.{WriterOrder}
use Rattle.outwriter.specs.declared.control.WriterOrder.TheVariants as orders
use Rattle.outwriter.specs.Steps.{Order}
use Rattle.session.specs.declared.event.InEvent.{InEvent}
use Rattle.session.specs.declared.event.InEvent.TheVariants as events
use Rattle.readerloop.specs.declared.decision.HalfToShut.{HalfToShut}
use Rattle.readerloop.specs.declared.decision.Decision.{Decision}
use Rattle.readerloop.specs.declared.reading.Reading.{Reading}
use Rattle.readerloop.specs.Calls.{HasReturned, SentItems, carried_in}
use Rattle.readerloop.specs.Orders.{ends_at, orders_at, orders_by}
use Rattle.readerloop.specs.Readings.{
  Awaits,
  CollectsTo,
  Decides,
  DecidesOn,
  IsNext,
  KeepsNext,
  Reads,
  ReadsOn,
  Stands,
  Stays,
  goaway_in,
  order_in,
  orders_in,
}
use Rattle.readerloop.specs.Steps.{CutOff, Drains, Fate, Step, Told, admitted_by, events_of}
use Rattle.readerloop.proofs.LetGo.{events-append}
use Rattle.readerloop.proofs.Resets.{calm-more}
use Rattle.connection.specs.declared.orders.Orders.{Orders}
use Rattle.connection.specs.declared.orders.Route.{Ghosts}
use Rattle.connection.specs.Heard.{
  Acts,
  AreCarried,
  Collects,
  CutsSome,
  Grows,
  KeptFor,
  ReadsTo,
  ReadsWith,
}
use Rattle.connection.specs.Limits.{AreGoing, Covers, IsFounded, IsJustified, Tally}
use Rattle.connection.specs.Puts.{IsOwn, IsSame, Ordered, PutsAll}
use Rattle.connection.proofs.Founded.{all-founded, cuts-founded, one-founded}
use Rattle.connection.proofs.Opens.{plain-own}
use Rattle.connection.proofs.Tallies.{covers-more, covers-none, cuts-justified, going-more}
use Rattle.connection.proofs.Heard.{
  ordered-some,
  ordered-stopped,
  ordered-same,
  silent-more,
  undrained-more,
  if-ended,
  ended-at,
}

-- ---- senders that came home

pub all-front : {A : Type 0} (P : A → Type 0) (xs ys : List A) → All P (xs ++ ys) → All P xs
all-front P [] ys all = All-nil P
all-front P (x ∷ xs) ys all =
    All-cons P x xs (All-head P x (xs ++ ys) all) (all-front P xs ys (All-tail P x (xs ++ ys) all))

pub all-back : {A : Type 0} (P : A → Type 0) (xs ys : List A) → All P (xs ++ ys) → All P ys
all-back P [] ys all = all
all-back P (x ∷ xs) ys all = all-back P xs ys (All-tail P x (xs ++ ys) all)

module _ {J M : Type 0} {book : Naming J} where
  pub grows-home : (one two : Reading J M book) → two.home ≡ one.home → Grows one two
  grows-home one two is = record {
    name = ap (λ (ring : RingOut (ReturningCall J book)). out_name ring) is;
    more = [];
    took =
        ap (λ (ring : RingOut (ReturningCall J book)). taken ring) is
        ∙ sym (append-nil (taken one.home));
  }

  pub grows-then : (one two three : Reading J M book) → Grows one two
      → Grows two three → Grows one three
  grows-then one two three first second = record {
    name = second.name ∙ first.name;
    more = first.more ++ second.more;
    took =
        second.took
        ∙ (ap (λ (rs : List (ReturningCall J book)). rs ++ second.more) first.took
        ∙ append_assoc (taken one.home) first.more second.more);
  }

  pub carried-before : (sent : List SentItems) (one two : Reading J M book) → Grows one two
      → AreCarried sent (taken two.home) → AreCarried sent (taken one.home)
  carried-before sent one two grows carried =
      all-front (λ (returning : ReturningCall J book).
      HasReturned (carried_in sent) returning.sending.value) (taken one.home) grows.more
      (subst (λ (rs : List (ReturningCall J book)). AreCarried sent rs) grows.took carried)

module _ {J M : Type 0} {book : Naming J} where
  pub next-seats : (one two : Reading J M book) → two ≡ record one { workers = two.workers }
      → KeepsNext one two
  next-seats one two is id next = subst (λ (r : Reading J M book). IsNext id r) (sym is) next

  pub seats-then : (one two three : Reading J M book) → two ≡ record one { workers = two.workers }
      → three ≡ record two { workers = three.workers }
      → three ≡ record one { workers = three.workers }
  seats-then one two three first second =
      second ∙ ap (λ (r : Reading J M book). record r { workers = three.workers }) first

  pub home-seats : (one two : Reading J M book) → two ≡ record one { workers = two.workers }
      → two.home ≡ one.home
  home-seats one two is = ap (λ (r : Reading J M book). r.home) is

  pub carried-front : (sent : List SentItems) (reading : Reading J M book)
      (home put : List (ReturningCall J book))
      → home ≡ put → IsPrefix (taken reading.home) home → AreCarried sent put
      → AreCarried sent (taken reading.home)
  carried-front sent reading home put is front carried =
      all-front (λ (returning : ReturningCall J book).
      HasReturned (carried_in sent) returning.sending.value) (taken reading.home) front.0
      (subst (λ (rs : List (ReturningCall J book)). AreCarried sent rs)
      (sym (front.1 ∙ is)) carried)

  pub prefix-before : (one mid two : Reading J M book) (home put : List (ReturningCall J book))
      → mid.home ≡ one.home → Grows mid two → home ≡ put → IsPrefix (taken two.home) home
      → IsPrefix (taken one.home) put
  prefix-before one mid two home put same grows is front = (
    grows.more ++ front.0,
    sym (append_assoc (taken one.home) grows.more front.0)
        ∙ (ap (λ (rs : List (ReturningCall J book)). rs ++ front.0) (sym
        (grows.took
        ∙ ap (λ (ring : RingOut (ReturningCall J book)). taken ring ++ grows.more) same))
        ∙ (front.1 ∙ is)),
  )

module _ {J M : Type 0} {book : Naming J} {known : ℕ → List (List ℕ) → Bool → Answer → Type 0}
    {names : List ℕ → ℕ → Type 0} where
  pub reads-same : (sent : List SentItems) (told : List Step) (one two : Reading J M book)
      → two ≡ one
      → Reads known names (carried_in sent) told one → Reads known names (carried_in sent) told two
  reads-same sent told one two is reads =
      subst (λ (r : Reading J M book). Reads known names (carried_in sent) told r) (sym is) reads

  -- the workers alone are others
  pub reads-seats : (sent : List SentItems) (told : List Step) (one two : Reading J M book)
      → two ≡ record one { workers = two.workers } → Reads known names (carried_in sent) told one
      → Reads known names (carried_in sent) told two
  reads-seats sent told one two is reads =
      subst (λ (r : Reading J M book). Reads known names (carried_in sent) told r)
      (sym is) (record {
        calls = reads.calls;
        drains = reads.drains;
        counts = record { last_is = reads.counts.last_is; count = reads.counts.count };
        goaway = reads.goaway;
      })

  -- the way home alone is another
  pub reads-home : (sent : List SentItems) (told : List Step) (one two : Reading J M book)
      → two ≡ record one { home = two.home } → Reads known names (carried_in sent) told one
      → Reads known names (carried_in sent) told two
  reads-home sent told one two is reads =
      subst (λ (r : Reading J M book). Reads known names (carried_in sent) told r)
      (sym is) (record {
        calls = reads.calls;
        drains = reads.drains;
        counts = record { last_is = reads.counts.last_is; count = reads.counts.count };
        goaway = reads.goaway;
      })

  pub awaits-of : (sent : List SentItems) (told : List Step) (step : Step)
      (decided : Decision J book)
      (cut : HalfToShut) (reading : Reading J M book)
      → decided.to_shut ≡ Some cut → Decides known names (carried_in sent) told step decided reading
      → Awaits known names (carried_in sent) told step cut reading
  awaits-of sent told step decided cut reading is decides =
      subst (λ (found : Option HalfToShut).
      Stands known names (carried_in sent) told step found reading) is decides.stands

  pub reads-of : (sent : List SentItems) (told : List Step) (step : Step)
      (decided : Decision J book)
      (reading : Reading J M book)
      → decided.to_shut ≡ None → Decides known names (carried_in sent) told step decided reading
      → Reads known names (carried_in sent) (step ∷ told) reading
  reads-of sent told step decided reading is decides =
      subst (λ (found : Option HalfToShut).
      Stands known names (carried_in sent) told step found reading) is decides.stands

  -- ---- what came home meanwhile

  pub collects-none : (one two : Reading J M book) → two ≡ one → Collects known names one two
  collects-none one two is = record {
    grows = grows-home one two (ap (λ (r : Reading J M book). r.home) is);
    keeps = λ sent told carried reads. reads-same sent told one two is reads;
  }

  pub collects-seats : (one two : Reading J M book) → two ≡ record one { workers = two.workers }
      → Collects known names one two
  collects-seats one two is = record {
    grows = grows-home one two (home-seats one two is);
    keeps = λ sent told carried reads. reads-seats sent told one two is reads;
  }

  pub collects-stays : (one two : Reading J M book) → two.home ≡ one.home
      → Stays known names one two → Collects known names one two
  collects-stays one two is stays = record {
    grows = grows-home one two is;
    keeps = λ sent told carried reads. stays sent told reads;
  }

  pub collects-then : (one two three : Reading J M book) → Collects known names one two
      → Collects known names two three → Collects known names one three
  collects-then one two three first second = record {
    grows = grows-then one two three first.grows second.grows;
    keeps = λ sent told carried reads.
        second.keeps sent told carried
        (first.keeps sent told (carried-before sent two three second.grows carried) reads);
  }

  -- more of the way home was taken
  pub collects-more : (one two : Reading J M book) → out_name two.home ≡ out_name one.home
      → CollectsTo known names one two → Collects known names one two
  collects-more one two name (more, took, keeps) = record {
    grows = record { name = name; more = more; took = took };
    keeps = λ sent told carried reads.
        keeps sent told
        (all-back (λ (returning : ReturningCall J book).
        HasReturned (carried_in sent) returning.sending.value) (taken one.home) more
        (subst (λ (rs : List (ReturningCall J book)). AreCarried sent rs) took carried)) reads;
  }

module _ {A B C J M N : Type 0} {book : Naming J} {route : Ghosts N}
    {known : ℕ → List (List ℕ) → Bool → Answer → Type 0} {names : List ℕ → ℕ → Type 0} where
  -- what was decided is done: two orders, and the half
  pub acts-done : (decided : Decision J book) (first : Option (WriterOrder (OpeningCall J book)))
      (reading reading_new : Reading J M book) (old mid new : Orders A B C J N book route)
      → order_in first ≡ goaway_in decided.goaway → IfSome first IsOwn
      → PutsAll first old mid → PutsAll decided.order mid new
      → (old.has_stopped ≡ true → new.has_stopped ≡ true)
      → ((sent : List SentItems) (told : List Step) (step : Step)
      → Decides known names (carried_in sent) told step decided reading
      → Reads known names (carried_in sent) (step ∷ told) reading_new)
      → reading_new.home ≡ reading.home
      → Acts known names decided reading old reading_new new
  acts-done decided first reading reading_new old mid new goes one before behind stops
      reads same = record {
        home = same;
        reads = reads;
        ordered = λ sent told step decides own ordered.
            subst (λ (os : List Order). Ordered os new)
            (append_assoc (orders_by told) (order_in first) (order_in decided.order)
            ∙ (ap (λ (os : List Order). orders_by told ++ (os ++ order_in decided.order)) goes
            ∙ ap (λ (os : List Order). orders_by told ++ os) decides.orders))
            (ordered-some (orders_by told ++ order_in first) decided.order mid new behind own
            (ordered-some (orders_by told) first old mid before one ordered));
        stops = stops;
      }

  -- ---- cuts

  pub cuts-none : (ended : Bool) (reading : Reading J M book) (orders : Orders A B C J N book route)
      → CutsSome known names ended reading orders reading orders
  cuts-none ended reading orders = (
    refl,
    λ sent told reads. (
      [],
      record {
        silent = refl;
        calm = tt;
        going = λ is. tt;
        undrained = λ is. refl;
        reads = reads;
        ordered = λ ordered. ordered;
        stops = λ was. was;
      },
    ),
  )

  pub cuts-then : (ended : Bool) (one two three : Reading J M book)
      (old mid new : Orders A B C J N book route)
      → CutsSome known names ended one old two mid → CutsSome known names ended two mid three new
      → CutsSome known names ended one old three new
  cuts-then ended one two three old mid new first second = (
    second.0 ∙ first.0,
    λ sent told reads.
        let a = first.1 sent told reads in
        let b = second.1 sent (a.0 ++ told) a.1.reads in
        let same : b.0 ++ (a.0 ++ told) ≡ (b.0 ++ a.0) ++ told =
        sym (append_assoc b.0 a.0 told) in (
          b.0 ++ a.0,
          record {
            silent = silent-more b.0 a.0 b.1.silent ∙ a.1.silent;
            calm = calm-more b.0 a.0 b.1.calm a.1.calm;
            going = λ is. going-more b.0 a.0 (b.1.going is) (a.1.going is);
            undrained = λ is. undrained-more b.0 a.0 (b.1.undrained is) (a.1.undrained is);
            reads =
                subst (λ (steps : List Step).
                Reads known names (carried_in sent) steps three) same b.1.reads;
            ordered = λ ordered.
                subst (λ (steps : List Step). Ordered (orders_by steps) new) same
                (b.1.ordered (a.1.ordered ordered));
            stops = λ was. b.1.stops (a.1.stops was);
          },
        ),
  )

  pub cuts-one : (ended : Bool) (decided : Decision J book) (id : ℕ)
      (one two three : Reading J M book) (old new : Orders A B C J N book route)
      → (ended ≡ false → AreGoing (CutOff id ∷ []))
      → two.home ≡ one.home → DecidesOn known names (CutOff id) decided one two
      → Acts known names decided two old three new → CutsSome known names ended one old three new
  cuts-one ended decided id one two three old new going home decides acts = (
    acts.home ∙ home,
    λ sent told reads.
        let decision = decides sent told reads in (
          CutOff id ∷ [],
          record {
            silent = refl;
            calm = (refl, tt);
            going = going;
            undrained = λ is. refl;
            reads = acts.reads sent told (CutOff id) decision;
            ordered = λ ordered.
                acts.ordered sent told (CutOff id) decision
                (plain-own told (CutOff id) decided refl decision.orders) ordered;
            stops = acts.stops;
          },
        ),
  )

  -- the server drains
  pub cuts-drain : (decided : Decision J book) (one two three : Reading J M book)
      (old new : Orders A B C J N book route)
      → two.home ≡ one.home → DecidesOn known names Drains decided one two
      → Acts known names decided two old three new
      → CutsSome known names false one old three new
  cuts-drain decided one two three old new home decides acts = (
    acts.home ∙ home,
    λ sent told reads.
        let decision = decides sent told reads in (
          Drains ∷ [],
          record {
            silent = refl;
            calm = (refl, tt);
            going = λ is. tt;
            undrained = λ is. absurd (true≢false (sym is));
            reads = acts.reads sent told Drains decision;
            ordered = λ ordered.
                acts.ordered sent told Drains decision
                (plain-own told Drains decided refl decision.orders) ordered;
            stops = acts.stops;
          },
        ),
  )

  pub cuts-same : (ended : Bool) (reading new_reading : Reading J M book)
      (old new : Orders A B C J N book route)
      → new_reading.home ≡ reading.home → Stays known names reading new_reading → IsSame old new
      → CutsSome known names ended reading old new_reading new
  cuts-same ended reading new_reading old new home stays same = (
    home,
    λ sent told reads. (
      [],
      record {
        silent = refl;
        calm = tt;
        going = λ is. tt;
        undrained = λ is. refl;
        reads = stays sent told reads;
        ordered = λ ordered. ordered-same (orders_by told) old new same ordered;
        stops = λ was. same.4 ∙ was;
      },
    ),
  )

  -- orders by another name
  pub cuts-same-orders : {ended : Bool} (one two : Reading J M book)
      (old mid new : Orders A B C J N book route)
      → IsSame mid new → CutsSome known names ended one old two mid
      → CutsSome known names ended one old two new
  cuts-same-orders {ended} one two old mid new same cuts =
      cuts-then ended one two two old mid new cuts
      (cuts-same ended two two mid new refl (λ sent told reads. reads) same)

  -- ---- events

  -- one event, whose step is decided and done, and refuses nothing but what may be
  pub with-one : (tally tally_new : Tally) (event : InEvent) (fate : Fate)
      (decided : Decision J book) (end : Option Ending) (one two three : Reading J M book)
      (old new : Orders A B C J N book route)
      → ((sent : List SentItems) (told : List Step) → Reads known names (carried_in sent) told one
      → Covers told tally → IsJustified (Told event fate) told)
      → ((told : List Step) → Covers told tally → Covers (Told event fate ∷ told) tally_new)
      → end ≡ decided.ends → two.home ≡ one.home
      → DecidesOn known names (Told event fate) decided one two
      → ((told : List Step) → orders_in decided ≡ orders_at told (Told event fate)
      → IfSome decided.order IsOwn)
      → Acts known names decided two old three new
      → IsFounded names old.has_stopped (Told event fate)
      → ReadsWith known names tally tally_new (event ∷ []) end one old three new
  with-one tally tally_new event fate decided end one two three old new justified covered is home
      decides own acts founded = (
        grows-home one three (acts.home ∙ home),
        λ sent carried told kept covers.
            let decision = decides sent told kept.reads in (
              Told event fate ∷ [],
              record {
                front = ([], refl);
                all = λ none. refl;
                calm = λ none. (sym decision.ends ∙ (sym is ∙ none), tt);
                ended = ended-at (Told event fate) end (sym (is ∙ decision.ends));
                kept = record {
                  reads = acts.reads sent told (Told event fate) decision;
                  ordered =
                      acts.ordered sent told (Told event fate) decision
                      (own told decision.orders) kept.ordered;
                  justified = (justified sent told kept.reads covers, kept.justified);
                  founded = (
                    one-founded names old.has_stopped new.has_stopped acts.stops
                        (Told event fate) founded,
                    all-founded names old.has_stopped new.has_stopped acts.stops told kept.founded,
                  );
                  going = kept.going;
                };
              },
              covered told covers,
            ),
      )

  -- whatever was counted
  pub to-one : (event : InEvent) (fate : Fate) (decided : Decision J book) (end : Option Ending)
      (one two three : Reading J M book) (old new : Orders A B C J N book route)
      → ((told : List Step) → IsJustified (Told event fate) told) → end ≡ decided.ends
      → two.home ≡ one.home → admitted_by (Told event fate) ≡ None
      → DecidesOn known names (Told event fate) decided one two
      → Acts known names decided two old three new
      → IsFounded names old.has_stopped (Told event fate)
      → ReadsTo known names (event ∷ []) end one old three new
  to-one event fate decided end one two three old new justified is home plain decides acts founded =
      let none : Tally = record { calls = 0; came = 0 } in
      let all =
      with-one none none event fate decided end one two three old new
      (λ sent steps reads covers. justified steps)
      (λ steps covers. covers-none (Told event fate ∷ steps)) is home decides
      (λ told orders. plain-own told (Told event fate) decided plain orders) acts founded in (
        all.0,
        λ sent carried told kept.
            let found = all.1 sent carried told kept (covers-none told) in
            (found.0, found.1),
      )

  pub with-same : (tally : Tally) (given : List InEvent) (end : Option Ending)
      (one two : Reading J M book) (old new : Orders A B C J N book route)
      → ReadsTo known names given end one old two new
      → ReadsWith known names tally tally given end one old two new
  with-same tally given end one two old new reads = (
    reads.0,
    λ sent carried told kept covers.
        let all = reads.1 sent carried told kept in
        (all.0, all.1, covers-more tally all.0 told covers),
  )

  -- with what was counted by another name
  pub with-tally : (tally tally_new other : Tally) (given : List InEvent) (end : Option Ending)
      (one two : Reading J M book) (old new : Orders A B C J N book route)
      → other ≡ tally_new
      → ReadsWith known names tally tally_new given end one old two new
      → ReadsWith known names tally other given end one old two new
  with-tally tally tally_new other given end one two old new is reads =
      subst (λ (counted : Tally).
      ReadsWith known names tally counted given end one old two new) (sym is) reads

  -- one that leads to no order
  pub to-silent : (event : InEvent) (fate : Fate) (one two : Reading J M book)
      (old new : Orders A B C J N book route)
      → ((told : List Step) → orders_at told (Told event fate) ≡ [])
      → ends_at (Told event fate) ≡ None
      → ((told : List Step) → IsJustified (Told event fate) told) → two.home ≡ one.home
      → ReadsOn known names (Told event fate) one two → IsSame old new
      → IsFounded names old.has_stopped (Told event fate)
      → ReadsTo known names (event ∷ []) None one old two new
  to-silent event fate one two old new silent calm justified home reads same founded = (
    grows-home one two home,
    λ sent carried told kept. (
      Told event fate ∷ [],
      record {
        front = ([], refl);
        all = λ none. refl;
        calm = λ none. (calm, tt);
        ended = tt;
        kept = record {
          reads = reads sent told kept.reads;
          ordered =
              subst (λ (os : List Order). Ordered os new) (sym
              (ap (λ (os : List Order). orders_by told ++ os) (silent told)
              ∙ append-nil (orders_by told)))
              (ordered-same (orders_by told) old new same kept.ordered);
          justified = (justified told, kept.justified);
          founded = (
            one-founded names old.has_stopped new.has_stopped (λ was. same.4 ∙ was)
                (Told event fate) founded,
            all-founded names old.has_stopped new.has_stopped (λ was. same.4 ∙ was)
                told kept.founded,
          );
          going = kept.going;
        };
      },
    ),
  )

  -- nothing was heard before it, but more may have come home
  pub with-collected : (tally tally_new : Tally) (given : List InEvent) (end : Option Ending)
      (one two three : Reading J M book) (old mid new : Orders A B C J N book route)
      → Collects known names one two → IsSame old mid
      → ReadsWith known names tally tally_new given end two mid three new
      → ReadsWith known names tally tally_new given end one old three new
  with-collected tally tally_new given end one two three old mid new collects same reads = (
    grows-then one two three collects.grows reads.0,
    λ sent carried told kept.
        reads.1 sent carried told (record {
          reads =
              collects.keeps sent told (carried-before sent two three reads.0 carried) kept.reads;
          ordered = ordered-same (orders_by told) old mid same kept.ordered;
          justified = kept.justified;
          founded =
              all-founded names old.has_stopped mid.has_stopped (λ was. same.4 ∙ was)
              told kept.founded;
          going = kept.going;
        }),
  )

  -- nothing was heard before it, and the writer was seen to have stopped
  pub kept-stopped : (sent : List SentItems) (told : List Step) (reading : Reading J M book)
      (old mid : Orders A B C J N book route)
      → mid.outbox ≡ old.outbox → mid.has_dropped ≡ old.has_dropped → mid.unput ≡ old.unput
      → mid.backlog ≡ old.backlog
      → mid.has_stopped ≡ true → KeptFor known names sent told reading old
      → KeptFor known names sent told reading mid
  kept-stopped sent told reading old mid outbox drops unput backlog stopped kept = record {
    reads = kept.reads;
    ordered = ordered-stopped (orders_by told) old mid outbox drops unput backlog kept.ordered;
    justified = kept.justified;
    founded = all-founded names old.has_stopped mid.has_stopped (λ was. stopped) told kept.founded;
    going = kept.going;
  }

  pub with-stopped : (tally tally_new : Tally) (given : List InEvent) (end : Option Ending)
      (one two : Reading J M book) (old mid new : Orders A B C J N book route)
      → mid.outbox ≡ old.outbox → mid.has_dropped ≡ old.has_dropped
      → mid.unput ≡ old.unput → mid.backlog ≡ old.backlog → mid.has_stopped ≡ true
      → ReadsWith known names tally tally_new given end one mid two new
      → ReadsWith known names tally tally_new given end one old two new
  with-stopped tally tally_new given end one two old mid new outbox drops unput
      backlog stopped reads = (
        reads.0,
        λ sent carried told kept.
            reads.1 sent carried told
            (kept-stopped sent told one old mid outbox drops unput backlog stopped kept),
      )

  -- nothing was put before it
  pub with-quiet : (tally tally_new : Tally) (given : List InEvent) (end : Option Ending)
      (one two three : Reading J M book) (old mid new : Orders A B C J N book route)
      → two ≡ one → IsSame old mid
      → ReadsWith known names tally tally_new given end two mid three new
      → ReadsWith known names tally tally_new given end one old three new
  with-quiet tally tally_new given end one two three old mid new is same reads =
      with-collected tally tally_new given end one two three old mid new
      (collects-none one two is) same reads

  -- the bells were rung behind it
  pub with-rung : (tally tally_new : Tally) (given : List InEvent) (end : Option Ending)
      (one two three : Reading J M book) (old mid new : Orders A B C J N book route)
      → three ≡ record two { workers = three.workers } → IsSame mid new
      → ReadsWith known names tally tally_new given end one old two mid
      → ReadsWith known names tally tally_new given end one old three new
  with-rung tally tally_new given end one two three old mid new is same reads = (
    grows-then one two three reads.0 (grows-home two three (home-seats two three is)),
    λ sent carried told kept covers.
        let a =
        reads.1 sent (carried-before sent two three
        (grows-home two three (home-seats two three is)) carried) told kept covers in (
          a.0,
          record {
            front = a.1.front;
            all = a.1.all;
            calm = a.1.calm;
            ended = a.1.ended;
            kept = record {
              reads = reads-seats sent (a.0 ++ told) two three is a.1.kept.reads;
              ordered = ordered-same (orders_by (a.0 ++ told)) mid new same a.1.kept.ordered;
              justified = a.1.kept.justified;
              founded =
                  all-founded names mid.has_stopped new.has_stopped (λ was. same.4 ∙ was)
                  (a.0 ++ told) a.1.kept.founded;
              going = a.1.kept.going;
            };
          },
          a.2,
        ),
  )

  -- of a call that is of this stream, with this head
  pub with-open-for : (tally tally_new : Tally) (request : Request) (id : ℕ) (head : CallHead)
      (end : Option Ending) (one two : Reading J M book) (old new : Orders A B C J N book route)
      → request.id ≡ id → request.head ≡ head
      → ReadsWith known names tally tally_new (events.Open request.id request.head ∷ []) end one old
      two new
      → ReadsWith known names tally tally_new (events.Open id head ∷ []) end one old two new
  with-open-for tally tally_new request id head end one two old new same is reads =
      subst (λ (n : ℕ).
      ReadsWith known names tally tally_new (events.Open n head ∷ []) end one old two new) same
      (subst (λ (h : CallHead).
      ReadsWith known names tally tally_new (events.Open request.id h ∷ []) end one old
      two new) is reads)

  -- by another end
  pub with-end : (tally tally_new : Tally) (given : List InEvent) (end other : Option Ending)
      (one two : Reading J M book) (old new : Orders A B C J N book route)
      → end ≡ other → ReadsWith known names tally tally_new given end one old two new
      → ReadsWith known names tally tally_new given other one old two new
  with-end tally tally_new given end other one two old new is reads =
      subst (λ (found : Option Ending).
      ReadsWith known names tally tally_new given found one old two new) is reads

  -- by other events
  pub with-events : (tally tally_new : Tally) (given other : List InEvent) (end : Option Ending)
      (one two : Reading J M book) (old new : Orders A B C J N book route)
      → given ≡ other → ReadsWith known names tally tally_new given end one old two new
      → ReadsWith known names tally tally_new other end one old two new
  with-events tally tally_new given other end one two old new is reads =
      subst (λ (es : List InEvent).
      ReadsWith known names tally tally_new es end one old two new) is reads

  -- calls were cut before it
  pub with-behind : (tally tally_new : Tally) (given : List InEvent) (end : Option Ending)
      (one two three : Reading J M book) (old mid new : Orders A B C J N book route)
      → CutsSome known names false one old two mid
      → ReadsWith known names tally tally_new given end two mid three new
      → ReadsWith known names tally tally_new given end one old three new
  with-behind tally tally_new given end one two three old mid new cuts reads = (
    grows-then one two three (grows-home one two cuts.0) reads.0,
    λ sent carried told kept covers.
        let a = cuts.1 sent told kept.reads in
        let b = reads.1 sent carried (a.0 ++ told)
        (record {
          reads = a.1.reads;
          ordered = a.1.ordered kept.ordered;
          justified = cuts-justified a.0 told a.1.silent kept.justified;
          founded =
              cuts-founded names mid.has_stopped a.0 told a.1.silent
              (all-founded names old.has_stopped mid.has_stopped a.1.stops told kept.founded);
          going = going-more a.0 told (a.1.going refl) kept.going;
        })
        (covers-more tally a.0 told covers) in
        let is : events_of (b.0 ++ a.0) ≡ events_of b.0 =
        events-append b.0 a.0 ∙ ap (λ (es : List InEvent). es ++ events_of b.0) a.1.silent in (
          b.0 ++ a.0,
          record {
            front = subst (λ (es : List InEvent). IsPrefix es given) (sym is) b.1.front;
            all = λ none. is ∙ b.1.all none;
            calm = λ none. calm-more b.0 a.0 (b.1.calm none) a.1.calm;
            ended = if-ended end b.0 a.0 b.1.ended;
            kept =
                subst (λ (steps : List Step). KeptFor known names sent steps three new)
                (sym (append_assoc b.0 a.0 told)) b.1.kept;
          },
          subst (λ (steps : List Step). Covers steps tally_new)
              (sym (append_assoc b.0 a.0 told)) b.2,
        ),
  )

  pub with-none : (tally : Tally) (reading : Reading J M book)
      (orders : Orders A B C J N book route)
      → ReadsWith known names tally tally [] None reading orders reading orders
  with-none tally reading orders = (
    grows-home reading reading refl,
    λ sent carried told kept covers. (
      [],
      record { front = ([], refl); all = λ none. refl; calm = λ none. tt; ended = tt; kept = kept },
      covers,
    ),
  )

  -- more events
  pub with-then : (tally tally_new tally_end : Tally) (first more : List InEvent)
      (end : Option Ending) (one two three : Reading J M book)
      (old mid new : Orders A B C J N book route)
      → ReadsWith known names tally tally_new first None one old two mid
      → ReadsWith known names tally_new tally_end more end two mid three new
      → ReadsWith known names tally tally_end (first ++ more) end one old three new
  with-then tally tally_new tally_end first more end one two three old mid new before behind = (
    grows-then one two three before.0 behind.0,
    λ sent carried told kept covers.
        let a = before.1 sent (carried-before sent two three behind.0 carried) told kept covers in
        let b = behind.1 sent carried (a.0 ++ told) a.1.kept a.2 in
        let is : events_of (b.0 ++ a.0) ≡ first ++ events_of b.0 =
        events-append b.0 a.0 ∙ ap (λ (es : List InEvent). es ++ events_of b.0) (a.1.all refl) in (
          b.0 ++ a.0,
          record {
            front = (
              b.1.front.0,
              ap (λ (es : List InEvent). es ++ b.1.front.0) is
                  ∙ (append_assoc first (events_of b.0) b.1.front.0
                  ∙ ap (λ (es : List InEvent). first ++ es) b.1.front.1),
            );
            all = λ none. is ∙ ap (λ (es : List InEvent). first ++ es) (b.1.all none);
            calm = λ none. calm-more b.0 a.0 (b.1.calm none) (a.1.calm refl);
            ended = if-ended end b.0 a.0 b.1.ended;
            kept =
                subst (λ (steps : List Step). KeptFor known names sent steps three new)
                (sym (append_assoc b.0 a.0 told)) b.1.kept;
          },
          subst (λ (steps : List Step). Covers steps tally_end)
              (sym (append_assoc b.0 a.0 told)) b.2,
        ),
  )

  -- an event ended the connection, so those behind it were not heard
  pub with-stop : (tally tally_new : Tally) (given rest : List InEvent) (ending : Ending)
      (end : Option Ending) (one two : Reading J M book) (old new : Orders A B C J N book route)
      → end ≡ Some ending
      → ReadsWith known names tally tally_new given end one old two new
      → ReadsWith known names tally tally_new (given ++ rest) end one old two new
  with-stop tally tally_new given rest ending end one two old new is reads = (
    reads.0,
    λ sent carried told kept covers.
        let a = reads.1 sent carried told kept covers in (
          a.0,
          record {
            front = (
              a.1.front.0 ++ rest,
              sym (append_assoc (events_of a.0) a.1.front.0 rest)
                  ∙ ap (λ (es : List InEvent). es ++ rest) a.1.front.1,
            );
            all = λ none. absurd (not-both end is none);
            calm = λ none. absurd (not-both end is none);
            ended = a.1.ended;
            kept = a.1.kept;
          },
          a.2,
        ),
  )
    where
      not-both : (found : Option Ending) → found ≡ Some ending → found ≡ None → ⊥
      not-both None some none = cc
      not-both (Some e) some none = cc
