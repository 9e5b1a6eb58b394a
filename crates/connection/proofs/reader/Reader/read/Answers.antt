use Rattle.std.proofs.Common.{
  ◌≡◌,
  ◌∙◌,
  ◌≤◌,
  inl,
  inr,
  ℕ,
  List,
  [],
  ◌∷◌,
  ◌++◌,
  Err,
  ap,
  append-nil,
  arith,
  length,
  refl,
  sym,
  true,
  true≢false,
}
use Rattle.callparts.specs.declared.report.Ending.TheVariants.{Drained, OutOfMemory, ReadFailed}
use Rattle.session.specs.declared.event.InEvent.{InEvent}
use Rattle.readerloop.specs.Steps.{Lacks, Step, events_of}
use Rattle.readerloop.proofs.LetGo.{events-append}
use Rattle.readerloop.proofs.Resets.{calm-more}
use Rattle.connection.specs.Heard.{IsOfInput}
use Rattle.connection.proofs.Backlog.{nil-of}
use Rattle.connection.proofs.Tallies.{covers-more}
use Rattle.connection.proofs.Heard.{
  consumes-keeps,
  consumes-none,
  consumes-then,
  input-out,
  not-by-fault,
  not-drained,
}
use Rattle.connection.proofs.HeardActs.{
  carried-before,
  grows-home,
  grows-then,
  kept-stopped,
  with-end,
}
use Rattle.connection.proofs.HeardBytes.{
  failed-read,
  input-read,
  kept-behind,
  kept-collected,
  none-read,
  some-harsh,
  some-read,
  some-sound,
  some-undrained,
}
use Rattle.connection.proofs.reader.Reader.read.Goals as goal

-- behind what was told before come these events
all-told : (told more : List Step) (before given : List InEvent) → events_of told ≡ before
    → events_of more ≡ given → events_of (more ++ told) ≡ before ++ given
all-told told more before given is all =
    events-append more told
    ∙ (ap (λ (es : List InEvent). es ++ events_of more) is
    ∙ ap (λ (es : List InEvent). before ++ es) all)

not-of-read : IsOfInput ReadFailed → ⊥
not-of-read (inl is) = cc
not-of-read (inr is) = cc

not-drained-read : ¬ (ReadFailed ≡ Drained)
not-drained-read drained = cc

none-above : (n : ℕ) → n ≡ 0 → n ≤ 0
none-above n none = omega (arith, none)

-- no bytes came
none-came : (bytes came : List ℕ) → length came ≡ 0 → bytes ++ came ≡ bytes
none-came bytes came none =
    ap (λ (more : List ℕ). bytes ++ more) (nil-of came none) ∙ append-nil bytes

pub pieces-init : goal.pieces-init
pieces-init g c = (
  grows-home _ _ refl,
  λ sent carried none. (
    [],
    [],
    [],
    consumes-none _,
    c.new-core.ensures,
    refl,
    tt,
    none,
    record {
      calls = none-above _ c.requires.uncounted.0;
      came = none-above _ c.requires.uncounted.1;
    },
  ),
)

pub returns-in-Err-Device-clause-read : goal.returns-in-Err-Device-clause-read
returns-in-Err-Device-clause-read g c = λ sent carried none.
    let h = c.pieces.invariant.1 sent carried none in (
      h.0,
      consumes-keeps _ _ _ h.0 h.3
          (c.in-Err-Device.ensures.kept (ap Err c.in-Err-Device.field-0-is)),
      record {
        told = h.2;
        read = failed-read sent h.1 h.2 h.0 h.0 _ _ _ refl h.4 h.5 h.6 h.7;
        covered = h.8;
        failed = λ failed. c.in-Err-Device.ensures.marked (ap Err c.in-Err-Device.field-0-is);
        over = λ input going. absurd (not-of-read input);
        drained = λ drained going. absurd (not-drained-read drained);
      },
    )

pub returns-in-Err-Device-clause-grows : goal.returns-in-Err-Device-clause-grows
returns-in-Err-Device-clause-grows g c = c.pieces.invariant.0

not-unread : ¬ (OutOfMemory ≡ ReadFailed)
not-unread failed = cc

not-drained-lack : ¬ (OutOfMemory ≡ Drained)
not-drained-lack drained = cc

pub returns-in-Err-OutOfMemory-clause-read : goal.returns-in-Err-OutOfMemory-clause-read
returns-in-Err-OutOfMemory-clause-read g c = λ sent carried none.
    let before =
    carried-before sent c.pieces.self.reading c.lack.new.self.reading
    (grows-home c.pieces.self.reading c.lack.new.self.reading c.lack.ensures.home) carried in
    let h = c.pieces.invariant.1 sent before none in
    let some = c.in-Err-OutOfMemory.ensures.prefix in (
      h.0 ++ some.0,
      consumes-then _ _ _ h.0 some.0 h.3 some.1,
      record {
        told = Lacks ∷ h.2;
        read = none-read sent h.1 h.2 h.0 some.0 _ _ _ h.4 h.5 (c.lack.ensures.kept sent h.2 h.7);
        covered = covers-more _ (Lacks ∷ []) h.2 h.8;
        failed = λ failed. absurd (not-unread failed);
        over = λ input going. absurd (true≢false (sym (input-out OutOfMemory input)));
        drained = λ drained going. absurd (not-drained-lack drained);
      },
    )

pub returns-in-Err-OutOfMemory-clause-grows : goal.returns-in-Err-OutOfMemory-clause-grows
returns-in-Err-OutOfMemory-clause-grows g c =
    grows-then _ _ _ c.pieces.invariant.0 (grows-home _ _ c.lack.ensures.home)

pub returns-then-has_stopped-clause-read : goal.returns-then-has_stopped-clause-read
returns-then-has_stopped-clause-read g c = λ sent carried none.
    let h = c.pieces.invariant.1 sent carried none in
    let kept =
    kept-stopped sent h.2 c.pieces.self.reading c.pieces.self.orders
    (record c.pieces.self.orders { has_stopped = true }) refl refl refl refl refl h.7 in
    let ending = c.ending.ensures in (
      h.0,
      h.3,
      record {
        told = h.2;
        read =
            input-read sent _ h.1 h.2 h.0 h.0 _ _ _ refl h.4 h.5 h.6 kept ending.input ending.goaway
            ending.drained ending.draining;
        covered = h.8;
        failed = λ failed. absurd (not-by-fault _ ending.input failed);
        over = λ input going. absurd (true≢false going);
        drained = λ drained going. absurd (true≢false going);
      },
    )

pub returns-then-has_stopped-clause-grows : goal.returns-then-has_stopped-clause-grows
returns-then-has_stopped-clause-grows g c = c.pieces.invariant.0

pub returns-then-count-eq0-clause-read : goal.returns-then-count-eq0-clause-read
returns-then-count-eq0-clause-read g c = λ sent carried none.
    let h =
    c.pieces.invariant.1 sent (carried-before sent c.pieces.self.reading
    c.heed_drain.new.self.reading (grows-home c.pieces.self.reading
    c.heed_drain.new.self.reading c.heed_drain.ensures.cuts.0) carried) none in
    let came = c.in-Ok.ensures.events in
    let b = kept-behind sent _ h.2 _ _ _ _ c.heed_drain.ensures.cuts h.7 h.8 h.6 in
    let ending = c.ending-then-count-eq0.ensures in (
      h.0 ++ came.0,
      consumes-then _ _ _ h.0 came.0 h.3 came.2,
      record {
        told = b.0 ++ h.2;
        read =
            input-read sent _ h.1 (b.0 ++ h.2) h.0 (h.0 ++ came.0) _ _ _
            (none-came h.0 came.0 (came.1 ∙ c.if-count-eq0.true)) h.4 (b.1 ∙ h.5) b.2 b.3
            ending.input ending.goaway ending.drained ending.draining;
        covered = b.4;
        failed = λ failed. absurd (not-by-fault _ ending.input failed);
        over = λ input going. c.in-Ok.ensures.end c.if-count-eq0.true;
        drained = λ drained going. inl (c.in-Ok.ensures.end c.if-count-eq0.true);
      },
    )

pub returns-then-count-eq0-clause-grows : goal.returns-then-count-eq0-clause-grows
returns-then-count-eq0-clause-grows g c =
    grows-then _ _ _ c.pieces.invariant.0 (grows-home _ _ c.heed_drain.ensures.cuts.0)

pub returns-then-heed_drain-clause-read : goal.returns-then-heed_drain-clause-read
returns-then-heed_drain-clause-read g c = λ sent carried none.
    let behind =
    carried-before sent c.take.new.self.reading c.heed_drain-in-pieces.new.self.reading (grows-home
    c.take.new.self.reading c.heed_drain-in-pieces.new.self.reading
    c.heed_drain-in-pieces.ensures.cuts.0) carried in
    let before = carried-before sent _ _ c.take.ensures.reads.0 behind in
    let h =
    c.pieces.invariant.1 sent
    (carried-before sent _ _ c.collect.ensures.collects.grows before) none in
    let kept =
    kept-collected sent h.2 _ _ _ _ c.collect.ensures.collects before
    c.collect.ensures.orders h.7 in
    let came = c.in-Ok.ensures.events in
    let more = c.take.ensures.reads.1 sent behind h.2 kept h.8 in
    let b =
    kept-behind sent _ (more.0 ++ h.2) _ _ _ _ c.heed_drain-in-pieces.ensures.cuts more.1.kept
    more.2 (calm-more more.0 h.2 (more.1.calm c.in_default.is) h.6) in
    let ending = c.ending-then-heed_drain.ensures in (
      h.0 ++ came.0,
      consumes-then _ _ _ h.0 came.0 h.3 came.2,
      record {
        told = b.0 ++ (more.0 ++ h.2);
        read =
            input-read sent _ (h.1 ++ _) (b.0 ++ (more.0 ++ h.2)) (h.0 ++ came.0) (h.0 ++ came.0)
            _ _ _ refl (came.3 h.0 h.1 h.4)
            (b.1 ∙ all-told h.2 more.0 h.1 _ h.5 (more.1.all c.in_default.is)) b.2 b.3 ending.input
            ending.goaway ending.drained ending.draining;
        covered = b.4;
        failed = λ failed. absurd (not-by-fault _ ending.input failed);
        over = λ input going.
            absurd (not-drained _ (ending.draining
            (c.heed_drain-in-pieces.ensures.draining c.if-heed_drain.true)) input);
        drained = λ drained going. inr (c.heed_drain-in-pieces.ensures.word c.if-heed_drain.true);
      },
    )

pub returns-then-heed_drain-clause-grows : goal.returns-then-heed_drain-clause-grows
returns-then-heed_drain-clause-grows g c =
    grows-then _ _ _ (grows-then _ _ _
    (grows-then _ _ _ c.pieces.invariant.0 c.collect.ensures.collects.grows) c.take.ensures.reads.0)
    (grows-home _ _ c.heed_drain-in-pieces.ensures.cuts.0)

pub pieces-preserved : goal.pieces-preserved
pieces-preserved g c = (
  grows-then _ _ _ (grows-then _ _ _
      (grows-then _ _ _ c.pieces.invariant.0 c.collect.ensures.collects.grows)
      c.take.ensures.reads.0) (grows-home _ _ c.heed_drain-in-pieces.ensures.cuts.0),
  λ sent carried none.
      let behind =
      carried-before sent c.take.new.self.reading c.heed_drain-in-pieces.new.self.reading
      (grows-home c.take.new.self.reading c.heed_drain-in-pieces.new.self.reading
      c.heed_drain-in-pieces.ensures.cuts.0) carried in
      let before = carried-before sent _ _ c.take.ensures.reads.0 behind in
      let h =
      c.pieces.invariant.1 sent
      (carried-before sent _ _ c.collect.ensures.collects.grows before) none in
      let kept =
      kept-collected sent h.2 _ _ _ _ c.collect.ensures.collects before
      c.collect.ensures.orders h.7 in
      let came = c.in-Ok.ensures.events in
      let more = c.take.ensures.reads.1 sent behind h.2 kept h.8 in
      let b =
      kept-behind sent _ (more.0 ++ h.2) _ _ _ _ c.heed_drain-in-pieces.ensures.cuts more.1.kept
      more.2 (calm-more more.0 h.2 (more.1.calm c.in_default.is) h.6) in (
        h.0 ++ came.0,
        _,
        b.0 ++ (more.0 ++ h.2),
        consumes-then _ _ _ h.0 came.0 h.3 came.2,
        came.3 h.0 h.1 h.4,
        b.1 ∙ all-told h.2 more.0 h.1 _ h.5 (more.1.all c.in_default.is),
        b.2,
        b.3,
        b.4,
      ),
)

pub returns-in-Some-take-clause-read : goal.returns-in-Some-take-clause-read
returns-in-Some-take-clause-read g c = λ sent carried none.
    let before = carried-before sent _ _ c.take.ensures.reads.0 carried in
    let h =
    c.pieces.invariant.1 sent
    (carried-before sent _ _ c.collect.ensures.collects.grows before) none in
    let kept =
    kept-collected sent h.2 _ _ _ _ c.collect.ensures.collects before
    c.collect.ensures.orders h.7 in
    let came = c.in-Ok.ensures.events in
    let ended = with-end _ _ _ _ _ _ _ _ _ c.in-Some-take.is c.take.ensures.reads in
    let all =
    some-read sent _ _ c.in-Some-take.ending _ h.1 h.2 _ _ _ _ _ _ carried (came.3 h.0 h.1 h.4)
    h.5 ended kept h.8 in (
      h.0 ++ came.0,
      consumes-then _ _ _ h.0 came.0 h.3 came.2,
      record {
        told = all.0;
        read = all.1;
        covered = all.2;
        failed = λ failed.
            absurd (some-sound sent _ _ c.in-Some-take.ending _ h.2 _ _ _ _ carried ended kept h.8
            failed);
        over = λ input going.
            absurd (some-harsh sent _ _ c.in-Some-take.ending _ h.2 _ _ _ _ carried ended kept h.8
            input);
        drained = λ drained going.
            absurd (some-undrained sent _ _ c.in-Some-take.ending _ h.2 _ _ _ _ carried ended kept
            h.8 drained);
      },
    )

pub returns-in-Some-take-clause-grows : goal.returns-in-Some-take-clause-grows
returns-in-Some-take-clause-grows g c =
    grows-then _ _ _ (grows-then _ _ _ c.pieces.invariant.0 c.collect.ensures.collects.grows)
    c.take.ensures.reads.0
