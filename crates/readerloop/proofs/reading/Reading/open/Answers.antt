use Rattle.std.proofs.Common.{◌∙◌, Bool, refl, subst, sym}
use Rattle.session.specs.declared.event.InEvent.TheVariants as events
use Rattle.connbook.specs.declared.answers.AdmitFault.TheVariants.{Draining}
use Rattle.readerloop.specs.Readings.{DecidesOn, refused_by, unless_ended}
use Rattle.readerloop.specs.Steps.{Told, TurnedAway}
use Rattle.readerloop.proofs.KeptCalls.{kept-same}
use Rattle.readerloop.proofs.ReadingSteps.{calm-as, lacks-as, reads-same}
use Rattle.readerloop.proofs.reading.Reading.open.Goals as goal

pub returns-then-id-self-clause-refused : goal.returns-then-id-self-clause-refused
returns-then-id-self-clause-refused g c =
    lacks-as (events.Open c.args.id c.args.head) (refused_by c.args.self.now.is_draining) _ _ _ _
    c.lack.ensures.memory (c.lack.ensures.lacking c.args.head)

pub returns-then-self-clause-refused : goal.returns-then-self-clause-refused
returns-then-self-clause-refused g c =
    subst (λ (b : Bool).
    DecidesOn g.M.Answering.known g.M.Answering.names
    (Told (events.Open c.args.id c.args.head) (unless_ended c.decline.result.ends (refused_by b)))
    c.decline.result c.args.self.now c.decline.new.self)
    (sym c.if-self.true) (calm-as (events.Open c.args.id c.args.head) (TurnedAway Draining) _ _ _
    refl (c.decline.ensures.decides c.args.head))

pub returns-in_default-clause-refused : goal.returns-in_default-clause-refused
returns-in_default-clause-refused g c =
    subst (λ (b : Bool).
    DecidesOn g.M.Answering.known g.M.Answering.names (Told (events.Open c.args.id c.args.head)
    (unless_ended c.refuse_unknown.result.ends (refused_by b))) c.refuse_unknown.result
    c.args.self.now c.refuse_unknown.new.self)
    (sym c.if-self.false) (c.refuse_unknown.ensures.decides c.args.head)

pub returns-in-Err-clause-refused : goal.returns-in-Err-clause-refused
returns-in-Err-clause-refused g c =
    lacks-as (events.Open c.args.id c.args.head) (refused_by c.args.self.now.is_draining) _ _ _ _
    c.lack-in-Err.ensures.memory (λ sent told reads.
    c.lack-in-Err.ensures.lacking c.args.head sent told
    (reads-same told c.args.self.now _ refl refl refl refl
    (λ kept.
    kept-same told c.args.self.now.calls c.reserve_account.new.self c.reserve_account.ensures.calls
    c.reserve_account.ensures.accounts c.reserve_account.ensures.last kept) reads))

pub returns-clause-stays : goal.returns-clause-stays
returns-clause-stays g c = λ sent told reads.
    reads-same told c.args.self.now _ refl refl refl refl
    (λ kept.
    kept-same told c.args.self.now.calls c.reserve_account.new.self c.reserve_account.ensures.calls
    c.reserve_account.ensures.accounts c.reserve_account.ensures.last kept) reads

pub returns-then-id-self-clause-unnamed : goal.returns-then-id-self-clause-unnamed
returns-then-id-self-clause-unnamed g c = λ none going.
    let wrong = sym c.lack.ensures.memory ∙ none in
    absurd cc

pub returns-in-Err-clause-unnamed : goal.returns-in-Err-clause-unnamed
returns-in-Err-clause-unnamed g c = λ none going.
    let wrong = sym c.lack-in-Err.ensures.memory ∙ none in
    absurd cc
