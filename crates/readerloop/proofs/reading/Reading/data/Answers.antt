use Rattle.readerloop.specs.Calls.{carried_in}
use Rattle.std.proofs.Common.{◌∙◌, ℕ, subst, sym}
use Rattle.connbook.specs.declared.answers.Receipt.{Receipt}
use Rattle.connbook.specs.declared.answers.Receipt.TheVariants.{Discard, Feed}
use Rattle.session.specs.declared.event.InEvent.TheVariants as events
use Rattle.readerloop.specs.Readings.{Decides, MayMiss, fate_of}
use Rattle.readerloop.specs.Steps.{Told}
use Rattle.readerloop.proofs.reading.Reading.data.Goals as goal

pub returns-in-Feed-clause-decides : goal.returns-in-Feed-clause-decides
returns-in-Feed-clause-decides g c = λ sent told reads.
    subst (λ (receipt : Receipt).
    Decides g.M.Answering.known g.M.Answering.names (carried_in sent) told (Told
    (events.Data c.args.counted.id c.args.piece c.args.counted.flow)
    (fate_of receipt c.feed.result.order c.feed.result.ends)) c.feed.result c.feed.new.self)
    (sym (sym c.receipt.ensures ∙ c.in-Feed.is))
    (subst (λ (id : ℕ).
    Decides g.M.Answering.known g.M.Answering.names (carried_in sent) told (Told
    (events.Data id c.args.piece c.args.counted.flow)
    (fate_of Feed c.feed.result.order c.feed.result.ends)) c.feed.result c.feed.new.self)
    c.id-id.ensures (c.feed.ensures.decides c.args.counted.flow sent told reads))

pub returns-in-Discard-clause-decides : goal.returns-in-Discard-clause-decides
returns-in-Discard-clause-decides g c = λ sent told reads.
    subst (λ (receipt : Receipt).
    Decides g.M.Answering.known g.M.Answering.names (carried_in sent) told (Told
    (events.Data c.args.counted.id c.args.piece c.args.counted.flow)
    (fate_of receipt c.miss.result.order c.miss.result.ends)) c.miss.result c.miss.new.self)
    (sym (sym c.receipt.ensures ∙ c.in-Discard.is))
    (subst (λ (id : ℕ).
    Decides g.M.Answering.known g.M.Answering.names (carried_in sent) told (Told
    (events.Data id c.args.piece c.args.counted.flow)
    (fate_of Discard c.miss.result.order c.miss.result.ends)) c.miss.result c.miss.new.self)
    c.id-id.ensures (c.miss.ensures.decides c.args.counted.flow sent told reads))

pub returns-in-Feed-clause-missed : goal.returns-in-Feed-clause-missed
returns-in-Feed-clause-missed g c = λ sent told reads.
    subst (λ (receipt : Receipt).
    MayMiss c.args.counted.id c.args.piece
    (fate_of receipt c.feed.result.order c.feed.result.ends) told)
    (sym (sym c.receipt.ensures ∙ c.in-Feed.is))
    (subst (λ (id : ℕ).
    MayMiss id c.args.piece (fate_of Feed c.feed.result.order c.feed.result.ends) told)
    c.id-id.ensures (c.feed.ensures.missed sent told reads))

pub returns-in-Discard-clause-missed : goal.returns-in-Discard-clause-missed
returns-in-Discard-clause-missed g c = λ sent told reads.
    subst (λ (receipt : Receipt).
    MayMiss c.args.counted.id c.args.piece
    (fate_of receipt c.miss.result.order c.miss.result.ends) told)
    (sym (sym c.receipt.ensures ∙ c.in-Discard.is)) tt

pub returns-in-CallWindow-clause-missed : goal.returns-in-CallWindow-clause-missed
returns-in-CallWindow-clause-missed g c = λ sent told reads.
    subst (λ (receipt : Receipt).
    MayMiss c.args.counted.id c.args.piece
    (fate_of receipt c.reset.result.order c.reset.result.ends) told)
    (sym (sym c.receipt.ensures ∙ c.in-CallWindow.is)) tt

pub returns-in-Overrun-clause-missed : goal.returns-in-Overrun-clause-missed
returns-in-Overrun-clause-missed g c = λ sent told reads.
    subst (λ (receipt : Receipt).
    MayMiss c.args.counted.id c.args.piece
    (fate_of receipt c.fatal.result.order c.fatal.result.ends) told)
    (sym (sym c.receipt.ensures ∙ c.in-Overrun.is)) tt
