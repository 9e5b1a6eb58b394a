use Rattle.std.proofs.Common.{◌∙◌}
use Rattle.readerloop.proofs.Collecting.{collected-after, collected-next, collects}
use Rattle.readerloop.proofs.reading.Reading.collect.Goals as goal

pub returns-clause-stays : goal.returns-clause-stays
returns-clause-stays g c =
    collects _ _ (collected-after _ _ _ c.collect_finished.ensures c.collect_senders.ensures)

pub returns-clause-next : goal.returns-clause-next
returns-clause-next g c =
    collected-next _ _ (collected-after _ _ _ c.collect_finished.ensures c.collect_senders.ensures)

pub returns-clause-draining : goal.returns-clause-draining
returns-clause-draining g c =
    let first = c.collect_finished.ensures in
    let then = c.collect_senders.ensures in
    then.draining ∙ first.draining

pub returns-clause-name : goal.returns-clause-name
returns-clause-name g c =
    let first = c.collect_finished.ensures in
    let then = c.collect_senders.ensures in
    then.name ∙ first.name
