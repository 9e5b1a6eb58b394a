use Rattle.pbwire.specs.Fields.{field_of}
use Rattle.testproto.specs.Values.{contents}
use Rattle.testproto.proofs.Joining.{embedded-last}
use Rattle.testproto.proofs.take.take_message.Goals as goal

pub returns-clause-value : goal.returns-clause-value
returns-clause-value g c before had =
    let message = g.M.Message in
    let number = c.args.number in
    let was = c.or_empty-message.ensures (contents number before) (rw c.take.ensures.value had) in
    let added = c.in_ok-merge.ensures.ok in
    embedded-last message.is_value number before (field_of c.args.item.now) c.in-Some.content.now
    was.0 added.0 c.merge.new.message c.in-Some.ensures was.1 added.1 (added.3 was.0 was.2)
