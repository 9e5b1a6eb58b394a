use Rattle.std.proofs.Common.{sym}
use Rattle.outwriter.proofs.StateChanges.{changed-there}
use Rattle.outwriter.proofs.states.entries.change_of.Goals as goal

pub returns-in-Some-clause-changes : goal.returns-in-Some-clause-changes
returns-in-Some-clause-changes c =
    changed-there c.args.streams.now.entries c.args.id c.args.change c.args.opened
    c.in-Some.stream.now c.change.new.self
    (c.get_mut.follows.lender c.change.new.self).entries (sym c.in-Some.ensures.value)
    (c.get_mut.follows.holds c.change.new.self).0
    (c.change.ensures.opened, c.change.ensures.state, c.change.ensures.balance)
