use Rattle.std.proofs.Common.{sym}
use Rattle.outwriter.specs.Polls.{coming}
use Rattle.outwriter.proofs.StateWindows.{entry-next}
use Rattle.outwriter.proofs.states.entries.next_at.Goals as goal

pub returns-in-Some-clause-next : goal.returns-in-Some-clause-next
returns-in-Some-clause-next g c =
    entry-next g.L.Lane.got (coming g.L.Lane.got g.L.Lane.ahead) c.next.result
    c.args.streams.now.entries c.args.id c.in-Some.stream.now c.next.new.self
    (c.get_mut.follows.lender c.next.new.self).entries c.args.window.now c.next.new.window
    c.args.senders.now.items c.next.new.senders.items c.args.encoder.now c.next.new.encoder
    (sym c.in-Some.ensures.value) (c.get_mut.follows.holds c.next.new.self).0 c.next.ensures.next
