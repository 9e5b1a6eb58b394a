use Rattle.std.proofs.Common.{Option, None}
use Rattle.writerloop.proofs.RestSteps.{none-from, some-from}
use Rattle.writerloop.proofs.senders.Senders.next.Goals as goal

pub returns-in-None-clause-some : goal.returns-in-None-clause-some
returns-in-None-clause-some g c =
    some-from c.next_in_core.result c.args.self.now c.next_aside.new.self c.next_in_core.new.self
    c.in-None.ensures.none c.next_aside.ensures.aside c.next_aside.ensures.sends
    c.next_aside.ensures.core c.next_in_core.ensures.some

pub returns-in-None-clause-none : goal.returns-in-None-clause-none
returns-in-None-clause-none g c =
    none-from c.next_in_core.result c.args.self.now c.next_aside.new.self c.in-None.ensures.none
    c.next_aside.ensures.aside c.next_aside.ensures.sends c.next_aside.ensures.core
    c.next_in_core.ensures.none
