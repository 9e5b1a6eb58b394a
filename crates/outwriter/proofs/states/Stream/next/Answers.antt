use Rattle.outwriter.specs.Polls.{coming}
use Rattle.outwriter.proofs.LookSteps.{next-hand}
use Rattle.outwriter.proofs.states.Stream.next.Goals as goal

pub returns-in-Message-clause-next : goal.returns-in-Message-clause-next
returns-in-Message-clause-next g c =
    next-hand g.L.Lane.got (coming g.L.Lane.got g.L.Lane.ahead) c.args.id c.args.self.now
    c.args.window.now c.args.senders.now.items c.args.encoder.now c.look.new.self c.look.new.window
    c.in_ok-look.field-0 c.in-Message.looked c.look.ensures.state
    c.in_ok-look.ensures.looks c.in-Message.is
