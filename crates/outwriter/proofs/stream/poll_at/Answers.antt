use Rattle.outwriter.specs.Polls.{coming}
use Rattle.outwriter.proofs.ServeStepsTake.{polled-at, ahead-elsewhere, lanes-same}
use Rattle.outwriter.proofs.stream.poll_at.Goals as goal

pub returns-in-Some-clause-takes : goal.returns-in-Some-clause-takes
returns-in-Some-clause-takes g c =
    polled-at g.L.Lane.got (coming g.L.Lane.got g.L.Lane.ahead) c.args.senders.now.items
    c.args.place c.in-Some.call.now c.poll.new.sender _ _ c.poll.result
    c.in-Some.ensures.item.3.0 c.in-Some.ensures.value c.poll.ensures.ok c.poll.ensures.memory

pub returns-in-Some-clause-ahead : goal.returns-in-Some-clause-ahead
returns-in-Some-clause-ahead g c = λ k ne.
    ahead-elsewhere (coming g.L.Lane.got g.L.Lane.ahead) c.args.senders.now.items c.args.place
    (c.in-Some.call.now.0, c.poll.new.sender) k ne

pub returns-in-Some-clause-senders : goal.returns-in-Some-clause-senders
returns-in-Some-clause-senders g c =
    lanes-same g.L.Lane.out_name c.args.senders.now.items c.args.place c.in-Some.call.now
    c.poll.new.sender c.in-Some.ensures.value c.poll.ensures.id
    c.poll.ensures.name
