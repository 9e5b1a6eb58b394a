use Rattle.std.proofs.Common.{refl}
use Rattle.connection.proofs.HeardActs.{acts-done, awaits-of, reads-of}
use Rattle.connection.proofs.reader.Reader.act.Goals as goal

pub returns-in-Some-clause-acts : goal.returns-in-Some-clause-acts
returns-in-Some-clause-acts g c =
    acts-done c.args.decided c.goaway_of.result c.args.self.now.reading _ c.args.self.now.orders _ _
    c.goaway_of.ensures.order c.goaway_of.ensures.own c.put_some.ensures.puts
    c.put_some-2.ensures.puts
    (λ was. c.put_some-2.ensures.stops (c.put_some.ensures.stops was))
    (λ sent told step decides.
    c.shut.ensures.heard sent told step (awaits-of sent told step c.args.decided c.in-Some.half
    c.args.self.now.reading c.in-Some.is decides))
    c.shut.ensures.home

pub returns-in_default-clause-acts : goal.returns-in_default-clause-acts
returns-in_default-clause-acts g c =
    acts-done c.args.decided c.goaway_of.result c.args.self.now.reading _ c.args.self.now.orders _ _
    c.goaway_of.ensures.order c.goaway_of.ensures.own c.put_some.ensures.puts
    c.put_some-2.ensures.puts
    (λ was. c.put_some-2.ensures.stops (c.put_some.ensures.stops was))
    (λ sent told step decides.
    reads-of sent told step c.args.decided c.args.self.now.reading c.in_default.is decides)
    refl
