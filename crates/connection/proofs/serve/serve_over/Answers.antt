use Rattle.std.proofs.Common.{ℕ, List, [], Option, subst}
use Rattle.callparts.specs.Blocks.{items_of}
use Rattle.connection.proofs.Heard.{consumes-none}
use Rattle.connection.specs.Served.{IsServed}
use Rattle.connection.proofs.serve.serve_over.Goals as goal

pub end-requires-clause-heard : goal.end-requires-clause-heard
end-requires-clause-heard g c = λ κs within sent carried.
    let read = c.read-read.ensures.read sent carried (c.in-Ok.ensures.begun.kept sent) in
    (read.2.told, read.2.read.reads, read.2.read.ordered)

pub returns : goal.returns
returns g c =
    let is = c.end.ensures.served in
    let read = c.read-read.ensures.read is.0 is.1 (c.in-Ok.ensures.begun.kept is.0) in
    let served =
    is.2 read.0 (g.I.ConnRead.remaining c.read-read.new.input) _ read.2 in
    record {
      served = (
        read.0,
        read.1,
        subst (λ (before : Option (List ℕ)).
            IsServed (λ calls. items_of calls.full calls.last) g.O.ConnWrite.contents
            g.O.ConnWrite.failed g.M.Answering.known g.M.Answering.names read.0
            (g.I.ConnRead.remaining c.read-read.new.input) before
            (g.I.ConnRead.failed c.read-read.new.input) c.end.result.report.ending
            c.end.result.report.calls
            c.end.result.output)
            c.in-Ok.ensures.begun.device served.0,
      );
    }

pub returns-in-Err : goal.returns-in-Err
returns-in-Err g c = record { served = ([], consumes-none _, c.in-Err.ensures.served _ _) }
