use Rattle.std.proofs.Common.{inr}
use Rattle.capture.proofs.Records.{no_first, no_parts}
use Rattle.capture.proofs.reading.first_packet.Goals as goal

pub returns-in-None-clause-err : goal.returns-in-None-clause-err
returns-in-None-clause-err c = inr (no_first c.args.bytes.now c.in-None.ensures.none)

pub returns-in-None-parts_of-clause-err : goal.returns-in-None-parts_of-clause-err
returns-in-None-parts_of-clause-err c =
    let parts = c.in-Some.ensures.some in
    inr (no_parts c.args.bytes.now c.in-Some.text.now c.in-Some.behind.now parts.0 parts.1
    c.in-None-parts_of.ensures.none)
