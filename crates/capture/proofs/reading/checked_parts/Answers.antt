use Rattle.std.proofs.Common.{rules}
use Rattle.capture.specs.Format.{IsChecked}
use Rattle.capture.proofs.Records.{carries, no_segment, wrong_sum}
use Rattle.capture.proofs.reading.checked_parts.Goals as goal

pub returns-then-not-is_checked-clause-none : goal.returns-then-not-is_checked-clause-none
returns-then-not-is_checked-clause-none c =
    let hosts = c.args.hosts in
    let segment = c.args.segment.now in
    let wrong : IsChecked hosts segment → ⊥ = search rules in
    wrong_sum c.args.packet.now hosts segment c.requires.is wrong

pub returns-in-None-clause-none : goal.returns-in-None-clause-none
returns-in-None-clause-none c =
    no_segment c.args.packet.now c.args.hosts c.args.segment.now c.requires.is
    c.in-None.ensures.none

pub returns-in-Some-clause-some : goal.returns-in-Some-clause-some
returns-in-Some-clause-some c =
    let hosts = c.args.hosts in
    let segment = c.args.segment.now in
    let right : IsChecked hosts segment = search rules in
    carries c.args.packet.now hosts segment c.in-Some.head c.in-Some.payload.now c.requires.is right
    c.in-Some.ensures.some c.in-Some.ensures.hosts
