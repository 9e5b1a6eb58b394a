use Rattle.std.proofs.Common.{◌≡◌, ◌<◌, List, [], length, rules, subst, sym}
use Rattle.capture.specs.declared.packet.Packet.{Packet}
use Rattle.capture.proofs.Steps.{IsRead, only_end, only_stuck, read_end, read_init, read_next}
use Rattle.capture.proofs.reading.packets_of.Goals as goal

pub loop-rest-init : goal.loop-rest-init
loop-rest-init c =
    let empty : c.new-packets.result.items ≡ [] = search rules in
    subst (λ (ps : List Packet). IsRead c.args.records.now c.args.records.now ps) (sym empty)
    (read_init c.args.records.now)

pub returns-in-Err-clause-only : goal.returns-in-Err-clause-only
returns-in-Err-clause-only c =
    let some : 0 < length c.loop-rest.rest.now = search rules in
    only_stuck _ _ _ c.in-Err.fault c.loop-rest.invariant some c.in-Err.ensures.err

pub loop-rest-preserved : goal.loop-rest-preserved
loop-rest-preserved c =
    rw c.in_ok-push-in-Ok.ensures.items
    (read_next _ _ _ _ _ c.loop-rest.invariant c.in-Ok.ensures.ok)

pub returns-clause-ok : goal.returns-clause-ok
returns-clause-ok c =
    let none : length c.loop-rest.rest.now ≡ 0 = search rules in
    read_end _ _ _ c.loop-rest.invariant none

pub returns-clause-only : goal.returns-clause-only
returns-clause-only c =
    let none : length c.loop-rest.rest.now ≡ 0 = search rules in
    only_end _ _ _ c.loop-rest.invariant none
