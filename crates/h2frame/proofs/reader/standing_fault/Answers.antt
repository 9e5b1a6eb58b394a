use Rattle.std.proofs.Common.{Some, subst, refl, arith}
use Rattle.h2frame.specs.Reading.{IsFront}
use Rattle.h2frame.proofs.Steps.{connection_fault, no_fault-frame, tested}
use Rattle.h2frame.proofs.reader.standing_fault.Goals as goal

pub returns-then-lacks_increment-clause-some : goal.returns-then-lacks_increment-clause-some
returns-then-lacks_increment-clause-some c =
    let at = subst (λ r. IsFront c.args.bytes.now (Some r)) c.in-Ok.is c.in_ok-span.ensures.front in
    let lacks =
    tested c.in-Ok.span c.args.bytes.now c.args.bytes.now c.content_of.result.now _ _ refl
    c.content_of.ensures.value c.lacks_increment.ensures c.if-lacks_increment.true in
    connection_fault c.in-Ok.span c.args.bytes.now at lacks (omega (arith, c.if-span-ne0.false))

pub returns-clause-none : goal.returns-clause-none
returns-clause-none c =
    let at = subst (λ r. IsFront c.args.bytes.now (Some r)) c.in-Ok.is c.in_ok-span.ensures.front in
    let has =
    tested c.in-Ok.span c.args.bytes.now c.args.bytes.now c.content_of.result.now _ _ refl
    c.content_of.ensures.value c.lacks_increment.ensures c.if-lacks_increment.false in
    no_fault-frame c.in-Ok.span c.args.bytes.now at has
