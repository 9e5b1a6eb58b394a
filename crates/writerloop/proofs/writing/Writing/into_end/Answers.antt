use Rattle.std.proofs.Common.{ℕ, List, Option, ap, refl, subst}
use Rattle.lane.specs.RingLane.{got}
use Rattle.outwriter.specs.Calls.{TellFronts}
use Rattle.outwriter.specs.Cores.{calls}
use Rattle.callparts.specs.Lanes.{OutSender}
use Rattle.writerloop.specs.Endings.{ending_told}
use Rattle.writerloop.specs.Written.{LedOut}
use Rattle.writerloop.proofs.EndSteps.{has-sent, has-written}
use Rattle.writerloop.proofs.writing.Writing.into_end.Goals as goal

pub returns : goal.returns
returns g c =
    let same = ap (λ senders. senders.items) c.into_parts-core.ensures.senders in
    let told = ending_told c.ending-ending.result in
    let written =
    λ (before : Option (List ℕ)) (credit : ℕ)
    (led : LedOut g.W.ConnWrite.contents g.W.ConnWrite.failed before credit c.args.self).
    has-written g.W.ConnWrite.contents g.W.ConnWrite.failed before credit c.args.self
    c.into_parts-core.result.1 told c.into_parts-core.ensures.device c.requires.flushed led
    (c.into_parts-core.ensures.others before led.2.0 led.2.1)
    (c.into_parts-core.ensures.prefix before led.2.0 led.2.1)
    (λ sound empty. c.into_parts-core.ensures.all sound empty before led.2.0 led.2.1)
    c.ending-ending.ensures.broken c.ending-ending.ensures.each c.ending-ending.ensures.going in
    record {
      sent = λ before credit led.
          has-sent g.W.ConnWrite.contents g.W.ConnWrite.failed before credit c.args.self _
          c.into_parts-core.result.1 told led (written before credit led).0
          (written before credit led).1
          refl refl same (subst
          (λ (core : List (ℕ × OutSender)). TellFronts led.2.0 (calls got core)) same
          (c.into_parts-core.ensures.fronts before led.2.0 led.2.1))
          (c.into_parts-core.ensures.returned before led.2.0 led.2.1)
          c.ending-ending.ensures.going c.ending-ending.ensures.blames
          c.ending-ending.ensures.unblamed;
      ring = refl;
      way = refl;
    }
