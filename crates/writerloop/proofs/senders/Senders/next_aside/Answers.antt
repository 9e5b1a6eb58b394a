use Rattle.std.proofs.Common.{◌≡◌, ◌∙◌, [], Some, ap, refl, subst, sym}
use Rattle.writerloop.specs.Orders.{order_in}
use Rattle.writerloop.specs.Sent.{opens}
use Rattle.writerloop.proofs.RestSteps.{hands-aside}
use Rattle.writerloop.proofs.SentSteps.{opens-none}
use Rattle.writerloop.proofs.WrittenSteps.{as-plain}
use Rattle.writerloop.proofs.senders.Senders.next_aside.Goals as goal

pub returns-in-Ok-clause-none : goal.returns-in-Ok-clause-none
returns-in-Ok-clause-none g c =
    let is : c.args.self.now.aside ≡ Some c.in_ok-order.order = cc in
    subst (λ aside. opens (order_in aside) ≡ []) (sym is) (opens-none c.in_ok-order.order
    (as-plain c.in_ok-order.order c.in-Ok._plain (sym c.in-Ok.ensures.same) c.in-Ok.ensures.plain))
