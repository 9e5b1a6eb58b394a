use Rattle.std.proofs.Common.{◌++◌, ap, refl}
use Rattle.connection.proofs.Backlog.{alone}
use Rattle.connection.proofs.orders.Orders.put_last.Goals as goal

pub returns-in-Ok-clause-put : goal.returns-in-Ok-clause-put
returns-in-Ok-clause-put g c = λ is.
    alone _ _ c.in-Ok.ensures.ok refl (c.has_backlog.ensures.none c.if-has_backlog.false)

pub returns-in-Err-clause-full : goal.returns-in-Err-clause-full
returns-in-Err-clause-full g c = λ is.
    ap (λ put. put ++ c.args.self.now.backlog.items) c.in-Err.ensures.unchanged
