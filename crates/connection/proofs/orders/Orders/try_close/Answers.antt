use Rattle.std.proofs.Common.{◌∙◌, [], ◌∷◌, ◌++◌, ap}
use Rattle.outwriter.specs.declared.control.WriterOrder.TheVariants.{Close}
use Rattle.connection.proofs.orders.Orders.try_close.Goals as goal

pub returns-clause-put : goal.returns-clause-put
returns-clause-put g c = λ is.
    c.put_last-is_put.ensures.put is ∙ ap (λ put. put ++ Close ∷ []) c.put_backlog.ensures.put

pub returns-clause-full : goal.returns-clause-full
returns-clause-full g c = λ is. c.put_last-is_put.ensures.full is ∙ c.put_backlog.ensures.put
