use Rattle.std.proofs.Common.{◌∙◌, eqb-true, sym}
use Rattle.connection.proofs.Backlog.{nil-of, un-not}
use Rattle.connection.proofs.orders.Orders.has_backlog.Goals as goal

pub returns : goal.returns
returns g c = record {
  none = λ is.
      nil-of c.args.self.now.backlog.items (sym c.args.self.now.backlog.ok.0
      ∙ eqb-true _ _ (sym c.is_empty.ensures ∙ un-not c.is_empty.result is));
}
