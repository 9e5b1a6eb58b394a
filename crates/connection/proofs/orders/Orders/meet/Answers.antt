use Rattle.std.proofs.Common.{◌∙◌, ◌++◌, ap, append-nil, sym}
use Rattle.lane.specs.Ring.{ahead, put_in}
use Rattle.connection.proofs.orders.Orders.meet.Goals as goal

pub returns : goal.returns
returns g c =
    let put = put_in c.args.self.outbox.tx in
    record {
      first = (
        ahead c.meet-left.new.rx,
        ap (λ took. took ++ ahead c.meet-left.new.rx) (sym c.meet-left.ensures.reader.1)
            ∙ (c.meet-left.ensures.all
            ∙ (c.meet-left.ensures.writer.1
            ∙ (sym (append-nil put) ∙ ap (λ back. put ++ back) (sym c.requires.none_left)))),
      );
    }
