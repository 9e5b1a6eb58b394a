use Rattle.std.proofs.Common.{rules, refl}
use Rattle.lane.proofs.KnownItems.{last_again}
use Rattle.lane.proofs.row_lane.RowLaneLane.polled.Goals as goal

pub returns : goal.returns
returns g c =
    let same =
    last_again c.pop.new.self.items c.args.rx.now.got.items c.push_reserved.new.self.items
    c.in_ok-last.last c.again-same.new.self c.again-same.result c.item_at.result.now (search rules)
    (search rules) (search rules) (search rules) (search rules) in
    ((refl, λ _. tt, (refl, same.0, refl, same.1)), record { after = tt })
