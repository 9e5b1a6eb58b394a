use Rattle.std.proofs.Common.{rules, refl, arith}
use Rattle.lane.proofs.KnownItems.{one_more}
use Rattle.lane.proofs.row_lane.RowLaneLane.poll.Goals as goal

pub returns : goal.returns
returns g c =
    let more =
    one_more c.args.rx.now.got.items c.push_reserved.new.self.items c.again-again.new.self
    c.again-again.result c.item_at.result.now (search rules) (search rules) (search rules) in (
      (refl, λ _. tt, (search rules, (more, λ less. absurd (omega (less, arith))))),
      record { after = tt },
    )
