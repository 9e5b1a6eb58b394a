use Rattle.std.proofs.Common.{false, rules}
use mathlib.Core.List.{IsPrefix}
use Rattle.lane.proofs.Prefixes.{IsPrefix-take, IsPrefix-trans, lawful_at}
use Rattle.lane.specs.Lawful.{IsLawful}
use Rattle.lane.proofs.uses.two_threads.relay.Goals as goal

pub returns-clause-lawful : goal.returns-clause-lawful
returns-clause-lawful g c =
    let put = g.L.Lane.put_in c.join-tx.result.0.0 in
    let taken = c.join-tx.result.1.1.items in
    let items = c.args.items.now in
    let begins : IsPrefix put items = IsPrefix-take put items c.join-tx.result.0.1 (search rules) in
    let lawful : IsLawful c.args.room false put taken =
    lawful_at _ c.args.room false put _ taken (search rules) (search rules)
    c.settle-settled.ensures.lawful in
    (put, begins, lawful, c.settle-settled.ensures.put)

pub returns-clause-begins : goal.returns-clause-begins
returns-clause-begins g c =
    let told = returns-clause-lawful g c in
    IsPrefix-trans c.join-tx.result.1.1.items told.0 c.args.items.now told.2.begins told.1
