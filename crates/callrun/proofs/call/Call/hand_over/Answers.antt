use Rattle.std.proofs.Common.{◌≡◌, true, rules}
use Rattle.callrun.specs.Handlings.{IsReady}
use Rattle.callrun.specs.Sides.{is_open}
use Rattle.callrun.proofs.Ahead.{handed}
use Rattle.callrun.proofs.Went.{ready_lacks}
use Rattle.callrun.proofs.call.Call.hand_over.Goals as goal

pub returns-then-is_ready-clause-run : goal.returns-then-is_ready-clause-run
returns-then-is_ready-clause-run g c = λ of_open of_shut was_placed said messages come.
    let opened : is_open c.args.response.now ≡ true = cc in
    handed of_open of_shut was_placed c.args.response.now c.in-Some.taken said messages _ _ _
    opened c.in-Some.is
    (λ before handled given tells run.
    c.answer.ensures.run before said handled given tells run) come

pub returns-then-is_ready-clause-lacks : goal.returns-then-is_ready-clause-lacks
returns-then-is_ready-clause-lacks g c = λ lacks.
    let ready : IsReady c.args.self.now.handling =
    search (rules, c.is_ready.ensures, c.if-is_ready.true) in
    absurd (ready_lacks c.args.self.now.handling ready lacks)
