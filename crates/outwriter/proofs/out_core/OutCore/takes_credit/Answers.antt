use Rattle.std.proofs.Common.{◌∙◌}
use Rattle.outwriter.proofs.out_core.OutCore.takes_credit.Goals as goal

pub returns-clause-owes : goal.returns-clause-owes
returns-clause-owes g c = λ alive run l.
    c.pays.ensures ∙ ((l.keeps alive).mirrors.stand.owes c.args.id).1
