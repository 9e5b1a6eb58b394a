use Rattle.std.proofs.Common.{◌∙◌, sym, true≢false}
use Rattle.connection.proofs.Founded.{all-handed}
use Rattle.connection.proofs.laws.handed_calls.Goals as goal

pub returns : goal.returns
returns g c = λ stopped end told calm halts are out id head was.
    all-handed g.M.Answering.names stopped told (calm out)
    (λ is. true≢false (sym out ∙ halts is)) are id head was
