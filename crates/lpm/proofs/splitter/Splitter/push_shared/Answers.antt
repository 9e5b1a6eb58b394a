use Rattle.std.proofs.Common.{◌++◌, ap, ◌∙◌, List, ℕ}
use Rattle.lpm.specs.Fronts.{waiting}
use Rattle.lpm.proofs.Extents.{waiting-push}
use Rattle.lpm.proofs.splitter.Splitter.push_shared.Goals as goal

pub returns-in_ok-push_back-clause-ok : goal.returns-in_ok-push_back-clause-ok
returns-in_ok-push_back-clause-ok c =
    ap
    (λ (later : List (List ℕ)). waiting c.self.inside.joined.bytes.items c.self.inside.piece later)
    c.in_ok-push_back.ensures.items
    ∙ waiting-push c.self.inside.joined.bytes.items c.self.inside.piece
    c.self.inside.later.items c.args.piece
    ∙ ap (λ (old : List ℕ). old ++ c.args.piece) c.self.view_is
