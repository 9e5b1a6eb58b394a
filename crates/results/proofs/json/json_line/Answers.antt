use Rattle.std.proofs.lemmas.Result.{IfOk-weaker}
use Rattle.results.proofs.JsonLemmas.{line_plain, outcome_plain}
use Rattle.results.proofs.json.json_line.Goals as goal

pub returns : goal.returns
returns c =
    IfOk-weaker c.line_of.result _ _ (λ line told.
    line_plain _ _ _ c.in_ok-value.ensures (outcome_plain c.args.outcome.now)
    told) c.line_of.ensures
