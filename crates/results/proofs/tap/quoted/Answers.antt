use Rattle.std.proofs.Common.{refl}
use Rattle.std.proofs.lemmas.Result.{IfOk-weaker}
use Rattle.results.proofs.JsonLemmas.{compact_plain}
use Rattle.results.proofs.tap.quoted.Goals as goal

pub returns : goal.returns
returns c =
    IfOk-weaker c.to_string.result _ _
    (λ json told. compact_plain _ _ _ c.in_ok-value.ensures refl told) c.to_string.ensures.text
