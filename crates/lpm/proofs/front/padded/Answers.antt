use Rattle.std.proofs.Common.{ℕ, List, ◌++◌, drop, replicate, ap, ◌∙◌, arith}
use Rattle.lpm.proofs.Padded.{padded_from}
use Rattle.lpm.proofs.front.padded.Goals as goal

pub returns : goal.returns
returns c =
    ap (λ (known : List ℕ). known ++ drop {A = ℕ} c.min-known.result (replicate 5 0))
    c.copy_from_slice.ensures.after
    ∙ padded_from c.args.front.now 5 5 c.min-known.result (omega arith) (omega arith)
