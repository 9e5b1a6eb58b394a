-- What is granted on the connection alone counts there.
use Rattle.std.proofs.Common.{◌≡◌, ◌∙◌, ◌+◌, ℕ, zero, suc, nat_eq, Bool, ap, sym}
use Rattle.std.proofs.Math.Dec.{eqb-suc-zero, eqb-zero-suc}
use Rattle.std.specs.Prelude.{if◌then◌else◌}
use Rattle.outwriter.specs.Credit.{granted_by}
use Rattle.outwriter.specs.Steps.{Granted}

pub granted-as : (id n had has : ℕ) → has ≡ had + (if nat_eq id 0 then n else 0)
    → had + granted_by 0 (Granted id n) ≡ has
granted-as zero n had has is = sym is
granted-as (suc id) n had has is =
    sym (is
    ∙ (ap (λ (yes : Bool). had + (if yes then n else 0)) (eqb-suc-zero id)
    ∙ sym (ap (λ (yes : Bool). had + (if yes then n else 0)) (eqb-zero-suc id))))
