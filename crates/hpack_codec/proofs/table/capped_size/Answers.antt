use Rattle.std.proofs.Common.{arith, ◌≡◌, ◌+◌, min, ℕ, length, ◌-◌, ◌^◌, ◌∙◌, ap}
use Rattle.hpack_codec.specs.Table.{size_of}
use Rattle.hpack_codec.proofs.table.capped_size.Goals as goal

capped : (a b most : ℕ) → min (min (a + b) most + 32) most ≡ min (a + b + 32) most
capped a b most = omega arith

pub returns : goal.returns
unfolding size_of
returns c =
    c.saturating_add-2.ensures
    ∙ ap (λ n. min (n + 32) (2 ^ 64 - 1)) (c.saturating_add.ensures
    ∙ ap (λ n. min n (2 ^ 64 - 1)) (ap (λ n. n + c.len-2.result) c.len.ensures
    ∙ ap (λ n. length c.args.field.now.name + n) c.len-2.ensures))
    ∙ capped (length c.args.field.now.name) (length c.args.field.now.value) (2 ^ 64 - 1)
