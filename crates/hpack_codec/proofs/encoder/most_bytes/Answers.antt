use Rattle.std.proofs.Common.{arith, ◌≡◌, ◌+◌, ◌-◌, ◌^◌, ◌∷◌, ◌++◌, [], ◌∙◌, sym, ap, min, ℕ, take}
use Rattle.std.proofs.lemmas.List.{take_more}
use Rattle.lists.specs.declared.field.Field.{Field}
use Rattle.hpack_codec.specs.Table.{sizes_of, size_of}
use Rattle.hpack_codec.proofs.Tables.{sizes_of-nil, sizes_of-push}
use Rattle.hpack_codec.proofs.encoder.most_bytes.Goals as goal

capped : (sum size cap : ℕ) → min (min (sum + 3) cap + min size cap) cap ≡ min (sum + size + 3) cap
capped sum size cap = omega arith

pub loop-field-init : goal.loop-field-init
loop-field-init c = omega (arith, sizes_of-nil)

pub loop-field-preserved : goal.loop-field-preserved
loop-field-preserved c =
    c.saturating_add-most.ensures
    ∙ ap (λ n. min (n + c.capped_size.result) (2 ^ 64 - 1)) c.loop-field.invariant
    ∙ ap (λ n.
    min (min (sizes_of (take c.loop-field.field-index c.args.fields.now) + 3) (2 ^ 64 - 1) + n)
    (2 ^ 64 - 1)) c.capped_size.ensures
    ∙ capped (sizes_of (take c.loop-field.field-index c.args.fields.now))
    (size_of c.field-item.result) (2 ^ 64 - 1)
    ∙ ap (λ n. min (n + 3) (2 ^ 64 - 1))
    (sym (ap sizes_of
    (take_more c.args.fields.now c.loop-field.field-index c.field-item.result c.loop-field-test.true
    ∙ ap (λ (field : Field). take c.loop-field.field-index c.args.fields.now ++ field ∷ [])
    (sym c.field-item.is))
    ∙ sizes_of-push (take c.loop-field.field-index c.args.fields.now) c.field-item.result))
