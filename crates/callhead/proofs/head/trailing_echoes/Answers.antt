use Rattle.std.proofs.Common.{◌≡◌, true, false, codes, sym, ◌∙◌}
use Rattle.callhead.specs.Fields.{is_named}
use Rattle.callhead.proofs.HeadLemmas.{trailing_push, trailing_skip}
use Rattle.callhead.proofs.head.trailing_echoes.Goals as goal
use Rattle.callhead.proofs.head.trailing_echoes.Goals.{
  then-is_named+in_ok-values+in_ok-append,
  else-is_named,
}

pub loop-field-preserved : goal.loop-field-preserved
loop-field-preserved c =
    let fields = c.args.fields.now in
    let i = c.loop-field.field-index in
    let field = c.field-item.result in
    elim c.if-is_named.branch [
      | then-is_named+in_ok-values+in_ok-append w ↦
          let named : is_named (codes "x-grpc-test-echo-trailing-bin") field ≡ true =
          sym c.is_named.ensures ∙ w.if-is_named.true in
          rw (w.echoes-is, w.in_ok-append.ensures.items) (trailing_push fields i field
          c.loop-field.echoes.items w.in_ok-values.values.items c.loop-field-test.true
          c.field-item.is named c.loop-field.invariant
          (rw w.as_slice.ensures at w.in_ok-values.ensures))
      | else-is_named w ↦
          let named : is_named (codes "x-grpc-test-echo-trailing-bin") field ≡ false =
          sym c.is_named.ensures ∙ w.if-is_named.false in
          rw w.echoes-is (trailing_skip fields i field c.loop-field.echoes.items
          c.loop-field-test.true c.field-item.is named c.loop-field.invariant)
    ]
