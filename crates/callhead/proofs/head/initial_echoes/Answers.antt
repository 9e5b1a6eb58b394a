use Rattle.std.proofs.Common.{◌≡◌, true, false, codes, string_bytes, sym, ◌∙◌, ap, inl, inr}
use Rattle.std.proofs.lemmas.List.{map_push}
use Rattle.std.specs.Str.Lossy.{utf8_lossy}
use Rattle.callhead.specs.Fields.{is_named}
use Rattle.callhead.specs.Heads.{is_printable}
use Rattle.callhead.proofs.HeadLemmas.{initial_push, initial_skip, printable_text}
use Rattle.callhead.proofs.head.initial_echoes.Goals as goal
use Rattle.callhead.proofs.head.initial_echoes.Goals.{
  then-is_named+then-is_printable+in_ok-from_utf8_lossy+in_ok-push,
  else-is_named,
  else-is_named-via-then-is_named+else-is_printable,
  else-is_named-via-else-is_named,
}

pub loop-field-preserved : goal.loop-field-preserved
loop-field-preserved c =
    let fields = c.args.fields.now in
    let i = c.loop-field.field-index in
    let field = c.field-item.result in
    let value = c.as_slice-value.ensures in
    elim c.if-is_named.branch [
      | then-is_named+then-is_printable+in_ok-from_utf8_lossy+in_ok-push w ↦
          let named : is_named (codes "x-grpc-test-echo-initial") field ≡ true =
          sym c.is_named.ensures ∙ w.if-is_named.true in
          let printable : is_printable field.value ≡ true =
          ap is_printable (sym value) ∙ sym w.is_printable.ensures ∙ w.if-is_printable.true in
          let text : string_bytes w.in_ok-from_utf8_lossy.field-0 ≡ field.value =
          w.in_ok-from_utf8_lossy.ensures.lossy ∙ ap utf8_lossy value
          ∙ printable_text field.value printable in
          rw (w.echoes-is, w.in_ok-push.ensures.items, map_push, text, c.loop-field.invariant)
          (initial_push fields i field c.loop-field-test.true c.field-item.is named printable)
      | else-is_named w ↦ elim w.else-is_named.branch [
        | else-is_named-via-then-is_named+else-is_printable w' ↦
            let printable : is_printable field.value ≡ false =
            ap is_printable (sym value) ∙ sym w'.is_printable.ensures ∙ w'.if-is_printable.false in
            rw (w.echoes-is, c.loop-field.invariant)
            (initial_skip fields i field c.loop-field-test.true c.field-item.is (inr printable))
        | else-is_named-via-else-is_named w' ↦
            let named : is_named (codes "x-grpc-test-echo-initial") field ≡ false =
            sym c.is_named.ensures ∙ w'.if-is_named.false in
            rw (w.echoes-is, c.loop-field.invariant)
            (initial_skip fields i field c.loop-field-test.true c.field-item.is (inl named))
      ]
    ]
