use Rattle.std.proofs.Common.{List, ◌∷◌, [], map, sym, ap, subst, ◌∙◌}
use Rattle.std.proofs.lemmas.List.{map-append}
use Rattle.pbwire.specs.Fields.{Field, field_of, StartsWithFields}
use Rattle.pbwire.proofs.OneReading.{fields-push}
use Rattle.pbwire.proofs.all_fields.read_fields.Goals as goal

pub loop-answer-preserved : goal.loop-answer-preserved
loop-answer-preserved c =
    let bytes = c.args.bytes.now in
    let before = c.loop-answer.fields.items in
    let there = rw c.in-Ok.is at c.in-Some.ensures.field in
    let joined =
    fields-push bytes (map field_of before) c.loop-answer.unread (field_of c.in-Ok.item)
    c.next.new.self c.loop-answer.invariant there in
    let fields_are =
    ap (λ t. map field_of t) c.in_ok-push-in-Ok.ensures.items
    ∙ map-append field_of before (c.in-Ok.item ∷ []) in
    subst (λ (t : List Field). StartsWithFields bytes t c.next.new.self) (sym fields_are) joined
