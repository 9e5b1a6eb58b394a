use Rattle.std.proofs.Common.{List, ◌++◌, ◌∷◌, [], subst, append_assoc}
use Rattle.pbwire.specs.Fields.{Field, field_of}
use Rattle.testproto.proofs.Joining.{StartsWithFields-push, AllByRecursion-push}
use Rattle.testproto.proofs.message.merge.Goals as goal

pub loop-answer-preserved : goal.loop-answer-preserved
loop-answer-preserved g c =
    let message = g.M.Message in
    let so_far = c.loop-answer.invariant in
    let field = field_of c.in-Ok.item in
    let there = rw c.in-Ok.is at c.in-Some.ensures.field in
    let taken = c.in_ok-take-in-Ok.ensures.value in (
      so_far.0 ++ field ∷ [],
      StartsWithFields-push c.args.bytes.now so_far.0 c.loop-answer.fields field
          c.next.new.self so_far.1 there,
      AllByRecursion-push message.accepts so_far.0 field so_far.2
          c.in_ok-take-in-Ok.ensures.accepted,
      λ before had.
          subst (λ (t : List Field). message.is_value t c.take.new.self)
          (append_assoc before so_far.0 (field ∷ []))
          (taken (before ++ so_far.0) (so_far.3 before had)),
    )
