use Rattle.std.proofs.Common.{◌≡◌, List, [], Option, ◌∙◌, ap, arith, length, rules, subst}
use Rattle.std.specs.Vec.Iter.{into_iter_steps}
use Rattle.trace.specs.declared.item.Item.{Item}
use Rattle.trace.specs.Lines.{items_of}
use Rattle.trace.proofs.Lines.{all_yielded, one_more, parts_more}
use Rattle.trace.proofs.tracing.lines_of.Goals as goal

pub items-init : goal.items-init
items-init c =
    let gives = c.into_iter-item-iterator.ensures.into_iter_gives in
    let empty : c.new-lines.result.items ≡ [] = search rules in
    record {
      told = ap items_of empty;
      parts = gives.0;
      length =
          omega (arith, gives.1, c.args.items.ok.0, ap (λ (es : List Item). length es) gives.0);
    }

pub items-preserved : goal.items-preserved
items-preserved c =
    let step =
    subst (λ (o : Option Item). into_iter_steps c.items.item-iterator o c.next.new.self)
    c.in-Some.is c.next.ensures.steps in
    record {
      told =
          rw c.in_ok-push.ensures.items
          (one_more c.items.lines.items _ c.items.yielded c.items.invariant.told);
      parts = parts_more _ _ _ _ _ c.items.invariant.parts step.0;
      length = omega
          (arith, step.1, c.items.invariant.length, ap (λ (es : List Item). length es) step.0);
    }

pub returns : goal.returns
returns c =
    let step =
    subst (λ (o : Option Item). into_iter_steps c.items.item-iterator o c.next.new.self)
    c.in-None.is c.next.ensures.steps in
    c.items.invariant.told
    ∙ all_yielded _ _ _ c.items.invariant.parts (omega (arith, step.0, c.items.invariant.length))
