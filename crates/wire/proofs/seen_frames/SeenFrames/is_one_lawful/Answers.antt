use Rattle.std.proofs.Common.{rules, sym, ◌≡◌, length, slice_index_or, subst, refl, arith}
use Rattle.std.proofs.lemmas.List.{get_or_read_under}
use Rattle.std.proofs.lemmas.List.Elements.{AllWithin-more}
use Rattle.wire.specs.Reactions.{IsUnlawful}
use Rattle.wire.proofs.seen_frames.SeenFrames.is_one_lawful.Goals as goal

pub returns-then-branch-clause-passed : goal.returns-then-branch-clause-passed
returns-then-branch-clause-passed c = λ t. (
  c.loop-lawful.lawful-index,
  c.lawful-item.result,
  c.loop-lawful-test.true,
  sym c.lawful-item.is,
  search rules,
)

pub loop-lawful-preserved : goal.loop-lawful-preserved
loop-lawful-preserved c =
    AllWithin-more (IsUnlawful c.args.self.now) c.args.ways.now 0 c.loop-lawful.lawful-index
    c.loop-lawful.invariant (λ d.
    let way : IsUnlawful c.args.self.now c.lawful-item.result =
    c.in_ok-is_lawful.ensures.failed c.if-branch.false in
    let read : c.lawful-item.result ≡ slice_index_or c.args.ways.now c.loop-lawful.lawful-index d =
    get_or_read_under c.args.ways.now c.loop-lawful.lawful-index (length c.args.ways.now)
    c.lawful-item.result d c.lawful-item.is c.loop-lawful-test.true refl in
    subst (IsUnlawful c.args.self.now) read way)

pub returns-clause-failed : goal.returns-clause-failed
returns-clause-failed c = λ _ k d below.
    c.loop-lawful.invariant k d (omega arith) (omega (arith, c.loop-lawful-test.false, below))
