use Rattle.std.proofs.Common.{arith, sym, ◌∙◌}
use Rattle.hpack_codec.specs.Table.{size_of}
use Rattle.hpack_codec.proofs.Tables.{popped, popped_kept, empty_size, fitting_whole}
use Rattle.hpack_codec.proofs.table.evict.Goals as goal

pub overflow_add-size-in-Some : goal.overflow_add-size-in-Some
unfolding size_of
overflow_add-size-in-Some c =
    omega (
      arith,
      popped _ _ _ _ c.in-Some.ensures.items c.loop-size.invariant.size,
      c.len.ensures,
      c.len-in-Some.ensures,
    )

pub overflow_sub-size : goal.overflow_sub-size
unfolding size_of
overflow_sub-size c =
    omega (
      arith,
      popped _ _ _ _ c.in-Some.ensures.items c.loop-size.invariant.size,
      c.len.ensures,
      c.len-in-Some.ensures,
    )

pub loop-size-preserved-in-Some : goal.loop-size-preserved-in-Some
unfolding size_of
loop-size-preserved-in-Some c = record {
  kept =
      popped_kept _ _ _ _ _ _ c.in-Some.ensures.items c.loop-size.invariant.size
      c.loop-size-test.true c.loop-size.invariant.kept;
  size = omega (
    arith,
    popped _ _ _ _ c.in-Some.ensures.items c.loop-size.invariant.size,
    c.len.ensures,
    c.len-in-Some.ensures,
  );
}

pub loop-size-smaller : goal.loop-size-smaller
loop-size-smaller c =
    absurd (omega (
      arith,
      c.loop-size-test.true,
      c.loop-size.invariant.size,
      empty_size c.loop-size.recent.items
          (sym c.loop-size.recent.ok.0 ∙ c.in_default.ensures.cases.0),
    ))

pub returns-clause-kept : goal.returns-clause-kept
returns-clause-kept c =
    sym (fitting_whole c.args.room c.loop-size.recent.items
    (omega (arith, c.loop-size-test.false, c.loop-size.invariant.size)))
    ∙ c.loop-size.invariant.kept
