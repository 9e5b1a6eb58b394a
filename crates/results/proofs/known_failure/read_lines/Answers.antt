use Rattle.std.proofs.Common.{◌∙◌, sym, map}
use Rattle.std.proofs.lemmas.Result.{err_from_is_err_and}
use Rattle.results.specs.KnownList.{entry}
use Rattle.results.proofs.KnownLemmas.{entries_more, wrong_line}
use Rattle.results.proofs.known_failure.read_lines.Goals as goal

pub returns-in_err-push_named-clause-refused : goal.returns-in_err-push_named-clause-refused
returns-in_err-push_named-clause-refused c =
    let p = err_from_is_err_and c.from_residual.result c.from_residual.ensures.1 in
    rw (p.1, p.2) (wrong_line c.args.all_lines.now c.loop-place.place _
    (map entry c.loop-place.all.items) c.in_err-push_named.field-0.0
    c.loop-place-test.true c.loop-place.invariant.0 c.loop-place.invariant.1
    c.in_err-push_named.ensures.refused)

pub loop-place-preserved : goal.loop-place-preserved
loop-place-preserved c = (
  (rw c.loop-place.invariant.0 at c.in_ok-push_named.ensures.entries)
      ∙ sym (entries_more c.args.all_lines.now c.loop-place.place _ c.loop-place-test.true),
  c.in_ok-push_named.ensures.good c.loop-place.invariant.1,
)
