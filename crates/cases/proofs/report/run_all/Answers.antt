use Rattle.std.proofs.Common.{arith, of_calls, refl}
use Rattle.cases.specs.Report.{all_cases}
use Rattle.cases.proofs.ReportLemmas.{one_more_case, printed_one_more, ran_one_more}
use Rattle.cases.proofs.report.run_all.Goals as goal

pub loop-case-preserved : goal.loop-case-preserved
loop-case-preserved g c =
    let before = c.loop-case.invariant in
    let items = c.in_ok-push.ensures.items in (
      search of_calls,
      one_more_case all_cases c.loop-case.case-index _ _ _ _ (omega arith) items refl before.1,
      ran_one_more _ _ _ _ _ _ _ items before.2 c.run-answer.ensures,
      printed_one_more _ _ _ _ _ _ items before.3
          (rw c.name.ensures at c.in_ok-print_line.ensures.line),
    )
