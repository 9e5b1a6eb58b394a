use Rattle.std.proofs.Common.{◌∙◌, ap}
use Rattle.std.proofs.lemmas.Result.{err_from_is_err_and}
use Rattle.commands.specs.Body.{report_of}
use Rattle.commands.proofs.body.run_body.Goals as goal

pub returns-in_err-write_all-clause-err : goal.returns-in_err-write_all-clause-err
returns-in_err-write_all-clause-err g c =
    let p =
    err_from_is_err_and c.from_residual-in_err-write_all.result
    c.from_residual-in_err-write_all.ensures.1 in
    rw (p.1, p.2) (
      c.in_ok-text.text.items,
      c.in_ok-report.report.items,
      (c.in_ok-text.ensures.ok, c.in_ok-text.ensures.end),
      (
        c.in_ok-bytes.bytes.items,
        c.in_ok-bytes.ensures.ok,
        c.in_ok-report.ensures ∙ ap report_of c.as_slice.ensures.value,
      ),
      rw c.as_slice-2.ensures.value at c.in_err-write_all.ensures.prefix,
    )
