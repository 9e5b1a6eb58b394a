use Rattle.std.proofs.lemmas.Result.{IfOk-weaker}
use Rattle.words.proofs.CommandLemmas.{with_option}
use Rattle.words.proofs.case.with_soak.Goals as goal

pub returns : goal.returns
returns c = λ app is.
    let iterations = with_option _ _ _ _ _ c.in_ok-arg.ensures is c.iterations_option.ensures in
    let max_failures =
    with_option _ _ _ _ _ c.in_ok-arg-2.ensures iterations c.max_failures_option.ensures in
    let acceptable =
    with_option _ _ _ _ _ c.in_ok-arg-3.ensures max_failures c.acceptable_option.ensures in
    let overall = with_option _ _ _ _ _ c.in_ok-arg-4.ensures acceptable c.overall_option.ensures in
    let gap = with_option _ _ _ _ _ c.in_ok-arg-5.ensures overall c.gap_option.ensures in
    let request_size =
    with_option _ _ _ _ _ c.in_ok-arg-6.ensures gap c.request_size_option.ensures in
    IfOk-weaker c.arg-7.result _ _ (λ command added.
    with_option _ _ _ _ _ added request_size c.response_size_option.ensures) c.arg-7.ensures
