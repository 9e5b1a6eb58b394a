use Rattle.std.proofs.lemmas.Result.{IfOk-weaker}
use Rattle.words.proofs.CommandLemmas.{is_option, with_option}
use Rattle.words.proofs.tracing.with_tracing.Goals as goal

pub returns : goal.returns
returns c = λ app is.
    let trace = with_option _ _ _ _ _ c.in_ok-arg.ensures is c.trace_option.ensures in
    let file =
    with_option _ _ _ _ _ c.in_ok-arg-2.ensures trace
    (is_option c.text_option.result _ c.text_option.ensures.rule c.text_option.ensures.local) in
    IfOk-weaker c.arg-3.result _ _ (λ command added.
    with_option _ _ _ _ _ added file (is_option c.text_option-2.result _
    c.text_option-2.ensures.rule c.text_option-2.ensures.local)) c.arg-3.ensures
