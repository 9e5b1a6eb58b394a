use Rattle.std.proofs.lemmas.Result.{IfOk-weaker}
use Rattle.words.proofs.CommandLemmas.{is_option, with_option}
use Rattle.words.proofs.case.with_credentials.Goals as goal

pub returns : goal.returns
returns c = λ app is.
    let test_ca =
    with_option _ _ _ _ _ c.in_ok-arg.ensures is
    (is_option c.text_option.result _ c.text_option.ensures.rule c.text_option.ensures.local) in
    IfOk-weaker c.arg-2.result _ _ (λ command added.
    with_option _ _ _ _ _ added test_ca (is_option c.text_option-2.result _
    c.text_option-2.ensures.rule c.text_option-2.ensures.local)) c.arg-2.ensures
