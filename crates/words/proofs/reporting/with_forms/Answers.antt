use Rattle.std.proofs.lemmas.Result.{IfOk-weaker}
use Rattle.words.proofs.CommandLemmas.{is_option, with_option}
use Rattle.words.proofs.reporting.with_forms.Goals as goal

pub returns : goal.returns
returns c = λ app is.
    let json =
    with_option _ _ _ _ _ c.in_ok-arg.ensures is
    (is_option c.text_option.result _ c.text_option.ensures.rule c.text_option.ensures.local) in
    let junit =
    with_option _ _ _ _ _ c.in_ok-arg-2.ensures json (is_option c.text_option-2.result _
    c.text_option-2.ensures.rule c.text_option-2.ensures.local) in
    let tap =
    with_option _ _ _ _ _ c.in_ok-arg-3.ensures junit
    (is_option c.flag.result _ c.flag.ensures.rule c.flag.ensures.local) in
    let save =
    with_option _ _ _ _ _ c.in_ok-arg-4.ensures tap (is_option c.text_option-3.result _
    c.text_option-3.ensures.rule c.text_option-3.ensures.local) in
    let known =
    with_option _ _ _ _ _ c.in_ok-arg-5.ensures save (is_option c.text_option-4.result _
    c.text_option-4.ensures.rule c.text_option-4.ensures.local) in
    IfOk-weaker c.arg-6.result _ _ (λ command added.
    with_option _ _ _ _ _ added known (is_option c.text_option-5.result _
    c.text_option-5.ensures.rule c.text_option-5.ensures.local)) c.arg-6.ensures
