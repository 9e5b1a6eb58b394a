use Rattle.std.proofs.lemmas.Result.{IfOk-weaker}
use Rattle.words.proofs.CommandLemmas.{is_option, with_option}
use Rattle.words.proofs.reporting.with_reporting.Goals as goal

pub returns : goal.returns
returns c = λ app is.
    let forms = c.in_ok-with_forms.ensures app is in
    let skip = with_option _ _ _ _ _ c.in_ok-arg.ensures forms c.skip_option.ensures in
    let level =
    with_option _ _ _ _ _ c.in_ok-arg-2.ensures skip
    (is_option c.text_option.result _ c.text_option.ensures.rule c.text_option.ensures.local) in
    let repeat = with_option _ _ _ _ _ c.in_ok-arg-3.ensures level c.repeat_option.ensures in
    IfOk-weaker c.arg-4.result _ _ (λ command added.
    with_option _ _ _ _ _ added repeat
    (is_option c.flag.result _ c.flag.ensures.rule c.flag.ensures.local)) c.arg-4.ensures
