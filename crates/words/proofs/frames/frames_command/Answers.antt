use Rattle.std.proofs.lemmas.Result.{IfOk-weaker}
use Rattle.words.proofs.CommandLemmas.{is_command, is_option, with_option}
use Rattle.words.proofs.frames.frames_command.Goals as goal

pub returns : goal.returns
returns c =
    let bare = is_command _ _ c.new.ensures.app c.new.ensures.local in
    let file = with_option _ _ _ _ _ c.in_ok-arg.ensures bare c.several.ensures in
    let side =
    with_option _ _ _ _ _ c.in_ok-arg-2.ensures file (is_option c.text_option-side.result _
    c.text_option-side.ensures.rule c.text_option-side.ensures.local) in
    IfOk-weaker c.arg-3.result _ _ (λ command added.
    with_option _ _ _ _ _ added side (is_option c.flag-full.result _
    c.flag-full.ensures.rule c.flag-full.ensures.local)) c.arg-3.ensures
