use Rattle.words.proofs.CommandLemmas.{is_command, is_option, with_option}
use Rattle.words.proofs.misbehave.misbehave_command.Goals as goal

pub returns : goal.returns
returns c =
    let bare = is_command _ _ c.new.ensures.app c.new.ensures.local in
    let name = with_option _ _ _ _ _ c.in_ok-arg.ensures bare c.several.ensures in
    let port =
    with_option _ _ _ _ _ c.in_ok-arg-2.ensures name (is_option c.number_option-port.result _
    c.number_option-port.ensures.rule c.number_option-port.ensures.local) in
    let host = with_option _ _ _ _ _ c.in_ok-arg-3.ensures port c.host_option.ensures in
    let seconds = with_option _ _ _ _ _ c.in_ok-arg-4.ensures host c.seconds_option.ensures in
    let listed =
    with_option _ _ _ _ _ c.in_ok-arg-5.ensures seconds
    (is_option c.flag-list.result _ c.flag-list.ensures.rule c.flag-list.ensures.local) in
    let verbose =
    with_option _ _ _ _ _ c.in_ok-command.ensures listed
    (is_option c.flag-verbose.result _ c.flag-verbose.ensures.rule c.flag-verbose.ensures.local) in
    c.with_reporting.ensures _
    (c.in_ok-with_tracing.ensures _ (c.in_ok-with_files.ensures _ verbose))
