use Rattle.words.proofs.CommandLemmas.{is_command, is_option, with_option}
use Rattle.words.proofs.wire.wire_command.Goals as goal

pub returns : goal.returns
returns c =
    let bare = is_command _ _ c.new.ensures.app c.new.ensures.local in
    let cases = with_option _ _ _ _ _ c.in_ok-arg.ensures bare c.several.ensures in
    let list =
    with_option _ _ _ _ _ c.in_ok-arg-2.ensures cases
    (is_option c.flag.result _ c.flag.ensures.rule c.flag.ensures.local) in
    let port =
    with_option _ _ _ _ _ c.in_ok-arg-3.ensures list (is_option c.number_option.result _
    c.number_option.ensures.rule c.number_option.ensures.local) in
    let host = with_option _ _ _ _ _ c.in_ok-arg-4.ensures port c.host_option.ensures in
    let silence = with_option _ _ _ _ _ c.in_ok-arg-5.ensures host c.silence_option.ensures in
    let limit = with_option _ _ _ _ _ c.in_ok-arg-6.ensures silence c.limit_option.ensures in
    let jobs = with_option _ _ _ _ _ c.in_ok-arg-7.ensures limit c.jobs_option.ensures in
    let verbose =
    with_option _ _ _ _ _ c.in_ok-command.ensures jobs
    (is_option c.flag-2.result _ c.flag-2.ensures.rule c.flag-2.ensures.local) in
    c.with_reporting.ensures _ (c.in_ok-with_tracing.ensures _ verbose)
