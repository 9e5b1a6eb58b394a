use Rattle.words.proofs.CommandLemmas.{is_command, is_option, with_option}
use Rattle.words.proofs.serve.serve_command.Goals as goal

pub returns : goal.returns
returns c =
    let bare = is_command _ _ c.new.ensures.app c.new.ensures.local in
    let port =
    with_option _ _ _ _ _ c.in_ok-arg.ensures bare (is_option c.number_option-port.result _
    c.number_option-port.ensures.rule c.number_option-port.ensures.local) in
    let any =
    with_option _ _ _ _ _ c.in_ok-arg-2.ensures port (is_option c.flag-any_port.result _
    c.flag-any_port.ensures.rule c.flag-any_port.ensures.local) in
    let host = with_option _ _ _ _ _ c.in_ok-arg-3.ensures any c.host_option.ensures in
    let connections =
    with_option _ _ _ _ _ c.in_ok-arg-4.ensures host (is_option c.number_option-connections.result _
    c.number_option-connections.ensures.rule c.number_option-connections.ensures.local) in
    let report =
    with_option _ _ _ _ _ c.in_ok-arg-5.ensures connections
    (is_option c.flag-report.result _ c.flag-report.ensures.rule c.flag-report.ensures.local) in
    let log = with_option _ _ _ _ _ c.in_ok-arg-6.ensures report c.log_option.ensures in
    let time = with_option _ _ _ _ _ c.in_ok-arg-7.ensures log c.time_option.ensures in
    let drains =
    with_option _ _ _ _ _ c.in_ok-arg-8.ensures time
    (is_option c.flag-drains.result _ c.flag-drains.ensures.rule c.flag-drains.ensures.local) in
    let patience = with_option _ _ _ _ _ c.in_ok-arg-9.ensures drains c.patience_option.ensures in
    let record_in =
    with_option _ _ _ _ _ c.in_ok-command.ensures patience
    (is_option c.text_option.result _ c.text_option.ensures.rule c.text_option.ensures.local) in
    c.with_tracing.ensures _ (c.in_ok-with_files.ensures _ record_in)
