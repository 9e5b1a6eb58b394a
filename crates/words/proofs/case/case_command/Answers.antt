use Rattle.words.proofs.CommandLemmas.{is_command, is_option, with_option}
use Rattle.words.proofs.case.case_command.Goals as goal

pub returns : goal.returns
returns c =
    let bare = is_command _ _ c.new.ensures.app c.new.ensures.local in
    let name = with_option _ _ _ _ _ c.in_ok-arg.ensures bare c.several.ensures in
    let test_case =
    with_option _ _ _ _ _ c.in_ok-arg-2.ensures name
    (is_option c.text_option.result _ c.text_option.ensures.rule c.text_option.ensures.local) in
    let list =
    with_option _ _ _ _ _ c.in_ok-arg-3.ensures test_case
    (is_option c.flag.result _ c.flag.ensures.rule c.flag.ensures.local) in
    let port = with_option _ _ _ _ _ c.in_ok-arg-4.ensures list c.in_ok-port_option.ensures in
    let host = with_option _ _ _ _ _ c.in_ok-arg-5.ensures port c.in_ok-host_option.ensures in
    let times = with_option _ _ _ _ _ c.in_ok-arg-6.ensures host c.times_option.ensures in
    let streams = with_option _ _ _ _ _ c.in_ok-arg-7.ensures times c.streams_option.ensures in
    let timeout = with_option _ _ _ _ _ c.in_ok-arg-8.ensures streams c.timeout_option.ensures in
    let tls = with_option _ _ _ _ _ c.in_ok-command.ensures timeout c.tls_option.ensures in
    c.with_reporting.ensures _ (c.in_ok-with_tracing.ensures _
    (c.in_ok-whole.ensures _ (c.in_ok-with_credentials.ensures _ tls)))
