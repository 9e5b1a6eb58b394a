use Rattle.std.proofs.lemmas.Result.{IfOk-weaker}
use Rattle.words.proofs.CommandLemmas.{is_command, with_command}
use Rattle.words.proofs.read.command_line.Goals as goal

pub returns : goal.returns
returns c =
    let body =
    with_command _ _ _ _ _ c.in_ok-subcommand.ensures c.bare_line.ensures
    c.in_ok-body_command.ensures in
    let parts =
    with_command _ _ _ _ _ c.in_ok-subcommand-2.ensures body
    (is_command _ _ c.new.ensures.app c.new.ensures.local) in
    let serve =
    with_command _ _ _ _ _ c.in_ok-subcommand-3.ensures parts c.in_ok-serve_command.ensures in
    let case =
    with_command _ _ _ _ _ c.in_ok-subcommand-4.ensures serve c.in_ok-case_command.ensures in
    let own =
    with_command _ _ _ _ _ c.in_ok-subcommand-5.ensures case c.in_ok-own_command.ensures in
    let drain =
    with_command _ _ _ _ _ c.in_ok-subcommand-6.ensures own c.in_ok-own_command-2.ensures in
    let misbehave =
    with_command _ _ _ _ _ c.in_ok-subcommand-7.ensures drain c.in_ok-misbehave_command.ensures in
    let wire =
    with_command _ _ _ _ _ c.in_ok-subcommand-8.ensures misbehave c.in_ok-wire_command.ensures in
    IfOk-weaker c.subcommand-9.result _ _ (λ command added.
    with_command _ _ _ _ _ added wire c.in_ok-frames_command.ensures) c.subcommand-9.ensures
