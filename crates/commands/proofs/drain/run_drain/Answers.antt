use Rattle.commands.proofs.drain.run_drain.Goals as goal

pub returns : goal.returns
returns g c =
    let printed = c.in_ok-print_summed.ensures in
    (_, _, printed.0, _, printed.1, printed.2, c.is_ok.ensures.value)
