use Rattle.commands.proofs.TellingLemmas.{report_told}
use Rattle.commands.proofs.body.MessagePrinter.end.Goals as goal

pub returns : goal.returns
returns c bytes told =
    report_told bytes c.args.self c.fault_at_end-fault.result c.push_ending.new.text.items told
    (c.fault_at_end-fault.ensures bytes told) c.in_ok-push_ending.ensures
