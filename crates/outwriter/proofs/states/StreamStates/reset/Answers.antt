use Rattle.outwriter.proofs.StateLemmas.{hears-put, resets-put, over-same}
use Rattle.outwriter.proofs.StateChanges.{on-ok}
use Rattle.outwriter.proofs.states.StreamStates.reset.Goals as goal

pub returns-clause-ok : goal.returns-clause-ok
returns-clause-ok c =
    on-ok c.change.result _ _ (λ puts.
    resets-put c.args.self.now c.change.new.self c.args.id puts.0 c.requires.stream
    c.change.ensures.connection puts.2 puts.1) c.change.ensures.puts

pub returns-clause-over : goal.returns-clause-over
returns-clause-over c =
    on-ok c.change.result _ _ (λ puts.
    over-same c.args.self.now c.change.new.self c.args.id puts.0 c.requires.stream
    c.change.ensures.connection puts.2 puts.1.0) c.change.ensures.puts

pub returns-clause-hears : goal.returns-clause-hears
returns-clause-hears c =
    on-ok c.change.result _ _ (λ puts.
    hears-put c.args.self.now c.change.new.self c.args.id puts.0 c.requires.stream
    c.change.ensures.connection puts.2) c.change.ensures.puts
