use Rattle.outwriter.proofs.StateLemmas.{ends-put, owed-put-same}
use Rattle.outwriter.proofs.StateChanges.{on-ok}
use Rattle.outwriter.proofs.states.StreamStates.end.Goals as goal

pub returns-clause-ok : goal.returns-clause-ok
returns-clause-ok c =
    on-ok c.change.result _ _ (λ puts.
    ends-put c.args.self.now c.change.new.self c.args.id puts.0 c.requires.stream
    c.change.ensures.connection puts.2 c.args.by puts.1.0) c.change.ensures.puts

pub returns-clause-owed : goal.returns-clause-owed
returns-clause-owed c =
    on-ok c.change.result _ _ (λ puts.
    owed-put-same c.args.self.now c.change.new.self c.args.id puts.0 c.requires.stream
    c.change.ensures.connection puts.2 puts.1.1 puts.1.2 puts.1.3 puts.1.4) c.change.ensures.puts
