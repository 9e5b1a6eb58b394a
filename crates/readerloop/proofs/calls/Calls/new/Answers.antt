use Rattle.std.proofs.Common.{refl}
use Rattle.readerloop.proofs.KeptSteps.{kept-none-yet}
use Rattle.readerloop.proofs.KeptCalls.{kept-as}
use Rattle.readerloop.proofs.calls.Calls.new.Goals as goal

pub returns-clause-kept : goal.returns-clause-kept
returns-clause-kept g c = λ sent.
    kept-as _ _ _ _ _ _ _ c.new.ensures.items c.new-2.ensures refl kept-none-yet
