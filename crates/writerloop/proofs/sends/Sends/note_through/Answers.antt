use Rattle.std.proofs.Common.{refl}
use Rattle.writerloop.proofs.CallSteps.{same-noted}
use Rattle.writerloop.proofs.sends.Sends.note_through.Goals as goal

pub returns-in-Some-get_mut-clause-same : goal.returns-in-Some-get_mut-clause-same
returns-in-Some-get_mut-clause-same g c =
    same-noted c.args.self.now.calls.items c.in-Some.place c.in-Some-get_mut.call.now _
    c.in-Some-get_mut.ensures.value refl refl
