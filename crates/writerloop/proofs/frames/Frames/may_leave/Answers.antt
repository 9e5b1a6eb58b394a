use Rattle.writerloop.proofs.frames.Frames.may_leave.Goals as goal

pub returns-clause-unsaid : goal.returns-clause-unsaid
returns-clause-unsaid g c = λ is before run wrote. c.may_leave.ensures.unsaid is run wrote.leads
