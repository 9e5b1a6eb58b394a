use Rattle.std.proofs.Common.{[], ◌∷◌, refl}
use Rattle.outwriter.specs.Steps.{Taken, order_of}
use Rattle.writerloop.proofs.WroteSteps.{
  core-on,
  handed-back,
  handed-leads,
  overflow-leads,
  overflow-whose,
}
use Rattle.writerloop.proofs.frames.Frames.take.Goals as goal

pub returns-in-Ok-clause-wrote : goal.returns-in-Ok-clause-wrote
returns-in-Ok-clause-wrote g c = λ unused.
    core-on g.L.Lane.got g.W.ConnWrite.contents g.W.ConnWrite.failed
    (Taken (order_of c.args.control) ∷ []) c.args.self.now c.control.new.self (λ run. refl)
    (c.in-Ok.ensures.leads unused)

pub returns-in-Err-OutOfMemory-Some-clause-wrote : goal.returns-in-Err-OutOfMemory-Some-clause-wrote
returns-in-Err-OutOfMemory-Some-clause-wrote g c = λ unused.
    core-on g.L.Lane.got g.W.ConnWrite.contents g.W.ConnWrite.failed [] c.args.self.now
    c.control.new.self (λ run. refl)
    (handed-leads g.L.Lane.got c.in-Err-OutOfMemory-Some.field-0 c.in-Err-OutOfMemory-Some.field-0-0
    c.args.control c.args.self.now.core c.control.new.self
    c.in-Err-OutOfMemory-Some.field-0-is c.in-Err-OutOfMemory-Some.ensures.leads)

pub returns-in-Ok-end-clause-wrote : goal.returns-in-Ok-end-clause-wrote
returns-in-Ok-end-clause-wrote g c = λ unused before run w.
    c.in-Ok-end.ensures.wrote before (Taken (order_of c.args.control) ∷ run)
    (core-on g.L.Lane.got g.W.ConnWrite.contents g.W.ConnWrite.failed
    (Taken (order_of c.args.control) ∷ []) c.args.self.now c.control.new.self (λ run. refl)
    (overflow-leads g.L.Lane.got c.in-Err-PeerWindow.field-0 c.in-Err-PeerWindow.id c.args.control
    c.args.self.now.core c.control.new.self
    c.in-Err-PeerWindow.field-0-is c.in-Err-PeerWindow.ensures.leads) before run w)

pub returns-in-Err-clause-wrote : goal.returns-in-Err-clause-wrote
returns-in-Err-clause-wrote g c = λ unused before run w.
    c.in-Err.ensures.still before (Taken (order_of c.args.control) ∷ run)
    (core-on g.L.Lane.got g.W.ConnWrite.contents g.W.ConnWrite.failed
    (Taken (order_of c.args.control) ∷ []) c.args.self.now c.control.new.self (λ run. refl)
    (overflow-leads g.L.Lane.got c.in-Err-PeerWindow.field-0 c.in-Err-PeerWindow.id c.args.control
    c.args.self.now.core c.control.new.self
    c.in-Err-PeerWindow.field-0-is c.in-Err-PeerWindow.ensures.leads) before run w)

pub returns-in-Err-OutOfMemory-Some-clause-whose : goal.returns-in-Err-OutOfMemory-Some-clause-whose
returns-in-Err-OutOfMemory-Some-clause-whose g c =
    handed-back g.L.Lane.got c.in-Err-OutOfMemory-Some.field-0 c.in-Err-OutOfMemory-Some.field-0-0
    c.in-Err-OutOfMemory-Some.back c.args.control c.args.self.now.core c.control.new.self
    c.in-Err-OutOfMemory-Some.field-0-is c.in-Err-OutOfMemory-Some.field-0-0-is
    c.in-Err-OutOfMemory-Some.ensures.leads

pub returns-in-Ok-end-clause-whose : goal.returns-in-Ok-end-clause-whose
returns-in-Ok-end-clause-whose g c =
    overflow-whose g.L.Lane.got c.in-Err-PeerWindow.field-0 c.in-Err-PeerWindow.id c.args.control
    c.in-Err-PeerWindow.field-0-is c.in-Err-PeerWindow.ensures.whose

pub returns-in-Err-clause-whose : goal.returns-in-Err-clause-whose
returns-in-Err-clause-whose g c =
    overflow-whose g.L.Lane.got c.in-Err-PeerWindow.field-0 c.in-Err-PeerWindow.id c.args.control
    c.in-Err-PeerWindow.field-0-is c.in-Err-PeerWindow.ensures.whose
