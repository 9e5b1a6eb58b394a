use Rattle.std.proofs.Common.{[], ◌∷◌, refl}
use Rattle.outwriter.specs.Steps.{Taken}
use Rattle.writerloop.specs.OwnOrders.{own_order}
use Rattle.writerloop.proofs.WroteSteps.{core-on, handed-leads, own-leads}
use Rattle.writerloop.proofs.frames.Frames.end.Goals as goal
use Rattle.writerloop.proofs.frames.Frames.end.Goals.{in-Ok, in-Err-OutOfMemory}

pub returns-clause-wrote : goal.returns-clause-wrote
returns-clause-wrote g c = elim c.match-control.branch [
  | in-Ok w ↦ rw (w.result-is, w.self-is)
      (core-on g.L.Lane.got g.W.ConnWrite.contents g.W.ConnWrite.failed
      (Taken (own_order c.args.last c.args.id) ∷ []) c.args.self.now
      c.control.new.self (λ run. refl)
      (own-leads g.L.Lane.got c.args.last c.args.id c.own_order.result c.args.self.now.core
      c.control.new.self c.own_order.ensures w.in-Ok.ensures.leads))
  | in-Err-OutOfMemory w ↦ rw w.result-is tt
]

pub returns-clause-still : goal.returns-clause-still
returns-clause-still g c = elim c.match-control.branch [
  | in-Ok w ↦ rw w.result-is tt
  | in-Err-OutOfMemory w ↦ rw (w.result-is, w.self-is) (λ before run h.
      w.stop.ensures.wrote before run (core-on g.L.Lane.got g.W.ConnWrite.contents
      g.W.ConnWrite.failed [] c.args.self.now c.control.new.self (λ run. refl)
      (handed-leads g.L.Lane.got w.in-Err-OutOfMemory.field-0 _ c.own_order.result
      c.args.self.now.core c.control.new.self w.in-Err-OutOfMemory.field-0-is
      w.in-Err-OutOfMemory.ensures.leads)
      before run h))
]
