use Rattle.std.proofs.Common.{ap, refl}
use Rattle.lane.specs.Ring.{in_name, put_in}
use Rattle.writerloop.specs.Sent.{numbers}
use Rattle.writerloop.proofs.WrittenInbox.{stays-here, stays-same, stays-then}
use Rattle.writerloop.proofs.writing.Writing.release_through.Goals as goal

pub returns-then-not-are_some_through : goal.returns-then-not-are_some_through
returns-then-not-are_some_through g c =
    record { stays = stays-here g.W.ConnWrite.contents g.W.ConnWrite.failed c.args.self.now }

pub calls-init : goal.calls-init
calls-init g c =
    stays-same g.W.ConnWrite.contents g.W.ConnWrite.failed c.args.self.now _ refl
    (record { input = refl; closed = refl; way = ap in_name c.look_through.ensures.home })
    (record {
      numbers = ap (λ calls. numbers calls.items) c.look_through.ensures.calls;
      way = ap put_in c.look_through.ensures.home;
    }) refl refl

pub calls-preserved : goal.calls-preserved
calls-preserved g c =
    stays-then g.W.ConnWrite.contents g.W.ConnWrite.failed _ _ _ c.calls.invariant
    c.release_through_at.ensures.stays
