use Rattle.std.proofs.Common.{rules, refl, subst}
use Rattle.outwriter.specs.Releases.{MovedTo}
use Rattle.outwriter.specs.States.{open_at}
use Rattle.outwriter.proofs.ReturnSteps.{has-ended, released, released-entry}
use Rattle.outwriter.proofs.RunStateSteps.{but-open}
use Rattle.outwriter.proofs.out_core.OutCore.release.Goals as goal

pub returns-clause-leads : goal.returns-clause-leads
returns-clause-leads g c =
    let old = c.args.self.now.sending in
    released g.L.Lane.got c.args.self.now
    (record c.args.self.now {
      sending = record old {
        senders = c.swap_remove-id.new.self;
        outbound = record old.outbound { states = c.move_last.new.states };
      };
    }) c.in_ok-place.place c.args.id
    c.swap_remove-id.result refl
    (but-open old.outbound c.move_last.new.states c.move_last.ensures.stands)
    c.in_ok-place.ensures.some c.swap_remove-id.ensures.value c.swap_remove-id.ensures.items
    (search rules)
    (subst (λ senders.
    MovedTo c.in_ok-place.place senders (open_at old.outbound.states)
    (open_at c.move_last.new.states)) c.as_slice.ensures.value c.move_last.ensures.moved)

pub returns-clause-releases : goal.returns-clause-releases
returns-clause-releases g c =
    released-entry g.L.Lane.got c.args.self.now.sending.senders.items
    c.swap_remove-id.new.self.items c.in_ok-place.place c.args.id c.swap_remove-id.result
    c.in_ok-place.ensures.some c.swap_remove-id.ensures.value c.swap_remove-id.ensures.items
    c.in_ok-place.ensures.first

pub returns-clause-ended : goal.returns-clause-ended
returns-clause-ended g c = has-ended g.L.Lane.got c.args.self.now c.args.id (search rules)
