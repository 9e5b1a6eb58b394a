use Rattle.std.proofs.Common.{◌∙◌, inl, refl, [], subst, sym, arith}
use Rattle.outwriter.specs.Frames.{update_frame}
use Rattle.outwriter.proofs.TellSteps.{plain-tells}
use Rattle.outwriter.proofs.EndSteps.{update-written}
use Rattle.outwriter.proofs.RunStateSteps.{windows-still}
use Rattle.outwriter.proofs.TellStepsOwn.{none-over}
use Rattle.outwriter.specs.Frames.{IsSound}
use Rattle.outwriter.proofs.SoundFrames.{sound-update}
use Rattle.outwriter.proofs.outbound.Outbound.credit_frame.Goals as goal

pub returns-clause-sound : goal.returns-clause-sound
returns-clause-sound c = subst IsSound (sym c.in_ok-make_update.ensures)
    (sound-update c.in-Some.id c.in-Some.n c.in-Some.ensures.numbered c.in-Some.ensures.takes.0
    (omega (arith, c.in-Some.ensures.takes.1)))

pub returns-clause-frame : goal.returns-clause-frame
returns-clause-frame c = λ run m.
    let next =
    update-written run _ _ _ _ _ _ c.next.new.self (c.in-Some.id, c.in-Some.n) _
    c.in_ok-make_update.ensures
    c.requires.between.begun c.requires.between.going c.requires.between.no_block
    c.in-Some.ensures.takes c.next.ensures.ends m in (
      next.0,
      windows-still _ _ _ c.args.self.now.states.windows c.next.new.self.windows _ _ c.next.new.self
          c.next.ensures.windows next.1,
    )

pub returns-clause-own : goal.returns-clause-own
returns-clause-own c = (
  λ id. (
    (c.in-Some.ensures.takes.5 id).0,
    (c.in-Some.ensures.takes.5 id).2,
    λ e. (c.next.ensures.ends id).1 ∙ e,
  ),
  inl (
    λ run marks spells. (
      spells.0,
      plain-tells run (update_frame c.in-Some.id c.in-Some.n) _ c.args.self.now.block
          c.args.self.now.block c.args.self.now.encoder marks c.in_ok-make_update.ensures
          (λ begun. refl) c.requires.between.no_block c.requires.between.no_block spells.1,
    ),
    c.next.ensures.ends,
    ([], refl, none-over c.args.self.now),
  ),
  c.next.ensures.open,
)
