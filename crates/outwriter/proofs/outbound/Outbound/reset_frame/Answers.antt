use Rattle.std.proofs.Common.{true, refl, subst, sym}
use Rattle.outwriter.specs.Frames.{reset_frame}
use Rattle.outwriter.proofs.TellSteps.{plain-tells}
use Rattle.outwriter.proofs.StateWindows.{still-heard}
use Rattle.outwriter.proofs.EndSteps.{reset-written}
use Rattle.outwriter.specs.Frames.{IsSound}
use Rattle.outwriter.proofs.SoundFrames.{sound-reset}
use Rattle.outwriter.proofs.outbound.Outbound.reset_frame.Goals as goal

pub returns-clause-sound : goal.returns-clause-sound
returns-clause-sound c =
    subst IsSound (sym c.in_ok-frame.ensures)
    (sound-reset c.args.id c.args.code c.requires.stream c.requires.number)

pub returns-clause-written : goal.returns-clause-written
returns-clause-written c = λ run m.
    reset-written run _ _ _ _ _ _ _ _ c.args.id c.args.code _ c.in_ok-frame.ensures
    c.requires.between.begun c.requires.between.going c.requires.between.no_block
    c.requires.stream c.requires.is c.requires.open c.in_ok-end.ensures.windows
    c.in_ok-end.ensures.ok c.in_ok-end.ensures.owed m

pub returns-clause-own : goal.returns-clause-own
returns-clause-own c = (
  (
    refl,
    λ id. (
      (c.in_ok-end.ensures.owed.0 id).0,
      (c.in_ok-end.ensures.owed.0 id).2,
      still-heard c.args.self.now.states c.end.new.self c.args.id true c.in_ok-end.ensures.ok id,
    ),
    c.in_ok-end.ensures.open,
  ),
  (
    (
      _,
      λ run marks spells. (
        spells.0,
        plain-tells run (reset_frame c.args.id c.args.code) c.in_ok-frame.frame
            c.args.self.now.block c.args.self.now.block c.args.self.now.encoder marks
            c.in_ok-frame.ensures (λ begun. refl) c.requires.between.no_block
            c.requires.between.no_block spells.1,
      ),
    ),
    (c.requires.open, c.in_ok-end.ensures.ok),
  ),
)
