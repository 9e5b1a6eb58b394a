use Rattle.std.proofs.Common.{inl, refl, [], subst, sym}
use Rattle.outwriter.specs.Frames.{first_settings}
use Rattle.outwriter.proofs.TellSteps.{plain-tells}
use Rattle.outwriter.proofs.FrameSteps.{first-written}
use Rattle.outwriter.proofs.TellStepsOwn.{none-over}
use Rattle.outwriter.specs.Frames.{IsSound}
use Rattle.outwriter.proofs.SoundFrames.{sound-settings}
use Rattle.outwriter.proofs.outbound.Outbound.first_frame.Goals as goal

pub returns-clause-sound : goal.returns-clause-sound
returns-clause-sound c = subst IsSound (sym c.make_first_settings.ensures) sound-settings

pub returns-clause-written : goal.returns-clause-written
returns-clause-written c = λ run m.
    first-written run _ _ _ _ _ _ _ c.make_first_settings.ensures c.requires.begun
    c.requires.going m

pub returns-clause-own : goal.returns-clause-own
returns-clause-own c = (
  λ id. (refl, refl, λ e. e),
  inl (
    λ run marks spells. (
      λ e. cc,
      plain-tells run first_settings _ c.args.self.now.block c.args.self.now.block
          c.args.self.now.encoder marks c.make_first_settings.ensures
          (λ begun. refl) (spells.0 c.requires.begun) (spells.0 c.requires.begun) spells.1,
    ),
    λ id. (refl, refl),
    ([], refl, none-over c.args.self.now),
  ),
  refl,
)
