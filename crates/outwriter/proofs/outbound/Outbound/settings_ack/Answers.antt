use Rattle.std.proofs.Common.{refl, sym, subst}
use Rattle.outwriter.specs.declared.due.Due.TheVariants.{SettingsAck}
use Rattle.outwriter.specs.Frames.{settings_ack}
use Rattle.outwriter.proofs.TellSteps.{plain-tells}
use Rattle.outwriter.proofs.FrameSteps.{due-written, ack-plain}
use Rattle.outwriter.specs.Frames.{IsSound}
use Rattle.outwriter.proofs.SoundFrames.{sound-settings-ack}
use Rattle.outwriter.proofs.outbound.Outbound.settings_ack.Goals as goal

pub returns-clause-sound : goal.returns-clause-sound
returns-clause-sound c = subst IsSound (sym c.make_settings_ack.ensures) sound-settings-ack

pub returns-clause-written : goal.returns-clause-written
returns-clause-written c = λ run m.
    due-written run _ _ _ _ SettingsAck _ _ _ _ settings_ack c.make_settings_ack.ensures
    c.requires.begun c.requires.going c.requires.no_block
    ack-plain refl refl refl (λ e. cc) (sym c.requires.going) m

pub returns-clause-own : goal.returns-clause-own
returns-clause-own c = (
  (refl, λ id. (refl, refl, λ e. e), refl),
  (
    λ run marks spells. (
      spells.0,
      plain-tells run settings_ack _ c.args.self.now.block c.args.self.now.block
          c.args.self.now.encoder marks c.make_settings_ack.ensures
          (λ begun. refl) c.requires.no_block c.requires.no_block spells.1,
    ),
    λ id. (refl, refl),
  ),
)
