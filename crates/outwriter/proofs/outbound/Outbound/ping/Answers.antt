use Rattle.std.proofs.Common.{◌≡◌, refl, sym, subst, arith}
use Rattle.std.proofs.lemmas.Result.{IfOk-weaker}
use Rattle.h2frame.specs.declared.frame.Frame.{Frame}
use Rattle.outwriter.specs.declared.due.Due.TheVariants.{Ping}
use Rattle.outwriter.specs.Frames.{ping_frame}
use Rattle.outwriter.specs.RunState.{WritesDue}
use Rattle.outwriter.specs.ToldByNow.{OwnByDue}
use Rattle.outwriter.proofs.TellSteps.{plain-tells}
use Rattle.outwriter.proofs.FrameSteps.{due-written, ping-plain}
use Rattle.outwriter.specs.Frames.{IsSound}
use Rattle.outwriter.proofs.SoundFrames.{sound-ping}
use Rattle.outwriter.proofs.outbound.Outbound.ping.Goals as goal

pub returns-clause-sound : goal.returns-clause-sound
returns-clause-sound c =
    IfOk-weaker c.make_ping.result (λ (frame : Frame). frame ≡ ping_frame c.args.bytes) IsSound
    (λ frame is. subst IsSound (sym is) (sound-ping c.args.bytes (omega (arith, c.well_formed))))
    c.make_ping.ensures

pub returns-clause-written : goal.returns-clause-written
returns-clause-written c =
    IfOk-weaker c.make_ping.result (λ (frame : Frame). frame ≡ ping_frame c.args.bytes)
    (λ (frame : Frame). WritesDue (Ping c.args.bytes) frame c.args.self.now c.args.self.now)
    (λ frame is run m.
    due-written run _ _ _ _ (Ping c.args.bytes) _ _ _ _ (ping_frame c.args.bytes) is
    c.requires.begun c.requires.going c.requires.no_block
    (ping-plain c.args.bytes) refl refl refl (λ e. cc) (sym c.requires.going) m)
    c.make_ping.ensures

pub returns-clause-own : goal.returns-clause-own
returns-clause-own c =
    IfOk-weaker c.make_ping.result (λ (frame : Frame). frame ≡ ping_frame c.args.bytes)
    (λ (frame : Frame). OwnByDue (Ping c.args.bytes) frame c.args.self.now c.args.self.now)
    (λ frame is. (
      (refl, λ id. (refl, refl, λ e. e), refl),
      (
        λ run marks spells. (
          spells.0,
          plain-tells run (ping_frame c.args.bytes) _ c.args.self.now.block c.args.self.now.block
              c.args.self.now.encoder marks is
              (λ begun. refl) c.requires.no_block c.requires.no_block spells.1,
        ),
        λ id. (refl, refl),
      ),
    ))
    c.make_ping.ensures
