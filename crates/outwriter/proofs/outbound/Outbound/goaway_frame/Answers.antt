use Rattle.std.proofs.Common.{refl, sym, ap, ◌∙◌, ◌==◌, ℕ}
use Rattle.std.specs.Prelude.{not}
use Rattle.std.proofs.lemmas.Nat.{from_be_bytes-to_be_bytes_4}
use Rattle.outwriter.specs.declared.due.Due.TheVariants.{Goaway}
use Rattle.outwriter.specs.Frames.{goaway_frame}
use Rattle.outwriter.proofs.TellSteps.{plain-tells}
use Rattle.outwriter.proofs.FrameSteps.{due-written, goaway-plain}
use Rattle.outwriter.specs.Frames.{IsSound}
use Rattle.outwriter.proofs.SoundFrames.{sound-goaway}
use Rattle.outwriter.proofs.outbound.Outbound.goaway_frame.Goals as goal
use Rattle.h2frame.specs.ErrorCode.{error_number}
use Rattle.reasons.specs.Codes.{code_of}
use Rattle.std.proofs.Common.{subst, ◌<◌, ◌^◌}

pub returns-clause-sound : goal.returns-clause-sound
returns-clause-sound c =
    subst IsSound (sym c.in_ok-frame.ensures) (sound-goaway c.args.last c.args.reason)

pub returns-clause-written : goal.returns-clause-written
returns-clause-written c = λ run m.
    due-written run _ _ _ _ (Goaway c.args.last c.args.reason) _ _ _ _
    (goaway_frame c.args.last c.args.reason) c.in_ok-frame.ensures c.requires.begun c.requires.going
    c.requires.no_block
    (goaway-plain c.args.last c.args.reason) refl refl refl (λ e. cc)
    (ap (λ (n : ℕ). not (n == 0)) (from_be_bytes-to_be_bytes_4
    (error_number (code_of c.args.reason))
    (let P : ℕ → Type 0 = λ n. n < 2 ^ 32 in subst P c.number.ensures c.number.type_inv)
    ∙ sym c.number.ensures)) m

pub returns-clause-own : goal.returns-clause-own
returns-clause-own c = (
  (refl, λ id. (refl, refl, λ e. e), refl),
  (
    λ run marks spells. (
      spells.0,
      plain-tells run (goaway_frame c.args.last c.args.reason) _ c.args.self.now.block
          c.args.self.now.block c.args.self.now.encoder marks c.in_ok-frame.ensures
          (λ begun. refl) c.requires.no_block c.requires.no_block spells.1,
    ),
    λ id. (refl, refl),
  ),
)
