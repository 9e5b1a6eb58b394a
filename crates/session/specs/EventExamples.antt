-- Worked examples of a connection's events.
use Rattle.std.specs.Prelude.{ℕ, List, [], ◌∷◌, ◌++◌, refl}
use Rattle.std.proofs.Common.{inl, ap, arith, get_or, lit<}
use Rattle.h2frame.specs.declared.frame.Frame.{Frame}
use Rattle.h2frame.specs.declared.frame.FrameHead.{FrameHead}
use Rattle.h2frame.specs.declared.kind.FrameKind.TheVariants.{Settings}
use Rattle.h2frame.specs.FrameList.{Whole, Spells}
use Rattle.reasons.specs.declared.Reason.TheVariants as reason
use Rattle.session.specs.declared.event.PeerControl.TheVariants as controls
use Rattle.session.specs.declared.event.InEvent.TheVariants as events
use Rattle.session.specs.Prefaces.{preface}
use Rattle.session.specs.Settings.{Tells}
use Rattle.session.specs.Frames.{fatal}
use Rattle.session.specs.Events.{start, Single, Unfinished, Events, Greeted, Departed, Read}

-- as long as the preface is unfinished there are none
pub nothing_yet : Events [] []
nothing_yet = Greeted preface refl refl

pub half_a_preface : Events (0x50 ∷ 0x52 ∷ 0x49 ∷ []) []
half_a_preface =
    Greeted (0x20 ∷ 0x2a ∷ 0x20 ∷ 0x48 ∷ 0x54 ∷ 0x54 ∷ 0x50 ∷ 0x2f ∷ 0x32 ∷ 0x2e ∷ 0x30 ∷ 0x0d
    ∷ 0x0a ∷ 0x0d ∷ 0x0a ∷ 0x53 ∷ 0x4d ∷ 0x0d ∷ 0x0a ∷ 0x0d ∷ 0x0a ∷ []) refl refl

-- the first byte of another protocol's text
pub another_text : Events (0x47 ∷ []) (fatal reason.Preface)
another_text =
    Departed (λ more behind e. absurd (omega (arith, ap (λ (b : List ℕ). get_or b 0 0) e))) refl

-- SETTINGS without a parameter, and its spelling
abbrev pub plain_head : FrameHead
plain_head = record { kind = Settings; flags = record { bits = 0 }; stream = 0; length = 0 }

abbrev pub plain_settings : Frame
plain_settings = record { head = plain_head; content = [] }

abbrev pub settings_text : List ℕ
settings_text = 0 ∷ 0 ∷ 0 ∷ 4 ∷ 0 ∷ 0 ∷ 0 ∷ 0 ∷ 0 ∷ []

pub settings_spelled : Spells settings_text (Whole plain_settings)
settings_spelled = (
  record { reserved = 0; priority = []; padding = [] },
  record {
    head = record { kind = refl; stream = lit< tt; length = lit< tt };
    reserved = lit< tt;
    priority = refl;
    padding = λ e. refl;
    payload = refl;
  },
  refl,
  refl,
)

pub settings_told : Tells [] []
settings_told = ([], record { each = tt; text = refl }, tt, refl)

-- the preface and SETTINGS
pub settings_alone : Events (preface ++ settings_text) (events.Control (controls.Settings []) ∷ [])
settings_alone =
    Read settings_text (Whole plain_settings ∷ []) [] Unfinished refl
    (settings_text, [], refl, settings_spelled, refl) (
    record {
      behind = [];
      before = events.Control (controls.Settings []) ∷ [];
      last = [];
      now = start;
      passes = record {
        groups = Single plain_settings ∷ [];
        parts = refl;
        opens = refl;
        runs = (
          events.Control (controls.Settings []) ∷ [],
          [],
          start,
          ((inl ([], settings_told, refl), refl), refl),
          refl,
          (refl, refl),
          refl,
        );
      };
      closes = (inl refl, inl (lit< tt), refl);
      all = refl;
    })
