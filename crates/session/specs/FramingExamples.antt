-- Worked examples of the frames that count.
use Rattle.std.specs.Prelude.{[], ◌∷◌, ◌++◌, refl}
use Rattle.std.proofs.Common.{inl, inr, lit<}
use Rattle.h2frame.specs.FrameList.{Whole}
use Rattle.session.specs.declared.event.PeerControl.TheVariants as controls
use Rattle.session.specs.declared.event.InEvent.TheVariants as events
use Rattle.session.specs.Prefaces.{preface}
use Rattle.session.specs.Events.{start, Single, Unfinished}
use Rattle.session.specs.Framings.{Framed}
use Rattle.session.specs.EventExamples.{
  plain_settings,
  settings_text,
  settings_spelled,
  settings_told,
}

-- before the first byte none counts
pub no_frame_yet : Framed [] [] []
no_frame_yet = inl (inl (preface, refl, refl), refl)

-- the preface, SETTINGS, and the first three bytes of another frame
pub settings_counted :
    Framed (preface ++ settings_text ++ 0 ∷ 0 ∷ 8 ∷ []) (events.Control (controls.Settings []) ∷ [])
    (Whole plain_settings ∷ [])
settings_counted =
    inr (record {
      text = settings_text ++ 0 ∷ 0 ∷ 8 ∷ [];
      behind = [];
      rest = 0 ∷ 0 ∷ 8 ∷ [];
      before = events.Control (controls.Settings []) ∷ [];
      last = [];
      now = start;
      close = Unfinished;
      greeted = refl;
      joined = (settings_text, 0 ∷ 0 ∷ 8 ∷ [], refl, settings_spelled, refl);
      passes = record {
        groups = Single plain_settings ∷ [];
        parts = refl;
        opens = refl;
        runs = (
          events.Control (controls.Settings []) ∷ [],
          [],
          start,
          ((inl ([], settings_told, refl), refl), refl),
          refl,
          (refl, refl),
          refl,
        );
      };
      closes = (inl refl, inl (lit< tt), refl);
      all = refl;
    })
