-- Worked examples of the definitions, computed.
use Rattle.std.specs.Prelude.{◌≡◌, [], ◌∷◌, refl, Some, None}
use Rattle.h2frame.specs.declared.setting.SettingId.TheVariants.{
  EnablePush,
  InitialWindowSize,
  MaxFrameSize,
  MaxConcurrentStreams,
}
use Rattle.reasons.specs.declared.Reason.TheVariants.{Setting}
use Rattle.session.specs.Settings.{parameter_text, parameter_fault}

-- an initial window of 65,535 bytes
pub window_text : parameter_text (record { id = InitialWindowSize; value = 65535 })
    ≡ 0 ∷ 4 ∷ 0 ∷ 0 ∷ 255 ∷ 255 ∷ []
window_text = refl

pub window_of_32_bits : parameter_fault (record { id = InitialWindowSize; value = 0x8000_0000 })
    ≡ Some (Setting InitialWindowSize)
window_of_32_bits = refl

pub greatest_window : parameter_fault (record { id = InitialWindowSize; value = 0x7fff_ffff })
    ≡ None
greatest_window = refl

pub short_frames : parameter_fault (record { id = MaxFrameSize; value = 16383 })
    ≡ Some (Setting MaxFrameSize)
short_frames = refl

pub half_a_push : parameter_fault (record { id = EnablePush; value = 2 })
    ≡ Some (Setting EnablePush)
half_a_push = refl

pub any_number_of_streams : parameter_fault (record { id = MaxConcurrentStreams; value = 0 }) ≡ None
any_number_of_streams = refl
