-- What the parameters of SETTINGS mean to the side that writes (RFC 9113, section 6.5.2).
use Rattle.std.specs.Prelude.{ℕ, Option, Some, None}
use Rattle.h2frame.specs.declared.setting.SettingId.{SettingId}
use Rattle.h2frame.specs.declared.setting.SettingId.TheVariants.{HeaderTableSize, InitialWindowSize}
use Rattle.h2frame.specs.declared.settings.PeerSetting.{PeerSetting}
use Rattle.h2frame.specs.declared.settings.PeerSetting.TheVariants.{TableSize, WindowSize}

-- the setting of a parameter, if a server that pushes nothing needs it
abbrev pub told : SettingId → ℕ → Option PeerSetting
told HeaderTableSize value = Some (TableSize value)
told InitialWindowSize value = Some (WindowSize value)
told _ value = None
