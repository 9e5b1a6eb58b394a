-- The parameters of SETTINGS and their numbers (RFC 9113, section 6.5.2).
use Rattle.std.specs.Prelude.{ℕ, ◌==◌, if◌then◌else◌}
use Rattle.h2frame.specs.declared.setting.SettingId.{SettingId}
use Rattle.h2frame.specs.declared.setting.SettingId.TheVariants.{
  HeaderTableSize,
  EnablePush,
  MaxConcurrentStreams,
  InitialWindowSize,
  MaxFrameSize,
  MaxHeaderListSize,
  Unknown,
}

-- the number of a parameter
abbrev pub setting_code : SettingId → ℕ
setting_code HeaderTableSize = 1
setting_code EnablePush = 2
setting_code MaxConcurrentStreams = 3
setting_code InitialWindowSize = 4
setting_code MaxFrameSize = 5
setting_code MaxHeaderListSize = 6
setting_code (Unknown code) = code

-- the parameter of a number
abbrev pub setting_of : ℕ → SettingId
setting_of n =
    if n == 1 then HeaderTableSize
    else (if n == 2 then EnablePush
    else (if n == 3 then MaxConcurrentStreams
    else (if n == 4 then InitialWindowSize
    else (if n == 5 then MaxFrameSize
    else (if n == 6 then MaxHeaderListSize
    else Unknown n)))))
