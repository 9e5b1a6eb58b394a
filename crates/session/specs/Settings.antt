-- The content of a SETTINGS frame (RFC 9113, sections 6.5.1 and 6.5.2).
use Rattle.std.specs.Prelude.{
  ◌≡◌,
  ℕ,
  ◌^◌,
  ◌<◌,
  ◌||◌,
  nat_lt,
  if◌then◌else◌,
  List,
  ◌++◌,
  flat_map,
  filter_map,
  Option,
  Some,
  None,
}
use Rattle.std.specs.List.{AllByRecursion}
use Rattle.std.specs.Int.{w16, w32, to_be_bytes}
use Rattle.h2frame.specs.declared.setting.SettingId.{SettingId}
use Rattle.h2frame.specs.declared.setting.SettingId.TheVariants.{
  EnablePush,
  InitialWindowSize,
  MaxFrameSize,
}
use Rattle.h2frame.specs.declared.settings.PeerSetting.{PeerSetting}
use Rattle.h2frame.specs.Setting.{setting_of, setting_code}
use Rattle.h2frame.specs.Settings.{told}
use Rattle.reasons.specs.declared.Reason.{Reason}
use Rattle.reasons.specs.declared.Reason.TheVariants.{Setting}
use Rattle.session.specs.declared.settings.Parameter.{Parameter}
use Rattle.session.specs.declared.settings.SettingsFault.{SettingsFault}
use Rattle.session.specs.declared.settings.SettingsFault.TheVariants.{Refused, OutOfMemory}

-- two bytes of number, and four of value
abbrev pub parameter_text : Parameter → List ℕ
parameter_text parameter =
    to_be_bytes w16 (setting_code parameter.id) ++ to_be_bytes w32 parameter.value

pub record IsParameter (parameter : Parameter) : Type 0 where
  pub id : setting_of (setting_code parameter.id) ≡ parameter.id
  pub number : setting_code parameter.id < 2 ^ 16
  pub value : parameter.value < 2 ^ 32

-- the content is the joined texts of these
pub record AreParameters (content : List ℕ) (parameters : List Parameter) : Type 0 where
  pub each : AllByRecursion IsParameter parameters
  pub text : content ≡ flat_map parameter_text parameters

-- the fault of a parameter: server push is neither on nor off, a window has more than 31 bits, or a
-- frame isn't of 2^14 to 2^24 - 1 bytes
abbrev pub unless_within : ℕ → ℕ → ℕ → SettingId → Option Reason
unless_within low high value id =
    if nat_lt value low || nat_lt high value then Some (Setting id) else None

abbrev pub value_fault : SettingId → ℕ → Option Reason
value_fault EnablePush value = unless_within 0 1 value EnablePush
value_fault InitialWindowSize value = unless_within 0 0x7fff_ffff value InitialWindowSize
value_fault MaxFrameSize value = unless_within 16384 16777215 value MaxFrameSize
value_fault _ value = None

abbrev pub parameter_fault : Parameter → Option Reason
parameter_fault parameter = value_fault parameter.id parameter.value

-- no parameter is faulty
abbrev pub AreLawful : List Parameter → Type 0
AreLawful parameters = AllByRecursion (λ parameter. parameter_fault parameter ≡ None) parameters

-- what a parameter means to a server
abbrev pub parameter_told : Parameter → Option PeerSetting
parameter_told parameter = told parameter.id parameter.value

-- the content is lawful parameters, which have these settings in order
abbrev pub Tells : List ℕ → List PeerSetting → Type 0
Tells content settings =
    (parameters : List Parameter) × AreParameters content parameters × AreLawful parameters
    × (settings ≡ filter_map parameter_told parameters)

-- After lawful parameters the first faulty one has this fault, whatever follows it.
pub record IsRefused (content : List ℕ) (why : Reason) : Type 0 where
  pub front : List Parameter
  pub faulty : Parameter
  pub rest : List ℕ
  pub text : content ≡ flat_map parameter_text front ++ (parameter_text faulty ++ rest)
  pub each : AllByRecursion IsParameter front
  pub is_parameter : IsParameter faulty
  pub lawful : AreLawful front
  pub fault : parameter_fault faulty ≡ Some why

abbrev pub IsSettingsFault : List ℕ → SettingsFault → Type 0
IsSettingsFault content (Refused why) = IsRefused content why
IsSettingsFault content OutOfMemory = Unit {0}
