-- What passes through a device, and what its tap sees.
use Rattle.std.specs.Prelude.{◌≡◌, ⊤, ℕ, List, [], ◌∷◌, ◌++◌, Option, Some, None}
use Rattle.tap.specs.declared.tapped_device.TappedDevice.{TappedDevice}

-- the device
abbrev pub device_of : {D T : Type 0} → TappedDevice D T → D
device_of tapped = tapped.device

-- its tap, if it has one
abbrev pub tap_of : {D T : Type 0} → TappedDevice D T → Option T
tap_of tapped = tapped.tap

pub data Way : Type 0 where
  read : Way
  written : Way

-- bytes that passed at once
pub record Piece : Type 0 where
  pub way : Way
  pub bytes : List ℕ

-- These bytes come after what was seen, if that is known.
abbrev pub Sees : Option (List Piece) → Option (List Piece) → Way → List ℕ → Type 0
Sees None new way bytes = ⊤
Sees (Some old) None way bytes = ⊥
Sees (Some old) (Some new) way bytes = new ≡ old ++ (record { way = way; bytes = bytes } ∷ [])

-- The tap of a device, if it has one, sees these bytes.
abbrev pub IsShown : {T : Type 0} → (T → Option (List Piece)) → Option T → Option T
    → Way → List ℕ → Type 0
IsShown seen None new way bytes = new ≡ None
IsShown seen (Some old) None way bytes = ⊥
IsShown seen (Some old) (Some new) way bytes = Sees (seen old) (seen new) way bytes
