-- Worked windows, computed.
use Rattle.std.specs.Prelude.{◌≡◌, refl, [], ◌∷◌, pos, negsuc, Some, None}
use Rattle.sendwindows.specs.Windows.{
  Windows,
  new_windows,
  opened,
  with_balance,
  closed,
  window,
  room,
}

-- stream 1 has sent 40,000 bytes, and the initial size is 0 now
abbrev pub below_zero : Windows
below_zero = record { connection = 25535; initial = 0; balances = (1, negsuc 39999) ∷ [] }

pub a_new_stream : room (opened new_windows 1) 1 ≡ 65535
a_new_stream = refl

pub no_stream : room new_windows 1 ≡ 0
no_stream = refl

pub forty_thousand_below : window below_zero 1 ≡ Some (negsuc 39999)
forty_thousand_below = refl

pub no_room_below_zero : room below_zero 1 ≡ 0
no_room_below_zero = refl

pub one_byte_above : room (with_balance below_zero 1 (pos 1)) 1 ≡ 1
one_byte_above = refl

pub no_window_once_closed : window (closed below_zero 1) 1 ≡ None
no_window_once_closed = refl
