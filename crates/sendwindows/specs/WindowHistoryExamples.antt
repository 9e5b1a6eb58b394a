-- Worked histories, computed: a smaller initial size takes a window below zero, and credit brings
-- it back.
use Rattle.std.specs.Prelude.{◌≡◌, refl, List, [], ◌∷◌, pos, negsuc, Some, None}
use Rattle.sendwindows.specs.WindowHistory.{
  Step,
  Opening,
  Credit,
  Spending,
  Resizing,
  Closing,
  connection_window,
  stream_window,
  room_after,
}

abbrev pub below_zero : List Step
below_zero = Resizing 0 ∷ Spending 1 40000 ∷ Opening 1 ∷ []

pub connection_has_the_rest : connection_window below_zero ≡ pos 25535
connection_has_the_rest = refl

pub forty_thousand_below : stream_window 1 below_zero ≡ Some (negsuc 39999)
forty_thousand_below = refl

pub nothing_at_zero : room_after (Credit 1 40000 ∷ below_zero) 1 ≡ 0
nothing_at_zero = refl

pub one_byte_above : room_after (Credit 1 1 ∷ Credit 1 40000 ∷ below_zero) 1 ≡ 1
one_byte_above = refl

-- a new stream has the present size, and no credit of an earlier stream
pub later_stream : stream_window 3 (Opening 3 ∷ Credit 1 9 ∷ Resizing 100 ∷ below_zero)
    ≡ Some (pos 100)
later_stream = refl

pub closed_stream : stream_window 1 (Closing 1 ∷ below_zero) ≡ None
closed_stream = refl
