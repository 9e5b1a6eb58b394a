-- The windows of what is sent, as numbers that follow from all that happened on the connection (RFC
-- 9113, section 6.9). A history has the latest step first, so that the rest of the list is what
-- came before a step. No value stores a history.
use Rattle.std.specs.Prelude.{
  ◌≡◌,
  ℕ,
  ◌<◌,
  ◌≤◌,
  min,
  ℤ,
  pos,
  negsuc,
  ◌+ℤ◌,
  ◌-ℤ◌,
  if◌then◌else◌,
  nat_eq,
  List,
  [],
  ◌∷◌,
  Option,
  Some,
  None,
  sum_by,
  IfSome,
  MatchOption,
  ◌⊎◌,
}
use Rattle.std.specs.Option.{option_map, option_map_or}
use Rattle.limits.specs.declared.TheConstants.{INITIAL_WINDOW, MAX_WINDOW}
use Rattle.sendwindows.specs.Windows.{Windows, balance, Fits}

-- what changes a window: a stream is opened; the peer credits bytes to a stream, or to the
-- connection as stream 0; bytes are spent on a stream; the peer sets another initial size; a stream
-- is closed. A history has the latest step first.
pub data Step : Type 0 where
  Opening : ℕ → Step
  Credit : ℕ → ℕ → Step
  Spending : ℕ → ℕ → Step
  Resizing : ℕ → Step
  Closing : ℕ → Step

-- what a step credits to a stream, or to the connection as stream 0
abbrev pub credit_to : ℕ → Step → ℕ
credit_to id (Credit stream n) = if nat_eq id stream then n else 0
credit_to id _ = 0

-- what a step spends on a stream, and on the connection
abbrev pub spending_on : ℕ → Step → ℕ
spending_on id (Spending stream n) = if nat_eq id stream then n else 0
spending_on id _ = 0

abbrev pub spending : Step → ℕ
spending (Spending stream n) = n
spending _ = 0

-- the connection's window: its first size and all credit to it, less all that was spent (section
-- 6.9.1)
abbrev pub connection_window : List Step → ℤ
connection_window history =
    (pos INITIAL_WINDOW +ℤ pos (sum_by (credit_to 0) history)) -ℤ pos (sum_by spending history)

-- the initial size of streams' windows: the one that was set last (section 6.9.2)
abbrev pub initial_size : List Step → ℕ
initial_size [] = INITIAL_WINDOW
initial_size (Resizing n ∷ before) = n
initial_size (_ ∷ before) = initial_size before

-- the steps since a stream was opened, if it is open
abbrev pub since_step : ℕ → Step → Option (List Step) → Option (List Step)
since_step id (Opening stream) steps = if nat_eq id stream then Some [] else steps
since_step id (Closing stream) steps = if nat_eq id stream then None else steps
since_step id (Credit stream n) steps = option_map (λ ss. Credit stream n ∷ ss) steps
since_step id (Spending stream n) steps = option_map (λ ss. Spending stream n ∷ ss) steps
since_step id (Resizing n) steps = steps

abbrev pub since_opening : ℕ → List Step → Option (List Step)
since_opening id [] = None
since_opening id (step ∷ before) = since_step id step (since_opening id before)

-- what was credited to a stream less what was spent on it, in these steps
abbrev pub balance_of : ℕ → List Step → ℤ
balance_of id steps = pos (sum_by (credit_to id) steps) -ℤ pos (sum_by (spending_on id) steps)

-- a stream's window, if it is open: the present initial size, and its balance since it was opened
-- (section 6.9.2)
abbrev pub stream_window : ℕ → List Step → Option ℤ
stream_window id history =
    option_map (λ steps. pos (initial_size history) +ℤ balance_of id steps)
    (since_opening id history)

-- a window's bytes, if it is positive
abbrev pub bytes_of : ℤ → ℕ
bytes_of (pos n) = n
bytes_of (negsuc n) = 0

-- how many bytes may be sent on a stream: what both windows have
abbrev pub room_after : List Step → ℕ → ℕ
room_after history id =
    option_map_or (λ size. min (bytes_of (connection_window history)) (bytes_of size))
    (stream_window id history) 0

-- the stream is open, or is 0, the connection, and with n bytes more its window is at most 2^31 - 1
abbrev pub CanCredit : List Step → ℕ → ℕ → Type 0
CanCredit history id n =
    ((id ≡ 0) × Fits (connection_window history +ℤ pos n))
    ⊎ ((0 < id) × MatchOption (stream_window id history) ⊥ (λ size. Fits (size +ℤ pos n)))

-- with the initial size n no window is larger than 2^31 - 1
abbrev pub CanResize : List Step → ℕ → Type 0
CanResize history n =
    (n ≤ MAX_WINDOW)
    × ((id : ℕ) → 0 < id
    → IfSome (since_opening id history) (λ steps. Fits (pos n +ℤ balance_of id steps)))

-- the windows are those that follow from a history
pub record Follows (history : List Step) (w : Windows) : Type 0 where
  pub connection : pos w.connection ≡ connection_window history
  pub initial : w.initial ≡ initial_size history
  pub balances : (id : ℕ) → 0 < id
      → balance w id ≡ option_map (balance_of id) (since_opening id history)
