-- The windows of what is sent (RFC 9113, section 6.9): that of the connection, and one for each
-- open stream.
use Rattle.std.specs.Prelude.{
  ◌≡◌,
  ℕ,
  ◌+◌,
  ◌<◌,
  ◌≤◌,
  ◌^◌,
  min,
  ℤ,
  pos,
  negsuc,
  ◌+ℤ◌,
  ◌≤ℤ◌,
  ◌<ℤ◌,
  List,
  [],
  ◌∷◌,
  ◌++◌,
  All,
  Option,
  Some,
  None,
  MatchOption,
  Result,
  Ok,
  Err,
  nat_eq,
  ◌⊎◌,
  is_some,
  false,
}
use Rattle.std.specs.Option.{option_map}
use Rattle.std.specs.Map.{lookup, set_value, remove_entry, values_of}
use Rattle.limits.specs.declared.TheConstants.{MAX_WINDOW, INITIAL_WINDOW}
use Rattle.sendwindows.specs.declared.send_windows.WindowFault.{WindowFault}
use Rattle.sendwindows.specs.declared.send_windows.WindowFault.TheVariants.{
  Overflow,
  NoRoom,
  Unknown,
  OutOfMemory,
}

-- the numbers of the faults
abbrev pub code_of : WindowFault → ℕ
code_of Overflow = 1
code_of NoRoom = 2
code_of Unknown = 3
code_of OutOfMemory = 4

-- what all streams share: the connection's window, and the initial size of a stream's
pub record SharedWindow : Type 0 where
  pub connection : ℕ
  pub initial : ℕ

-- what all streams share, and for each open stream its balance: what was credited less what was
-- spent since it was opened
pub record Windows : Type 0 where
  pub connection : ℕ
  pub initial : ℕ
  pub balances : List (ℕ × ℤ)

-- the balance of a stream, if it is open
abbrev pub balance : Windows → ℕ → Option ℤ
balance w id = lookup (nat_eq id) w.balances

-- the window of a stream, if it is open: it moves with the initial size (section 6.9.2)
abbrev pub window : Windows → ℕ → Option ℤ
window w id = option_map (λ b. pos w.initial +ℤ b) (balance w id)

-- the lesser of the connection's window and a stream's, where both are positive
abbrev pub lesser : ℕ → ℤ → ℕ
lesser connection (pos n) = min connection n
lesser connection (negsuc n) = 0

abbrev pub lesser_if_open : ℕ → Option ℤ → ℕ
lesser_if_open connection (Some size) = lesser connection size
lesser_if_open connection None = 0

-- how many bytes may be sent on a stream
abbrev pub room : Windows → ℕ → ℕ
room w id = lesser_if_open w.connection (window w id)

-- a new connection
abbrev pub new_shared : SharedWindow
new_shared = record { connection = INITIAL_WINDOW; initial = INITIAL_WINDOW }

abbrev pub new_windows : Windows
new_windows = record { connection = INITIAL_WINDOW; initial = INITIAL_WINDOW; balances = [] }

-- a further stream, of the initial size
abbrev pub opened : Windows → ℕ → Windows
opened w id = record w { balances = w.balances ++ (id, pos 0) ∷ [] }

-- an open stream has another balance
abbrev pub with_balance : Windows → ℕ → ℤ → Windows
with_balance w id b = record w { balances = set_value (nat_eq id) w.balances b }

-- a stream is no longer open
abbrev pub closed : Windows → ℕ → Windows
closed w id = record w { balances = remove_entry (nat_eq id) w.balances }

-- a window that is lawful (section 6.9.1)
abbrev pub Fits : ℤ → Type 0
Fits size = size ≤ℤ pos MAX_WINDOW

-- what all streams share is lawful
pub record AreLawful (shared : SharedWindow) : Type 0 where
  pub connection_fits : shared.connection ≤ MAX_WINDOW
  pub initial_fits : shared.initial ≤ MAX_WINDOW

-- the initial size n is lawful, and so is every stream's window with it
abbrev pub FitsAt : Windows → ℕ → Type 0
FitsAt w n = (n ≤ MAX_WINDOW) × All (λ b. Fits (pos n +ℤ b)) (values_of w.balances)

-- a credit of n meets the fault
abbrev pub CreditFault : Windows → ℕ → ℕ → WindowFault → Type 0
CreditFault w id n Unknown = (0 < id) × (window w id ≡ None)
CreditFault w id n Overflow =
    ((id ≡ 0) × (MAX_WINDOW < w.connection + n))
    ⊎ ((0 < id) × MatchOption (window w id) ⊥ (λ size. pos MAX_WINDOW <ℤ (size +ℤ pos n)))
CreditFault w id n NoRoom = ⊥
CreditFault w id n OutOfMemory = ⊥

-- spending n bytes meets the fault
abbrev pub SpendFault : Windows → ℕ → ℕ → WindowFault → Type 0
SpendFault w id n Unknown = window w id ≡ None
SpendFault w id n NoRoom = MatchOption (window w id) ⊥ (λ size. lesser w.connection size < n)
SpendFault w id n Overflow = ⊥
SpendFault w id n OutOfMemory = ⊥

-- an answer is the fault that holds, and is Ok exactly where none holds
abbrev pub Meets : (WindowFault → Type 0) → Result (Unit {0}) WindowFault → Type 0
Meets Stands (Ok _) = (fault : WindowFault) → ¬ Stands fault
Meets Stands (Err fault) = Stands fault

-- a balance with which the window is lawful, and that is at least -2^31 - 1: no spending takes it
-- lower
abbrev pub IsBalance : ℕ → ℤ → Type 0
IsBalance initial b = Fits (pos initial +ℤ b) × (negsuc (2 ^ 31) ≤ℤ b)

-- what always holds of the windows; the connection isn't among the streams
pub record IsWithin (connection initial : ℕ) (balances : List (ℕ × ℤ)) : Type 0 where
  pub connection_fits : connection ≤ MAX_WINDOW
  pub initial_fits : initial ≤ MAX_WINDOW
  pub each : All (IsBalance initial) (values_of balances)
  pub apart : is_some (lookup (nat_eq 0) balances) ≡ false

-- The law of the windows, at any time.
abbrev pub IsLawful : Windows → Type 0
IsLawful w = IsWithin w.connection w.initial w.balances
