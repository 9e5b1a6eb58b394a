-- The windows of a run (RFC 9113, section 6.9): what each step does to them.
use Rattle.std.specs.Prelude.{
  ◌&&◌,
  not,
  nat_lt,
  nat_le,
  is_some,
  ◌||◌,
  ◌≡◌,
  ◌==◌,
  ℕ,
  ◌⊎◌,
  Bool,
  true,
  false,
  All,
  List,
  [],
  ◌∷◌,
  ◌++◌,
  reverse,
  map,
  flat_map,
  if◌then◌else◌,
}
use Rattle.std.specs.List.{list_any}
use Rattle.limits.specs.declared.TheConstants.{MAX_WINDOW}
use Rattle.sendwindows.specs.WindowHistory.{
  Opening,
  Credit,
  Spending,
  Resizing,
  Closing,
  since_opening,
  CanCredit,
  CanResize,
}
use Rattle.sendwindows.specs.WindowHistory.{Step as WindowStep}
use Rattle.h2frame.specs.declared.frame.Frame.{Frame}
use Rattle.outwriter.specs.declared.control.WriterOrder.TheVariants.{
  Settings,
  Ping,
  Probe,
  Window,
  Open,
  Refuse,
  Reset,
  Goaway,
  InputEnded,
  Close,
}
use Rattle.h2frame.specs.declared.settings.PeerSetting.{PeerSetting}
use Rattle.h2frame.specs.declared.settings.PeerSetting.TheVariants.{TableSize, WindowSize}
use Rattle.outwriter.specs.Frames.{is_data, ends_stream, is_reset, resets, ends}
use Rattle.outwriter.specs.Steps.{Step, Order, Taken, Granted, Written, Returned, frames_of}

-- the initial sizes of windows that SETTINGS set, in their order
abbrev pub window_size : PeerSetting → List ℕ
window_size (WindowSize size) = size ∷ []
window_size (TableSize size) = []

abbrev pub window_sizes : List PeerSetting → List ℕ
window_sizes settings = flat_map window_size settings

-- the limits of the header table that SETTINGS set, in their order (RFC 7541, section 4.2)
abbrev pub table_size : PeerSetting → List ℕ
table_size (TableSize size) = size ∷ []
table_size (WindowSize size) = []

abbrev pub table_sizes : List PeerSetting → List ℕ
table_sizes settings = flat_map table_size settings

-- there is a window: that of the connection as stream 0, or of a stream that is open
abbrev pub HasWindow : List WindowStep → ℕ → Type 0
HasWindow history id = (id ≡ 0) ⊎ (is_some (since_opening id history) ≡ true)

-- the window would be larger than 2^31 - 1 with n bytes more
abbrev pub Overflows : List WindowStep → ℕ → ℕ → Type 0
Overflows history id n = HasWindow history id × (¬ CanCredit history id n)

-- whether an RST_STREAM or an END_STREAM was written on a stream
abbrev pub is_over : ℕ → List Step → Bool
is_over id run = list_any (λ frame. resets id frame || ends id frame) (frames_of run)

-- a control that resets this stream
abbrev pub resets_stream : ℕ → Order → Bool
resets_stream id (Reset stream code written) = id == stream
resets_stream id _ = false

-- a Reset of the stream was taken, whether or not it is to be written: by this side, or by the
-- peer's RST_STREAM
abbrev pub was_reset : ℕ → List Step → Bool
was_reset id [] = false
was_reset id (Taken order ∷ before) = resets_stream id order || was_reset id before
was_reset id (Granted stream n ∷ before) = was_reset id before
was_reset id (Returned stream items ∷ before) = was_reset id before
was_reset id (Written frame ∷ before) = was_reset id before

-- the number of a stream (section 5.1.1)
abbrev pub is_stream : ℕ → Bool
is_stream id = nat_lt 0 id && nat_le id MAX_WINDOW

-- an Open opens the window of its stream, unless that is open, or the stream is over or was reset
abbrev pub opens : List Step → List WindowStep → ℕ → Bool
opens run history id =
    is_stream id
    && ((not (is_over id run) && not (was_reset id run))
    && not (is_some (since_opening id history)))

-- A control that is taken after a run leads from one history to the next. One that would make a
-- window larger than 2^31 - 1 changes none; nor does credit on a stream that isn't open. A Reset
-- closes its stream's window, whether or not it is to be written.
abbrev pub Takes : List Step → List WindowStep → Order → List WindowStep → Type 0
Takes run history (Settings settings) next =
    (All (CanResize history) (window_sizes settings)
    × (next ≡ reverse (map Resizing (window_sizes settings)) ++ history))
    ⊎ ((¬ All (CanResize history) (window_sizes settings)) × (next ≡ history))
Takes run history (Window id n) next =
    (CanCredit history id n × (next ≡ Credit id n ∷ history))
    ⊎ ((¬ CanCredit history id n) × (next ≡ history))
Takes run history (Open id sender) next =
    next ≡ (if opens run history id then Opening id ∷ history else history)
Takes run history (Ping bytes) next = next ≡ history
Takes run history (Probe bytes) next = next ≡ history
Takes run history (Refuse id fields) next = next ≡ history
Takes run history (Reset id code written) next = next ≡ Closing id ∷ history
Takes run history (Goaway last reason) next = next ≡ history
Takes run history InputEnded next = next ≡ history
Takes run history Close next = next ≡ history

-- the bytes of DATA are spent (sections 6.1 and 6.9.1)
abbrev pub spending_of : Frame → List WindowStep
spending_of frame =
    if is_data frame.head.kind && nat_lt 0 frame.head.length
    then Spending frame.head.stream frame.head.length ∷ []
    else []

-- END_STREAM and RST_STREAM close the stream's window
abbrev pub closing_of : Frame → List WindowStep
closing_of frame =
    if ends_stream frame || is_reset frame.head.kind then Closing frame.head.stream ∷ [] else []

-- the windows of a run have this history
abbrev pub HasHistory : List Step → List WindowStep → Type 0
HasHistory [] history = history ≡ []
HasHistory (Taken order ∷ before) history =
    (earlier : List WindowStep) × HasHistory before earlier × Takes before earlier order history
HasHistory (Granted id n ∷ before) history = HasHistory before history
HasHistory (Returned id items ∷ before) history = HasHistory before history
HasHistory (Written frame ∷ before) history =
    (earlier : List WindowStep) × HasHistory before earlier
    × (history ≡ closing_of frame ++ (spending_of frame ++ earlier))
