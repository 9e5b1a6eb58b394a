-- What the words of a command line mean: `clap`'s meaning of a simple command, at the command line
-- of this program.
use Rattle.std.specs.Prelude.{
  ◌≤◌,
  ⊤,
  ℕ,
  true,
  List,
  [],
  ◌∷◌,
  Option,
  Some,
  None,
  if◌then◌else◌,
  codes,
  option_map,
  option_and_then,
}
use Rattle.std.specs.Str.{bytes_eq}
use Rattle.clap.specs.Walk.{Row, Text}
use Rattle.clap.specs.Simple.{App, new_app, on_top, subcommand_of, with_subcommand}
use Rattle.clap.specs.Faults.{fault_of}
use Rattle.clap.specs.Kinds.{Kinds}
use Rattle.words.specs.Body.{body_command, cut_of}
use Rattle.words.specs.Case.{IsTrial, Trial, case_command, trial, trial_of}
use Rattle.words.specs.Frames as frames
use Rattle.words.specs.Frames.{frames_command, frames_of}
use Rattle.words.specs.Misbehave.{
  IsPlayable,
  Misbehaving,
  misbehave_command,
  misbehaving,
  misbehaving_of,
}
use Rattle.words.specs.OwnServer.{own_command, own_port_of}
use Rattle.words.specs.Serve.{Serving, IsServing, serve_command, serving, serving_of}
use Rattle.words.specs.Wire.{WireMeaning, told, told_of, wire_command}
use Rattle.words.specs.Wire as wire
use Rattle.words.specs.declared.read.Words.{Words}
use Rattle.words.specs.declared.read.Words.TheVariants as words
use Rattle.words.specs.declared.read.WordsFault.{WordsFault}
use Rattle.words.specs.declared.read.WordsFault.TheVariants.{BadWords, OutOfMemory}

-- the commands, with no name of a program before them, and neither help nor a version
abbrev pub bare_line : App
bare_line = on_top (λ top. record top {
  no_binary_name = true;
  disable_help_flag = true;
  disable_help_subcommand = true;
  disable_version_flag = true;
  subcommand_required = true;
}) (new_app (codes "interop"))

abbrev pub command_line : App
command_line =
    with_subcommand (with_subcommand (with_subcommand (with_subcommand
    (with_subcommand (with_subcommand (with_subcommand (with_subcommand (with_subcommand bare_line
    body_command.top)
    (new_app (codes "parts")).top)
    serve_command.top)
    case_command.top)
    (own_command (codes "self")).top)
    (own_command (codes "drain")).top)
    misbehave_command.top)
    wire_command.top)
    frames_command.top

-- what the words ask the program to do
pub data Meaning : Type 0 where
  print_body : ℕ → Meaning
  print_parts : Meaning
  serve : Serving → Meaning
  try_case : Trial → Meaning
  try_itself : ℕ → Meaning
  drain : ℕ → Meaning
  misbehave : Misbehaving → Meaning
  try_wire : WireMeaning → Meaning
  tell_frames : frames.PrintedFrames → Meaning

abbrev pub meaning : Words → Meaning
meaning (words.Body cut) = print_body cut
meaning words.Parts = print_parts
meaning (words.Serve told) = serve (serving told)
meaning (words.Case told) = try_case (trial told)
meaning (words.SelfTest port) = try_itself port
meaning (words.Drain port) = drain port
meaning (words.Misbehave told) = misbehave (misbehaving told)
meaning (words.Wire words) = try_wire (told words)
meaning (words.Frames words) = tell_frames (frames.frames words)

-- the command of a name and of the values of its options, of those that keep no lists
abbrev pub plain_command_of : Text × List Row → Option Meaning
plain_command_of p =
    if bytes_eq p.0 (codes "body") then option_map print_body (cut_of p.1)
    else if bytes_eq p.0 (codes "parts") then Some print_parts
    else if bytes_eq p.0 (codes "serve") then option_map serve (serving_of p.1)
    else if bytes_eq p.0 (codes "self") then option_map try_itself (own_port_of p.1)
    else if bytes_eq p.0 (codes "drain") then option_map drain (own_port_of p.1)
    else None

-- the command of a name and of the values of its options
abbrev pub command_of : Text × List Row → Option Meaning
command_of p =
    if bytes_eq p.0 (codes "case") then option_map try_case (trial_of p.1)
    else if bytes_eq p.0 (codes "misbehave") then option_map misbehave (misbehaving_of p.1)
    else if bytes_eq p.0 (codes "wire") then option_map try_wire (told_of p.1)
    else if bytes_eq p.0 (codes "frames") then option_map tell_frames (frames_of p.1)
    else plain_command_of p

-- nothing, where `clap` refuses the words for any of these kinds of error
abbrev pub unless_refused : Kinds → Option Meaning → Option Meaning
unless_refused [] command = command
unless_refused (kind ∷ kinds) command = None

-- the command that some words mean to `clap`
unfoldable pub command_meant : List Text → Option Meaning
command_meant words = unless_refused (fault_of command_line words)
    (option_and_then command_of (subcommand_of command_line words))

-- what words mean, if anything: none at all are `body --cut 3`
abbrev pub meaning_of : List Text → Option Meaning
meaning_of [] = Some (print_body 3)
meaning_of (word ∷ words) = command_meant (word ∷ words)

-- the numbers are in their ranges
abbrev pub IsInRange : Words → Type 0
IsInRange (words.Body cut) = (1 ≤ cut) × (cut ≤ 65536)
IsInRange words.Parts = ⊤
IsInRange (words.Serve told) = IsServing told
IsInRange (words.Case told) = IsTrial told
IsInRange (words.SelfTest port) = 1 ≤ port
IsInRange (words.Drain port) = 1 ≤ port
IsInRange (words.Misbehave told) = IsPlayable told
IsInRange (words.Wire words) = wire.IsInRange words
IsInRange (words.Frames words) = ⊤

-- the words mean no command
abbrev pub IsBad : WordsFault → Type 0
IsBad (BadWords reason) = ⊤
IsBad OutOfMemory = ⊥

-- the numbers by which programs print the faults
abbrev pub code_of : WordsFault → ℕ
code_of (BadWords reason) = 1
code_of OutOfMemory = 2
