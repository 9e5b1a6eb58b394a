-- Commands as `clap` sees them, option by option.
use Rattle.std.proofs.Common.{◌≡◌, ◌∙◌, ◌||◌, ℕ, List, Bool, false, ap, ap₂, refl}
use Rattle.clap.specs.Built.{AddsArg, AddsSubcommand}
use Rattle.clap.specs.Simple.{App, app_of, with_rule, with_subcommand}
use Rattle.clap.specs.Walk.{Rule, rule_of}
use Rattle.clap.specs.declared.builder.arg.Arg.{Arg}
use Rattle.clap.specs.declared.builder.command.Command.{Command}
use Rattle.clap.specs.declared.builder.command.Command.TheViews.{out-Command}
use Rattle.words.specs.Options.{IsCommand, IsOption}

pub is_command : (command : Command) (app : App) → app_of command ≡ app
    → (out-Command command).has_globals ≡ false → IsCommand app command
is_command command app same local = (same, local)

pub is_option : (arg : Arg) (rule : Rule) → rule_of arg ≡ rule → arg.global ≡ false
    → IsOption rule arg
is_option arg rule same local = (same, local)

-- a command with one more option
pub with_option : (old new : Command) (arg : Arg) (app : App) (rule : Rule) → AddsArg old arg new
    → IsCommand app old → IsOption rule arg → IsCommand (with_rule app rule) new
with_option old new arg app rule added is option = (
  added.shape option.1 ∙ ap₂ with_rule is.0 option.0,
  added.globals ∙ ap₂ (λ (a b : Bool). a || b) is.1 option.1,
)

-- the program with one more command
pub with_command : (old sub new : Command) (line app : App) → AddsSubcommand old sub new
    → app_of old ≡ line → IsCommand app sub → app_of new ≡ with_subcommand line app.top
with_command old sub new line app added is command =
    added.shape command.1 ∙ ap₂ with_subcommand is (ap (λ (a : App). a.top) command.0)
