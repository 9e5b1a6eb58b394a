-- `misbehave NAME.. --port P`, with `--host H` and `--timeout S`; or `misbehave --list`, with
-- `--verbose`
use Rattle.std.specs.Prelude.{
  ◌≤◌,
  ◌&&◌,
  ⊤,
  ℕ,
  Bool,
  List,
  Option,
  None,
  if◌then◌else◌,
  codes,
  is_none,
  map,
  option_map,
  option_and_then,
}
use Rattle.std.specs.Bool.{then_some}
use Rattle.clap.specs.Walk.{Row, Rule, Text}
use Rattle.clap.specs.Simple.{App, new_app, with_rule}
use Rattle.words.specs.Files as files
use Rattle.words.specs.Files.{with_files}
use Rattle.words.specs.Options.{
  by_default,
  flag,
  has_flag,
  host_option,
  number_of,
  number_option,
  several,
  some_texts_of,
  text_of,
}
use Rattle.words.specs.Reporting as reporting
use Rattle.words.specs.Reporting.{with_reporting}
use Rattle.words.specs.Tracing as tracing
use Rattle.words.specs.Tracing.{with_tracing}
use Rattle.words.specs.declared.misbehave.MisbehaveRun.{MisbehaveRun}
use Rattle.words.specs.declared.misbehave.MisbehaveWords.{MisbehaveWords}
use Rattle.words.specs.declared.misbehave.MisbehaveWords.TheVariants as words

-- P and S are 1 to 65,535; S is 30 if it is not given
abbrev pub seconds_option : Rule
seconds_option = by_default (codes "30") (number_option (codes "timeout") 65535)

abbrev pub misbehave_command : App
misbehave_command = with_reporting (with_tracing (with_files (
    with_rule (with_rule (with_rule (with_rule (with_rule (with_rule (new_app (codes "misbehave"))
    (several (codes "NAME")))
    (number_option (codes "port") 65535))
    host_option)
    seconds_option)
    (flag (codes "list")))
    (flag (codes "verbose")))))

-- the words of a server that misbehaves
pub record Run : Type 0 where
  pub names : List Text
  pub host : Text
  pub port : ℕ
  pub seconds : ℕ
  pub files : files.ReadyFiles
  pub tracing : tracing.TracePlaces
  pub reporting : reporting.OutcomeReport

-- such a server, or whether more than names is listed
pub data Misbehaving : Type 0 where
  list : Bool → Misbehaving
  play : Run → Misbehaving

abbrev pub run_told : MisbehaveRun → Run
run_told words = record {
  names = map (λ name. name.now) words.names.items;
  host = words.host.now;
  port = words.port;
  seconds = words.seconds;
  files = files.files words.files;
  tracing = tracing.tracing words.tracing;
  reporting = reporting.reporting words.reporting;
}

abbrev pub misbehaving : MisbehaveWords → Misbehaving
misbehaving (words.List is_verbose) = list is_verbose
misbehaving (words.Play told) = play (run_told told)

-- how a server misbehaves in the ways that these words choose, and how that is reported
abbrev pub run_of : List Text → reporting.OutcomeReport → List Row → Option Run
run_of names told rows =
    option_and_then
    (λ host. option_and_then (λ port. option_and_then (λ seconds. option_map (λ traced. record {
      names = names;
      host = host;
      port = port;
      seconds = seconds;
      files = files.files_of rows;
      tracing = traced;
      reporting = told;
    }) (tracing.tracing_of rows))
    (number_of (codes "timeout") 65535 rows))
    (number_of (codes "port") 65535 rows))
    (text_of (codes "host") rows)

-- names with a port, or neither of them with `--list`; only `--list` may have `--verbose`
abbrev pub misbehaving_of : List Row → Option Misbehaving
misbehaving_of rows =
    if has_flag (codes "list") rows
    then then_some
    (is_none (text_of (codes "NAME") rows) && is_none (number_of (codes "port") 65535 rows))
    (list (has_flag (codes "verbose") rows))
    else if has_flag (codes "verbose") rows then None
    else option_and_then (λ names.
    option_and_then (λ told. option_map play (run_of names told rows))
    (reporting.reporting_of rows))
    (some_texts_of (codes "NAME") rows)

-- no number is 0
abbrev pub IsRun : MisbehaveRun → Type 0
IsRun told = (1 ≤ told.port) × (1 ≤ told.seconds) × (1 ≤ told.reporting.repeat)

abbrev pub IsPlayable : MisbehaveWords → Type 0
IsPlayable (words.List is_verbose) = ⊤
IsPlayable (words.Play told) = IsRun told
