-- `serve --port P`, or `serve --any-port`, with `--host H`, `--conns N`, `--report`, `--log`, or
-- `--log json`, `--time T`, `--drain-on-eof`, `--drain-timeout S` and `--record DIR`
use Rattle.std.specs.Prelude.{
  ◌≤◌,
  ⊤,
  ℕ,
  Bool,
  List,
  Option,
  None,
  Some,
  [],
  ◌∷◌,
  if◌then◌else◌,
  codes,
  option_map,
  option_and_then,
}
use Rattle.std.specs.Bool.{then_some}
use Rattle.std.specs.Option.{option_map_or, option_xor}
use Rattle.std.specs.Str.{bytes_eq}
use Rattle.clap.specs.Walk.{Row, Rule, Text}
use Rattle.clap.specs.Simple.{App, new_app, with_rule}
use Rattle.words.specs.Files as files
use Rattle.words.specs.Files.{with_files}
use Rattle.words.specs.Options.{
  by_default,
  flag,
  has_flag,
  host_option,
  number_of,
  number_option,
  text_of,
  text_option,
}
use Rattle.words.specs.Tracing as tracing
use Rattle.words.specs.Tracing.{with_tracing}
use Rattle.words.specs.declared.serve.LogForm.{LogForm}
use Rattle.words.specs.declared.serve.LogForm.TheVariants.{Json, Text as Plain}
use Rattle.words.specs.declared.serve.TimeForm.{TimeForm}
use Rattle.words.specs.declared.serve.TimeForm.TheVariants.{Seconds, Utc}
use Rattle.words.specs.declared.serve.Port.{Port}
use Rattle.words.specs.declared.serve.Port.TheVariants.{Any, Number}
use Rattle.words.specs.declared.serve.ServeWords.{ServeWords}

-- `--log` alone is `--log text`
abbrev pub log_option : Rule
log_option = record (text_option (codes "log")) {
  range = Some (record { start_inclusive = 0; end_inclusive = 1 });
  missing = codes "text" ∷ [];
}

abbrev pub time_option : Rule
time_option = text_option (codes "time")

-- S is 10 if it is not given
abbrev pub patience_option : Rule
patience_option = by_default (codes "10") (number_option (codes "drain-timeout") 65535)

-- P, N and S are 1 to 65,535
abbrev pub serve_command : App
serve_command = with_tracing (with_files (
    with_rule (with_rule (with_rule (with_rule
    (with_rule (with_rule (with_rule (with_rule (with_rule (with_rule (new_app (codes "serve"))
    (number_option (codes "port") 65535))
    (flag (codes "any-port")))
    host_option)
    (number_option (codes "conns") 65535))
    (flag (codes "report")))
    log_option)
    time_option)
    (flag (codes "drain-on-eof")))
    patience_option)
    (text_option (codes "record"))))

-- the words of a server
pub record Serving : Type 0 where
  pub host : Text
  pub port : Port
  pub connections : Option ℕ
  pub has_report : Bool
  pub log : Option LogForm
  pub time : Option TimeForm
  pub drains_on_eof : Bool
  pub patience : ℕ
  pub files : files.ReadyFiles
  pub tracing : tracing.TracePlaces
  pub record_in : Option Text

abbrev pub serving : ServeWords → Serving
serving words = record {
  host = words.host.now;
  port = words.port;
  connections = words.connections;
  has_report = words.has_report;
  log = words.log;
  time = words.time;
  drains_on_eof = words.drains_on_eof;
  patience = words.patience;
  files = files.files words.files;
  tracing = tracing.tracing words.tracing;
  record_in = option_map (λ folder. folder.now) words.record;
}

-- the port that is given, or any: one of the two has to be said, and not both
abbrev pub port_of : List Row → Option Port
port_of rows = option_xor (option_map Number (number_of (codes "port") 65535 rows))
    (then_some (has_flag (codes "any-port") rows) Any)

-- the form of a name
abbrev pub form_of : Text → Option LogForm
form_of name = if bytes_eq name (codes "text") then Some Plain
    else (if bytes_eq name (codes "json") then Some Json else None)

-- the form of the log, if there is to be one; nothing where its name is no form's
abbrev pub log_of : List Row → Option (Option LogForm)
log_of rows =
    option_map_or (λ name. option_map Some (form_of name)) (text_of (codes "log") rows) (Some None)

-- the form of times of a name
abbrev pub time_form_of : Text → Option TimeForm
time_form_of name = if bytes_eq name (codes "seconds") then Some Seconds
    else (if bytes_eq name (codes "utc") then Some Utc else None)

-- the form of the log's times, if one is given; nothing where its name is no form's
abbrev pub time_of : List Row → Option (Option TimeForm)
time_of rows =
    option_map_or (λ name. option_map Some (time_form_of name))
    (text_of (codes "time") rows) (Some None)

abbrev pub serving_of : List Row → Option Serving
serving_of rows =
    option_and_then (λ port.
    option_and_then (λ host.
    option_and_then (λ log.
    option_and_then (λ time. option_and_then (λ patience. option_map (λ told. record {
      host = host;
      port = port;
      connections = number_of (codes "conns") 65535 rows;
      has_report = has_flag (codes "report") rows;
      log = log;
      time = time;
      drains_on_eof = has_flag (codes "drain-on-eof") rows;
      patience = patience;
      files = files.files_of rows;
      tracing = told;
      record_in = text_of (codes "record") rows;
    }) (tracing.tracing_of rows)) (number_of (codes "drain-timeout") 65535 rows)) (time_of rows))
    (log_of rows)) (text_of (codes "host") rows)) (port_of rows)

-- a port's number is not 0
abbrev pub IsPort : Port → Type 0
IsPort (Number number) = 1 ≤ number
IsPort Any = ⊤

-- neither the port's number nor the patience is 0
abbrev pub IsServing : ServeWords → Type 0
IsServing words = IsPort words.port × (1 ≤ words.patience)
