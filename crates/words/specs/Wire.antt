-- `wire CASES.. --port P`, with `--host H`, `--silence S`, `--timeout T`, `--jobs N` and
-- `--verbose`; or `wire --list`
use Rattle.std.specs.Prelude.{
  ◌≤◌,
  ⊤,
  ℕ,
  Bool,
  List,
  Option,
  if◌then◌else◌,
  codes,
  is_none,
  map,
  option_map,
  option_and_then,
}
use Rattle.std.specs.Bool.{then_some}
use Rattle.clap.specs.Walk.{Row, Rule, Text}
use Rattle.clap.specs.Simple.{App, new_app, with_rule}
use Rattle.words.specs.Options.{
  by_default,
  flag,
  has_flag,
  host_option,
  number_of,
  number_option,
  several,
  some_texts_of,
  text_of,
}
use Rattle.words.specs.Reporting as reporting
use Rattle.words.specs.Reporting.{with_reporting}
use Rattle.words.specs.Tracing as tracing
use Rattle.words.specs.Tracing.{with_tracing}
use Rattle.words.specs.declared.wire.WireRun.{WireRun}
use Rattle.words.specs.declared.wire.WireWords.{WireWords}
use Rattle.words.specs.declared.wire.WireWords.TheVariants as wire_words

-- P, S, T and N are 1 to 65,535; S is 1,000, T is 10 and N is 8 if they are not given
abbrev pub silence_option : Rule
silence_option = by_default (codes "1000") (number_option (codes "silence") 65535)

abbrev pub limit_option : Rule
limit_option = by_default (codes "10") (number_option (codes "timeout") 65535)

abbrev pub jobs_option : Rule
jobs_option = by_default (codes "8") (number_option (codes "jobs") 65535)

abbrev pub wire_command : App
wire_command = with_reporting (with_tracing (
    with_rule (with_rule
    (with_rule (with_rule (with_rule (with_rule (with_rule (with_rule (new_app (codes "wire"))
    (several (codes "CASES")))
    (flag (codes "list")))
    (number_option (codes "port") 65535))
    host_option)
    silence_option)
    limit_option)
    jobs_option)
    (flag (codes "verbose"))))

-- the words of a run of wire cases
pub record Run : Type 0 where
  pub names : List Text
  pub host : Text
  pub port : ℕ
  pub silence : ℕ
  pub limit : ℕ
  pub jobs : ℕ
  pub is_verbose : Bool
  pub tracing : tracing.TracePlaces
  pub reporting : reporting.OutcomeReport

pub data WireMeaning : Type 0 where
  list : WireMeaning
  run : Run → WireMeaning

abbrev pub run_told : WireRun → Run
run_told words = record {
  names = map (λ name. name.now) words.names.items;
  host = words.host.now;
  port = words.port;
  silence = words.silence;
  limit = words.limit;
  jobs = words.jobs;
  is_verbose = words.is_verbose;
  tracing = tracing.tracing words.tracing;
  reporting = reporting.reporting words.reporting;
}

abbrev pub told : WireWords → WireMeaning
told wire_words.List = list
told (wire_words.Run words) = run (run_told words)

-- how the cases that these words choose are run and reported
abbrev pub run_of : List Text → reporting.OutcomeReport → List Row → Option Run
run_of names told rows =
    option_and_then (λ port. option_and_then (λ host. option_and_then (λ silence.
    option_and_then (λ limit. option_and_then (λ jobs. option_map (λ traced. record {
      names = names;
      host = host;
      port = port;
      silence = silence;
      limit = limit;
      jobs = jobs;
      is_verbose = has_flag (codes "verbose") rows;
      tracing = traced;
      reporting = told;
    }) (tracing.tracing_of rows))
    (number_of (codes "jobs") 65535 rows))
    (number_of (codes "timeout") 65535 rows))
    (number_of (codes "silence") 65535 rows))
    (text_of (codes "host") rows))
    (number_of (codes "port") 65535 rows)

-- cases are listed or run, and not both
abbrev pub told_of : List Row → Option WireMeaning
told_of rows =
    if has_flag (codes "list") rows then then_some (is_none (text_of (codes "CASES") rows)) list
    else option_and_then (λ names.
    option_and_then (λ told. option_map run (run_of names told rows)) (reporting.reporting_of rows))
    (some_texts_of (codes "CASES") rows)

-- the numbers are not 0
abbrev pub IsRun : WireRun → Type 0
IsRun words =
    (1 ≤ words.port) × (1 ≤ words.silence) × (1 ≤ words.limit) × (1 ≤ words.jobs)
    × (1 ≤ words.reporting.repeat)

abbrev pub IsInRange : WireWords → Type 0
IsInRange wire_words.List = ⊤
IsInRange (wire_words.Run words) = IsRun words
