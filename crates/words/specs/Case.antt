-- `case NAME.. --port P`, with `--host H`, `--times N`, `--streams K` and `--timeout S`; or by the
-- flags of gRPC's own interop clients,
-- `case --test_case=NAME --server_port=P --server_host=H --use_tls=false`, and those of soaks; or
-- `case --list`
use Rattle.std.specs.Prelude.{
  ◌≤◌,
  ⊤,
  ℕ,
  Bool,
  false,
  List,
  [],
  ◌∷◌,
  Option,
  Some,
  None,
  if◌then◌else◌,
  codes,
  is_none,
  map,
  option_map,
  option_and_then,
}
use Rattle.std.specs.Bool.{then_some}
use Rattle.std.specs.Option.{option_map_or, option_or, option_xor}
use Rattle.std.specs.Str.{bytes_eq}
use Rattle.clap.specs.Walk.{Row, Rule, Text}
use Rattle.clap.specs.Simple.{App, new_app, with_rule}
use Rattle.words.specs.Options.{
  also_named,
  amount_of,
  amount_option,
  by_default,
  flag,
  has_flag,
  number_of,
  number_option,
  several,
  some_texts,
  text_of,
  text_option,
  texts_of,
}
use Rattle.words.specs.Reporting as reporting
use Rattle.words.specs.Reporting.{with_reporting}
use Rattle.words.specs.Tracing as tracing
use Rattle.words.specs.Tracing.{with_tracing}
use Rattle.words.specs.declared.case.CaseRun.{CaseRun}
use Rattle.words.specs.declared.case.CaseWords.{CaseWords}
use Rattle.words.specs.declared.case.CaseWords.TheVariants as case_words
use Rattle.words.specs.declared.case.SoakWords.{SoakWords}

-- P, N, K and S are 1 to 65,535; H is 127.0.0.1, N is 1 and S is 10 if they are not given
abbrev pub port_option : Rule
port_option = also_named (codes "server_port") (number_option (codes "port") 65535)

abbrev pub host_option : Rule
host_option =
    also_named (codes "server_host") (by_default (codes "127.0.0.1") (text_option (codes "host")))

abbrev pub times_option : Rule
times_option = by_default (codes "1") (number_option (codes "times") 65535)

abbrev pub streams_option : Rule
streams_option = number_option (codes "streams") 65535

abbrev pub timeout_option : Rule
timeout_option = by_default (codes "10") (number_option (codes "timeout") 65535)

abbrev pub tls_option : Rule
tls_option = by_default (codes "false") (text_option (codes "use_tls"))

-- of soaks: each an amount, as gRPC's own clients have it where it is not given
abbrev pub iterations_option : Rule
iterations_option = by_default (codes "10") (amount_option (codes "soak_iterations"))

abbrev pub max_failures_option : Rule
max_failures_option = by_default (codes "0") (amount_option (codes "soak_max_failures"))

abbrev pub acceptable_option : Rule
acceptable_option =
    by_default (codes "1000") (amount_option (codes "soak_per_iteration_max_acceptable_latency_ms"))

abbrev pub overall_option : Rule
overall_option = amount_option (codes "soak_overall_timeout_seconds")

abbrev pub gap_option : Rule
gap_option = by_default (codes "0") (amount_option (codes "soak_min_time_ms_between_rpcs"))

abbrev pub request_size_option : Rule
request_size_option = by_default (codes "271828") (amount_option (codes "soak_request_size"))

abbrev pub response_size_option : Rule
response_size_option = by_default (codes "314159") (amount_option (codes "soak_response_size"))

-- a command with the options of soaks too
abbrev pub with_soak : App → App
with_soak app =
    with_rule (with_rule (with_rule (with_rule (with_rule (with_rule (with_rule app
    iterations_option)
    max_failures_option)
    acceptable_option)
    overall_option)
    gap_option)
    request_size_option)
    response_size_option

-- a command that takes what gRPC's runners say of TLS, which means nothing without it
abbrev pub with_credentials : App → App
with_credentials app =
    with_rule (with_rule app
    (text_option (codes "use_test_ca")))
    (text_option (codes "server_host_override"))

abbrev pub case_command : App
case_command = with_reporting (with_tracing (with_soak (with_credentials (
    with_rule (with_rule (with_rule
    (with_rule (with_rule (with_rule (with_rule (with_rule (with_rule (new_app (codes "case"))
    (several (codes "NAME")))
    (text_option (codes "test_case")))
    (flag (codes "list")))
    port_option)
    host_option)
    times_option)
    streams_option)
    timeout_option)
    tls_option))))

-- the words of a soak
pub record Soak : Type 0 where
  pub iterations : ℕ
  pub max_failures : ℕ
  pub acceptable : ℕ
  pub overall : Option ℕ
  pub gap : ℕ
  pub request_size : ℕ
  pub response_size : ℕ

abbrev pub soak : SoakWords → Soak
soak words = record {
  iterations = words.iterations;
  max_failures = words.max_failures;
  acceptable = words.acceptable;
  overall = words.overall;
  gap = words.gap;
  request_size = words.request_size;
  response_size = words.response_size;
}

-- the words of a client that runs cases
pub record Run : Type 0 where
  pub names : List Text
  pub host : Text
  pub port : ℕ
  pub times : ℕ
  pub streams : Option ℕ
  pub patience : ℕ
  pub soak : Soak
  pub tracing : tracing.TracePlaces
  pub reporting : reporting.OutcomeReport

pub data Trial : Type 0 where
  list : Trial
  run : Run → Trial

abbrev pub trial_run : CaseRun → Run
trial_run words = record {
  names = map (λ name. name.now) words.names.items;
  host = words.host.now;
  port = words.port;
  times = words.times;
  streams = words.streams;
  patience = words.patience;
  soak = soak words.soak;
  tracing = tracing.tracing words.tracing;
  reporting = reporting.reporting words.reporting;
}

abbrev pub trial : CaseWords → Trial
trial case_words.List = list
trial (case_words.Run words) = run (trial_run words)

-- the words that choose the cases stand by themselves, or one after its option
abbrev pub names_by : Option Text → List Text → Option (List Text)
names_by None names = some_texts names
names_by (Some name) [] = Some (name ∷ [])
names_by (Some name) (first ∷ names) = None

abbrev pub names_of : List Row → Option (List Text)
names_of rows = names_by (text_of (codes "test_case") rows) (texts_of (codes "NAME") rows)

-- the program speaks only cleartext
abbrev pub is_cleartext : List Row → Bool
is_cleartext rows =
    option_map_or (λ text. bytes_eq text (codes "false")) (text_of (codes "use_tls") rows) false

abbrev pub soak_of : List Row → Option Soak
soak_of rows =
    option_and_then (λ iterations.
    option_and_then (λ max_failures. option_and_then (λ acceptable. option_and_then (λ gap.
    option_and_then (λ request_size. option_map (λ response_size. record {
      iterations = iterations;
      max_failures = max_failures;
      acceptable = acceptable;
      overall = amount_of (codes "soak_overall_timeout_seconds") rows;
      gap = gap;
      request_size = request_size;
      response_size = response_size;
    }) (amount_of (codes "soak_response_size") rows))
    (amount_of (codes "soak_request_size") rows))
    (amount_of (codes "soak_min_time_ms_between_rpcs") rows))
    (amount_of (codes "soak_per_iteration_max_acceptable_latency_ms") rows))
    (amount_of (codes "soak_max_failures") rows))
    (amount_of (codes "soak_iterations") rows)

-- how the cases that these words choose are run and reported
abbrev pub run_of : List Text → reporting.OutcomeReport → List Row → Option Run
run_of names told rows =
    option_and_then (λ host. option_and_then (λ port. option_and_then (λ times.
    option_and_then (λ patience.
    option_and_then (λ soak. option_and_then (λ traced. then_some (is_cleartext rows) (record {
      names = names;
      host = host;
      port = port;
      times = times;
      streams = number_of (codes "streams") 65535 rows;
      patience = patience;
      soak = soak;
      tracing = traced;
      reporting = told;
    })) (tracing.tracing_of rows))
    (soak_of rows))
    (number_of (codes "timeout") 65535 rows))
    (number_of (codes "times") 65535 rows))
    (number_of (codes "port") 65535 rows))
    (text_of (codes "host") rows)

-- cases are listed or run, and not both
abbrev pub trial_of : List Row → Option Trial
trial_of rows =
    if has_flag (codes "list") rows
    then then_some
    (is_none (option_or (text_of (codes "NAME") rows) (text_of (codes "test_case") rows))) list
    else option_and_then (λ names.
    option_and_then (λ told. option_map run (run_of names told rows)) (reporting.reporting_of rows))
    (names_of rows)

-- the numbers are not 0
abbrev pub IsRun : CaseRun → Type 0
IsRun told = (1 ≤ told.port) × (1 ≤ told.times) × (1 ≤ told.patience) × (1 ≤ told.reporting.repeat)

abbrev pub IsTrial : CaseWords → Type 0
IsTrial case_words.List = ⊤
IsTrial (case_words.Run told) = IsRun told
