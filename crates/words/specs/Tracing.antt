-- The options that `serve`, `case`, `wire` and `misbehave` share: `--trace`, also `--trace short`
-- and `--trace full`, `--trace-file FILE` and `--pcap FILE`
use Rattle.std.specs.Prelude.{
  ◌&&◌,
  Bool,
  is_none,
  is_some,
  List,
  [],
  ◌∷◌,
  Option,
  Some,
  None,
  if◌then◌else◌,
  codes,
  option_map,
  option_and_then,
}
use Rattle.std.specs.Str.{bytes_eq}
use Rattle.clap.specs.Walk.{Row, Rule, Text}
use Rattle.clap.specs.Simple.{App, with_rule}
use Rattle.words.specs.Options.{text_of, text_option}
use Rattle.words.specs.declared.tracing.TraceForm.{TraceForm}
use Rattle.words.specs.declared.tracing.TraceForm.TheVariants.{Full, Short}
use Rattle.words.specs.declared.tracing.Tracing.{Tracing}

-- `--trace` alone is `--trace short`
abbrev pub trace_option : Rule
trace_option = record (text_option (codes "trace")) {
  range = Some (record { start_inclusive = 0; end_inclusive = 1 });
  missing = codes "short" ∷ [];
}

-- a command with them too
abbrev pub with_tracing : App → App
with_tracing app =
    with_rule (with_rule (with_rule app
    trace_option)
    (text_option (codes "trace-file")))
    (text_option (codes "pcap"))

-- the places to which what passes on connections is written
pub record TracePlaces : Type 0 where
  pub form : Option TraceForm
  pub lines : Option Text
  pub capture : Option Text

abbrev pub tracing : Tracing → TracePlaces
tracing words = record {
  form = words.form;
  lines = option_map (λ file. file.now) words.lines;
  capture = option_map (λ file. file.now) words.capture;
}

-- the lines go to standard error
abbrev pub is_shown : Tracing → Bool
is_shown words = is_some words.form && is_none words.lines

-- the form of a name
abbrev pub form_of : Text → Option TraceForm
form_of name = if bytes_eq name (codes "short") then Some Short
    else (if bytes_eq name (codes "full") then Some Full else None)

-- the form of lines, by its name and by the file for them: a file asks for lines too; nothing where
-- the name is no form's
abbrev pub trace_by : Option Text → Option Text → Option (Option TraceForm)
trace_by (Some name) file = option_map Some (form_of name)
trace_by None (Some file) = Some (Some Short)
trace_by None None = Some None

abbrev pub trace_of : List Row → Option (Option TraceForm)
trace_of rows = trace_by (text_of (codes "trace") rows) (text_of (codes "trace-file") rows)

abbrev pub tracing_of : List Row → Option TracePlaces
tracing_of rows = option_map (λ form. record {
  form = form;
  lines = text_of (codes "trace-file") rows;
  capture = text_of (codes "pcap") rows;
}) (trace_of rows)
