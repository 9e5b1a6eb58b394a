-- The options that `case`, `wire` and `misbehave` share: `--json FILE`, `--junit FILE`, `--tap`,
-- `--save DIR`, `--known FILE`, `--write-known FILE`, `--skip WORDS`, `--level LEVEL`,
-- `--repeat N`, `--fail-fast`
use Rattle.std.specs.Prelude.{
  ℕ,
  ◌&&◌,
  ◌==◌,
  Bool,
  false,
  List,
  Option,
  None,
  Some,
  if◌then◌else◌,
  codes,
  map,
  option_map,
  option_and_then,
}
use Rattle.std.specs.List.{flat_map, slice_split}
use Rattle.std.specs.Option.{option_map_or}
use Rattle.std.specs.Str.{bytes_eq}
use Rattle.clap.specs.Walk.{Row, Rule, Text}
use Rattle.clap.specs.Simple.{App, with_rule}
use Rattle.clap.specs.declared.builder.action.ArgAction.TheVariants.{Append}
use Rattle.results.specs.Words.{level_named}
use Rattle.results.specs.declared.words.Level.{Level}
use Rattle.words.specs.Options.{
  by_default,
  flag,
  has_flag,
  number_of,
  number_option,
  text_of,
  text_option,
  texts_of,
}
use Rattle.words.specs.declared.reporting.Reporting.{Reporting}

-- it may be given several times
abbrev pub skip_option : Rule
skip_option = record (text_option (codes "skip")) { action = Some Append }

-- N is 1 to 65,535, and 1 if it is not given
abbrev pub repeat_option : Rule
repeat_option = by_default (codes "1") (number_option (codes "repeat") 65535)

-- a command with the options for the forms of outcomes too
abbrev pub with_forms : App → App
with_forms app =
    with_rule (with_rule (with_rule (with_rule (with_rule (with_rule app
    (text_option (codes "json")))
    (text_option (codes "junit")))
    (flag (codes "tap")))
    (text_option (codes "save")))
    (text_option (codes "known")))
    (text_option (codes "write-known"))

-- a command with all of them too
abbrev pub with_reporting : App → App
with_reporting app =
    with_rule (with_rule (with_rule (with_rule (with_forms app)
    skip_option)
    (text_option (codes "level")))
    repeat_option)
    (flag (codes "fail-fast"))

-- how outcomes are reported, and which cases are left out
pub record OutcomeReport : Type 0 where
  pub json : Option Text
  pub junit : Option Text
  pub has_tap : Bool
  pub save : Option Text
  pub known : Option Text
  pub write_known : Option Text
  pub skip : List Text
  pub level : Option Level
  pub repeat : ℕ
  pub fails_fast : Bool

abbrev pub reporting : Reporting → OutcomeReport
reporting words = record {
  json = option_map (λ file. file.now) words.json;
  junit = option_map (λ file. file.now) words.junit;
  has_tap = words.has_tap;
  save = option_map (λ folder. folder.now) words.save;
  known = option_map (λ file. file.now) words.known;
  write_known = option_map (λ file. file.now) words.write_known;
  skip = map (λ word. word.now) words.skip.items;
  level = words.level;
  repeat = words.repeat;
  fails_fast = words.fails_fast;
}

-- the words for cases that are left out: those between commas, of each time that the option is
-- given
abbrev pub skipped_of : List Row → List Text
skipped_of rows = flat_map (slice_split (λ byte. byte == 44)) (texts_of (codes "skip") rows)

-- the level, if one is named; nothing where its word is no level's
abbrev pub level_of : List Row → Option (Option Level)
level_of rows =
    option_map_or (λ word. option_map Some (level_named word))
    (text_of (codes "level") rows) (Some None)

-- `--tap` and `--json -` both want standard output
abbrev pub wants_output_twice : List Row → Bool
wants_output_twice rows =
    option_map_or (λ file. has_flag (codes "tap") rows && bytes_eq file (codes "-"))
    (text_of (codes "json") rows) false

abbrev pub reporting_of : List Row → Option OutcomeReport
reporting_of rows =
    option_and_then
    (λ level. option_and_then (λ repeat. if wants_output_twice rows then None else Some (record {
      json = text_of (codes "json") rows;
      junit = text_of (codes "junit") rows;
      has_tap = has_flag (codes "tap") rows;
      save = text_of (codes "save") rows;
      known = text_of (codes "known") rows;
      write_known = text_of (codes "write-known") rows;
      skip = skipped_of rows;
      level = level;
      repeat = repeat;
      fails_fast = has_flag (codes "fail-fast") rows;
    })) (number_of (codes "repeat") 65535 rows))
    (level_of rows)
