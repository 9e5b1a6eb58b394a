-- Outcomes by the Test Anything Protocol, version 14.
use Rattle.std.specs.Prelude.{
  ℕ,
  ◌==◌,
  ◌||◌,
  List,
  [],
  ◌∷◌,
  ◌++◌,
  Option,
  Some,
  None,
  if◌then◌else◌,
  codes,
  encode_utf8,
  option_map,
  string_bytes,
}
use Rattle.std.specs.Fmt.{decimal}
use Rattle.std.specs.List.{flat_map}
use Rattle.std.specs.Str.{chars}
use Rattle.serde_json.specs.Data.{string}
use Rattle.serde_json.specs.Written.{compact_text}
use Rattle.results.specs.Causes.{cause_of}
use Rattle.results.specs.Outcomes.{titled}
use Rattle.results.specs.Standings.{fails_the_run, standing_of}
use Rattle.results.specs.Words.{level_word, suite_word, verdict_word}
use Rattle.results.specs.declared.known_failure.KnownFailure.{KnownFailure}
use Rattle.results.specs.declared.outcome.Outcome.{Outcome}
use Rattle.results.specs.declared.outcome.Rule.{Rule}
use Rattle.results.specs.declared.standing.Standing.{Standing}
use Rattle.results.specs.declared.tap.Point.{Point}
use Rattle.results.specs.declared.words.Verdict.{Verdict}

-- a character of a test point's line: `\` and `#` have a `\` before them, and a line end is a blank
abbrev pub char_text : ℕ → List ℕ
char_text c =
    if c == 92 then 92 ∷ 92 ∷ []
    else if c == 35 then 92 ∷ 35 ∷ []
    else if (c == 10) || (c == 13) then 32 ∷ []
    else encode_utf8 c

abbrev pub escaped : List ℕ → List ℕ
escaped text = flat_map char_text (chars text)

-- where the case doesn't fail the run
abbrev pub lenient_point : Verdict → Point
lenient_point Verdict.Ok = Point.Passes
lenient_point Verdict.Failed = Point.Todo
lenient_point Verdict.Unsteady = Point.Todo
lenient_point Verdict.NotTested = Point.Skips
lenient_point Verdict.NotApplicable = Point.Skips

-- a point counts as failed exactly where the case fails the run
abbrev pub point_of : Outcome → Point
point_of outcome = if fails_the_run outcome then Point.Fails else lenient_point outcome.verdict

abbrev pub status : Point → List ℕ
status Point.Passes = codes "ok"
status Point.Fails = codes "not ok"
status Point.Skips = codes "ok"
status Point.Todo = codes "not ok"

-- why there is a directive
abbrev pub plain_why : Outcome → List ℕ
plain_why outcome = verdict_word outcome.verdict ++ codes ": " ++ cause_of outcome

abbrev pub known_why : Option KnownFailure → Outcome → List ℕ
known_why None outcome = plain_why outcome
known_why (Some known) outcome = string_bytes known.reason

abbrev pub why_by : Standing → Outcome → List ℕ
why_by Standing.Known outcome = known_why outcome.known outcome
why_by Standing.Mended outcome = plain_why outcome
why_by Standing.AsFound outcome = plain_why outcome

abbrev pub why : Outcome → List ℕ
why outcome = why_by (standing_of outcome) outcome

abbrev pub directive : Point → Outcome → List ℕ
directive Point.Passes outcome = []
directive Point.Fails outcome = []
directive Point.Skips outcome = codes " # SKIP " ++ escaped (why outcome)
directive Point.Todo outcome = codes " # TODO " ++ escaped (why outcome)

-- a line of a block, where there is a text for it: a text of JSON, which is one of YAML 1.2
unfoldable pub entry : List ℕ → Option (List ℕ) → List ℕ
entry name None = []
entry name (Some text) = codes "  " ++ name ++ codes ": " ++ compact_text (string text) ++ 10 ∷ []

abbrev pub verdict_note : Standing → Verdict → List ℕ
verdict_note Standing.Mended verdict =
    codes "no longer fails: take it off the list of known failures"
verdict_note Standing.AsFound verdict = verdict_word verdict
verdict_note Standing.Known verdict = verdict_word verdict

unfoldable pub rule_entries : Option Rule → List ℕ
rule_entries None = []
rule_entries (Some rule) =
    entry (codes "rule") (Some (string_bytes rule.place))
    ++ entry (codes "sentence") (option_map string_bytes rule.sentence)

-- what stands after a test point that isn't ok: a block of YAML, indented by two blanks
unfoldable pub yaml_block : Outcome → List ℕ
yaml_block outcome =
    codes "  ---\n"
    ++ entry (codes "verdict") (Some (verdict_note (standing_of outcome) outcome.verdict))
    ++ entry (codes "level") (option_map level_word outcome.level)
    ++ entry (codes "wanted") (option_map string_bytes outcome.wanted)
    ++ entry (codes "came") (option_map string_bytes outcome.came)
    ++ entry (codes "reason") (option_map string_bytes outcome.reason)
    ++ rule_entries outcome.rule
    ++ codes "  ...\n"

abbrev pub block_of : Point → Outcome → List ℕ
block_of Point.Passes outcome = []
block_of Point.Skips outcome = []
block_of Point.Fails outcome = yaml_block outcome
block_of Point.Todo outcome = yaml_block outcome

-- the line of a test point, with a directive where it isn't to count:
-- `not ok 3 - wire grpc/4 END_STREAM on HEADERS`
unfoldable pub point_line : ℕ → Point → Outcome → List ℕ
point_line number how outcome =
    status how ++ codes " " ++ decimal number ++ codes " - "
    ++ suite_word outcome.suite ++ codes " "
    ++ escaped (titled outcome) ++ directive how outcome ++ codes "\n"

-- a test point, and what stands after it
abbrev pub point_text : ℕ → Outcome → List ℕ
point_text number outcome =
    point_line number (point_of outcome) outcome ++ block_of (point_of outcome) outcome
