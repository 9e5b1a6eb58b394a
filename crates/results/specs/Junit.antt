-- Outcomes as JUnit's XML.
use Rattle.std.specs.Prelude.{
  ℕ,
  ◌/◌,
  ◌%◌,
  ◌&&◌,
  ◌||◌,
  Bool,
  not,
  List,
  [],
  ◌∷◌,
  ◌++◌,
  Option,
  Some,
  None,
  if◌then◌else◌,
  codes,
  count_by,
  length,
  string_bytes,
}
use Rattle.std.specs.Fmt.{decimal}
use Rattle.std.specs.List.{flat_map}
use Rattle.results.specs.Causes.{cause_of, details_of}
use Rattle.results.specs.Outcomes.{titled}
use Rattle.results.specs.Standings.{fails_the_run, standing_of}
use Rattle.results.specs.Summaries.{same_verdict}
use Rattle.results.specs.Words.{level_word, suite_word, verdict_word}
use Rattle.results.specs.Xml.{declaration, element, empty_element, xml_text}
use Rattle.results.specs.declared.known_failure.KnownFailure.{KnownFailure}
use Rattle.results.specs.declared.outcome.Outcome.{Outcome}
use Rattle.results.specs.declared.standing.Standing.{Standing}
use Rattle.results.specs.declared.words.Level.{Level}
use Rattle.results.specs.declared.words.Suite.{Suite}
use Rattle.results.specs.declared.words.Verdict.{Verdict}

-- it isn't ok, and doesn't fail the run
abbrev pub is_skipped : Outcome → Bool
is_skipped outcome = not (fails_the_run outcome) && not (same_verdict outcome.verdict Verdict.Ok)

-- it isn't simply ok
unfoldable pub is_told : Outcome → Bool
is_told outcome = fails_the_run outcome || is_skipped outcome

-- milliseconds as seconds with three places
abbrev pub seconds : ℕ → List ℕ
seconds milliseconds =
    decimal (milliseconds / 1000) ++ codes "." ++ decimal (milliseconds / 100 % 10)
    ++ decimal (milliseconds / 10 % 10) ++ decimal (milliseconds % 10)

-- what all suites and one have: how many cases there are, fail and are skipped, and how long they
-- took
abbrev pub counts : Suite → List Outcome → ℕ → List (List ℕ × List ℕ)
counts suite outcomes milliseconds =
    (codes "name", suite_word suite)
    ∷ (codes "tests", decimal (length outcomes))
    ∷ (codes "failures", decimal (count_by fails_the_run outcomes))
    ∷ (codes "skipped", decimal (count_by is_skipped outcomes))
    ∷ (codes "errors", codes "0")
    ∷ (codes "time", seconds milliseconds)
    ∷ []

-- ` (LEVEL)`, where there is one
abbrev pub level_note : Option Level → List ℕ
level_note None = []
level_note (Some level) = codes " (" ++ level_word level ++ codes ")"

-- the verdict on an outcome, its level and why it isn't ok
abbrev pub plain_message : Outcome → List ℕ
plain_message outcome =
    verdict_word outcome.verdict ++ level_note outcome.level ++ codes ": " ++ cause_of outcome

-- what is said of one on the list of known failures
abbrev pub known_message : Option KnownFailure → Outcome → List ℕ
known_message None outcome = plain_message outcome
known_message (Some known) outcome = codes "known: " ++ string_bytes known.reason

-- what is said of an outcome in one line
abbrev pub message_by : Standing → Outcome → List ℕ
message_by Standing.Mended outcome = codes "no longer fails: take it off the list of known failures"
message_by Standing.Known outcome = known_message outcome.known outcome
message_by Standing.AsFound outcome = plain_message outcome

abbrev pub message_of : Outcome → List ℕ
message_of outcome = message_by (standing_of outcome) outcome

abbrev pub type_by : Standing → Verdict → List ℕ
type_by Standing.Mended verdict = codes "no longer fails"
type_by Standing.AsFound verdict = verdict_word verdict
type_by Standing.Known verdict = verdict_word verdict

-- one that fails the run, with why and what is known of it
unfoldable pub failure : Outcome → List ℕ
failure outcome =
    element (codes "failure")
    ((codes "message", xml_text (message_of outcome))
    ∷ (codes "type", type_by (standing_of outcome) outcome.verdict) ∷ [])
    (xml_text (details_of outcome))

-- one that doesn't and isn't ok
unfoldable pub skipped : Outcome → List ℕ
skipped outcome =
    empty_element (codes "skipped") ((codes "message", xml_text (message_of outcome)) ∷ [])
    ++ element (codes "system-out") [] (xml_text (details_of outcome))

abbrev pub inside : Outcome → List ℕ
inside outcome = if fails_the_run outcome then failure outcome else skipped outcome

abbrev pub case_attributes : Outcome → List (List ℕ × List ℕ)
case_attributes outcome =
    (codes "classname", suite_word outcome.suite)
    ∷ (codes "name", xml_text (titled outcome))
    ∷ (codes "time", seconds outcome.milliseconds)
    ∷ []

-- a case; one that is ok has nothing inside
abbrev pub case_element : Outcome → List ℕ
case_element outcome =
    if is_told outcome
    then element (codes "testcase") (case_attributes outcome) (inside outcome)
    else empty_element (codes "testcase") (case_attributes outcome)

unfoldable pub case_line : Outcome → List ℕ
case_line outcome = case_element outcome ++ codes "\n"

-- a suite has a case for each outcome
unfoldable pub suite_element : Suite → List Outcome → ℕ → List ℕ
suite_element suite outcomes milliseconds =
    element (codes "testsuite") (counts suite outcomes milliseconds)
    (codes "\n" ++ flat_map case_line outcomes)

-- all suites, of which there is one
unfoldable pub suites_element : Suite → List Outcome → ℕ → List ℕ
suites_element suite outcomes milliseconds =
    element (codes "testsuites") (counts suite outcomes milliseconds)
    (codes "\n" ++ suite_element suite outcomes milliseconds ++ codes "\n")

abbrev pub document : Suite → List Outcome → ℕ → List ℕ
document suite outcomes milliseconds =
    declaration ++ suites_element suite outcomes milliseconds ++ codes "\n"
