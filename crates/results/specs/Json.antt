-- Outcomes as values of JSON, and their lines.
use Rattle.std.specs.Prelude.{
  ℕ,
  List,
  [],
  ◌∷◌,
  ◌++◌,
  true,
  Option,
  Some,
  None,
  codes,
  map,
  option_map,
  string_bytes,
}
use Rattle.hex.specs.Hex.{encode_lower}
use Rattle.serde_json.specs.Data.{
  Data,
  Members,
  null,
  boolean,
  number,
  unsigned,
  string,
  array,
  object,
  no_members,
  put,
}
use Rattle.serde_json.specs.View.{items_of}
use Rattle.serde_json.specs.Written.{compact_text}
use Rattle.results.specs.Standings.{fails_the_run, standing_of}
use Rattle.results.specs.Words.{level_word, suite_word, verdict_word}
use Rattle.results.specs.declared.outcome.Outcome.{Outcome}
use Rattle.results.specs.declared.outcome.Rule.{Rule}
use Rattle.results.specs.declared.standing.Standing.{Standing}
use Rattle.results.specs.declared.summary.Summary.{Summary}
use Rattle.results.specs.declared.words.Suite.{Suite}

-- a text, or null
abbrev pub text_data : Option (List ℕ) → Data
text_data None = null
text_data (Some text) = string text

abbrev pub number_data : Option ℕ → Data
number_data None = null
number_data (Some count) = number (unsigned count)

-- bytes as hexadecimal digits, or null
abbrev pub hex_data : Option (List ℕ) → Data
hex_data None = null
hex_data (Some bytes) = string (encode_lower bytes)

abbrev pub texts_data : List (List ℕ) → Data
texts_data texts = array (items_of (map string texts))

-- null where the verdict alone counts
abbrev pub standing_data : Standing → Data
standing_data Standing.AsFound = null
standing_data Standing.Known = string (codes "known")
standing_data Standing.Mended = string (codes "mended")

-- members with these too, each at its name's place in the order of names
abbrev pub with_all : List (List ℕ × Data) → Members → Members
with_all [] members = members
with_all (next ∷ more) members = with_all more (put next.0 next.1 members)

-- which case it is, and what became of it
abbrev pub subject_list : Outcome → List (List ℕ × Data)
subject_list outcome =
    (codes "suite", string (suite_word outcome.suite))
    ∷ (codes "name", string (string_bytes outcome.name))
    ∷ (codes "title", text_data (option_map string_bytes outcome.title))
    ∷ (codes "verdict", string (verdict_word outcome.verdict))
    ∷ (codes "level", text_data (option_map level_word outcome.level))
    ∷ (codes "fails", boolean (fails_the_run outcome))
    ∷ (codes "standing", standing_data (standing_of outcome))
    ∷ (codes "known", text_data (option_map (λ known. string_bytes known.reason) outcome.known))
    ∷ []

abbrev pub subject_members : Outcome → Members → Members
subject_members outcome = with_all (subject_list outcome)

abbrev pub rule_list : Option Rule → List (List ℕ × Data)
rule_list None = (codes "rule", null) ∷ (codes "sentence", null) ∷ []
rule_list (Some rule) =
    (codes "rule", string (string_bytes rule.place))
    ∷ (codes "sentence", text_data (option_map string_bytes rule.sentence))
    ∷ []

abbrev pub rule_members : Option Rule → Members → Members
rule_members rule = with_all (rule_list rule)

-- what was wanted, what came, and how long it took
abbrev pub ending_list : Outcome → List (List ℕ × Data)
ending_list outcome =
    (codes "wanted", text_data (option_map string_bytes outcome.wanted))
    ∷ (codes "came", text_data (option_map string_bytes outcome.came))
    ∷ (codes "reason", text_data (option_map string_bytes outcome.reason))
    ∷ (codes "fault", number_data outcome.fault)
    ∷ (codes "milliseconds", number_data (Some outcome.milliseconds))
    ∷ (codes "tries", number_data (Some outcome.tries))
    ∷ (codes "passed", number_data (Some outcome.passed))
    ∷ []

abbrev pub ending_members : Outcome → Members → Members
ending_members outcome = with_all (ending_list outcome)

-- what was sent and read
abbrev pub traffic_list : Outcome → List (List ℕ × Data)
traffic_list outcome =
    (codes "sent", hex_data (option_map (λ bytes. bytes.items) outcome.sent))
    ∷ (codes "read", hex_data (option_map (λ bytes. bytes.items) outcome.read))
    ∷ (codes "bytes_sent", number_data outcome.sent_count)
    ∷ (codes "bytes_read", number_data outcome.read_count)
    ∷ (codes "frames", texts_data (map string_bytes outcome.frames.items))
    ∷ []

abbrev pub traffic_members : Outcome → Members → Members
traffic_members outcome = with_all (traffic_list outcome)

-- an outcome has all of its members, whatever is known of it
abbrev pub outcome_data : Outcome → Data
outcome_data outcome =
    object (traffic_members outcome
    (ending_members outcome (rule_members outcome.rule (subject_members outcome no_members))))

abbrev pub count_members : Summary → Members → Members
count_members summary = with_all (
    (codes "cases", number_data (Some summary.cases))
    ∷ (codes "ok", number_data (Some summary.ok))
    ∷ (codes "failed", number_data (Some summary.failed))
    ∷ (codes "failed_must", number_data (Some summary.failed_must))
    ∷ (codes "failed_should", number_data (Some summary.failed_should))
    ∷ (codes "failed_ours", number_data (Some summary.failed_ours))
    ∷ (codes "unsteady", number_data (Some summary.unsteady))
    ∷ (codes "not_tested", number_data (Some summary.not_tested))
    ∷ (codes "not_applicable", number_data (Some summary.not_applicable))
    ∷ (codes "known", number_data (Some summary.known))
    ∷ (codes "mended", number_data (Some summary.mended))
    ∷ (codes "failing", number_data (Some summary.failing))
    ∷ [])

abbrev pub summary_data : Suite → Summary → ℕ → Data
summary_data suite summary milliseconds =
    object (with_all ((codes "milliseconds", number_data (Some milliseconds)) ∷ [])
    (count_members summary
    (with_all ((codes "suite", string (suite_word suite))
    ∷ (codes "summary", boolean true) ∷ []) no_members)))

-- a value's text without spaces, and a line's end
abbrev pub json_text : Data → List ℕ
json_text value = compact_text value ++ 10 ∷ []
