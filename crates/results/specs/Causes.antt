-- Why a case isn't ok, in one line, and in more.
use Rattle.std.specs.Prelude.{
  ℕ,
  List,
  [],
  ◌∷◌,
  ◌++◌,
  Option,
  Some,
  None,
  codes,
  option_map,
  string_bytes,
}
use Rattle.results.specs.Words.{verdict_word}
use Rattle.results.specs.declared.outcome.Outcome.{Outcome}
use Rattle.results.specs.declared.outcome.Rule.{Rule}
use Rattle.results.specs.declared.words.Verdict.{Verdict}

-- the reason where there is one, else what was wanted and what came, else the verdict's word
abbrev pub cause_by : Option (List ℕ) → Option (List ℕ) → Option (List ℕ) → Verdict → List ℕ
cause_by (Some reason) wanted came verdict = reason
cause_by None (Some wanted) (Some came) verdict =
    codes "wanted " ++ wanted ++ codes ", came " ++ came
cause_by None None (Some came) verdict = codes "came " ++ came
cause_by None (Some wanted) None verdict = codes "wanted " ++ wanted
cause_by None None None verdict = verdict_word verdict

abbrev pub cause_of : Outcome → List ℕ
cause_of outcome =
    cause_by (option_map string_bytes outcome.reason) (option_map string_bytes outcome.wanted)
    (option_map string_bytes outcome.came) outcome.verdict

-- `NAME: TEXT`, where there is a text
abbrev pub detail : List ℕ → Option (List ℕ) → List ℕ
detail name None = []
detail name (Some text) = name ++ codes ": " ++ text ++ 10 ∷ []

abbrev pub rule_details : Option Rule → List ℕ
rule_details None = []
rule_details (Some rule) =
    detail (codes "rule") (Some (string_bytes rule.place))
    ++ detail (codes "sentence") (option_map string_bytes rule.sentence)

abbrev pub details_of : Outcome → List ℕ
details_of outcome =
    detail (codes "wanted") (option_map string_bytes outcome.wanted)
    ++ detail (codes "came") (option_map string_bytes outcome.came)
    ++ detail (codes "reason") (option_map string_bytes outcome.reason)
    ++ rule_details outcome.rule
