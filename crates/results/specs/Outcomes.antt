-- An outcome of which nothing is known but its verdict, and a case's name with its title.
use Rattle.std.specs.Prelude.{
  ◌≡◌,
  List,
  [],
  ◌++◌,
  ℕ,
  Option,
  None,
  Some,
  codes,
  option_map,
  string_bytes,
}
use Rattle.results.specs.declared.outcome.Outcome.{Outcome}
use Rattle.results.specs.declared.words.Suite.{Suite}
use Rattle.results.specs.declared.words.Verdict.{Verdict}

-- it has this name, and was tried once
pub record IsBare (kind : Suite) (text : List ℕ) (ending : Verdict)
    (outcome : Outcome) : Type 0 where
  pub suite : outcome.suite ≡ kind
  pub name : string_bytes outcome.name ≡ text
  pub title : outcome.title ≡ None
  pub verdict : outcome.verdict ≡ ending
  pub level : outcome.level ≡ None
  pub rule : outcome.rule ≡ None
  pub wanted : outcome.wanted ≡ None
  pub came : outcome.came ≡ None
  pub reason : outcome.reason ≡ None
  pub fault : outcome.fault ≡ None
  pub milliseconds : outcome.milliseconds ≡ 0
  pub tries : outcome.tries ≡ 1
  pub passed : outcome.passed ≡ 0
  pub sent : outcome.sent ≡ None
  pub read : outcome.read ≡ None
  pub sent_count : outcome.sent_count ≡ None
  pub read_count : outcome.read_count ≡ None
  pub frames : outcome.frames.items ≡ []
  pub known : outcome.known ≡ None

-- ` TITLE`, where there is one
abbrev pub title_note : Option (List ℕ) → List ℕ
title_note None = []
title_note (Some title) = codes " " ++ title

-- the name that a command line has, and what the case is about: `grpc/4 END_STREAM on HEADERS`
abbrev pub titled : Outcome → List ℕ
titled outcome = string_bytes outcome.name ++ title_note (option_map string_bytes outcome.title)
