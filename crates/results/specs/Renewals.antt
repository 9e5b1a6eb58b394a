-- The list of known failures after a run of some of the cases.
use Rattle.std.specs.Prelude.{
  ⊤,
  ℕ,
  ◌&&◌,
  ◌||◌,
  Bool,
  true,
  false,
  List,
  [],
  ◌∷◌,
  ◌++◌,
  Option,
  Some,
  None,
  if◌then◌else◌,
  codes,
  option_map,
  string_bytes,
  Contains,
}
use Rattle.std.specs.List.{filter_map, flat_map, list_any}
use Rattle.std.specs.Str.{bytes_eq}
use Rattle.results.specs.Causes.{cause_of}
use Rattle.results.specs.KnownList.{Entry, entry, names}
use Rattle.results.specs.Summaries.{same_verdict}
use Rattle.results.specs.declared.known_failure.KnownFailure.{KnownFailure}
use Rattle.results.specs.declared.outcome.Outcome.{Outcome}
use Rattle.results.specs.declared.words.Suite.{Suite}
use Rattle.results.specs.declared.words.Verdict.{Verdict}

-- whether a case may pass too, if it may fail by what was known and what came of it
abbrev pub new_listing : Suite → Verdict → Option Bool
new_listing suite Verdict.Failed = Some false
new_listing suite Verdict.Unsteady = Some true
new_listing Suite.Misbehave Verdict.NotTested = Some false
new_listing suite verdict = None

abbrev pub listing : Option KnownFailure → Suite → Verdict → Option Bool
listing None suite verdict = new_listing suite verdict
listing (Some known) suite verdict =
    if known.is_unsteady then Some true else new_listing suite verdict

-- the reason of one that is known stays
abbrev pub reason_of : Outcome → Option KnownFailure → List ℕ
reason_of outcome None = cause_of outcome
reason_of outcome (Some known) = string_bytes known.reason

-- an outcome of the case with this name, and one that is ok
abbrev pub is_of : List ℕ → Outcome → Bool
is_of name outcome = bytes_eq (string_bytes outcome.name) name

abbrev pub is_ok_of : List ℕ → Outcome → Bool
is_ok_of name outcome = is_of name outcome && same_verdict outcome.verdict Verdict.Ok

-- the entry of a case that may fail: it may pass too where another of its outcomes is ok
abbrev pub entry_after : List Outcome → Outcome → Bool → Entry
entry_after outcomes outcome is_unsteady = record {
  name = string_bytes outcome.name;
  reason = reason_of outcome outcome.known;
  is_unsteady = is_unsteady || list_any (is_ok_of (string_bytes outcome.name)) outcomes;
}

-- the entry by an outcome, where its case belongs on the list
abbrev pub failed_entry : List Outcome → Outcome → Option Entry
failed_entry outcomes outcome =
    option_map (entry_after outcomes outcome) (listing outcome.known outcome.suite outcome.verdict)

-- a known failure whose case wasn't run stays
abbrev pub unrun_entry : List Outcome → KnownFailure → Option Entry
unrun_entry outcomes known =
    if list_any (is_of (string_bytes known.name)) outcomes then None else Some (entry known)

abbrev pub is_named : List ℕ → Entry → Bool
is_named name one = bytes_eq one.name name

-- a list with one more entry, unless there is one of its name
unfoldable pub with_entry : List Entry → Entry → List Entry
with_entry list next = if list_any (is_named next.name) list then list else list ++ next ∷ []

abbrev pub with_entries : List Entry → List Entry → List Entry
with_entries list [] = list
with_entries list (next ∷ more) = with_entries (with_entry list next) more

-- the cases that were run and belong on the list, in their order, and then those that were known
-- and were not run
abbrev pub failed_entries : List Outcome → List Entry
failed_entries outcomes = with_entries [] (filter_map (failed_entry outcomes) outcomes)

unfoldable pub renewal : List KnownFailure → List Outcome → List Entry
renewal known outcomes =
    with_entries (failed_entries outcomes) (filter_map (unrun_entry outcomes) known)

-- no two have one name
abbrev pub HaveOwnNames : List Entry → Type 0
HaveOwnNames [] = ⊤
HaveOwnNames (first ∷ more) = (¬ Contains (names more) first.name) × HaveOwnNames more

-- `NAME  REASON`, or `NAME  sometimes REASON`
unfoldable pub line_of : Entry → List ℕ
line_of one =
    one.name ++ codes "  " ++ (if one.is_unsteady then codes "sometimes " else [])
    ++ one.reason ++ 10 ∷ []

-- the list has no other lines: no comments
abbrev pub list_text : List Entry → List ℕ
list_text all = flat_map line_of all
