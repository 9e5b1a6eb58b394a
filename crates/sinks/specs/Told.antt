-- What is printed of a case beside its own lines, whose bytes are kept, and when a run is over.
use Rattle.std.specs.Prelude.{
  ℕ,
  Bool,
  true,
  false,
  List,
  [],
  ◌∷◌,
  ◌++◌,
  Option,
  Some,
  None,
  codes,
  string_bytes,
}
use Rattle.results.specs.Standings.{standing_of}
use Rattle.results.specs.declared.known_failure.KnownFailure.{KnownFailure}
use Rattle.results.specs.declared.outcome.Outcome.{Outcome}
use Rattle.results.specs.declared.standing.Standing.{Standing}
use Rattle.results.specs.declared.words.Verdict.{Verdict}

-- the line for a standing, and for what the list of known failures says
abbrev pub line_of : Standing → Option KnownFailure → List ℕ
line_of Standing.Known (Some known) = codes "  known: " ++ string_bytes known.reason ++ 10 ∷ []
line_of Standing.Known None = []
line_of Standing.Mended known =
    codes "  no longer fails: take it off the list of known failures" ++ 10 ∷ []
line_of Standing.AsFound known = []

-- what the list of known failures has of a case, in a line, where it has something
abbrev pub standing_line : Outcome → List ℕ
standing_line outcome = line_of (standing_of outcome) outcome.known

-- the bytes of a case are kept: it isn't ok, and the server is one that it is for
abbrev pub is_saved : Verdict → Bool
is_saved Verdict.Ok = false
is_saved Verdict.Failed = true
is_saved Verdict.Unsteady = true
is_saved Verdict.NotTested = true
is_saved Verdict.NotApplicable = false
