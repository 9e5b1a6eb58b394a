-- What is printed of cases that were run.
use Rattle.std.specs.Prelude.{ℕ, Bool, List, [], ◌∷◌, ◌++◌, Result, Ok, Err, is_ok, codes}
use Rattle.std.specs.List.{list_all}
use Rattle.std.specs.Fmt.{decimal}
use Rattle.cases.specs.Faults.{code_of}
use Rattle.cases.specs.Names.{name_of}
use Rattle.cases.specs.declared.case.Case.{Case}
use Rattle.cases.specs.declared.case.Case.TheVariants.{
  EmptyUnary,
  LargeUnary,
  ClientStreaming,
  ServerStreaming,
  PingPong,
  EmptyStream,
  CustomMetadata,
  StatusCodeAndMessage,
  SpecialStatusMessage,
  UnimplementedMethod,
  UnimplementedService,
  CancelAfterBegin,
  CancelAfterFirstResponse,
  TimeoutOnSleepingServer,
  CacheableUnary,
}
use Rattle.cases.specs.declared.fault.CaseFault.{CaseFault}
use Rattle.cases.specs.declared.report.Outcome.{Outcome}

-- the fourteen cases, in the order in which they are run
abbrev pub all_cases : List Case
all_cases =
    EmptyUnary ∷ LargeUnary ∷ ClientStreaming ∷ ServerStreaming ∷ PingPong
    ∷ EmptyStream ∷ CustomMetadata
    ∷ StatusCodeAndMessage ∷ SpecialStatusMessage ∷ UnimplementedMethod ∷ UnimplementedService
    ∷ CancelAfterBegin
    ∷ CancelAfterFirstResponse ∷ TimeoutOnSleepingServer ∷ []

-- the cases that have a name: those, and one that is run by its name alone
abbrev pub known_cases : List Case
known_cases = all_cases ++ CacheableUnary ∷ []

-- ` ok`, or ` failed CODE`
abbrev pub ending_of : Result (Unit {0}) CaseFault → List ℕ
ending_of (Ok done) = codes " ok"
ending_of (Err fault) = codes " failed " ++ decimal (code_of fault)

-- `case NAME ok`, or `case NAME failed CODE`
abbrev pub line_of : List ℕ → Result (Unit {0}) CaseFault → List ℕ
line_of name answer = codes "case " ++ name ++ ending_of answer ++ 10 ∷ []

-- a line for each case that was run, in their order
abbrev pub lines_of : List Outcome → List ℕ
lines_of [] = []
lines_of (outcome ∷ outcomes) = line_of (name_of outcome.case) outcome.answer ++ lines_of outcomes

-- whether a case passed
abbrev pub has_passed : Outcome → Bool
has_passed outcome = is_ok outcome.answer

-- whether all did
abbrev pub have_passed : List Outcome → Bool
have_passed outcomes = list_all has_passed outcomes
