-- Names of cases.
use Rattle.std.proofs.Common.{
  arith,
  ◌≡◌,
  ◌≢◌,
  ◌<◌,
  ℕ,
  List,
  Option,
  Some,
  None,
  IfNone,
  Bor,
  option_map,
  length,
}
use Rattle.std.specs.List.{AllWithin, HoldsAt}
use Rattle.std.specs.Option.{MatchOption}
use Rattle.cases.specs.Names.{IsNoName, name_of}
use Rattle.cases.specs.Report.{known_cases}
use Rattle.cases.specs.declared.case.Case.{Case}
use Rattle.cases.specs.declared.case.Case.TheVariants.{
  EmptyUnary,
  LargeUnary,
  ClientStreaming,
  ServerStreaming,
  PingPong,
  EmptyStream,
  CustomMetadata,
  StatusCodeAndMessage,
  SpecialStatusMessage,
  UnimplementedMethod,
  UnimplementedService,
  CancelAfterBegin,
  CancelAfterFirstResponse,
  TimeoutOnSleepingServer,
  CacheableUnary,
}

-- a name that none of the cases has
no_name : (name : List ℕ)
    → AllWithin (λ case. name_of case ≢ name) known_cases 0 (length known_cases) → IsNoName name
no_name name others EmptyUnary = others 0 EmptyUnary (omega arith) (omega arith)
no_name name others LargeUnary = others 1 EmptyUnary (omega arith) (omega arith)
no_name name others ClientStreaming = others 2 EmptyUnary (omega arith) (omega arith)
no_name name others ServerStreaming = others 3 EmptyUnary (omega arith) (omega arith)
no_name name others PingPong = others 4 EmptyUnary (omega arith) (omega arith)
no_name name others EmptyStream = others 5 EmptyUnary (omega arith) (omega arith)
no_name name others CustomMetadata = others 6 EmptyUnary (omega arith) (omega arith)
no_name name others StatusCodeAndMessage = others 7 EmptyUnary (omega arith) (omega arith)
no_name name others SpecialStatusMessage = others 8 EmptyUnary (omega arith) (omega arith)
no_name name others UnimplementedMethod = others 9 EmptyUnary (omega arith) (omega arith)
no_name name others UnimplementedService = others 10 EmptyUnary (omega arith) (omega arith)
no_name name others CancelAfterBegin = others 11 EmptyUnary (omega arith) (omega arith)
no_name name others CancelAfterFirstResponse = others 12 EmptyUnary (omega arith) (omega arith)
no_name name others TimeoutOnSleepingServer = others 13 EmptyUnary (omega arith) (omega arith)
no_name name others CacheableUnary = others 14 EmptyUnary (omega arith) (omega arith)

-- what was found of a name, copied
pub none_named : (name : List ℕ) (found : Option (Bor Case)) (copied : Option Case)
    → copied ≡ option_map (λ case. case.now) found
    → MatchOption found (AllWithin (λ case. name_of case ≢ name) known_cases 0 (length known_cases))
    (λ x.
    (name_of x.now ≡ name) × (i : ℕ) × (i < length known_cases)
    × HoldsAt (λ y. y ≡ x.now) known_cases i
    × AllWithin (λ case. name_of case ≢ name) known_cases 0 i)
    → IfNone copied (IsNoName name)
none_named name None copied same ran = rw same (no_name name ran)
none_named name (Some x) copied same ran = rw same tt
