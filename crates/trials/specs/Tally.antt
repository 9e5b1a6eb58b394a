-- A case that is run several times: the outcomes of its runs, and the line that reports them.
use Rattle.std.specs.Prelude.{
  ◌≡◌,
  ℕ,
  ◌+◌,
  List,
  [],
  ◌∷◌,
  ◌++◌,
  min,
  Option,
  Some,
  None,
  Result,
  Ok,
  Err,
  codes,
}
use Rattle.std.specs.Option.{option_or}
use Rattle.std.specs.Fmt.{decimal}
use Rattle.cases.specs.Faults.{code_of}
use Rattle.cases.specs.declared.fault.CaseFault.{CaseFault}
use Rattle.trials.specs.declared.tally.Tally.{Tally}

abbrev pub no_run : Tally
no_run = record { passed = 0; fault = None }

-- one more run passed, or failed, where the first fault is kept
abbrev pub Counts : Tally → Result (Unit {0}) CaseFault → Tally → Type 0
Counts before (Ok done) after = after ≡ record before { passed = min (before.passed + 1) 65535 }
Counts before (Err fault) after =
    after ≡ record before { fault = option_or before.fault (Some fault) }

-- ` ok`, or ` failed CODE`
abbrev pub ending_of : Option CaseFault → List ℕ
ending_of None = codes " ok"
ending_of (Some fault) = codes " failed " ++ decimal (code_of fault)

-- `case NAME ok`, or `case NAME failed CODE`
abbrev pub outcome_of : List ℕ → Option CaseFault → List ℕ
outcome_of name fault = codes "case " ++ name ++ ending_of fault

-- ` (PASSED of TIMES)`, and the line's end
abbrev pub count_of : ℕ → ℕ → List ℕ
count_of passed times =
    codes " (" ++ decimal passed ++ codes " of " ++ decimal times ++ codes ")" ++ 10 ∷ []

-- `case NAME ok (PASSED of TIMES)`, or `case NAME failed CODE (PASSED of TIMES)`
abbrev pub tally_line : List ℕ → Tally → ℕ → List ℕ
tally_line name tally times = outcome_of name tally.fault ++ count_of tally.passed times
