-- What `drain` prints.
use Rattle.std.specs.Prelude.{ℕ, List, [], ◌∷◌, ◌++◌, Result, codes}
use Rattle.std.specs.Fmt.{decimal}
use Rattle.cases.specs.Report.{line_of}
use Rattle.cases.specs.declared.fault.CaseFault.{CaseFault}
use Rattle.commands.specs.declared.drain.Goaway.{Goaway}

-- `goaway LAST CODE`
abbrev pub goaway_line : Goaway → List ℕ
goaway_line goaway =
    codes "goaway " ++ decimal goaway.last ++ codes " " ++ decimal goaway.code ++ 10 ∷ []

abbrev pub goaway_lines : List Goaway → List ℕ
goaway_lines [] = []
goaway_lines (goaway ∷ goaways) = goaway_line goaway ++ goaway_lines goaways

-- the GOAWAYs that came, and the line of the case
abbrev pub drain_report : List Goaway → Result (Unit {0}) CaseFault → List ℕ
drain_report goaways answer = goaway_lines goaways ++ line_of (codes "ping_pong") answer
