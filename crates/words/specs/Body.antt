-- `body --cut N`
use Rattle.std.specs.Prelude.{ℕ, List, Option, codes}
use Rattle.clap.specs.Walk.{Row}
use Rattle.clap.specs.Simple.{App, new_app, with_rule}
use Rattle.words.specs.Options.{needed, number_of, number_option}

-- N is 1 to 65,536
abbrev pub body_command : App
body_command = with_rule (new_app (codes "body")) (needed (number_option (codes "cut") 65536))

abbrev pub cut_of : List Row → Option ℕ
cut_of rows = number_of (codes "cut") 65536 rows
