-- `self [--port P]` and `drain [--port P]`: the commands that have a server of their own
use Rattle.std.specs.Prelude.{ℕ, List, Option, codes}
use Rattle.clap.specs.Walk.{Row, Text}
use Rattle.clap.specs.Simple.{App, new_app, with_rule}
use Rattle.words.specs.Options.{by_default, number_of, number_option}

-- P is 1 to 65,535, and 50,051 if it is not given
abbrev pub own_command : Text → App
own_command name = with_rule (new_app name)
    (by_default (codes "50051") (number_option (codes "port") 65535))

abbrev pub own_port_of : List Row → Option ℕ
own_port_of rows = number_of (codes "port") 65535 rows
