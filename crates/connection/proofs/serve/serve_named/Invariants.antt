use Rattle.std.proofs.Common.{Some}
use Rattle.lane.specs.Ring.{in_name}
use Rattle.connection.proofs.serve.serve_named.Given as goal

-- its own ring
abbrev pub ghosts-serve_over : goal.ghosts-serve_over
ghosts-serve_over g a = record { ring = Some (in_name a.rings.orders.0) }
