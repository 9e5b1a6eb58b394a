-- What the lines of a trace are of.
use Rattle.std.specs.Prelude.{List, ◌++◌, ℕ, map}
use Rattle.capture.specs.declared.conversation.Side.{Side}
use Rattle.capture.specs.declared.conversation.Side.TheVariants.{Client, Server}
use Rattle.trace.specs.declared.item.Item.{Item}
use Rattle.trace.specs.declared.line.Line.{Line}
use Rattle.trace.specs.declared.tracing.Trace.{Trace}
use Rattle.trace.specs.Cuts.{Cut, PendingBytes}

-- a line is of one item
abbrev pub items_of : List Line → List Item
items_of lines = map (λ (line : Line). line.item) lines

-- what waits of a side's bytes
abbrev pub pending_of : Trace → Side → PendingBytes
pending_of trace Client = trace.client
pending_of trace Server = trace.server

-- what waited and what a side sends now is in these lines, byte by byte, and then waits
abbrev pub IsTold : Trace → Trace → Side → List ℕ → List Line → Type 0
IsTold old new side bytes lines =
    Cut (pending_of old side).stage ((pending_of old side).bytes ++ bytes) (items_of lines)
    (pending_of new side).stage (pending_of new side).bytes
