-- What there is of each side of a connection.
use Rattle.capture.specs.declared.conversation.Side.{Side}
use Rattle.capture.specs.declared.conversation.Side.TheVariants.{Client, Server}
use Rattle.trace.specs.declared.sides.Sides.{Sides}

abbrev pub of_side : {T : Type 0} → Sides T → Side → T
of_side sides Client = sides.client
of_side sides Server = sides.server

-- both sides with another thing of one
abbrev pub with_side : {T : Type 0} → Sides T → Side → T → Sides T
with_side sides Client value = record sides { client = value }
with_side sides Server value = record sides { server = value }
