-- What files have.
use Rattle.std.specs.Prelude.{◌≡◌, List, [], ◌∷◌}
use Rattle.capture.specs.declared.conversation.Side.{Side}
use Rattle.capture.specs.declared.conversation.Side.TheVariants as sides
use Rattle.trace.specs.declared.input.SentBytes.{SentBytes}
use Rattle.words.specs.declared.frames.Side.{Side as NamedSide}
use Rattle.words.specs.declared.frames.Side.TheVariants as named

-- the side that words name
abbrev pub side_of : NamedSide → Side
side_of named.Client = sides.Client
side_of named.Server = sides.Server

-- what the client sent, and then what the server sent
abbrev pub AreBoth : List SentBytes → Type 0
AreBoth [] = ⊥
AreBoth (first ∷ []) = ⊥
AreBoth (first ∷ second ∷ []) = (first.side ≡ sides.Client) × (second.side ≡ sides.Server)
AreBoth (first ∷ second ∷ third ∷ rest) = ⊥
