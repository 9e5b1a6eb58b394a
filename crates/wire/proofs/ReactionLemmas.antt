-- Reactions of which `Judges` says nothing.
use Rattle.std.proofs.Common.{◌≡◌, ℕ, Bool, Result, Ok, Err, IfOk, refl}
use Rattle.std.specs.Global.{Vec}
use Rattle.wire.specs.declared.fault.WireFault.{WireFault}
use Rattle.wire.specs.declared.reaction.Reaction.{Reaction}
use Rattle.wire.specs.declared.reaction.Reaction.TheVariants as reaction
use Rattle.wire.specs.declared.seen_frames.SeenFrames.{SeenFrames}
use Rattle.wire.specs.Reactions.{Judges}

unclaimed : (seen : SeenFrames) (r : Reaction) (held : Bool)
    → ((codes : Vec ℕ) → r ≡ reaction.Connection codes → ⊥)
    → ((codes : Vec ℕ) → r ≡ reaction.Goaway codes → ⊥)
    → (r ≡ reaction.Closed → ⊥)
    → ((stream : ℕ) (codes : Vec ℕ) → r ≡ reaction.Reset stream codes → ⊥)
    → ((stream : ℕ) (codes : Vec ℕ) → r ≡ reaction.Stream stream codes → ⊥)
    → ((count : ℕ) → r ≡ reaction.Acks count → ⊥) → ((most : ℕ) → r ≡ reaction.Largest most → ⊥)
    → (r ≡ reaction.Orderly → ⊥) → Judges seen r held
unclaimed seen (reaction.Connection codes) held a b c d e f g h = absurd (a codes refl)
unclaimed seen (reaction.Goaway codes) held a b c d e f g h = absurd (b codes refl)
unclaimed seen reaction.Closed held a b c d e f g h = absurd (c refl)
unclaimed seen (reaction.Reset stream codes) held a b c d e f g h = absurd (d stream codes refl)
unclaimed seen (reaction.Stream stream codes) held a b c d e f g h = absurd (e stream codes refl)
unclaimed seen (reaction.Acks count) held a b c d e f g h = absurd (f count refl)
unclaimed seen (reaction.Largest most) held a b c d e f g h = absurd (g most refl)
unclaimed seen reaction.Orderly held a b c d e f g h = absurd (h refl)
unclaimed seen other held a b c d e f g h = tt

pub unclaimed_answer : (seen : SeenFrames) (r : Reaction) (answer : Result Bool WireFault)
    → ((codes : Vec ℕ) → r ≡ reaction.Connection codes → ⊥)
    → ((codes : Vec ℕ) → r ≡ reaction.Goaway codes → ⊥)
    → (r ≡ reaction.Closed → ⊥)
    → ((stream : ℕ) (codes : Vec ℕ) → r ≡ reaction.Reset stream codes → ⊥)
    → ((stream : ℕ) (codes : Vec ℕ) → r ≡ reaction.Stream stream codes → ⊥)
    → ((count : ℕ) → r ≡ reaction.Acks count → ⊥) → ((most : ℕ) → r ≡ reaction.Largest most → ⊥)
    → (r ≡ reaction.Orderly → ⊥) → IfOk answer (Judges seen r)
unclaimed_answer seen r (Ok held) a b c d e f g h = unclaimed seen r held a b c d e f g h
unclaimed_answer seen r (Err fault) a b c d e f g h = tt
