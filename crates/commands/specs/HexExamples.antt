-- Hexadecimal texts and what they spell.
use Rattle.std.specs.Prelude.{[], ◌∷◌, codes, refl}
use Rattle.hex.proofs.OnLiterals.{hex_on_literals}
use Rattle.commands.specs.Hex.{IsNotHex, SpellsBytes}

pub both_cases : SpellsBytes (codes "00 08fF") (0 ∷ 8 ∷ 255 ∷ [])
unfolding hex_on_literals
both_cases = refl

pub a_byte_over_lines : SpellsBytes (9 ∷ 48 ∷ 13 ∷ 10 ∷ 49 ∷ 32 ∷ []) (1 ∷ [])
unfolding hex_on_literals
a_byte_over_lines = refl

pub nothing : SpellsBytes [] []
unfolding hex_on_literals
nothing = refl

pub odd : IsNotHex (codes "00 0")
unfolding hex_on_literals
odd = refl

pub no_digit : IsNotHex (codes "0x")
unfolding hex_on_literals
no_digit = refl
