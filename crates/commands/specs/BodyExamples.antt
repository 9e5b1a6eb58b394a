-- Reports on the bytes of whole calls.
use Rattle.std.specs.Prelude.{◌≡◌, [], ◌∷◌, ◌++◌, codes, refl}
use Rattle.std.specs.Fmt.{digits}
use Rattle.hex.proofs.OnLiterals.{hex_on_literals}
use Rattle.lpm.specs.Messages.{announced}
use Rattle.lpm.specs.Reading.{
  front_of,
  front_of_length,
  front_of_message,
  reading_of,
  reading_within,
}
use Rattle.commands.specs.Body.{report_of}

-- an empty message and one of two bytes
pub two_messages : report_of (0 ∷ 0 ∷ 0 ∷ 0 ∷ 0 ∷ 0 ∷ 0 ∷ 0 ∷ 0 ∷ 2 ∷ 8 ∷ 1 ∷ [])
    ≡ codes "message 0 0" ++ 10 ∷ [] ++ codes "message 1 2 0801" ++ 10 ∷ []
    ++ codes "end" ++ 10 ∷ []
unfolding digits hex_on_literals announced front_of_message front_of_length front_of
    reading_within reading_of
two_messages = refl

pub no_message : report_of [] ≡ codes "end" ++ 10 ∷ []
unfolding front_of reading_within reading_of
no_message = refl

pub cut_short : report_of (0 ∷ 0 ∷ 0 ∷ 0 ∷ 3 ∷ 65 ∷ []) ≡ codes "fault 4" ++ 10 ∷ []
unfolding digits announced front_of_message front_of_length front_of reading_within reading_of
cut_short = refl

pub compressed : report_of (1 ∷ 0 ∷ 0 ∷ 0 ∷ 0 ∷ []) ≡ codes "fault 1" ++ 10 ∷ []
unfolding digits announced front_of_message front_of_length front_of reading_within reading_of
compressed = refl

pub too_long : report_of (0 ∷ 0 ∷ 64 ∷ 0 ∷ 1 ∷ []) ≡ codes "fault 3" ++ 10 ∷ []
unfolding digits announced front_of_message front_of_length front_of reading_within reading_of
too_long = refl
